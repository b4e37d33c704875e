-- Reserved words, a lone `_` and marks are words of their kinds, as they are spelt.
use Rattle.std.proofs.Common.{◌≡◌, ◌<◌, ℕ, zero, suc, Option, Some, None, [], ◌∷◌, length, refl, ap, arith}
use mathlib.Core.Logic.{inl, inr}
use Rattle.sw_lex.specs.declared.token.TokenKind.{TokenKind}
use Rattle.sw_lex.specs.declared.token.TokenKind.TheVariants as k
use Rattle.sw_lex.specs.Bytes.{Text}
use Rattle.sw_lex.specs.Tables.{Table, words, marks, IsListed}
use Rattle.sw_layout.specs.Words.{fixed}
use Rattle.sw_layout.specs.Layouts.{Fits}

-- the entry of a table by its place
abbrev entry_at : ℕ → Table → Option (Text × TokenKind)
entry_at n [] = None
entry_at zero (entry ∷ table) = Some entry
entry_at (suc n) (entry ∷ table) = entry_at n table

listed_at : (n : ℕ) (table : Table) (text : Text) (kind : TokenKind) → entry_at n table ≡ Some (text, kind) → IsListed table text kind
listed_at n [] text kind e = absurd (cc)
listed_at zero (entry ∷ table) text kind e = let same : entry ≡ (text, kind) = cc in inl (ap (λ (x : Text × TokenKind). x.0) same, ap (λ (x : Text × TokenKind). x.1) same)
listed_at (suc n) (entry ∷ table) text kind e = inr (listed_at n table text kind e)

pub fixed_fits : (kind : TokenKind) → 0 < length (fixed kind) → Fits kind (fixed kind)
unfolding words marks
fixed_fits k.Name some = absurd (omega arith)
fixed_fits k.Integer some = absurd (omega arith)
fixed_fits k.StringWhole some = absurd (omega arith)
fixed_fits k.StringStart some = absurd (omega arith)
fixed_fits k.StringMiddle some = absurd (omega arith)
fixed_fits k.StringLast some = absurd (omega arith)
fixed_fits k.End some = absurd (omega arith)
fixed_fits k.HalfOpenRange some = inr (listed_at 0 marks (fixed k.HalfOpenRange) k.HalfOpenRange refl)
fixed_fits k.Ellipsis some = inr (listed_at 1 marks (fixed k.Ellipsis) k.Ellipsis refl)
fixed_fits k.Arrow some = inr (listed_at 2 marks (fixed k.Arrow) k.Arrow refl)
fixed_fits k.EqualEqual some = inr (listed_at 3 marks (fixed k.EqualEqual) k.EqualEqual refl)
fixed_fits k.NotEqual some = inr (listed_at 4 marks (fixed k.NotEqual) k.NotEqual refl)
fixed_fits k.LessEqual some = inr (listed_at 5 marks (fixed k.LessEqual) k.LessEqual refl)
fixed_fits k.GreaterEqual some = inr (listed_at 6 marks (fixed k.GreaterEqual) k.GreaterEqual refl)
fixed_fits k.And some = inr (listed_at 7 marks (fixed k.And) k.And refl)
fixed_fits k.Or some = inr (listed_at 8 marks (fixed k.Or) k.Or refl)
fixed_fits k.Coalesce some = inr (listed_at 9 marks (fixed k.Coalesce) k.Coalesce refl)
fixed_fits k.PlusAssign some = inr (listed_at 10 marks (fixed k.PlusAssign) k.PlusAssign refl)
fixed_fits k.MinusAssign some = inr (listed_at 11 marks (fixed k.MinusAssign) k.MinusAssign refl)
fixed_fits k.StarAssign some = inr (listed_at 12 marks (fixed k.StarAssign) k.StarAssign refl)
fixed_fits k.SlashAssign some = inr (listed_at 13 marks (fixed k.SlashAssign) k.SlashAssign refl)
fixed_fits k.PercentAssign some = inr (listed_at 14 marks (fixed k.PercentAssign) k.PercentAssign refl)
fixed_fits k.LeftParen some = inr (listed_at 15 marks (fixed k.LeftParen) k.LeftParen refl)
fixed_fits k.RightParen some = inr (listed_at 16 marks (fixed k.RightParen) k.RightParen refl)
fixed_fits k.LeftBracket some = inr (listed_at 17 marks (fixed k.LeftBracket) k.LeftBracket refl)
fixed_fits k.RightBracket some = inr (listed_at 18 marks (fixed k.RightBracket) k.RightBracket refl)
fixed_fits k.LeftBrace some = inr (listed_at 19 marks (fixed k.LeftBrace) k.LeftBrace refl)
fixed_fits k.RightBrace some = inr (listed_at 20 marks (fixed k.RightBrace) k.RightBrace refl)
fixed_fits k.Comma some = inr (listed_at 21 marks (fixed k.Comma) k.Comma refl)
fixed_fits k.Colon some = inr (listed_at 22 marks (fixed k.Colon) k.Colon refl)
fixed_fits k.Semicolon some = inr (listed_at 23 marks (fixed k.Semicolon) k.Semicolon refl)
fixed_fits k.Dot some = inr (listed_at 24 marks (fixed k.Dot) k.Dot refl)
fixed_fits k.Assign some = inr (listed_at 25 marks (fixed k.Assign) k.Assign refl)
fixed_fits k.Plus some = inr (listed_at 26 marks (fixed k.Plus) k.Plus refl)
fixed_fits k.Minus some = inr (listed_at 27 marks (fixed k.Minus) k.Minus refl)
fixed_fits k.Star some = inr (listed_at 28 marks (fixed k.Star) k.Star refl)
fixed_fits k.Slash some = inr (listed_at 29 marks (fixed k.Slash) k.Slash refl)
fixed_fits k.Percent some = inr (listed_at 30 marks (fixed k.Percent) k.Percent refl)
fixed_fits k.Less some = inr (listed_at 31 marks (fixed k.Less) k.Less refl)
fixed_fits k.Greater some = inr (listed_at 32 marks (fixed k.Greater) k.Greater refl)
fixed_fits k.Bang some = inr (listed_at 33 marks (fixed k.Bang) k.Bang refl)
fixed_fits k.Question some = inr (listed_at 34 marks (fixed k.Question) k.Question refl)
fixed_fits kind some = inl (refl, refl, refl)
