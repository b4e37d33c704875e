-- The integers of a source that breaks no rule of tokens are at most the greatest.
use Rattle.std.proofs.Common.{◌≡◌, ◌≤◌, ◌<◌, ℕ, zero, suc, ◌-◌, Bool, true, false, nat_lt, List, [], ◌∷◌, ◌++◌, Some, slice_get, take, drop, refl, sym, ap, ◌∙◌, subst, arith}
use Rattle.std.proofs.lemmas.Grind.{common_steps}
use Rattle.std.proofs.lemmas.List.{drop-drop}
use Rattle.sw_base.specs.declared.ids.Span.{Span}
use Rattle.sw_base.specs.Limits.{greatest_integer}
use Rattle.sw_rules.specs.declared.Rule.TheVariants.{L4}
use Rattle.sw_lex.specs.declared.token.TokenKind.{TokenKind}
use Rattle.sw_lex.specs.declared.token.TokenKind.TheVariants as k
use Rattle.sw_lex.specs.declared.token.Token.{Token as SourceToken}
use Rattle.sw_lex.specs.declared.lexemes.Lexeme.{Lexeme}
use Rattle.sw_lex.specs.declared.lexemes.Lexeme.TheVariants.{End, Gap, Token, Malformed, Unterminated}
use Rattle.sw_lex.specs.declared.emit.Here.{Here}
use Rattle.sw_lex.specs.Bytes.{Text}
use Rattle.sw_lex.specs.Lexemes.{size_of}
use Rattle.sw_lex.specs.Cut.{total}
use Rattle.sw_lex.specs.Tokens.{IsTextOf, token_at, here_after, AreTokens, end_place, place_at, start, CutsInto}
use Rattle.sw_lex.specs.Rules.{number, BreaksNone}
use Rattle.sw_lex.specs.Lexing.{IntegerFits, IntegersFit}

-- each integer among them, of these bytes, is at most the greatest
abbrev Fit : Text → List Lexeme → Type 0
Fit bytes items = (before following : List Lexeme) (size : ℕ) → items ≡ before ++ Token k.Integer size ∷ following → number 0 (take size (drop (total before) bytes)) ≤ greatest_integer

at_most : (n : ℕ) → (greatest_integer < n → ⊥) → n ≤ greatest_integer
at_most n h = go (nat_lt greatest_integer n) refl
  where
    go : (t : Bool) → nat_lt greatest_integer n ≡ t → n ≤ greatest_integer
    go true e = absurd (h (grind (arith, common_steps)))
    go false e = grind (arith, common_steps)

-- after the first of them
later : (bytes : Text) (item : Lexeme) (items : List Lexeme) → Fit bytes (item ∷ items) → Fit (drop (size_of item) bytes) items
later bytes item items fit before following size e =
    subst (λ l. number 0 (take size l) ≤ greatest_integer) (sym (drop-drop (total before) (size_of item) bytes)) (fit (item ∷ before) following size (ap (λ l. item ∷ l) e))

no_integer : k.End ≡ k.Integer → ⊥
no_integer e = cc

text_fits : (kind : TokenKind) (size valid : ℕ) (bytes text : Text) (items : List Lexeme) → Fit bytes (Token kind size ∷ items) → IsTextOf kind valid (take size bytes) text → kind ≡ k.Integer → number 0 text ≤ greatest_integer
text_fits kind size valid bytes text items fit is same = subst (λ kind. Fit bytes (Token kind size ∷ items) → IsTextOf kind valid (take size bytes) text → number 0 text ≤ greatest_integer) (sym same)
    (λ fit is. subst (λ text. number 0 text ≤ greatest_integer) (sym is) (fit [] items size refl)) fit is

tokens_fit : (end : Span) (here : Here) (valid : ℕ) (bytes : Text) (items : List Lexeme) (tokens : List SourceToken) → Fit bytes items → AreTokens end here valid bytes items tokens → IntegersFit tokens
tokens_fit end here valid bytes [] tokens fit are = subst IntegersFit (sym are) ((λ e. absurd (no_integer e)), tt)
tokens_fit end here valid bytes (Token kind size ∷ items) tokens fit (text, following, e, is, are) =
    subst IntegersFit (sym e) (
      text_fits kind size valid bytes text items fit is,
      tokens_fit end (here_after here bytes (Token kind size)) (valid - size) (drop size bytes) items following (later bytes (Token kind size) items fit) are,
    )
tokens_fit end here valid bytes (Gap size ∷ items) tokens fit are = tokens_fit end (here_after here bytes (Gap size)) (valid - size) (drop size bytes) items tokens (later bytes (Gap size) items fit) are
tokens_fit end here valid bytes (End ∷ items) tokens fit are = tokens_fit end here (valid - 0) (drop 0 bytes) items tokens (later bytes End items fit) are
tokens_fit end here valid bytes (Malformed ∷ items) tokens fit are = tokens_fit end here (valid - 0) (drop 0 bytes) items tokens (later bytes Malformed items fit) are
tokens_fit end here valid bytes (Unterminated ∷ items) tokens fit are = tokens_fit end here (valid - 0) (drop 0 bytes) items tokens (later bytes Unterminated items fit) are

pub integers_fit : (source : Text) (tokens : List SourceToken) → CutsInto source tokens → BreaksNone source → IntegersFit tokens
integers_fit source tokens cut none =
    tokens_fit (end_place source) start cut.whole.valid source cut.whole.items tokens
    (λ before following size e. at_most (number 0 (take size (drop (total before) source)))
    (λ h. none (record { rule = L4; span = place_at source (total before) }) (total before, (cut.whole, size, record { before = before; following = following; split = e; ends = refl }, h), refl)))
    cut.same

-- ---- a token of a list

some_same : (x y : SourceToken) → Some x ≡ Some y → x ≡ y
some_same x y e = cc

pub fits_at : (tokens : List SourceToken) (at : ℕ) (token : SourceToken) → IntegersFit tokens → slice_get tokens at ≡ Some token → IntegerFits token
fits_at [] at token h p = absurd (cc)
fits_at (x ∷ xs) zero token h p = subst IntegerFits (some_same x token p) h.0
fits_at (x ∷ xs) (suc at) token h p = fits_at xs at token h.1 p
