-- A source has a cut.
use Rattle.std.proofs.Common.{◌≡◌, ◌<◌, ◌≤◌, ◌⊎◌, ℕ, zero, suc, ◌+◌, ◌-◌, Bool, true, cond, ◌==◌, List, [], ◌∷◌, ◌++◌, length, drop, refl, ap, sym, subst, arith, nat_lt, length-append, length-drop}
use Rattle.std.proofs.lemmas.Grind.{common_steps}
use Rattle.std.proofs.lemmas.List.{length-take}
use Rattle.std.proofs.lemmas.List.Sums.{prefix_len-le-length}
use mathlib.Core.Logic.{inl, inr}
use Rattle.std.specs.List.{prefix_len}
use Rattle.sw_lex.specs.declared.bytes.Class.TheVariants as class
use Rattle.sw_lex.specs.declared.token.TokenKind.{TokenKind}
use Rattle.sw_lex.specs.declared.lexemes.Lexeme.{Lexeme}
use Rattle.sw_lex.specs.declared.lexemes.Lexeme.TheVariants.{End, Gap, Token, Malformed, Unterminated}
use Rattle.sw_lex.specs.Bytes.{Text, is_in}
use Rattle.sw_lex.specs.Tables.{Table, IsListed, marks}
use Rattle.sw_lex.specs.Strings.{bytes_of}
use Rattle.sw_lex.specs.Comments.{Closes, ends, passes, nests}
use Rattle.sw_lex.specs.Lexemes.{BeginsWith, HasForm, IsBlockComment, IsLineComment, IsMark, IsStop, IsString, first, opening, second, size_of}
use Rattle.sw_lex.specs.Cut.{Opens, Cut, after, closes, is_inside, total}
use Rattle.sw_lex.specs.Matching.{first_lexeme, has_no_empty}
use Rattle.sw_lex.proofs.PieceLemmas.{both, equal}
use Rattle.sw_lex.proofs.MarkLemmas.{prefix_is}
use Rattle.sw_lex.proofs.MatchingLemmas.{reads}

-- so many bytes are some of these
abbrev Fits : Text → ℕ → Type 0
Fits z size = (0 < size) × (size ≤ length z)

-- ---- runs

run_some : (p : ℕ → Bool) (z : Text) → 0 < length z → p (first z) ≡ true → 0 < prefix_len p z
run_some p [] l h = absurd (omega (arith, l))
run_some p (b ∷ z) l h = subst (λ (t : Bool). 0 < cond t (1 + prefix_len p z) 0) (sym h) (omega arith)

run_fits : (p : ℕ → Bool) (z : Text) (size : ℕ) → size ≡ prefix_len p z → 0 < length z → p (first z) ≡ true → Fits z size
run_fits p z size e l h = (omega (arith, e, run_some p z l h), omega (arith, e, prefix_len-le-length p z))

start_name : (byte : ℕ) → is_in class.NameStart byte ≡ true → is_in class.Name byte ≡ true
start_name byte h = grind (arith, common_steps)

digit_integer : (byte : ℕ) → is_in class.Digit byte ≡ true → is_in class.Integer byte ≡ true
digit_integer byte h = grind (arith, common_steps)

name_some : (z : Text) → is_in class.NameStart (first z) ≡ true → 0 < length z
name_some [] h = absurd (cc)
name_some (b ∷ z) h = omega arith

digit_some : (z : Text) → is_in class.Digit (first z) ≡ true → 0 < length z
digit_some [] h = absurd (cc)
digit_some (b ∷ z) h = omega arith

space_some : (z : Text) → is_in class.Space (first z) ≡ true → 0 < length z
space_some [] h = absurd (cc)
space_some (b ∷ z) h = omega arith

line_fits : (z : Text) (size : ℕ) → IsLineComment z size → Fits z size
line_fits [] size h = absurd (let two = both (0 == 47) (0 == 47) h.0 in cc)
line_fits (b ∷ z) size h =
    let slash : b ≡ 47 = equal b 47 (both (b == 47) (second (b ∷ z) == 47) h.0).0 in
    run_fits (is_in class.Line) (b ∷ z) size h.1 (omega arith) (ap (is_in class.Line) slash)

-- ---- comments

closes_shorter : {z rest : Text} → Closes z rest → length rest < length z
closes_shorter ends = omega arith
closes_shorter (passes e h) = omega (arith, closes_shorter h)
closes_shorter (nests h k) = omega (arith, closes_shorter h, closes_shorter k)

block_fits : (inside : Bool) (z : Text) (size : ℕ) → IsBlockComment inside z size → Fits z size
block_fits inside z size h = (omega (arith, h.4, ap length h.2, closes_shorter h.3), omega (arith, h.4))

-- ---- strings

string_fits : (mark valid : ℕ) (closing z : Text) (size : ℕ) → IsString mark closing valid z size → Fits z size
string_fits mark valid closing z size h = (
  omega (arith, h.4),
  omega (arith, h.4, ap length h.2, length-append (bytes_of h.0) (closing ++ h.1), length-append closing h.1),
)

-- ---- marks

marks_some : has_no_empty marks ≡ true
unfolding marks
marks_some = refl

listed_some : (table : Table) (text : Text) (kind : TokenKind) → has_no_empty table ≡ true → IsListed table text kind → 0 < length text
listed_some [] text kind h l = absurd l
listed_some (entry ∷ table) text kind h (inl l) = some (length entry.0) (length text) (ap length l.0) (both (nat_lt 0 (length entry.0)) (has_no_empty table) h).0
  where
    some : (n m : ℕ) → n ≡ m → nat_lt 0 n ≡ true → 0 < m
    some n m e h = let l : 0 < n = grind (arith, common_steps) in omega (arith, e)
listed_some (entry ∷ table) text kind h (inr l) = listed_some table text kind (both (nat_lt 0 (length entry.0)) (has_no_empty table) h).1 l

mark_fits : (closing : Bool) (z : Text) (kind : TokenKind) (size : ℕ) → IsMark closing z kind size → Fits z size
mark_fits closing z kind size h = (
  omega (arith, h.3, listed_some marks h.0 kind marks_some h.1),
  omega (arith, h.3, ap length (prefix_is h.0 z h.2), length-take (length h.0) z),
)

-- ---- all of them

form_fits : (inside closing : Bool) (valid : ℕ) (z : Text) (item : Lexeme) → HasForm inside closing valid z item → IsStop item ⊎ Fits z (size_of item)
form_fits inside closing valid z End h = inl tt
form_fits inside closing valid z (Gap size) (inl h) = inr (omega (arith, h.0), omega (arith, h.0, space_some z h.2))
form_fits inside closing valid z (Gap size) (inr (inl h)) = inr (line_fits z size h)
form_fits inside closing valid z (Gap size) (inr (inr h)) = inr (block_fits inside z size h)
form_fits inside closing valid z (Token kind size) (inl h) = inr (run_fits (is_in class.Name) z size h.1 (name_some z h.0) (start_name (first z) h.0))
form_fits inside closing valid z (Token kind size) (inr (inl h)) = inr (run_fits (is_in class.Integer) z size h.1 (digit_some z h.0) (digit_integer (first z) h.0))
form_fits inside closing valid z (Token kind size) (inr (inr (inl (h, inl s)))) = inr (string_fits 34 valid (34 ∷ []) z size s.1)
form_fits inside closing valid z (Token kind size) (inr (inr (inl (h, inr s)))) = inr (string_fits 34 valid opening z size s.1)
form_fits inside closing valid z (Token kind size) (inr (inr (inr (inl (c, inl s))))) = inr (string_fits 41 valid (34 ∷ []) z size s.1)
form_fits inside closing valid z (Token kind size) (inr (inr (inr (inl (c, inr s))))) = inr (string_fits 41 valid opening z size s.1)
form_fits inside closing valid z (Token kind size) (inr (inr (inr (inr h)))) = inr (mark_fits closing z kind size h)
form_fits inside closing valid z Malformed h = inl tt
form_fits inside closing valid z Unterminated h = inl tt

item_fits : (inside closing : Bool) (valid : ℕ) (z : Text) (item : Lexeme) → BeginsWith inside closing valid z item → IsStop item ⊎ Fits z (size_of item)
item_fits inside closing valid z End h = inl tt
item_fits inside closing valid z (Gap size) h = form_fits inside closing valid z (Gap size) h
item_fits inside closing valid z (Token kind size) h = form_fits inside closing valid z (Token kind size) h
item_fits inside closing valid z Malformed h = inl tt
item_fits inside closing valid z Unterminated h = inl tt

-- a cut of these bytes
pub record SomeCut (opens : Opens) (valid : ℕ) (z : Text) : Type 0 where
  pub items : List Lexeme
  pub stop : Lexeme
  pub cut : Cut opens valid z items stop
  pub within : total items ≤ length z

stopped : (opens : Opens) (valid : ℕ) (z : Text) (stop : Lexeme) → BeginsWith (is_inside opens) (closes opens) valid z stop → IsStop stop → SomeCut opens valid z
stopped opens valid z stop h s = record { items = []; stop = stop; cut = (h, s); within = omega arith }

one_more : (opens : Opens) (valid : ℕ) (z : Text) (item : Lexeme) → BeginsWith (is_inside opens) (closes opens) valid z item → Fits z (size_of item)
    → SomeCut (after opens item) (valid - size_of item) (drop (size_of item) z) → SomeCut opens valid z
one_more opens valid z item h f rest = record {
  items = item ∷ rest.items;
  stop = rest.stop;
  cut = (h, f.0, rest.cut);
  within = omega (arith, rest.within, f.1, length-drop (size_of item) z);
}

cut_up_to : (n : ℕ) (opens : Opens) (valid : ℕ) (z : Text) → length z ≤ n → SomeCut opens valid z
cut_up_to zero opens valid z l =
    let item : Lexeme = first_lexeme (is_inside opens) (closes opens) valid z in
    let begun = reads (is_inside opens) (closes opens) valid z in
    elim (item_fits (is_inside opens) (closes opens) valid z _ begun) [ inl s ↦ stopped opens valid z _ begun s | inr f ↦ absurd (omega (arith, f.0, f.1, l)) ]
cut_up_to (suc n) opens valid z l =
    let begun = reads (is_inside opens) (closes opens) valid z in
    elim (item_fits (is_inside opens) (closes opens) valid z _ begun) [
      | inl s ↦ stopped opens valid z _ begun s
      | inr f ↦ one_more opens valid z _ begun f (cut_up_to n (after opens (first_lexeme (is_inside opens) (closes opens) valid z)) (valid - size_of (first_lexeme (is_inside opens) (closes opens) valid z)) (drop (size_of (first_lexeme (is_inside opens) (closes opens) valid z)) z)
          (omega (arith, l, f.0, f.1, length-drop (size_of (first_lexeme (is_inside opens) (closes opens) valid z)) z)))
    ]

-- the bytes have a cut
pub some_cut : (opens : Opens) (valid : ℕ) (z : Text) → SomeCut opens valid z
some_cut opens valid z = cut_up_to (length z) opens valid z (omega arith)
