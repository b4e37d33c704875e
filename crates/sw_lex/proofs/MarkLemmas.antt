-- The mark that the code reads is the longest of the table.
use Rattle.std.proofs.Common.{◌≡◌, ◌<◌, ◌≤◌, ℕ, suc, ◌==◌, Bool, true, false, cond, not, ◌&&◌, [], ◌∷◌, length, take, refl, ap, sym, ◌∙◌, subst, arith, nat_lt, nat_le}
use Rattle.std.proofs.lemmas.Grind.{common_steps}
use mathlib.Core.Logic.{inl, inr}
use Rattle.std.specs.Prelude.{slice_index}
use Rattle.std.specs.Cmp.Lexicographic.{same_text}
use Rattle.sw_lex.specs.declared.bytes.Class.TheVariants as class
use Rattle.sw_lex.specs.declared.token.TokenKind.{TokenKind}
use Rattle.sw_lex.specs.declared.lexemes.Lexeme.{Lexeme}
use Rattle.sw_lex.specs.declared.lexemes.Lexeme.TheVariants.{End, Gap, Token, Malformed, Unterminated}
use Rattle.sw_lex.specs.Bytes.{Text, is_in}
use Rattle.sw_lex.specs.Tables.{Table, marks, kind_in, is_prefix_of, IsListed}
use Rattle.sw_lex.specs.Matching.{first_mark, mark}
use Rattle.sw_lex.proofs.PieceLemmas.{both}

-- ---- the table

-- no mark is longer than those before it
abbrev falling : ℕ → Table → Bool
falling most [] = true
falling most (entry ∷ table) = nat_le (length entry.0) most && falling (length entry.0) table

-- a mark's first byte
abbrev pub starts_mark : ℕ → Bool
starts_mark byte = not (is_in class.Space byte) && not (is_in class.NameStart byte) && not (is_in class.Digit byte) && not (byte == 34)

abbrev all_start : Table → Bool
all_start [] = true
all_start (entry ∷ table) = starts_mark (slice_index entry.0 0) && (nat_lt 0 (length entry.0) && all_start table)

-- of a text the table has one kind
abbrev Agrees : Table → Type 0
Agrees [] = Unit {0}
Agrees (entry ∷ table) = (kind_in marks entry.0 ≡ entry.1) × Agrees table

marks_fall : falling 3 marks ≡ true
unfolding marks
marks_fall = refl

marks_start : all_start marks ≡ true
unfolding marks
marks_start = refl

marks_agree : Agrees marks
unfolding marks
marks_agree = (refl, (refl, (refl, (refl, (refl, (refl, (refl, (refl, (refl, (refl, (refl, (refl, (refl, (refl, (refl, (refl, (refl, (refl, (refl, (refl, (refl, (refl, (refl, (refl, (refl, (refl, (refl, (refl, (refl, (refl, (refl, (refl, (refl, (refl, (refl, tt)))))))))))))))))))))))))))))))))))

listed_kind : (table : Table) (text : Text) (kind : TokenKind) → Agrees table → IsListed table text kind → kind_in marks text ≡ kind
listed_kind [] text kind a l = absurd l
listed_kind (entry ∷ table) text kind a (inl l) = ap (kind_in marks) (sym l.0) ∙ a.0 ∙ l.1
listed_kind (entry ∷ table) text kind a (inr l) = listed_kind table text kind a.1 l

listed_start : (table : Table) (text : Text) (kind : TokenKind) → all_start table ≡ true → IsListed table text kind → (starts_mark (slice_index text 0) ≡ true) × (0 < length text)
listed_start [] text kind a l = absurd l
listed_start (entry ∷ table) text kind a (inl l) =
    let parts = both (starts_mark (slice_index entry.0 0)) (nat_lt 0 (length entry.0) && all_start table) a in
    let some = both (nat_lt 0 (length entry.0)) (all_start table) parts.1 in
    let first : nat_lt 0 (length entry.0) ≡ true = some.0 in
    let long : 0 < length entry.0 = grind (arith, common_steps) in
    (ap (λ (u : Text). starts_mark (slice_index u 0)) (sym l.0) ∙ parts.0, subst (λ (u : Text). 0 < length u) l.0 long)
listed_start (entry ∷ table) text kind a (inr l) =
    let parts = both (starts_mark (slice_index entry.0 0)) (nat_lt 0 (length entry.0) && all_start table) a in
    let some = both (nat_lt 0 (length entry.0)) (all_start table) parts.1 in
    listed_start table text kind some.1 l

-- ---- what the code reads is the longest mark

abbrev pub MarkFact : Table → Text → Lexeme → Type 0
MarkFact table bytes (Token kind size) =
    (text : Text)
    × IsListed table text kind
    × (is_prefix_of text bytes ≡ true)
    × (size ≡ length text)
    × ((other : Text) (its : TokenKind) → IsListed table other its → is_prefix_of other bytes ≡ true → length other ≤ size)
MarkFact table bytes Malformed = (other : Text) (its : TokenKind) → IsListed table other its → is_prefix_of other bytes ≡ true → ⊥
MarkFact table bytes lexeme = ⊥

falls : (most : ℕ) (entry : Text × TokenKind) (table : Table) → falling most (entry ∷ table) ≡ true → (length entry.0 ≤ most) × (falling (length entry.0) table ≡ true)
falls most entry table h =
    let two = both (nat_le (length entry.0) most) (falling (length entry.0) table) h in
    let first : nat_le (length entry.0) most ≡ true = two.0 in
    let least : length entry.0 ≤ most = grind (arith, common_steps) in
    (least, two.1)

bounded : (most : ℕ) (table : Table) (text : Text) (kind : TokenKind) → falling most table ≡ true → IsListed table text kind → length text ≤ most
bounded most [] text kind h l = absurd l
bounded most (entry ∷ table) text kind h (inl l) = subst (λ (u : Text). length u ≤ most) l.0 (falls most entry table h).0
bounded most (entry ∷ table) text kind h (inr l) = let f = falls most entry table h in omega (arith, f.0, bounded (length entry.0) table text kind f.1 l)

here : (most : ℕ) (entry : Text × TokenKind) (table : Table) (bytes : Text) → falling most (entry ∷ table) ≡ true → is_prefix_of entry.0 bytes ≡ true → MarkFact (entry ∷ table) bytes (Token entry.1 (length entry.0))
here most entry table bytes h e = (
  entry.0,
  inl (refl, refl),
  e,
  refl,
  λ other its l b. elim l [
    | inl p ↦ subst (λ (u : Text). length u ≤ length entry.0) p.0 (omega arith)
    | inr p ↦ bounded (length entry.0) table other its (falls most entry table h).1 p
  ],
)

not_here : (entry : Text × TokenKind) (bytes other : Text) → is_prefix_of entry.0 bytes ≡ false → entry.0 ≡ other → is_prefix_of other bytes ≡ true → ⊥
not_here entry bytes other e p b = let f : is_prefix_of entry.0 bytes ≡ is_prefix_of other bytes = ap (λ (u : Text). is_prefix_of u bytes) p in cc

later : (entry : Text × TokenKind) (table : Table) (bytes : Text) (it : Lexeme) → is_prefix_of entry.0 bytes ≡ false → MarkFact table bytes it → MarkFact (entry ∷ table) bytes it
later entry table bytes (Token kind size) e f = (
  f.0,
  inr f.1,
  f.2,
  f.3,
  λ other its l b. elim l [ inl p ↦ absurd (not_here entry bytes other e p.0 b) | inr p ↦ f.4 other its p b ],
)
later entry table bytes Malformed e f = λ other its l b. elim l [ inl p ↦ not_here entry bytes other e p.0 b | inr p ↦ f other its p b ]
later entry table bytes End e f = f
later entry table bytes (Gap size) e f = f
later entry table bytes Unterminated e f = f

marked : (most : ℕ) (table : Table) (bytes : Text) → falling most table ≡ true → MarkFact table bytes (first_mark table bytes)
marked most [] bytes h = λ other its l b. l
marked most (entry ∷ table) bytes h = go (is_prefix_of entry.0 bytes) refl (marked (length entry.0) table bytes (falls most entry table h).1)
  where
    go : (t : Bool) → is_prefix_of entry.0 bytes ≡ t → MarkFact table bytes (first_mark table bytes) → MarkFact (entry ∷ table) bytes (cond t (Token entry.1 (length entry.0)) (first_mark table bytes))
    go true e f = here most entry table bytes h e
    go false e f = later entry table bytes (first_mark table bytes) e f

pub mark_fact : (bytes : Text) → MarkFact marks bytes (mark bytes)
mark_fact bytes = marked 3 marks bytes marks_fall

-- ---- the longest mark is read by the code

pub prefix_is : (text bytes : Text) → is_prefix_of text bytes ≡ true → take (length text) bytes ≡ text
prefix_is text bytes h = same_text (take (length text) bytes) text (sym h)

one_prefix : (a b bytes : Text) → is_prefix_of a bytes ≡ true → is_prefix_of b bytes ≡ true → length a ≡ length b → a ≡ b
one_prefix a b bytes h k e = sym (prefix_is a bytes h) ∙ ap (λ n. take n bytes) e ∙ prefix_is b bytes k

pub mark_read : (bytes text : Text) (kind : TokenKind) → IsListed marks text kind → is_prefix_of text bytes ≡ true
    → ((other : Text) (its : TokenKind) → IsListed marks other its → is_prefix_of other bytes ≡ true → length other ≤ length text)
    → mark bytes ≡ Token kind (length text)
mark_read bytes text kind l b longest = go (mark bytes) (mark_fact bytes)
  where
    go : (it : Lexeme) → MarkFact marks bytes it → it ≡ Token kind (length text)
    go (Token its size) f =
        let least : length text ≤ size = f.4 text kind l b in
        let most : length f.0 ≤ length text = longest f.0 its f.1 f.2 in
        let sizes : length f.0 ≡ length text = omega (arith, least, most, f.3) in
        let texts : f.0 ≡ text = one_prefix f.0 text bytes f.2 b sizes in
        let kinds : its ≡ kind = sym (listed_kind marks f.0 its marks_agree f.1) ∙ ap (kind_in marks) texts ∙ listed_kind marks text kind marks_agree l in
        let size_is : size ≡ length text = f.3 ∙ sizes in
        ap (λ t. Token t size) kinds ∙ ap (λ n. Token kind n) size_is
    go Malformed f = absurd (f text kind l b)
    go End f = absurd f
    go (Gap size) f = absurd f
    go Unterminated f = absurd f

first_same : (text bytes : Text) → 0 < length text → take (length text) bytes ≡ text → (slice_index bytes 0 ≡ slice_index text 0) × (0 < length bytes)
first_same [] bytes h e = absurd (omega arith)
first_same (t ∷ ts) [] h e = let len : length (t ∷ ts) ≡ suc (length ts) = omega arith in
    let none : [] ≡ t ∷ ts = ap (λ n. take {A = ℕ} n []) (sym len) ∙ e in absurd (cc)
first_same (t ∷ ts) (b ∷ bs) h e = let len : length (t ∷ ts) ≡ suc (length ts) = omega arith in
    let some : b ∷ take (length ts) bs ≡ t ∷ ts = ap (λ n. take n (b ∷ bs)) (sym len) ∙ e in (ap (λ (u : Text). slice_index u 0) some, omega arith)

pub mark_first : (bytes text : Text) (kind : TokenKind) → IsListed marks text kind → is_prefix_of text bytes ≡ true → (starts_mark (slice_index bytes 0) ≡ true) × (0 < length bytes)
mark_first bytes text kind l b =
    let start = listed_start marks text kind marks_start l in
    let same = first_same text bytes start.1 (prefix_is text bytes b) in
    (ap starts_mark same.0 ∙ start.0, same.1)
