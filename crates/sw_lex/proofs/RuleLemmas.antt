-- What is found of each rule is where it is broken first.
use Rattle.std.proofs.Common.{◌≡◌, ◌<◌, ◌≤◌, ◌⊎◌, ℕ, ◌+◌, Bool, true, false, cond, Option, Some, None, List, [], ◌∷◌, length, take, drop, refl, ap, sym, ◌∙◌, subst, arith, nat_lt}
use Rattle.std.proofs.lemmas.Grind.{common_steps}
use mathlib.Core.Logic.{inl, inr}
use Rattle.std.specs.Str.{IsUtf8, IsValidUpTo}
use Rattle.std.specs.Str.Lossy.{utf8_valid_len}
use Rattle.std.proofs.lemmas.Str.{utf8_valid_len-IsUtf8, utf8_valid_len-IsValidUpTo}
use Rattle.std.proofs.Math.Seq.{take-length}
use Rattle.sw_base.specs.Limits.{longest_source}
use Rattle.sw_rules.specs.declared.Rule.{Rule}
use Rattle.sw_rules.specs.declared.Rule.TheVariants.{L1, L2, L3, L4, L5}
use Rattle.sw_lex.specs.declared.lexemes.Lexeme.{Lexeme}
use Rattle.sw_lex.specs.declared.lexemes.Lexeme.TheVariants.{End, Gap, Token, Malformed, Unterminated}
use Rattle.sw_lex.specs.Bytes.{Text}
use Rattle.sw_lex.specs.Lexemes.{size_of, IsStop}
use Rattle.sw_lex.specs.Cut.{Cut, CutOf, IsValidPrefix}
use Rattle.sw_lex.specs.Rules.{Breaks, IsStopOffset, StopsAt}
use Rattle.sw_lex.specs.FirstBroken.{FindsTooLarge, Found, IsBefore, IsFirst, bad_found, is_too_large, large_at, large_found, stop_at, stop_found}
use Rattle.sw_lex.proofs.OneCut.{not_short, one_length, one_whole}
use Rattle.sw_lex.proofs.LargeLemmas.{has_large, large_found_at}
use Rattle.sw_lex.proofs.StopLemmas.{stop_place, one_place}
use Rattle.sw_lex.proofs.FirstLemmas.{pair, before_same, first_same, first_union}

-- ---- the kinds of rules that a source may break which is not too long, each by itself

abbrev BreaksBytes : Text → Rule → ℕ → Type 0
BreaksBytes source rule at = (rule ≡ L1) × IsValidUpTo source at

abbrev BreaksForm : Text → Rule → ℕ → Type 0
BreaksForm source rule at = ((rule ≡ L2) × StopsAt source Malformed at) ⊎ ((rule ≡ L3) × StopsAt source Unterminated at)

abbrev BreaksSize : Text → Rule → ℕ → Type 0
BreaksSize source rule at = (rule ≡ L4) × ((whole : CutOf source) × FindsTooLarge 0 source whole.items at)

abbrev BreaksAny : Text → Rule → ℕ → Type 0
BreaksAny source rule at = (BreaksBytes source rule at ⊎ BreaksForm source rule at) ⊎ BreaksSize source rule at

breaks_of : (source : Text) (rule own : Rule) (at : ℕ) → rule ≡ own → Breaks source own at → Breaks source rule at
breaks_of source rule own at e h = subst (λ (r : Rule). Breaks source r at) (sym e) h

any_breaks : (source : Text) (rule : Rule) (at : ℕ) → BreaksAny source rule at → Breaks source rule at
any_breaks source rule at (inl (inl h)) = breaks_of source rule L1 at h.0 h.1
any_breaks source rule at (inl (inr (inl h))) = breaks_of source rule L2 at h.0 h.1
any_breaks source rule at (inl (inr (inr h))) = breaks_of source rule L3 at h.0 h.1
any_breaks source rule at (inr h) = breaks_of source rule L4 at h.0 (has_large source h.1.0 at h.1.1)

breaks_any : (source : Text) → length source ≤ longest_source → (rule : Rule) (at : ℕ) → Breaks source rule at → BreaksAny source rule at
breaks_any source short L1 at h = inl (inl (refl, h))
breaks_any source short L2 at h = inl (inr (inl (refl, h)))
breaks_any source short L3 at h = inl (inr (inr (refl, h)))
breaks_any source short L4 at h = inr (refl, large_found_at source at h)
breaks_any source short L5 at h = absurd (omega (arith, short, h.1))
breaks_any source short rule at h = absurd h

before_of : (own rule : Rule) (at place : ℕ) → rule ≡ own → at ≡ place → IsBefore own at rule place
before_of own rule at place e f = subst (λ (r : Rule). IsBefore own at r place) (sym e) (before_same own at place f)

-- ---- bytes that are not UTF-8

bad_first : (source : Text) (valid : ℕ) → IsValidPrefix source valid → IsFirst (BreaksBytes source) (bad_found source valid)
bad_first source valid (inl g) = let t : nat_lt valid (length source) ≡ false = grind (arith, common_steps) in
    subst (λ (b : Bool). IsFirst (BreaksBytes source) (cond b (Some (pair L1 valid)) None)) (sym t) (λ rule at h. not_short source at g.1 h.1)
bad_first source valid (inr v) = let s : valid < length source = v.short in let t : nat_lt valid (length source) ≡ true = grind (arith, common_steps) in
    subst (λ (b : Bool). IsFirst (BreaksBytes source) (cond b (Some (pair L1 valid)) None)) (sym t) ((refl, v), λ rule at h. before_of L1 rule valid at h.0 (one_length source valid at v h.1))

-- the code has looked at all bytes, and each is part of a character
pub bad_none : (source : Text) (at : ℕ) → IsUtf8 (take at source) → at ≡ length source → None ≡ bad_found source (utf8_valid_len source)
bad_none source at u e =
    let all : IsUtf8 source = subst IsUtf8 (ap (λ n. take n source) e ∙ take-length source) u in
    let same : utf8_valid_len source ≡ length source = utf8_valid_len-IsUtf8 source all in
    let t : nat_lt (utf8_valid_len source) (length source) ≡ false = grind (arith, common_steps, same) in
    sym (ap (λ (b : Bool). cond b (Some (pair L1 (utf8_valid_len source))) None) t)

-- it has found the first that is not
pub bad_some : (source : Text) (at : ℕ) → IsValidUpTo source at → Some (pair L1 at) ≡ bad_found source (utf8_valid_len source)
bad_some source at v =
    let same : utf8_valid_len source ≡ at = utf8_valid_len-IsValidUpTo source at v in
    let short : at < length source = v.short in
    let t : nat_lt (utf8_valid_len source) (length source) ≡ true = grind (arith, common_steps, same, short) in
    ap (λ n. Some (pair L1 n)) (sym same) ∙ sym (ap (λ (b : Bool). cond b (Some (pair L1 (utf8_valid_len source))) None) t)

-- ---- where the cut stops

malformed_end : Malformed ≡ End → ⊥
malformed_end e = cc

unterminated_end : Unterminated ≡ End → ⊥
unterminated_end e = cc

stop_first : (source : Text) (valid : ℕ) (items : List Lexeme) (stop : Lexeme) → IsValidPrefix source valid → Cut [] valid source items stop → IsStop stop → IsFirst (BreaksForm source) (stop_found stop items)
stop_first source valid items End g c s = λ rule at h. elim h [ inl p ↦ none rule at L2 Malformed malformed_end p | inr p ↦ none rule at L3 Unterminated unterminated_end p ]
  where
    none : (rule : Rule) (at : ℕ) (own : Rule) (stop : Lexeme) → (stop ≡ End → ⊥) → (rule ≡ own) × StopsAt source stop at → ⊥
    none rule at own stop other h = other (sym h.1.1 ∙ (one_whole source valid items End g c h.1.0).1)
stop_first source valid items Malformed g c s = (
  inl (refl, (whole, refl, stop_place items)),
  λ rule at h. elim h [ inl p ↦ before_of L2 rule _ at p.0 (place at p.1) | inr p ↦ absurd (other at p.1) ],
)
  where
    whole : CutOf source
    whole = record { valid = valid; items = items; stop = Malformed; prefix = g; cut = c }

    place : (at : ℕ) → StopsAt source Malformed at → stop_at 0 0 [] items ≡ at
    place at h = one_place items (stop_at 0 0 [] items) at (stop_place items) (subst (λ (xs : List Lexeme). IsStopOffset xs at) (one_whole source valid items Malformed g c h.0).0 h.2)

    other : (at : ℕ) → StopsAt source Unterminated at → ⊥
    other at h = let e : Unterminated ≡ Malformed = sym h.1 ∙ (one_whole source valid items Malformed g c h.0).1 in cc
stop_first source valid items Unterminated g c s = (
  inr (refl, (whole, refl, stop_place items)),
  λ rule at h. elim h [ inl p ↦ absurd (other at p.1) | inr p ↦ before_of L3 rule _ at p.0 (place at p.1) ],
)
  where
    whole : CutOf source
    whole = record { valid = valid; items = items; stop = Unterminated; prefix = g; cut = c }

    place : (at : ℕ) → StopsAt source Unterminated at → stop_at 0 0 [] items ≡ at
    place at h = one_place items (stop_at 0 0 [] items) at (stop_place items) (subst (λ (xs : List Lexeme). IsStopOffset xs at) (one_whole source valid items Unterminated g c h.0).0 h.2)

    other : (at : ℕ) → StopsAt source Malformed at → ⊥
    other at h = let e : Malformed ≡ Unterminated = sym h.1 ∙ (one_whole source valid items Unterminated g c h.0).1 in cc
stop_first source valid items (Gap n) g c s = absurd s
stop_first source valid items (Token kind n) g c s = absurd s

-- ---- integers that are too large

pub large_after : (at place : ℕ) (bytes : Text) (items : List Lexeme) → FindsTooLarge at bytes items place → at ≤ place
large_after at place bytes [] h = absurd h
large_after at place bytes (item ∷ items) (inl h) = omega (arith, h.0)
large_after at place bytes (item ∷ items) (inr h) = omega (arith, large_after (at + size_of item) place (drop (size_of item) bytes) items h)

-- what is found is too large, and what is too large stands no earlier
abbrev IsFirstLarge : ℕ → Text → List Lexeme → Option ℕ → Type 0
IsFirstLarge at bytes items None = (place : ℕ) → FindsTooLarge at bytes items place → ⊥
IsFirstLarge at bytes items (Some found) = FindsTooLarge at bytes items found × ((place : ℕ) → FindsTooLarge at bytes items place → found ≤ place)

first_large : (at : ℕ) (bytes : Text) (items : List Lexeme) → IsFirstLarge at bytes items (large_at at bytes items)
first_large at bytes [] = λ place h. h
first_large at bytes (item ∷ items) = go (is_too_large bytes item) (large_at (at + size_of item) (drop (size_of item) bytes) items) refl (first_large (at + size_of item) (drop (size_of item) bytes) items)
  where
    go : (large : Bool) (later : Option ℕ) → is_too_large bytes item ≡ large → IsFirstLarge (at + size_of item) (drop (size_of item) bytes) items later → IsFirstLarge at bytes (item ∷ items) (cond large (Some at) later)
    go true later e k = (inl (refl, e), λ place h. large_after at place bytes (item ∷ items) h)
    go false None e k = λ place h. elim h [ inl p ↦ absurd (cc) | inr p ↦ k place p ]
    go false (Some found) e k = (inr k.0, λ place h. elim h [ inl p ↦ absurd (cc) | inr p ↦ k.1 place p ])

large_first : (source : Text) (valid : ℕ) (items : List Lexeme) (stop : Lexeme) → IsValidPrefix source valid → Cut [] valid source items stop → IsFirst (BreaksSize source) (large_found (large_at 0 source items))
large_first source valid items stop g c = go (large_at 0 source items) (first_large 0 source items)
  where
    whole : CutOf source
    whole = record { valid = valid; items = items; stop = stop; prefix = g; cut = c }

    same : (at : ℕ) → ((whole : CutOf source) × FindsTooLarge 0 source whole.items at) → FindsTooLarge 0 source items at
    same at h = subst (λ (xs : List Lexeme). FindsTooLarge 0 source xs at) (one_whole source valid items stop g c h.0).0 h.1

    before : (rule : Rule) (found at : ℕ) → rule ≡ L4 → found ≤ at → IsBefore L4 found rule at
    before rule found at e h = subst (λ (r : Rule). IsBefore L4 found r at) (sym e) (step (nat_lt found at) refl)
      where
        step : (t : Bool) → nat_lt found at ≡ t → IsBefore L4 found L4 at
        step true t = let l : found < at = grind (arith, common_steps) in inl l
        step false t = let l : at ≤ found = grind (arith, common_steps) in let e : found ≡ at = omega arith in before_same L4 found at e

    go : (found : Option ℕ) → IsFirstLarge 0 source items found → IsFirst (BreaksSize source) (large_found found)
    go None k = λ rule at h. k at (same at h.1)
    go (Some found) k = ((refl, (whole, k.0)), λ rule at h. before rule found at h.0 (k.1 at (same at h.1)))

-- ---- all of them

pub first_of_all : (source : Text) (valid : ℕ) (items : List Lexeme) (stop : Lexeme) (c found : Found) → length source ≤ longest_source → IsValidPrefix source valid → Cut [] valid source items stop → IsStop stop
    → IsFirst (λ r o. (bad_found source valid ≡ Some (pair r o)) ⊎ (stop_found stop items ≡ Some (pair r o))) c
    → IsFirst (λ r o. (c ≡ Some (pair r o)) ⊎ (large_found (large_at 0 source items) ≡ Some (pair r o))) found
    → IsFirst (Breaks source) found
first_of_all source valid items stop c found short g cut s h k =
    let two = first_union (BreaksBytes source) (BreaksForm source) _ _ c (bad_first source valid g) (stop_first source valid items stop g cut s) h in
    let three = first_union (λ r o. BreaksBytes source r o ⊎ BreaksForm source r o) (BreaksSize source) c _ found two (large_first source valid items stop g cut) k in
    first_same (BreaksAny source) (Breaks source) found (any_breaks source) (breaks_any source short) three

-- where nothing is broken, the cut stops at the end
pub stops_at_end : (source : Text) (whole : CutOf source) → IsStop whole.stop → IsFirst (Breaks source) None → whole.stop ≡ End
stops_at_end source whole s h = go whole.stop refl s
  where
    go : (stop : Lexeme) → whole.stop ≡ stop → IsStop stop → whole.stop ≡ End
    go End e s = e
    go Malformed e s = absurd (h L2 _ (whole, e, stop_place whole.items))
    go Unterminated e s = absurd (h L3 _ (whole, e, stop_place whole.items))
    go (Gap n) e s = absurd s
    go (Token kind n) e s = absurd s
