-- Whether two values are equal, as a test.
use Rattle.std.specs.Prelude.{◌≡◌, ◌↔◌, nat_eq, ◌&&◌, Bool as Truth, true, false, List, refl}
use Rattle.std.specs.Cmp.Lexicographic.{pointwise, pointwise_decides}
use Rattle.std.specs.Cmp.{IsEquivalence, both_ways}
use Rattle.std.proofs.Common.{sym, ap, ◌∙◌, subst}
use borrow.Author.Tests.{eqb-true, eq-eqb}
use base.Stored.{Gv, gnil, gnum, gcons}
use Rattle.sw_value.specs.declared.value.Value.{Value}
use Rattle.sw_value.specs.contracts.value.Value.{the_row}

-- Every value has a code of its own, a tree of numbers: this is how the prover tells values apart.
abbrev pub same_code : Gv → Gv → Truth
same_code gnil gnil = true
same_code (gnum m) (gnum n) = nat_eq m n
same_code (gcons a b) (gcons c d) = same_code a c && same_code b d
same_code _ _ = false

-- Two values are equal where their codes are. That this is equality is `equality`, below.
pub same_value : Value → Value → Truth
same_value a b = same_code (the_row.coded.code a) (the_row.coded.code b)

both_true : (x y : Truth) → (x && y) ≡ true → (x ≡ true) × (y ≡ true)
both_true true y h = (refl, h)
both_true false y h = absurd (cc)

same_so : (a b : Gv) → same_code a b ≡ true → a ≡ b
same_so gnil gnil h = refl
same_so (gnum m) (gnum n) h = ap gnum (eqb-true m n h)
same_so (gcons a b) (gcons c d) h =
    let t = both_true (same_code a c) (same_code b d) h in
    λ i. gcons (same_so a c t.0 i) (same_so b d t.1 i)
same_so gnil (gnum n) h = absurd (cc)
same_so gnil (gcons c d) h = absurd (cc)
same_so (gnum m) gnil h = absurd (cc)
same_so (gnum m) (gcons c d) h = absurd (cc)
same_so (gcons a b) gnil h = absurd (cc)
same_so (gcons a b) (gnum n) h = absurd (cc)

same_itself : (a : Gv) → same_code a a ≡ true
same_itself gnil = refl
same_itself (gnum n) = eq-eqb n n refl
same_itself (gcons a b) = ap (λ x. x && same_code b b) (same_itself a) ∙ same_itself b

-- the test is true exactly where the values are equal
pub equality : (a b : Value) → (same_value a b ≡ true) ↔ (a ≡ b)
unfolding same_value
equality a b = (λ h. the_row.coded.inj a b (same_so _ _ h), λ e. subst (λ (v : Value). same_value a v ≡ true) e (same_itself (the_row.coded.code a)))

pub same_value_equiv : IsEquivalence same_value
same_value_equiv = record {
  refl = λ a. (equality a a).1 refl;
  symm = λ a b. both_ways _ _ (λ h. (equality b a).1 (sym ((equality a b).0 h))) (λ h. (equality a b).1 (sym ((equality b a).0 h)));
  congr = λ a b c h. ap (λ (v : Value). same_value v c) ((equality a b).0 h);
}

-- two lists are equal where they have the same length and equal values at each index
pub list_equality : (xs ys : List Value) → (pointwise same_value xs ys ≡ true) ↔ (xs ≡ ys)
list_equality = pointwise_decides equality
