-- The order of refusals, as a test.
use Rattle.std.proofs.Common.{◌≡◌, ◌⊎◌, ◌<◌, ℕ, arith, ap, ◌∙◌, Bool, ◌||◌, ◌&&◌, nat_lt, nat_eq, inl, inr, IsTrue}
use Rattle.std.proofs.lemmas.Bool.Decides.{nat_tests}
use Rattle.sw_base.specs.declared.ids.Span.{Span}
use Rattle.sw_rules.specs.declared.Refusal.{Refusal}
use Rattle.sw_rules.specs.Rule.{rule_order, rule_pass}
use Rattle.sw_rules.specs.Refusal.{Precedes}
use Rattle.sw_findings.specs.Found.{precedes}

-- the numbers of a pass, a place and a rule, in the order in which they decide
abbrev Less : (p q l m c d x y : ℕ) → Type 0
Less p q l m c d x y = (p < q) ⊎ ((p ≡ q) × ((l < m) ⊎ ((l ≡ m) × ((c < d) ⊎ ((c ≡ d) × (x < y))))))

abbrev less : (p q l m c d x y : ℕ) → Bool
less p q l m c d x y = nat_lt p q || (nat_eq p q && (nat_lt l m || (nat_eq l m && (nat_lt c d || (nat_eq c d && nat_lt x y)))))

decides_to : (p q l m c d x y : ℕ) → IsTrue (less p q l m c d x y) → Less p q l m c d x y
decides_to p q l m c d x y h = grind (arith, nat_tests)

decides_from : (p q l m c d x y : ℕ) → Less p q l m c d x y → IsTrue (less p q l m c d x y)
decides_from p q l m c d x y h = grind (arith, nat_tests)

abbrev Before : Refusal → Refusal → Type 0
Before a b = Less (rule_pass a.rule) (rule_pass b.rule) a.span.line b.span.line a.span.column b.span.column (rule_order a.rule) (rule_order b.rule)

same_place : (a b : Span) → a.line ≡ b.line → a.column ≡ b.column → a ≡ b
same_place a b l c =
    let place : ℕ → ℕ → Span = λ line column. record { line = line; column = column } in
    ap (λ line. place line a.column) l ∙ ap (place b.line) c

before_to : (a b : Refusal) → Before a b → Precedes a b
before_to a b (inl h) = inl h
before_to a b (inr (p, inl h)) = inr (p, inl (inl h))
before_to a b (inr (p, inr (l, inl h))) = inr (p, inl (inr (l, h)))
before_to a b (inr (p, inr (l, inr (c, h)))) = inr (p, inr (same_place a.span b.span l c, h))

before_from : (a b : Refusal) → Precedes a b → Before a b
before_from a b (inl h) = inl h
before_from a b (inr (p, inl (inl h))) = inr (p, inl h)
before_from a b (inr (p, inl (inr (l, h)))) = inr (p, inr (l, inl h))
before_from a b (inr (p, inr (s, h))) = inr (p, inr (ap (λ x. x.line) s, inr (ap (λ x. x.column) s, h)))

pub precedes_to : (a b : Refusal) → IsTrue (precedes a b) → Precedes a b
unfolding precedes
precedes_to a b h = before_to a b (decides_to (rule_pass a.rule) (rule_pass b.rule) a.span.line b.span.line a.span.column b.span.column (rule_order a.rule) (rule_order b.rule) h)

pub precedes_from : (a b : Refusal) → Precedes a b → IsTrue (precedes a b)
unfolding precedes
precedes_from a b h = decides_from (rule_pass a.rule) (rule_pass b.rule) a.span.line b.span.line a.span.column b.span.column (rule_order a.rule) (rule_order b.rule) (before_from a b h)
