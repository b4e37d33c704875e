-- Refusals stand in a strict total order: of two that differ one precedes the other, and not both.
use Rattle.std.proofs.Common.{◌≡◌, ◌⊎◌, ◌<◌, ℕ, arith, refl, ap, ◌∙◌, inl, inr, List, [], ◌∷◌, Some, slice_get}
use Rattle.sw_base.specs.declared.ids.Span.{Span}
use Rattle.sw_rules.specs.declared.Rule.{Rule}
use Rattle.sw_rules.specs.declared.Rule.TheVariants.{L1, L2, L3, L4, L5, P1, P2, P3, P4, P5, P6, N1, N2, N3, N4, N5, N6, T1, T2, T3, T4, T5, T6, T7, T8, T9, E1, E2, E3, E4, E5, E6, E7, E8, E9, E10, E11, E12, B1, B2, B3, B4, B5, B6, B7, B8, I1, I2, I3, I4, I5, I6, I7, I8, I9, I10, I11, I12, I13, I14}
use Rattle.sw_rules.specs.declared.Refusal.{Refusal}
use Rattle.sw_rules.specs.Rule.{rule_order, rule_pass}
use Rattle.sw_rules.specs.Refusal.{Precedes}

-- the numbers of a pass, a place and a rule, in the order in which they decide
abbrev Less : (p q l m c d x y : ℕ) → Type 0
Less p q l m c d x y = (p < q) ⊎ ((p ≡ q) × ((l < m) ⊎ ((l ≡ m) × ((c < d) ⊎ ((c ≡ d) × (x < y))))))

abbrev Before : Refusal → Refusal → Type 0
Before a b = Less (rule_pass a.rule) (rule_pass b.rule) a.span.line b.span.line a.span.column b.span.column (rule_order a.rule) (rule_order b.rule)

same_place : (a b : Span) → a.line ≡ b.line → a.column ≡ b.column → a ≡ b
same_place a b l c =
    let place : ℕ → ℕ → Span = λ line column. record { line = line; column = column } in
    ap (λ line. place line a.column) l ∙ ap (place b.line) c

before_to : (a b : Refusal) → Before a b → Precedes a b
before_to a b (inl h) = inl h
before_to a b (inr (p, inl h)) = inr (p, inl (inl h))
before_to a b (inr (p, inr (l, inl h))) = inr (p, inl (inr (l, h)))
before_to a b (inr (p, inr (l, inr (c, h)))) = inr (p, inr (same_place a.span b.span l c, h))

before_from : (a b : Refusal) → Precedes a b → Before a b
before_from a b (inl h) = inl h
before_from a b (inr (p, inl (inl h))) = inr (p, inl h)
before_from a b (inr (p, inl (inr (l, h)))) = inr (p, inr (l, inl h))
before_from a b (inr (p, inr (s, h))) = inr (p, inr (ap (λ x. x.line) s, inr (ap (λ x. x.column) s, h)))

-- the rules, in their order
abbrev all_rules : List Rule
all_rules = L1 ∷ L2 ∷ L3 ∷ L4 ∷ L5 ∷ P1 ∷ P2 ∷ P3 ∷ P4 ∷ P5 ∷ P6 ∷ N1 ∷ N2 ∷ N3 ∷ N4 ∷ N5 ∷ N6 ∷ T1 ∷ T2 ∷ T3 ∷ T4 ∷ T5 ∷ T6 ∷ T7 ∷ T8 ∷ T9 ∷ E1 ∷ E2 ∷ E3 ∷ E4 ∷ E5 ∷ E6 ∷ E7 ∷ E8 ∷ E9 ∷ E10 ∷ E11 ∷ E12 ∷ B1 ∷ B2 ∷ B3 ∷ B4 ∷ B5 ∷ B6 ∷ B7 ∷ B8 ∷ I1 ∷ I2 ∷ I3 ∷ I4 ∷ I5 ∷ I6 ∷ I7 ∷ I8 ∷ I9 ∷ I10 ∷ I11 ∷ I12 ∷ I13 ∷ I14 ∷ []

at_order : (r : Rule) → slice_get all_rules (rule_order r) ≡ Some r
at_order L1 = refl
at_order _ = refl

-- no two rules have one order
pub same_rule : (a b : Rule) → rule_order a ≡ rule_order b → a ≡ b
same_rule a b h = let p = at_order a in let q = at_order b in let r = ap (slice_get all_rules) h in cc

pub same_refusal : (a b : Refusal) → a.rule ≡ b.rule → a.span ≡ b.span → a ≡ b
same_refusal a b r s =
    let refusal : Rule → Span → Refusal = λ rule span. record { rule = rule; span = span } in
    ap (λ rule. refusal rule a.span) r ∙ ap (refusal b.rule) s

not_both : (p q l m c d x y : ℕ) → Less p q l m c d x y → Less q p m l d c y x → ⊥
not_both p q l m c d x y h k = grind arith

pub asymmetric : (a b : Refusal) → Precedes a b → Precedes b a → ⊥
asymmetric a b h k = not_both _ _ _ _ _ _ _ _ (before_from a b h) (before_from b a k)

through : (p q r l m n c d e x y z : ℕ) → Less p q l m c d x y → Less q r m n d e y z → Less p r l n c e x z
through p q r l m n c d e x y z h k = grind arith

pub transitive : (a b c : Refusal) → Precedes a b → Precedes b c → Precedes a c
transitive a b c h k = before_to a c (through _ _ _ _ _ _ _ _ _ _ _ _ (before_from a b h) (before_from b c k))

three_ways : (p q l m c d x y : ℕ) → (x ≡ y → p ≡ q) → Less p q l m c d x y ⊎ (Less q p m l d c y x ⊎ ((l ≡ m) × (c ≡ d) × (x ≡ y)))
three_ways p q l m c d x y h = grind arith

pub compared : (a b : Refusal) → Precedes a b ⊎ (Precedes b a ⊎ (a ≡ b))
compared a b = go (three_ways _ _ _ _ _ _ _ _ (λ e. ap rule_pass (same_rule a.rule b.rule e)))
  where
    go : Before a b ⊎ (Before b a ⊎ ((a.span.line ≡ b.span.line) × (a.span.column ≡ b.span.column) × (rule_order a.rule ≡ rule_order b.rule))) → Precedes a b ⊎ (Precedes b a ⊎ (a ≡ b))
    go (inl h) = inl (before_to a b h)
    go (inr (inl h)) = inr (inl (before_to b a h))
    go (inr (inr h)) = inr (inr (same_refusal a b (same_rule a.rule b.rule h.2) (same_place a.span b.span h.0 h.1)))
