-- A pass that finds its first refusal by the numbers of places, as by offsets or by the numbers of tokens.
use Rattle.std.proofs.Common.{◌≡◌, ◌⊎◌, ◌<◌, ◌≤◌, ℕ, arith, sym, subst, ◌∙◌, inl, inr}
use Rattle.sw_base.specs.declared.ids.Span.{Span}
use Rattle.sw_rules.specs.declared.Rule.{Rule}
use Rattle.sw_rules.specs.declared.Refusal.{Refusal}
use Rattle.sw_rules.specs.Rule.{rule_order, rule_pass}
use Rattle.sw_rules.specs.Refusal.{Precedes, StandsBefore}
use Rattle.sw_rules.specs.Pass.{IsFirst}
use Rattle.sw_rules.proofs.Precedence.{same_rule, same_refusal}

-- Rules of one pass are broken at numbers, and each number stands at one span: a smaller one at an earlier span.
module _ (Breaks : Rule → ℕ → Type 0) (StandsAt : ℕ → Span → Type 0)
    (rises : (i j : ℕ) (a b : Span) → i < j → StandsAt i a → StandsAt j b → StandsBefore a b)
    (one : (i : ℕ) (a b : Span) → StandsAt i a → StandsAt i b → a ≡ b)
    (pass : ℕ) (of_pass : (rule : Rule) (i : ℕ) → Breaks rule i → rule_pass rule ≡ pass) where
  abbrev pub RefusesAt : Refusal → Type 0
  RefusesAt r = (i : ℕ) × Breaks r.rule i × StandsAt i r.span

  -- what is the first by number, and of one number by the list of rules, is the first
  pub first_at : (r : Refusal) (i : ℕ) → Breaks r.rule i → ((other : Rule) (j : ℕ) → Breaks other j → (i < j) ⊎ ((i ≡ j) × (rule_order r.rule ≤ rule_order other))) → StandsAt i r.span
      → IsFirst RefusesAt r
  first_at r i h least s = record { refused = (i, h, s); precedes = λ other k. go other k.0 k.1 k.2 (least other.rule k.0 k.1) }
    where
      split : (x y : ℕ) → x ≤ y → (x < y) ⊎ (x ≡ y)
      split x y l = grind arith

      by_order : (other : Refusal) → rule_pass r.rule ≡ rule_pass other.rule → r.span ≡ other.span → (rule_order r.rule < rule_order other.rule) ⊎ (rule_order r.rule ≡ rule_order other.rule)
          → (other ≡ r) ⊎ Precedes r other
      by_order other p e (inl l) = inr (inr (p, inr (e, l)))
      by_order other p e (inr q) = inl (sym (same_refusal r other (same_rule r.rule other.rule q) e))

      go : (other : Refusal) (j : ℕ) → Breaks other.rule j → StandsAt j other.span → (i < j) ⊎ ((i ≡ j) × (rule_order r.rule ≤ rule_order other.rule)) → (other ≡ r) ⊎ Precedes r other
      go other j b t (inl l) = inr (inr (of_pass r.rule i h ∙ sym (of_pass other.rule j b), inl (rises i j r.span other.span l s t)))
      go other j b t (inr e) =
          by_order other (of_pass r.rule i h ∙ sym (of_pass other.rule j b)) (one j r.span other.span (subst (λ n. StandsAt n r.span) e.0 s) t)
          (split (rule_order r.rule) (rule_order other.rule) e.1)
