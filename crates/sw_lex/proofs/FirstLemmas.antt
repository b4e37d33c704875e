-- The first of several rules that are broken.
use Rattle.std.proofs.Common.{◌≡◌, ◌⊎◌, ℕ, Some, None, refl, ◌∙◌, arith}
use mathlib.Core.Logic.{inl, inr}
use Rattle.sw_rules.specs.declared.Rule.{Rule}
use Rattle.sw_lex.specs.FirstBroken.{Found, IsBefore, IsFirst}

abbrev pub pair : Rule → ℕ → Rule × ℕ
pair rule at = (rule, at)

pub before_more : (r r' r'' : Rule) (o o' o'' : ℕ) → IsBefore r o r' o' → IsBefore r' o' r'' o'' → IsBefore r o r'' o''
before_more r r' r'' o o' o'' (inl p) (inl q) = inl (omega arith)
before_more r r' r'' o o' o'' (inl p) (inr q) = inl (omega (arith, q.0, p))
before_more r r' r'' o o' o'' (inr p) (inl q) = inl (omega (arith, p.0, q))
before_more r r' r'' o o' o'' (inr p) (inr q) = inr (p.0 ∙ q.0, omega (arith, p.1, q.1))

-- a rule of the same name and the same place is not before it
pub before_same : (r : Rule) (o o' : ℕ) → o ≡ o' → IsBefore r o r o'
before_same r o o' e = inr (e, omega arith)

-- the first of what holds under another name
pub first_same : (P Q : Rule → ℕ → Type 0) (f : Found) → ((r : Rule) (o : ℕ) → P r o → Q r o) → ((r : Rule) (o : ℕ) → Q r o → P r o) → IsFirst P f → IsFirst Q f
first_same P Q None to from h = λ r o q. h r o (from r o q)
first_same P Q (Some x) to from h = (to x.0 x.1 h.0, λ r o q. h.1 r o (from r o q))

along : (P : Rule → ℕ → Type 0) (y x : Rule × ℕ) → y ≡ x → P y.0 y.1 → P x.0 x.1
along P y x e p = rw (← e) p

-- the first of two kinds is the first of their firsts
pub first_union : (P Q : Rule → ℕ → Type 0) (a b c : Found) → IsFirst P a → IsFirst Q b → IsFirst (λ r o. (a ≡ Some (pair r o)) ⊎ (b ≡ Some (pair r o))) c → IsFirst (λ r o. P r o ⊎ Q r o) c
first_union P Q None None None h k l = λ r o q. elim q [ inl p ↦ h r o p | inr p ↦ k r o p ]
first_union P Q None None (Some x) h k l = absurd (elim l.0 [ inl e ↦ absurd (cc) | inr e ↦ absurd (cc) ])
first_union P Q (Some y) b None h k l = absurd (l y.0 y.1 (inl refl))
first_union P Q None (Some y) None h k l = absurd (l y.0 y.1 (inr refl))
first_union P Q (Some y) None (Some x) h k l = (
  elim l.0 [ inl e ↦ inl (along P y x (cc) h.0) | inr e ↦ absurd (cc) ],
  λ r o q. elim q [ inl p ↦ before_more x.0 y.0 r x.1 y.1 o (l.1 y.0 y.1 (inl refl)) (h.1 r o p) | inr p ↦ absurd (k r o p) ],
)
first_union P Q None (Some y) (Some x) h k l = (
  elim l.0 [ inl e ↦ absurd (cc) | inr e ↦ inr (along Q y x (cc) k.0) ],
  λ r o q. elim q [ inl p ↦ absurd (h r o p) | inr p ↦ before_more x.0 y.0 r x.1 y.1 o (l.1 y.0 y.1 (inr refl)) (k.1 r o p) ],
)
first_union P Q (Some y) (Some z) (Some x) h k l = (
  elim l.0 [ inl e ↦ inl (along P y x (cc) h.0) | inr e ↦ inr (along Q z x (cc) k.0) ],
  λ r o q. elim q [
    | inl p ↦ before_more x.0 y.0 r x.1 y.1 o (l.1 y.0 y.1 (inl refl)) (h.1 r o p)
    | inr p ↦ before_more x.0 z.0 r x.1 z.1 o (l.1 z.0 z.1 (inr refl)) (k.1 r o p)
  ],
)
