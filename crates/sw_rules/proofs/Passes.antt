-- A pass has one first refusal, and passes are read one after another.
use Rattle.std.proofs.Common.{◌≡◌, ◌⊎◌, sym, inl, inr}
use Rattle.sw_rules.specs.declared.Refusal.{Refusal}
use Rattle.sw_rules.specs.Refusal.{Precedes}
use Rattle.sw_rules.specs.Pass.{IsFirst, RefusesNone, Then}
use Rattle.sw_rules.proofs.Precedence.{asymmetric}

pub one_first : (Refuses : Refusal → Type 0) (a b : Refusal) → IsFirst Refuses a → IsFirst Refuses b → a ≡ b
one_first Refuses a b p q = go (p.precedes b q.refused) (q.precedes a p.refused)
  where
    go : (b ≡ a) ⊎ Precedes a b → (a ≡ b) ⊎ Precedes b a → a ≡ b
    go (inl e) h = sym e
    go (inr h) (inl e) = e
    go (inr h) (inr k) = absurd (asymmetric a b h k)

-- two relations that say the same have the same first
pub same_first : (Refuses Again : Refusal → Type 0) (r : Refusal)
    → ((x : Refusal) → Refuses x → Again x) → ((x : Refusal) → Again x → Refuses x) → IsFirst Refuses r → IsFirst Again r
same_first Refuses Again r to from p = record { refused = to r p.refused; precedes = λ other h. p.precedes other (from other h) }

-- ---- one pass after another

-- The first of two passes is the first of the earlier, or that of the later where the earlier refuses nothing.
pub first_of_earlier : (Earlier Later : Refusal → Type 0) (r : Refusal) → IsFirst Earlier r → IsFirst (Then Earlier Later) r
first_of_earlier Earlier Later r p = record { refused = inl p.refused; precedes = λ other h. any other h }
  where
    any : (other : Refusal) → Then Earlier Later other → (other ≡ r) ⊎ Precedes r other
    any other (inl h) = p.precedes other h
    any other (inr h) = absurd (h.0 r p.refused)

pub first_of_later : (Earlier Later : Refusal → Type 0) (r : Refusal) → RefusesNone Earlier → IsFirst Later r → IsFirst (Then Earlier Later) r
first_of_later Earlier Later r none p = record { refused = inr (none, p.refused); precedes = λ other h. any other h }
  where
    any : (other : Refusal) → Then Earlier Later other → (other ≡ r) ⊎ Precedes r other
    any other (inl h) = absurd (none other h)
    any other (inr h) = p.precedes other h.1

pub first_of : (Earlier Later : Refusal → Type 0) (r : Refusal) → IsFirst Earlier r ⊎ (RefusesNone Earlier × IsFirst Later r) → IsFirst (Then Earlier Later) r
first_of Earlier Later r (inl p) = first_of_earlier Earlier Later r p
first_of Earlier Later r (inr p) = first_of_later Earlier Later r p.0 p.1

pub first_is : (Earlier Later : Refusal → Type 0) (r : Refusal) → IsFirst (Then Earlier Later) r → IsFirst Earlier r ⊎ (RefusesNone Earlier × IsFirst Later r)
first_is Earlier Later r p = go p.refused
  where
    go : Then Earlier Later r → IsFirst Earlier r ⊎ (RefusesNone Earlier × IsFirst Later r)
    go (inl h) = inl (record { refused = h; precedes = λ other k. p.precedes other (inl k) })
    go (inr h) = inr (h.0, record { refused = h.1; precedes = λ other k. p.precedes other (inr (h.0, k)) })

pub none_of_both : (Earlier Later : Refusal → Type 0) → RefusesNone Earlier → RefusesNone Later → RefusesNone (Then Earlier Later)
none_of_both Earlier Later a b r (inl h) = a r h
none_of_both Earlier Later a b r (inr h) = b r h.1

pub none_of_earlier : (Earlier Later : Refusal → Type 0) → RefusesNone (Then Earlier Later) → RefusesNone Earlier
none_of_earlier Earlier Later a r h = a r (inl h)

pub none_of_later : (Earlier Later : Refusal → Type 0) → RefusesNone (Then Earlier Later) → RefusesNone Later
none_of_later Earlier Later a r h = a r (inr (none_of_earlier Earlier Later a, h))
