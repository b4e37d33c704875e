-- What is kept of refusals is the first of them, since they stand in a strict total order.
use Rattle.std.proofs.Common.{◌≡◌, ◌⊎◌, refl, sym, subst, Bool, true, false, cond, Option, Some, None, List, [], ◌∷◌, ◌++◌, inl, inr}
use Rattle.sw_rules.specs.declared.Refusal.{Refusal}
use Rattle.sw_rules.specs.Refusal.{Precedes}
use Rattle.sw_rules.specs.Pass.{IsFirst}
use Rattle.sw_findings.specs.Found.{Finds, Has, keep, keep_all, precedes}
use Rattle.sw_findings.proofs.Order.{precedes_to, precedes_from}

pub keep_all-append : (kept : Option Refusal) (xs ys : List Refusal) → keep_all kept (xs ++ ys) ≡ keep_all (keep_all kept xs) ys
unfolding keep_all
keep_all-append kept [] ys = refl
keep_all-append kept (x ∷ xs) ys = keep_all-append (keep kept x) xs ys

-- the first precedes the second, or is it
abbrev UpTo : Refusal → Refusal → Type 0
UpTo a b = (b ≡ a) ⊎ Precedes a b

module _ (total : (a b : Refusal) → Precedes a b ⊎ (Precedes b a ⊎ (a ≡ b))) (onward : (a b c : Refusal) → Precedes a b → Precedes b c → Precedes a c) where
  up_to : (a b c : Refusal) → UpTo a b → UpTo b c → UpTo a c
  up_to a b c (inl e) h = subst (λ x. UpTo x c) e h
  up_to a b c (inr h) (inl e) = inr (subst (Precedes a) (sym e) h)
  up_to a b c (inr h) (inr k) = inr (onward a b c h k)

  passed : (new kept : Refusal) → precedes new kept ≡ true → UpTo new kept
  passed new kept h = inr (precedes_to new kept h)

  stayed : (new kept : Refusal) → precedes new kept ≡ false → UpTo kept new
  stayed new kept h = go (total new kept)
    where
      go : Precedes new kept ⊎ (Precedes kept new ⊎ (new ≡ kept)) → UpTo kept new
      go (inl k) = absurd (let p = precedes_from new kept k in cc)
      go (inr (inl k)) = inr k
      go (inr (inr e)) = inl e

  -- of `kept` and the list, this is the first
  IsLeast : Refusal → List Refusal → Refusal → Type 0
  IsLeast kept xs r = ((r ≡ kept) ⊎ Has xs r) × UpTo r kept × ((other : Refusal) → Has xs other → UpTo r other)

  least_more : (kept x : Refusal) (xs : List Refusal) → ((k : Refusal) → (r : Refusal) × (keep_all (Some k) xs ≡ Some r) × IsLeast k xs r) → (r : Refusal) × (keep_all (keep (Some kept) x) xs ≡ Some r) × IsLeast kept (x ∷ xs) r
  unfolding keep IsLeast
  least_more kept x xs rest = go (precedes x kept) refl
    where
      all : (r k : Refusal) → UpTo r x → ((other : Refusal) → Has xs other → UpTo r other) → (other : Refusal) → Has (x ∷ xs) other → UpTo r other
      all r k u a other (inl e) = subst (UpTo r) (sym e) u
      all r k u a other (inr h) = a other h

      one_of : (r : Refusal) → (r ≡ kept) ⊎ Has xs r → (r ≡ kept) ⊎ Has (x ∷ xs) r
      one_of r (inl e) = inl e
      one_of r (inr h) = inr (inr h)

      go : (t : Bool) → precedes x kept ≡ t → (r : Refusal) × (keep_all (cond t (Some x) (Some kept)) xs ≡ Some r) × IsLeast kept (x ∷ xs) r
      go true p = let k = rest x in (k.0, k.1, (inr k.2.0, up_to k.0 x kept k.2.1 (passed x kept p), all k.0 x k.2.1 k.2.2))
      go false p = let k = rest kept in (k.0, k.1, (one_of k.0 k.2.0, k.2.1, all k.0 kept (up_to k.0 kept x k.2.1 (stayed x kept p)) k.2.2))

  least : (kept : Refusal) (xs : List Refusal) → (r : Refusal) × (keep_all (Some kept) xs ≡ Some r) × IsLeast kept xs r
  unfolding keep_all IsLeast
  least kept [] = (kept, refl, (inl refl, inl refl, λ other h. absurd h))
  least kept (x ∷ xs) = least_more kept x xs (λ k. least k xs)

  pub finds : (xs : List Refusal) → Finds (Has xs) (keep_all None xs)
  unfolding keep_all keep IsLeast
  finds [] = λ refusal h. h
  finds (x ∷ xs) = let k = least x xs in subst (Finds (Has (x ∷ xs))) (sym k.1) (first k.0 k.2)
    where
      any : (r : Refusal) → UpTo r x → ((other : Refusal) → Has xs other → UpTo r other) → (other : Refusal) → Has (x ∷ xs) other → UpTo r other
      any r u a other (inl e) = subst (UpTo r) (sym e) u
      any r u a other (inr h) = a other h

      first : (r : Refusal) → IsLeast x xs r → IsFirst (Has (x ∷ xs)) r
      first r k = record { refused = k.0; precedes = any r k.1 k.2 }
