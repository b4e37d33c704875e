-- A chain of as many steps as there are types comes back to one of them.
use Rattle.std.proofs.Common.{◌≡◌, ℕ, zero, suc, ◌<◌, ◌≤◌, true, List, [], ◌∷◌, length, refl, sym, ap, ◌∙◌, subst, arith}
use mathlib.Core.Logic.{◌⊎◌, inl, inr}
use Rattle.std.specs.List.{slice_get}
use Rattle.sw_value.specs.declared.kinds.Kind.{Kind}
use Rattle.sw_holding.specs.Holds.{is_value, Holds, Leads, HoldsItself}
use Rattle.sw_holding.specs.Levels.{HasChain}
use Rattle.sw_holding.proofs.Lists.{Has, same'}
use Rattle.sw_holding.proofs.HoldsLemmas.{value_within}
use Rattle.sw_holding.proofs.LevelLemmas.{chain_value}

-- an element stands in the list more than once
abbrev Repeats : List ℕ → Type 0
Repeats [] = ⊥
Repeats (x ∷ xs) = Has xs x ⊎ Repeats xs

decide_has : (xs : List ℕ) (n : ℕ) → Has xs n ⊎ (Has xs n → ⊥)
decide_has [] n = inr (λ h. h)
decide_has (x ∷ xs) n = go (same' n x) (decide_has xs n)
  where
    neither : (n ≡ x → ⊥) → (Has xs n → ⊥) → (n ≡ x) ⊎ Has xs n → ⊥
    neither f g (inl e) = f e
    neither f g (inr h) = g h

    go : (n ≡ x) ⊎ (n ≡ x → ⊥) → Has xs n ⊎ (Has xs n → ⊥) → Has (x ∷ xs) n ⊎ (Has (x ∷ xs) n → ⊥)
    go (inl e) d = inl (inl e)
    go (inr f) (inl h) = inl (inr h)
    go (inr f) (inr g) = inr (λ h. neither f g h)

-- a list without one of its numbers, that repeats where this one does
record Without (n : ℕ) (xs : List ℕ) : Type 0 where
  rest : List ℕ
  count : length xs ≤ suc (length rest)
  of : (y : ℕ) → Has rest y → Has xs y × (y ≡ n → ⊥)
  back : Repeats rest → Repeats xs

without : (n : ℕ) (xs : List ℕ) → Repeats xs ⊎ Without n xs
without n [] = inr (record { rest = []; count = omega arith; of = λ y h. absurd h; back = λ r. r })
without n (x ∷ xs) = go (same' x n) (decide_has xs x) (without n xs)
  where
    here : x ≡ n → (Has xs x → ⊥) → Without n (x ∷ xs)
    here e f = record { rest = xs; count = omega arith; of = λ y h. (inr h, λ q. f (subst (Has xs) (q ∙ sym e) h)); back = λ r. inr r }

    kept : (x ≡ n → ⊥) → (w : Without n xs) → (y : ℕ) → (y ≡ x) ⊎ Has w.rest y → Has (x ∷ xs) y × (y ≡ n → ⊥)
    kept f w y (inl e) = (inl e, λ q. f (sym e ∙ q))
    kept f w y (inr h) = let o = w.of y h in (inr o.0, o.1)

    again : (w : Without n xs) → Has w.rest x ⊎ Repeats w.rest → Repeats (x ∷ xs)
    again w (inl h) = inl (w.of x h).0
    again w (inr r) = inr (w.back r)

    there : (x ≡ n → ⊥) → Without n xs → Without n (x ∷ xs)
    there f w = let c = w.count in record { rest = x ∷ w.rest; count = omega arith; of = λ y h. kept f w y h; back = λ r. again w r }

    go : (x ≡ n) ⊎ (x ≡ n → ⊥) → Has xs x ⊎ (Has xs x → ⊥) → Repeats xs ⊎ Without n xs → Repeats (x ∷ xs) ⊎ Without n (x ∷ xs)
    go (inl e) (inl h) w = inl (inl h)
    go (inl e) (inr f) w = inr (here e f)
    go (inr f) d (inl r) = inl (inr r)
    go (inr f) d (inr w) = inr (there f w)

-- more numbers than there are below a bound: one stands there twice
repeats : (bound : ℕ) (xs : List ℕ) → ((y : ℕ) → Has xs y → y < bound) → bound < length xs → Repeats xs
repeats zero [] below more = absurd (omega arith)
repeats zero (x ∷ xs) below more = absurd (let l = below x (inl refl) in omega arith)
repeats (suc bound) xs below more = go (without bound xs) (λ ys b m. repeats bound ys b m)
  where
    less : (w : Without bound xs) → (y : ℕ) → Has w.rest y → y < bound
    less w y h = let o = w.of y h in let l = below y o.0 in let f = o.1 in omega arith

    go : Repeats xs ⊎ Without bound xs → ((ys : List ℕ) → ((y : ℕ) → Has ys y → y < bound) → bound < length ys → Repeats ys) → Repeats xs
    go (inl r) again = r
    go (inr w) again = let c = w.count in w.back (again w.rest (less w) (omega arith))

-- ---- chains as lists

module _ (kinds : List Kind) where
  abbrev Trail : ℕ → List ℕ → Type 0
  Trail t [] = Unit {0}
  Trail t (u ∷ us) = Holds kinds t u × Trail u us

  trail : (n t last : ℕ) → Leads kinds n t last → (us : List ℕ) × (length us ≡ n) × Trail t us
  trail zero t last c = ([], refl, tt)
  trail (suc n) t last c = let r = trail n c.0 last c.2 in (c.0 ∷ r.0, ap suc r.1, (c.1, r.2))

  trail_value : (t : ℕ) (us : List ℕ) → Trail t us → (v : ℕ) → Has us v → is_value (slice_get kinds v) ≡ true
  trail_value t [] r v h = absurd h
  trail_value t (u ∷ us) r v (inl e) = ap (λ m. is_value (slice_get kinds m)) e ∙ r.0.value
  trail_value t (u ∷ us) r v (inr h) = trail_value u us r.1 v h

  trail_leads : (t : ℕ) (us : List ℕ) → Trail t us → (v : ℕ) → Has us v → (m : ℕ) × Leads kinds (suc m) t v
  trail_leads t [] r v h = absurd h
  trail_leads t (u ∷ us) r v (inl e) = (0, (u, r.0, sym e))
  trail_leads t (u ∷ us) r v (inr h) = let s = trail_leads u us r.1 v h in (suc s.0, (u, r.0, s.1))

  trail_circle : (t : ℕ) (us : List ℕ) → Trail t us → Repeats (t ∷ us) → (v : ℕ) × HoldsItself kinds v
  trail_circle t us r (inl h) = let s = trail_leads t us r t h in (t, record { steps = s.0; chain = s.1 })
  trail_circle t [] r (inr h) = absurd h
  trail_circle t (u ∷ us) r (inr h) = trail_circle u us r.1 h

  pub comes_back : (t : ℕ) → HasChain kinds (length kinds) t → (v : ℕ) × HoldsItself kinds v
  comes_back t c =
      let r = trail (length kinds) t c.last c.chain in
      let n = r.1 in
      trail_circle t r.0 r.2 (repeats (length kinds) (t ∷ r.0) (λ y h. value_within kinds y (one y r.0 r.2 h)) (omega arith))
    where
      one : (y : ℕ) (us : List ℕ) → Trail t us → (y ≡ t) ⊎ Has us y → is_value (slice_get kinds y) ≡ true
      one y us r (inl e) = ap (λ m. is_value (slice_get kinds m)) e ∙ chain_value kinds (length kinds) t c
      one y us r (inr h) = trail_value t us r y h
