-- Lists of numbers by name, as a table is changed.
use Rattle.std.proofs.Common.{◌≡◌, ℕ, zero, List, [], ◌∷◌, ◌++◌, map, Bool, true, false, cond, refl, sym, ap, ◌∙◌, Option, Some, None, is_some}
use Rattle.std.specs.Option.{unwrap_or}
use Rattle.std.specs.Map.{lookup, set_value}
use Rattle.sw_sight.specs.InSight.{Text, same}
use Rattle.sw_sight.specs.Levels.{Entries, level, IsKnown}
use Rattle.sw_sight.proofs.Words.{same_true, same_refl, same_sym}

-- a table's entries, as they are seen
abbrev pub shown : {K : Type 0} → (K → Text) → List (K × ℕ) → Entries
shown items es = map (λ e. (items e.0, e.1)) es

pub lookup_shown : {K : Type 0} (items : K → Text) (x : Text) (es : List (K × ℕ)) → lookup (λ k. same x (items k)) es ≡ lookup (same x) (shown items es)
lookup_shown items x [] = refl
lookup_shown items x (e ∷ es) = ap (cond (same x (items e.0)) (Some e.1)) (lookup_shown items x es)

pub set_shown : {K : Type 0} (items : K → Text) (x : Text) (es : List (K × ℕ)) (v : ℕ) → shown items (set_value (λ k. same x (items k)) es v) ≡ set_value (same x) (shown items es) v
set_shown items x [] v = refl
set_shown items x (e ∷ es) v = go (set_shown items x es v) (same x (items e.0))
  where
    go : shown items (set_value (λ k. same x (items k)) es v) ≡ set_value (same x) (shown items es) v → (t : Bool) → shown items (cond t ((e.0, v) ∷ es) (e ∷ set_value (λ k. same x (items k)) es v)) ≡ cond t ((items e.0, v) ∷ shown items es) ((items e.0, e.1) ∷ set_value (same x) (shown items es) v)
    go h true = refl
    go h false = ap (λ l. (items e.0, e.1) ∷ l) h

pub push_shown : {K : Type 0} (items : K → Text) (es : List (K × ℕ)) (k : K) (v : ℕ) → shown items (es ++ (k, v) ∷ []) ≡ shown items es ++ (items k, v) ∷ []
push_shown items [] k v = refl
push_shown items (e ∷ es) k v = ap (λ l. (items e.0, e.1) ∷ l) (push_shown items es k v)

abbrev known : Text → Entries → Bool
known x es = is_some (lookup (same x) es)

lookup_set : (n x : Text) (v : ℕ) (es : Entries) → known n es ≡ true → lookup (same x) (set_value (same n) es v) ≡ cond (same x n) (Some v) (lookup (same x) es)
lookup_set n x v [] h = absurd (let e : false ≡ true = h in cc)
lookup_set n x v (e ∷ es) h = go (lookup_set n x v es) (same n e.0) refl h
  where
    found : e.0 ≡ n → (s t : Bool) → same x e.0 ≡ s → same x n ≡ t → cond s (Some v) (lookup (same x) es) ≡ cond t (Some v) (cond s (Some e.1) (lookup (same x) es))
    found p true true q r = refl
    found p false false q r = refl
    found p true false q r = absurd (let k : true ≡ false = sym q ∙ ap (same x) p ∙ r in cc)
    found p false true q r = absurd (let k : false ≡ true = sym q ∙ ap (same x) p ∙ r in cc)

    other : (known n es ≡ true → lookup (same x) (set_value (same n) es v) ≡ cond (same x n) (Some v) (lookup (same x) es)) → same n e.0 ≡ false → known n es ≡ true → (s t : Bool) → same x e.0 ≡ s → same x n ≡ t → cond s (Some e.1) (lookup (same x) (set_value (same n) es v)) ≡ cond t (Some v) (cond s (Some e.1) (lookup (same x) es))
    other i p k true true q r = absurd (let z : false ≡ true = sym p ∙ same_refl n e.0 (sym (same_true x n r) ∙ same_true x e.0 q) in cc)
    other i p k true false q r = refl
    other i p k false t q r = i k ∙ ap (λ b. cond b (Some v) (lookup (same x) es)) r

    go : (known n es ≡ true → lookup (same x) (set_value (same n) es v) ≡ cond (same x n) (Some v) (lookup (same x) es)) → (t : Bool) → same n e.0 ≡ t → is_some (cond t (Some e.1) (lookup (same n) es)) ≡ true → lookup (same x) (cond t ((e.0, v) ∷ es) (e ∷ set_value (same n) es v)) ≡ cond (same x n) (Some v) (cond (same x e.0) (Some e.1) (lookup (same x) es))
    go i true p k = found (sym (same_true n e.0 p)) (same x e.0) (same x n) refl refl
    go i false p k = other i p k (same x e.0) (same x n) refl refl

pub level_set : (n x : Text) (v : ℕ) (es : Entries) → IsKnown n es → level x (set_value (same n) es v) ≡ cond (same x n) v (level x es)
unfolding level IsKnown
level_set n x v es h = ap (λ o. unwrap_or o 0) (lookup_set n x v es h) ∙ go (same x n)
  where
    go : (t : Bool) → unwrap_or (cond t (Some v) (lookup (same x) es)) 0 ≡ cond t v (unwrap_or (lookup (same x) es) 0)
    go true = refl
    go false = refl

pub known_set : (n x : Text) (v : ℕ) (es : Entries) → IsKnown x es → IsKnown x (set_value (same n) es v)
unfolding IsKnown
known_set n x v [] h = h
known_set n x v (e ∷ es) h = go (known_set n x v es) (same n e.0) (same x e.0) refl h
  where
    go : (known x es ≡ true → known x (set_value (same n) es v) ≡ true) → (t s : Bool) → same x e.0 ≡ s → is_some (cond s (Some e.1) (lookup (same x) es)) ≡ true → is_some (lookup (same x) (cond t ((e.0, v) ∷ es) (e ∷ set_value (same n) es v))) ≡ true
    go i true true p k = ap (λ s. is_some (cond s (Some v) (lookup (same x) es))) p
    go i true false p k = ap (λ s. is_some (cond s (Some v) (lookup (same x) es))) p ∙ k
    go i false true p k = ap (λ s. is_some (cond s (Some e.1) (lookup (same x) (set_value (same n) es v)))) p
    go i false false p k = ap (λ s. is_some (cond s (Some e.1) (lookup (same x) (set_value (same n) es v)))) p ∙ i k

abbrev num : Option ℕ → ℕ
num o = unwrap_or o 0

pub level_push : (n x : Text) (es : Entries) → level x (es ++ (n, 0) ∷ []) ≡ level x es
unfolding level
level_push n x [] = go (same x n)
  where
    go : (t : Bool) → num (cond t (Some zero) None) ≡ zero
    go true = refl
    go false = refl
level_push n x (e ∷ es) = go (level_push n x es) (same x e.0)
  where
    go : num (lookup (same x) (es ++ (n, 0) ∷ [])) ≡ num (lookup (same x) es) → (t : Bool) → num (cond t (Some e.1) (lookup (same x) (es ++ (n, 0) ∷ []))) ≡ num (cond t (Some e.1) (lookup (same x) es))
    go i true = refl
    go i false = i

pub known_push : (n x : Text) (es : Entries) → IsKnown x es → IsKnown x (es ++ (n, 0) ∷ [])
unfolding IsKnown
known_push n x [] h = absurd (let e : false ≡ true = h in cc)
known_push n x (e ∷ es) h = go (known_push n x es) (same x e.0) h
  where
    go : (known x es ≡ true → known x (es ++ (n, 0) ∷ []) ≡ true) → (t : Bool) → is_some (cond t (Some e.1) (lookup (same x) es)) ≡ true → is_some (cond t (Some e.1) (lookup (same x) (es ++ (n, 0) ∷ []))) ≡ true
    go i true k = refl
    go i false k = i k

pub known_pushed : (n : Text) (es : Entries) → IsKnown n (es ++ (n, 0) ∷ [])
unfolding IsKnown
known_pushed n [] = ap (λ t. is_some (cond t (Some zero) None)) (same_refl n n refl)
known_pushed n (e ∷ es) = go (known_pushed n es) (same n e.0)
  where
    go : known n (es ++ (n, 0) ∷ []) ≡ true → (t : Bool) → is_some (cond t (Some e.1) (lookup (same n) (es ++ (n, 0) ∷ []))) ≡ true
    go i true = refl
    go i false = i

pub none_of : {A : Type 0} (o : Option A) → is_some o ≡ false → o ≡ None
none_of None h = refl
none_of (Some x) h = absurd (cc)
