-- Lists: elements, numbers, and the first of a number.
use Rattle.std.proofs.Common.{◌≡◌, ℕ, zero, suc, ◌+◌, ◌<◌, ◌≤◌, Bool, true, false, ◌&&◌, List, [], ◌∷◌, ◌++◌, length, map, get_or, refl, sym, ap, ◌∙◌, subst, arith, Option, Some, None, unwrap_or}
use mathlib.Core.Logic.{◌⊎◌, inl, inr}
use Rattle.std.specs.List.{slice_get, Contains, flat_map}
use Rattle.std.proofs.lemmas.Option.{slice_get_within, slice_get_past}

pub true≢ : {A : Type 0} → false ≡ true → A
true≢ h = absurd (cc)

pub both_true : (x y : Bool) → (x && y) ≡ true → (x ≡ true) × (y ≡ true)
both_true true y h = (refl, h)
both_true false y h = true≢ h

pub and_true : (x y : Bool) → x ≡ true → y ≡ true → (x && y) ≡ true
and_true true y e h = h
and_true false y e h = true≢ e

-- a test that is not false holds
pub not_false : (b : Bool) → (b ≡ false → ⊥) → b ≡ true
not_false true h = refl
not_false false h = absurd (h refl)

-- ---- elements, by recursion

abbrev pub Has : {X : Type 0} → List X → X → Type 0
Has [] u = ⊥
Has (x ∷ xs) u = (u ≡ x) ⊎ Has xs u

pub has_from : {X : Type 0} (xs : List X) (u : X) → Contains xs u → Has xs u
has_from [] u c = absurd (omega (arith, c.1))
has_from (x ∷ xs) u c = go c.0 c.1 c.2 (λ d. has_from xs u d)
  where
    go : (k : ℕ) → k < length (x ∷ xs) → get_or (x ∷ xs) k u ≡ u → (Contains xs u → Has xs u) → (u ≡ x) ⊎ Has xs u
    go zero h e r = inl (sym e)
    go (suc k) h e r = inr (r (k, omega arith, e))

pub contains_from : {X : Type 0} (xs : List X) (u : X) → Has xs u → Contains xs u
contains_from [] u h = absurd h
contains_from (x ∷ xs) u (inl e) = (0, omega arith, sym e)
contains_from (x ∷ xs) u (inr h) = let c = contains_from xs u h in (suc c.0, omega arith, c.2)

pub has_which : {X : Type 0} (xs ys : List X) (u : X) → Has (xs ++ ys) u → Has xs u ⊎ Has ys u
has_which [] ys u h = inr h
has_which (x ∷ xs) ys u (inl e) = inl (inl e)
has_which (x ∷ xs) ys u (inr h) = go (has_which xs ys u h)
  where
    go : Has xs u ⊎ Has ys u → Has (x ∷ xs) u ⊎ Has ys u
    go (inl k) = inl (inr k)
    go (inr k) = inr k

pub has_left : {X : Type 0} (xs ys : List X) (u : X) → Has xs u → Has (xs ++ ys) u
has_left [] ys u h = absurd h
has_left (x ∷ xs) ys u (inl e) = inl e
has_left (x ∷ xs) ys u (inr h) = inr (has_left xs ys u h)

pub has_right : {X : Type 0} (xs ys : List X) (u : X) → Has ys u → Has (xs ++ ys) u
has_right [] ys u h = h
has_right (x ∷ xs) ys u h = inr (has_right xs ys u h)

-- what lists give together is given by one of the elements
pub in_one : {X A Y : Type 0} (f : Y → List A) (v : X → Y) (xs : List X) (b : A) → Has (flat_map f (map v xs)) b → (x : X) × Has xs x × Has (f (v x)) b
in_one f v [] b h = absurd h
in_one {X = X} f v (x ∷ xs) b h = go (has_which (f (v x)) (flat_map f (map v xs)) b h) (λ k. in_one f v xs b k)
  where
    go : Has (f (v x)) b ⊎ Has (flat_map f (map v xs)) b → (Has (flat_map f (map v xs)) b → (y : X) × Has xs y × Has (f (v y)) b) → (y : X) × Has (x ∷ xs) y × Has (f (v y)) b
    go (inl k) r = (x, inl refl, k)
    go (inr k) r = let s = r k in (s.0, inr s.1, s.2)

pub of_one : {X A Y : Type 0} (f : Y → List A) (v : X → Y) (xs : List X) (x : X) (b : A) → Has xs x → Has (f (v x)) b → Has (flat_map f (map v xs)) b
of_one f v [] x b h k = absurd h
of_one f v (y ∷ xs) x b (inl e) k = has_left (f (v y)) (flat_map f (map v xs)) b (subst (λ z. Has (f (v z)) b) e k)
of_one f v (y ∷ xs) x b (inr h) k = has_right (f (v y)) (flat_map f (map v xs)) b (of_one f v xs x b h k)

-- ---- entries

pub get_map : {A B : Type 0} (f : A → B) (xs : List A) (x : A) (t : ℕ) → slice_get xs t ≡ Some x → slice_get (map f xs) t ≡ Some (f x)
get_map f [] x t e = absurd (cc)
get_map f (y ∷ xs) x zero e = ap Some (ap f (cc))
get_map f (y ∷ xs) x (suc t) e = get_map f xs x t e

pub get_map_none : {A B : Type 0} (f : A → B) (xs : List A) (t : ℕ) → slice_get xs t ≡ None → slice_get (map f xs) t ≡ None
get_map_none f [] t e = refl
get_map_none f (y ∷ xs) zero e = absurd (cc)
get_map_none f (y ∷ xs) (suc t) e = get_map_none f xs t e

-- what a table that is made of another has for a number
pub entry_map : {A B : Type 0} (f : A → B) (d : B) (g : Option A → B) → g None ≡ d → ((x : A) → g (Some x) ≡ f x) → (xs : List A) (t : ℕ) → unwrap_or (slice_get (map f xs) t) d ≡ g (slice_get xs t)
entry_map {A = A} f d g n s xs t = go (slice_get xs t) refl
  where
    go : (k : Option A) → slice_get xs t ≡ k → unwrap_or (slice_get (map f xs) t) d ≡ g (slice_get xs t)
    go None e = ap (λ o. unwrap_or o d) (get_map_none f xs t e) ∙ (sym n ∙ sym (ap g e))
    go (Some x) e = ap (λ o. unwrap_or o d) (get_map f xs x t e) ∙ (sym (s x) ∙ sym (ap g e))

-- what a table marks is a number of it
pub marked_within : (table : List Bool) (t : ℕ) → unwrap_or (slice_get table t) false ≡ true → t < length table
marked_within table t h = go (slice_get table t) refl
  where
    go : (o : Option Bool) → slice_get table t ≡ o → t < length table
    go None e = true≢ (sym (ap (λ p. unwrap_or p false) e) ∙ h)
    go (Some b) e = slice_get_within table t b e

-- ---- numbers

pub within' : (t n : ℕ) → (t < n) ⊎ (n ≤ t)
within' t zero = inr (omega arith)
within' zero (suc n) = inl (omega arith)
within' (suc t) (suc n) = go (within' t n)
  where
    go : (t < n) ⊎ (n ≤ t) → (suc t < suc n) ⊎ (suc n ≤ suc t)
    go (inl h) = inl (omega arith)
    go (inr h) = inr (omega arith)

pub same' : (t u : ℕ) → (t ≡ u) ⊎ (t ≡ u → ⊥)
same' zero zero = inl refl
same' zero (suc u) = inr (λ e. absurd (cc))
same' (suc t) zero = inr (λ e. absurd (cc))
same' (suc t) (suc u) = go (same' t u)
  where
    go : (t ≡ u) ⊎ (t ≡ u → ⊥) → (suc t ≡ suc u) ⊎ (suc t ≡ suc u → ⊥)
    go (inl e) = inl (ap suc e)
    go (inr h) = inr (λ e. h (cc))

pub last' : (k t : ℕ) → k < t + 1 → (k < t) ⊎ (k ≡ t)
last' k t h = go (within' k t)
  where
    go : (k < t) ⊎ (t ≤ k) → (k < t) ⊎ (k ≡ t)
    go (inl m) = inl m
    go (inr m) = inr (omega arith)

-- ---- tables that grow

get_push : {X : Type 0} (xs : List X) (x : X) (k : ℕ) → k < length xs → slice_get (xs ++ x ∷ []) k ≡ slice_get xs k
get_push [] x k h = absurd (omega arith)
get_push (y ∷ xs) x zero h = refl
get_push (y ∷ xs) x (suc k) h = get_push xs x k (omega arith)

get_end : {X : Type 0} (xs : List X) (x : X) → slice_get (xs ++ x ∷ []) (length xs) ≡ Some x
get_end [] x = refl
get_end (y ∷ xs) x = let e : length (y ∷ xs) ≡ suc (length xs) = omega arith in ap (λ n. slice_get (y ∷ (xs ++ x ∷ [])) n) e ∙ get_end xs x

-- a table that grows by the value of a function goes on telling the function
pub table_push : {X : Type 0} (d : X) (f : ℕ → X) (xs ys : List X) (x : X) (n : ℕ) → ys ≡ xs ++ x ∷ [] → length xs ≡ n → x ≡ f n → ((k : ℕ) → k < n → unwrap_or (slice_get xs k) d ≡ f k)
    → (k : ℕ) → k < n + 1 → unwrap_or (slice_get ys k) d ≡ f k
table_push d f xs ys x n more e is below k h = go (last' k n h)
  where
    go : (k < n) ⊎ (k ≡ n) → unwrap_or (slice_get ys k) d ≡ f k
    go (inl l) = ap (λ zs. unwrap_or (slice_get zs k) d) more ∙ (ap (λ o. unwrap_or o d) (get_push xs x k (omega arith)) ∙ below k l)
    go (inr q) = ap (λ zs. unwrap_or (slice_get zs k) d) more ∙ (ap (λ m. unwrap_or (slice_get (xs ++ x ∷ []) m) d) (q ∙ sym e) ∙ (ap (λ o. unwrap_or o d) (get_end xs x) ∙ (is ∙ ap f (sym q))))

-- a whole table tells the function, where that is the same past its end
pub table_whole : {X : Type 0} (d : X) (f : ℕ → X) (xs : List X) (n : ℕ) → length xs ≡ n → ((k : ℕ) → n ≤ k → f k ≡ d) → ((k : ℕ) → k < n → unwrap_or (slice_get xs k) d ≡ f k) → (k : ℕ) → unwrap_or (slice_get xs k) d ≡ f k
table_whole d f xs n e over below k = go (within' k n)
  where
    go : (k < n) ⊎ (n ≤ k) → unwrap_or (slice_get xs k) d ≡ f k
    go (inl l) = below k l
    go (inr l) = ap (λ o. unwrap_or o d) (slice_get_past xs k (omega arith)) ∙ sym (over k l)
