-- The structs and enums from which there is a longest chain.
use Rattle.std.proofs.Common.{◌≡◌, ℕ, zero, suc, ◌+◌, ◌-◌, ◌<◌, ◌≤◌, nat_eq, Bool, true, false, ◌&&◌, List, [], ◌∷◌, length, map, cond, refl, sym, ap, ◌∙◌, subst, arith, unwrap_or}
use mathlib.Core.Logic.{◌⊎◌, inl, inr}
use Rattle.std.specs.List.{slice_get, list_all}
use Rattle.std.proofs.lemmas.Option.{slice_get_past}
use Rattle.std.proofs.lemmas.Bool.Decides.{nat_tests}
use Rattle.sw_value.specs.declared.kinds.Kind.{Kind}
use Rattle.sw_graph.specs.Graphs.{Graph, HasEdge, successors, marked}
use Rattle.sw_graph.specs.Least.{IsInEachClosed, IsLeast}
use Rattle.sw_graph.specs.Levels.{HasStep, HasWalk}
use Rattle.sw_holding.specs.Holds.{is_value, is_protocol, is_protocol_form, Holds}
use Rattle.sw_holding.specs.Levels.{HasChain, Begins, IsLevel, AreLevels}
use Rattle.sw_holding.specs.Above.{IsAbove, AreAbove}
use Rattle.sw_holding.specs.Edges.{IsHolding, AreBounded}
use Rattle.sw_holding.proofs.Lists.{true≢, both_true, and_true, not_false, Has, has_from, contains_from, within', last'}
use Rattle.sw_holding.proofs.HoldsLemmas.{apart, value_within, protocol_within, edge_value, edge_protocol, held_edge, FromValue, Led}
use Rattle.sw_holding.proofs.LevelLemmas.{no_steps, longer, rest, chain_value, shorter_by, walk_chain, chain_walk}
use Rattle.sw_holding.proofs.MemberLemmas.{each_in, in_each}

-- ---- tests that hold of more and more numbers

count : (ℕ → Bool) → ℕ → ℕ
count f zero = 0
count f (suc n) = cond (f n) 1 0 + count f n

counted : (f : ℕ → Bool) (n : ℕ) → count f n ≤ n
unfolding count
counted f zero = omega arith
counted f (suc n) = one (f n) (counted f n)
  where
    one : (b : Bool) → count f n ≤ n → cond b 1 0 + count f n ≤ suc n
    one true r = omega arith
    one false r = omega arith

-- below a bound one test holds of what another does, or of fewer numbers
abbrev Same : (ℕ → Bool) → (ℕ → Bool) → ℕ → Type 0
Same f g n = (a : ℕ) → a < n → g a ≡ true → f a ≡ true

-- one number more, of which both tests say the same
same_more : (f g : ℕ → Bool) (n : ℕ) → (g n ≡ true → f n ≡ true) → Same f g n → Same f g (suc n)
same_more f g n here s a h k = go (last' a n (omega arith))
  where
    go : (a < n) ⊎ (a ≡ n) → f a ≡ true
    go (inl m) = s a m k
    go (inr e) = ap f e ∙ here (sym (ap g e) ∙ k)

abbrev Compared : (ℕ → Bool) → (ℕ → Bool) → ℕ → Type 0
Compared f g n = (count f n ≤ count g n) × (Same f g n ⊎ (count f n < count g n))

compared : (f g : ℕ → Bool) → ((a : ℕ) → f a ≡ true → g a ≡ true) → (n : ℕ) → Compared f g n
unfolding count
compared f g more zero = (omega arith, inl (λ a h k. absurd (omega arith)))
compared f g more (suc n) = go (f n) (g n) refl refl (compared f g more n).0 (compared f g more n).1
  where
    go : (x y : Bool) → f n ≡ x → g n ≡ y → count f n ≤ count g n → Same f g n ⊎ (count f n < count g n) → Compared f g (suc n)
    go true false p q l s = true≢ (sym q ∙ more n p)
    go false true p q l s = let x : ◌≡◌ {A = ℕ} (cond (f n) 1 0) 0 = ap (λ b. cond b 1 0) p in let y : ◌≡◌ {A = ℕ} (cond (g n) 1 0) 1 = ap (λ b. cond b 1 0) q in (omega arith, inr (omega arith))
    go true true p q l (inl s) = let x : ◌≡◌ {A = ℕ} (cond (f n) 1 0) 1 = ap (λ b. cond b 1 0) p in let y : ◌≡◌ {A = ℕ} (cond (g n) 1 0) 1 = ap (λ b. cond b 1 0) q in (omega arith, inl (same_more f g n (λ k. p) s))
    go true true p q l (inr s) = let x : ◌≡◌ {A = ℕ} (cond (f n) 1 0) 1 = ap (λ b. cond b 1 0) p in let y : ◌≡◌ {A = ℕ} (cond (g n) 1 0) 1 = ap (λ b. cond b 1 0) q in (omega arith, inr (omega arith))
    go false false p q l (inl s) = let x : ◌≡◌ {A = ℕ} (cond (f n) 1 0) 0 = ap (λ b. cond b 1 0) p in let y : ◌≡◌ {A = ℕ} (cond (g n) 1 0) 0 = ap (λ b. cond b 1 0) q in (omega arith, inl (same_more f g n (λ k. true≢ (sym q ∙ k)) s))
    go false false p q l (inr s) = let x : ◌≡◌ {A = ℕ} (cond (f n) 1 0) 0 = ap (λ b. cond b 1 0) p in let y : ◌≡◌ {A = ℕ} (cond (g n) 1 0) 0 = ap (λ b. cond b 1 0) q in (omega arith, inr (omega arith))

-- tests of which each holds of what the one before does come to a stand below a bound
stands : (f : ℕ → ℕ → Bool) → ((n a : ℕ) → f n a ≡ true → f (suc n) a ≡ true) → (bound : ℕ) → (n : ℕ) → ((m : ℕ) × Same (f m) (f (suc m)) bound) ⊎ (n ≤ count (f n) bound)
stands f more bound zero = inr (omega arith)
stands f more bound (suc n) = go (stands f more bound n) (compared (f n) (f (suc n)) (more n) bound).1
  where
    go : ((m : ℕ) × Same (f m) (f (suc m)) bound) ⊎ (n ≤ count (f n) bound) → Same (f n) (f (suc n)) bound ⊎ (count (f n) bound < count (f (suc n)) bound) → ((m : ℕ) × Same (f m) (f (suc m)) bound) ⊎ (suc n ≤ count (f (suc n)) bound)
    go (inl s) k = inl s
    go (inr l) (inl s) = inl (n, s)
    go (inr l) (inr s) = inr (omega arith)

stand : (f : ℕ → ℕ → Bool) → ((n a : ℕ) → f n a ≡ true → f (suc n) a ≡ true) → (bound : ℕ) → (m : ℕ) × Same (f m) (f (suc m)) bound
stand f more bound = go (stands f more bound (suc bound))
  where
    go : ((m : ℕ) × Same (f m) (f (suc m)) bound) ⊎ (suc bound ≤ count (f (suc bound)) bound) → (m : ℕ) × Same (f m) (f (suc m)) bound
    go (inl s) = s
    go (inr l) = absurd (omega (arith, l, counted (f (suc bound)) bound))

-- ---- walks along edges that come to an end

-- no walk along so many edges begins at a number
ends : Graph → ℕ → ℕ → Bool
ends graph zero a = false
ends graph (suc n) a = list_all (ends graph n) (successors graph a)

ends_more : (graph : Graph) (n a : ℕ) → ends graph n a ≡ true → ends graph (suc n) a ≡ true
unfolding ends
ends_more graph zero a h = true≢ h
ends_more graph (suc n) a h = in_each (ends graph (suc n)) (successors graph a) (λ b k. ends_more graph n b (each_in (ends graph n) (successors graph a) h b k))

ends_next : (graph : Graph) (n a b : ℕ) → ends graph (suc n) a ≡ true → HasEdge graph a b → ends graph n b ≡ true
unfolding ends
ends_next graph n a b h e = each_in (ends graph n) (successors graph a) h b (has_from (successors graph a) b e)

ends_zero : (graph : Graph) (a : ℕ) {A : Type 0} → ends graph 0 a ≡ true → A
unfolding ends
ends_zero graph a h = true≢ h

-- what is in the least set comes to an end
least_ends : (graph : Graph) (allowed table : List Bool) → ((a : ℕ) → marked allowed a ≡ true → a < length graph) → IsInEachClosed graph allowed table → (n : ℕ) × ((a : ℕ) → marked table a ≡ true → ends graph n a ≡ true)
unfolding ends
least_ends graph allowed table within l =
    let s = stand (ends graph) (ends_more graph) (length graph) in
    (s.0, λ a m. l.each (ends graph s.0) (λ b al h. s.1 b (within b al) (in_each (ends graph s.0) (successors graph b) (λ c k. h c (contains_from (successors graph b) c k)))) a m)

-- ---- choices

-- whether one of a list is so
decide_in : (P : ℕ → Type 0) → ((x : ℕ) → P x ⊎ (P x → ⊥)) → (xs : List ℕ) → ((x : ℕ) × Has xs x × P x) ⊎ ((x : ℕ) → Has xs x → P x → ⊥)
decide_in P d [] = inr (λ x h p. h)
decide_in P d (x ∷ xs) = go (d x) (decide_in P d xs)
  where
    go : P x ⊎ (P x → ⊥) → ((y : ℕ) × Has xs y × P y) ⊎ ((y : ℕ) → Has xs y → P y → ⊥) → ((y : ℕ) × Has (x ∷ xs) y × P y) ⊎ ((y : ℕ) → Has (x ∷ xs) y → P y → ⊥)
    go (inl p) r = inl (x, inl refl, p)
    go (inr f) (inl r) = inl (r.0, inr r.1, r.2)
    go (inr f) (inr r) = inr (λ y h p. neither y h p)
      where
        neither : (y : ℕ) → (y ≡ x) ⊎ Has xs y → P y → ⊥
        neither y (inl e) p = f (subst P e p)
        neither y (inr h) p = r y h p

module _ (graph : Graph) (passed : List Bool) where
  -- an edge to a number goes on by a walk of so many steps
  abbrev GoesOn : ℕ → ℕ → Type 0
  GoesOn n b = ((marked passed b ≡ false) × HasWalk graph passed n b) ⊎ ((marked passed b ≡ true) × ((c : ℕ) × Has (successors graph b) c × HasWalk graph passed n c))

  decide_on : (n : ℕ) → ((a : ℕ) → HasWalk graph passed n a ⊎ (HasWalk graph passed n a → ⊥)) → (b : ℕ) → GoesOn n b ⊎ (GoesOn n b → ⊥)
  decide_on n d b = go (marked passed b) refl
    where
      direct : marked passed b ≡ false → HasWalk graph passed n b ⊎ (HasWalk graph passed n b → ⊥) → GoesOn n b ⊎ (GoesOn n b → ⊥)
      direct e (inl w) = inl (inl (e, w))
      direct e (inr f) = inr (λ g. not g)
        where
          not : GoesOn n b → ⊥
          not (inl g) = f g.1
          not (inr g) = true≢ (sym e ∙ g.0)

      over : marked passed b ≡ true → ((c : ℕ) × Has (successors graph b) c × HasWalk graph passed n c) ⊎ ((c : ℕ) → Has (successors graph b) c → HasWalk graph passed n c → ⊥) → GoesOn n b ⊎ (GoesOn n b → ⊥)
      over e (inl w) = inl (inr (e, w))
      over e (inr f) = inr (λ g. not g)
        where
          not : GoesOn n b → ⊥
          not (inl g) = true≢ (sym g.0 ∙ e)
          not (inr g) = f g.1.0 g.1.1 g.1.2

      go : (p : Bool) → marked passed b ≡ p → GoesOn n b ⊎ (GoesOn n b → ⊥)
      go false e = direct e (d b)
      go true e = over e (decide_in (HasWalk graph passed n) d (successors graph b))

  first_step : (n a : ℕ) → HasWalk graph passed (suc n) a → (b : ℕ) × Has (successors graph a) b × GoesOn n b
  first_step n a w = go w.1
    where
      go : HasStep graph passed a w.0 → (b : ℕ) × Has (successors graph a) b × GoesOn n b
      go (inl s) = (w.0, has_from (successors graph a) w.0 s.0, inl (s.1, w.2))
      go (inr s) = (s.0, has_from (successors graph a) s.0 s.1, inr (s.2, (w.0, has_from (successors graph s.0) w.0 s.3, w.2)))

  step_first : (n a b : ℕ) → Has (successors graph a) b → GoesOn n b → HasWalk graph passed (suc n) a
  step_first n a b h (inl g) = (b, inl (contains_from (successors graph a) b h, g.0), g.1)
  step_first n a b h (inr g) = (g.1.0, inr (b, contains_from (successors graph a) b h, g.0, contains_from (successors graph b) g.1.0 g.1.1), g.1.2)

  decide_walk : (n a : ℕ) → HasWalk graph passed n a ⊎ (HasWalk graph passed n a → ⊥)
  decide_walk zero a = go (within' a (length graph))
    where
      go : (a < length graph) ⊎ (length graph ≤ a) → (a < length graph) ⊎ (a < length graph → ⊥)
      go (inl h) = inl h
      go (inr h) = inr (λ l. omega arith)
  decide_walk (suc n) a = go (decide_in (GoesOn n) (decide_on n (decide_walk n)) (successors graph a))
    where
      go : ((b : ℕ) × Has (successors graph a) b × GoesOn n b) ⊎ ((b : ℕ) → Has (successors graph a) b → GoesOn n b → ⊥) → HasWalk graph passed (suc n) a ⊎ (HasWalk graph passed (suc n) a → ⊥)
      go (inl r) = inl (step_first n a r.0 r.1 r.2)
      go (inr f) = inr (λ w. let r = first_step n a w in f r.0 r.1 r.2)

-- ---- the longest chain

module _ (kinds : List Kind) (graph : Graph) (h : IsHolding kinds graph) where
  abbrev passes : List Bool
  passes = map (λ kind. is_protocol_form kind.form) kinds

  decide_chain : (n t : ℕ) → is_value (slice_get kinds t) ≡ true → HasChain kinds n t ⊎ (HasChain kinds n t → ⊥)
  decide_chain n t v = go (decide_walk graph passes n t)
    where
      go : HasWalk graph passes n t ⊎ (HasWalk graph passes n t → ⊥) → HasChain kinds n t ⊎ (HasChain kinds n t → ⊥)
      go (inl w) = inl (walk_chain kinds graph passes h refl n t v w)
      go (inr f) = inr (λ c. f (chain_walk kinds graph passes h refl n t c))

  pub longest : (n t : ℕ) → is_value (slice_get kinds t) ≡ true → (HasChain kinds n t → ⊥) → (k : ℕ) × HasChain kinds k t × (HasChain kinds (suc k) t → ⊥)
  longest zero t v f = absurd (f (no_steps kinds t v))
  longest (suc n) t v f = go (decide_chain n t v) (λ g. longest n t v g)
    where
      go : HasChain kinds n t ⊎ (HasChain kinds n t → ⊥) → ((HasChain kinds n t → ⊥) → (k : ℕ) × HasChain kinds k t × (HasChain kinds (suc k) t → ⊥)) → (k : ℕ) × HasChain kinds k t × (HasChain kinds (suc k) t → ⊥)
      go (inl c) r = (n, c, f)
      go (inr g) r = r g

  -- where no walk goes on for ever no chain does
  no_chain : (n t : ℕ) → ends graph n t ≡ true → HasChain kinds n t → ⊥
  no_chain zero t e c = ends_zero graph t e
  no_chain (suc zero) t e c = let r = rest kinds zero t c in go r.0 (held_edge kinds graph h t r.0 r.1)
    where
      go : (u : ℕ) → Led kinds graph h t u → ⊥
      go u (inl k) = ends_zero graph u (ends_next graph 0 t u e k)
      go u (inr k) = ends_zero graph k.0 (ends_next graph 0 t k.0 e k.1)
  no_chain (suc (suc n)) t e c = let r = rest kinds (suc n) t c in go r.0 (held_edge kinds graph h t r.0 r.1) (λ q. no_chain (suc n) r.0 q r.2)
    where
      go : (u : ℕ) → Led kinds graph h t u → (ends graph (suc n) u ≡ true → ⊥) → ⊥
      go u (inl k) r = r (ends_next graph (suc n) t u e k)
      go u (inr k) r = r (ends_more graph n u (ends_next graph n k.0 u (ends_next graph (suc n) t k.0 e k.1) k.3))

  module _ (allowed table : List Bool) (whole : (a : ℕ) → a < length graph → marked allowed a ≡ true) (inside : (a : ℕ) → marked allowed a ≡ true → a < length graph) (l : IsLeast graph allowed table) where
    allowed_value : (t : ℕ) → is_value (slice_get kinds t) ≡ true → marked allowed t ≡ true
    allowed_value t v = let w = value_within kinds t v in whole t (omega (arith, w, h.size))

    allowed_protocol : (t : ℕ) → is_protocol (slice_get kinds t) ≡ true → marked allowed t ≡ true
    allowed_protocol t v = let w = protocol_within kinds t v in whole t (omega (arith, w, h.size))

    -- where chains are bounded the least set has the type
    in_least : (n t : ℕ) → is_value (slice_get kinds t) ≡ true → (HasChain kinds n t → ⊥) → marked table t ≡ true
    in_least zero t v f = absurd (f (no_steps kinds t v))
    in_least (suc n) t v f = l.closed t (allowed_value t v) (λ b e. go b (edge_value kinds graph h t b v e) (λ u w k. in_least n u w (λ c. f (longer kinds n t u k c))))
      where
        go : (b : ℕ) → FromValue kinds graph h t b → ((u : ℕ) → is_value (slice_get kinds u) ≡ true → Holds kinds t u → marked table u ≡ true) → marked table b ≡ true
        go b (inl k) r = r b k.value k
        go b (inr k) r = l.closed b (allowed_protocol b k.0) (λ u e. let o = edge_protocol kinds graph h b u k.0 e in r u o.0 (k.1 u o.0 o.1))

    pub are_bounded : AreBounded kinds table
    are_bounded = let e = least_ends graph allowed table inside l.least in record {
      only = λ t v m. longest e.0 t v (no_chain e.0 t (e.1 t m));
      all = λ t n v f. in_least n t v f;
    }

-- ---- levels above 64

begins_chain : (kinds : List Kind) (n t : ℕ) → is_value (slice_get kinds t) ≡ true → Begins kinds n t → HasChain kinds n t
begins_chain kinds n t v (inl c) = c
begins_chain kinds n t v (inr r) = absurd (apart (slice_get kinds t) v r.1.0)

-- a struct or an enum without a level has a chain of 64 steps
no_level : (kinds : List Kind) (t l : ℕ) → is_value (slice_get kinds t) ≡ true → l ≡ 0 → IsLevel kinds t l → HasChain kinds 64 t
no_level kinds t zero v e (inl b) = begins_chain kinds 64 t v b
no_level kinds t zero v e (inr f) = absurd (f (inl (no_steps kinds t v)))
no_level kinds t (suc n) v e l = absurd (let x : suc n ≡ 0 = e in omega arith)

-- and one with a chain of 64 steps has no level
level_none : (kinds : List Kind) (t l : ℕ) → HasChain kinds 64 t → IsLevel kinds t l → l ≡ 0
level_none kinds t zero c l = refl
level_none kinds t (suc n) c l =
    let k : suc n ≤ 64 = l.0 in
    let d : ◌≡◌ {A = ℕ} ((64 - suc n) + suc n) 64 = omega arith in
    absurd (l.2 (inl (shorter_by kinds (64 - suc n) (suc n) t (subst (λ (m : ℕ). HasChain kinds m t) (sym d) c))))

zero_is : (n : ℕ) → nat_eq n 0 ≡ true → n ≡ 0
zero_is n e = grind (arith, nat_tests)

is_zero : (n : ℕ) → n ≡ 0 → nat_eq n 0 ≡ true
is_zero n e = ap (λ m. nat_eq m 0) e

abbrev pub test : List Kind → List ℕ → List Bool → ℕ → Bool
test kinds levels bounded t = is_value (slice_get kinds t) && (marked bounded t && nat_eq (unwrap_or (slice_get levels t) 0) 0)

above : (kinds : List Kind) (levels : List ℕ) (bounded : List Bool) (t : ℕ) → AreLevels kinds levels → AreBounded kinds bounded → test kinds levels bounded t ≡ true → IsAbove kinds t
above kinds levels bounded t l b e =
    let x = both_true (is_value (slice_get kinds t)) (marked bounded t && nat_eq (unwrap_or (slice_get levels t) 0) 0) e in
    let y = both_true (marked bounded t) (nat_eq (unwrap_or (slice_get levels t) 0) 0) x.1 in
    let c = no_level kinds t (unwrap_or (slice_get levels t) 0) x.0 (zero_is (unwrap_or (slice_get levels t) 0) y.1) (l.each t) in
    let r = b.only t x.0 y.0 in
    go r.0 r.1 r.2 c (within' r.0 64)
  where
    go : (n : ℕ) → HasChain kinds n t → (HasChain kinds (suc n) t → ⊥) → HasChain kinds 64 t → (n < 64) ⊎ (64 ≤ n) → IsAbove kinds t
    go n c f d (inl k) =
        let e : ◌≡◌ {A = ℕ} ((64 - suc n) + suc n) 64 = omega arith in
        absurd (f (shorter_by kinds (64 - suc n) (suc n) t (subst (λ (m : ℕ). HasChain kinds m t) (sym e) d)))
    go n c f d (inr k) = record { steps = n; many = k; chain = c; longest = f }

-- a level above 64 is found
not_above : (kinds : List Kind) (levels : List ℕ) (bounded : List Bool) (t : ℕ) → AreLevels kinds levels → AreBounded kinds bounded → test kinds levels bounded t ≡ false → IsAbove kinds t → ⊥
not_above kinds levels bounded t l b e a =
    let v = chain_value kinds a.steps t a.chain in
    let m : 64 ≤ a.steps = a.many in
    let d : ◌≡◌ {A = ℕ} ((a.steps - 64) + 64) a.steps = omega arith in
    let c = shorter_by kinds (a.steps - 64) 64 t (subst (λ (n : ℕ). HasChain kinds n t) (sym d) a.chain) in
    let z = level_none kinds t (unwrap_or (slice_get levels t) 0) c (l.each t) in
    true≢ (sym e ∙ and_true (is_value (slice_get kinds t)) (marked bounded t && nat_eq (unwrap_or (slice_get levels t) 0) 0) v
    (and_true (marked bounded t) (nat_eq (unwrap_or (slice_get levels t) 0) 0) (b.all t (suc a.steps) v a.longest) (is_zero (unwrap_or (slice_get levels t) 0) z)))

-- past the end there is no struct or enum
pub test_past : (kinds : List Kind) (levels : List ℕ) (bounded : List Bool) (t : ℕ) → length kinds ≤ t → test kinds levels bounded t ≡ false
test_past kinds levels bounded t h = ap (λ o. is_value o && (marked bounded t && nat_eq (unwrap_or (slice_get levels t) 0) 0)) (slice_get_past kinds t h)

pub are_above : (kinds : List Kind) (levels : List ℕ) (bounded table : List Bool) → AreLevels kinds levels → AreBounded kinds bounded → length table ≡ length kinds → ((t : ℕ) → marked table t ≡ test kinds levels bounded t) → AreAbove kinds table
are_above kinds levels bounded table l b size each = record {
  length = size;
  only = λ t m. above kinds levels bounded t l b (sym (each t) ∙ m);
  all = λ t a. each t ∙ not_false (test kinds levels bounded t) (λ e. not_above kinds levels bounded t l b e a);
}
