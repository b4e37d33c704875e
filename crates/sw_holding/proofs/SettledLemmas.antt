-- Where no rule is broken the levels settle the table.
use Rattle.std.proofs.Common.{◌≡◌, ℕ, zero, suc, ◌+◌, ◌-◌, ◌<◌, ◌≤◌, nat_le, nat_lt, Bool, true, false, ◌&&◌, ◌||◌, not, List, [], ◌∷◌, length, map, refl, sym, ap, ◌∙◌, subst, arith, Option, Some, None, unwrap_or}
use mathlib.Core.Logic.{◌⊎◌, inl, inr}
use Rattle.std.specs.List.{slice_get, Contains, list_all, All}
use Rattle.std.proofs.lemmas.List.Elements.{All-contains}
use Rattle.std.proofs.lemmas.Bool.Decides.{nat_tests}
use Rattle.sw_base.specs.declared.ids.TypeNo.{TypeNo}
use Rattle.sw_value.specs.declared.ty.Base.{Base}
use Rattle.sw_value.specs.declared.ty.Base.TheVariants as base
use Rattle.sw_value.specs.declared.ty.Ty.{Ty}
use Rattle.sw_value.specs.declared.kinds.Kind.{Kind}
use Rattle.sw_value.specs.Kinds.{has_parts, parts_in, parts_of}
use Rattle.sw_value.specs.Codable.{declares_codable, among, all_among, IsCodable, is_error}
use Rattle.sw_value.specs.Settled.{level_at, base_below, parts_below, protocols_above, declared, crosses, holder_at, settled_at, IsSettled}
use Rattle.sw_graph.specs.Graphs.{Graph}
use Rattle.sw_holding.specs.Holds.{is_value, is_protocol, protocols_of, Conforms, Includes, Holds}
use Rattle.sw_holding.specs.Levels.{HasChain, Begins, IsLevel, AreLevels}
use Rattle.sw_holding.specs.Rules.{NameMatches, BreaksNoRule}
use Rattle.sw_holding.specs.Edges.{IsHolding}
use Rattle.sw_holding.proofs.Lists.{and_true, Has, contains_from, within'}
use Rattle.sw_holding.proofs.HoldsLemmas.{apart}
use Rattle.sw_holding.proofs.LevelLemmas.{no_steps, longer, chain_value, shorter_by}
use Rattle.sw_holding.proofs.AboveLemmas.{longest}
use Rattle.sw_holding.proofs.Repeats.{comes_back}

all_list : {X : Type 0} (p : X → Bool) (xs : List X) → ((x : X) → Has xs x → p x ≡ true) → list_all p xs ≡ true
all_list p [] h = refl
all_list p (x ∷ xs) h = and_true (p x) (list_all p xs) (h x (inl refl)) (all_list p xs (λ y k. h y (inr k)))

-- a longer chain is there, so a shorter one is
fewer : (kinds : List Kind) (m n t : ℕ) → n ≤ m → HasChain kinds m t → HasChain kinds n t
fewer kinds m n t k c = let d : ◌≡◌ {A = ℕ} ((m - n) + n) m = omega arith in shorter_by kinds (m - n) n t (subst (λ (x : ℕ). HasChain kinds x t) (sym d) c)

module _ (kinds : List Kind) (graph : Graph) (h : IsHolding kinds graph) (levels : List ℕ) (l : AreLevels kinds levels) (keep : BreaksNoRule kinds) where
  -- no chain has 64 steps
  bounded : (t : ℕ) → HasChain kinds 64 t → ⊥
  bounded t c = go (longest kinds graph h (length kinds) t (chain_value kinds 64 t c) (λ d. let r = comes_back kinds t d in keep.t5 r.0 r.1))
    where
      go : (k : ℕ) × HasChain kinds k t × (HasChain kinds (suc k) t → ⊥) → ⊥
      go r = by (within' r.0 64)
        where
          by : (r.0 < 64) ⊎ (64 ≤ r.0) → ⊥
          by (inl m) = r.2 (fewer kinds 64 (suc r.0) t m c)
          by (inr m) = keep.t8 t (record { steps = r.0; many = m; chain = r.1; longest = r.2 })

  abbrev level : ℕ → ℕ
  level t = unwrap_or (slice_get levels t) 0

  -- the level of a struct or an enum is one more than the steps of its longest chain
  abbrev Leveled : ℕ → ℕ → Type 0
  Leveled t n = (k : ℕ) × (n ≡ suc k) × HasChain kinds k t × (HasChain kinds (suc k) t → ⊥)

  leveled : (t n : ℕ) → is_value (slice_get kinds t) ≡ true → IsLevel kinds t n → Leveled t n
  leveled t zero v (inl (inl c)) = absurd (bounded t c)
  leveled t zero v (inl (inr r)) = absurd (bounded r.0 r.2)
  leveled t zero v (inr f) = absurd (f (inl (no_steps kinds t v)))
  leveled t (suc n) v s = (n, refl, one s.1, λ c. s.2 (inl c))
    where
      one : Begins kinds n t → HasChain kinds n t
      one (inl c) = c
      one (inr r) = absurd (apart (slice_get kinds t) v r.1.0)

  -- what is held has a lower level, and so has a protocol of which what conforms is held
  below : (t u m n : ℕ) → ((v : ℕ) → is_value (slice_get kinds v) ≡ true → (v ≡ u) ⊎ Conforms kinds v u → Holds kinds t v) → Leveled t m → IsLevel kinds u n → n < m
  below t u m zero f s i = let e = s.1 in omega arith
  below t u m (suc n) f s i = go i.1 (within' n s.0)
    where
      found : Begins kinds n u → HasChain kinds (suc n) t
      found (inl c) = longer kinds n t u (f u (chain_value kinds n u c) (inl refl)) c
      found (inr r) = longer kinds n t r.0 (f r.0 (chain_value kinds n r.0 r.2) (inr r.1)) r.2

      go : Begins kinds n u → (n < s.0) ⊎ (s.0 ≤ n) → suc n < m
      go b (inl k) = let e = s.1 in omega arith
      go b (inr k) = absurd (s.3 (fewer kinds (suc n) (suc s.0) t (omega arith) (found b)))

  -- the level of a protocol is as great as that of each that conforms
  above : (t p m n : ℕ) → Conforms kinds t p → Leveled t m → IsLevel kinds p n → m ≤ n
  above t p m zero c s (inl (inl d)) = absurd (bounded p d)
  above t p m zero c s (inl (inr r)) = absurd (bounded r.0 r.2)
  above t p m zero c s (inr f) = absurd (f (inr (t, c, fewer kinds s.0 0 t (omega arith) s.2)))
  above t p m (suc n) c s i = go (within' n s.0)
    where
      go : (n < s.0) ⊎ (s.0 ≤ n) → m ≤ suc n
      go (inl k) = absurd (i.2 (inr (t, c, fewer kinds s.0 (suc n) t k s.2)))
      go (inr k) = let e = s.1 in omega arith

  is_below : (a b : ℕ) → a < b → nat_lt a b ≡ true
  is_below a b k = grind (arith, nat_tests)

  is_at_most : (a b : ℕ) → a ≤ b → nat_le a b ≡ true
  is_at_most a b k = grind (arith, nat_tests)

  part_below : (t n : ℕ) (x : Ty) (b : Base) → Contains (parts_of (slice_get kinds t)) x → x.base ≡ b → NameMatches kinds b → Leveled t n → base_below levels n b ≡ true
  part_below t n x base.Int k e r s = refl
  part_below t n x base.Bool k e r s = refl
  part_below t n x base.Str k e r s = refl
  part_below t n x base.Void k e r s = refl
  part_below t n x base.Id k e r s = refl
  part_below t n x base.System k e r s = refl
  part_below t n x (base.Struct u) k e r s = is_below (level u.0) n (below t u.0 n (level u.0) hold s (l.each u.0))
    where
      hold : (v : ℕ) → is_value (slice_get kinds v) ≡ true → (v ≡ u.0) ⊎ Conforms kinds v u.0 → Holds kinds t v
      hold v w (inl q) = record { value = w; part = x; is_part = k; includes = subst (λ b. Includes kinds b v) (sym e) q }
      hold v w (inr q) = absurd (apart (slice_get kinds u.0) r q.0)
  part_below t n x (base.Enum u) k e r s = is_below (level u.0) n (below t u.0 n (level u.0) hold s (l.each u.0))
    where
      hold : (v : ℕ) → is_value (slice_get kinds v) ≡ true → (v ≡ u.0) ⊎ Conforms kinds v u.0 → Holds kinds t v
      hold v w (inl q) = record { value = w; part = x; is_part = k; includes = subst (λ b. Includes kinds b v) (sym e) q }
      hold v w (inr q) = absurd (apart (slice_get kinds u.0) r q.0)
  part_below t n x (base.Plain u) k e r s = refl
  part_below t n x (base.Distributed u) k e r s = refl
  part_below t n x (base.Any p) k e r s = is_below (level p.0) n (below t p.0 n (level p.0) hold s (l.each p.0))
    where
      hold : (v : ℕ) → is_value (slice_get kinds v) ≡ true → (v ≡ p.0) ⊎ Conforms kinds v p.0 → Holds kinds t v
      hold v w (inl q) = absurd (apart (slice_get kinds v) w (ap (λ m. is_protocol (slice_get kinds m)) q ∙ r))
      hold v w (inr q) = record { value = w; part = x; is_part = k; includes = subst (λ b. Includes kinds b v) (sym e) q }
  part_below t n x base.AnyError k e r s = refl

  number_in : (qs : List TypeNo) (q : TypeNo) → Has qs q → Has (map (λ p. p.0) qs) q.0
  number_in [] q m = absurd m
  number_in (x ∷ qs) q (inl e) = inl (ap (λ p. p.0) e)
  number_in (x ∷ qs) q (inr m) = inr (number_in qs q m)

  -- what may cross is declared, where it is declared at all
  parts_declared : (ts : List Ty) → All (IsCodable kinds) ts → all_among (declared kinds) ts ≡ true
  parts_declared ts a = all_list (λ t. among (declared kinds) t.base) ts (λ t m. All-contains (IsCodable kinds) ts t a (contains_from ts t m) (declared kinds) (λ u d p. d))

  crossing : (kind : Kind) → (declares_codable (Some kind) ≡ true → all_among (declared kinds) (parts_in kind.form) ≡ true) → (kind.is_error ≡ true → all_among (declared kinds) (parts_in kind.form) ≡ true)
      → (not (crosses kind) || all_among (declared kinds) (parts_in kind.form)) ≡ true
  crossing kind f g = go (declares_codable (Some kind)) kind.is_error (all_among (declared kinds) (parts_in kind.form)) f g
    where
      go : (x y z : Bool) → (x ≡ true → z ≡ true) → (y ≡ true → z ≡ true) → (not (x || y) || z) ≡ true
      go true y z f g = f refl
      go false true z f g = g refl
      go false false z f g = refl

  holder : (t : ℕ) (kind : Kind) → slice_get kinds t ≡ Some kind → has_parts kind.form ≡ true → holder_at kinds levels (level t) kind ≡ true
  holder t kind e v =
      let s = leveled t (level t) (ap is_value e ∙ v) (l.each t) in
      and_true (parts_below levels (level t) (parts_in kind.form)) (protocols_above levels (level t) kind.protocols && (not (crosses kind) || all_among (declared kinds) (parts_in kind.form)))
      (all_list (λ x. base_below levels (level t) x.base) (parts_in kind.form) (λ x m. let k = part x m in part_below t (level t) x x.base k refl (keep.numbers.parts t x k) s))
      (and_true (protocols_above levels (level t) kind.protocols) (not (crosses kind) || all_among (declared kinds) (parts_in kind.form))
      (all_list (λ q. nat_le (level t) (level_at levels q)) kind.protocols (λ q m. is_at_most (level t) (level q.0) (above t q.0 (level t) (level q.0) (conforms q m) s (l.each q.0))))
      (crossing kind (λ d. parts_declared (parts_in kind.form) (subst (λ o. All (IsCodable kinds) (parts_of o)) e (keep.t3 t (ap declares_codable e ∙ d))))
      (λ d. parts_declared (parts_in kind.form) (subst (λ o. All (IsCodable kinds) (parts_of o)) e (keep.t6 t (ap is_error e ∙ d))))))
    where
      part : (x : Ty) → Has (parts_in kind.form) x → Contains (parts_of (slice_get kinds t)) x
      part x m = subst (λ o. Contains (parts_of o) x) (sym e) (contains_from (parts_in kind.form) x m)

      conforms : (q : TypeNo) → Has kind.protocols q → Conforms kinds t q.0
      conforms q m =
          let k : Contains (protocols_of (slice_get kinds t)) q.0 = subst (λ o. Contains (protocols_of o) q.0) (sym e) (contains_from (map (λ p. p.0) kind.protocols) q.0 (number_in kind.protocols q m)) in
          (keep.numbers.protocols t q.0 k, k)

  pub settled : IsSettled kinds levels
  settled t = go (slice_get kinds t) refl
    where
      either : (x y : Bool) → (x ≡ true → y ≡ true) → (not x || y) ≡ true
      either true y f = f refl
      either false y f = refl

      go : (k : Option Kind) → slice_get kinds t ≡ k → settled_at kinds levels (level t) k ≡ true
      go None e = refl
      go (Some kind) e = either (has_parts kind.form) (holder_at kinds levels (level t) kind) (λ v. holder t kind e v)
