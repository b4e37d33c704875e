-- Walks of the graph and chains of types, and the levels that follow.
use Rattle.std.proofs.Common.{◌≡◌, ℕ, zero, suc, pred, ◌+◌, ◌<◌, ◌≤◌, nat_le, Bool, true, false, List, length, map, cond, refl, sym, ap, ◌∙◌, subst, arith, Option, Some, None, unwrap_or}
use mathlib.Core.Logic.{◌⊎◌, inl, inr}
use Rattle.std.specs.List.{slice_get}
use Rattle.std.proofs.lemmas.Bool.Decides.{nat_tests}
use Rattle.sw_value.specs.declared.kinds.Kind.{Kind}
use Rattle.sw_value.specs.declared.kinds.Form.{Form}
use Rattle.sw_value.specs.declared.kinds.Form.TheVariants as form
use Rattle.sw_value.specs.Kinds.{has_parts}
use Rattle.sw_graph.specs.Graphs.{Graph, marked}
use Rattle.sw_graph.specs.Levels.{HasStep, HasWalk, IsLevel as IsWalkLevel, AreLevels as AreWalkLevels}
use Rattle.sw_holding.specs.Holds.{is_value, is_protocol, is_protocol_form, Conforms, Holds}
use Rattle.sw_holding.specs.Levels.{HasChain, Begins, IsLevel, AreLevels}
use Rattle.sw_holding.specs.Edges.{IsHolding, settled_form, settled}
use Rattle.sw_holding.proofs.Lists.{true≢, entry_map}
use Rattle.sw_holding.proofs.HoldsLemmas.{apart, no_protocol, value_from, value_within, protocol_within, edge_value, edge_protocol, held_edge, FromValue, Led}

-- ---- chains

pub no_steps : (kinds : List Kind) (t : ℕ) → is_value (slice_get kinds t) ≡ true → HasChain kinds 0 t
no_steps kinds t v = record { last = t; value = v; chain = refl }

pub longer : (kinds : List Kind) (n t u : ℕ) → Holds kinds t u → HasChain kinds n u → HasChain kinds (suc n) t
longer kinds n t u h c = record { last = c.last; value = c.value; chain = (u, h, c.chain) }

-- a chain of one step more begins with a type that holds the beginning of the rest
pub rest : (kinds : List Kind) (n t : ℕ) → HasChain kinds (suc n) t → (u : ℕ) × Holds kinds t u × HasChain kinds n u
rest kinds n t c = (c.chain.0, c.chain.1, record { last = c.last; value = c.value; chain = c.chain.2 })

pub chain_value : (kinds : List Kind) (n t : ℕ) → HasChain kinds n t → is_value (slice_get kinds t) ≡ true
chain_value kinds zero t c = ap (λ m. is_value (slice_get kinds m)) c.chain ∙ c.value
chain_value kinds (suc n) t c = value_from kinds t c.chain.0 c.chain.1

pub shorter : (kinds : List Kind) (n t : ℕ) → HasChain kinds (suc n) t → HasChain kinds n t
shorter kinds zero t c = no_steps kinds t (chain_value kinds 1 t c)
shorter kinds (suc n) t c = let r = rest kinds (suc n) t c in longer kinds n t r.0 r.1 (shorter kinds n r.0 r.2)

-- a chain has each shorter one at its beginning
pub shorter_by : (kinds : List Kind) (k n t : ℕ) → HasChain kinds (k + n) t → HasChain kinds n t
shorter_by kinds zero n t c = let e : zero + n ≡ n = omega arith in subst (λ (m : ℕ). HasChain kinds m t) e c
shorter_by kinds (suc k) n t c = let e : suc k + n ≡ suc (k + n) = omega arith in shorter_by kinds k n t (shorter kinds (k + n) t (subst (λ (m : ℕ). HasChain kinds m t) e c))

-- ---- walks and chains

module _ (kinds : List Kind) (graph : Graph) (passed : List Bool) (h : IsHolding kinds graph) (is : passed ≡ map (λ kind. is_protocol_form kind.form) kinds) where
  passed_at : (t : ℕ) → marked passed t ≡ is_protocol (slice_get kinds t)
  passed_at t = ap (λ xs. marked xs t) is ∙ entry_map (λ (kind : Kind). is_protocol_form kind.form) false is_protocol refl (λ k. refl) kinds t

  step_held : (a b : ℕ) → is_value (slice_get kinds a) ≡ true → HasStep graph passed a b → Holds kinds a b
  step_held a b v (inl s) = go (edge_value kinds graph h a b v s.0)
    where
      go : FromValue kinds graph h a b → Holds kinds a b
      go (inl k) = k
      go (inr k) = true≢ (sym s.1 ∙ (passed_at b ∙ k.0))
  step_held a b v (inr s) = go (edge_value kinds graph h a s.0 v s.1)
    where
      go : FromValue kinds graph h a s.0 → Holds kinds a b
      go (inl k) = absurd (apart (slice_get kinds s.0) k.value (sym (passed_at s.0) ∙ s.2))
      go (inr k) = let p = edge_protocol kinds graph h s.0 b k.0 s.3 in k.1 b p.0 p.1

  held_step : (a b : ℕ) → Holds kinds a b → HasStep graph passed a b
  held_step a b k = go (held_edge kinds graph h a b k)
    where
      go : Led kinds graph h a b → HasStep graph passed a b
      go (inl e) = inl (e, passed_at b ∙ no_protocol (slice_get kinds b) k.value)
      go (inr e) = inr (e.0, e.1, passed_at e.0 ∙ e.2, e.3)

  pub walk_chain : (n a : ℕ) → is_value (slice_get kinds a) ≡ true → HasWalk graph passed n a → HasChain kinds n a
  walk_chain zero a v w = no_steps kinds a v
  walk_chain (suc n) a v w = let k = step_held a w.0 v w.1 in longer kinds n a w.0 k (walk_chain n w.0 k.value w.2)

  pub chain_walk : (n a : ℕ) → HasChain kinds n a → HasWalk graph passed n a
  chain_walk zero a c = let w = value_within kinds a (chain_value kinds 0 a c) in omega (arith, w, h.size)
  chain_walk (suc n) a c = let r = rest kinds n a c in (r.0, held_step a r.0 r.1, chain_walk n r.0 r.2)

  -- a walk from a protocol goes on from a type that conforms
  from_protocol : (n p : ℕ) → is_protocol (slice_get kinds p) ≡ true → HasWalk graph passed (suc n) p → (u : ℕ) × Conforms kinds u p × HasChain kinds n u
  from_protocol n p i w = go w.0 w.1 w.2
    where
      go : (b : ℕ) → HasStep graph passed p b → HasWalk graph passed n b → (u : ℕ) × Conforms kinds u p × HasChain kinds n u
      go b (inl s) walk = let o = edge_protocol kinds graph h p b i s.0 in (b, o.1, walk_chain n b o.0 walk)
      go b (inr s) walk = let o = edge_protocol kinds graph h p s.0 i s.1 in absurd (apart (slice_get kinds s.0) o.0 (sym (passed_at s.0) ∙ s.2))

  to_protocol : (n p u : ℕ) → Conforms kinds u p → HasChain kinds n u → HasWalk graph passed (suc n) p
  to_protocol n p u k c = let v = chain_value kinds n u c in (u, inl (h.all p u (inr (v, k)), passed_at u ∙ no_protocol (slice_get kinds u) v), chain_walk n u c)

  -- ---- levels

  -- the level, up to a bound
  abbrev Level : ℕ → ℕ → ℕ → Type 0
  Level most t zero = Begins kinds most t ⊎ (Begins kinds 0 t → ⊥)
  Level most t (suc n) = (suc n ≤ most) × Begins kinds n t × (Begins kinds (suc n) t → ⊥)

  abbrev cap : ℕ → ℕ → ℕ
  cap most walk = cond (nat_le walk most) walk 0

  zero_either : (b : Bool) → ◌≡◌ {A = ℕ} (cond b 0 0) 0
  zero_either true = refl
  zero_either false = refl

  no_begin_value : (n t : ℕ) → is_value (slice_get kinds t) ≡ true → (HasChain kinds n t → ⊥) → Begins kinds n t → ⊥
  no_begin_value n t v f (inl c) = f c
  no_begin_value n t v f (inr r) = apart (slice_get kinds t) v r.1.0

  value_level : (most t w : ℕ) → is_value (slice_get kinds t) ≡ true → IsWalkLevel graph passed (suc most) t w → Level most t (cap most w)
  value_level most t zero v l = subst (Level most t) (sym (zero_either (nat_le 0 most))) (inl (inl (shorter kinds most t (walk_chain (suc most) t v l))))
  value_level most t (suc n) v l = go (nat_le (suc n) most) refl
    where
      go : (b : Bool) → nat_le (suc n) most ≡ b → Level most t (cap most (suc n))
      go true e = let k : suc n ≤ most = grind (arith, nat_tests) in
          subst (Level most t) (sym (ap (λ b. cond b (suc n) 0) e)) (k, inl (walk_chain n t v l.1), no_begin_value (suc n) t v (λ c. l.2 (chain_walk (suc n) t c)))
      go false e = let k : most < suc n = grind (arith, nat_tests) in let d : n ≡ most = let m : suc n ≤ suc most = l.0 in omega arith in
          subst (Level most t) (sym (ap (λ b. cond b (suc n) 0) e)) (inl (inl (subst (λ (m : ℕ). HasChain kinds m t) d (walk_chain n t v l.1))))

  no_begin_protocol : (n t : ℕ) → is_protocol (slice_get kinds t) ≡ true → (HasWalk graph passed (suc n) t → ⊥) → Begins kinds n t → ⊥
  no_begin_protocol n t i f (inl c) = apart (slice_get kinds t) (chain_value kinds n t c) i
  no_begin_protocol n t i f (inr r) = f (to_protocol n t r.0 r.1 r.2)

  protocol_level : (most t w : ℕ) → is_protocol (slice_get kinds t) ≡ true → IsWalkLevel graph passed (suc most) t w → Level most t (pred w)
  protocol_level most t zero i l = inl (inr (from_protocol most t i l))
  protocol_level most t (suc zero) i l = inr (no_begin_protocol 0 t i l.2)
  protocol_level most t (suc (suc n)) i l = let m : suc (suc n) ≤ suc most = l.0 in (omega arith, inr (from_protocol n t i l.1), no_begin_protocol (suc n) t i l.2)

  no_begin : (n t : ℕ) → is_value (slice_get kinds t) ≡ false → is_protocol (slice_get kinds t) ≡ false → Begins kinds n t → ⊥
  no_begin n t v i (inl c) = true≢ (sym v ∙ chain_value kinds n t c)
  no_begin n t v i (inr r) = true≢ (sym i ∙ r.1.0)

  kind_level : (t w : ℕ) (k : Option Kind) → slice_get kinds t ≡ k → (t < length graph → IsWalkLevel graph passed 65 t w) → IsLevel kinds t (settled k w)
  kind_level t w None e l = inr (no_begin 0 t (ap is_value e) (ap is_protocol e))
  kind_level t w (Some kind) e l = go kind.form refl
    where
      is_form : (f : Form) → kind.form ≡ f → (is_value (slice_get kinds t) ≡ has_parts f) × (is_protocol (slice_get kinds t) ≡ is_protocol_form f)
      is_form f q = (ap is_value e ∙ ap has_parts q, ap is_protocol e ∙ ap is_protocol_form q)

      there : is_value (slice_get kinds t) ≡ true → t < length graph
      there v = let w = value_within kinds t v in omega (arith, w, h.size)

      go : (f : Form) → kind.form ≡ f → IsLevel kinds t (settled_form f w)
      go (form.Struct names types) q = let i = is_form (form.Struct names types) q in value_level 64 t w i.0 (l (there i.0))
      go (form.Enum cases) q = let i = is_form (form.Enum cases) q in value_level 64 t w i.0 (l (there i.0))
      go form.Protocol q = let i = is_form form.Protocol q in let m = protocol_within kinds t i.1 in protocol_level 64 t w i.1 (l (omega (arith, m, h.size)))
      go (form.Plain names types) q = let i = is_form (form.Plain names types) q in inr (no_begin 0 t i.0 i.1)
      go (form.Distributed names types) q = let i = is_form (form.Distributed names types) q in inr (no_begin 0 t i.0 i.1)

  pub levels : (walks table : List ℕ) → length table ≡ length kinds → AreWalkLevels graph passed 65 walks
      → ((t : ℕ) → unwrap_or (slice_get table t) 0 ≡ settled (slice_get kinds t) (unwrap_or (slice_get walks t) 0)) → AreLevels kinds table
  levels walks table n l each = record {
    length = n;
    each = λ t. subst (IsLevel kinds t) (sym (each t)) (kind_level t (unwrap_or (slice_get walks t) 0) (slice_get kinds t) refl (λ k. l.each t k));
  }
