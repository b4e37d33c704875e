-- The edges of the graph, and what is held.
use Rattle.std.proofs.Common.{◌≡◌, ℕ, zero, suc, ◌<◌, Bool, true, false, List, length, map, refl, sym, ap, ◌∙◌, subst, Option, Some, None, Result, Ok, Err}
use mathlib.Core.Logic.{◌⊎◌, inl, inr}
use Rattle.std.specs.List.{slice_get}
use Rattle.std.specs.Prelude.{IfOk}
use Rattle.std.proofs.lemmas.Option.{slice_get_within}
use Rattle.sw_value.specs.declared.ty.Base.{Base}
use Rattle.sw_value.specs.declared.ty.Base.TheVariants as base
use Rattle.sw_value.specs.declared.ty.Ty.{Ty}
use Rattle.sw_value.specs.declared.kinds.Kind.{Kind}
use Rattle.sw_value.specs.declared.kinds.Form.{Form}
use Rattle.sw_value.specs.declared.kinds.Form.TheVariants as form
use Rattle.sw_value.specs.Kinds.{has_parts, parts_in, parts_of}
use Rattle.sw_graph.specs.Graphs.{Graph, HasEdge, marked}
use Rattle.sw_graph.specs.Cycles.{Walk, IsOnCycle, AreOnCycles}
use Rattle.sw_holding.specs.Holds.{is_value, is_protocol, is_protocol_form, Conforms, Includes, Holds, Leads, HoldsItself, AreCircular}
use Rattle.sw_holding.specs.Edges.{bases_of, where_true, held_number, held_by, IsOfProtocol, IsEdge, IsHolding}
use Rattle.sw_holding.proofs.Lists.{true≢, Has, has_from, contains_from, in_one, of_one, entry_map}

-- ---- structs, enums and protocols

form_apart : (f : Form) → has_parts f ≡ true → is_protocol_form f ≡ true → ⊥
form_apart (form.Struct names types) h k = true≢ k
form_apart (form.Enum cases) h k = true≢ k
form_apart form.Protocol h k = true≢ h
form_apart (form.Plain names types) h k = true≢ h
form_apart (form.Distributed names types) h k = true≢ h

pub apart : (k : Option Kind) → is_value k ≡ true → is_protocol k ≡ true → ⊥
apart None h p = true≢ h
apart (Some kind) h p = form_apart kind.form h p

not_both : (b : Bool) → (b ≡ true → ⊥) → b ≡ false
not_both true h = absurd (h refl)
not_both false h = refl

pub no_protocol : (k : Option Kind) → is_value k ≡ true → is_protocol k ≡ false
no_protocol k h = not_both (is_protocol k) (λ p. apart k h p)

form_parts : (f : Form) (x : Ty) → Has (parts_in f) x → has_parts f ≡ true
form_parts (form.Struct names types) x h = refl
form_parts (form.Enum cases) x h = refl
form_parts form.Protocol x h = absurd h
form_parts (form.Plain names types) x h = absurd h
form_parts (form.Distributed names types) x h = absurd h

-- what has a part is a struct or an enum
part_value : (k : Option Kind) (x : Ty) → Has (parts_of k) x → is_value k ≡ true
part_value None x h = absurd h
part_value (Some kind) x h = form_parts kind.form x h

pub value_from : (kinds : List Kind) (t u : ℕ) → Holds kinds t u → is_value (slice_get kinds t) ≡ true
value_from kinds t u h = part_value (slice_get kinds t) h.part (has_from (parts_of (slice_get kinds t)) h.part h.is_part)

within_value : (k : Option Kind) → is_value k ≡ true → (kind : Kind) × (k ≡ Some kind)
within_value None h = true≢ h
within_value (Some kind) h = (kind, refl)

within_protocol : (k : Option Kind) → is_protocol k ≡ true → (kind : Kind) × (k ≡ Some kind)
within_protocol None h = true≢ h
within_protocol (Some kind) h = (kind, refl)

pub value_within : (kinds : List Kind) (u : ℕ) → is_value (slice_get kinds u) ≡ true → u < length kinds
value_within kinds u h = let w = within_value (slice_get kinds u) h in slice_get_within kinds u w.0 w.1

pub protocol_within : (kinds : List Kind) (u : ℕ) → is_protocol (slice_get kinds u) ≡ true → u < length kinds
protocol_within kinds u h = let w = within_protocol (slice_get kinds u) h in slice_get_within kinds u w.0 w.1

-- ---- what a base names

where_has : (x : Bool) (n c : ℕ) → Has (where_true x n) c → (x ≡ true) × (c ≡ n)
where_has true n c (inl e) = (refl, e)
where_has true n c (inr h) = absurd h
where_has false n c h = absurd h

has_where : (x : Bool) (n : ℕ) → x ≡ true → Has (where_true x n) n
has_where true n h = inl refl
has_where false n h = true≢ h

module _ (kinds : List Kind) where
  -- a number that a base names is a struct or an enum that the base includes, or a protocol of which the base includes those that conform
  abbrev Named : Base → ℕ → Type 0
  Named b c = ((is_value (slice_get kinds c) ≡ true) × Includes kinds b c) ⊎ ((is_protocol (slice_get kinds c) ≡ true) × ((u : ℕ) → Conforms kinds u c → Includes kinds b u))

  named : (b : Base) (c : ℕ) → Has (held_number kinds b) c → Named b c
  named base.Int c h = absurd h
  named base.Bool c h = absurd h
  named base.Str c h = absurd h
  named base.Void c h = absurd h
  named base.Id c h = absurd h
  named base.System c h = absurd h
  named (base.Struct n) c h = let w = where_has (is_value (slice_get kinds n.0)) n.0 c h in inl (ap (λ m. is_value (slice_get kinds m)) w.1 ∙ w.0, w.1)
  named (base.Enum n) c h = let w = where_has (is_value (slice_get kinds n.0)) n.0 c h in inl (ap (λ m. is_value (slice_get kinds m)) w.1 ∙ w.0, w.1)
  named (base.Plain n) c h = absurd h
  named (base.Distributed n) c h = absurd h
  named (base.Any p) c h = let w = where_has (is_protocol (slice_get kinds p.0)) p.0 c h in inr (ap (λ m. is_protocol (slice_get kinds m)) w.1 ∙ w.0, λ u k. subst (λ m. Conforms kinds u m) w.1 k)
  named base.AnyError c h = absurd h

  -- what a base includes it names, or it names a protocol to which that conforms
  abbrev Names : Base → ℕ → Type 0
  Names b u = Has (held_number kinds b) u ⊎ ((p : ℕ) × Has (held_number kinds b) p × Conforms kinds u p)

  names : (b : Base) (u : ℕ) → is_value (slice_get kinds u) ≡ true → Includes kinds b u → Names b u
  names base.Int u v h = absurd h
  names base.Bool u v h = absurd h
  names base.Str u v h = absurd h
  names base.Void u v h = absurd h
  names base.Id u v h = absurd h
  names base.System u v h = absurd h
  names (base.Struct n) u v h = inl (subst (λ m. Has (where_true (is_value (slice_get kinds n.0)) n.0) m) (sym h) (has_where (is_value (slice_get kinds n.0)) n.0 (ap (λ m. is_value (slice_get kinds m)) (sym h) ∙ v)))
  names (base.Enum n) u v h = inl (subst (λ m. Has (where_true (is_value (slice_get kinds n.0)) n.0) m) (sym h) (has_where (is_value (slice_get kinds n.0)) n.0 (ap (λ m. is_value (slice_get kinds m)) (sym h) ∙ v)))
  names (base.Plain n) u v h = absurd h
  names (base.Distributed n) u v h = absurd h
  names (base.Any p) u v h = inr (p.0, has_where (is_protocol (slice_get kinds p.0)) p.0 h.0, h)
  names base.AnyError u v h = absurd h

-- ---- edges

module _ (kinds : List Kind) (graph : Graph) (h : IsHolding kinds graph) where
  -- an edge of a struct or an enum leads to one that it holds, or to a protocol of which it holds those that conform
  abbrev pub FromValue : ℕ → ℕ → Type 0
  FromValue a c = Holds kinds a c ⊎ ((is_protocol (slice_get kinds c) ≡ true) × ((u : ℕ) → is_value (slice_get kinds u) ≡ true → Conforms kinds u c → Holds kinds a u))

  pub edge_value : (a c : ℕ) → is_value (slice_get kinds a) ≡ true → HasEdge graph a c → FromValue a c
  edge_value a c v e = go (h.only a c e)
    where
      by : (x : Ty) → Has (parts_of (slice_get kinds a)) x → Named kinds x.base c → FromValue a c
      by x m (inl k) = inl (record { value = k.0; part = x; is_part = contains_from (parts_of (slice_get kinds a)) x m; includes = k.1 })
      by x m (inr k) = inr (k.0, λ u w q. record { value = w; part = x; is_part = contains_from (parts_of (slice_get kinds a)) x m; includes = k.1 u q })

      go : IsEdge kinds a c → FromValue a c
      go (inl k) = let f = in_one (held_number kinds) (λ (x : Ty). x.base) (parts_of (slice_get kinds a)) c (has_from (held_by kinds (bases_of (parts_of (slice_get kinds a)))) c k) in by f.0 f.1 (named kinds f.0.base c f.2)
      go (inr k) = absurd (apart (slice_get kinds a) v k.1.0)

  -- an edge of a protocol leads to a struct or an enum that conforms
  pub edge_protocol : (a c : ℕ) → is_protocol (slice_get kinds a) ≡ true → HasEdge graph a c → IsOfProtocol kinds a c
  edge_protocol a c p e = go (h.only a c e)
    where
      go : IsEdge kinds a c → IsOfProtocol kinds a c
      go (inl k) = let f = in_one (held_number kinds) (λ (x : Ty). x.base) (parts_of (slice_get kinds a)) c (has_from (held_by kinds (bases_of (parts_of (slice_get kinds a)))) c k) in absurd (apart (slice_get kinds a) (part_value (slice_get kinds a) f.0 f.1) p)
      go (inr k) = k

  -- what is held is led to, or a protocol to which it conforms
  abbrev pub Led : ℕ → ℕ → Type 0
  Led a u = HasEdge graph a u ⊎ ((p : ℕ) × HasEdge graph a p × (is_protocol (slice_get kinds p) ≡ true) × HasEdge graph p u)

  pub held_edge : (a u : ℕ) → Holds kinds a u → Led a u
  held_edge a u k = go (names kinds k.part.base u k.value k.includes)
    where
      part : (c : ℕ) → Has (held_number kinds k.part.base) c → HasEdge graph a c
      part c m = h.all a c (inl (contains_from (held_by kinds (bases_of (parts_of (slice_get kinds a)))) c (of_one (held_number kinds) (λ (x : Ty). x.base) (parts_of (slice_get kinds a)) k.part c (has_from (parts_of (slice_get kinds a)) k.part k.is_part) m)))

      go : Names kinds k.part.base u → Led a u
      go (inl m) = inl (part u m)
      go (inr m) = inr (m.0, part m.0 m.1, m.2.0, h.all m.0 u (inr (k.value, m.2)))

  -- ---- circles

  more_walk : (a u b : ℕ) → Holds kinds a u → (n : ℕ) → Walk graph n u b → (m : ℕ) × Walk graph (suc m) a b
  more_walk a u b k n w = go (held_edge a u k)
    where
      go : Led a u → (m : ℕ) × Walk graph (suc m) a b
      go (inl e) = (n, (u, e, w))
      go (inr e) = (suc n, (e.0, e.1, (u, e.3, w)))

  walk_of : (n a b : ℕ) → Leads kinds (suc n) a b → (m : ℕ) × Walk graph (suc m) a b
  walk_of zero a b c = more_walk a c.0 b c.1 zero c.2
  walk_of (suc n) a b c = let r = walk_of n c.0 b c.2 in more_walk a c.0 b c.1 (suc r.0) r.1

  abbrev Leading : ℕ → ℕ → Type 0
  Leading a b = (m : ℕ) × Leads kinds (suc m) a b

  chain_one : (a b c : ℕ) → is_value (slice_get kinds b) ≡ true → c ≡ b → FromValue a c → Leading a b
  chain_one a b c w q (inl k) = (0, (c, k, q))
  chain_one a b c w q (inr k) = absurd (apart (slice_get kinds c) (ap (λ m. is_value (slice_get kinds m)) q ∙ w) k.0)

  more_chain : (a c b : ℕ) → Holds kinds a c → Leading c b → Leading a b
  more_chain a c b k r = (suc r.0, (c, k, r.1))

  chain_step : (a c b : ℕ) → FromValue a c → (is_value (slice_get kinds c) ≡ true → Leading c b) → (is_protocol (slice_get kinds c) ≡ true → ((u : ℕ) → IsOfProtocol kinds c u → Holds kinds a u) → Leading a b) → Leading a b
  chain_step a c b (inl k) f g = more_chain a c b k (f k.value)
  chain_step a c b (inr k) f g = g k.0 (λ u q. k.1 u q.0 q.1)

  chain_of : (n a b : ℕ) → is_value (slice_get kinds a) ≡ true → is_value (slice_get kinds b) ≡ true → Walk graph (suc n) a b → Leading a b
  chain_of zero a b v w walk = chain_one a b walk.0 w walk.2 (edge_value a walk.0 v walk.1)
  chain_of (suc zero) a b v w walk = chain_step a walk.0 b (edge_value a walk.0 v walk.1)
      (λ k. chain_of zero walk.0 b k w walk.2)
      (λ k f. let p = edge_protocol walk.0 walk.2.0 k walk.2.1 in (0, (walk.2.0, f walk.2.0 p, walk.2.2)))
  chain_of (suc (suc n)) a b v w walk = chain_step a walk.0 b (edge_value a walk.0 v walk.1)
      (λ k. chain_of (suc n) walk.0 b k w walk.2)
      (λ k f. let p = edge_protocol walk.0 walk.2.0 k walk.2.1 in more_chain a walk.2.0 b (f walk.2.0 p) (chain_of n walk.2.0 b p.0 w walk.2.2))

  pub circle : (t : ℕ) → is_value (slice_get kinds t) ≡ true → IsOnCycle graph t → HoldsItself kinds t
  circle t v c = let r = chain_of c.edges t t v v c.walk in record { steps = r.0; chain = r.1 }

  pub cycle : (t : ℕ) → HoldsItself kinds t → IsOnCycle graph t
  cycle t c = let r = walk_of c.steps t t c.chain in record { edges = r.0; walk = r.1 }

  module _ (chosen : List Bool) (is : chosen ≡ map (λ kind. has_parts kind.form) kinds) where
    chosen_at : (t : ℕ) → marked chosen t ≡ is_value (slice_get kinds t)
    chosen_at t = ap (λ xs. marked xs t) is ∙ entry_map (λ (kind : Kind). has_parts kind.form) false is_value refl (λ k. refl) kinds t

    pub are_circular : (table : List Bool) → AreOnCycles graph chosen table → AreCircular kinds table
    are_circular table c = record {
      length = c.length ∙ h.size;
      only = λ t m. let p = c.only t m in circle t (sym (chosen_at t) ∙ p.0) p.1;
      all = λ t o. c.all t (chosen_at t ∙ value_from kinds t o.chain.0 o.chain.1) (cycle t o);
    }

-- what follows from two clauses of one result
pub if_both : {A E : Type 0} (r : Result A E) (P Q R : A → Type 0) → ((a : A) → P a → Q a → R a) → IfOk r P → IfOk r Q → IfOk r R
if_both (Ok a) P Q R f p q = f a p q
if_both (Err e) P Q R f p q = tt
