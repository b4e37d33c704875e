-- Edges that are added, and what is held.
use Rattle.std.proofs.Common.{◌≡◌, ℕ, ◌+◌, ◌<◌, ◌≤◌, true, false, List, [], ◌∷◌, ◌++◌, length, map, set, take, get_or, refl, sym, ap, ◌∙◌, subst, arith, Some, unwrap_or}
use mathlib.Core.Logic.{◌⊎◌, inl, inr}
use Rattle.std.specs.List.{slice_get, Contains}
use Rattle.std.proofs.lemmas.Option.{slice_get_past, slice_get-get_or}
use Rattle.std.proofs.lemmas.List.{get_or-set_same, get_or-set_other, length-set, take_all}
use Rattle.sw_base.specs.declared.ids.TypeNo.{TypeNo}
use Rattle.sw_value.specs.declared.kinds.Kind.{Kind}
use Rattle.sw_value.specs.Kinds.{has_parts, parts_of}
use Rattle.sw_graph.specs.Graphs.{Graph, HasEdge, successors}
use Rattle.sw_holding.specs.Holds.{is_value, is_protocol, protocols_of}
use Rattle.sw_holding.specs.Edges.{bases_of, bases_in, held_by, IsOfProtocol, IsFromListed, IsEdge, IsHolding, Adds}
use Rattle.sw_holding.proofs.HoldsLemmas.{value_within, protocol_within}
use Rattle.sw_holding.proofs.Lists.{true≢, Has, has_from, contains_from, has_which, has_left, has_right, entry_map, within', same', last'}

-- ---- edges that are added

pub adds_none : (g : Graph) (R : ℕ → ℕ → Type 0) → ((a b : ℕ) → R a b → ⊥) → Adds g g R
adds_none g R h = record { size = refl; only = λ a b e. inl e; kept = λ a b e. e; all = λ a b r. absurd (h a b r) }

pub adds_as : (g k : Graph) (R S : ℕ → ℕ → Type 0) → ((a b : ℕ) → R a b → S a b) → ((a b : ℕ) → S a b → R a b) → Adds g k R → Adds g k S
adds_as g k R S f h a = record { size = a.size; only = λ x y e. go x y (a.only x y e); kept = a.kept; all = λ x y s. a.all x y (h x y s) }
  where
    go : (x y : ℕ) → HasEdge g x y ⊎ R x y → HasEdge g x y ⊎ S x y
    go x y (inl e) = inl e
    go x y (inr r) = inr (f x y r)

pub adds_both : (g k l : Graph) (R S : ℕ → ℕ → Type 0) → Adds g k R → Adds k l S → Adds g l (λ a b. R a b ⊎ S a b)
adds_both g k l R S a b = record {
  size = b.size ∙ a.size;
  only = λ x y e. go x y (b.only x y e);
  kept = λ x y e. b.kept x y (a.kept x y e);
  all = λ x y r. all x y r;
}
  where
    first : (x y : ℕ) → HasEdge g x y ⊎ R x y → HasEdge g x y ⊎ (R x y ⊎ S x y)
    first x y (inl e) = inl e
    first x y (inr r) = inr (inl r)

    go : (x y : ℕ) → HasEdge k x y ⊎ S x y → HasEdge g x y ⊎ (R x y ⊎ S x y)
    go x y (inl e) = first x y (a.only x y e)
    go x y (inr s) = inr (inr s)

    all : (x y : ℕ) → R x y ⊎ S x y → HasEdge l x y
    all x y (inl r) = b.kept x y (a.all x y r)
    all x y (inr s) = b.all x y s

-- ---- one edge

edges_at : (g : Graph) (a : ℕ) → a < length g → successors g a ≡ get_or g a []
edges_at g a h = ap (λ o. unwrap_or o []) (slice_get-get_or g a [] h)

set_here : (g : Graph) (a : ℕ) (xs : List ℕ) → a < length g → successors (set g a xs) a ≡ xs
set_here g a xs h = edges_at (set g a xs) a (omega (arith, length-set g a xs)) ∙ get_or-set_same g a xs [] h

set_there : (g : Graph) (a b : ℕ) (xs : List ℕ) → (b ≡ a → ⊥) → successors (set g a xs) b ≡ successors g b
set_there g a b xs n = go (within' b (length g))
  where
    go : (b < length g) ⊎ (length g ≤ b) → successors (set g a xs) b ≡ successors g b
    go (inl h) = edges_at (set g a xs) b (omega (arith, length-set g a xs)) ∙ (get_or-set_other g a b xs [] n ∙ sym (edges_at g b h))
    go (inr h) = ap (λ o. unwrap_or o []) (slice_get_past (set g a xs) b (omega (arith, length-set g a xs))) ∙ sym (ap (λ o. unwrap_or o []) (slice_get_past g b h))

pub added : (g : Graph) (from to : ℕ) (xs : List ℕ) → from < length g → xs ≡ successors g from ++ to ∷ [] → Adds g (set g from xs) (λ p t. (t ≡ to) × (p ≡ from))
added g from to xs h e = record {
  size = length-set g from xs;
  only = λ a b k. only a b (same' a from) k;
  kept = λ a b k. kept a b (same' a from) k;
  all = λ a b r. all a b r.0 r.1;
}
  where
    here : successors (set g from xs) from ≡ successors g from ++ to ∷ []
    here = set_here g from xs h ∙ e

    new : (b : ℕ) → Has (successors g from ++ to ∷ []) b → HasEdge (set g from xs) from b
    new b m = subst (λ ys. Contains ys b) (sym here) (contains_from (successors g from ++ to ∷ []) b m)

    only : (a b : ℕ) → (a ≡ from) ⊎ (a ≡ from → ⊥) → HasEdge (set g from xs) a b → HasEdge g a b ⊎ ((b ≡ to) × (a ≡ from))
    only a b (inl s) k = go (has_which (successors g from) (to ∷ []) b (has_from (successors g from ++ to ∷ []) b (subst (λ ys. Contains ys b) (ap (successors (set g from xs)) s ∙ here) k)))
      where
        go : Has (successors g from) b ⊎ Has (to ∷ []) b → HasEdge g a b ⊎ ((b ≡ to) × (a ≡ from))
        go (inl m) = inl (subst (λ p. HasEdge g p b) (sym s) (contains_from (successors g from) b m))
        go (inr (inl m)) = inr (m, s)
        go (inr (inr m)) = absurd m
    only a b (inr n) k = inl (subst (λ ys. Contains ys b) (set_there g from a xs n) k)

    kept : (a b : ℕ) → (a ≡ from) ⊎ (a ≡ from → ⊥) → HasEdge g a b → HasEdge (set g from xs) a b
    kept a b (inl s) k = subst (λ p. HasEdge (set g from xs) p b) (sym s) (new b (has_left (successors g from) (to ∷ []) b (has_from (successors g from) b (subst (λ p. HasEdge g p b) s k))))
    kept a b (inr n) k = subst (λ ys. Contains ys b) (sym (set_there g from a xs n)) k

    all : (a b : ℕ) → b ≡ to → a ≡ from → HasEdge (set g from xs) a b
    all a b q s = subst (λ p. HasEdge (set g from xs) p b) (sym s) (new b (has_right (successors g from) (to ∷ []) b (inl q)))

-- ---- one more protocol, one more type

abbrev numbers : List TypeNo → List ℕ
numbers qs = map (λ q. q.0) qs

in_more : (qs : List TypeNo) (q : TypeNo) (p : ℕ) → Has (numbers (qs ++ q ∷ [])) p → Has (numbers qs) p ⊎ (p ≡ q.0)
in_more [] q p (inl e) = inr e
in_more [] q p (inr h) = absurd h
in_more (x ∷ qs) q p (inl e) = inl (inl e)
in_more (x ∷ qs) q p (inr h) = go (in_more qs q p h)
  where
    go : Has (numbers qs) p ⊎ (p ≡ q.0) → Has (numbers (x ∷ qs)) p ⊎ (p ≡ q.0)
    go (inl k) = inl (inr k)
    go (inr e) = inr e

more_left : (qs : List TypeNo) (q : TypeNo) (p : ℕ) → Has (numbers qs) p → Has (numbers (qs ++ q ∷ [])) p
more_left [] q p h = absurd h
more_left (x ∷ qs) q p (inl e) = inl e
more_left (x ∷ qs) q p (inr h) = inr (more_left qs q p h)

more_right : (qs : List TypeNo) (q : TypeNo) (p : ℕ) → p ≡ q.0 → Has (numbers (qs ++ q ∷ [])) p
more_right [] q p e = inl e
more_right (x ∷ qs) q p e = inr (more_right qs q p e)

is_only : (q : TypeNo) (p : ℕ) → Contains (numbers (q ∷ [])) p → p ≡ q.0
is_only q p c = go (has_from (numbers (q ∷ [])) p c)
  where
    go : (p ≡ q.0) ⊎ ⊥ → p ≡ q.0
    go (inl e) = e
    go (inr h) = absurd h

only_is : (q : TypeNo) (p : ℕ) → p ≡ q.0 → Contains (numbers (q ∷ [])) p
only_is q p e = contains_from (numbers (q ∷ [])) p (inl e)

-- a protocol has edges of its own
pub protocol_at : (kinds : List Kind) (g : Graph) (from : ℕ) → length g ≡ length kinds → is_protocol (slice_get kinds from) ≡ true → from < length g
protocol_at kinds g from e h = let w = protocol_within kinds from h in omega arith

module _ (kinds : List Kind) (u : ℕ) where
  pub each_more : (g k l : Graph) (qs more : List TypeNo) (q : TypeNo) → more ≡ qs ++ q ∷ [] → Adds g k (IsFromListed kinds qs u) → Adds k l (IsFromListed kinds (q ∷ []) u) → Adds g l (IsFromListed kinds more u)
  each_more g k l qs more q e x y =
      adds_as g l (λ p t. IsFromListed kinds qs u p t ⊎ IsFromListed kinds (q ∷ []) u p t) (IsFromListed kinds more u) there back
      (adds_both g k l (IsFromListed kinds qs u) (IsFromListed kinds (q ∷ []) u) x y)
    where
      listed : (p : ℕ) → Has (numbers (qs ++ q ∷ [])) p → Contains (numbers more) p
      listed p h = subst (λ xs. Contains (numbers xs) p) (sym e) (contains_from (numbers (qs ++ q ∷ [])) p h)

      there : (p t : ℕ) → IsFromListed kinds qs u p t ⊎ IsFromListed kinds (q ∷ []) u p t → IsFromListed kinds more u p t
      there p t (inl h) = (h.0, h.1, listed p (more_left qs q p (has_from (numbers qs) p h.2)))
      there p t (inr h) = (h.0, h.1, listed p (more_right qs q p (is_only q p h.2)))

      back : (p t : ℕ) → IsFromListed kinds more u p t → IsFromListed kinds qs u p t ⊎ IsFromListed kinds (q ∷ []) u p t
      back p t h = go (in_more qs q p (has_from (numbers (qs ++ q ∷ [])) p (subst (λ xs. Contains (numbers xs) p) e h.2)))
        where
          go : Has (numbers qs) p ⊎ (p ≡ q.0) → IsFromListed kinds qs u p t ⊎ IsFromListed kinds (q ∷ []) u p t
          go (inl k) = inl (h.0, h.1, contains_from (numbers qs) p k)
          go (inr k) = inr (h.0, h.1, only_is q p k)

  pub each_all : (g k : Graph) (qs : List TypeNo) (i : ℕ) → length qs ≤ i → Adds g k (IsFromListed kinds (take i qs) u) → Adds g k (IsFromListed kinds qs u)
  each_all g k qs i h a = subst (λ xs. Adds g k (IsFromListed kinds xs u)) (take_all i qs h) a

  pub one_protocol : (g k : Graph) (q : TypeNo) → is_protocol (slice_get kinds q.0) ≡ true → Adds g k (λ p t. (t ≡ u) × (p ≡ q.0)) → Adds g k (IsFromListed kinds (q ∷ []) u)
  one_protocol g k q h a = adds_as g k (λ p t. (t ≡ u) × (p ≡ q.0)) (IsFromListed kinds (q ∷ []) u)
      (λ p t r. (r.0, ap (λ m. is_protocol (slice_get kinds m)) r.1 ∙ h, only_is q p r.1))
      (λ p t r. (r.0, is_only q p r.2)) a

  pub no_protocol_listed : (g : Graph) (q : TypeNo) → is_protocol (slice_get kinds q.0) ≡ false → Adds g g (IsFromListed kinds (q ∷ []) u)
  no_protocol_listed g q h = adds_none g (IsFromListed kinds (q ∷ []) u) (λ p t r. true≢ (sym h ∙ (sym (ap (λ m. is_protocol (slice_get kinds m)) (is_only q p r.2)) ∙ r.1)))

  -- what a struct or an enum conforms to, and nothing where it is neither
  pub one_type : (g k : Graph) (number : ℕ) (kind : Kind) (qs : List TypeNo) → number ≡ u → slice_get kinds u ≡ Some kind → has_parts kind.form ≡ true → qs ≡ kind.protocols
      → Adds g k (IsFromListed kinds qs number) → Adds g k (λ p t. (t ≡ u) × IsOfProtocol kinds p t)
  one_type g k number kind qs e i v l b =
      adds_as g k (IsFromListed kinds kind.protocols number) (λ p t. (t ≡ u) × IsOfProtocol kinds p t)
      (λ p t r. let at : slice_get kinds t ≡ Some kind = ap (slice_get kinds) (r.0 ∙ e) ∙ i in (r.0 ∙ e, (ap is_value at ∙ v, (r.1, subst (λ o. Contains (protocols_of o) p) (sym at) r.2))))
      (λ p t r. let at : slice_get kinds t ≡ Some kind = ap (slice_get kinds) r.0 ∙ i in (r.0 ∙ sym e, r.1.1.0, subst (λ o. Contains (protocols_of o) p) at r.1.1.1))
      (subst (λ xs. Adds g k (IsFromListed kinds xs number)) l b)

  pub no_type : (g : Graph) (kind : Kind) → slice_get kinds u ≡ Some kind → has_parts kind.form ≡ false → Adds g g (λ p t. (t ≡ u) × IsOfProtocol kinds p t)
  no_type g kind i v = adds_none g (λ p t. (t ≡ u) × IsOfProtocol kinds p t) (λ p t r. true≢ (sym v ∙ (sym (ap is_value (ap (slice_get kinds) r.0 ∙ i)) ∙ r.1.0)))

-- ---- the whole graph

pub all_conforming : (kinds : List Kind) (g k : Graph) (n : ℕ) → length kinds ≤ n → Adds g k (λ p t. (t < n) × IsOfProtocol kinds p t) → Adds g k (IsOfProtocol kinds)
all_conforming kinds g k n h a = adds_as g k (λ p t. (t < n) × IsOfProtocol kinds p t) (IsOfProtocol kinds) (λ p t r. r.1) (λ p t r. let w = value_within kinds t r.0 in (omega arith, r)) a

pub one_conforming : (kinds : List Kind) (g k l : Graph) (n : ℕ) → Adds g k (λ p t. (t < n) × IsOfProtocol kinds p t) → Adds k l (λ p t. (t ≡ n) × IsOfProtocol kinds p t) → Adds g l (λ p t. (t < n + 1) × IsOfProtocol kinds p t)
one_conforming kinds g k l n x y = adds_as g l (λ p t. ((t < n) × IsOfProtocol kinds p t) ⊎ ((t ≡ n) × IsOfProtocol kinds p t)) (λ p t. (t < n + 1) × IsOfProtocol kinds p t) there back (adds_both g k l (λ p t. (t < n) × IsOfProtocol kinds p t) (λ p t. (t ≡ n) × IsOfProtocol kinds p t) x y)
  where
    there : (p t : ℕ) → ((t < n) × IsOfProtocol kinds p t) ⊎ ((t ≡ n) × IsOfProtocol kinds p t) → (t < n + 1) × IsOfProtocol kinds p t
    there p t (inl h) = let w = h.0 in (omega arith, h.1)
    there p t (inr h) = let w = h.0 in (omega arith, h.1)

    back : (p t : ℕ) → (t < n + 1) × IsOfProtocol kinds p t → ((t < n) × IsOfProtocol kinds p t) ⊎ ((t ≡ n) × IsOfProtocol kinds p t)
    back p t h = go (last' t n h.0)
      where
        go : (t < n) ⊎ (t ≡ n) → ((t < n) × IsOfProtocol kinds p t) ⊎ ((t ≡ n) × IsOfProtocol kinds p t)
        go (inl m) = inl (m, h.1)
        go (inr e) = inr (e, h.1)

-- the edges of the parts
part_edges : (kinds : List Kind) (a : ℕ) → successors (map (λ kind. held_by kinds (bases_in kind)) kinds) a ≡ held_by kinds (bases_of (parts_of (slice_get kinds a)))
part_edges kinds a = entry_map (λ kind. held_by kinds (bases_in kind)) [] (λ k. held_by kinds (bases_of (parts_of k))) refl (λ k. refl) kinds a

pub holding : (kinds : List Kind) (old new : Graph) → old ≡ map (λ kind. held_by kinds (bases_in kind)) kinds → length old ≡ length kinds → Adds old new (IsOfProtocol kinds) → IsHolding kinds new
holding kinds old new e n a = record { size = a.size ∙ n; only = λ x y h. only x y (a.only x y h); all = λ x y h. all x y h }
  where
    step : (x : ℕ) → successors old x ≡ held_by kinds (bases_of (parts_of (slice_get kinds x)))
    step x = ap (λ g. successors g x) e ∙ part_edges kinds x

    only : (x y : ℕ) → HasEdge old x y ⊎ IsOfProtocol kinds x y → IsEdge kinds x y
    only x y (inl h) = inl (subst (λ xs. Contains xs y) (step x) h)
    only x y (inr h) = inr h

    all : (x y : ℕ) → IsEdge kinds x y → HasEdge new x y
    all x y (inl h) = a.kept x y (subst (λ xs. Contains xs y) (sym (step x)) h)
    all x y (inr h) = a.all x y h
