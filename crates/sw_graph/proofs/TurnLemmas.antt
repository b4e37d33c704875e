-- Edges that are turned round, and walks along them.
use Rattle.std.proofs.Common.{◌≡◌, ℕ, zero, suc, ◌<◌, ◌≤◌, List, [], ◌∷◌, ◌++◌, length, set, get_or, refl, sym, ap, ◌∙◌, arith, subst, length-append}
use mathlib.Core.Logic.{◌⊎◌, inl, inr}
use Rattle.std.specs.Prelude.{unwrap_or}
use Rattle.std.specs.List.{Contains}
use Rattle.std.proofs.lemmas.Option.{slice_get-get_or}
use Rattle.std.proofs.lemmas.List.{get_or-set_same, get_or-set_other, length-set}
use Rattle.sw_graph.specs.Graphs.{Graph, HasEdge, successors}
use Rattle.sw_graph.specs.Cycles.{Walk, Reaches}
use Rattle.sw_graph.specs.Search.{Has, AddsEdge, IsEmpty, IsTurned}
use Rattle.sw_graph.proofs.MarkLemmas.{has_from, contains_from, has_at, same', within', successors_past, get_push, get_end}
use Rattle.sw_graph.proofs.CycleLemmas.{has_which, walk_on}

-- ---- edges

edges_at : (g : Graph) (a : ℕ) → a < length g → successors g a ≡ get_or g a []
edges_at g a h = ap (λ o. unwrap_or o []) (slice_get-get_or g a [] h)

set_here : (g : Graph) (a : ℕ) (xs : List ℕ) → a < length g → successors (set g a xs) a ≡ xs
set_here g a xs h = edges_at (set g a xs) a (omega (arith, length-set g a xs)) ∙ get_or-set_same g a xs [] h

set_there : (g : Graph) (a b : ℕ) (xs : List ℕ) → (b ≡ a → ⊥) → successors (set g a xs) b ≡ successors g b
set_there g a b xs n = go (within' b (length g))
  where
    go : (b < length g) ⊎ (length g ≤ b) → successors (set g a xs) b ≡ successors g b
    go (inl h) = edges_at (set g a xs) b (omega (arith, length-set g a xs)) ∙ (get_or-set_other g a b xs [] n ∙ sym (edges_at g b h))
    go (inr h) = successors_past (set g a xs) b (omega (arith, length-set g a xs)) ∙ sym (successors_past g b h)

pub adds_none : (g : Graph) (from to : ℕ) → AddsEdge from to g g
adds_none g from to = record { size = refl; only = λ x y e. inl e }

pub added : (g : Graph) (from to : ℕ) (xs : List ℕ) → from < length g → xs ≡ successors g from ++ to ∷ [] → AddsEdge from to g (set g from xs)
added g from to xs h e = record { size = length-set g from xs; only = λ a b k. only a b (same' a from) k }
  where
    only : (a b : ℕ) → (a ≡ from) ⊎ (a ≡ from → ⊥) → HasEdge (set g from xs) a b → HasEdge g a b ⊎ ((a ≡ from) × (b ≡ to))
    only a b (inl s) k = go (has_which (successors g from) (to ∷ []) b (has_from (successors g from ++ to ∷ []) b (subst (λ ys. Contains ys b) (ap (successors (set g from xs)) s ∙ (set_here g from xs h ∙ e)) k)))
      where
        go : Has (successors g from) b ⊎ Has (to ∷ []) b → HasEdge g a b ⊎ ((a ≡ from) × (b ≡ to))
        go (inl m) = inl (subst (λ p. HasEdge g p b) (sym s) (contains_from (successors g from) b m))
        go (inr (inl m)) = inr (s, m)
        go (inr (inr m)) = absurd m
    only a b (inr n) k = inl (subst (λ ys. Contains ys b) (set_there g from a xs n) k)

pub empty_more : (old new : Graph) (xs : List ℕ) → xs ≡ [] → new ≡ old ++ xs ∷ [] → IsEmpty (length old) old → IsEmpty (length new) new
empty_more old new xs e more o = record { size = refl; none = λ a b k. go a b (within' a (length old)) (subst (λ g. HasEdge g a b) more k) }
  where
    past : (a : ℕ) → (length old < a) ⊎ (a ≤ length old) → (a ≡ length old → ⊥) → length old ≤ a → length (old ++ xs ∷ []) ≤ a
    past a (inl h) n l = omega (arith, length-append old (xs ∷ []))
    past a (inr h) n l = absurd (n (omega arith))

    last : (a b : ℕ) → (a ≡ length old) ⊎ (a ≡ length old → ⊥) → length old ≤ a → HasEdge (old ++ xs ∷ []) a b → ⊥
    last a b (inl s) l k = has_from [] b (subst (λ ys. Contains ys b) (ap (λ n. successors (old ++ xs ∷ []) n) s ∙ (ap (λ p. unwrap_or p []) (get_end old xs) ∙ e)) k)
    last a b (inr n) l k = has_from [] b (subst (λ ys. Contains ys b) (successors_past (old ++ xs ∷ []) a (past a (within' (length old) a) n l)) k)

    go : (a b : ℕ) → (a < length old) ⊎ (length old ≤ a) → HasEdge (old ++ xs ∷ []) a b → ⊥
    go a b (inl l) k = o.none a b (subst (λ ys. Contains ys b) (ap (λ p. unwrap_or p []) (get_push old xs a l)) k)
    go a b (inr l) k = last a b (same' a (length old)) l k

pub empty_turned : (graph turned : Graph) → IsEmpty (length graph) turned → IsTurned graph turned
empty_turned graph turned e = record { size = e.size; only = λ a b k. absurd (e.none b a k) }

-- one more edge, which is the other way round in the graph
pub turned_more : (graph old new : Graph) (xs : List ℕ) (a n i : ℕ) → n ≡ a → successors graph a ≡ xs → i < length xs → IsTurned graph old → AddsEdge (get_or xs i 0) n old new → IsTurned graph new
turned_more graph old new xs a n i same e h t d = record { size = d.size ∙ t.size; only = λ x y k. go x y (d.only y x k) }
  where
    there : HasEdge graph a (get_or xs i 0)
    there = subst (λ ys. Contains ys (get_or xs i 0)) (sym e) (contains_from xs (get_or xs i 0) (has_at xs i h))

    go : (x y : ℕ) → HasEdge old y x ⊎ ((y ≡ get_or xs i 0) × (x ≡ n)) → HasEdge graph x y
    go x y (inl k) = t.only x y k
    go x y (inr p) = subst (λ z. HasEdge graph z y) (sym (p.1 ∙ same)) (subst (λ z. HasEdge graph a z) (sym p.0) there)

-- ---- walks

walk_turned : (graph turned : Graph) → IsTurned graph turned → (n a b : ℕ) → Walk turned n a b → Walk graph n b a
walk_turned graph turned t zero a b w = sym w
walk_turned graph turned t (suc n) a b w = walk_on graph n b w.0 a (walk_turned graph turned t n w.0 b w.2) (t.only w.0 a w.1)

pub reaches_turned : (graph turned : Graph) (a b : ℕ) → IsTurned graph turned → Reaches turned a b → Reaches graph b a
reaches_turned graph turned a b t r = record { edges = r.edges; walk = walk_turned graph turned t (suc r.edges) a b r.walk }

walk_join : (graph : Graph) (n a b c : ℕ) → Walk graph n a b → Reaches graph b c → Reaches graph a c
walk_join graph zero a b c w r = subst (λ x. Reaches graph x c) (sym w) r
walk_join graph (suc n) a b c w r = let s = walk_join graph n w.0 b c w.2 r in record { edges = suc s.edges; walk = (w.0, w.1, s.walk) }

pub reaches_join : (graph : Graph) (a b c : ℕ) → Reaches graph a b → Reaches graph b c → Reaches graph a c
reaches_join graph a b c r s = walk_join graph (suc r.edges) a b c r.walk s
