-- The search for cycles.
use Rattle.std.proofs.Common.{◌≡◌, ℕ, zero, suc, ◌+◌, ◌<◌, ◌≤◌, not, Bool, true, false, List, [], ◌∷◌, ◌++◌, length, get_or, set, drop, refl, sym, ap, ◌∙◌, arith, subst, append_assoc, append-nil, length-append, drop-cons, add-one, cond}
use mathlib.Core.Logic.{◌⊎◌, inl, inr}
use Rattle.std.specs.List.{count_by}
use Rattle.std.proofs.lemmas.List.{get_or-set_same, get_or-set_other, length-set}
use Rattle.std.proofs.lemmas.List.Sums.{sum_by-cons, sum_by-set}
use Rattle.sw_graph.specs.Graphs.{Graph, marked, successors, entry}
use Rattle.sw_graph.specs.Cycles.{Walk, IsOnCycle, NeverRise, Reaches}
use Rattle.sw_graph.specs.Graphs.{HasEdge}
use Rattle.sw_graph.specs.Search.{Has}
use Rattle.sw_graph.specs.Search.{Visited, IsSpent, Searched, IsClear}
use Rattle.sw_graph.proofs.MarkLemmas.{at, successors_past, has_at, has_from, contains_from, within', same', marked_within, marked_set, true≢}

-- ---- lists

pub has_left : (xs ys : List ℕ) (u : ℕ) → Has xs u → Has (xs ++ ys) u
has_left [] ys u h = absurd h
has_left (x ∷ xs) ys u (inl e) = inl e
has_left (x ∷ xs) ys u (inr h) = inr (has_left xs ys u h)

pub has_right : (xs ys : List ℕ) (u : ℕ) → Has ys u → Has (xs ++ ys) u
has_right [] ys u h = h
has_right (x ∷ xs) ys u h = inr (has_right xs ys u h)

pub has_which : (xs ys : List ℕ) (u : ℕ) → Has (xs ++ ys) u → Has xs u ⊎ Has ys u
has_which [] ys u h = inr h
has_which (x ∷ xs) ys u (inl e) = inl (inl e)
has_which (x ∷ xs) ys u (inr h) = go (has_which xs ys u h)
  where
    go : Has xs u ⊎ Has ys u → Has (x ∷ xs) u ⊎ Has ys u
    go (inl k) = inl (inr k)
    go (inr k) = inr k

-- ---- marks

pub set_same : (seen : List Bool) (u : ℕ) → u < length seen → marked (set seen u true) u ≡ true
set_same seen u h = at (set seen u true) u (omega (arith, length-set seen u true)) ∙ get_or-set_same seen u true false h

pub set_kept : (seen : List Bool) (u v : ℕ) → u < length seen → marked seen v ≡ true → marked (set seen u true) v ≡ true
set_kept seen u v h m = go (same' v u)
  where
    go : (v ≡ u) ⊎ (v ≡ u → ⊥) → marked (set seen u true) v ≡ true
    go (inl e) = ap (marked (set seen u true)) e ∙ set_same seen u h
    go (inr n) = let k = marked_within seen v m in at (set seen u true) v (omega (arith, k, length-set seen u true)) ∙ (get_or-set_other seen u v true false n ∙ (sym (at seen v k) ∙ m))

count_set : (seen : List Bool) (u : ℕ) → u < length seen → marked seen u ≡ false → count_by not (set seen u true) + 1 ≡ count_by not seen
count_set seen u h m =
    let s = sum_by-set (λ (b : Bool). cond (not b) 1 0) seen u true false h in
    let e : get_or seen u false ≡ false = sym (at seen u h) ∙ m in
    let one : ◌≡◌ {A = ℕ} (cond (not (get_or seen u false)) 1 0) 1 = ap (λ b. cond (not b) 1 0) e in
    omega (arith, s, one)

count_none : (seen : List Bool) → ((u : ℕ) → marked seen u ≡ false) → count_by not seen ≡ length seen
count_none [] h = refl
count_none (b ∷ seen) h =
    let r = count_none seen (λ u. h (suc u)) in
    let one : ◌≡◌ {A = ℕ} (cond (not b) 1 0) 1 = ap (λ c. cond (not c) 1 0) (h 0) in
    let more : count_by not (b ∷ seen) ≡ cond (not b) 1 0 + count_by not seen = sum_by-cons (λ (c : Bool). cond (not c) 1 0) b seen in
    omega (arith, r, one, more)

-- ---- looking at numbers

pub visited_none : (ranks : List ℕ) (rank : ℕ) (seen : List Bool) (queue : List ℕ) → Visited ranks rank [] seen queue seen queue
visited_none ranks rank seen queue = record {
  size = refl;
  sum = refl;
  more = [];
  grown = sym (append-nil queue);
  kept = λ u m. m;
  found = λ u m. inl m;
  marks = λ u h. absurd h;
  all = λ u h. absurd h;
}

pub visited_one : (ranks : List ℕ) (rank u : ℕ) (seen : List Bool) (queue : List ℕ) → u < length seen → marked seen u ≡ false → Visited ranks rank (u ∷ []) seen queue (set seen u true) (queue ++ u ∷ [])
visited_one ranks rank u seen queue h m = record {
  size = length-set seen u true;
  sum = omega (arith, count_set seen u h m, length-append queue (u ∷ []));
  more = u ∷ [];
  grown = refl;
  kept = λ v k. set_kept seen u v h k;
  found = λ v k. found v (marked_set seen u v h k);
  marks = λ v k. there v k;
  all = λ v k e w. there v k;
}
  where
    found : (v : ℕ) → (v ≡ u) ⊎ (marked seen v ≡ true) → (marked seen v ≡ true) ⊎ (Has (u ∷ []) v × Has (u ∷ []) v)
    found v (inl e) = inr (inl e, inl e)
    found v (inr k) = inl k

    there : (v : ℕ) → Has (u ∷ []) v → marked (set seen u true) v ≡ true
    there v (inl e) = ap (marked (set seen u true)) e ∙ set_same seen u h
    there v (inr k) = absurd k

pub visited_join : (ranks : List ℕ) (rank : ℕ) (xs ys : List ℕ) (s0 : List Bool) (q0 : List ℕ) (s1 : List Bool) (q1 : List ℕ) (s2 : List Bool) (q2 : List ℕ)
    → Visited ranks rank xs s0 q0 s1 q1 → Visited ranks rank ys s1 q1 s2 q2 → Visited ranks rank (xs ++ ys) s0 q0 s2 q2
visited_join ranks rank xs ys s0 q0 s1 q1 s2 q2 a b = record {
  size = b.size ∙ a.size;
  sum = b.sum ∙ a.sum;
  more = a.more ++ b.more;
  grown = b.grown ∙ (ap (λ q. q ++ b.more) a.grown ∙ append_assoc q0 a.more b.more);
  kept = λ u m. b.kept u (a.kept u m);
  found = λ u m. found u (b.found u m);
  marks = λ u h. marks u (has_which a.more b.more u h);
  all = λ u h e w. all u (has_which xs ys u h) e w;
}
  where
    found1 : (u : ℕ) → (marked s0 u ≡ true) ⊎ (Has xs u × Has a.more u) → (marked s0 u ≡ true) ⊎ (Has (xs ++ ys) u × Has (a.more ++ b.more) u)
    found1 u (inl m) = inl m
    found1 u (inr p) = inr (has_left xs ys u p.0, has_left a.more b.more u p.1)

    found : (u : ℕ) → (marked s1 u ≡ true) ⊎ (Has ys u × Has b.more u) → (marked s0 u ≡ true) ⊎ (Has (xs ++ ys) u × Has (a.more ++ b.more) u)
    found u (inl m) = found1 u (a.found u m)
    found u (inr p) = inr (has_right xs ys u p.0, has_right a.more b.more u p.1)

    marks : (u : ℕ) → Has a.more u ⊎ Has b.more u → marked s2 u ≡ true
    marks u (inl h) = b.kept u (a.marks u h)
    marks u (inr h) = b.marks u h

    all : (u : ℕ) → Has xs u ⊎ Has ys u → entry ranks u ≡ rank → u < length s2 → marked s2 u ≡ true
    all u (inl h) e w = b.kept u (a.all u h e (omega (arith, b.size)))
    all u (inr h) e w = b.all u h e w

-- ---- the search

spent_kept : (graph : Graph) (ranks : List ℕ) (rank : ℕ) (s0 s1 : List Bool) (u : ℕ) → length s1 ≡ length s0 → ((v : ℕ) → marked s0 v ≡ true → marked s1 v ≡ true) → IsSpent graph ranks rank s0 u → IsSpent graph ranks rank s1 u
spent_kept graph ranks rank s0 s1 u e kept a = record { each = λ v h r w. kept v (a.each v h r (omega (arith, e))) }

begun : (graph : Graph) (ranks : List ℕ) (from : ℕ) (s0 : List Bool) (q0 : List ℕ) (s1 : List Bool) (q1 : List ℕ)
    → IsClear (length graph) s0 q0
    → Visited ranks (entry ranks from) (successors graph from) s0 q0 s1 q1 → Searched graph ranks from s1 q1 0
begun graph ranks from s0 q0 s1 q1 clear v =
    let same : q1 ≡ v.more = v.grown ∙ ap (λ q. q ++ v.more) clear.empty in
    record {
      size = v.size ∙ clear.size;
      sum = omega (arith, v.sum, count_none s0 clear.none, clear.size, ap length clear.empty);
      within = omega arith;
      reached = λ u m. reached u (v.found u m);
      marks = λ u h. v.marks u (subst (λ q. Has q u) same h);
      queued = λ u m. subst (λ q. Has q u) (sym same) (queued u (v.found u m));
      begun = record { each = λ u h e w. v.all u (has_from (successors graph from) u h) e w };
      spent = λ u m. inr (subst (λ q. Has q u) (sym same) (queued u (v.found u m)));
    }
  where
    reached : (u : ℕ) → (marked s0 u ≡ true) ⊎ (Has (successors graph from) u × Has v.more u) → Reaches graph from u
    reached u (inl m) = true≢ (sym (clear.none u) ∙ m)
    reached u (inr p) = record { edges = 0; walk = (u, contains_from (successors graph from) u p.0, refl) }

    queued : (u : ℕ) → (marked s0 u ≡ true) ⊎ (Has (successors graph from) u × Has v.more u) → Has v.more u
    queued u (inl m) = true≢ (sym (clear.none u) ∙ m)
    queued u (inr p) = p.1

pub begun_at : (graph : Graph) (ranks : List ℕ) (from : ℕ) (s0 : List Bool) (q0 : List ℕ) (s1 : List Bool) (q1 : List ℕ) (rank : ℕ) (xs : List ℕ)
    → rank ≡ entry ranks from → xs ≡ successors graph from
    → IsClear (length graph) s0 q0
    → Visited ranks rank xs s0 q0 s1 q1 → Searched graph ranks from s1 q1 0
begun_at graph ranks from s0 q0 s1 q1 rank xs e d clear v =
    begun graph ranks from s0 q0 s1 q1 clear (subst (λ n. Visited ranks n (successors graph from) s0 q0 s1 q1) e (subst (λ ys. Visited ranks rank ys s0 q0 s1 q1) d v))

pub walk_on : (graph : Graph) (n a b c : ℕ) → Walk graph n a b → HasEdge graph b c → Walk graph (suc n) a c
walk_on graph zero a b c w h = (c, subst (λ x. HasEdge graph x c) (sym w) h, refl)
walk_on graph (suc n) a b c w h = (w.0, w.1, walk_on graph n w.0 b c w.2 h)

reaches_on : (graph : Graph) (a b c : ℕ) → Reaches graph a b → HasEdge graph b c → Reaches graph a c
reaches_on graph a b c r h = record { edges = suc r.edges; walk = walk_on graph (suc r.edges) a b c r.walk h }

pub drops : (xs : List ℕ) (i u : ℕ) → i < length xs → u ≡ get_or xs i 0 → drop i xs ≡ u ∷ drop (i + 1) xs
drops xs i u h e = rw (add-one i) (drop-cons xs i 0 h ∙ ap (λ y. y ∷ drop (suc i) xs) (sym e))

has_later : (xs ys : List ℕ) (i u : ℕ) → Has (drop i xs) u → Has (drop i (xs ++ ys)) u
has_later xs ys zero u h = has_left xs ys u h
has_later [] ys (suc i) u h = absurd h
has_later (x ∷ xs) ys (suc i) u h = has_later xs ys i u h

has_added : (xs ys : List ℕ) (i u : ℕ) → i ≤ length xs → Has ys u → Has (drop i (xs ++ ys)) u
has_added xs ys zero u h k = has_right xs ys u k
has_added [] ys (suc i) u h k = absurd (omega arith)
has_added (x ∷ xs) ys (suc i) u h k = has_added xs ys i u (omega arith) k

pub stepped : (graph : Graph) (ranks : List ℕ) (from : ℕ) (s0 : List Bool) (q0 : List ℕ) (s1 : List Bool) (q1 : List ℕ) (place u : ℕ)
    → place < length q0 → u ≡ get_or q0 place 0
    → Searched graph ranks from s0 q0 place
    → Visited ranks (entry ranks from) (successors graph u) s0 q0 s1 q1 → Searched graph ranks from s1 q1 (place + 1)
stepped graph ranks from s0 q0 s1 q1 place u h is a v = record {
  size = v.size ∙ a.size;
  sum = v.sum ∙ a.sum;
  within = omega (arith, ap length v.grown, length-append q0 v.more);
  reached = λ x m. reached x (v.found x m);
  marks = λ x k. marks x (has_which q0 v.more x (subst (λ q. Has q x) v.grown k));
  queued = λ x m. subst (λ q. Has q x) (sym v.grown) (queued x (v.found x m));
  begun = spent_kept graph ranks (entry ranks from) s0 s1 from v.size v.kept a.begun;
  spent = λ x m. spent x (v.found x m);
}
  where
    marked_u : marked s0 u ≡ true
    marked_u = subst (λ x. marked s0 x ≡ true) (sym is) (a.marks (get_or q0 place 0) (has_at q0 place h))

    reached : (x : ℕ) → (marked s0 x ≡ true) ⊎ (Has (successors graph u) x × Has v.more x) → Reaches graph from x
    reached x (inl m) = a.reached x m
    reached x (inr p) = reaches_on graph from u x (a.reached u marked_u) (contains_from (successors graph u) x p.0)

    marks : (x : ℕ) → Has q0 x ⊎ Has v.more x → marked s1 x ≡ true
    marks x (inl k) = v.kept x (a.marks x k)
    marks x (inr k) = v.marks x k

    queued : (x : ℕ) → (marked s0 x ≡ true) ⊎ (Has (successors graph u) x × Has v.more x) → Has (q0 ++ v.more) x
    queued x (inl m) = has_left q0 v.more x (a.queued x m)
    queued x (inr p) = has_right q0 v.more x p.1

    here : IsSpent graph ranks (entry ranks from) s1 u
    here = record { each = λ y e r w. v.all y (has_from (successors graph u) y e) r w }

    waits : (x : ℕ) → Has (u ∷ drop (place + 1) q0) x → IsSpent graph ranks (entry ranks from) s1 x ⊎ Has (drop (place + 1) q1) x
    waits x (inl e) = inl (subst (IsSpent graph ranks (entry ranks from) s1) (sym e) here)
    waits x (inr k) = inr (subst (λ q. Has (drop (place + 1) q) x) (sym v.grown) (has_later q0 v.more (place + 1) x k))

    old : (x : ℕ) → IsSpent graph ranks (entry ranks from) s0 x ⊎ Has (drop place q0) x → IsSpent graph ranks (entry ranks from) s1 x ⊎ Has (drop (place + 1) q1) x
    old x (inl k) = inl (spent_kept graph ranks (entry ranks from) s0 s1 x v.size v.kept k)
    old x (inr k) = waits x (subst (λ q. Has q x) (drops q0 place u h is) k)

    spent : (x : ℕ) → (marked s0 x ≡ true) ⊎ (Has (successors graph u) x × Has v.more x) → IsSpent graph ranks (entry ranks from) s1 x ⊎ Has (drop (place + 1) q1) x
    spent x (inl m) = old x (a.spent x m)
    spent x (inr p) = inr (subst (λ q. Has (drop (place + 1) q) x) (sym v.grown) (has_added q0 v.more (place + 1) x (omega arith) p.1))

pub stepped_at : (graph : Graph) (ranks : List ℕ) (from : ℕ) (s0 : List Bool) (q0 : List ℕ) (s1 : List Bool) (q1 : List ℕ) (place u : ℕ) (rank : ℕ) (xs : List ℕ)
    → rank ≡ entry ranks from → xs ≡ successors graph u
    → place < length q0 → u ≡ get_or q0 place 0
    → Searched graph ranks from s0 q0 place
    → Visited ranks rank xs s0 q0 s1 q1 → Searched graph ranks from s1 q1 (place + 1)
stepped_at graph ranks from s0 q0 s1 q1 place u rank xs e d h is a v =
    stepped graph ranks from s0 q0 s1 q1 place u h is a (subst (λ n. Visited ranks n (successors graph u) s0 q0 s1 q1) e (subst (λ ys. Visited ranks rank ys s0 q0 s1 q1) d v))

-- ---- the answer

walk_falls : (graph : Graph) (ranks : List ℕ) (n a b : ℕ) → NeverRise graph ranks → Walk graph n a b → entry ranks b ≤ entry ranks a
walk_falls graph ranks zero a b f w = omega (arith, ap (entry ranks) w)
walk_falls graph ranks (suc n) a b f w = omega (arith, f.each a w.0 w.1, walk_falls graph ranks n w.0 b f w.2)

pub points_past : (graph : Graph) (a b : ℕ) → HasEdge graph a b → a < length graph
points_past graph a b h = go (within' a (length graph))
  where
    go : (a < length graph) ⊎ (length graph ≤ a) → a < length graph
    go (inl k) = k
    go (inr k) = absurd (subst (λ xs. Has xs b) (successors_past graph a k) (has_from (successors graph a) b h))

walk_within : (graph : Graph) (n a b : ℕ) → b < length graph → Walk graph n a b → a < length graph
walk_within graph zero a b h w = omega (arith, w)
walk_within graph (suc n) a b h w = points_past graph a w.0 w.1

pub drop_all : (xs : List ℕ) (u : ℕ) → Has (drop (length xs) xs) u → ⊥
drop_all [] u h = h
drop_all (x ∷ xs) u h = let e : length (x ∷ xs) ≡ suc (length xs) = omega arith in drop_all xs u (subst (λ (n : ℕ). Has (drop n (x ∷ xs)) u) e h)

stays : (graph : Graph) (ranks : List ℕ) (from : ℕ) (seen : List Bool) (queue : List ℕ) → from < length graph → NeverRise graph ranks → Searched graph ranks from seen queue (length queue)
    → (n a : ℕ) → marked seen a ≡ true → entry ranks a ≡ entry ranks from → Walk graph n a from → marked seen from ≡ true
stays graph ranks from seen queue h f s zero a m e w = subst (λ x. marked seen x ≡ true) w m
stays graph ranks from seen queue h f s (suc n) a m e w =
    let c = w.0 in
    let down : entry ranks c ≤ entry ranks a = f.each a c w.1 in
    let up : entry ranks from ≤ entry ranks c = walk_falls graph ranks n c from f w.2 in
    let same : entry ranks c ≡ entry ranks from = omega arith in
    let within : c < length seen = omega (arith, s.size, walk_within graph n c from h w.2) in
    stays graph ranks from seen queue h f s n c (next (s.spent a m) c w.1 same within) same w.2
  where
    next : IsSpent graph ranks (entry ranks from) seen a ⊎ Has (drop (length queue) queue) a → (c : ℕ) → HasEdge graph a c → entry ranks c ≡ entry ranks from → c < length seen → marked seen c ≡ true
    next (inl k) c e r l = k.each c e r l
    next (inr k) c e r l = absurd (drop_all queue a k)

-- from a number that stands on a cycle a step leads to one of its ranks, from which a walk leads back
first_step : (graph : Graph) (ranks : List ℕ) (from : ℕ) → NeverRise graph ranks → (o : IsOnCycle graph from) → entry ranks o.walk.0 ≡ entry ranks from
first_step graph ranks from f o =
    let down : entry ranks o.walk.0 ≤ entry ranks from = f.each from o.walk.0 o.walk.1 in
    let up : entry ranks from ≤ entry ranks o.walk.0 = walk_falls graph ranks o.edges o.walk.0 from f o.walk.2 in
    omega arith

pub found : (graph : Graph) (ranks : List ℕ) (from : ℕ) (seen : List Bool) (queue : List ℕ) → from < length graph → NeverRise graph ranks → Searched graph ranks from seen queue (length queue) → IsOnCycle graph from → marked seen from ≡ true
found graph ranks from seen queue h f s o =
    let same = first_step graph ranks from f o in
    let within : o.walk.0 < length seen = omega (arith, s.size, walk_within graph o.edges o.walk.0 from h o.walk.2) in
    stays graph ranks from seen queue h f s o.edges o.walk.0 (s.begun.each o.walk.0 o.walk.1 same within) same o.walk.2

pub no_rank : (graph : Graph) (ranks : List ℕ) (from : ℕ) → NeverRise graph ranks → ((u : ℕ) → HasEdge graph from u → entry ranks u ≡ entry ranks from → ⊥) → IsOnCycle graph from → ⊥
no_rank graph ranks from f h o = h o.walk.0 o.walk.1 (first_step graph ranks from f o)
