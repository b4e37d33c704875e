-- The least set.
use Rattle.std.proofs.Common.{◌≡◌, ℕ, suc, ◌+◌, ◌<◌, ◌≤◌, Bool, true, false, ◌&&◌, ◌||◌, List, [], ◌∷◌, length, set, refl, sym, ap, ◌∙◌, arith, subst}
use mathlib.Core.Logic.{◌⊎◌, inl, inr}
use Rattle.sw_graph.specs.Graphs.{Graph, marked, successors}
use Rattle.sw_graph.specs.Search.{Has}
use Rattle.sw_graph.specs.Least.{all_in, IsClosed, IsInEachClosed, IsClosedBelow, IsLeast}
use Rattle.sw_graph.proofs.MarkLemmas.{true≢, has_from, contains_from, within', marked_within, marked_set}

both_true : (x y : Bool) → (x && y) ≡ true → (x ≡ true) × (y ≡ true)
both_true true y h = (refl, h)
both_true false y h = true≢ h

and_true : (x y : Bool) → x ≡ true → y ≡ true → (x && y) ≡ true
and_true true y e h = h
and_true false y e h = true≢ e

-- the test over a list, and each of its elements
each_in : (s : ℕ → Bool) (xs : List ℕ) → all_in s xs ≡ true → (b : ℕ) → Has xs b → s b ≡ true
each_in s [] h b k = absurd k
each_in s (x ∷ xs) h b (inl e) = ap s e ∙ (both_true (s x) (all_in s xs) h).0
each_in s (x ∷ xs) h b (inr k) = each_in s xs (both_true (s x) (all_in s xs) h).1 b k

in_each : (s : ℕ → Bool) (xs : List ℕ) → ((b : ℕ) → Has xs b → s b ≡ true) → all_in s xs ≡ true
in_each s [] h = refl
in_each s (x ∷ xs) h = and_true (s x) (all_in s xs) (h x (inl refl)) (in_each s xs (λ b k. h b (inr k)))

-- one more number: it is allowed, and all its successors are marked
pub least_add : (graph : Graph) (allowed table : List Bool) (a : ℕ) → a < length table → IsInEachClosed graph allowed table → marked allowed a ≡ true → all_in (marked table) (successors graph a) ≡ true → IsInEachClosed graph allowed (set table a true)
least_add graph allowed table a h old m all = record { each = λ s c t k. go s c t (marked_set table a t h k) }
  where
    here : (s : ℕ → Bool) → IsClosed graph allowed s → s a ≡ true
    here s c = c a m (λ b e. old.each s c b (each_in (marked table) (successors graph a) all b (has_from (successors graph a) b e)))

    go : (s : ℕ → Bool) → IsClosed graph allowed s → (t : ℕ) → (t ≡ a) ⊎ (marked table t ≡ true) → s t ≡ true
    go s c t (inl e) = ap s e ∙ here s c
    go s c t (inr k) = old.each s c t k

-- nothing is marked
pub none_least : (graph : Graph) (allowed table : List Bool) → ((t : ℕ) → marked table t ≡ false) → IsInEachClosed graph allowed table
none_least graph allowed table h = record { each = λ s c t m. true≢ (sym (h t) ∙ m) }

pub tells : (graph : Graph) (allowed table : List Bool) → length allowed ≡ length table → IsInEachClosed graph allowed table → IsClosedBelow graph allowed table (length table) → IsLeast graph allowed table
tells graph allowed table e a c =
    record {
      closed = λ u m h. c.each u (subst (λ n. u < n) e (marked_within allowed u m)) m (in_each (marked table) (successors graph u) (λ b k. h b (contains_from (successors graph u) b k)));
      least = a;
    }

last : (k t : ℕ) → k < t + 1 → (k < t) ⊎ (k ≡ t)
last k t h = go (within' k t)
  where
    go : (k < t) ⊎ (t ≤ k) → (k < t) ⊎ (k ≡ t)
    go (inl m) = inl m
    go (inr m) = inr (omega arith)

or_false' : (a b : Bool) → (a || b) ≡ false → (a ≡ false) × (b ≡ false)
or_false' true b h = true≢ (sym h)
or_false' false b h = (refl, h)

-- one more number is looked at
pub closed_more : (graph : Graph) (allowed old new : List Bool) (t : ℕ) (more added : Bool)
    → (added ≡ false → IsClosedBelow graph allowed old t)
    → (more ≡ false → new ≡ old)
    → (more ≡ false → marked allowed t ≡ true → all_in (marked new) (successors graph t) ≡ true → marked new t ≡ true)
    → (more || added) ≡ false → IsClosedBelow graph allowed new (t + 1)
closed_more graph allowed old new t more added below same here h =
    let b = or_false' more added h in
    let c : IsClosedBelow graph allowed new t = subst (λ table. IsClosedBelow graph allowed table t) (sym (same b.0)) (below b.1) in
    record { each = λ k l. go c k (here b.0) (last k t l) }
  where
    go : IsClosedBelow graph allowed new t → (k : ℕ) → (marked allowed t ≡ true → all_in (marked new) (successors graph t) ≡ true → marked new t ≡ true) → (k < t) ⊎ (k ≡ t) → marked allowed k ≡ true → all_in (marked new) (successors graph k) ≡ true → marked new k ≡ true
    go c k here (inl l) = c.each k l
    go c k here (inr e) = subst (λ u. marked allowed u ≡ true → all_in (marked new) (successors graph u) ≡ true → marked new u ≡ true) (sym e) here

pub or_true : (more added : Bool) (a b c : ℕ) → (more ≡ true → suc a ≡ b) → (more ≡ false → a ≡ b) → (added ≡ true → b < c) → b ≤ c → ((more || added) ≡ true → a < c) × (a ≤ c)
or_true true added a b c f g k l = let e = f refl in ((λ _. omega arith), omega arith)
or_true false added a b c f g k l = let e = g refl in ((λ h. let m = k h in omega arith), omega arith)
