-- What is marked, and what is forgotten.
use Rattle.std.proofs.Common.{◌≡◌, ℕ, ◌+◌, ◌<◌, ◌≤◌, Bool, true, false, List, [], ◌∷◌, length, get_or, set, drop, refl, sym, ap, ◌∙◌, arith, subst}
use mathlib.Core.Logic.{◌⊎◌, inl, inr}
use Rattle.std.proofs.lemmas.List.{get_or-set_same, get_or-set_other, length-set}
use Rattle.sw_graph.specs.Graphs.{Graph, marked}
use Rattle.sw_graph.specs.Cycles.{IsOnCycle, NeverRise, Reaches, AreOnCycles}
use Rattle.sw_graph.specs.Search.{Has, Searched, IsClear, IsTurned, Marks, IsBoth, AreBelow}
use Rattle.sw_graph.proofs.MarkLemmas.{at, within', same', marked_within, marked_set, true≢}
use Rattle.sw_graph.proofs.CycleLemmas.{set_kept, drops, drop_all, found, points_past}
use Rattle.sw_graph.proofs.TurnLemmas.{reaches_turned, reaches_join}

pub not_true : (b : Bool) → (b ≡ true → ⊥) → b ≡ false
not_true true h = absurd (h refl)
not_true false h = refl

last : (k t : ℕ) → k < t + 1 → (k < t) ⊎ (k ≡ t)
last k t h = go (within' k t)
  where
    go : (k < t) ⊎ (t ≤ k) → (k < t) ⊎ (k ≡ t)
    go (inl m) = inl m
    go (inr m) = inr (omega arith)

-- ---- marks that are set

pub marks_none : (R : ℕ → Type 0) (table : List Bool) → Marks R table table
marks_none R table = record { size = refl; only = λ u m. inl m; kept = λ u m. m }

pub marks_set : (R : ℕ → Type 0) (table : List Bool) (a : ℕ) → a < length table → R a → Marks R table (set table a true)
marks_set R table a h r = record {
  size = length-set table a true;
  only = λ u m. go u (marked_set table a u h m);
  kept = λ u m. set_kept table a u h m;
}
  where
    go : (u : ℕ) → (u ≡ a) ⊎ (marked table u ≡ true) → (marked table u ≡ true) ⊎ R u
    go u (inl e) = inr (subst R (sym e) r)
    go u (inr m) = inl m

pub marks_more : (R S : ℕ → Type 0) (s0 s1 s2 : List Bool) → ((u : ℕ) → S u → R u) → Marks R s0 s1 → Marks S s1 s2 → Marks R s0 s2
marks_more R S s0 s1 s2 f a b = record {
  size = b.size ∙ a.size;
  only = λ u m. second u (b.only u m);
  kept = λ u m. b.kept u (a.kept u m);
}
  where
    second : (u : ℕ) → (marked s1 u ≡ true) ⊎ S u → (marked s0 u ≡ true) ⊎ R u
    second u (inl m) = a.only u m
    second u (inr s) = inr (f u s)

-- what was seen of the numbers that lead back, and the number itself
pub marks_both : (turned : Graph) (ranks : List ℕ) (chosen seen table table' back : List Bool) (queue numbers : List ℕ) (t : ℕ)
    → t < length table → marked chosen t ≡ true → marked seen t ≡ true → Searched turned ranks t back queue (length queue) → numbers ≡ queue
    → Marks (λ u. Has numbers u × (marked chosen u ≡ true) × (marked seen u ≡ true)) table table'
    → Marks (IsBoth turned chosen seen t) table (set table' t true)
marks_both turned ranks chosen seen table table' back queue numbers t h c m s e k =
    marks_more (IsBoth turned chosen seen t) (IsBoth turned chosen seen t) table table' (set table' t true) (λ u r. r)
    (marks_more (IsBoth turned chosen seen t) (λ u. Has numbers u × (marked chosen u ≡ true) × (marked seen u ≡ true)) table table table' (λ u r. (r.1, r.2, inr (s.reached u (s.marks u (subst (λ q. Has q u) e r.0))))) (marks_none (IsBoth turned chosen seen t) table) k)
    (marks_set (IsBoth turned chosen seen t) table' t (omega (arith, k.size)) (c, m, inl refl))

-- ---- marks that are taken back

pub unset : (table : List Bool) (a u : ℕ) → a < length table → marked (set table a false) u ≡ true → (marked table u ≡ true) × (u ≡ a → ⊥)
unset table a u h m = go (same' u a)
  where
    within : u < length table
    within = omega (arith, marked_within (set table a false) u m, length-set table a false)

    go : (u ≡ a) ⊎ (u ≡ a → ⊥) → (marked table u ≡ true) × (u ≡ a → ⊥)
    go (inl e) = true≢ (sym (get_or-set_same table a false false h) ∙ (ap (λ k. get_or (set table a false) k false) (sym e) ∙ (sym (at (set table a false) u (marked_within (set table a false) u m)) ∙ m)))
    go (inr n) = (at table u within ∙ (sym (get_or-set_other table a u false false n) ∙ (sym (at (set table a false) u (marked_within (set table a false) u m)) ∙ m)), n)

pub unset_past : (table : List Bool) (a u : ℕ) → length table ≤ a → marked table u ≡ true → (marked table u ≡ true) × (u ≡ a → ⊥)
unset_past table a u h m = let w = marked_within table u m in (m, λ e. absurd (omega (arith, w, e)))

-- one more number is unmarked
pub left_more : (numbers : List ℕ) (i : ℕ) (table table' : List Bool) → i < length numbers
    → ((u : ℕ) → marked table' u ≡ true → (marked table u ≡ true) × (u ≡ get_or numbers i 0 → ⊥))
    → ((u : ℕ) → marked table u ≡ true → Has (drop i numbers) u) → (u : ℕ) → marked table' u ≡ true → Has (drop (i + 1) numbers) u
left_more numbers i table table' h only left u m = let o = only u m in go o.1 (subst (λ xs. Has xs u) (drops numbers i (get_or numbers i 0) h refl) (left u o.0))
  where
    go : (u ≡ get_or numbers i 0 → ⊥) → Has (get_or numbers i 0 ∷ drop (i + 1) numbers) u → Has (drop (i + 1) numbers) u
    go n (inl e) = absurd (n e)
    go n (inr k) = k

pub all_unmarked : (numbers : List ℕ) (i count : ℕ) (table : List Bool) → i ≡ length numbers → length table ≡ count → ((u : ℕ) → marked table u ≡ true → Has (drop i numbers) u) → IsClear count table []
all_unmarked numbers i count table e size left = record {
  size = size;
  none = λ u. not_true (marked table u) (λ m. drop_all numbers u (subst (λ (n : ℕ). Has (drop n numbers) u) e (left u m)));
  empty = refl;
}

-- ---- one more number

module _ (graph : Graph) (chosen table : List Bool) (t : ℕ) (b : AreBelow graph chosen table t) where
  -- it is chosen and on a cycle only where it was marked before
  pub below_kept : (marked chosen t ≡ true → IsOnCycle graph t → marked table t ≡ true) → AreBelow graph chosen table (t + 1)
  below_kept h = record { size = b.size; only = b.only; all = λ a l. go a (last a t l) }
    where
      go : (a : ℕ) → (a < t) ⊎ (a ≡ t) → marked chosen a ≡ true → IsOnCycle graph a → marked table a ≡ true
      go a (inl l) c o = b.all a l c o
      go a (inr e) c o = ap (marked table) e ∙ h (sym (ap (marked chosen) e) ∙ c) (subst (IsOnCycle graph) e o)

  -- it was searched from
  pub below_more : (turned : Graph) (ranks : List ℕ) (seen : List Bool) (queue : List ℕ) (table' : List Bool)
      → t < length graph → NeverRise graph ranks → IsTurned graph turned → Searched graph ranks t seen queue (length queue)
      → Marks (IsBoth turned chosen seen t) table table' → (marked seen t ≡ true → marked table' t ≡ true) → AreBelow graph chosen table' (t + 1)
  below_more turned ranks seen queue table' within f r s m here = record {
    size = m.size ∙ b.size;
    only = λ a k. only a (m.only a k);
    all = λ a l. all a (last a t l);
  }
    where
      circle : (a : ℕ) → Reaches graph t a → (a ≡ t) ⊎ Reaches turned t a → IsOnCycle graph a
      circle a w (inl e) = subst (IsOnCycle graph) (sym e) (subst (λ x. Reaches graph t x) e w)
      circle a w (inr v) = reaches_join graph a t a (reaches_turned graph turned t a r v) w

      only : (a : ℕ) → (marked table a ≡ true) ⊎ IsBoth turned chosen seen t a → (marked chosen a ≡ true) × IsOnCycle graph a
      only a (inl k) = b.only a k
      only a (inr p) = (p.0, circle a (s.reached a p.1) p.2)

      all : (a : ℕ) → (a < t) ⊎ (a ≡ t) → marked chosen a ≡ true → IsOnCycle graph a → marked table' a ≡ true
      all a (inl l) c o = m.kept a (b.all a l c o)
      all a (inr e) c o = ap (marked table') e ∙ here (found graph ranks t seen queue within f s (subst (IsOnCycle graph) e o))

pub below_none : (graph : Graph) (chosen table : List Bool) → length table ≡ length graph → ((u : ℕ) → marked table u ≡ false) → AreBelow graph chosen table 0
below_none graph chosen table size none = record { size = size; only = λ a m. true≢ (sym (none a) ∙ m); all = λ a l. absurd (omega arith) }

pub below_all : (graph : Graph) (chosen table : List Bool) (n : ℕ) → length graph ≤ n → AreBelow graph chosen table n → AreOnCycles graph chosen table
below_all graph chosen table n h b = record {
  length = b.size;
  only = b.only;
  all = λ a c o. let w = points_past graph a o.walk.0 o.walk.1 in b.all a (omega arith) c o;
}
