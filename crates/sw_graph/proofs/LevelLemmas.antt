-- Walks that grow by a step, and levels.
use Rattle.std.proofs.Common.{◌≡◌, ℕ, zero, suc, ◌<◌, ◌≤◌, Bool, true, false, ◌||◌, List, [], ◌∷◌, length, refl, sym, ap, ◌∙◌, arith, subst, cond}
use mathlib.Core.Logic.{◌⊎◌, inl, inr}
use Rattle.std.specs.List.{Contains}
use Rattle.sw_graph.specs.Graphs.{Graph, HasEdge, marked, successors, entry}
use Rattle.sw_graph.specs.Search.{Has}
use Rattle.sw_graph.specs.Levels.{HasStep, HasWalk, IsLevel, AreLevels, any_in, onward, TellsWalks, noted}
use Rattle.sw_graph.proofs.MarkLemmas.{true≢, has_from, contains_from, past, successors_past}

-- ---- the test over a list

either_true : (x y : Bool) → (x || y) ≡ true → (x ≡ true) ⊎ (y ≡ true)
either_true true y h = inl refl
either_true false y h = inr h

on_right : {A B C : Type 0} → (B → C) → A ⊎ B → A ⊎ C
on_right f (inl a) = inl a
on_right f (inr b) = inr (f b)

or_left : (x y : Bool) → x ≡ true → (x || y) ≡ true
or_left true y h = refl
or_left false y h = true≢ h

or_right : (x y : Bool) → y ≡ true → (x || y) ≡ true
or_right true y h = refl
or_right false y h = h

some_here : (s : ℕ → Bool) (x : ℕ) (xs : List ℕ) → (s x ≡ true) ⊎ ((b : ℕ) × Has xs b × (s b ≡ true)) → (b : ℕ) × Has (x ∷ xs) b × (s b ≡ true)
some_here s x xs (inl e) = (x, inl refl, e)
some_here s x xs (inr f) = (f.0, inr f.1, f.2)

some_in : (s : ℕ → Bool) (xs : List ℕ) → any_in s xs ≡ true → (b : ℕ) × Has xs b × (s b ≡ true)
some_in s [] h = true≢ h
some_in s (x ∷ xs) h = some_here s x xs (on_right (λ k. some_in s xs k) (either_true (s x) (any_in s xs) h))

in_some : (s : ℕ → Bool) (xs : List ℕ) (b : ℕ) → Has xs b → s b ≡ true → any_in s xs ≡ true
in_some s [] b k h = absurd k
in_some s (x ∷ xs) b (inl e) h = or_left (s x) (any_in s xs) (ap s (sym e) ∙ h)
in_some s (x ∷ xs) b (inr k) h = or_right (s x) (any_in s xs) (in_some s xs b k h)

one_of : (s : ℕ → Bool) (xs : List ℕ) → any_in s xs ≡ true → (b : ℕ) × Contains xs b × (s b ≡ true)
one_of s xs h = let f = some_in s xs h in (f.0, contains_from xs f.0 f.1, f.2)

is_one : (s : ℕ → Bool) (xs : List ℕ) (b : ℕ) → Contains xs b → s b ≡ true → any_in s xs ≡ true
is_one s xs b c h = in_some s xs b (has_from xs b c) h

pub any_in_same : (r s : ℕ → Bool) (xs : List ℕ) → ((u : ℕ) → r u ≡ s u) → any_in r xs ≡ any_in s xs
any_in_same r s [] h = refl
any_in_same r s (x ∷ xs) h = ap (λ b. b || any_in r xs) (h x) ∙ ap (λ b. s x || b) (any_in_same r s xs h)

pub any_in_past : (graph : Graph) (s : ℕ → Bool) (a : ℕ) → length graph ≤ a → any_in s (successors graph a) ≡ false
any_in_past graph s a h = ap (any_in s) (successors_past graph a h)

pub onward_past : (graph : Graph) (passed table : List Bool) (b : ℕ) → length graph ≤ b → length table ≤ b → onward graph passed (marked table) b ≡ false
onward_past graph passed table b h k = go (marked passed b)
  where
    go : (p : Bool) → cond p (any_in (marked table) (successors graph b)) (marked table b) ≡ false
    go true = any_in_past graph (marked table) b h
    go false = past table b k

-- ---- walks

-- where a step leads to a number at which walks begin, longer walks begin, and the other way round
pub walks_more : (graph : Graph) (passed table next : List Bool) (n : ℕ)
    → ((a : ℕ) → marked next a ≡ any_in (onward graph passed (marked table)) (successors graph a))
    → TellsWalks graph passed n table → TellsWalks graph passed (suc n) next
walks_more graph passed table next n is old = record {
  only = λ a m. only a (one_of (onward graph passed (marked table)) (successors graph a) (sym (is a) ∙ m));
  all = λ a w. is a ∙ all a w.0 w.1 w.2;
}
  where
    goes : (a b : ℕ) (p : Bool) → HasEdge graph a b → marked passed b ≡ p → cond p (any_in (marked table) (successors graph b)) (marked table b) ≡ true → HasWalk graph passed (suc n) a
    goes a b true e q h = let f = one_of (marked table) (successors graph b) h in (f.0, inr (b, e, q, f.1), old.only f.0 f.2)
    goes a b false e q h = (b, inl (e, q), old.only b h)

    only : (a : ℕ) → (b : ℕ) × HasEdge graph a b × (onward graph passed (marked table) b ≡ true) → HasWalk graph passed (suc n) a
    only a f = goes a f.0 (marked passed f.0) f.1 refl f.2

    all : (a b : ℕ) → HasStep graph passed a b → HasWalk graph passed n b → any_in (onward graph passed (marked table)) (successors graph a) ≡ true
    all a b (inl s) w =
        is_one (onward graph passed (marked table)) (successors graph a) b s.0
        (ap (λ p. cond p (any_in (marked table) (successors graph b)) (marked table b)) s.1 ∙ old.all b w)
    all a b (inr s) w =
        is_one (onward graph passed (marked table)) (successors graph a) s.0 s.1
        (ap (λ p. cond p (any_in (marked table) (successors graph s.0)) (marked table s.0)) s.2 ∙ is_one (marked table) (successors graph s.0) b s.3 (old.all b w))

-- ---- levels

level_step : (graph : Graph) (passed table : List Bool) (n a old : ℕ) (m : Bool) → marked table a ≡ m → TellsWalks graph passed (suc n) table → IsLevel graph passed n a old → IsLevel graph passed (suc n) a (noted old m (suc n))
level_step graph passed table n a zero true h walks k = walks.only a h
level_step graph passed table n a zero false h walks k = (omega arith, k, λ w. true≢ (sym h ∙ walks.all a w))
level_step graph passed table n a (suc o) m h walks k = (omega arith, k.1, k.2)

pub levels_more : (graph : Graph) (passed table : List Bool) (levels later : List ℕ) (n : ℕ)
    → ((a : ℕ) → a < length graph → entry later a ≡ noted (entry levels a) (marked table a) (suc n))
    → TellsWalks graph passed (suc n) table → AreLevels graph passed n levels → AreLevels graph passed (suc n) later
levels_more graph passed table levels later n told walks old =
    record { each = λ a h. subst (IsLevel graph passed (suc n) a) (sym (told a h)) (level_step graph passed table n a (entry levels a) (marked table a) refl walks (old.each a h)) }
