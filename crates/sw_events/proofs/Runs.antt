-- What runs of events that follow one another leave.
use Rattle.std.proofs.Common.{◌≡◌, ℕ, ◌+◌, ◌<◌, ◌≤◌, List, [], ◌∷◌, ◌++◌, take, length, get_or, refl, sym, ap, ◌∙◌, append-nil, append_assoc, map}
use Rattle.std.proofs.lemmas.List.{take_more, take_all}
use Rattle.sw_scope.specs.Around.{Around}
use Rattle.sw_scope.specs.declared.seen.Seen.{Seen}
use Rattle.sw_scope.specs.Events.{Event, each, in_turn}
use Rattle.sw_scope.specs.Walk.{run, step}

pub run_append : (around : Around) (xs ys : List Event) (seen : Seen) → run around (xs ++ ys) seen ≡ run around ys (run around xs seen)
unfolding run
run_append around [] ys seen = refl
run_append around (x ∷ xs) ys seen = run_append around xs ys (step around x seen)

pub run_cons : (around : Around) (x : Event) (ys : List Event) (seen : Seen) → run around (x ∷ ys) seen ≡ run around ys (run around (x ∷ []) seen)
unfolding run
run_cons around x ys seen = refl

pub run_none : (around : Around) (seen : Seen) → run around [] seen ≡ seen
unfolding run
run_none around seen = refl

pub each_append : {A : Type 0} (f : A → List Event) (xs : List A) (y : A) → each f (xs ++ y ∷ []) ≡ each f xs ++ f y
each_append f [] y = append-nil (f y)
each_append f (x ∷ xs) y = ap (λ l. f x ++ l) (each_append f xs y) ∙ sym (append_assoc (f x) (each f xs) (f y))

-- one more item is walked
pub each_step : {A : Type 0} (f : A → List Event) (around : Around) (start mid end : Seen) (xs : List A) (i : ℕ) (y : A) → i < length xs → y ≡ get_or xs i y
    → mid ≡ run around (each f (take i xs)) start → end ≡ run around (f y) mid → end ≡ run around (each f (take (i + 1) xs)) start
each_step f around start mid end xs i y h e p q =
    q ∙ ap (run around (f y)) p ∙ sym (run_append around (each f (take i xs)) (f y) start)
    ∙ ap (λ l. run around l start) (sym (each_append f (take i xs) y))
    ∙ ap (λ z. run around (each f (take i xs ++ z ∷ [])) start) e
    ∙ ap (λ l. run around (each f l) start) (sym (take_more xs i y h))

-- all items are walked
pub each_end : {A : Type 0} (f : A → List Event) (around : Around) (start end : Seen) (xs : List A) (i : ℕ) → end ≡ run around (each f (take i xs)) start → length xs ≤ i → end ≡ run around (each f xs) start
each_end f around start end xs i p h = p ∙ ap (λ l. run around (each f l) start) (take_all i xs h)

pub each_start : {A : Type 0} (f : A → List Event) (around : Around) (start : Seen) (xs : List A) → start ≡ run around (each f (take 0 xs)) start
unfolding run
each_start f around start [] = refl
each_start f around start (x ∷ xs) = refl

-- those of each are those of all, one after another
pub each_map : {A : Type 0} (f : A → List Event) (xs : List A) → in_turn (map f xs) ≡ each f xs
each_map f [] = refl
each_map f (x ∷ xs) = ap (λ l. f x ++ l) (each_map f xs)

-- two functions that give the same of each item give the same of a list
pub map_alike : {A B : Type 0} (f g : A → B) → ((x : A) → f x ≡ g x) → (xs : List A) → map f xs ≡ map g xs
map_alike f g h [] = refl
map_alike f g h (x ∷ xs) = ap (λ y. y ∷ map f xs) (h x) ∙ ap (λ ys. g x ∷ ys) (map_alike f g h xs)

-- and the same events in turn
pub turn_alike : {A : Type 0} (f g : A → List Event) → ((x : A) → f x ≡ g x) → (xs : List A) → in_turn (map f xs) ≡ each g xs
turn_alike f g h xs = ap in_turn (map_alike f g h xs) ∙ each_map g xs

-- for functions that walk over one thing after another
pub ruleset run_rules = (append_assoc, run_append, run_cons, run_none)
