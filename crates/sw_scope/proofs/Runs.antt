-- What walks that follow one another leave.
use Rattle.std.proofs.Common.{◌≡◌, List, [], ◌∷◌, ◌++◌, refl}
use Rattle.sw_scope.specs.declared.seen.Seen.{Seen}
use Rattle.sw_scope.specs.Around.{Around}
use Rattle.sw_scope.specs.Events.{Event}
use Rattle.sw_scope.specs.Walk.{run, step}

pub run_append : (around : Around) (xs ys : List Event) (seen : Seen) → run around (xs ++ ys) seen ≡ run around ys (run around xs seen)
unfolding run
run_append around [] ys seen = refl
run_append around (x ∷ xs) ys seen = run_append around xs ys (step around x seen)
