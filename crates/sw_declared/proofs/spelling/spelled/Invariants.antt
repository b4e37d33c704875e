use Rattle.std.proofs.Common.{◌≡◌, ◌++◌, ◌∷◌, take}
use Rattle.std.specs.List.{flat_map}
use Rattle.sw_declared.specs.Spelling.{spelled_text, spelled_label}
use Rattle.sw_declared.proofs.spelling.spelled.Given as goal

abbrev pub invariant-loop-label : goal.invariant-loop-label
invariant-loop-label l = l.key.items ≡ spelled_text l.name ++ flat_map (λ label. 1 ∷ spelled_label label) (take l.label-index l.labels)
