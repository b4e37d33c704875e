use Rattle.std.proofs.Common.{◌≡◌, ◌++◌, ◌∷◌, take}
use Rattle.std.specs.List.{flat_map}
use Rattle.sw_declared.specs.Declarations.{label_text}
use Rattle.sw_declared.specs.Spelling.{spelled_text, spelled_label}
use Rattle.sw_declared.proofs.spelling.spelled_call.Given as goal

abbrev pub invariant-loop-argument : goal.invariant-loop-argument
invariant-loop-argument l = l.key.items ≡ spelled_text l.name ++ flat_map (λ a. 1 ∷ spelled_label (label_text a.label)) (take l.argument-index l.arguments)
