use Rattle.std.proofs.Common.{take, [], ◌∷◌}
use Rattle.std.specs.List.{flat_map}
use Rattle.sw_names.specs.Keys.{case_key}
use Rattle.sw_names.specs.Meeting.{Meets}
use Rattle.sw_names.proofs.keys.meet_cases.Given as goal

abbrev pub invariant-loop-case : goal.invariant-loop-case
invariant-loop-case l = Meets (flat_map (λ x. case_key x ∷ []) (take l.case-index l.cases)) l.initial.scope l.scope
