use Rattle.std.proofs.Common.{take}
use Rattle.std.specs.List.{flat_map}
use Rattle.sw_names.specs.Keys.{requirement_keys}
use Rattle.sw_names.specs.Meeting.{Meets}
use Rattle.sw_names.proofs.keys.meet_requirements.Given as goal

abbrev pub invariant-loop-requirement : goal.invariant-loop-requirement
invariant-loop-requirement l = Meets (flat_map requirement_keys (take l.requirement-index l.requirements)) l.initial.scope l.scope
