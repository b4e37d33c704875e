use Rattle.std.proofs.Common.{take}
use Rattle.std.specs.List.{flat_map}
use Rattle.sw_names.specs.Keys.{file_keys}
use Rattle.sw_names.specs.Meeting.{Meets}
use Rattle.sw_names.proofs.keys.meet_decls.Given as goal

abbrev pub invariant-loop-decl : goal.invariant-loop-decl
invariant-loop-decl l = Meets (flat_map file_keys (take l.decl-index l.decls)) l.initial.scope l.scope
