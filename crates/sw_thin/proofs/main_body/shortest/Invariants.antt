use Rattle.std.proofs.Common.{◌≡◌, ◌++◌, take}
use Rattle.std.specs.List.{flat_map}
use Rattle.sw_thin.specs.ShortestText.{first_line}
use Rattle.sw_thin.specs.TreeReading.{line_of}
use Rattle.sw_thin.proofs.main_body.shortest.Given as goal

-- the lines so far are written
abbrev pub invariant-loop-stmt : goal.invariant-loop-stmt
invariant-loop-stmt l = l.text ≡ first_line ++ flat_map line_of (take l.stmt-index l.body)
