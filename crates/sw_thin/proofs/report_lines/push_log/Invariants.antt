use Rattle.std.proofs.Common.{◌≡◌, ◌++◌, take}
use Rattle.std.specs.List.{flat_map}
use Rattle.sw_thin.specs.ReportText.{log_line}
use Rattle.sw_thin.proofs.report_lines.push_log.Given as goal

-- the lines so far are written
abbrev pub invariant-loop-line : goal.invariant-loop-line
invariant-loop-line l = l.out ≡ l.fn.out ++ flat_map (log_line l.node) (take l.line-index l.log)
