use Rattle.std.proofs.Common.{◌≡◌, ◌++◌, take}
use Rattle.sw_thin.specs.ReportText.{escaped}
use Rattle.sw_thin.proofs.report_lines.push_escaped.Given as goal

-- the text so far is escaped
abbrev pub invariant-loop-c : goal.invariant-loop-c
invariant-loop-c l = l.out ≡ l.fn.out ++ escaped (take l.c-index l.text)
