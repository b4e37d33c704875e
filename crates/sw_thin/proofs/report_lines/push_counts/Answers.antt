use Rattle.std.proofs.lemmas.Result.{on_ok_weaker}
use Rattle.std.specs.Prelude.{codes}
use Rattle.sw_thin.specs.ReportText.{number_line}
use Rattle.sw_thin.proofs.ReportLemmas.{three_pushed}
use Rattle.sw_thin.proofs.report_lines.push_counts.Goals as goal

pub returns : goal.returns
returns c =
    on_ok_weaker c.push_all.result (λ h. three_pushed _ _ _ _ (number_line (codes "statements ") c.args.statements) (number_line (codes "events ") c.args.events) _ c.in_ok-push_number_line.ensures c.in_ok-push_number_line-2.ensures h) c.push_all.ensures.ok
