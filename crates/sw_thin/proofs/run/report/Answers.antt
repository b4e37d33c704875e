use Rattle.std.proofs.Common.{◌++◌, length, ap, ◌∙◌}
use Rattle.std.specs.Prelude.{codes}
use Rattle.std.specs.List.{flat_map}
use Rattle.sw_thin.specs.ReportText.{counts_text, node_line, log_line, task_line}
use Rattle.sw_thin.specs.World.{the_task}
use Rattle.sw_thin.proofs.ReportLemmas.{report_pushed}
use Rattle.sw_thin.proofs.run.report.Goals as goal

pub returns : goal.returns
returns c =
    let w = c.args.world.now in
    report_pushed (codes "end done\n") (counts_text w.begun (length w.history)) (node_line 0 0) (flat_map (log_line 0) w.log) (task_line (the_task w.job)) c.in_ok-out.out c.push_counts.new.out c.push_node_line.new.out c.push_log.new.out c.push_task_line.new.out
    c.in_ok-out.ensures
    (c.in_ok-push_counts.ensures ∙ ap (λ n. c.in_ok-out.out ++ counts_text n (length c.history.result.now)) c.begun.ensures ∙ ap (λ h. c.in_ok-out.out ++ counts_text w.begun (length h)) c.history.ensures.value)
    c.in_ok-push_node_line.ensures
    (c.in_ok-push_log.ensures ∙ ap (λ l. c.push_node_line.new.out ++ flat_map (log_line 0) l) c.log.ensures)
    (c.in_ok-push_task_line.ensures ∙ ap (λ t. c.push_log.new.out ++ task_line t) c.task.ensures)
