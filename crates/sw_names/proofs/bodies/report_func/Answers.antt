use Rattle.std.proofs.Common.{false}
use Rattle.sw_names.proofs.Walked.{walked}
use Rattle.sw_events.specs.Parts.{part, func_events}
use Rattle.sw_names.proofs.bodies.report_func.Goals as goal

pub returns : goal.returns
returns c = walked c.walks_find_what_is_broken.ensures.kept _ _ (part false (func_events c.args.func.now)) _ _ _ _ c.new-around.ensures.names c.new-around.ensures.own c.new-around.ensures.instance c.begin-seen.ensures c.in_ok-walk_func.ensures
