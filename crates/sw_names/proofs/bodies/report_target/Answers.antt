use Rattle.std.proofs.Common.{false}
use Rattle.sw_names.proofs.Walked.{walked}
use Rattle.sw_events.specs.Bodies.{type_events}
use Rattle.sw_events.specs.Parts.{part}
use Rattle.sw_names.proofs.bodies.report_target.Goals as goal

pub returns : goal.returns
returns c = walked c.walks_find_what_is_broken.ensures.kept _ _ (part false (type_events c.args.target.now)) _ _ _ _ c.new-around.ensures.names c.new-around.ensures.own c.new-around.ensures.instance c.begin-seen.ensures c.walk_type.ensures
