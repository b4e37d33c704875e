use Rattle.sw_names.proofs.Walked.{walked}
use Rattle.sw_events.specs.Parts.{heading_part}
use Rattle.sw_names.proofs.bodies.report_heading.Goals as goal

pub returns : goal.returns
returns c = walked c.walks_find_what_is_broken.ensures.kept _ _ (heading_part c.args.heading.now) _ _ _ _ c.new-around.ensures.names c.new-around.ensures.own c.new-around.ensures.instance c.begin-seen.ensures c.walk_heading.ensures
