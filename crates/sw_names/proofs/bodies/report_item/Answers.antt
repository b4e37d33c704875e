use Rattle.std.proofs.Common.{◌∙◌}
use Rattle.sw_names.proofs.Walked.{walked}
use Rattle.sw_events.specs.Parts.{item_part}
use Rattle.sw_names.proofs.bodies.report_item.Goals as goal

pub returns : goal.returns
returns c = walked c.walks_find_what_is_broken.ensures.kept _ _ (item_part c.args.item.now) _ _ _ _ c.new-around.ensures.names c.new-around.ensures.own (c.new-around.ensures.instance ∙ c.item_has_instance.ensures) c.begin-seen.ensures c.in_ok-walk_item.ensures
