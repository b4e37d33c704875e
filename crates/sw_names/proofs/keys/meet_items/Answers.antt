use Rattle.sw_names.specs.Keys.{item_keys}
use Rattle.sw_names.proofs.Meetings.{each_start, each_step, each_end}
use Rattle.sw_names.proofs.keys.meet_items.Goals as goal

pub loop-item-init : goal.loop-item-init
loop-item-init c = each_start item_keys c.args.items.now _

pub loop-item-preserved : goal.loop-item-preserved
loop-item-preserved c = each_step item_keys _ _ _ _ _ _ c.loop-item-test.true c.item-item.is c.loop-item.invariant c.in_ok-meet_item.ensures

pub returns : goal.returns
returns c = each_end item_keys _ _ _ _ c.loop-item.invariant c.loop-item-test.false
