use Rattle.sw_check_decl.specs.Counts.{item_counted}
use Rattle.sw_check_decl.proofs.Findings.{each_start, each_step, each_end}
use Rattle.sw_check_decl.proofs.counts.report_each_item.Goals as goal

pub loop-item-init : goal.loop-item-init
loop-item-init c = each_start item_counted c.args.items.now _

pub loop-item-preserved : goal.loop-item-preserved
loop-item-preserved c = each_step item_counted _ _ _ _ _ _ c.loop-item-test.true c.item-item.is c.loop-item.invariant c.report_item.ensures

pub returns : goal.returns
returns c = each_end item_counted _ _ _ _ c.loop-item.invariant c.loop-item-test.false
