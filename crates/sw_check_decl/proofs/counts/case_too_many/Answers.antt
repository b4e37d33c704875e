use Rattle.sw_check_decl.specs.Counts.{case_place, cases_in}
use Rattle.sw_check_decl.proofs.Counting.{place_in, place_none}
use Rattle.sw_check_decl.proofs.counts.case_too_many.Goals as goal

pub returns-in-Some : goal.returns-in-Some
returns-in-Some c =
    place_in case_place cases_in c.args.items.now c.loop-item.item-index c.item-item.result c.loop-item.left 255 c.cases_in-cases.result.now c.in-Some.case.now
    c.loop-item-test.true c.item-item.is c.loop-item.invariant c.cases_in-cases.ensures c.in-Some.ensures.lookup.3.0 c.in-Some.ensures.lookup.1

pub returns : goal.returns
returns c = place_none case_place cases_in c.args.items.now c.loop-item.item-index c.loop-item.left 255 c.loop-item.invariant c.loop-item-test.false
