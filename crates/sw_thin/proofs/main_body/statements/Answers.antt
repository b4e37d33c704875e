use Rattle.sw_thin.proofs.ThinTreeLemmas.{none_of, some_of, at_more, at_stop, at_end, body_push}
use Rattle.sw_thin.proofs.main_body.statements.Goals as goal

pub returns-in_default : goal.returns-in_default
returns-in_default c = at_stop _ _ _ _ _ c.loop-tree.invariant c.loop-tree-test.true c.tree-item.is (none_of _ _ c.in_ok-stmt.ensures c.in_default.is)

pub loop-tree-preserved : goal.loop-tree-preserved
loop-tree-preserved c =
    let found = some_of _ _ _ _ c.in_ok-stmt.ensures c.in-Some.is in
    at_more _ _ _ _ _ _ _ _ c.loop-tree.invariant c.loop-tree-test.true c.tree-item.is found.0 found.1 c.lets_with-lets.ensures (body_push _ _ c.in-Some.stmt c.in_ok-push.ensures.ok)

pub returns : goal.returns
returns c = at_end _ _ _ _ c.loop-tree.invariant c.loop-tree-test.false
