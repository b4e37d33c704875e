use Rattle.sw_thin.specs.ProgramView.{body_of}
use Rattle.sw_thin.proofs.ThinTreeLemmas.{ReadUpTo}
use Rattle.sw_thin.proofs.main_body.statements.Given as goal

abbrev pub invariant-loop-tree : goal.invariant-loop-tree
invariant-loop-tree l = ReadUpTo l.trees l.tree-index l.lets (body_of l.body)
