use Rattle.std.proofs.Common.{subst}
use Rattle.sw_findings.specs.Found.{Finds}
use Rattle.sw_names.specs.Pass.{Refuses}
use Rattle.sw_names.proofs.pass.names.Goals as goal

pub returns-in-Ok-None-clause-unbroken : goal.returns-in-Ok-None-clause-unbroken
returns-in-Ok-None-clause-unbroken c = subst (Finds (Refuses c.args.tree.now)) c.in-Ok-None.field-0-is (c.in-Ok-None.ensures c.in_ok-names.ensures)
