use Rattle.swda.proofs.TopLemmas.{no_memory}
use Rattle.swda.proofs.command.call.Goals as goal

pub returns-in-Err : goal.returns-in-Err
returns-in-Err g c = no_memory (g.C.CommandLine.words c.args.line.now) _ _
