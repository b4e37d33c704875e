use Rattle.std.proofs.Common.{ap, ◌∙◌}
use Rattle.sw_declared.specs.Names.{number_of}
use Rattle.sw_declared.proofs.tables.Types.number_of.Goals as goal

pub returns : goal.returns
returns c = c.get.ensures ∙ c.self.invariant.numbers c.args.name.now ∙ ap (λ l. number_of l c.args.name.now) c.self.view_is
