use Rattle.std.proofs.Common.{ap, ◌∙◌, nat_lt}
use Rattle.sw_declared.specs.Names.{has_func}
use Rattle.sw_declared.proofs.Asked.{asked_func}
use Rattle.sw_declared.proofs.tables.Funcs.has_top_level.Goals as goal

pub returns : goal.returns
returns c = ap (nat_lt 0) c.get.ensures ∙ c.self.invariant c.args.name.now 0 ∙ asked_func c.self.inside.items c.args.name.now ∙ ap (λ l. has_func l c.args.name.now) c.self.view_is
