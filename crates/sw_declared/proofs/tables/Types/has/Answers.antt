use Rattle.std.proofs.Common.{ap, ◌∙◌, nat_lt}
use Rattle.sw_declared.specs.Names.{has_type}
use Rattle.sw_declared.proofs.Asked.{asked_number}
use Rattle.sw_declared.proofs.tables.Types.has.Goals as goal

pub returns : goal.returns
returns c = ap (nat_lt 0) (c.get.ensures ∙ c.self.invariant.numbers c.args.name.now) ∙ asked_number c.self.inside.items c.args.name.now ∙ ap (λ l. has_type l c.args.name.now) c.self.view_is
