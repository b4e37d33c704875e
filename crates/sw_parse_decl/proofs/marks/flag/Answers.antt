use Rattle.std.proofs.Common.{sym, ◌∙◌}
use Rattle.sw_syntax.specs.Tests.{is}
use Rattle.sw_syntax.proofs.DeclEquations as decl
use Rattle.sw_parse_decl.proofs.marks.flag.Goals as goal

pub returns-then-not-is-clause-gives : goal.returns-then-not-is-clause-gives
returns-then-not-is-clause-gives c = λ lenient d l left. decl.flag_none lenient _ d l left _ (sym c.is.ensures.value ∙ c.if-not-is.true)

pub returns-clause-gives : goal.returns-clause-gives
returns-clause-gives c = λ lenient d l left. decl.flag_some lenient _ d l left _ _ _ (sym c.is.ensures.value ∙ c.if-not-is.false) (c.take-end.ensures.taken (is c.args.kind) (sym c.is.ensures.value ∙ c.if-not-is.false))
