use Rattle.std.proofs.lemmas.Result.{err_from_is_err_and}
use Rattle.swda.proofs.ReadLemmas.{by_syntax, by_names, by_all}
use Rattle.swda.proofs.reading.read.Goals as goal

pub returns-in_err-tree-clause-refused : goal.returns-in_err-tree-clause-refused
returns-in_err-tree-clause-refused c =
    let p = err_from_is_err_and c.from_residual.result c.from_residual.ensures.1 in
    rw (p.1, p.2) (by_syntax c.args.source.now c.in_err-tree.field-0.0 c.in_err-tree.ensures.refused)

pub returns-in_err-names-clause-refused : goal.returns-in_err-names-clause-refused
returns-in_err-names-clause-refused c =
    let p = err_from_is_err_and c.from_residual-in_err-names.result c.from_residual-in_err-names.ensures.1 in
    rw (p.1, p.2) (by_names c.args.source.now c.in_ok-tree.tree c.in_ok-tree.ensures.parsed c.in_err-names.field-0.0 c.in_err-names.ensures.cause)

pub returns-clause-read : goal.returns-clause-read
returns-clause-read c = by_all c.args.source.now c.in_ok-tree.tree c.in_ok-tree.ensures.parsed c.in_ok-names.ensures.unbroken
