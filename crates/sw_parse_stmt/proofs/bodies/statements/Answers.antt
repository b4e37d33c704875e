use Rattle.std.proofs.Common.{}
use Rattle.std.proofs.lemmas.Result.{err_from_is_err_and}
use Rattle.sw_syntax.specs.Nonterminals as nonterminal
use Rattle.sw_syntax.proofs.Exits.{after}
use Rattle.sw_parse_stmt.proofs.Exits.{going_passes, list_of_body}
use Rattle.sw_parse_stmt.specs.Statements.{ended}
use Rattle.sw_parse_stmt.specs.declared.bodies.ReadBody.{ReadBody}
use Rattle.sw_parse_stmt.proofs.bodies.statements.Goals as goal

pub returns-in_err-read_body-clause-gives : goal.returns-in_err-read_body-clause-gives
returns-in_err-read_body-clause-gives c =
    let p = err_from_is_err_and c.from_residual.result c.from_residual.ensures.1 in
    rw (p.1, p.2) (going_passes {A = ReadBody} (ended c.args.lenient nonterminal.InBlock c.args.budget.brackets c.args.budget.limit) _ _ _ _ _ (list_of_body _ _ _ _ _) (c.in_err-read_body.ensures.gives nonterminal.InBlock))

pub returns-clause-gives : goal.returns-clause-gives
returns-clause-gives c = rw (c.in_ok-kept.ensures) (after _ _ _ _ _ _ (list_of_body _ _ _ _ _) (c.in_ok-read_body.ensures.gives nonterminal.InBlock))
