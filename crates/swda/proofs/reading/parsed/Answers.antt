use Rattle.std.proofs.lemmas.Result.{err_from_is_err_and}
use Rattle.swda.proofs.ReadLemmas.{by_lexer, parsed_so, stopped_so}
use Rattle.swda.proofs.reading.parsed.Goals as goal

pub returns-in_err-tokens-clause-refused : goal.returns-in_err-tokens-clause-refused
returns-in_err-tokens-clause-refused c =
    let p = err_from_is_err_and c.from_residual.result c.from_residual.ensures.1 in
    rw (p.1, p.2) (by_lexer c.args.source.now c.in_err-tokens.field-0.0 c.in_err-tokens.ensures.refused)

pub returns-clause-parsed : goal.returns-clause-parsed
returns-clause-parsed c = parsed_so _ _ c.in_ok-tokens.ensures.tokens c.in_ok-tokens.ensures.only c.in_ok-tokens.ensures.unbroken c.parse.result c.parse.ensures.spelt c.parse.ensures.only c.parse.ensures.unbroken

pub returns-clause-refused : goal.returns-clause-refused
returns-clause-refused c = stopped_so _ _ c.in_ok-tokens.ensures.tokens c.in_ok-tokens.ensures.only c.in_ok-tokens.ensures.unbroken c.parse.result c.parse.ensures.refused c.parse.ensures.no_tree
