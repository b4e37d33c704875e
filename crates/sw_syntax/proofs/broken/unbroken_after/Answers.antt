use Rattle.std.proofs.Common.{subst}
use Rattle.sw_syntax.specs.Reaching.{Finds}
use Rattle.sw_syntax.proofs.ByPlace.{none_by_place}
use Rattle.sw_syntax.proofs.broken.unbroken_after.Goals as goal

pub returns-in-Some-clause-refused : goal.returns-in-Some-clause-refused
returns-in-Some-clause-refused g c =
    let found = subst (λ f. Finds g.R.Reader.nonterminal c.args.tokens.now c.args.at f) c.in-Some.is c.in_ok-rule.ensures in
    c.refusal.ensures.cause g.R.Reader.nonterminal c.args.at found.0

pub returns-in-None-clause-unbroken : goal.returns-in-None-clause-unbroken
returns-in-None-clause-unbroken g c =
    none_by_place g.R.Reader.nonterminal c.args.tokens.now c.args.at (subst (λ f. Finds g.R.Reader.nonterminal c.args.tokens.now c.args.at f) c.in-None.is c.in_ok-rule.ensures)
