use Rattle.sw_syntax.proofs.broken.refused_at.Goals as goal

pub returns-in-Ok : goal.returns-in-Ok
returns-in-Ok g c = c.refusal.ensures.cause g.R.Reader.nonterminal c.args.at c.in-Ok.ensures.0
