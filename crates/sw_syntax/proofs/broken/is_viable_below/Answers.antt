use Rattle.std.proofs.Common.{◌≤◌, length, sym, subst, arith, false}
use Rattle.sw_syntax.proofs.SightLemmas.{source_length}
use Rattle.sw_syntax.specs.Reaching.{Says}
use Rattle.sw_syntax.specs.declared.broken.Reach.TheVariants.{Short, OverBudget, Beyond}
use Rattle.sw_syntax.proofs.RefusalLemmas.{said, of_source, below_beyond, below_over_budget, not_below}
use Rattle.sw_syntax.proofs.broken.is_viable_below.Goals as goal

pub how_far-requires : goal.how_far-requires
how_far-requires g c =
    let l = source_length c.args.position c.args.tokens.now in
    let p = c.requires.past in
    let i = c.requires.inside in
    subst (λ S. c.args.at ≤ length S) (sym c.with_break-broken.ensures) (omega (arith, l, p, i))

pub returns-in-Short-clause-otherwise : goal.returns-in-Short-clause-otherwise
returns-in-Short-clause-otherwise g c = λ _.
    not_below g.R.Reader.nonterminal c.args.tokens.now c.args.at c.args.position c.requires.inside (of_source _ _ c.args.at c.args.position (Says false g.R.Reader.nonterminal Short) c.with_break-broken.ensures (said g.R.Reader.nonterminal false _ c.args.at c.args.position _ Short c.in_ok-how_far.ensures c.in-Short.is))

pub returns-in-OverBudget-clause-told : goal.returns-in-OverBudget-clause-told
returns-in-OverBudget-clause-told g c = λ _.
    below_over_budget g.R.Reader.nonterminal c.args.tokens.now c.args.at c.args.position c.requires.inside (of_source _ _ c.args.at c.args.position (Says false g.R.Reader.nonterminal OverBudget) c.with_break-broken.ensures (said g.R.Reader.nonterminal false _ c.args.at c.args.position _ OverBudget c.in_ok-how_far.ensures c.in-OverBudget.is))

pub returns-in-Beyond-clause-told : goal.returns-in-Beyond-clause-told
returns-in-Beyond-clause-told g c = λ _.
    below_beyond g.R.Reader.nonterminal c.args.tokens.now c.args.at c.args.position c.requires.inside (of_source _ _ c.args.at c.args.position (Says false g.R.Reader.nonterminal Beyond) c.with_break-broken.ensures (said g.R.Reader.nonterminal false _ c.args.at c.args.position _ Beyond c.in_ok-how_far.ensures c.in-Beyond.is))
