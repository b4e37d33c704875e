use Rattle.std.proofs.Common.{sym, ◌∙◌, true}
use Rattle.sw_syntax.specs.declared.broken.Reach.TheVariants.{Short, OverBudget, Beyond}
use Rattle.sw_syntax.proofs.RefusalLemmas.{said, tell_short, tell_p3, tell_p5, tell_not, tell_over_budget, tell_p6}
use Rattle.sw_syntax.proofs.broken.chained.Goals as goal

pub returns-in-Short : goal.returns-in-Short
returns-in-Short g c = tell_short g.R.Reader.nonterminal c.args.view.now c.args.at c.args.position (said g.R.Reader.nonterminal true c.args.view.now c.args.at c.args.position _ Short c.in_ok-how_far.ensures c.in-Short.is)

pub returns-in-OverBudget : goal.returns-in-OverBudget
returns-in-OverBudget g c = tell_p3 g.R.Reader.nonterminal c.args.view.now c.args.at c.args.position (sym c.is.ensures.value ∙ c.if-is.true) (said g.R.Reader.nonterminal true c.args.view.now c.args.at c.args.position _ OverBudget c.in_ok-how_far.ensures c.in-OverBudget.is)

pub returns-in-Beyond : goal.returns-in-Beyond
returns-in-Beyond g c = tell_p5 g.R.Reader.nonterminal c.args.view.now c.args.at c.args.position (sym c.is.ensures.value ∙ c.if-is.true) (said g.R.Reader.nonterminal true c.args.view.now c.args.at c.args.position _ Beyond c.in_ok-how_far.ensures c.in-Beyond.is)

pub returns-then-not-is : goal.returns-then-not-is
returns-then-not-is g c = tell_not g.R.Reader.nonterminal c.args.view.now c.args.at c.args.position (sym c.is.ensures.value ∙ c.if-is.false) (sym c.is-2.ensures.value ∙ c.if-not-is.true)

pub returns-in-Short-2 : goal.returns-in-Short-2
returns-in-Short-2 g c = tell_short g.R.Reader.nonterminal c.args.view.now c.args.at c.args.position (said g.R.Reader.nonterminal true c.args.view.now c.args.at c.args.position _ Short c.in_ok-how_far-2.ensures c.in-Short-2.is)

pub returns-in-OverBudget-2 : goal.returns-in-OverBudget-2
returns-in-OverBudget-2 g c = tell_over_budget g.R.Reader.nonterminal c.args.view.now c.args.at c.args.position (sym c.is.ensures.value ∙ c.if-is.false) (said g.R.Reader.nonterminal true c.args.view.now c.args.at c.args.position _ OverBudget c.in_ok-how_far-2.ensures c.in-OverBudget-2.is)

pub returns-in-Beyond-2 : goal.returns-in-Beyond-2
returns-in-Beyond-2 g c =
    tell_p6 g.R.Reader.nonterminal c.args.view.now c.args.at c.args.position (sym c.is.ensures.value ∙ c.if-is.false) (sym c.is-2.ensures.value ∙ c.if-not-is.false)
    (said g.R.Reader.nonterminal true c.args.view.now c.args.at c.args.position _ Beyond c.in_ok-how_far-2.ensures c.in-Beyond-2.is)
