use Rattle.std.proofs.Common.{◌≤◌, length, sym, subst, arith, Some, None}
use Rattle.sw_syntax.specs.Reaching.{IsAwaitTry}
use Rattle.sw_syntax.proofs.SightLemmas.{sighted_length}
use Rattle.sw_syntax.proofs.RefusalLemmas as lemmas
use Rattle.sw_syntax.proofs.broken.found_at.Goals as goal

pub is_await_try-requires : goal.is_await_try-requires
is_await_try-requires g c = (lemmas.known_inside g.R.Reader.nonterminal c.args.tokens.now c.args.at c.args.position c.args.is_over_budget (lemmas.known g.R.Reader.nonterminal c.args.tokens.now c.args.at c.args.position c.args.is_over_budget c.requires.inside c.requires.refused)).0

pub returns-then-is_await_try : goal.returns-then-is_await_try
returns-then-is_await_try g c =
    lemmas.p4_found g.R.Reader.nonterminal c.args.tokens.now c.args.at c.args.position c.args.is_over_budget (lemmas.known g.R.Reader.nonterminal c.args.tokens.now c.args.at c.args.position c.args.is_over_budget c.requires.inside c.requires.refused) (c.is_await_try.ensures.after c.if-is_await_try.true)
    (lemmas.of_source _ _ c.args.at c.args.position IsAwaitTry c.new-view.ensures.value (c.is_await_try.ensures.told c.if-is_await_try.true))

pub returns-then-is_over_budget : goal.returns-then-is_over_budget
returns-then-is_over_budget g c = lemmas.over_budget_found g.R.Reader.nonterminal c.args.tokens.now c.args.at c.args.position (subst (λ b. lemmas.Known g.R.Reader.nonterminal c.args.tokens.now c.args.at c.args.position b) c.if-is_over_budget.true (lemmas.known g.R.Reader.nonterminal c.args.tokens.now c.args.at c.args.position c.args.is_over_budget c.requires.inside c.requires.refused)) (lemmas.of_source _ _ c.args.at c.args.position (λ run next. IsAwaitTry run next → ⊥) c.new-view.ensures.value (c.is_await_try.ensures.otherwise c.if-is_await_try.false))

pub is_viable_below-requires-clause-past : goal.is_viable_below-requires-clause-past
is_viable_below-requires-clause-past g c = (lemmas.known_inside g.R.Reader.nonterminal c.args.tokens.now c.args.at c.args.position c.args.is_over_budget (lemmas.known g.R.Reader.nonterminal c.args.tokens.now c.args.at c.args.position c.args.is_over_budget c.requires.inside c.requires.refused)).0

pub is_viable_below-requires-clause-inside : goal.is_viable_below-requires-clause-inside
is_viable_below-requires-clause-inside g c = (lemmas.known_inside g.R.Reader.nonterminal c.args.tokens.now c.args.at c.args.position c.args.is_over_budget (lemmas.known g.R.Reader.nonterminal c.args.tokens.now c.args.at c.args.position c.args.is_over_budget c.requires.inside c.requires.refused)).1

pub returns-then-branch : goal.returns-then-branch
returns-then-branch g c = lemmas.p2_found g.R.Reader.nonterminal c.args.tokens.now c.args.at c.args.position (subst (λ b. lemmas.Known g.R.Reader.nonterminal c.args.tokens.now c.args.at c.args.position b) c.if-is_over_budget.false (lemmas.known g.R.Reader.nonterminal c.args.tokens.now c.args.at c.args.position c.args.is_over_budget c.requires.inside c.requires.refused)) (lemmas.of_source _ _ c.args.at c.args.position (λ run next. IsAwaitTry run next → ⊥) c.new-view.ensures.value (c.is_await_try.ensures.otherwise c.if-is_await_try.false)) (c.in_ok-is_viable_below.ensures.told c.if-branch.true)

pub chained-requires : goal.chained-requires
chained-requires g c =
    let l = sighted_length c.args.tokens.now in
    let i = lemmas.known_inside g.R.Reader.nonterminal c.args.tokens.now c.args.at c.args.position c.args.is_over_budget (lemmas.known g.R.Reader.nonterminal c.args.tokens.now c.args.at c.args.position c.args.is_over_budget c.requires.inside c.requires.refused) in
    subst (λ S. c.args.at ≤ length S) (sym c.new-view.ensures.value) (omega (arith, l, i.0, i.1))

pub returns-in-Some : goal.returns-in-Some
returns-in-Some g c =
    lemmas.chained_found g.R.Reader.nonterminal c.args.tokens.now c.args.at c.args.position (subst (λ b. lemmas.Known g.R.Reader.nonterminal c.args.tokens.now c.args.at c.args.position b) c.if-is_over_budget.false (lemmas.known g.R.Reader.nonterminal c.args.tokens.now c.args.at c.args.position c.args.is_over_budget c.requires.inside c.requires.refused)) (lemmas.of_source _ _ c.args.at c.args.position (λ run next. IsAwaitTry run next → ⊥) c.new-view.ensures.value (c.is_await_try.ensures.otherwise c.if-is_await_try.false)) (c.in_ok-is_viable_below.ensures.otherwise c.if-branch.false) c.in-Some.rule
    (lemmas.tells g.R.Reader.nonterminal _ _ c.args.at c.args.position _ (Some c.in-Some.rule) c.in_ok-rule.ensures c.new-view.ensures.value c.in-Some.is)

pub returns-in-None : goal.returns-in-None
returns-in-None g c =
    lemmas.p1_found g.R.Reader.nonterminal c.args.tokens.now c.args.at c.args.position (subst (λ b. lemmas.Known g.R.Reader.nonterminal c.args.tokens.now c.args.at c.args.position b) c.if-is_over_budget.false (lemmas.known g.R.Reader.nonterminal c.args.tokens.now c.args.at c.args.position c.args.is_over_budget c.requires.inside c.requires.refused)) (lemmas.of_source _ _ c.args.at c.args.position (λ run next. IsAwaitTry run next → ⊥) c.new-view.ensures.value (c.is_await_try.ensures.otherwise c.if-is_await_try.false)) (c.in_ok-is_viable_below.ensures.otherwise c.if-branch.false)
    (lemmas.tells g.R.Reader.nonterminal _ _ c.args.at c.args.position _ None c.in_ok-rule.ensures c.new-view.ensures.value c.in-None.is)
