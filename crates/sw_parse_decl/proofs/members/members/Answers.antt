use Rattle.std.proofs.Common.{arith, drop, sym, ap, ◌∙◌}
use Rattle.std.proofs.lemmas.Result.{err_from_is_err_and}
use Rattle.sw_grammar.specs.Reading.{got}
use Rattle.sw_syntax.specs.Lists.{items_from}
use Rattle.sw_syntax.specs.Nonterminals as nonterminal
use Rattle.sw_syntax.proofs.BodyEquations as body
use Rattle.sw_syntax.proofs.Exits.{after, passes}
use Rattle.sw_parse_decl.proofs.members.members.Goals as goal

pub returns-in_err-x-clause-gives : goal.returns-in_err-x-clause-gives
returns-in_err-x-clause-gives c =
    let p = err_from_is_err_and c.from_residual.result c.from_residual.ensures.1 in
    rw (p.1, p.2) (passes _ _ _ _ _ (c.items.invariant.so_far ∙ body.items_item _ nonterminal.Members _ _ _ _ _ (sym c.stands.ensures.value ∙ c.items-test.true)) (c.in_err-x.ensures.gives))

pub items-preserved : goal.items-preserved
items-preserved c = record {
  so_far = after _ _ _ _ _ _ (c.items.invariant.so_far ∙ body.items_item _ nonterminal.Members _ _ _ _ _ (sym c.stands.ensures.value ∙ c.items-test.true)) (c.in_ok-x.ensures.gives) ∙ c.in-Some.ensures.goes c.args.lenient nonterminal.Members c.args.budget.brackets c.args.budget.limit c.in_ok-x.x_left c.items.xs c.in_ok-x.x ∙ ap (λ l. items_from c.args.lenient nonterminal.Members c.args.budget.brackets c.args.budget.limit c.in_ok-x.x_left l (drop c.in-Some.next c.args.view.now)) (sym c.in_ok-push.ensures.ok);
  moves = omega (arith, c.items.invariant.moves, c.in_ok-x.ensures.moves, c.in-Some.ensures.stays);
  inside = c.in-Some.ensures.inside;
}

pub returns-in-None-clause-gives : goal.returns-in-None-clause-gives
returns-in-None-clause-gives c = after _ _ _ _ _ _ (c.items.invariant.so_far ∙ body.items_item _ nonterminal.Members _ _ _ _ _ (sym c.stands.ensures.value ∙ c.items-test.true)) (c.in_ok-x.ensures.gives) ∙ c.in-None.ensures.goes c.args.lenient nonterminal.Members c.args.budget.brackets c.args.budget.limit c.in_ok-x.x_left c.items.xs c.in_ok-x.x ∙ ap (λ l. got l c.in_ok-x.x_left (drop c.in_ok-x.x_end c.args.view.now)) (sym c.in_ok-push.ensures.ok)

pub returns-clause-gives : goal.returns-clause-gives
returns-clause-gives c = c.items.invariant.so_far ∙ body.items_end _ nonterminal.Members _ _ _ _ _ (sym c.stands.ensures.value ∙ c.items-test.false)
