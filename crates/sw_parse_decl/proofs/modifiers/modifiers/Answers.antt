use Rattle.std.proofs.Common.{arith, drop, [], ◌∷◌, ◌++◌, sym, ap, ◌∙◌}
use Rattle.sw_syntax.specs.Members.{mods_from}
use Rattle.sw_syntax.specs.Tests.{is_modifier}
use Rattle.sw_syntax.proofs.DeclEquations as decl
use Rattle.sw_parse_decl.proofs.modifiers.modifiers.Goals as goal

pub modifiers-preserved : goal.modifiers-preserved
modifiers-preserved c = record {
  so_far = c.modifiers.invariant.so_far ∙ decl.mods_more _ _ _ _ _ _ _ _ (sym c.stands.ensures.value ∙ c.modifiers-test.true) (c.take-next.ensures.taken is_modifier (sym c.stands.ensures.value ∙ c.modifiers-test.true)) ∙ ap (λ l. mods_from c.args.lenient c.args.budget.brackets c.args.budget.limit c.args.budget.left l (drop c.take-next.result.1 c.args.view.now)) (sym (c.in_ok-push.ensures.ok ∙ ap (λ x. c.modifiers.xs ++ x ∷ []) c.modifier.ensures));
  moves = omega (arith, c.modifiers.invariant.moves, c.take-next.ensures.next);
  inside = omega (arith, c.stands.ensures.within c.modifiers-test.true, c.take-next.ensures.next);
}

pub returns-clause-gives : goal.returns-clause-gives
returns-clause-gives c = rw (c.in_ok-kept.ensures) (c.modifiers.invariant.so_far ∙ decl.mods_end _ _ _ _ _ _ (sym c.stands.ensures.value ∙ c.modifiers-test.false))
