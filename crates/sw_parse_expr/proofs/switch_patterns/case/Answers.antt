use Rattle.std.proofs.Common.{drop, sym, ap, ◌∙◌}
use Rattle.std.proofs.lemmas.Result.{err_from_is_err_and}
use Rattle.sw_grammar.specs.Reading.{got}
use Rattle.sw_tree.specs.declared.stmt.Pattern.TheVariants as p
use Rattle.sw_syntax.proofs.PatternEquations as pat
use Rattle.sw_syntax.proofs.Exits.{after, passes}
use Rattle.sw_parse_expr.proofs.SwitchExits.{case_step}
use Rattle.sw_parse_expr.proofs.switch_patterns.case.Goals as goal

pub returns-in_err-outer-clause-gives : goal.returns-in_err-outer-clause-gives
returns-in_err-outer-clause-gives c =
    let p = err_from_is_err_and c.from_residual.result c.from_residual.ensures.1 in
    rw (p.1, p.2) (passes _ _ _ _ _ (pat.pat_case _ _ _ _ _ c.requires.0 c.requires.1 c.requires.2) (c.in_err-outer.ensures.gives))

pub returns-in_err-dot-clause-gives : goal.returns-in_err-dot-clause-gives
returns-in_err-dot-clause-gives c =
    let p = err_from_is_err_and c.from_residual-in_err-dot.result c.from_residual-in_err-dot.ensures.1 in
    rw (p.1, p.2) (passes _ _ _ _ _ (after _ _ _ _ _ _ (pat.pat_case _ _ _ _ _ c.requires.0 c.requires.1 c.requires.2) (c.in_ok-outer.ensures.gives) ∙ case_step _ _ _ _ _ _) (c.in_err-dot.ensures.gives c.in_ok-outer.left))

pub returns-in_err-token-clause-gives : goal.returns-in_err-token-clause-gives
returns-in_err-token-clause-gives c =
    let p = err_from_is_err_and c.from_residual-in_err-token.result c.from_residual-in_err-token.ensures.1 in
    rw (p.1, p.2) (passes _ _ _ _ _ (after _ _ _ _ _ _ (after _ _ _ _ _ _ (pat.pat_case _ _ _ _ _ c.requires.0 c.requires.1 c.requires.2) (c.in_ok-outer.ensures.gives) ∙ case_step _ _ _ _ _ _) (c.in_ok-dot.ensures.gives c.in_ok-outer.left)) (c.in_err-token.ensures.gives c.in_ok-outer.left))

pub returns-in_err-xs-clause-gives : goal.returns-in_err-xs-clause-gives
returns-in_err-xs-clause-gives c =
    let p = err_from_is_err_and c.from_residual-in_err-xs.result c.from_residual-in_err-xs.ensures.1 in
    rw (p.1, p.2) (passes _ _ _ _ _ (after _ _ _ _ _ _ (after _ _ _ _ _ _ (after _ _ _ _ _ _ (pat.pat_case _ _ _ _ _ c.requires.0 c.requires.1 c.requires.2) (c.in_ok-outer.ensures.gives) ∙ case_step _ _ _ _ _ _) (c.in_ok-dot.ensures.gives c.in_ok-outer.left)) (c.in_ok-token.ensures.gives c.in_ok-outer.left)) (c.in_err-xs.ensures.gives))

pub returns-clause-gives : goal.returns-clause-gives
returns-clause-gives c = after _ _ _ _ _ _ (after _ _ _ _ _ _ (after _ _ _ _ _ _ (after _ _ _ _ _ _ (pat.pat_case _ _ _ _ _ c.requires.0 c.requires.1 c.requires.2) (c.in_ok-outer.ensures.gives) ∙ case_step _ _ _ _ _ _) (c.in_ok-dot.ensures.gives c.in_ok-outer.left)) (c.in_ok-token.ensures.gives c.in_ok-outer.left)) (c.in_ok-xs.ensures.gives) ∙ ap (λ n. got (p.Case c.in_ok-outer.outer c.in_ok-dot.dot.span n c.in_ok-xs.xs) c.in_ok-xs.left (drop c.in_ok-xs.end c.args.view.now)) (sym c.in_ok-name.ensures)
