use Rattle.std.proofs.Common.{◌≡◌, ◌≤◌, length, drop, sym, subst, arith, false}
use Rattle.sw_grammar.specs.Reading.{got, rejected}
use Rattle.sw_syntax.specs.Meaning.{source_budget}
use Rattle.sw_syntax.specs.Answering.{read_in}
use Rattle.sw_syntax.specs.Nonterminals.{Expr}
use Rattle.sw_syntax.specs.ReadResults.{reason}
use Rattle.sw_syntax.proofs.End.{no_end_in_expr}
use Rattle.sw_syntax.proofs.Exits.{refusal_gives}
use Rattle.sw_syntax.proofs.LastToken.{has_end}
use Rattle.sw_syntax.proofs.Reached.{text_found, refused_inside}
use Rattle.sw_syntax.proofs.SightLemmas.{sighted_length}
use Rattle.sw_parse_expr.proofs.parse.parse_expr.Goals as goal

pub expr-requires : goal.expr-requires
expr-requires c =
    let l = sighted_length c.args.tokens.now in
    let i = c.requires.inside in
    subst (λ S. c.args.at ≤ length S) (sym c.new-view.ensures.value) (omega (arith, l, i))

pub unbroken_after-requires-clause-text : goal.unbroken_after-requires-clause-text
unbroken_after-requires-clause-text c = (
  c.in-Ok.tree,
  text_found Expr c.args.tokens.now c.args.at c.in-Ok.tree c.in-Ok.field-0-2 c.in-Ok.end c.requires.inside
      (subst (λ S. c.in-Ok.end ≤ length S) c.new-view.ensures.value c.in-Ok.ensures.inside)
      (subst (λ S. read_in false Expr source_budget (drop c.args.at S) ≡ got c.in-Ok.tree c.in-Ok.field-0-2 (drop c.in-Ok.end S)) c.new-view.ensures.value c.in-Ok.ensures.gives),
)

pub returns-in_ok-unbroken_after-in-Ok-clause-text : goal.returns-in_ok-unbroken_after-in-Ok-clause-text
returns-in_ok-unbroken_after-in-Ok-clause-text c =
    text_found Expr c.args.tokens.now c.args.at c.in-Ok.tree c.in-Ok.field-0-2 c.in-Ok.end c.requires.inside
    (subst (λ S. c.in-Ok.end ≤ length S) c.new-view.ensures.value c.in-Ok.ensures.inside)
    (subst (λ S. read_in false Expr source_budget (drop c.args.at S) ≡ got c.in-Ok.tree c.in-Ok.field-0-2 (drop c.in-Ok.end S)) c.new-view.ensures.value c.in-Ok.ensures.gives)

pub refused_at-requires-clause-inside : goal.refused_at-requires-clause-inside
refused_at-requires-clause-inside c =
    refused_inside Expr c.args.tokens.now c.args.at c.in-Err-Refused.end c.in-Err-Refused.is_over_budget
    (λ p none. has_end c.args.tokens.now c.args.at c.new-view.ensures.ended c.requires.inside (no_end_in_expr source_budget _ p))
    (subst (λ S. read_in false Expr source_budget (drop c.args.at S) ≡ rejected (reason c.in-Err-Refused.is_over_budget) (drop c.in-Err-Refused.end S)) c.new-view.ensures.value
    (refusal_gives _ c.in-Err-Refused.field-0 c.in-Err-Refused.end c.in-Err-Refused.is_over_budget _ c.in-Err-Refused.ensures.gives c.in-Err-Refused.field-0-is))
