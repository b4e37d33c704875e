use Rattle.std.proofs.Common.{arith}
use Rattle.sw_syntax.proofs.Reached as reached
use Rattle.sw_syntax.proofs.Exits.{refusal_gives}
use Rattle.sw_syntax.proofs.RefusalLemmas.{over_budget_gives, unexpected_gives}
use Rattle.sw_syntax.proofs.broken.how_far.Goals as goal

pub returns-then-end-position : goal.returns-then-end-position
returns-then-end-position g c = λ run next rest e n.
    reached.got_beyond c.args.lenient g.R.Reader.nonterminal c.args.view.now c.args.at run next rest e c.in-Ok.ensures.0 c.in-Ok.ensures.1 c.in-Ok.end c.in-Ok.ensures.2 (omega (arith, n, c.if-end-position.true))

pub returns-else-end-position : goal.returns-else-end-position
returns-else-end-position g c = λ run next rest e n.
    reached.got_short c.args.lenient g.R.Reader.nonterminal c.args.view.now c.args.at run next rest e c.in-Ok.ensures.0 c.in-Ok.ensures.1 c.in-Ok.end c.in-Ok.ensures.2 (omega (arith, n, c.if-end-position.false))

pub returns-then-end-position-2 : goal.returns-then-end-position-2
returns-then-end-position-2 g c = λ run next rest e n.
    reached.rejected_beyond c.args.lenient g.R.Reader.nonterminal c.args.view.now c.args.at run next rest e c.in-Err-Refused.is_over_budget c.in-Err-Refused.end
    (refusal_gives c.args.view.now c.in-Err-Refused.field-0 c.in-Err-Refused.end c.in-Err-Refused.is_over_budget _ c.in-Err-Refused.ensures c.in-Err-Refused.field-0-is) (omega (arith, n, c.if-end-position-2.true))

pub returns-then-end-position-3 : goal.returns-then-end-position-3
returns-then-end-position-3 g c = λ run next rest e n.
    reached.rejected_before c.args.lenient g.R.Reader.nonterminal c.args.view.now c.args.at run next rest e c.in-Err-Refused.is_over_budget c.in-Err-Refused.end
    (refusal_gives c.args.view.now c.in-Err-Refused.field-0 c.in-Err-Refused.end c.in-Err-Refused.is_over_budget _ c.in-Err-Refused.ensures c.in-Err-Refused.field-0-is) (omega (arith, n, c.if-end-position-3.true))

pub returns-then-is_over_budget : goal.returns-then-is_over_budget
returns-then-is_over_budget g c = λ run next rest e n.
    reached.rejected_over_budget c.args.lenient g.R.Reader.nonterminal c.args.view.now c.args.at run next rest e c.in-Err-Refused.end
    (over_budget_gives c.args.view.now c.in-Err-Refused.field-0 c.in-Err-Refused.end c.in-Err-Refused.is_over_budget _ c.in-Err-Refused.ensures c.in-Err-Refused.field-0-is c.if-is_over_budget.true)
    (omega (arith, n, c.if-end-position-2.false, c.if-end-position-3.false))

pub returns-else-is_over_budget : goal.returns-else-is_over_budget
returns-else-is_over_budget g c = λ run next rest e n.
    reached.rejected_unexpected c.args.lenient g.R.Reader.nonterminal c.args.view.now c.args.at run next rest e c.in-Err-Refused.end
    (unexpected_gives c.args.view.now c.in-Err-Refused.field-0 c.in-Err-Refused.end c.in-Err-Refused.is_over_budget _ c.in-Err-Refused.ensures c.in-Err-Refused.field-0-is c.if-is_over_budget.false)
    (omega (arith, n, c.if-end-position-2.false))
