use Rattle.std.proofs.Common.{◌≡◌, ◌<◌, ◌+◌, ◌≤◌, drop, length, ℕ, ◌-◌, ◌*◌, List}
use Rattle.sw_syntax.specs.Members.{questions}
use Rattle.sw_syntax.specs.Answering.{read}
use Rattle.sw_syntax.specs.Nonterminals as nonterminal
use Rattle.sw_syntax.specs.Tokens.{Sighted}
use Rattle.sw_parse_expr.proofs.types.+types.Given as goal

-- the tokens that are left, and then the rank of the function
abbrev work : List Sighted → ℕ → ℕ → ℕ
work tokens at rank = (length tokens - at) * 4 + rank

abbrev pub decreases-type_ : goal.decreases-type_
decreases-type_ l = work l.view.now l.at 3

abbrev pub decreases-base : goal.decreases-base
decreases-base l = work l.view.now l.at 2

abbrev pub decreases-array : goal.decreases-array
decreases-array l = work l.view.now l.at 1

abbrev pub invariant-type_-marks : goal.invariant-type_-marks
invariant-type_-marks l = record {
  so_far : read l.lenient nonterminal.TypeExpr l.fn.budget.brackets l.fn.budget.limit l.fn.budget.left (drop l.at l.view) ≡ questions l.lenient l.fn.budget.brackets l.fn.budget.limit l.left l.x (drop l.end l.view);
  moves : l.at < l.end;
  inside : l.end ≤ length l.view;
}

abbrev pub decreases-type_-marks : goal.decreases-type_-marks
decreases-type_-marks l = length l.view - l.end
