use Rattle.std.proofs.Common.{◌≡◌, ◌<◌, ◌≤◌, drop, length, ◌-◌}
use Rattle.sw_syntax.specs.Patterns.{literal_part, pieces_rest}
use Rattle.sw_parse_expr.proofs.pattern_literals.string.Given as goal

abbrev pub invariant-pieces : goal.invariant-pieces
invariant-pieces l = record {
  so_far : literal_part l.lenient l.fn.budget.brackets l.fn.budget.limit l.fn.budget.left (drop l.fn.at l.view) ≡ pieces_rest l.lenient (l.fn.budget.brackets - 1) l.fn.budget.limit l.fn.budget.left l.start.span l.start.text.now l.pieces l.x (drop l.end l.view);
  moves : l.fn.at < l.end;
  inside : l.end ≤ length l.view;
}

abbrev pub decreases-pieces : goal.decreases-pieces
decreases-pieces l = length l.view - l.end
