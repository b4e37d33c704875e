use Rattle.std.proofs.Common.{◌≡◌, ◌<◌, ◌+◌, ◌≤◌, drop, length, ℕ, ◌-◌, ◌*◌, List}
use Rattle.sw_syntax.specs.Chains.{arg_list, chain, element_list, forms, more_args, more_elements, string_rest}
use Rattle.sw_syntax.specs.Answering.{read}
use Rattle.sw_syntax.specs.Nonterminals as nonterminal
use Rattle.sw_syntax.specs.Tokens.{Sighted}
use Rattle.sw_parse_expr.proofs.expressions.+expr.Given as goal

-- the tokens that are left, and then the rank of the function
abbrev work : List Sighted → ℕ → ℕ → ℕ
work tokens at rank = (length tokens - at) * 64 + rank

abbrev pub decreases-expr : goal.decreases-expr
decreases-expr l = work l.view.now l.at 40

abbrev pub decreases-ternary : goal.decreases-ternary
decreases-ternary l = work l.view.now l.at 39

abbrev pub decreases-binary : goal.decreases-binary
decreases-binary l = work l.view.now l.at (20 + 2 * (6 - l.strength))

abbrev pub decreases-leftward : goal.decreases-leftward
decreases-leftward l = work l.view.now l.at (19 + 2 * (6 - l.strength))

abbrev pub decreases-one_mark : goal.decreases-one_mark
decreases-one_mark l = work l.view.now l.at (19 + 2 * (6 - l.strength))

abbrev pub decreases-operand : goal.decreases-operand
decreases-operand l = work l.view.now l.at 38

abbrev pub decreases-prefix : goal.decreases-prefix
decreases-prefix l = work l.view.now l.at 10

abbrev pub decreases-postfix : goal.decreases-postfix
decreases-postfix l = work l.view.now l.at 9

abbrev pub decreases-form : goal.decreases-form
decreases-form l = work l.view.now l.at 8

abbrev pub decreases-call : goal.decreases-call
decreases-call l = work l.view.now l.at 7

abbrev pub decreases-index : goal.decreases-index
decreases-index l = work l.view.now l.at 7

abbrev pub decreases-arguments : goal.decreases-arguments
decreases-arguments l = work l.view.now l.at 42

abbrev pub decreases-argument : goal.decreases-argument
decreases-argument l = work l.view.now l.at 41

abbrev pub decreases-primary : goal.decreases-primary
decreases-primary l = work l.view.now l.at 8

abbrev pub decreases-paren : goal.decreases-paren
decreases-paren l = work l.view.now l.at 7

abbrev pub decreases-array : goal.decreases-array
decreases-array l = work l.view.now l.at 7

abbrev pub decreases-elements : goal.decreases-elements
decreases-elements l = work l.view.now l.at 42

abbrev pub decreases-literal : goal.decreases-literal
decreases-literal l = work l.view.now l.at 7

abbrev pub decreases-string : goal.decreases-string
decreases-string l = work l.view.now l.at 6

abbrev pub invariant-leftward-marks : goal.invariant-leftward-marks
invariant-leftward-marks l = record {
  so_far : read l.lenient (nonterminal.Binary l.strength) l.budget.brackets l.budget.limit l.budget.left (drop l.at l.view) ≡ chain l.lenient l.strength l.budget.brackets l.budget.limit l.left l.x (drop l.end l.view);
  moves : l.at < l.end;
  inside : l.end ≤ length l.view;
}

abbrev pub decreases-leftward-marks : goal.decreases-leftward-marks
decreases-leftward-marks l = length l.view - l.end

abbrev pub invariant-postfix-forms : goal.invariant-postfix-forms
invariant-postfix-forms l = record {
  so_far : read l.lenient nonterminal.Postfix l.budget.brackets l.budget.limit l.budget.left (drop l.at l.view) ≡ forms l.lenient l.budget.brackets l.budget.limit l.left l.x (drop l.end l.view);
  moves : l.at < l.end;
  inside : l.end ≤ length l.view;
}

abbrev pub decreases-postfix-forms : goal.decreases-postfix-forms
decreases-postfix-forms l = length l.view - l.end

abbrev pub invariant-arguments-arguments : goal.invariant-arguments-arguments
invariant-arguments-arguments l = record {
  so_far : arg_list l.lenient l.budget.brackets l.budget.limit l.budget.left (drop l.at l.view) ≡ more_args l.lenient l.budget.brackets l.budget.limit l.left l.xs (drop l.end l.view);
  moves : l.at ≤ l.end;
  inside : l.end ≤ length l.view;
}

abbrev pub decreases-arguments-arguments : goal.decreases-arguments-arguments
decreases-arguments-arguments l = length l.view - l.end

abbrev pub invariant-elements-elements : goal.invariant-elements-elements
invariant-elements-elements l = record {
  so_far : element_list l.lenient l.budget.brackets l.budget.limit l.budget.left (drop l.at l.view) ≡ more_elements l.lenient l.budget.brackets l.budget.limit l.left l.xs (drop l.end l.view);
  moves : l.at ≤ l.end;
  inside : l.end ≤ length l.view;
}

abbrev pub decreases-elements-elements : goal.decreases-elements-elements
decreases-elements-elements l = length l.view - l.end

abbrev pub invariant-string-pieces : goal.invariant-string-pieces
invariant-string-pieces l = record {
  so_far : read l.lenient nonterminal.Primary l.fn.budget.brackets l.fn.budget.limit l.fn.budget.left (drop l.fn.at l.view) ≡ string_rest l.lenient (l.fn.budget.brackets - 1) l.fn.budget.limit l.left l.start.span l.start.text.now l.pieces l.x (drop l.end l.view);
  moves : l.fn.at < l.end;
  inside : l.end ≤ length l.view;
}

abbrev pub decreases-string-pieces : goal.decreases-string-pieces
decreases-string-pieces l = length l.view - l.end
