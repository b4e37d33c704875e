use Rattle.std.proofs.Common.{◌≡◌, ◌<◌, ◌≤◌, ◌+◌, ◌*◌, drop, length, ◌-◌, [], ℕ, List}
use Rattle.sw_syntax.specs.Bodies.{arm_list, body_from, branches_from, catches_from}
use Rattle.sw_syntax.specs.Answering.{read}
use Rattle.sw_syntax.specs.Nonterminals as nonterminal
use Rattle.sw_syntax.specs.Nonterminals.{Context}
use Rattle.sw_syntax.specs.Tokens.{Sighted}
use Rattle.sw_parse_stmt.specs.Statements.{after_arms}
use Rattle.sw_parse_stmt.proofs.+stmt.Given as goal

-- the tokens that are left, and then the rank of the function
abbrev work : List Sighted → ℕ → ℕ → ℕ
work tokens at rank = (length tokens - at) * 16 + rank

abbrev pub decreases-bodies::body : goal.decreases-bodies::body
decreases-bodies::body l = work l.view.now l.at 8

abbrev pub decreases-bodies::statement : goal.decreases-bodies::statement
decreases-bodies::statement l = work l.view.now l.at 7

abbrev pub decreases-nested::closed_statement : goal.decreases-nested::closed_statement
decreases-nested::closed_statement l = work l.view.now l.at 6

abbrev pub decreases-branches::if_statement : goal.decreases-branches::if_statement
decreases-branches::if_statement l = work l.view.now l.at 5

abbrev pub decreases-branches::branch : goal.decreases-branches::branch
decreases-branches::branch l = work l.view.now l.at 4

abbrev pub decreases-nested::guard_statement : goal.decreases-nested::guard_statement
decreases-nested::guard_statement l = work l.view.now l.at 5

abbrev pub decreases-nested::while_statement : goal.decreases-nested::while_statement
decreases-nested::while_statement l = work l.view.now l.at 5

abbrev pub decreases-nested::for_statement : goal.decreases-nested::for_statement
decreases-nested::for_statement l = work l.view.now l.at 5

abbrev pub decreases-nested::do_statement : goal.decreases-nested::do_statement
decreases-nested::do_statement l = work l.view.now l.at 5

abbrev pub decreases-nested::catches : goal.decreases-nested::catches
decreases-nested::catches l = work l.view.now l.at 5

abbrev pub decreases-switches::switch_statement : goal.decreases-switches::switch_statement
decreases-switches::switch_statement l = work l.view.now l.at 5

abbrev pub decreases-switches::arm_block : goal.decreases-switches::arm_block
decreases-switches::arm_block l = work l.view.now l.at 4

abbrev pub decreases-switches::arms : goal.decreases-switches::arms
decreases-switches::arms l = work l.view.now l.at 4

abbrev pub decreases-bodies::block : goal.decreases-bodies::block
decreases-bodies::block l = work l.view.now l.at 3

abbrev pub invariant-bodies::body-statements : goal.invariant-bodies::body-statements
invariant-bodies::body-statements l = record {
  so_far : (context : Context) → body_from l.lenient context l.budget.brackets l.budget.limit l.budget.left [] (drop l.at l.view) ≡ body_from l.lenient context l.budget.brackets l.budget.limit l.left l.block (drop l.end l.view);
  moves : l.at ≤ l.end;
  inside : l.end ≤ length l.view;
}

abbrev pub decreases-bodies::body-statements : goal.decreases-bodies::body-statements
decreases-bodies::body-statements l = length l.view - l.end

abbrev pub invariant-branches::if_statement-branches : goal.invariant-branches::if_statement-branches
invariant-branches::if_statement-branches l = record {
  so_far : read l.lenient nonterminal.If l.budget.brackets l.budget.limit l.budget.limit (drop l.at l.view) ≡ branches_from l.lenient l.budget.brackets l.budget.limit l.left l.first l.others (drop l.end l.view);
  moves : l.at < l.end;
  inside : l.end ≤ length l.view;
}

abbrev pub decreases-branches::if_statement-branches : goal.decreases-branches::if_statement-branches
decreases-branches::if_statement-branches l = length l.view - l.end

abbrev pub invariant-nested::catches-catches : goal.invariant-nested::catches-catches
invariant-nested::catches-catches l = record {
  so_far : catches_from l.lenient l.budget.brackets l.budget.limit l.budget.left [] (drop l.at l.view) ≡ catches_from l.lenient l.budget.brackets l.budget.limit l.left l.xs (drop l.end l.view);
  moves : l.at ≤ l.end;
  inside : l.end ≤ length l.view;
}

abbrev pub decreases-nested::catches-catches : goal.decreases-nested::catches-catches
decreases-nested::catches-catches l = length l.view - l.end

abbrev pub invariant-switches::arms-arms : goal.invariant-switches::arms-arms
invariant-switches::arms-arms l = record {
  so_far : arm_list l.lenient l.budget.brackets l.budget.limit l.budget.left (drop l.at l.view) ≡ after_arms l.lenient l.budget.brackets l.budget.limit l.left l.xs l.before_arm (drop l.end l.view);
  moves : l.at ≤ l.end;
  inside : l.end ≤ length l.view;
}

abbrev pub decreases-switches::arms-arms : goal.decreases-switches::arms-arms
decreases-switches::arms-arms l = length l.view - l.end
