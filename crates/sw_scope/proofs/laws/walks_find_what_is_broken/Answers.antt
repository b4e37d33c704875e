use Rattle.sw_scope.proofs.Looking.{kept, told_to, told_from}
use Rattle.sw_scope.proofs.Runs.{run_append}
use Rattle.sw_scope.proofs.laws.walks_find_what_is_broken.Goals as goal

pub returns-clause-kept : goal.returns-clause-kept
returns-clause-kept c = kept

pub returns-clause-told : goal.returns-clause-told
returns-clause-told c = λ around events refusal. (told_to around events refusal, told_from around events refusal)

pub returns-clause-in_turn : goal.returns-clause-in_turn
returns-clause-in_turn c = run_append
