use Rattle.sw_monotone.proofs.Kept.{arguments_kept_typed, elements_kept_typed, expression_kept, pieces_kept_typed}
use Rattle.sw_monotone.proofs.laws.types_are_kept.Goals as goal

pub returns-clause-expressions : goal.returns-clause-expressions
returns-clause-expressions c = expression_kept

pub returns-clause-elements : goal.returns-clause-elements
returns-clause-elements c = elements_kept_typed

pub returns-clause-arguments : goal.returns-clause-arguments
returns-clause-arguments c = arguments_kept_typed

pub returns-clause-pieces : goal.returns-clause-pieces
returns-clause-pieces c = pieces_kept_typed
