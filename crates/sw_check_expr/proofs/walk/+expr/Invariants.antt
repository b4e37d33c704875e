use Rattle.std.proofs.Common.{◌≡◌, ◌++◌, map, ◌≤◌, ◌∷◌}
use Rattle.sw_findings.specs.Found.{keep_all}
use Rattle.sw_typed.specs.SyntaxOf.{piece_of, pieces_of, arg_of, args_of}
use Rattle.sw_check_expr.specs.Typing.{check_pieces, check_args}
use Rattle.sw_check_expr.proofs.Walks.{pieces_from, args_from, rest_of}
use Rattle.sw_check_expr.proofs.walk.+expr.Given as goal

abbrev pub invariant-pieces-loop-piece : goal.invariant-pieces-loop-piece
invariant-pieces-loop-piece l =
    (l.made ++ (pieces_from l.list l.piece-index l.scope).all ≡ (check_pieces (pieces_of (map piece_of l.list)) l.scope).all)
    × (keep_all l.found (pieces_from l.list l.piece-index l.scope).faults ≡ keep_all l.initial.found (check_pieces (pieces_of (map piece_of l.list)) l.scope).faults)

abbrev pub invariant-arguments-loop-position : goal.invariant-arguments-loop-position
invariant-arguments-loop-position l =
    (l.made ++ (args_from l.list.1 l.position l.scope l.needs).all ≡ (check_args (args_of (map arg_of l.list.1)) l.scope l.needs).all)
    × (keep_all l.found (args_from l.list.1 l.position l.scope l.needs).faults ≡ keep_all l.initial.found (check_args (args_of (map arg_of l.list.1)) l.scope l.needs).faults)

abbrev pub invariant-other_elements-loop-i : goal.invariant-other_elements-loop-i
invariant-other_elements-loop-i l =
    (l.made ++ (rest_of l.es l.i l.scope l.need).all ≡ l.fn.head ∷ (rest_of l.es 1 l.scope l.need).all)
    × (keep_all l.found (rest_of l.es l.i l.scope l.need).faults ≡ keep_all l.initial.found (rest_of l.es 1 l.scope l.need).faults)
