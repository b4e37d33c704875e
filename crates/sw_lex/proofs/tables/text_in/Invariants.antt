use Rattle.std.proofs.Common.{◌≡◌, length, map}
use Rattle.sw_lex.specs.Matching.{text_in}
use Rattle.sw_lex.proofs.tables.text_in.Given as goal

-- none of the entries so far is of the kind
abbrev pub invariant-loop-table : goal.invariant-loop-table
invariant-loop-table l = text_in (map (λ x. (x.0.now, x.1)) l.table) l.kind ≡ text_in (map (λ x. (x.0.now, x.1)) l.initial.table) l.kind

abbrev pub decreases-loop-table : goal.decreases-loop-table
decreases-loop-table l = length l.table
