use Rattle.std.proofs.Common.{◌≡◌, length, map}
use Rattle.sw_lex.specs.Tables.{kind_in}
use Rattle.sw_lex.proofs.tables.kind_in.Given as goal

-- none of the words so far is the text
abbrev pub invariant-loop-table : goal.invariant-loop-table
invariant-loop-table l = kind_in (map (λ x. (x.0.now, x.1)) l.table) l.text ≡ kind_in (map (λ x. (x.0.now, x.1)) l.initial.table) l.text

abbrev pub decreases-loop-table : goal.decreases-loop-table
decreases-loop-table l = length l.table
