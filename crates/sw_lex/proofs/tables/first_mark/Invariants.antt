use Rattle.std.proofs.Common.{◌≡◌, length, map}
use Rattle.sw_lex.specs.Matching.{IsTable, first_mark}
use Rattle.sw_lex.proofs.tables.first_mark.Given as goal

-- none of the marks so far begins the text
abbrev pub invariant-loop-table : goal.invariant-loop-table
invariant-loop-table l = record {
  same : first_mark (map (λ x. (x.0.now, x.1)) l.table) l.bytes ≡ first_mark (map (λ x. (x.0.now, x.1)) l.initial.table) l.bytes;
  texts : IsTable (map (λ x. (x.0.now, x.1)) l.table);
}

abbrev pub decreases-loop-table : goal.decreases-loop-table
decreases-loop-table l = length l.table
