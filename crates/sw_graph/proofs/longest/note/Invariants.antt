use Rattle.std.proofs.Common.{◌≡◌, ◌<◌, ◌≤◌, ℕ, length}
use Rattle.sw_graph.specs.Graphs.{marked, entry}
use Rattle.sw_graph.specs.Levels.{noted}
use Rattle.sw_graph.proofs.longest.note.Given as goal

abbrev pub invariant-loop-t : goal.invariant-loop-t
invariant-loop-t l = record {
  counts : length l.levels.items ≡ length l.fn.levels.items;
  before : (k : ℕ) → k < l.t → entry l.levels.items k ≡ noted (entry l.fn.levels.items k) (marked l.table k) l.level;
  after : (k : ℕ) → l.t ≤ k → entry l.levels.items k ≡ entry l.fn.levels.items k;
}
