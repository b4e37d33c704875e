use Rattle.std.proofs.Common.{◌≡◌, length}
use Rattle.sw_graph.specs.Levels.{TellsWalks, AreLevels}
use Rattle.sw_graph.proofs.longest.levels.Given as goal

abbrev pub invariant-loop-round : goal.invariant-loop-round
invariant-loop-round l = record {
  counts : length l.levels.items ≡ length l.graph;
  size : length l.table.items ≡ length l.graph;
  walks : TellsWalks l.graph l.passed l.round l.table.items;
  told : AreLevels l.graph l.passed l.round l.levels.items;
}
