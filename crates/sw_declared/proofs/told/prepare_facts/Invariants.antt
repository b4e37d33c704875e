use Rattle.std.proofs.Common.{◌≡◌, List, ℕ, take}
use Rattle.sw_sight.specs.Levels.{level}
use Rattle.sw_declared.specs.Facts.{AreKnown}
use Rattle.sw_declared.proofs.told.prepare_facts.Given as goal

abbrev pub invariant-loop-fact : goal.invariant-loop-fact
invariant-loop-fact l = record {
  known : AreKnown (take l.fact-index l.facts) l.told;
  levels : (x : List ℕ) → level x l.told ≡ level x l.initial.told;
}
