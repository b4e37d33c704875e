use Rattle.std.proofs.Common.{◌≡◌, List, ℕ, take}
use Rattle.sw_sight.specs.Levels.{level}
use Rattle.sw_members.specs.Keys.{AreKnown}
use Rattle.sw_members.proofs.firsts.prepare.Given as goal

abbrev pub invariant-loop-key : goal.invariant-loop-key
invariant-loop-key l = record {
  known : AreKnown (take l.key-index l.keys) l.firsts;
  levels : (x : List ℕ) → level x l.firsts ≡ level x l.initial.firsts;
}
