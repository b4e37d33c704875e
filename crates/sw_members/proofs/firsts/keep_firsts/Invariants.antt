use Rattle.std.proofs.Common.{◌≡◌, ◌&&◌, List, ℕ, take, cond, nat_eq}
use Rattle.std.specs.List.{list_any}
use Rattle.sw_sight.specs.InSight.{same}
use Rattle.sw_sight.specs.Levels.{level, IsKnown}
use Rattle.sw_members.specs.Keys.{AreKnown}
use Rattle.sw_members.proofs.firsts.keep_firsts.Given as goal

abbrev pub invariant-loop-key : goal.invariant-loop-key
invariant-loop-key l = record {
  keeps : (x : List ℕ) → IsKnown x l.initial.firsts → IsKnown x l.firsts;
  levels : AreKnown l.keys l.initial.firsts → (x : List ℕ) → level x l.firsts ≡ cond (list_any (same x) (take l.key-index l.keys) && nat_eq (level x l.initial.firsts) 0) l.number (level x l.initial.firsts);
}
