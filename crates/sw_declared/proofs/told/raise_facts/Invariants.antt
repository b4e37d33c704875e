use Rattle.std.proofs.Common.{◌≡◌, ◌||◌, List, ℕ, take, nat_lt}
use Rattle.std.specs.List.{list_any}
use Rattle.sw_sight.specs.Levels.{level, IsKnown}
use Rattle.sw_declared.specs.Facts.{tells, AreKnown}
use Rattle.sw_declared.proofs.told.raise_facts.Given as goal

abbrev pub invariant-loop-fact : goal.invariant-loop-fact
invariant-loop-fact l = record {
  keeps : (x : List ℕ) → IsKnown x l.initial.told → IsKnown x l.told;
  told : AreKnown l.facts l.initial.told → (x : List ℕ) (n : ℕ) → nat_lt n (level x l.told) ≡ (nat_lt n (level x l.initial.told) || list_any (tells x n) (take l.fact-index l.facts));
}
