use Rattle.std.proofs.Common.{◌≡◌, ◌-◌, length}
use Rattle.sw_lex.specs.Matching.{IsWithin}
use Rattle.sw_lex.specs.Long.{StopsAtStart, Known, next}
use Rattle.sw_lex.proofs.long.first_of_long.Given as goal

abbrev pub invariant-prefix : goal.invariant-prefix
invariant-prefix l = record {
  known : Known l.source l.prefix;
  start : StopsAtStart l.prefix;
  next : l.item ≡ next l.prefix l.source;
  within : IsWithin l.item (length l.source - l.prefix.at);
}

abbrev pub decreases-prefix : goal.decreases-prefix
decreases-prefix l = length l.source - l.prefix.at
