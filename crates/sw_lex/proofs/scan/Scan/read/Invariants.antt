use Rattle.std.proofs.Common.{◌-◌, length}
use Rattle.sw_lex.specs.Scanning.{Known}
use Rattle.sw_lex.proofs.scan.Scan.read.Given as goal

abbrev pub invariant-read : goal.invariant-read
invariant-read l = Known l.source l.scan

abbrev pub decreases-read : goal.decreases-read
decreases-read l = length l.source - l.scan.at
