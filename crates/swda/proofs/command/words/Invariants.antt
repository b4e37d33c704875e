use Rattle.std.proofs.Common.{◌≡◌, ◌++◌, drop, IfSome}
use Rattle.swda.proofs.command.words.Given as goal

-- the words so far, and then those from this number on, are all but the program's name
abbrev pub invariant-loop-number : goal.invariant-loop-number
invariant-loop-number g l = IfSome (g.C.CommandLine.words l.line) (λ all. l.words ++ drop l.number all ≡ drop 1 all)
