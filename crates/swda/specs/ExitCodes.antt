-- The exit code of the program for each status of the top call.
use Rattle.std.specs.Prelude.{ℕ}
use Rattle.swda.specs.declared.status.Status.{Status}
use Rattle.swda.specs.declared.status.Status.TheVariants.{Done, Refused, Usage, LoadFault, WriteFault, WantOfMemory, NotBuilt}

abbrev pub code_of : Status → ℕ
code_of Done = 0
code_of (Refused refusal) = 1
code_of Usage = 2
code_of (LoadFault name) = 3
code_of WriteFault = 4
code_of WantOfMemory = 10
code_of NotBuilt = 11
