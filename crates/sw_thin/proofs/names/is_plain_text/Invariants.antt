use Rattle.std.proofs.Common.{take}
use Rattle.sw_thin.specs.Thin.{IsPlain}
use Rattle.sw_thin.proofs.names.is_plain_text.Given as goal

abbrev pub invariant-loop-c : goal.invariant-loop-c
invariant-loop-c l = IsPlain (take l.c-index l.text)
