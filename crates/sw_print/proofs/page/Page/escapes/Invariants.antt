use Rattle.std.proofs.Common.{◌≡◌, ◌++◌, take}
use Rattle.sw_layout.specs.Words.{escapes}
use Rattle.sw_print.proofs.page.Page.escapes.Given as goal

abbrev pub invariant-loop-byte : goal.invariant-loop-byte
invariant-loop-byte l = l.self ≡ l.initial.self ++ escapes (take l.byte-index l.text)
