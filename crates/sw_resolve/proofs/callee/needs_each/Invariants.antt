use Rattle.std.proofs.Common.{◌≡◌, map, take}
use Rattle.sw_typing.specs.Needs.{needing}
use Rattle.sw_resolve.proofs.callee.needs_each.Given as goal

abbrev pub invariant-loop-ty : goal.invariant-loop-ty
invariant-loop-ty l = l.needs ≡ map needing (take l.ty-index l.takes)
