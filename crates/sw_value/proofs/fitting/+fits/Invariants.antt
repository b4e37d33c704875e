use Rattle.std.proofs.Common.{◌≡◌, drop, map}
use Rattle.sw_value.specs.Fits.{value_fits, each_fits, parts_fit}
use Rattle.sw_value.proofs.fitting.+fits.Given as goal

abbrev pub invariant-each_under-loop-v : goal.invariant-each_under-loop-v
invariant-each_under-loop-v l = each_fits (map (value_fits l.kinds) (drop l.v-index l.vs)) l.marks l.base ≡ each_fits (map (value_fits l.kinds) l.vs) l.marks l.base

abbrev pub invariant-parts_fit-loop-i : goal.invariant-parts_fit-loop-i
invariant-parts_fit-loop-i l = parts_fit (map (value_fits l.kinds) (drop l.i l.parts)) (drop l.i l.types) ≡ parts_fit (map (value_fits l.kinds) l.parts) l.types
