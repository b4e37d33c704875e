use Rattle.std.proofs.Common.{◌≡◌, map, take}
use Rattle.sw_thin.specs.ProgramView.{func_of}
use Rattle.sw_thin.specs.Lowering.{func_code}
use Rattle.sw_thin.proofs.lowering.lower.Given as goal

-- the funcs so far are lowered
abbrev pub invariant-loop-func : goal.invariant-loop-func
invariant-loop-func l = l.funcs ≡ map (λ f. func_code (func_of f)) (take l.func-index l.from)
