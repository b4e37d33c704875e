use Rattle.std.proofs.Common.{◌≡◌, ◌∙◌, map, sym, subst, arith}
use Rattle.std.proofs.lemmas.Grind.{common_steps}
use Rattle.sw_job.specs.Typed.{IsTyped}
use Rattle.sw_thin.specs.ProgramView.{func_of, funcs_of}
use Rattle.sw_thin.specs.Lowering.{func_code}
use Rattle.sw_thin.proofs.LoweringLemmas.{all_lowered}
use Rattle.sw_thin.proofs.Typing.{typed_map}
use Rattle.sw_thin.proofs.Whole.{carries_map}
use Rattle.sw_thin.proofs.lowering.lower.Goals as goal

pub new-code-requires : goal.new-code-requires
new-code-requires c =
    let e : c.loop-func.funcs ≡ map (λ f. func_code (func_of f)) c.args.program.now.funcs = grind (arith, common_steps) in
    subst IsTyped (sym (e ∙ all_lowered c.args.program.now.funcs)) (typed_map (funcs_of c.args.program.now) c.requires)

pub returns : goal.returns
returns c =
    let e : c.new-code.result ≡ map (λ f. func_code (func_of f)) c.args.program.now.funcs = grind (arith, common_steps) in
    carries_map (funcs_of c.args.program.now) c.new-code.result (e ∙ all_lowered c.args.program.now.funcs) c.funcs-2.ensures.never_stuck
