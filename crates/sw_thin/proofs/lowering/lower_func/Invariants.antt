use Rattle.std.proofs.Common.{◌≡◌, ◌++◌, [], drop}
use Rattle.sw_thin.specs.ProgramView.{body_of}
use Rattle.sw_thin.specs.Lowering.{body_code, body_shapes, declared_types}
use Rattle.sw_thin.specs.Drafts.{scope_of}
use Rattle.sw_thin.proofs.lowering.lower_func.Given as goal

-- the code so far and that of the statements that are left are the code of the body
abbrev pub invariant-loop-stmt : goal.invariant-loop-stmt
invariant-loop-stmt l = record {
  variables : l.draft.variables ++ declared_types l.vars (body_of (drop l.stmt-index l.body)) ≡ declared_types [] (body_of l.body);
  instrs : l.draft.instrs ++ body_code (scope_of [] l.vars) (body_of (drop l.stmt-index l.body)) ≡ body_code [] (body_of l.body);
  shapes : l.draft.shapes ++ body_shapes l.vars (body_of (drop l.stmt-index l.body)) ≡ body_shapes [] (body_of l.body);
}
