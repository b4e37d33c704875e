use Rattle.std.proofs.Common.{◌≡◌, ◌∷◌, ◌++◌, [], drop, sym, ap, ◌∙◌, arith, subst, add-one, length, ◌+◌}
use Rattle.std.proofs.lemmas.List.{append-nil}
use Rattle.sw_thin.specs.ProgramView.{stmt_of, body_of}
use Rattle.sw_thin.specs.Lowering.{declared_types, body_code, body_shapes}
use Rattle.sw_thin.specs.Drafts.{scope_of}
use Rattle.sw_thin.proofs.LoweringLemmas.{next_left, none_to_do, variables_more, instrs_more, shapes_more, lowered}
use Rattle.sw_thin.proofs.lowering.lower_func.Goals as goal

pub loop-stmt-preserved : goal.loop-stmt-preserved
loop-stmt-preserved c =
    let i = c.loop-stmt.invariant in
    let p = c.in_ok-put_stmt.ensures in
    let body = c.as_slice-body.result.now in
    let l = c.loop-stmt in
    let s = stmt_of c.stmt-item.result in
    let rest = body_of (drop (l.stmt-index + 1) body) in
    let n : body_of (drop l.stmt-index body) ≡ s ∷ rest = rw add-one (next_left body l.stmt-index c.stmt-item.result (omega (arith, c.loop-stmt-test.true)) c.stmt-item.is) in
    let new = c.put_stmt.new.draft in
    record {
      variables = subst (λ vars. new.variables ++ declared_types vars rest ≡ declared_types [] (body_of body)) (sym p.vars)
          (variables_more l.vars s _ rest l.draft.variables new.variables _ n i.variables p.variables);
      instrs = subst (λ vars. new.instrs ++ body_code (scope_of [] vars) rest ≡ body_code [] (body_of body)) (sym p.vars)
          (instrs_more l.vars s _ rest l.draft.instrs new.instrs _ n i.instrs p.instrs);
      shapes = subst (λ vars. new.shapes ++ body_shapes vars rest ≡ body_shapes [] (body_of body)) (sym p.vars)
          (shapes_more l.vars s _ rest l.draft.shapes new.shapes _ n i.shapes p.shapes);
    }

pub returns : goal.returns
returns c =
    let l = c.loop-stmt in
    let i = c.loop-stmt.invariant in
    let p = c.in_ok-put.ensures in
    let b = c.as_slice-body.ensures in
    let e = none_to_do c.as_slice-body.result.now l.stmt-index (omega (arith, c.loop-stmt-test.false)) in
    lowered c.args.func.now c.put.new.self.variables c.put.new.self.instrs c.put.new.self.shapes
    (p.variables ∙ sym (append-nil l.draft.variables) ∙ ap (λ rest. l.draft.variables ++ declared_types l.vars rest) (sym e) ∙ i.variables ∙ ap (λ body. declared_types [] (body_of body)) b)
    (p.instrs ∙ ap (λ rest. l.draft.instrs ++ body_code (scope_of [] l.vars) rest) (sym e) ∙ i.instrs ∙ ap (λ body. body_code [] (body_of body)) b)
    (p.shapes ∙ ap (λ parts. l.draft.shapes ++ record { variables = length l.vars; parts = parts } ∷ []) c.new.ensures ∙ ap (λ rest. l.draft.shapes ++ body_shapes l.vars rest) (sym e) ∙ i.shapes ∙ ap (λ body. body_shapes [] (body_of body)) b)
