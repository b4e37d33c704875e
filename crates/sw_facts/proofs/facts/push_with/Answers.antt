use Rattle.std.proofs.Common.{◌++◌, ap, ◌∙◌, ◌+◌}
use Rattle.sw_declared.specs.Declarations.{funcs_in}
use Rattle.sw_facts.specs.Known.{file_func}
use Rattle.sw_facts.specs.Numbers.{any_owner, counted}
use Rattle.sw_facts.proofs.Lists.{counted_step, counted_end}
use Rattle.sw_facts.proofs.facts.push_with.Goals as goal

pub loop-decl-preserved : goal.loop-decl-preserved
loop-decl-preserved c bare =
    let takes = funcs_in any_owner in
    let make = file_func c.args.names.now in
    let xs = c.args.decls.now in
    counted_step takes make c.loop-decl.number c.in_ok-number.number c.loop-decl.list c.push_func.new.list (c.args.list.now ++ counted takes make 0 xs) xs c.loop-decl.decl-index c.decl-item.result
    c.loop-decl-test.true c.decl-item.is (c.in_ok-number.ensures ∙ ap (λ k. c.loop-decl.number + k) (c.in_ok-count_funcs.ensures)) (c.loop-decl.invariant bare)
    (c.in_ok-push_func.ensures bare)

pub returns : goal.returns
returns c bare =
    let takes = funcs_in any_owner in
    let make = file_func c.args.names.now in
    let xs = c.args.decls.now in
    counted_end takes make c.loop-decl.number c.loop-decl.list (c.args.list.now ++ counted takes make 0 xs) xs c.loop-decl.decl-index c.loop-decl-test.false (c.loop-decl.invariant bare)
