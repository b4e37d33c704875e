use Rattle.std.proofs.Common.{◌++◌, ap, ◌∙◌, ◌+◌}
use Rattle.sw_facts.specs.Known.{types_from}
use Rattle.sw_facts.proofs.Tables.{types_step, types_end}
use Rattle.sw_facts.proofs.facts.push_types.Goals as goal

pub loop-decl-preserved : goal.loop-decl-preserved
loop-decl-preserved c =
    let names = c.args.names.now in
    let table = c.args.table.now in
    let decls = c.args.decls.now in
    types_step names table c.loop-decl.before c.in_ok-before.before c.loop-decl.number c.in_ok-number.number c.loop-decl.types c.push_type.new.types
    (c.args.types.now ++ types_from names table 0 0 decls) decls c.loop-decl.decl-index c.decl-item.result c.loop-decl-test.true c.decl-item.is
    (c.in_ok-before.ensures ∙ ap (λ k. c.loop-decl.before + k) c.count_types.ensures)
    (c.in_ok-number.ensures ∙ ap (λ k. c.loop-decl.number + k) (c.in_ok-count_funcs.ensures))
    c.loop-decl.invariant c.in_ok-push_type.ensures

pub returns : goal.returns
returns c =
    let names = c.args.names.now in
    let table = c.args.table.now in
    let decls = c.args.decls.now in
    types_end names table c.loop-decl.before c.loop-decl.number c.loop-decl.types (c.args.types.now ++ types_from names table 0 0 decls) decls c.loop-decl.decl-index
    c.loop-decl-test.false c.loop-decl.invariant
