use Rattle.std.proofs.Common.{◌++◌, ap, ◌∙◌, ◌+◌}
use Rattle.sw_declared.specs.Declarations.{aliases_in, funcs_from, types_in}
use Rattle.sw_declared.proofs.Pushed.{put_step, put_end}
use Rattle.sw_declared.proofs.Numbered.{funcs_step, funcs_end}
use Rattle.sw_declared.proofs.declaring.push_decls.Goals as goal

pub loop-decl-preserved : goal.loop-decl-preserved
loop-decl-preserved c =
    let i = c.loop-decl.invariant in
    let decls = c.args.decls.now in
    let at = c.loop-decl.decl-index in
    let x = c.decl-item.result in
    let start = c.args.names.now in
    let before = c.loop-decl.names in
    let after = c.push_decl.new.names in
    let pushed = c.in_ok-push_decl.ensures in
    record {
      types = put_step types_in start.types before.types after.types decls at x c.loop-decl-test.true c.decl-item.is i.types pushed.types;
      aliases = put_step aliases_in start.aliases before.aliases after.aliases decls at x c.loop-decl-test.true c.decl-item.is i.aliases pushed.aliases;
      funcs = funcs_step c.loop-decl.number c.in-Some.next before.funcs after.funcs (start.funcs ++ funcs_from 1 decls) decls at x c.loop-decl-test.true c.decl-item.is
          (c.in-Some.ensures.1 ∙ ap (λ k. c.loop-decl.number + k) c.count_types.ensures) i.funcs pushed.funcs;
    }

pub returns : goal.returns
returns c =
    let i = c.loop-decl.invariant in
    let decls = c.args.decls.now in
    let at = c.loop-decl.decl-index in
    let past = c.loop-decl-test.false in
    let start = c.args.names.now in
    let after = c.loop-decl.names in
    record {
      types = put_end types_in start.types after.types decls at i.types past;
      aliases = put_end aliases_in start.aliases after.aliases decls at i.aliases past;
      funcs = funcs_end c.loop-decl.number after.funcs (start.funcs ++ funcs_from 1 decls) decls at past i.funcs;
    }
