use Rattle.sw_names.specs.Keys.{file_keys}
use Rattle.sw_names.proofs.Meetings.{each_start, each_step, each_end}
use Rattle.sw_names.proofs.keys.meet_decls.Goals as goal

pub loop-decl-init : goal.loop-decl-init
loop-decl-init c = each_start file_keys c.args.decls.now _

pub loop-decl-preserved : goal.loop-decl-preserved
loop-decl-preserved c = each_step file_keys _ _ _ _ _ _ c.loop-decl-test.true c.decl-item.is c.loop-decl.invariant c.in_ok-meet_decl.ensures

pub returns : goal.returns
returns c = each_end file_keys _ _ _ _ c.loop-decl.invariant c.loop-decl-test.false
