use Rattle.sw_check_decl.specs.TypesInSource.{type_broken}
use Rattle.sw_check_decl.proofs.Findings.{each_start, each_step, each_end}
use Rattle.sw_check_decl.proofs.written_types.report_parts.Goals as goal

pub loop-part-init : goal.loop-part-init
loop-part-init c = each_start (λ p. type_broken c.args.names.now c.args.own.now p.declared) c.args.parts.now _

pub loop-part-preserved : goal.loop-part-preserved
loop-part-preserved c = each_step (λ p. type_broken c.args.names.now c.args.own.now p.declared) _ _ _ _ _ _ c.loop-part-test.true c.part-item.is c.loop-part.invariant c.report_type.ensures

pub returns : goal.returns
returns c = each_end (λ p. type_broken c.args.names.now c.args.own.now p.declared) _ _ _ _ c.loop-part.invariant c.loop-part-test.false
