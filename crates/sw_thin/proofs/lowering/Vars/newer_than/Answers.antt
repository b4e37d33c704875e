use Rattle.std.proofs.Common.{arith, add-one, sym, ◌∙◌}
use Rattle.sw_thin.proofs.LoweringLemmas.{found, passed, none_left}
use Rattle.sw_thin.proofs.lowering.Vars.newer_than.Goals as goal

pub returns-then-is_named_at : goal.returns-then-is_named_at
returns-then-is_named_at c =
    let here = found c.args.name.now c.args.self.now c.loop-i.i (sym c.is_named_at.ensures ∙ c.if-is_named_at.true) in
    omega (arith, here, c.loop-i.invariant)

pub loop-i-preserved : goal.loop-i-preserved
loop-i-preserved c =
    let on = passed c.args.name.now c.args.self.now c.loop-i.i (omega (arith, c.len-i-end.ensures)) (sym c.is_named_at.ensures ∙ c.if-is_named_at.false) in
    rw add-one (omega (arith, on, c.loop-i.invariant))

pub returns : goal.returns
returns c =
    let none = none_left c.args.name.now c.args.self.now c.loop-i.i (omega (arith, c.len-i-end.ensures)) in
    omega (arith, none, c.loop-i.invariant, c.len-i-end.ensures, c.len.ensures)
