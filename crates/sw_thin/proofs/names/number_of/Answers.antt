use Rattle.std.proofs.Common.{arith}
use Rattle.sw_thin.proofs.SumLemmas.{number_step}
use Rattle.sw_thin.proofs.names.number_of.Goals as goal

pub overflow_mul-number : goal.overflow_mul-number
overflow_mul-number c =
    let step = number_step c.args.digits.now c.loop-c.c-index c.loop-c.number c.requires.digits c.requires.few c.loop-c-test.true c.loop-c.invariant in
    omega (arith, step.0)

pub overflow_add-number : goal.overflow_add-number
overflow_add-number c =
    let step = number_step c.args.digits.now c.loop-c.c-index c.loop-c.number c.requires.digits c.requires.few c.loop-c-test.true c.loop-c.invariant in
    omega (arith, step.0, c.from.ensures)
