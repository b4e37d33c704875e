use Rattle.std.proofs.Common.{◌<◌, ◌^◌, refl, sym, ap, arith, length}
use Rattle.sw_job.specs.declared.turn.Given.TheVariants.{Nothing}
use Rattle.sw_job.specs.declared.turn.TurnStart.{TurnStart}
use Rattle.sw_thin.specs.declared.world.Job.TheVariants.{Ready}
use Rattle.sw_thin.proofs.WorldLemmas.{sound_as, sound_start}
use Rattle.sw_thin.proofs.world.World.new.Goals as goal

pub invariant_of-result : goal.invariant_of-result
invariant_of-result c =
    let fits : length c.in-Some.func.now.instrs < 2 ^ 64 = omega (arith, c.len.ensures) in
    sound_as _ _ _ _ _ (ap (λ frames. let s : TurnStart = record { frames = frames; given = Nothing } in Ready s) c.in_ok-frames.ensures) c.new.ensures refl c.new-2.ensures.items
    (sound_start c.args.code c.args.main.0 c.in-Some.func.now c.in-Some.ensures.typed (sym c.in-Some.ensures.func) fits)
