use Rattle.std.proofs.Common.{◌≡◌, sym}
use Rattle.sw_thin.specs.declared.world.Job.TheVariants.{Ready}
use Rattle.sw_thin.specs.World.{WorldState}
use Rattle.sw_thin.proofs.WorldLemmas.{Ran, sound_after, steps_after}
use Rattle.sw_thin.proofs.world.World.turn.Goals as goal

pub invariant_of-self-2 : goal.invariant_of-self-2
invariant_of-self-2 c =
    let i = c.self.inside in
    let s = c.in-Ready.start in
    let r : WorldState = record { code = i.code; main = i.main.0; job = i.job; log = i.log; begun = i.begun; history = i.history.items } in
    let end = c.in_ok-exit.field-0 in
    let e = c.in_ok-exit.ensures in
    let ran : Ran i.code s end.exit end.frames end.begun = record { reaches = e.run; left = e.left; nearer = e.nearer; spent = e.spent } in
    let here : i.job ≡ Ready s = sym c.in-Ready.ensures.value in
    sound_after r s c.args.job end _ _ _ c.in_ok-entry.entry _ _ c.self.invariant here c.if-job-ne0.false ran c.left_by-left.ensures.job c.left_by-left.ensures.line c.in_ok-append_line.ensures c.in_ok-entry.ensures c.reserve.ensures.items c.push_reserved.ensures

pub returns-clause-ok : goal.returns-clause-ok
returns-clause-ok c =
    let i = c.self.inside in
    let s = c.in-Ready.start in
    let r : WorldState = record { code = i.code; main = i.main.0; job = i.job; log = i.log; begun = i.begun; history = i.history.items } in
    let end = c.in_ok-exit.field-0 in
    let e = c.in_ok-exit.ensures in
    let ran : Ran i.code s end.exit end.frames end.begun = record { reaches = e.run; left = e.left; nearer = e.nearer; spent = e.spent } in
    let here : i.job ≡ Ready s = sym c.in-Ready.ensures.value in
    steps_after _ r s c.args.job end _ _ _ c.in_ok-entry.entry _ _ c.self.view_is here ran c.left_by-left.ensures.job c.in_ok-entry.ensures c.reserve.ensures.items c.push_reserved.ensures
