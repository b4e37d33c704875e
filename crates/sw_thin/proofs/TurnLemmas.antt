-- What a run of the job machine comes to, step by step.
use Rattle.std.proofs.Common.{◌≡◌, ℕ, suc, ◌+◌, ◌<◌, ◌≤◌, List, ◌∷◌, refl, ap, ◌∙◌, subst, arith}
use Rattle.sw_job.specs.declared.turn.Frame.{Frame}
use Rattle.sw_job.specs.declared.turn.Exit.{Exit}
use Rattle.sw_job.specs.declared.turn.Exit.TheVariants.{Ask, Return, Trap, Slice}
use Rattle.sw_job.specs.declared.turn.Given.{Given}
use Rattle.sw_job.specs.declared.code.FuncCode.{FuncCode}
use Rattle.sw_job.specs.Machine.{code_enter, code_run, code_step, code_then}
use Rattle.sw_job.specs.Typed.{TypedFrames, TypedStart, all_ahead, LeavesFewer, Safe, EachStepIsSafe, SafeEntry, EachEntryIsSafe}
use Rattle.sw_thin.specs.declared.machine.Next.{Next}
use Rattle.sw_thin.specs.declared.machine.Next.TheVariants.{Goes, Stops}
use Rattle.sw_thin.specs.Turn.{IsNext, RunEnds, StepTo, EnterTo}

-- a run of typed frames has come to these, from where it goes on
pub record Comes (code : List FuncCode) (max : ℕ) (m0 : Frame) (ms0 : List Frame) (m : Frame) (ms : List Frame) (begun : ℕ) : Type 0 where
  pub run : (steps : ℕ) → (more : ℕ) × (code_run code max more m0 ms0 0 ≡ code_run code max steps m ms begun)
  pub frames : TypedFrames code m ms
  pub nearer : all_ahead code (m ∷ ms) + begun ≤ all_ahead code (m0 ∷ ms0)
  pub counted : begun ≤ max

pub step_to : (code : List FuncCode) (max : ℕ) (m : Frame) (ms : List Frame) (begun : ℕ) (answer : Next) (frames : List Frame) → EachStepIsSafe code → TypedFrames code m ms → begun ≤ max → IsNext (code_step code max m ms begun) answer frames → StepTo code max m ms begun answer frames
step_to code max m ms begun answer frames safe typed counted next =
    record { step = next; safe = subst (λ z. Safe code max (all_ahead code (m ∷ ms)) begun z) next (safe max m ms begun counted typed) }

pub enter_to : (code : List FuncCode) (given : Given) (start : List Frame) (answer : Next) (frames : List Frame) → EachEntryIsSafe code → TypedStart code given start → IsNext (code_enter code given start) answer frames → EnterTo code given start answer frames
enter_to code given start answer frames safe typed next =
    record { enter = next; safe = subst (λ z. SafeEntry code (all_ahead code start) z) next (safe given start typed) }

pub comes_here : (code : List FuncCode) (max : ℕ) (m : Frame) (ms : List Frame) → TypedFrames code m ms → Comes code max m ms m ms 0
comes_here code max m ms typed = record { run = λ steps. (steps, refl); frames = typed; nearer = omega arith; counted = omega arith }

module _ (code : List FuncCode) (max : ℕ) (m0 m : Frame) (ms0 ms : List Frame) (begun : ℕ) where
  pub comes_on : (answer : Next) (m' : Frame) (ms' : List Frame) (begun' : ℕ) → Comes code max m0 ms0 m ms begun → StepTo code max m ms begun answer ms' → answer ≡ Goes m' begun' → Comes code max m0 ms0 m' ms' begun'
  comes_on answer m' ms' begun' comes step e = by (subst (λ z. StepTo code max m ms begun z ms') e step)
    where
      by : StepTo code max m ms begun (Goes m' begun') ms' → Comes code max m0 ms0 m' ms' begun'
      by s =
          let safe = s.safe in
          record {
            run = λ steps. let here = comes.run (suc steps) in (here.0, here.1 ∙ ap (λ z. code_then z (code_run code max steps)) s.step);
            frames = safe.0;
            nearer = omega (arith, safe.1.fewer, safe.1.counts, comes.nearer);
            counted = safe.1.within;
          }

  -- an exit leaves fewer instructions ahead than there were at first
  leaves_fewer : (exit : Exit) (before after first : ℕ) → 1 ≤ max → before + begun ≤ first → LeavesFewer max begun exit before after → after < first
  leaves_fewer (Ask ask) before after first some near less = omega arith
  leaves_fewer (Return v) before after first some near less = omega arith
  leaves_fewer (Trap kind) before after first some near less = omega arith
  leaves_fewer Slice before after first some near less = omega (arith, less.0, less.1)

  -- what is ahead and what was begun are together no more than was ahead at first
  all_spent : (exit : Exit) (before after first : ℕ) → before + begun ≤ first → LeavesFewer max begun exit before after → begun + after ≤ first
  all_spent (Ask ask) before after first near less = omega arith
  all_spent (Return v) before after first near less = omega arith
  all_spent (Trap kind) before after first near less = omega arith
  all_spent Slice before after first near less = omega (arith, less.0)

  pub run_ends : (answer : Next) (exit : Exit) (left : List Frame) (begun' : ℕ) → 1 ≤ max → Comes code max m0 ms0 m ms begun → StepTo code max m ms begun answer left → answer ≡ Stops exit begun' → RunEnds code max m0 ms0 (record { exit = exit; frames = left; begun = begun' })
  run_ends answer exit left begun' some comes step e = by (subst (λ z. StepTo code max m ms begun z left) e step)
    where
      by : StepTo code max m ms begun (Stops exit begun') left → RunEnds code max m0 ms0 (record { exit = exit; frames = left; begun = begun' })
      by s =
          let safe = s.safe in
          let here = comes.run 1 in
          record {
            run = (here.0, here.1 ∙ ap (λ z. code_then z (code_run code max 0)) s.step);
            left = safe.0;
            nearer = leaves_fewer exit (all_ahead code (m ∷ ms)) (all_ahead code left) (all_ahead code (m0 ∷ ms0)) some comes.nearer safe.1;
            counted = omega (arith, safe.2, comes.counted);
            spent = (let all = all_spent exit (all_ahead code (m ∷ ms)) (all_ahead code left) (all_ahead code (m0 ∷ ms0)) comes.nearer safe.1 in omega (arith, safe.2));
          }
