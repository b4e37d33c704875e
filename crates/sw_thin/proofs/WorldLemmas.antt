-- A world stays sound: what a turn of the machine leaves is what the same turn leaves in the meaning.
use Rattle.std.proofs.Common.{◌≡◌, ℕ, ◌+◌, ◌<◌, ◌≤◌, ◌^◌, max, List, [], ◌∷◌, ◌++◌, Option, Some, None, refl, sym, ap, ◌∙◌, subst, arith, length}
use Rattle.std.specs.Prelude.{slice_get}
use Rattle.sw_base.specs.declared.ids.JobNo.{JobNo}
use Rattle.sw_thin.specs.Program.{Func}
use Rattle.sw_job.specs.declared.value.Value.TheVariants.{Void}
use Rattle.sw_job.specs.declared.turn.Frame.{Frame}
use Rattle.sw_job.specs.declared.turn.Ask.TheVariants.{Print as AskPrint}
use Rattle.sw_job.specs.declared.turn.Exit.{Exit}
use Rattle.sw_job.specs.declared.turn.Exit.TheVariants.{Ask, Return, Trap, Slice}
use Rattle.sw_job.specs.declared.turn.Given.TheVariants.{Nothing, Value as GivenValue}
use Rattle.sw_job.specs.declared.turn.TurnStart.{TurnStart}
use Rattle.sw_job.specs.declared.turn.TurnEnd.{TurnEnd}
use Rattle.sw_job.specs.declared.code.FuncCode.{FuncCode}
use Rattle.sw_job.specs.Machine.{frame, CodeEnds, CodeReaches}
use Rattle.sw_job.specs.Typed.{IsTyped, TypedStart, TypedLeft, size_of, all_ahead}
use Rattle.sw_thin.specs.declared.history.Event.TheVariants.{Turn}
use Rattle.sw_thin.specs.declared.history.Label.TheVariants.{Go}
use Rattle.sw_thin.specs.declared.history.Entry.{Entry}
use Rattle.sw_thin.specs.Meaning.{TreeFrame, entry}
use Rattle.sw_thin.specs.Carries.{Alike}
use Rattle.sw_thin.specs.State.{Activation, MeaningState, after_exit, Replays}
use Rattle.sw_thin.specs.History.{slice_limit, start_state, KeptTurn, KeptEvent, IsKept, IsDriven, labels_of}
use Rattle.sw_thin.specs.declared.world.Job.{Job}
use Rattle.sw_thin.specs.declared.world.Job.TheVariants.{Ready, Ended, Trapped, Lost}
use Rattle.sw_thin.specs.World.{WorldState, state_of, IsAlike, IsOfJob, IsLegal, IsTypedJob, job_ahead, IsLost, Sound, IsSound, IsAtEnd, trap_of, next_job, printed_line, with_line, Steps, turn_entry}
use Rattle.sw_thin.proofs.Reaches.{alike_all, turn_counted}
use Rattle.sw_thin.proofs.HistoryLemmas.{kept_more, kept_driven, kept_replays}

-- the world after a turn
abbrev pub after_turn : WorldState → JobNo → Exit → List Frame → ℕ → WorldState
after_turn r j exit frames begun = record {
  code = r.code;
  main = r.main;
  job = next_job exit frames;
  log = with_line r.log (printed_line exit);
  begun = r.begun + begun;
  history = r.history ++ turn_entry j begun ∷ [];
}

-- what the machine says of a turn
pub record Ran (code : List FuncCode) (s : TurnStart) (exit : Exit) (frames : List Frame) (begun : ℕ) : Type 0 where
  pub reaches : CodeReaches code slice_limit s.given s.frames (CodeEnds exit frames begun)
  pub left : TypedLeft code exit frames
  pub nearer : all_ahead code frames < all_ahead code s.frames
  pub spent : begun + all_ahead code frames ≤ all_ahead code s.frames

typed_next : (code : List FuncCode) (exit : Exit) (frames : List Frame) → TypedLeft code exit frames → IsTypedJob code (next_job exit frames)
typed_next code (Ask (AskPrint text)) frames t = t
typed_next code (Return v) frames t = tt
typed_next code (Trap kind) frames t = tt
typed_next code Slice frames t = t

-- the activation of the job, where so much is left to do on the tree
abbrev of_start : TurnStart → List TreeFrame → Activation
of_start s left = record { serves = 0; node = 0; given = s.given; left = left }

-- the activation after an exit
abbrev next_activation : Exit → Activation → List TreeFrame → Option Activation
next_activation (Ask (AskPrint text)) old left = Some (record { serves = 0; node = 0; given = GivenValue Void; left = left })
next_activation (Return v) old left = None
next_activation (Trap kind) old left = Some old
next_activation Slice old left = Some (record { serves = 0; node = 0; given = Nothing; left = left })

next_of_job : (code : List FuncCode) (exit : Exit) (frames : List Frame) (old : Activation) (left : List TreeFrame) → ((turns : ℕ) → Alike code turns frames left) → IsOfJob code (next_job exit frames) (next_activation exit old left)
next_of_job code (Ask (AskPrint text)) frames old left a = record { left = left; same = refl; alike = a }
next_of_job code (Return v) frames old left a = refl
next_of_job code (Trap kind) frames old left a = tt
next_of_job code Slice frames old left a = record { left = left; same = refl; alike = a }

next_there : (exit : Exit) (frames : List Frame) → ¬ IsLost (next_job exit frames)
next_there (Ask (AskPrint text)) frames lost = lost
next_there (Return v) frames lost = lost
next_there (Trap kind) frames lost = lost
next_there Slice frames lost = lost

-- what is ahead after a turn
ahead_next : (code : List FuncCode) (s : TurnStart) (exit : Exit) (frames : List Frame) (begun : ℕ) → Ran code s exit frames begun → begun + job_ahead code (next_job exit frames) ≤ job_ahead code (Ready s)
ahead_next code s (Ask (AskPrint text)) frames begun r = let m = r.spent in omega arith
ahead_next code s (Return v) frames begun r = let m = r.spent in omega arith
ahead_next code s (Trap kind) frames begun r = let m = r.spent in omega arith
ahead_next code s Slice frames begun r = let m = r.spent in omega arith

-- the states before and after agree
after_state : (s : TurnStart) (log : List (List ℕ)) (n begun : ℕ) (left left' : List TreeFrame) (exit : Exit) (frames : List Frame) → state_of (next_job exit frames) (with_line log (printed_line exit)) (n + begun) (next_activation exit (of_start s left) left') ≡ after_exit (state_of (Ready s) log n (Some (of_start s left))) 0 (of_start s left) exit left' begun
after_state s log n begun left left' (Ask (AskPrint text)) frames = refl
after_state s log n begun left left' (Return v) frames = refl
after_state s log n begun left left' (Trap kind) frames = refl
after_state s log n begun left left' Slice frames = refl

legal_turn : (main : Func) (r : WorldState) (s : TurnStart) (j : JobNo) (exit : Exit) (frames : List Frame) (begun : ℕ) → r.job ≡ Ready s → TypedStart r.code s.given s.frames → j.0 ≡ 0 → Ran r.code s exit frames begun → IsLegal main r → IsLegal main (after_turn r j exit frames begun)
legal_turn main r s j exit frames begun here typed turn ran legal =
    let of_job : IsAlike r.code s legal.activation = subst (λ o. IsOfJob r.code o legal.activation) here legal.of_job in
    let both = alike_all r.code slice_limit s.given s.frames of_job.left of_job.alike typed (omega arith) ran.reaches in
    let counted = turn_counted slice_limit s.given of_job.left (omega arith) both.1 in
    let old = of_start s of_job.left in
    let before = state_of (Ready s) r.log r.begun (Some old) in
    let after = state_of (next_job exit frames) (with_line r.log (printed_line exit)) (r.begun + begun) (next_activation exit old both.0) in
    let kept_turn : KeptTurn before 0 (max 1 begun) after = record {
      turn = record {
        untrapped = refl;
        activation = old;
        is_ready = refl;
        at_least_one = omega arith;
        exit = exit;
        left = both.0;
        begun = begun;
        reaches = counted.0;
        effect = after_state s r.log r.begun begun of_job.left both.0 exit frames;
      };
      counted = refl;
      within = counted.2;
      sliced = counted.1;
    } in
    let kept_event : KeptEvent before (Turn j) (Go j (max 1 begun) ∷ []) after = (max 1 begun, refl, subst (λ n. KeptTurn before n (max 1 begun) after) (sym turn) kept_turn) in
    let kept : IsKept (start_state main) r.history before =
    subst (λ o. IsKept (start_state main) r.history (state_of o r.log r.begun (Some old))) here
    (subst (λ a. IsKept (start_state main) r.history (state_of r.job r.log r.begun a)) of_job.same legal.kept) in
    record {
      activation = next_activation exit old both.0;
      kept = kept_more (start_state main) r.history before (turn_entry j begun) after kept kept_event;
      of_job = next_of_job r.code exit frames old both.0 both.2;
    }

-- a turn keeps a world sound
pub sound_turn : (r : WorldState) (s : TurnStart) (j : JobNo) (exit : Exit) (frames : List Frame) (begun : ℕ) → IsSound r → r.job ≡ Ready s → j.0 ≡ 0 → Ran r.code s exit frames begun → IsSound (after_turn r j exit frames begun)
sound_turn r s j exit frames begun kept here turn ran =
    let sound : Sound r = kept (λ lost. subst IsLost here lost) in
    let typed : TypedStart r.code s.given s.frames = subst (IsTypedJob r.code) here sound.typed in
    let spent = ahead_next r.code s exit frames begun ran in
    let fits : r.begun + job_ahead r.code (Ready s) ≤ 2 ^ 64 = subst (λ o. r.begun + job_ahead r.code o ≤ 2 ^ 64) here sound.fits in
    λ there. record {
      typed = typed_next r.code exit frames ran.left;
      legal = λ funcs main carries is_main. legal_turn main r s j exit frames begun here typed turn ran (sound.legal funcs main carries is_main);
      fits = omega arith;
    }

-- the fields of a world under other names
pub sound_as : (r : WorldState) (job : Job) (log : List (List ℕ)) (begun : ℕ) (history : List Entry) → job ≡ r.job → log ≡ r.log → begun ≡ r.begun → history ≡ r.history → IsSound r → IsSound (record { code = r.code; main = r.main; job = job; log = log; begun = begun; history = history })
sound_as r job log begun history p q n h sound =
    subst (λ x. IsSound (record { code = r.code; main = r.main; job = x; log = log; begun = begun; history = history })) (sym p)
    (subst (λ x. IsSound (record { code = r.code; main = r.main; job = r.job; log = x; begun = begun; history = history })) (sym q)
    (subst (λ x. IsSound (record { code = r.code; main = r.main; job = r.job; log = r.log; begun = x; history = history })) (sym n)
    (subst (λ x. IsSound (record { code = r.code; main = r.main; job = r.job; log = r.log; begun = r.begun; history = x })) (sym h) sound)))

-- a world begins sound
pub sound_start : (code : List FuncCode) (main : ℕ) (f : FuncCode) → IsTyped code → slice_get code main ≡ Some f → length f.instrs < 2 ^ 64 → IsSound (record { code = code; main = main; job = Ready (record { frames = frame main 0 [] ∷ []; given = Nothing }); log = []; begun = 0; history = [] })
sound_start code main f typed here fits there =
    let size : size_of (slice_get code main) ≡ length f.instrs = ap size_of here in
    record {
      typed = (typed.entries main f here, tt);
      legal = λ funcs func carries is_main. record {
        activation = Some (record { serves = 0; node = 0; given = Nothing; left = entry func ∷ [] });
        kept = refl;
        of_job = record { left = entry func ∷ []; same = refl; alike = carries.bodies main func is_main };
      };
      fits = omega arith;
    }

-- a world that is at its end without a trap shows the one driven history, whose labels replay
pub record IsDone (main : Func) (r : WorldState) : Type 0 where
  pub state : MeaningState
  pub shown : state ≡ state_of Ended r.log r.begun None
  pub driven : IsDriven (start_state main) r.history state
  pub replays : Replays (start_state main) (labels_of r.history) state

pub done_when_ended : (main : Func) (r : WorldState) → r.job ≡ Ended → IsLegal main r → IsDone main r
done_when_ended main r ended legal =
    let none : legal.activation ≡ None = subst (λ o. IsOfJob r.code o legal.activation) ended legal.of_job in
    let kept : IsKept (start_state main) r.history (state_of Ended r.log r.begun None) =
    subst (λ o. IsKept (start_state main) r.history (state_of o r.log r.begun None)) ended
    (subst (λ a. IsKept (start_state main) r.history (state_of r.job r.log r.begun a)) none legal.kept) in
    record {
      state = state_of Ended r.log r.begun None;
      shown = refl;
      driven = kept_driven (start_state main) r.history (state_of Ended r.log r.begun None) (record { job = _; only = refl }) kept refl;
      replays = kept_replays (start_state main) r.history (state_of Ended r.log r.begun None) kept;
    }

-- a job at its end that was not lost has ended, where there is no trap
pub ended_untrapped : (job : Job) → IsAtEnd job → ¬ IsLost job → trap_of job ≡ None → job ≡ Ended
ended_untrapped (Ready s) end there none = absurd end
ended_untrapped Ended end there none = refl
ended_untrapped (Trapped kind) end there none = absurd (cc)
ended_untrapped Lost end there none = absurd (there tt)

-- a world after a turn of the machine, as its fields are left
pub sound_after : (r : WorldState) (s : TurnStart) (j : JobNo) (end : TurnEnd) (job : Job) (line : Option (List ℕ)) (log : List (List ℕ)) (added : Entry) (reserved history : List Entry) → IsSound r → r.job ≡ Ready s → j.0 ≡ 0 → Ran r.code s end.exit end.frames end.begun → job ≡ next_job end.exit end.frames → line ≡ printed_line end.exit → log ≡ with_line r.log line → added ≡ turn_entry j end.begun → reserved ≡ r.history → history ≡ reserved ++ added ∷ [] → IsSound (record { code = r.code; main = r.main; job = job; log = log; begun = r.begun + end.begun; history = history })
sound_after r s j end job line log added reserved history sound here turn ran is_job is_line is_log is_added is_reserved is_history =
    sound_as (after_turn r j end.exit end.frames end.begun) job log (r.begun + end.begun) history is_job (is_log ∙ ap (with_line r.log) is_line) refl
    (is_history ∙ ap (λ l. l ++ added ∷ []) is_reserved ∙ ap (λ e. r.history ++ e ∷ []) is_added)
    (sound_turn r s j end.exit end.frames end.begun sound here turn ran)

ahead_less : (code : List FuncCode) (s : TurnStart) (exit : Exit) (frames : List Frame) → all_ahead code frames < all_ahead code s.frames → job_ahead code (next_job exit frames) < job_ahead code (Ready s)
ahead_less code s (Ask (AskPrint text)) frames m = omega arith
ahead_less code s (Return v) frames m = omega arith
ahead_less code s (Trap kind) frames m = omega arith
ahead_less code s Slice frames m = omega arith

-- such a turn is one step of the world
pub steps_after : (old r : WorldState) (s : TurnStart) (j : JobNo) (end : TurnEnd) (job : Job) (log : List (List ℕ)) (begun : ℕ) (added : Entry) (reserved history : List Entry) → r ≡ old → r.job ≡ Ready s → Ran r.code s end.exit end.frames end.begun → job ≡ next_job end.exit end.frames → added ≡ turn_entry j end.begun → reserved ≡ r.history → history ≡ reserved ++ added ∷ [] → Steps old (Turn j) (record { code = r.code; main = r.main; job = job; log = log; begun = begun; history = history })
steps_after old r s j end job log begun added reserved history is_old here ran is_job is_added is_reserved is_history =
    subst (λ o. Steps o (Turn j) (record { code = r.code; main = r.main; job = job; log = log; begun = begun; history = history })) is_old (record {
      code = refl;
      main = refl;
      labels = Go j (max 1 end.begun) ∷ [];
      history = is_history ∙ ap (λ l. l ++ added ∷ []) is_reserved ∙ ap (λ e. r.history ++ e ∷ []) is_added;
      there = subst (λ o. ¬ IsLost o) (sym is_job) (next_there end.exit end.frames);
      nearer = subst (λ o. job_ahead r.code o < job_ahead r.code r.job) (sym is_job) (subst (λ o. job_ahead r.code (next_job end.exit end.frames) < job_ahead r.code o) (sym here) (ahead_less r.code s end.exit end.frames ran.nearer));
    })
