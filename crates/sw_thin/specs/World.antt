-- What a world of one root task shows, and when its history is legal.
use Rattle.std.specs.Prelude.{◌≡◌, ℕ, ◌+◌, ◌<◌, ◌≤◌, ◌^◌, suc, max, List, [], ◌∷◌, ◌++◌, Option, Some, None, Bool, true, false, slice_get}
use Rattle.sw_thin.specs.Program.{Func}
use Rattle.sw_base.specs.declared.ids.JobNo.{JobNo}
use Rattle.sw_job.specs.declared.value.TrapKind.{TrapKind}
use Rattle.sw_job.specs.declared.value.Value.TheVariants.{Void}
use Rattle.sw_job.specs.declared.turn.Ask.TheVariants.{Print as AskPrint}
use Rattle.sw_job.specs.declared.turn.Exit.{Exit}
use Rattle.sw_job.specs.declared.turn.Exit.TheVariants.{Ask, Return, Trap, Slice}
use Rattle.sw_job.specs.declared.turn.Frame.{Frame}
use Rattle.sw_job.specs.declared.turn.Given.TheVariants.{Nothing, Value as GivenValue}
use Rattle.sw_job.specs.declared.turn.TurnStart.{TurnStart}
use Rattle.sw_job.specs.declared.code.FuncCode.{FuncCode}
use Rattle.sw_job.specs.Typed.{TypedStart, all_ahead}
use Rattle.sw_thin.specs.declared.history.Entry.{Entry}
use Rattle.sw_thin.specs.declared.history.Event.{Event}
use Rattle.sw_thin.specs.declared.history.Event.TheVariants.{Turn}
use Rattle.sw_thin.specs.declared.history.Label.{Label}
use Rattle.sw_thin.specs.declared.history.Label.TheVariants.{Go}
use Rattle.sw_thin.specs.declared.history.TaskEnd.{TaskEnd}
use Rattle.sw_thin.specs.declared.history.TaskEnd.TheVariants.{Returned, Unfinished}
use Rattle.sw_thin.specs.declared.history.TaskLine.{TaskLine}
use Rattle.sw_thin.specs.declared.world.Job.{Job}
use Rattle.sw_thin.specs.declared.world.Job.TheVariants.{Ready, Ended, Trapped, Lost}
use Rattle.sw_thin.specs.Meaning.{TreeFrame}
use Rattle.sw_thin.specs.Carries.{Alike, Carries}
use Rattle.sw_thin.specs.State.{Activation, MeaningState}
use Rattle.sw_thin.specs.History.{start_state, IsKept}

-- the entry of a turn that began so many statements
abbrev pub turn_entry : JobNo → ℕ → Entry
turn_entry j begun = record { event = Turn j; labels = Go j (max 1 begun) ∷ [] }

-- what contracts see of a world: the code; the number of the root task's func; its job; the lines printed; the
-- statements begun; and the events with their labels
pub record WorldState : Type 0 where
  pub code : List FuncCode
  pub main : ℕ
  pub job : Job
  pub log : List (List ℕ)
  pub begun : ℕ
  pub history : List Entry

abbrev pub task_end : Job → TaskEnd
task_end (Ready s) = Unfinished
task_end Ended = Returned
task_end (Trapped kind) = Unfinished
task_end Lost = Unfinished

abbrev pub the_task : Job → TaskLine
the_task job = record { task = 0; node = record { 0 = 0 }; epoch = 0; end = task_end job }

abbrev pub trap_of : Job → Option TrapKind
trap_of (Ready s) = None
trap_of Ended = None
trap_of (Trapped kind) = Some kind
trap_of Lost = None

-- the meaning's state that a world shows, where this is the activation of its job
abbrev pub state_of : Job → List (List ℕ) → ℕ → Option Activation → MeaningState
state_of job log begun activation = record {
  nodes = record { restarts = 0; log = log } ∷ [];
  activations = activation ∷ [];
  tasks = the_task job ∷ [];
  begun = begun;
  trap = trap_of job;
}

-- the activation is that of a job that is ready: what is left in the code is alike to what is left to do on the
-- tree, for any number of turns
pub record IsAlike (code : List FuncCode) (s : TurnStart) (activation : Option Activation) : Type 0 where
  pub left : List TreeFrame
  pub same : activation ≡ Some (record { serves = 0; node = 0; given = s.given; left = left })
  pub alike : (turns : ℕ) → Alike code turns s.frames left

abbrev pub IsOfJob : List FuncCode → Job → Option Activation → Type 0
IsOfJob code (Ready s) activation = IsAlike code s activation
IsOfJob code Ended activation = activation ≡ None
IsOfJob code (Trapped kind) activation = Unit {0}
IsOfJob code Lost activation = Unit {0}

-- the events are a kept history of this func as the root task, which leads to the state that the world shows
pub record IsLegal (main : Func) (r : WorldState) : Type 0 where
  pub activation : Option Activation
  pub kept : IsKept (start_state main) r.history (state_of r.job r.log r.begun activation)
  pub of_job : IsOfJob r.code r.job activation

-- the history is legal for every program that the code carries
abbrev pub IsLegalForAll : WorldState → Type 0
IsLegalForAll r = (funcs : List Func) (main : Func) → Carries funcs r.code → slice_get funcs r.main ≡ Some main → IsLegal main r

abbrev pub IsTypedJob : List FuncCode → Job → Type 0
IsTypedJob code (Ready s) = TypedStart code s.given s.frames
IsTypedJob code Ended = Unit {0}
IsTypedJob code (Trapped kind) = Unit {0}
IsTypedJob code Lost = Unit {0}

-- how many instructions are ahead of the job, and one more for its end
abbrev pub job_ahead : List FuncCode → Job → ℕ
job_ahead code (Ready s) = suc (all_ahead code s.frames)
job_ahead code Ended = 0
job_ahead code (Trapped kind) = 0
job_ahead code Lost = 0

abbrev pub IsLost : Job → Type 0
IsLost Lost = Unit {0}
IsLost (Ready s) = ⊥
IsLost Ended = ⊥
IsLost (Trapped kind) = ⊥

-- what a world keeps: its job is typed, its history is legal, and its counts fit
pub record Sound (r : WorldState) : Type 0 where
  pub typed : IsTypedJob r.code r.job
  pub legal : IsLegalForAll r
  pub fits : r.begun + job_ahead r.code r.job ≤ 2 ^ 64

-- a world is sound, unless its job was lost where memory was wanted: then it is only dropped
abbrev pub IsSound : WorldState → Type 0
IsSound r = ¬ IsLost r.job → Sound r

abbrev pub is_ready : Job → Bool
is_ready (Ready s) = true
is_ready _ = false

-- no turn is next
abbrev pub IsAtEnd : Job → Type 0
IsAtEnd (Ready s) = ⊥
IsAtEnd Ended = Unit {0}
IsAtEnd (Trapped kind) = Unit {0}
IsAtEnd Lost = Unit {0}

-- the turn of the one job is enabled while it is ready
abbrev pub IsEnabled : WorldState → Event → Type 0
IsEnabled r (Turn j) = (j.0 ≡ 0) × (s : TurnStart) × (r.job ≡ Ready s)

-- one event came, and less is left to do
pub record Steps (old : WorldState) (event : Event) (new : WorldState) : Type 0 where
  pub code : new.code ≡ old.code
  pub main : new.main ≡ old.main
  pub labels : List Label
  pub history : new.history ≡ old.history ++ record { event = event; labels = labels } ∷ []
  pub there : ¬ IsLost new.job
  pub nearer : job_ahead new.code new.job < job_ahead old.code old.job

-- what a turn leaves of the job, by its exit and the frames that are left
abbrev pub next_job : Exit → List Frame → Job
next_job (Ask (AskPrint text)) frames = Ready (record { frames = frames; given = GivenValue Void })
next_job (Return v) frames = Ended
next_job (Trap kind) frames = Trapped kind
next_job Slice frames = Ready (record { frames = frames; given = Nothing })

-- the line that a turn prints, by its exit
abbrev pub printed_line : Exit → Option (List ℕ)
printed_line (Ask (AskPrint text)) = Some text
printed_line (Return v) = None
printed_line (Trap kind) = None
printed_line Slice = None

-- the lines printed, with one more, if there is one
abbrev pub with_line : List (List ℕ) → Option (List ℕ) → List (List ℕ)
with_line log None = log
with_line log (Some line) = log ++ line ∷ []
