-- Histories: which events may come, the labels that each has, and the driver's choice among them.
--
-- A history is a list of events, each with its labels. It is *kept* where each event leads from the state before it to
-- the state after it and has just these labels (`IsKept`); then its labels *replay*, one after the other, from the first
-- state to the last (`Replays` in `State`).
use Rattle.std.specs.Prelude.{is_some, if◌then◌else◌, ◌≡◌, ℕ, suc, ◌≤◌, max, List, [], ◌∷◌, Option, Some, None}
use Rattle.std.specs.Option.{option_map}
use Rattle.std.specs.List.{flat_map}
use Rattle.sw_base.specs.declared.ids.JobNo.{JobNo}
use Rattle.sw_job.specs.declared.turn.Exit.TheVariants.{Slice}
use Rattle.sw_job.specs.declared.turn.Given.TheVariants.{Nothing}
use Rattle.sw_thin.specs.Program.{Func}
use Rattle.sw_thin.specs.declared.history.Event.{Event}
use Rattle.sw_thin.specs.declared.history.Event.TheVariants.{Turn}
use Rattle.sw_thin.specs.declared.history.Label.{Label}
use Rattle.sw_thin.specs.declared.history.Label.TheVariants.{Go}
use Rattle.sw_thin.specs.declared.history.Entry.{Entry}
use Rattle.sw_thin.specs.declared.history.TaskEnd.TheVariants.{Unfinished}
use Rattle.sw_thin.specs.Meaning.{entry}
use Rattle.sw_thin.specs.State.{Activation, MeaningState, TakesTurn}

-- how many statements a turn begins at most
abbrev pub slice_limit : ℕ
slice_limit = 1000

abbrev pub job_no : ℕ → JobNo
job_no j = record { 0 = j }

-- a turn of a run: k is the number of statements that it begins, or 1 where there are none, and it is cut
-- short before a statement only at the slice's limit
pub record KeptTurn (s : MeaningState) (j k : ℕ) (t : MeaningState) : Type 0 where
  pub turn : TakesTurn s j k t
  pub counted : k ≡ max 1 turn.begun
  pub within : k ≤ slice_limit
  pub sliced : turn.exit ≡ Slice → k ≡ slice_limit

-- an event that is kept: its labels, and the state to which they lead
abbrev pub KeptEvent : MeaningState → Event → List Label → MeaningState → Type 0
KeptEvent s (Turn j) labels t = (k : ℕ) × (labels ≡ Go j k ∷ []) × KeptTurn s j.0 k t

-- entries of which each is a kept event
abbrev pub IsKept : MeaningState → List Entry → MeaningState → Type 0
IsKept s [] t = t ≡ s
IsKept s (e ∷ entries) t = (u : MeaningState) × KeptEvent s e.event e.labels u × IsKept u entries t

-- the ready job of the lowest number, where j is the number of the first of these
abbrev pub first_ready : ℕ → List (Option Activation) → Option ℕ
first_ready j [] = None
first_ready j (None ∷ activations) = first_ready (suc j) activations
first_ready j (Some a ∷ activations) = Some j

-- the driver's next event: the turn of the ready job of the lowest number, and none after a trap. With one root task
-- there is one job, so it is also the one that became ready first
abbrev pub next_event : MeaningState → Option Event
next_event s = if is_some s.trap then None else option_map (λ j. Turn (job_no j)) (first_ready 0 s.activations)

-- the kept history of the driver's events, up to where none is next
abbrev pub IsDriven : MeaningState → List Entry → MeaningState → Type 0
IsDriven s [] t = (t ≡ s) × (next_event s ≡ None)
IsDriven s (e ∷ entries) t = (next_event s ≡ Some e.event) × (u : MeaningState) × KeptEvent s e.event e.labels u × IsDriven u entries t

abbrev pub labels_of : List Entry → List Label
labels_of entries = flat_map (λ e. e.labels) entries

-- where a run starts: one node, whose one root task is this func
abbrev pub start_state : Func → MeaningState
start_state main = record {
  nodes = record { restarts = 0; log = [] } ∷ [];
  activations = Some (record { serves = 0; node = 0; given = Nothing; left = entry main ∷ [] }) ∷ [];
  tasks = record { task = 0; node = record { 0 = 0 }; epoch = 0; end = Unfinished } ∷ [];
  begun = 0;
  trap = None;
}
