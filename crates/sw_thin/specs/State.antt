-- The meaning of a program under a plan: its states, and the labels that lead from one to the next.
-- It knows nothing of code, packets or tables.
use Rattle.std.specs.Prelude.{◌≡◌, ℕ, ◌+◌, ◌≤◌, List, [], ◌∷◌, ◌++◌, Option, Some, None, slice_get, slice_set}
use Rattle.sw_job.specs.declared.value.Value.TheVariants.{Void}
use Rattle.sw_job.specs.declared.turn.Ask.TheVariants.{Print as AskPrint}
use Rattle.sw_job.specs.declared.turn.Exit.{Exit}
use Rattle.sw_job.specs.declared.value.TrapKind.{TrapKind}
use Rattle.sw_job.specs.declared.turn.Exit.TheVariants.{Ask, Return, Trap, Slice}
use Rattle.sw_job.specs.declared.turn.Given.{Given}
use Rattle.sw_job.specs.declared.turn.Given.TheVariants.{Nothing, Value as GivenValue}
use Rattle.sw_thin.specs.declared.history.Label.{Label}
use Rattle.sw_thin.specs.declared.history.Label.TheVariants.{Go}
use Rattle.sw_thin.specs.declared.history.TaskEnd.TheVariants.{Returned}
use Rattle.sw_thin.specs.declared.history.TaskLine.{TaskLine}
use Rattle.sw_thin.specs.Meaning.{TreeFrame, TreeEnds, TreeReaches}

-- a node: how often it has restarted, which is never so far, and the lines that it printed, the first one first
pub record NodeState : Type 0 where
  pub restarts : ℕ
  pub log : List (List ℕ)

-- a job that has not ended: the beginning of a root task that it serves, its node, what it is given at its
-- next turn, and what is left to do
pub record Activation : Type 0 where
  pub serves : ℕ
  pub node : ℕ
  pub given : Given
  pub left : List TreeFrame

-- the nodes; the activations by job number, none where a job has ended; the beginnings of root tasks, each in epoch 0 so
-- far; how many statements were begun; and the trap that ended the run, or none
pub record MeaningState : Type 0 where
  pub nodes : List NodeState
  pub activations : List (Option Activation)
  pub tasks : List TaskLine
  pub begun : ℕ
  pub trap : Option TrapKind

-- one more line of a node's log. Where there is no such node, the line is lost: a state is meant to have the node of each
-- of its activations, as `start_state` has
abbrev pub append_line : List NodeState → ℕ → List ℕ → List NodeState
append_line nodes at text = line (slice_get nodes at)
  where
    line : Option NodeState → List NodeState
    line None = nodes
    line (Some n) = slice_set nodes at (record n { log = n.log ++ text ∷ [] })

-- a root task has returned. Where there is no such task, nothing changes: a state is meant to have the task of each of
-- its activations, as `start_state` has
abbrev pub end_task : List TaskLine → ℕ → List TaskLine
end_task tasks at = ended (slice_get tasks at)
  where
    ended : Option TaskLine → List TaskLine
    ended None = tasks
    ended (Some t) = slice_set tasks at (record t { end = Returned })

-- what the exit of a turn does that began n statements: the job j is ready again, or it has ended, or the run has
abbrev pub after_exit : MeaningState → ℕ → Activation → Exit → List TreeFrame → ℕ → MeaningState
after_exit s j a (Ask (AskPrint text)) left n = record s {
  nodes = append_line s.nodes a.node text;
  activations = slice_set s.activations j (Some (record a { given = GivenValue Void; left = left }));
  begun = s.begun + n;
}
after_exit s j a (Return v) left n = record s {
  activations = slice_set s.activations j None;
  tasks = end_task s.tasks a.serves;
  begun = s.begun + n;
}
after_exit s j a (Trap kind) left n = record s { begun = s.begun + n; trap = Some kind }
after_exit s j a Slice left n = record s {
  activations = slice_set s.activations j (Some (record a { given = Nothing; left = left }));
  begun = s.begun + n;
}

-- from state s the job j, which is ready, takes a turn of at most k statements to state t: to this exit, with these
-- frames left and so many statements begun, and then the exit has its effect. Any k from 1 on may be the most here;
-- `KeptTurn` says which one a kept history has
pub record TakesTurn (s : MeaningState) (j k : ℕ) (t : MeaningState) : Type 0 where
  pub untrapped : s.trap ≡ None
  pub activation : Activation
  pub is_ready : slice_get s.activations j ≡ Some (Some activation)
  pub at_least_one : 1 ≤ k
  pub exit : Exit
  pub left : List TreeFrame
  pub begun : ℕ
  pub reaches : TreeReaches k activation.given activation.left (TreeEnds exit left begun)
  pub effect : t ≡ after_exit s j activation exit left begun

-- a label leads from a state to the next
abbrev pub Applies : MeaningState → Label → MeaningState → Type 0
Applies s (Go j k) t = TakesTurn s j.0 k t

-- labels lead, one after the other, from a state to another
abbrev pub Replays : MeaningState → List Label → MeaningState → Type 0
Replays s [] t = t ≡ s
Replays s (l ∷ labels) t = (u : MeaningState) × Applies s l u × Replays u labels t
