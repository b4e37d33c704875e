-- What it is that a text reports: the run of a func as the root task of one node.
use Rattle.std.specs.Prelude.{◌≡◌, ℕ, List, length, None}
use Rattle.sw_thin.specs.Program.{Func}
use Rattle.sw_thin.specs.declared.history.Entry.{Entry}
use Rattle.sw_thin.specs.State.{MeaningState, Replays}
use Rattle.sw_thin.specs.History.{start_state, IsDriven, labels_of}
use Rattle.sw_thin.specs.ReportText.{report_text}

-- the text reports the run of this func as the root task of one node: the one kept history of the driver's
-- events, up to where none is next; its labels replay, no trap came, and the text has the logs and outcomes of
-- their state
pub record Reports (main : Func) (text : List ℕ) : Type 0 where
  pub entries : List Entry
  pub state : MeaningState
  pub driven : IsDriven (start_state main) entries state
  pub only : (others : List Entry) (other : MeaningState) → IsDriven (start_state main) others other → (others ≡ entries) × (other ≡ state)
  pub replays : Replays (start_state main) (labels_of entries) state
  pub untrapped : state.trap ≡ None
  pub text_is : text ≡ report_text state (length entries)
