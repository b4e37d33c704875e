-- The text of the report of a run that ended since no event was next.
use Rattle.std.specs.Prelude.{ℕ, ◌+◌, List, [], ◌∷◌, ◌++◌, ◌==◌, if◌then◌else◌, codes}
use Rattle.std.specs.List.{flat_map}
use Rattle.std.specs.Fmt.{decimal}
use Rattle.sw_thin.specs.declared.history.TaskEnd.{TaskEnd}
use Rattle.sw_thin.specs.declared.history.TaskEnd.TheVariants.{Returned, Unfinished}
use Rattle.sw_thin.specs.declared.history.TaskLine.{TaskLine}
use Rattle.sw_thin.specs.State.{NodeState, MeaningState}

-- 92 is a backslash, 10 a line feed, 13 a carriage return
abbrev pub escaped_byte : ℕ → List ℕ
escaped_byte c = if c == 92 then codes "\\\\" else (if c == 10 then codes "\\n" else (if c == 13 then codes "\\r" else c ∷ []))

-- a printed line on one line of the report
abbrev pub escaped : List ℕ → List ℕ
escaped text = flat_map escaped_byte text

abbrev pub number_line : List ℕ → ℕ → List ℕ
number_line name n = name ++ decimal n ++ codes "\n"

-- no call is made yet, so no packet is sent
abbrev pub counts_text : ℕ → ℕ → List ℕ
counts_text statements events =
    number_line (codes "statements ") statements ++ number_line (codes "events ") events
    ++ codes "calls 0\nstarted 0\nwaited 0\nsent 0\nlost 0\ndelivered 0\nnoise 0\n"

abbrev pub node_line : ℕ → ℕ → List ℕ
node_line k restarts = codes "node " ++ decimal k ++ codes " restarts " ++ decimal restarts ++ codes "\n"

-- how often each node restarted, from this number on
abbrev pub node_lines : ℕ → List NodeState → List ℕ
node_lines k [] = []
node_lines k (n ∷ nodes) = node_line k n.restarts ++ node_lines (k + 1) nodes

abbrev pub log_line : ℕ → List ℕ → List ℕ
log_line k text = codes "log " ++ decimal k ++ codes " " ++ escaped text ++ codes "\n"

-- the printed lines, by node from this number on, then in order
abbrev pub log_lines : ℕ → List NodeState → List ℕ
log_lines k [] = []
log_lines k (n ∷ nodes) = flat_map (log_line k) n.log ++ log_lines (k + 1) nodes

abbrev pub outcome_text : TaskEnd → List ℕ
outcome_text Returned = codes "returned"
outcome_text Unfinished = codes "unfinished"

abbrev pub task_line : TaskLine → List ℕ
task_line t = codes "task " ++ decimal t.task ++ codes " node " ++ decimal t.node.0 ++ codes " epoch " ++ decimal t.epoch ++ codes " " ++ outcome_text t.end ++ codes "\n"

-- the report of a run with so many events that has come to this state
abbrev pub report_text : MeaningState → ℕ → List ℕ
report_text s events =
    codes "end done\n" ++ counts_text s.begun events ++ node_lines 0 s.nodes ++ log_lines 0 s.nodes ++ flat_map task_line s.tasks
