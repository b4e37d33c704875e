-- What a call of the program comes to, and when: one relation of its words, its loader, its sink and its status.
use Rattle.std.specs.Prelude.{◌≡◌, ◌≢◌, ◌⊎◌, ℕ, ◌≤◌, List, ◌++◌, Option, Some, codes}
use Rattle.sw_thin.specs.Program.{Stmt, main_func}
use Rattle.sw_rules.specs.declared.Refusal.{Refusal}
use Rattle.sw_rules.specs.Refusal.{line_text}
use Rattle.sw_tree.specs.declared.decl.Tree.{Tree}
use Rattle.swda.specs.ReadAs.{HasNamedTree, First, IsRead, IsRefused}
use Rattle.sw_thin.specs.Thin.{IsThinTree, IsNoThinTree}
use Rattle.sw_thin.specs.Reports.{Reports}
use Rattle.swda.specs.Calls.{Call, Output, Files, run_words, IsGiven, Gave, AsksNothing, FailsAtSource, FailsAtPlan, WritesNothing, WritesWhole, WritesPrefix}
use Rattle.swda.specs.declared.status.Status.{Status}
use Rattle.swda.specs.declared.status.Status.TheVariants.{Done, Refused, Usage, LoadFault, WriteFault, WantOfMemory, NotBuilt}

abbrev pub usage_text : List ℕ
usage_text = codes "usage: swda check FILE | list FILE | run FILE PLAN | replay FILE PLAN SCHEDULE | threads FILE PLAN WORKERS | gen SEED SIZE\n"

abbrev pub load_fault_text : List ℕ → List ℕ
load_fault_text name = codes "load fault " ++ name ++ codes "\n"

abbrev pub not_built_text : List ℕ
not_built_text = codes "not built\n"

-- the plan that is served so far: one node, whose one root task is `main`
abbrev pub plan_text : List ℕ
plan_text = codes "swda-plan 1\nnodes 1\ntask 0 main\n"

-- the words are of no form that is served: so far, they are not `run FILE PLAN`
abbrev pub IsNoForm : List (List ℕ) → Type 0
IsNoForm words = (names : Files) → words ≢ run_words names

-- the status of a run of these files, and the text that says it
abbrev pub RunSays : Files → Status → List ℕ → Type 0
RunSays files Done text = (tree : Tree) × (body : List Stmt) × IsRead files.source tree × IsThinTree body tree × (files.plan ≡ plan_text) × Reports (main_func body) text
RunSays files (Refused refusal) text = IsRefused files.source refusal × (text ≡ line_text refusal)
RunSays files NotBuilt text = (tree : Tree) × IsRead files.source tree × (IsNoThinTree tree ⊎ (files.plan ≢ plan_text)) × (text ≡ not_built_text)
RunSays files Usage text = ⊥
RunSays files (LoadFault name) text = ⊥
RunSays files WriteFault text = ⊥
RunSays files WantOfMemory text = ⊥

-- the same of the files that the loader gave in this call
pub record SaysOfFiles (c : Call) (status : Status) (text : List ℕ) : Type 0 where
  pub names : Files
  pub texts : Files
  pub gave : Gave c names texts
  pub says : RunSays texts status text

-- the status of a call up to its writing, and the text that says it
abbrev pub Says : Call → Status → List ℕ → Type 0
Says c Done text = SaysOfFiles c Done text
Says c (Refused refusal) text = SaysOfFiles c (Refused refusal) text
Says c Usage text = IsNoForm c.words × AsksNothing c × (text ≡ usage_text)
Says c (LoadFault name) text = (names : Files) × ((FailsAtSource c names × (name ≡ names.source)) ⊎ (FailsAtPlan c names × (name ≡ names.plan))) × (text ≡ load_fault_text name)
Says c NotBuilt text = SaysOfFiles c NotBuilt text
Says c WriteFault text = ⊥
Says c WantOfMemory text = ⊥

-- the text that says the status was written whole
abbrev pub SaysWhole : Call → Output → Status → Type 0
SaysWhole c o status = (text : List ℕ) × Says c status text × WritesWhole o text

-- each status with its cause, and the bytes that the sink took
abbrev pub Answers : Call → Output → Status → Type 0
Answers c o Done = SaysWhole c o Done
Answers c o (Refused refusal) = SaysWhole c o (Refused refusal)
Answers c o Usage = SaysWhole c o Usage
Answers c o (LoadFault name) = SaysWhole c o (LoadFault name)
Answers c o NotBuilt = SaysWhole c o NotBuilt
Answers c o WriteFault = (status : Status) × (text : List ℕ) × Says c status text × WritesPrefix o text
Answers c o WantOfMemory = WritesNothing o

-- the words name these files, and the loader holds these texts of them, where it tells that, or gave them in this call
pub record Has (c : Call) (names texts : Files) : Type 0 where
  pub words : c.words ≡ run_words names
  pub told : ((c.before.holds names.source ≡ Some texts.source) × (c.before.holds names.plan ≡ Some texts.plan)) ⊎ IsGiven c names texts

-- what may come where the words are of no form
abbrev pub IsUsageOrFault : Status → Type 0
IsUsageOrFault Done = ⊥
IsUsageOrFault (Refused refusal) = ⊥
IsUsageOrFault Usage = Unit {0}
IsUsageOrFault (LoadFault name) = ⊥
IsUsageOrFault WriteFault = Unit {0}
IsUsageOrFault WantOfMemory = Unit {0}
IsUsageOrFault NotBuilt = ⊥

-- what may come where there are a source of a thin tree and the plan that is served
abbrev pub IsDoneOrFault : Status → Type 0
IsDoneOrFault Done = Unit {0}
IsDoneOrFault (Refused refusal) = ⊥
IsDoneOrFault Usage = ⊥
IsDoneOrFault (LoadFault name) = Unit {0}
IsDoneOrFault WriteFault = Unit {0}
IsDoneOrFault WantOfMemory = Unit {0}
IsDoneOrFault NotBuilt = ⊥

-- what may come where there is a source that breaks a rule
abbrev pub IsRefusedOrFault : Status → Type 0
IsRefusedOrFault Done = ⊥
IsRefusedOrFault (Refused refusal) = Unit {0}
IsRefusedOrFault Usage = ⊥
IsRefusedOrFault (LoadFault name) = Unit {0}
IsRefusedOrFault WriteFault = Unit {0}
IsRefusedOrFault WantOfMemory = Unit {0}
IsRefusedOrFault NotBuilt = ⊥

-- what may come where there is a source of another tree, or another plan
abbrev pub IsNotBuiltOrFault : Status → Type 0
IsNotBuiltOrFault Done = ⊥
IsNotBuiltOrFault (Refused refusal) = ⊥
IsNotBuiltOrFault Usage = ⊥
IsNotBuiltOrFault (LoadFault name) = Unit {0}
IsNotBuiltOrFault WriteFault = Unit {0}
IsNotBuiltOrFault WantOfMemory = Unit {0}
IsNotBuiltOrFault NotBuilt = Unit {0}

-- The whole answer of a call. The status has its cause; and it comes wherever its condition holds, up to faults of the
-- loader and the sink and want of memory. No count of faults falls.
pub record Answered (c : Call) (o : Output) (status : Status) : Type 0 where
  pub cause : Answers c o status
  pub done_completes : (names texts : Files) (tree : Tree) (body : List Stmt) → Has c names texts
      → HasNamedTree texts.source tree → IsThinTree body tree → texts.plan ≡ plan_text → IsDoneOrFault status
  pub refused_completes : (names texts : Files) (refusal : Refusal) → Has c names texts
      → First texts.source refusal → IsRefusedOrFault status
  pub usage_completes : IsNoForm c.words → IsUsageOrFault status
  pub not_built_completes : (names texts : Files) (tree : Tree) → Has c names texts
      → HasNamedTree texts.source tree → (IsNoThinTree tree ⊎ (texts.plan ≢ plan_text)) → IsNotBuiltOrFault status
  pub loads : c.before.faults ≤ c.after.faults
  pub writes : o.before.faults ≤ o.after.faults
