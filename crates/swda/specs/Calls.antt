-- What a call of the program begins with and what it leaves: its words, and what its loader and its sink tell.
use Rattle.std.specs.Prelude.{◌≡◌, ℕ, ◌<◌, List, [], ◌∷◌, ◌++◌, length, take, Option, IfSome, codes}
use Rattle.sw_outside.specs.Causes.{Rose}

-- what a loader tells: the text that each name holds, where it tells it; the names asked, the texts given, each after
-- its name, and the number of faults
pub record LoaderState : Type 0 where
  pub holds : List ℕ → Option (List ℕ)
  pub asked : List (List ℕ)
  pub given : List (List ℕ × List ℕ)
  pub faults : ℕ

-- what a sink tells: the bytes taken, and the number of faults
pub record SinkState : Type 0 where
  pub taken : List ℕ
  pub faults : ℕ

-- a call: its words, and the loader before it and after it
pub record Call : Type 0 where
  pub words : List (List ℕ)
  pub before : LoaderState
  pub after : LoaderState

-- the sink before a call and after it
pub record Output : Type 0 where
  pub before : SinkState
  pub after : SinkState

-- of the two files of a call: their names, or their texts
pub record Files : Type 0 where
  pub source : List ℕ
  pub plan : List ℕ

-- the words of the form that is served so far
abbrev pub run_words : Files → List (List ℕ)
run_words names = codes "run" ∷ names.source ∷ names.plan ∷ []

-- these texts were given in this call, of the files of these names
abbrev pub IsGiven : Call → Files → Files → Type 0
IsGiven c names texts = c.after.given ≡ c.before.given ++ (names.source, texts.source) ∷ (names.plan, texts.plan) ∷ []

-- the words name these files, and the loader gave these texts of them in this call: it was asked for each once, in the
-- order of the words, and had no fault; and what it tells of a name is the text that it gave
pub record Gave (c : Call) (names texts : Files) : Type 0 where
  pub words : c.words ≡ run_words names
  pub asked : c.after.asked ≡ c.before.asked ++ names.source ∷ names.plan ∷ []
  pub given : IsGiven c names texts
  pub source : IfSome (c.before.holds names.source) (λ held. texts.source ≡ held)
  pub plan : IfSome (c.before.holds names.plan) (λ held. texts.plan ≡ held)
  pub no_fault : c.after.faults ≡ c.before.faults

-- the loader was asked for nothing
pub record AsksNothing (c : Call) : Type 0 where
  pub asked : c.after.asked ≡ c.before.asked
  pub given : c.after.given ≡ c.before.given
  pub no_fault : c.after.faults ≡ c.before.faults

-- the words name these files, and the loader failed at the source, of which it gave nothing
pub record FailsAtSource (c : Call) (names : Files) : Type 0 where
  pub words : c.words ≡ run_words names
  pub asked : c.after.asked ≡ c.before.asked ++ names.source ∷ []
  pub given : c.after.given ≡ c.before.given
  pub fault : Rose c.before.faults c.after.faults

-- the words name these files, and the loader gave a text of the source and failed at the plan
pub record FailsAtPlan (c : Call) (names : Files) : Type 0 where
  pub words : c.words ≡ run_words names
  pub asked : c.after.asked ≡ c.before.asked ++ names.source ∷ names.plan ∷ []
  pub source : List ℕ
  pub given : c.after.given ≡ c.before.given ++ (names.source, source) ∷ []
  pub fault : Rose c.before.faults c.after.faults

-- the sink took nothing, and had no fault
pub record WritesNothing (o : Output) : Type 0 where
  pub taken : o.after.taken ≡ o.before.taken
  pub no_fault : o.after.faults ≡ o.before.faults

-- the sink took the whole text, and had no fault
pub record WritesWhole (o : Output) (text : List ℕ) : Type 0 where
  pub taken : o.after.taken ≡ o.before.taken ++ text
  pub no_fault : o.after.faults ≡ o.before.faults

-- the sink had a fault, and took a prefix of the text that is not the whole
pub record WritesPrefix (o : Output) (text : List ℕ) : Type 0 where
  pub count : ℕ
  pub short : count < length text
  pub taken : o.after.taken ≡ o.before.taken ++ take count text
  pub fault : Rose o.before.faults o.after.faults
