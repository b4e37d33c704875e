-- The code follows the tree: what is lowered carries the program.
use Rattle.std.proofs.Common.{◌⊎◌, inl, inr, ◌≡◌, ℕ, zero, suc, List, [], ◌∷◌, Option, Some, None, refl, sym, ap, ◌∙◌, subst, arith, true, false, map}
use Rattle.std.specs.Prelude.{slice_get}
use Rattle.std.specs.Option.{option_map}
use Rattle.std.proofs.lemmas.Option.{slice_get-map}
use Rattle.sw_thin.specs.Program.{Stmt, Func, Let as LetStmt, Print as PrintStmt}
use Rattle.sw_job.specs.declared.value.Ty.TheVariants.{Void as VoidTy}
use Rattle.sw_job.specs.declared.turn.Frame.{Frame}
use Rattle.sw_job.specs.declared.turn.Exit.{Exit}
use Rattle.sw_job.specs.declared.turn.Given.{Given}
use Rattle.sw_job.specs.declared.turn.Given.TheVariants.{Nothing, Value as GivenValue}
use Rattle.sw_job.specs.declared.code.FuncCode.{FuncCode}
use Rattle.sw_job.specs.Machine.{frame, instr_in, fetch, is_take, CodeNext, CodeGoes, CodeStops, CodeNoStep, code_enter, CodeEnds, CodeStuck, code_then, code_run, CodeReaches}
use Rattle.sw_job.specs.Typed.{TypedStart, NeverStuck}
use Rattle.sw_thin.specs.Meaning.{Await, Kind, Body, TreeFrame, Fr, TreeNext, TreeGoes, TreeStops, TreeNoStep, execs, entry, TreeEnd, TreeEnds, TreeOpen, TreeStuck, tree_then, tree_run, tree_enter, TreeReaches}
use Rattle.sw_thin.specs.Lowering.{body_code, func_code}
use Rattle.sw_thin.specs.Carries.{SameTurn, Alike, Carries}
use Rattle.sw_thin.proofs.Track.{waits, Left}
use Rattle.sw_thin.proofs.Follow.{Makes, stays, not_taken_as, give_makes}
use Rattle.sw_thin.proofs.Cases.{entry_simulates}
use Rattle.sw_thin.proofs.Runs.{IsOver, over, RunFollows, run_on, run_follows}

-- neither has a meaning, as where a value is given that was not awaited
pub record NoMeaning (code : List FuncCode) (given : Given) (max : ℕ) (frames : List Frame) (fs : List TreeFrame) : Type 0 where
  pub in_code : CodeReaches code max given frames CodeStuck
  pub in_tree : TreeReaches max given fs TreeStuck

-- a turn from frames that are left: both come to the same exit and what is left is related, or neither has a meaning
abbrev pub Turns : List FuncCode → Given → ℕ → List Frame → List TreeFrame → Type 0
Turns code given max frames fs = SameTurn code (Left code) given max frames fs ⊎ NoMeaning code given max frames fs

module _ (code : List FuncCode) where
  -- a turn is entered alike
  enter_makes : (max : ℕ) (given : Given) (fs : List TreeFrame) (ms : List Frame) → Left code ms fs → Makes code max (tree_enter given fs) (code_enter code given ms)
  enter_makes max Nothing [] [] w = tt
  enter_makes max (GivenValue v) [] [] w = tt
  enter_makes max given [] (m ∷ ms) w = absurd w
  enter_makes max given (t ∷ ts) [] w = absurd w
  enter_makes max Nothing (Fr k h [] ∷ fs) (m ∷ ms) w = subst (λ z. Makes code max (TreeGoes (Fr k h [] ∷ fs) 0) z) (sym (not_taken_as (fetch code m.func.0 m.address) (CodeGoes m ms 0) false w.1)) (stays code max (Fr k h [] ∷ fs) m ms 0 w.0)
  enter_makes max Nothing (Fr k h (Await ∷ t) ∷ fs) (m ∷ ms) w = subst (λ z. Makes code max TreeNoStep z) (sym (not_taken_as (fetch code m.func.0 m.address) (CodeGoes m ms 0) true w.1)) tt
  enter_makes max Nothing (Fr k h (i ∷ t) ∷ fs) (m ∷ ms) w = subst (λ z. Makes code max (TreeGoes (Fr k h (i ∷ t) ∷ fs) 0) z) (sym (not_taken_as (fetch code m.func.0 m.address) (CodeGoes m ms 0) false w.1)) (stays code max (Fr k h (i ∷ t) ∷ fs) m ms 0 w.0)
  enter_makes max (GivenValue v) (f ∷ fs) (m ∷ ms) w = give_makes code max v (f ∷ fs) (m ∷ ms) 0 w

  -- a turn that is entered alike ends alike
  ends_alike : (max : ℕ) (given : Given) (fs : List TreeFrame) (ms : List Frame) → Makes code max (tree_enter given fs) (code_enter code given ms) → Turns code given max ms fs
  ends_alike max given fs ms mk = go (tree_enter given fs) (code_enter code given ms) refl refl mk
    where
      same : (e : Exit) (ms1 : List Frame) (fs1 : List TreeFrame) (b : ℕ) (r : TreeNext) (x : CodeNext) → tree_enter given fs ≡ r → code_enter code given ms ≡ x → (y : ℕ) → tree_then r (tree_run max y) ≡ TreeEnds e fs1 b → (j : ℕ) → code_then x (code_run code max j) ≡ CodeEnds e ms1 b → Left code ms1 fs1 → Turns code given max ms fs
      same e ms1 fs1 b r x er ex y ey j ej w = inl (record { exit = e; frames_left = ms1; tree_left = fs1; begun = b; in_code = (j, ap (λ z. code_then z (code_run code max j)) ex ∙ ej); in_tree = (y, ap (λ z. tree_then z (tree_run max y)) er ∙ ey); still_alike = w })

      none : (r : TreeNext) (x : CodeNext) → tree_enter given fs ≡ r → code_enter code given ms ≡ x → (y : ℕ) → tree_then r (tree_run max y) ≡ TreeStuck → (j : ℕ) → code_then x (code_run code max j) ≡ CodeStuck → Turns code given max ms fs
      none r x er ex y ey j ej = inr (record { in_code = (j, ap (λ z. code_then z (code_run code max j)) ex ∙ ej); in_tree = (y, ap (λ z. tree_then z (tree_run max y)) er ∙ ey) })

      run : (fs1 : List TreeFrame) (n1 : ℕ) (m1 : Frame) (ms1 : List Frame) (n2 y : ℕ) (z : TreeEnd) → tree_enter given fs ≡ TreeGoes fs1 n1 → code_enter code given ms ≡ CodeGoes m1 ms1 n2 → tree_run max y fs1 n1 ≡ z → IsOver z → RunFollows code max z m1 ms1 n2 → Turns code given max ms fs
      run fs1 n1 m1 ms1 n2 y (TreeEnds e fs2 b) er ex ez o f = same e f.0 fs2 b (TreeGoes fs1 n1) (CodeGoes m1 ms1 n2) er ex y ez f.1 f.2 f.3
      run fs1 n1 m1 ms1 n2 y TreeOpen er ex ez o f = absurd o
      run fs1 n1 m1 ms1 n2 y TreeStuck er ex ez o f = none (TreeGoes fs1 n1) (CodeGoes m1 ms1 n2) er ex y ez f.0 f.1

      go : (r : TreeNext) (x : CodeNext) → tree_enter given fs ≡ r → code_enter code given ms ≡ x → Makes code max r x → Turns code given max ms fs
      go (TreeGoes fs1 n1) (CodeGoes m1 ms1 n2) er ex f =
          let o = over max max n1 fs1 (omega arith) in
          run fs1 n1 m1 ms1 n2 o.0 (tree_run max o.0 fs1 n1) er ex refl o.1 (run_on code max (tree_run max o.0 fs1 n1) f.2 (run_follows code max o.0 fs1 f.0 f.1 n1 f.3))
      go (TreeStops e fs1 n1) (CodeGoes m1 ms1 n2) er ex f = same e f.0 fs1 n1 (TreeStops e fs1 n1) (CodeGoes m1 ms1 n2) er ex 0 refl f.1 f.2 f.3
      go TreeNoStep (CodeGoes m1 ms1 n2) er ex f = none TreeNoStep (CodeGoes m1 ms1 n2) er ex 0 refl f.0 f.1
      go (TreeStops e fs1 n1) (CodeStops e1 ms1 n2) er ex f = same e ms1 fs1 n1 (TreeStops e fs1 n1) (CodeStops e1 ms1 n2) er ex 0 refl 0 (ap (λ z. CodeEnds z ms1 n2) (sym f.0) ∙ ap (λ z. CodeEnds e ms1 z) (sym f.1)) f.2
      go (TreeGoes fs1 n1) (CodeStops e1 ms1 n2) er ex f = absurd f
      go TreeNoStep (CodeStops e1 ms1 n2) er ex f = absurd f
      go TreeNoStep CodeNoStep er ex f = none TreeNoStep CodeNoStep er ex 0 refl 0 refl
      go (TreeGoes fs1 n1) CodeNoStep er ex f = absurd f
      go (TreeStops e fs1 n1) CodeNoStep er ex f = absurd f

  -- whatever is given and however many statements may begin
  pub turns : (given : Given) (max : ℕ) (frames : List Frame) (fs : List TreeFrame) → Left code frames fs → Turns code given max frames fs
  turns given max frames fs w = ends_alike max given fs frames (enter_makes max given fs frames w)

  -- from a typed start the code is not stuck, so both come to the same exit
  pub alike : NeverStuck code → (turns_left : ℕ) (frames : List Frame) (fs : List TreeFrame) → Left code frames fs → Alike code turns_left frames fs
  alike never zero frames fs w = tt
  alike never (suc more) frames fs w = λ given max typed l. go given max typed (λ frames1 fs1 w1. alike never more frames1 fs1 w1) (turns given max frames fs w)
    where
      go : (given : Given) (max : ℕ) → TypedStart code given frames → ((frames1 : List Frame) (fs1 : List TreeFrame) → Left code frames1 fs1 → Alike code more frames1 fs1) → Turns code given max frames fs → SameTurn code (Alike code more) given max frames fs
      go given max typed ih (inl s) = record { exit = s.exit; frames_left = s.frames_left; tree_left = s.tree_left; begun = s.begun; in_code = s.in_code; in_tree = s.in_tree; still_alike = ih s.frames_left s.tree_left s.still_alike }
      go given max typed ih (inr s) = absurd (never given max frames typed s.in_code)

-- the code has the funcs of the program under their numbers
abbrev pub Knows : List Func → List FuncCode → Type 0
Knows funcs code = (f : ℕ) → slice_get code f ≡ option_map func_code (slice_get funcs f)

no_take_first : (body : List Stmt) → is_take (slice_get (body_code [] body) 0) ≡ false
no_take_first [] = refl
no_take_first (LetStmt x e ∷ body) = refl
no_take_first (PrintStmt e ∷ body) = refl

waits_not : (k : Kind) (body : List Stmt) → waits (Fr k [] (execs body []) ∷ []) ≡ false
waits_not k [] = refl
waits_not k (s ∷ body) = refl

-- a func at its beginning and its code at its beginning
pub entry_left : (code : List FuncCode) (f : ℕ) (func : Func) → slice_get code f ≡ Some (func_code func) → Left code (frame f 0 [] ∷ []) (entry func ∷ [])
entry_left code f func e = (entry_simulates code f func [] [] e tt, ap (λ o. is_take (instr_in o 0)) e ∙ no_take_first func.body ∙ sym (waits_not Body func.body))

pub carries : (funcs : List Func) (code : List FuncCode) → Knows funcs code → NeverStuck code → Carries funcs code
carries funcs code knows never = record {
  results = λ f. ap (λ o. option_map (λ c. c.result) o) (knows f) ∙ void (slice_get funcs f);
  bodies = λ f func e turns_left. alike code never turns_left _ _ (entry_left code f func (knows f ∙ ap (λ o. option_map func_code o) e));
}
  where
    void : (o : Option Func) → option_map (λ c. c.result) (option_map func_code o) ≡ option_map (λ d. VoidTy) o
    void None = refl
    void (Some func) = refl

-- the code of the funcs carries the program
pub carries_map : (funcs : List Func) (code : List FuncCode) → code ≡ map func_code funcs → NeverStuck code → Carries funcs code
carries_map funcs code e never = carries funcs code (λ f. ap (λ x. slice_get x f) e ∙ slice_get-map func_code funcs f) never
