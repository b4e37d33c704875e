-- What a func does, on its tree: small steps on frames, each with what it holds and what is left to do in it.
--
-- Throughout: k is the kind of the innermost frame, h what it holds, t what is left to do in it, fs the frames below it,
-- and n how many statements were begun in this turn. `Kind` has one case so far, and only `print` awaits a value: calls
-- will add kinds of frames, and will be given what they return.
use Rattle.std.specs.Cmp.Lexicographic.{pointwise}
use Rattle.std.specs.Prelude.{nat_eq, ◌≡◌, ℕ, zero, suc, ◌+◌, nat_lt, List, [], ◌∷◌, Option, Some, None, if◌then◌else◌}
use Rattle.sw_thin.specs.Program.{Expr, Stmt, Func, Let as LetStmt, Print as PrintStmt, Int as IntExpr, Str as StrExpr, Var as VarExpr, Add as AddExpr}
use Rattle.sw_job.specs.declared.value.Value.{Value}
use Rattle.sw_job.specs.declared.value.Value.TheVariants.{Int, Str, Void}
use Rattle.sw_job.specs.declared.turn.Ask.TheVariants.{Print as AskPrint}
use Rattle.sw_job.specs.declared.turn.Exit.{Exit}
use Rattle.sw_job.specs.declared.turn.Exit.TheVariants.{Ask, Return, Trap, Slice}
use Rattle.sw_job.specs.declared.turn.Given.{Given}
use Rattle.sw_job.specs.declared.turn.Given.TheVariants.{Nothing, Value as GivenValue}
use Rattle.sw_job.specs.Values.{printed, Outcome, Gives, Traps, Wrong, sum_of}

-- one thing that is left to do
pub data Todo : Type 0 where
  -- an expression is evaluated
  Eval : Expr → Todo
  -- a statement is begun
  Exec : Stmt → Todo
  -- the two parts evaluated last are added
  DoAdd : Todo
  -- the part evaluated last becomes a variable of this name
  DoLet : List ℕ → Todo
  -- the part evaluated last is printed
  DoPrint : Todo
  -- a value is awaited
  Await : Todo
  -- the part evaluated last is not used
  Forget : Todo

-- what a frame holds, the newest first: a variable with its value, or a part that was evaluated
pub data Held : Type 0 where
  Var : List ℕ → Value → Held
  Part : Value → Held

-- what a frame is of: a func's body
pub data Kind : Type 0 where
  Body : Kind

pub data TreeFrame : Type 0 where
  Fr : Kind → List Held → List Todo → TreeFrame

-- what a step leads to: frames, the innermost first, with the statements begun so far; or an exit, with the
-- frames that are left; or there is no step here, and the run is stuck
pub data TreeNext : Type 0 where
  TreeGoes : List TreeFrame → ℕ → TreeNext
  TreeStops : Exit → List TreeFrame → ℕ → TreeNext
  TreeNoStep : TreeNext

-- each of these statements is begun, then what else is left to do
abbrev pub execs : List Stmt → List Todo → List Todo
execs [] t = t
execs (s ∷ body) t = Exec s ∷ execs body t

-- the frame of a func whose body is still to do
abbrev pub entry : Func → TreeFrame
entry f = Fr Body [] (execs f.body [])

-- a value for the frame that awaits it, or for the caller of all
abbrev pub give : Value → List TreeFrame → ℕ → TreeNext
give v [] n = TreeStops (Return v) [] n
give v (Fr k h (Await ∷ t) ∷ fs) n = TreeGoes (Fr k (Part v ∷ h) t ∷ fs) n
give v _ n = TreeNoStep

-- the value of the newest variable of a name
abbrev pub lookup : List ℕ → List Held → Option Value
lookup x [] = None
lookup x (Var y v ∷ h) = if pointwise nat_eq x y then Some v else lookup x h
lookup x (Part v ∷ h) = lookup x h

-- goes on with the part evaluated last, and what is held below it
abbrev pub on_part : List Held → (Value → List Held → TreeNext) → TreeNext
on_part [] go = TreeNoStep
on_part (Var x v ∷ h) go = TreeNoStep
on_part (Part v ∷ h) go = go v h

abbrev pub with_value : Option Value → (Value → TreeNext) → TreeNext
with_value None go = TreeNoStep
with_value (Some v) go = go v

abbrev pub with_outcome : Outcome → ℕ → (Value → TreeNext) → TreeNext
with_outcome (Gives v) n go = go v
with_outcome (Traps kind) n go = TreeStops (Trap kind) [] n
with_outcome Wrong n go = TreeNoStep

abbrev pub with_text : Option (List ℕ) → (List ℕ → TreeNext) → TreeNext
with_text None go = TreeNoStep
with_text (Some text) go = go text

-- an expression: its value now, or its parts and then the operator
abbrev pub eval : Expr → Kind → List Held → List Todo → List TreeFrame → ℕ → TreeNext
eval (IntExpr m) k h t fs n = TreeGoes (Fr k (Part (Int m) ∷ h) t ∷ fs) n
eval (VarExpr x) k h t fs n = with_value (lookup x h) (λ v. TreeGoes (Fr k (Part v ∷ h) t ∷ fs) n)
eval (AddExpr a b) k h t fs n = TreeGoes (Fr k h (Eval a ∷ Eval b ∷ DoAdd ∷ t) ∷ fs) n
eval (StrExpr text) k h t fs n = TreeGoes (Fr k (Part (Str text) ∷ h) t ∷ fs) n

-- what a statement comes to do: `print` gives `Void`, which is not used
abbrev pub expand : Stmt → List Todo → List Todo
expand (LetStmt x e) t = Eval e ∷ DoLet x ∷ t
expand (PrintStmt e) t = Eval e ∷ DoPrint ∷ Forget ∷ t

-- the first thing that is left to do; max statements may begin
abbrev pub tree_act : ℕ → Todo → Kind → List Held → List Todo → List TreeFrame → ℕ → TreeNext
tree_act max (Eval e) k h t fs n = eval e k h t fs n
tree_act max (Exec s) k h t fs n =
    if nat_lt n max then TreeGoes (Fr k h (expand s t) ∷ fs) (n + 1) else TreeStops Slice (Fr k h (Exec s ∷ t) ∷ fs) n
tree_act max DoAdd k h t fs n =
    on_part h (λ y h1. on_part h1 (λ x h2. with_outcome (sum_of x y) n (λ v. TreeGoes (Fr k (Part v ∷ h2) t ∷ fs) n)))
tree_act max (DoLet x) k h t fs n = on_part h (λ v rest. TreeGoes (Fr k (Var x v ∷ rest) t ∷ fs) n)
tree_act max DoPrint k h t fs n =
    on_part h (λ v rest. with_text (printed v) (λ text. TreeStops (Ask (AskPrint text)) (Fr k rest (Await ∷ t) ∷ fs) n))
tree_act max Await k h t fs n = TreeNoStep
tree_act max Forget k h t fs n = on_part h (λ v rest. TreeGoes (Fr k rest t ∷ fs) n)

-- the end of a frame: a func's body returns nothing
abbrev pub finish : Kind → List TreeFrame → ℕ → TreeNext
finish Body fs n = give Void fs n

abbrev pub tree_step : ℕ → List TreeFrame → ℕ → TreeNext
tree_step max [] n = TreeNoStep
tree_step max (Fr k h [] ∷ fs) n = finish k fs n
tree_step max (Fr k h (i ∷ t) ∷ fs) n = tree_act max i k h t fs n

-- where a run of so many steps comes to: its exit, with the frames that are left and the statements begun;
-- or it is still open; or it is stuck
pub data TreeEnd : Type 0 where
  TreeEnds : Exit → List TreeFrame → ℕ → TreeEnd
  TreeOpen : TreeEnd
  TreeStuck : TreeEnd

abbrev pub tree_then : TreeNext → (List TreeFrame → ℕ → TreeEnd) → TreeEnd
tree_then (TreeGoes fs n) go = go fs n
tree_then (TreeStops exit fs n) go = TreeEnds exit fs n
tree_then TreeNoStep go = TreeStuck

-- at most so many steps
abbrev pub tree_run : ℕ → ℕ → List TreeFrame → ℕ → TreeEnd
tree_run max zero fs n = TreeOpen
tree_run max (suc steps) fs n = tree_then (tree_step max fs n) (tree_run max steps)

-- a frame that awaits a value does not go on without one
abbrev pub ready : List TreeFrame → TreeNext
ready [] = TreeNoStep
ready (Fr k h (Await ∷ t) ∷ fs) = TreeNoStep
ready fs = TreeGoes fs 0

-- a turn is entered: a value is handed to the frame that awaits it, or nothing to one that awaits none
abbrev pub tree_enter : Given → List TreeFrame → TreeNext
tree_enter given [] = TreeNoStep
tree_enter Nothing (f ∷ fs) = ready (f ∷ fs)
tree_enter (GivenValue v) (f ∷ fs) = give v (f ∷ fs) 0

-- the tree's turn of at most max statements comes to this
abbrev pub TreeReaches : ℕ → Given → List TreeFrame → TreeEnd → Type 0
TreeReaches max given fs end = (steps : ℕ) × (tree_then (tree_enter given fs) (tree_run max steps) ≡ end)
