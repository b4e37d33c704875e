-- The code follows the tree: every run of the tree ends, and the code follows whole runs.
use Rattle.std.proofs.Common.{◌⊎◌, inl, inr, ◌≡◌, ℕ, zero, suc, ◌+◌, ◌<◌, ◌≤◌, List, [], ◌∷◌, Option, Some, None, refl, sym, ◌∙◌, subst, arith, Bool, true, false}
use Rattle.std.specs.Prelude.{nat_lt, if◌then◌else◌}
use Rattle.std.proofs.lemmas.Bool.{ltb-true}
use Rattle.sw_thin.specs.Program.{Expr, Int as IntExpr, Str as StrExpr, Var as VarExpr, Add as AddExpr}
use Rattle.sw_job.specs.declared.value.Value.{Value}
use Rattle.sw_job.specs.declared.value.Value.TheVariants.{Void}
use Rattle.sw_job.specs.declared.turn.Frame.{Frame}
use Rattle.sw_job.specs.declared.turn.Ask.TheVariants.{Print as AskPrint}
use Rattle.sw_job.specs.declared.turn.Exit.TheVariants.{Ask, Slice}
use Rattle.sw_job.specs.declared.code.FuncCode.{FuncCode}
use Rattle.sw_job.specs.Machine.{CodeEnds, CodeStuck, code_run}
use Rattle.sw_job.specs.Values.{printed, Outcome, Gives, Traps, Wrong, sum_of}
use Rattle.sw_thin.specs.Meaning.{Todo, Eval, Exec, DoAdd, DoLet, DoPrint, Await, Forget, Held, Var, Part, Kind, Body, TreeFrame, Fr, TreeNext, TreeGoes, TreeStops, TreeNoStep, give, lookup, on_part, with_value, with_outcome, with_text, eval, expand, tree_act, tree_step, TreeEnd, TreeEnds, TreeOpen, TreeStuck, tree_then, tree_run}
use Rattle.sw_thin.proofs.Track.{below, Simulates}
use Rattle.sw_thin.proofs.Follow.{Comes, Follows}
use Rattle.sw_thin.proofs.Cases.{step_follows}

-- a step lowers this, or begins a statement: a statement that is left to do weighs nothing
abbrev pub weigh : Expr → ℕ
weigh (IntExpr m) = 1
weigh (StrExpr text) = 1
weigh (VarExpr x) = 1
weigh (AddExpr a b) = weigh a + weigh b + 2

abbrev pub weigh_todo : Todo → ℕ
weigh_todo (Eval e) = weigh e
weigh_todo (Exec s) = 0
weigh_todo DoAdd = 1
weigh_todo (DoLet x) = 1
weigh_todo DoPrint = 1
weigh_todo Await = 0
weigh_todo Forget = 1

abbrev pub weigh_all : List Todo → ℕ
weigh_all [] = 0
weigh_all (i ∷ t) = weigh_todo i + weigh_all t

abbrev pub weight : List TreeFrame → ℕ
weight [] = 0
weight (Fr k h t ∷ fs) = 1 + weigh_all t + weight fs

-- a step lowers the weight, or begins one of the statements that may begin
abbrev pub Falls : ℕ → TreeNext → ℕ → ℕ → Type 0
Falls max (TreeGoes fs n') w n = ((n' ≡ n) × (weight fs < w)) ⊎ ((n < max) × (n' ≡ n + 1))
Falls max (TreeStops e fs n') w n = Unit {0}
Falls max TreeNoStep w n = Unit {0}

part_falls : (max : ℕ) (h : List Held) (go : Value → List Held → TreeNext) (w n : ℕ) → ((v : Value) (h1 : List Held) → Falls max (go v h1) w n) → Falls max (on_part h go) w n
part_falls max [] go w n f = tt
part_falls max (Var x v ∷ h) go w n f = tt
part_falls max (Part v ∷ h) go w n f = f v h

text_falls : (max : ℕ) (o : Option (List ℕ)) (go : List ℕ → TreeNext) (w n : ℕ) → ((text : List ℕ) → Falls max (go text) w n) → Falls max (with_text o go) w n
text_falls max None go w n f = tt
text_falls max (Some text) go w n f = f text

value_falls : (max : ℕ) (o : Option Value) (go : Value → TreeNext) (w n : ℕ) → ((v : Value) → Falls max (go v) w n) → Falls max (with_value o go) w n
value_falls max None go w n f = tt
value_falls max (Some v) go w n f = f v

outcome_falls : (max : ℕ) (o : Outcome) (go : Value → TreeNext) (w n : ℕ) → ((v : Value) → Falls max (go v) w n) → Falls max (with_outcome o n go) w n
outcome_falls max (Gives v) go w n f = f v
outcome_falls max (Traps kind) go w n f = tt
outcome_falls max Wrong go w n f = tt

give_falls : (max : ℕ) (v : Value) (fs : List TreeFrame) (w n : ℕ) → weight fs < w → Falls max (give v fs n) w n
give_falls max v [] w n l = tt
give_falls max v (Fr k h (Await ∷ t) ∷ fs) w n l = inl (refl, omega arith)
give_falls max v (Fr k h [] ∷ fs) w n l = tt
give_falls max v (Fr k h (i ∷ t) ∷ fs) w n l = tt

eval_falls : (max : ℕ) (e : Expr) (k : Kind) (h : List Held) (t : List Todo) (fs : List TreeFrame) (n : ℕ) → Falls max (eval e k h t fs n) (weight (Fr k h (Eval e ∷ t) ∷ fs)) n
eval_falls max (IntExpr m) k h t fs n = inl (refl, omega arith)
eval_falls max (StrExpr text) k h t fs n = inl (refl, omega arith)
eval_falls max (VarExpr x) k h t fs n = value_falls max (lookup x h) (λ v. TreeGoes (Fr k (Part v ∷ h) t ∷ fs) n) _ n (λ v. inl (refl, omega arith))
eval_falls max (AddExpr a b) k h t fs n = inl (refl, omega arith)

act_falls : (max : ℕ) (i : Todo) (k : Kind) (h : List Held) (t : List Todo) (fs : List TreeFrame) (n : ℕ) → Falls max (tree_act max i k h t fs n) (weight (Fr k h (i ∷ t) ∷ fs)) n
act_falls max (Eval e) k h t fs n = eval_falls max e k h t fs n
act_falls max (Exec s) k h t fs n = go (nat_lt n max) (ltb-true n max)
  where
    go : (b : Bool) → (b ≡ true → n < max) → Falls max (if b then TreeGoes (Fr k h (expand s t) ∷ fs) (n + 1) else TreeStops Slice (Fr k h (Exec s ∷ t) ∷ fs) n) (weight (Fr k h (Exec s ∷ t) ∷ fs)) n
    go true lt = inr (lt refl, refl)
    go false lt = tt
act_falls max DoAdd k h t fs n =
    part_falls max h (λ y h1. on_part h1 (λ x h2. with_outcome (sum_of x y) n (λ v. TreeGoes (Fr k (Part v ∷ h2) t ∷ fs) n))) _ n (λ y h1. part_falls max h1 (λ x h2. with_outcome (sum_of x y) n (λ v. TreeGoes (Fr k (Part v ∷ h2) t ∷ fs) n)) _ n (λ x h2. outcome_falls max (sum_of x y) (λ v. TreeGoes (Fr k (Part v ∷ h2) t ∷ fs) n) _ n (λ v. inl (refl, omega arith))))
act_falls max (DoLet x) k h t fs n = part_falls max h (λ v h1. TreeGoes (Fr k (Var x v ∷ h1) t ∷ fs) n) _ n (λ v h1. inl (refl, omega arith))
act_falls max DoPrint k h t fs n =
    part_falls max h (λ v h1. with_text (printed v) (λ text. TreeStops (Ask (AskPrint text)) (Fr k h1 (Await ∷ t) ∷ fs) n)) _ n (λ v h1. text_falls max (printed v) (λ text. TreeStops (Ask (AskPrint text)) (Fr k h1 (Await ∷ t) ∷ fs) n) _ n (λ text. tt))
act_falls max Await k h t fs n = tt
act_falls max Forget k h t fs n = part_falls max h (λ v h1. TreeGoes (Fr k h1 t ∷ fs) n) _ n (λ v h1. inl (refl, omega arith))

step_falls : (max : ℕ) (fs : List TreeFrame) (n : ℕ) → Falls max (tree_step max fs n) (weight fs) n
step_falls max [] n = tt
step_falls max (Fr Body h [] ∷ fs) n = give_falls max Void fs _ n (omega arith)
step_falls max (Fr k h (i ∷ t) ∷ fs) n = act_falls max i k h t fs n

abbrev pub IsOver : TreeEnd → Type 0
IsOver (TreeEnds e fs n) = Unit {0}
IsOver TreeOpen = ⊥
IsOver TreeStuck = Unit {0}

abbrev pub Over : ℕ → List TreeFrame → ℕ → Type 0
Over max fs n = (steps : ℕ) × IsOver (tree_run max steps fs n)

over_step : (max n : ℕ) (fs : List TreeFrame) → ((fs1 : List TreeFrame) → weight fs1 < weight fs → Over max fs1 n) → ((fs1 : List TreeFrame) → n < max → Over max fs1 (n + 1)) → Over max fs n
over_step max n fs ih next = go (tree_step max fs n) refl (step_falls max fs n)
  where
    through : (r : TreeNext) → tree_step max fs n ≡ r → (m : ℕ) → IsOver (tree_then r (tree_run max m)) → Over max fs n
    through r e m o = (suc m, subst (λ x. IsOver (tree_then x (tree_run max m))) (sym e) o)

    go : (r : TreeNext) → tree_step max fs n ≡ r → Falls max r (weight fs) n → Over max fs n
    go (TreeGoes fs1 n1) e (inl f) = let o = ih fs1 f.1 in through (TreeGoes fs1 n1) e o.0 (subst (λ x. IsOver (tree_run max o.0 fs1 x)) (sym f.0) o.1)
    go (TreeGoes fs1 n1) e (inr f) = let o = next fs1 f.0 in through (TreeGoes fs1 n1) e o.0 (subst (λ x. IsOver (tree_run max o.0 fs1 x)) (sym f.1) o.1)
    go (TreeStops x fs1 n1) e f = through (TreeStops x fs1 n1) e 0 tt
    go TreeNoStep e f = through TreeNoStep e 0 tt

-- with this weight to the next statement
over_weight : (max n : ℕ) → ((fs1 : List TreeFrame) → n < max → Over max fs1 (n + 1)) → (w : ℕ) (fs : List TreeFrame) → weight fs ≤ w → Over max fs n
over_weight max n next zero fs l = over_step max n fs (λ fs1 lt. absurd (omega arith)) next
over_weight max n next (suc w) fs l = over_step max n fs (λ fs1 lt. over_weight max n next w fs1 (omega arith)) next

-- every run of the tree ends, where d more statements may begin
pub over : (max d n : ℕ) (fs : List TreeFrame) → max ≤ n + d → Over max fs n
over max zero n fs l = over_weight max n (λ fs1 lt. absurd (omega arith)) (weight fs) fs (omega arith)
over max (suc d) n fs l = over_weight max n (λ fs1 lt. over max d (n + 1) fs1 (omega arith)) (weight fs) fs (omega arith)

-- what the code does where the tree's run ends so
abbrev pub RunFollows : List FuncCode → ℕ → TreeEnd → Frame → List Frame → ℕ → Type 0
RunFollows code max (TreeEnds e fs n') m ms n = (ms' : List Frame) × (j : ℕ) × (code_run code max j m ms n ≡ CodeEnds e ms' n') × below code (Simulates code fs) fs ms'
RunFollows code max TreeStuck m ms n = (j : ℕ) × (code_run code max j m ms n ≡ CodeStuck)
RunFollows code max TreeOpen m ms n = Unit {0}

pub run_on : (code : List FuncCode) (max : ℕ) (end : TreeEnd) {m m' : Frame} {ms ms' : List Frame} {n n' : ℕ} → Comes code max m ms n m' ms' n' → RunFollows code max end m' ms' n' → RunFollows code max end m ms n
run_on code max (TreeEnds e fs x) a f = let b = a.by f.1 in (f.0, b.0, b.1 ∙ f.2, f.3)
run_on code max TreeStuck a f = let b = a.by f.0 in (b.0, b.1 ∙ f.1)
run_on code max TreeOpen a f = tt

pub run_follows : (code : List FuncCode) (max steps : ℕ) (fs : List TreeFrame) (m : Frame) (ms : List Frame) (n : ℕ) → Simulates code fs m ms → RunFollows code max (tree_run max steps fs n) m ms n
run_follows code max zero fs m ms n g = tt
run_follows code max (suc steps) fs m ms n g = go (tree_step max fs n) (λ fs1 m1 ms1 n1 g1. run_follows code max steps fs1 m1 ms1 n1 g1) (step_follows code max fs m ms n g)
  where
    go : (r : TreeNext) → ((fs1 : List TreeFrame) (m1 : Frame) (ms1 : List Frame) (n1 : ℕ) → Simulates code fs1 m1 ms1 → RunFollows code max (tree_run max steps fs1 n1) m1 ms1 n1) → Follows code max r m ms n → RunFollows code max (tree_then r (tree_run max steps)) m ms n
    go (TreeGoes fs1 n1) ih f = run_on code max (tree_run max steps fs1 n1) f.2 (ih fs1 f.0 f.1 n1 f.3)
    go (TreeStops e fs1 n1) ih f = f
    go TreeNoStep ih f = f
