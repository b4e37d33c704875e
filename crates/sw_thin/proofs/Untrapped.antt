-- No kept history of a thin tree traps: its sums are of at most 100 integers of 9 digits, and fit an Int.
use Rattle.std.proofs.Common.{◌≡◌, ℕ, zero, suc, ◌+◌, ◌*◌, ◌<◌, ◌≤◌, ◌⊎◌, inl, inr, ⊎_elim, ℤ, List, [], ◌∷◌, Option, Some, None, refl, sym, subst, arith, Bool, true, false, pos, negsuc, lt-ltb}
use Rattle.std.specs.Prelude.{nat_lt, if◌then◌else◌, slice_get, slice_set}
use Rattle.std.specs.List.{AllByRecursion}
use Rattle.sw_base.specs.Limits.{greatest_integer}
use Rattle.sw_thin.specs.Program.{Expr, Stmt, Let as LetStmt, Print as PrintStmt, Int as IntExpr, Str as StrExpr, Var as VarExpr, Add as AddExpr, main_func}
use Rattle.sw_job.specs.declared.value.Value.{Value}
use Rattle.sw_job.specs.declared.value.Value.TheVariants.{Int, Str, Void}
use Rattle.sw_job.specs.declared.turn.Ask.TheVariants.{Print as AskPrint}
use Rattle.sw_job.specs.declared.turn.Exit.{Exit}
use Rattle.sw_job.specs.declared.turn.Exit.TheVariants.{Ask, Return, Trap, Slice}
use Rattle.sw_job.specs.declared.turn.Given.{Given}
use Rattle.sw_job.specs.declared.turn.Given.TheVariants.{Nothing, Value as GivenValue}
use Rattle.sw_job.specs.declared.value.TrapKind.TheVariants.{Overflow}
use Rattle.sw_job.specs.Values.{printed, Gives, Traps}
use Rattle.sw_thin.specs.declared.history.Event.{Event}
use Rattle.sw_thin.specs.declared.history.Event.TheVariants.{Turn}
use Rattle.sw_thin.specs.declared.history.Label.{Label}
use Rattle.sw_thin.specs.declared.history.Entry.{Entry}
use Rattle.sw_thin.specs.Meaning.{Todo, Eval, Exec, DoAdd, DoLet, DoPrint, Await, Forget, Held, Var, Part, Body, TreeFrame, Fr, TreeGoes, TreeStops, execs, lookup, with_value, with_outcome, with_text, expand, TreeEnds, tree_then, tree_run, TreeReaches}
use Rattle.sw_thin.specs.State.{Activation, MeaningState, after_exit}
use Rattle.sw_thin.specs.History.{KeptEvent, IsKept, start_state}
use Rattle.sw_thin.specs.Thin.{IsSum, terms, IsShortSum, IsThinStmt, IsThin}
use Rattle.sw_thin.specs.TreeReading.{lets_after}
use Rattle.sw_thin.proofs.BodyLemmas.{AreThinAfter, first_thin, rest_thin, all_after}

-- a sum of integers of 9 digits at most
abbrev IsSmallSum : Expr → Type 0
IsSmallSum (IntExpr (pos m)) = m ≤ 999999999
IsSmallSum (AddExpr a b) = IsSmallSum a × IsSmallSum b
IsSmallSum _ = ⊥

abbrev sum_value : Expr → ℕ
sum_value (IntExpr (pos m)) = m
sum_value (AddExpr a b) = sum_value a + sum_value b
sum_value _ = 0

value_bound : (e : Expr) → IsSmallSum e → sum_value e ≤ terms e * 999999999
value_bound (IntExpr (pos m)) s = omega arith
value_bound (IntExpr (negsuc m)) s = elim s [ ]
value_bound (StrExpr text) s = elim s [ ]
value_bound (VarExpr x) s = elim s [ ]
value_bound (AddExpr a b) s = let x = value_bound a s.0 in let y = value_bound b s.1 in omega arith

-- an expression of a thin tree's statement
abbrev IsSmallExpr : Expr → Type 0
IsSmallExpr (VarExpr x) = Unit {0}
IsSmallExpr (StrExpr text) = Unit {0}
IsSmallExpr e = IsSmallSum e × (terms e ≤ 100)

abbrev IsSmallStmt : Stmt → Type 0
IsSmallStmt (LetStmt x e) = IsSmallExpr e
IsSmallStmt (PrintStmt e) = IsSmallExpr e

-- ---- the statements of a thin tree have such expressions

small_int : (n : ℤ) (m : ℕ) → n ≡ pos m → m < 1000000000 → IsSmallSum (IntExpr n)
small_int (pos k) m e l = let same : k ≡ m = cc in omega arith
small_int (negsuc k) m e l = absurd (cc)

small_sum : (e : Expr) → IsSum e → IsSmallSum e
small_sum (IntExpr n) s = small_int n s.0 s.1 s.2
small_sum (AddExpr a (IntExpr n)) s = (small_sum a s.0, small_int n s.1.0 s.1.1 s.1.2)
small_sum (AddExpr a (StrExpr t)) s = elim s.1 [ ]
small_sum (AddExpr a (VarExpr x)) s = elim s.1 [ ]
small_sum (AddExpr a (AddExpr b c)) s = elim s.1 [ ]
small_sum (StrExpr t) s = elim s [ ]
small_sum (VarExpr x) s = elim s [ ]

small_expr : (e : Expr) → IsShortSum e → IsSmallExpr e
small_expr (IntExpr n) s = (small_sum (IntExpr n) s.0, s.1)
small_expr (AddExpr a b) s = (small_sum (AddExpr a b) s.0, s.1)
small_expr (StrExpr t) s = tt
small_expr (VarExpr x) s = tt

small_stmt : (k : ℕ) (s : Stmt) → IsThinStmt k s → IsSmallStmt s
small_stmt k (LetStmt x e) thin = small_expr e thin.1
small_stmt k (PrintStmt (VarExpr x)) thin = tt
small_stmt k (PrintStmt (StrExpr text)) thin = tt
small_stmt k (PrintStmt (IntExpr n)) thin = small_expr (IntExpr n) thin
small_stmt k (PrintStmt (AddExpr a b)) thin = small_expr (AddExpr a b) thin

small_stmts : (k : ℕ) (body : List Stmt) → AreThinAfter k body → AllByRecursion IsSmallStmt body
small_stmts k [] each = tt
small_stmts k (s ∷ body) each = (small_stmt k s (first_thin k s body each), small_stmts (lets_after k s) body (rest_thin k s body each))

-- ---- a turn of thin statements

-- what is left to do between turns: thin statements, and before them perhaps the rest of a print
record IsThinLeft (fs : List TreeFrame) : Type 0 where
  pub held : List Held
  pub rest : List Stmt
  pub thin : AllByRecursion IsSmallStmt rest
  pub is : (fs ≡ Fr Body held (execs rest []) ∷ []) ⊎ (fs ≡ Fr Body held (Await ∷ Forget ∷ execs rest []) ∷ [])

-- an exit that is no trap, and leaves thin statements or nothing
abbrev IsThinExit : Exit → List TreeFrame → Type 0
IsThinExit (Ask a) left = IsThinLeft left
IsThinExit (Return v) left = Unit {0}
IsThinExit (Trap kind) left = ⊥
IsThinExit Slice left = IsThinLeft left

-- wherever a run from here ends, it ends so
abbrev IsSafe : ℕ → List Held → List Todo → Type 0
IsSafe max h t = (steps n : ℕ) (e : Exit) (left : List TreeFrame) (b : ℕ) → tree_run max steps (Fr Body h t ∷ []) n ≡ TreeEnds e left b → IsThinExit e left

exit_same : (e e' : Exit) (left left' : List TreeFrame) → e ≡ e' → left ≡ left' → IsThinExit e left → IsThinExit e' left'
exit_same e e' left left' p q x = subst (λ z. IsThinExit e' z) q (subst (λ z. IsThinExit z left) p x)

-- two values whose sum fits are added
add_safe : (max x y : ℕ) → x + y < (greatest_integer + 1) → (h : List Held) (t : List Todo) → IsSafe max (Part (Int (pos (x + y))) ∷ h) t → IsSafe max (Part (Int (pos y)) ∷ Part (Int (pos x)) ∷ h) (DoAdd ∷ t)
add_safe max x y l h t safe zero n e left b p = absurd (cc)
add_safe max x y l h t safe (suc steps) n e left b p = fits (nat_lt (x + y) (greatest_integer + 1)) (lt-ltb (x + y) (greatest_integer + 1) l) p
  where
    fits : (fit : Bool) → fit ≡ true → tree_then (with_outcome (if fit then Gives (Int (pos (x + y))) else Traps Overflow) n (λ v. TreeGoes (Fr Body (Part v ∷ h) t ∷ []) n)) (tree_run max steps) ≡ TreeEnds e left b → IsThinExit e left
    fits true is p = safe steps n e left b p
    fits false is p = absurd (cc)

sum_safe : (max : ℕ) (e : Expr) → IsSmallSum e → sum_value e < (greatest_integer + 1) → (h : List Held) (t : List Todo) → IsSafe max (Part (Int (pos (sum_value e))) ∷ h) t → IsSafe max h (Eval e ∷ t)
sum_safe max (IntExpr (pos m)) s l h t safe zero n e left b p = absurd (cc)
sum_safe max (IntExpr (pos m)) s l h t safe (suc steps) n e left b p = safe steps n e left b p
sum_safe max (IntExpr (negsuc m)) s l h t safe steps n e left b p = elim s [ ]
sum_safe max (StrExpr text) s l h t safe steps n e left b p = elim s [ ]
sum_safe max (VarExpr x) s l h t safe steps n e left b p = elim s [ ]
sum_safe max (AddExpr x y) s l h t safe zero n e left b p = absurd (cc)
sum_safe max (AddExpr x y) s l h t safe (suc steps) n e left b p =
    sum_safe max x s.0 (omega arith) h (Eval y ∷ DoAdd ∷ t) (sum_safe max y s.1 (omega arith) (Part (Int (pos (sum_value x))) ∷ h) (DoAdd ∷ t) (add_safe max (sum_value x) (sum_value y) l h t safe)) steps n e left b p

summed : (max : ℕ) (e : Expr) → IsSmallSum e → terms e ≤ 100 → (h : List Held) (t : List Todo) → ((v : Value) → IsSafe max (Part v ∷ h) t) → IsSafe max h (Eval e ∷ t)
summed max e small few h t safe = let most = value_bound e small in sum_safe max e small (omega arith) h t (safe (Int (pos (sum_value e))))

-- an expression of a thin statement, where any value will do
expr_safe : (max : ℕ) (e : Expr) → IsSmallExpr e → (h : List Held) (t : List Todo) → ((v : Value) → IsSafe max (Part v ∷ h) t) → IsSafe max h (Eval e ∷ t)
expr_safe max (VarExpr x) thin h t safe zero n e left b p = absurd (cc)
expr_safe max (VarExpr x) thin h t safe (suc steps) n e left b p = found (lookup x h) p
  where
    found : (o : Option Value) → tree_then (with_value o (λ v. TreeGoes (Fr Body (Part v ∷ h) t ∷ []) n)) (tree_run max steps) ≡ TreeEnds e left b → IsThinExit e left
    found None p = absurd (cc)
    found (Some v) p = safe v steps n e left b p
expr_safe max (StrExpr text) thin h t safe zero n e left b p = absurd (cc)
expr_safe max (StrExpr text) thin h t safe (suc steps) n e left b p = safe (Str text) steps n e left b p
expr_safe max (IntExpr m) thin h t safe steps n e left b p = summed max (IntExpr m) thin.0 thin.1 h t safe steps n e left b p
expr_safe max (AddExpr x y) thin h t safe steps n e left b p = summed max (AddExpr x y) thin.0 thin.1 h t safe steps n e left b p

-- the end of a print
print_safe : (max : ℕ) (rest : List Stmt) → AllByRecursion IsSmallStmt rest → (v : Value) (h : List Held) → IsSafe max (Part v ∷ h) (DoPrint ∷ Forget ∷ execs rest [])
print_safe max rest thin v h zero n e left b p = absurd (cc)
print_safe max rest thin v h (suc steps) n e left b p = shown (printed v) p
  where
    shown : (o : Option (List ℕ)) → tree_then (with_text o (λ text. TreeStops (Ask (AskPrint text)) (Fr Body h (Await ∷ Forget ∷ execs rest []) ∷ []) n)) (tree_run max steps) ≡ TreeEnds e left b → IsThinExit e left
    shown None p = absurd (cc)
    shown (Some text) p = exit_same (Ask (AskPrint text)) e (Fr Body h (Await ∷ Forget ∷ execs rest []) ∷ []) left (cc) (cc) (record { held = h; rest = rest; thin = thin; is = inr refl })

-- the end of a let
let_safe : (max : ℕ) (x : List ℕ) (v : Value) (h : List Held) (t : List Todo) → IsSafe max (Var x v ∷ h) t → IsSafe max (Part v ∷ h) (DoLet x ∷ t)
let_safe max x v h t safe zero n e left b p = absurd (cc)
let_safe max x v h t safe (suc steps) n e left b p = safe steps n e left b p

stmt_safe : (max : ℕ) (s : Stmt) (rest : List Stmt) → IsSmallStmt s → AllByRecursion IsSmallStmt rest → (h : List Held) → ((h : List Held) → IsSafe max h (execs rest [])) → IsSafe max h (expand s (execs rest []))
stmt_safe max (LetStmt x e) rest thin all h onward = expr_safe max e thin h (DoLet x ∷ execs rest []) (λ v. let_safe max x v h (execs rest []) (onward (Var x v ∷ h)))
stmt_safe max (PrintStmt e) rest thin all h onward = expr_safe max e thin h (DoPrint ∷ Forget ∷ execs rest []) (λ v. print_safe max rest all v h)

body_safe : (max : ℕ) (rest : List Stmt) → AllByRecursion IsSmallStmt rest → (h : List Held) → IsSafe max h (execs rest [])
body_safe max [] thin h zero n e left b p = absurd (cc)
body_safe max [] thin h (suc steps) n e left b p = exit_same (Return Void) e [] left (cc) (cc) tt
body_safe max (s ∷ rest) thin h zero n e left b p = absurd (cc)
body_safe max (s ∷ rest) thin h (suc steps) n e left b p = begun (stmt_safe max s rest thin.0 thin.1 h (λ h1. body_safe max rest thin.1 h1)) (nat_lt n max) p
  where
    begun : IsSafe max h (expand s (execs rest [])) → (may : Bool) → tree_then (if may then TreeGoes (Fr Body h (expand s (execs rest [])) ∷ []) (n + 1) else TreeStops Slice (Fr Body h (Exec s ∷ execs rest []) ∷ []) n) (tree_run max steps) ≡ TreeEnds e left b → IsThinExit e left
    begun safe true p = safe steps (n + 1) e left b p
    begun safe false p = exit_same Slice e (Fr Body h (Exec s ∷ execs rest []) ∷ []) left (cc) (cc) (record { held = h; rest = s ∷ rest; thin = thin; is = inl refl })

-- a turn of thin statements does not trap, and leaves thin statements
turn_safe : (max : ℕ) (given : Given) (fs : List TreeFrame) (e : Exit) (left : List TreeFrame) (b : ℕ) → IsThinLeft fs → TreeReaches max given fs (TreeEnds e left b) → IsThinExit e left
turn_safe max given fs e left b thin r =
    ⊎_elim (λ same. bare thin.rest thin.thin given (subst (λ z. TreeReaches max given z (TreeEnds e left b)) same r)) (λ same. waiting given (subst (λ z. TreeReaches max given z (TreeEnds e left b)) same r)) thin.is
  where
    bare : (rest : List Stmt) → AllByRecursion IsSmallStmt rest → (given : Given) → TreeReaches max given (Fr Body thin.held (execs rest []) ∷ []) (TreeEnds e left b) → IsThinExit e left
    bare [] all Nothing r = body_safe max [] all thin.held r.0 0 e left b r.1
    bare (s ∷ rest) all Nothing r = body_safe max (s ∷ rest) all thin.held r.0 0 e left b r.1
    bare [] all (GivenValue v) r = let h = r.1 in absurd (cc)
    bare (s ∷ rest) all (GivenValue v) r = let h = r.1 in absurd (cc)

    forgets : (v : Value) → IsSafe max (Part v ∷ thin.held) (Forget ∷ execs thin.rest [])
    forgets v zero n e left b p = absurd (cc)
    forgets v (suc steps) n e left b p = body_safe max thin.rest thin.thin thin.held steps n e left b p

    waiting : (given : Given) → TreeReaches max given (Fr Body thin.held (Await ∷ Forget ∷ execs thin.rest []) ∷ []) (TreeEnds e left b) → IsThinExit e left
    waiting Nothing r = let h = r.1 in absurd (cc)
    waiting (GivenValue v) r = forgets v r.0 0 e left b r.1

-- ---- a history of thin statements

abbrev IsThinJob : Option Activation → Type 0
IsThinJob None = Unit {0}
IsThinJob (Some a) = IsThinLeft a.left

record IsThinState (s : MeaningState) : Type 0 where
  pub untrapped : s.trap ≡ None
  pub each : AllByRecursion IsThinJob s.activations

get_thin : (os : List (Option Activation)) (j : ℕ) (a : Activation) → AllByRecursion IsThinJob os → slice_get os j ≡ Some (Some a) → IsThinLeft a.left
get_thin [] j a all h = absurd (cc)
get_thin (o ∷ os) zero a all h = let same : o ≡ Some a = cc in subst IsThinJob same all.0
get_thin (o ∷ os) (suc j) a all h = get_thin os j a all.1 h

set_thin : (os : List (Option Activation)) (j : ℕ) (o : Option Activation) → AllByRecursion IsThinJob os → IsThinJob o → AllByRecursion IsThinJob (slice_set os j o)
set_thin [] j o all is = tt
set_thin (p ∷ os) zero o all is = (is, all.1)
set_thin (p ∷ os) (suc j) o all is = (all.0, set_thin os j o all.1 is)

after_thin : (s : MeaningState) (j : ℕ) (a : Activation) (e : Exit) (left : List TreeFrame) (n : ℕ) → IsThinState s → IsThinExit e left → IsThinState (after_exit s j a e left n)
after_thin s j a (Ask (AskPrint text)) left n thin is = record { untrapped = thin.untrapped; each = set_thin s.activations j _ thin.each is }
after_thin s j a (Return v) left n thin is = record { untrapped = thin.untrapped; each = set_thin s.activations j _ thin.each tt }
after_thin s j a (Trap kind) left n thin is = elim is [ ]
after_thin s j a Slice left n thin is = record { untrapped = thin.untrapped; each = set_thin s.activations j _ thin.each is }

event_thin : (s : MeaningState) (e : Event) (labels : List Label) (t : MeaningState) → IsThinState s → KeptEvent s e labels t → IsThinState t
event_thin s (Turn j) labels t thin kept_event =
    let turn = kept_event.2.turn in
    let here = get_thin s.activations j.0 turn.activation thin.each turn.is_ready in
    let exit = turn_safe kept_event.0 turn.activation.given turn.activation.left turn.exit turn.left turn.begun here turn.reaches in
    subst IsThinState (sym turn.effect) (after_thin s j.0 turn.activation turn.exit turn.left turn.begun thin exit)

kept_thin : (s : MeaningState) (entries : List Entry) (t : MeaningState) → IsThinState s → IsKept s entries t → IsThinState t
kept_thin s [] t thin kept = subst IsThinState (sym kept) thin
kept_thin s (e ∷ entries) t thin kept = kept_thin kept.0 entries t (event_thin s e.event e.labels kept.0 thin kept.1) kept.2

-- no kept history of a thin tree traps
pub thin_untrapped : (body : List Stmt) → IsThin body → (entries : List Entry) (t : MeaningState) → IsKept (start_state (main_func body)) entries t → t.trap ≡ None
thin_untrapped body thin entries t kept =
    (kept_thin (start_state (main_func body)) entries t (record { untrapped = refl; each = (record { held = []; rest = body; thin = small_stmts 0 body (all_after body thin); is = inl refl }, tt) }) kept).untrapped
