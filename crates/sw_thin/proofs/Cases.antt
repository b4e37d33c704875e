-- The code follows the tree: a case for each thing to do, and the whole step.
use Rattle.std.proofs.Common.{◌≡◌, ℕ, ℤ, ◌+◌, List, [], ◌∷◌, ◌++◌, length, Some, None, refl, sym, ap, ◌∙◌, subst, arith, append_assoc, length-append, drop, Bool, true, false}
use Rattle.std.specs.Prelude.{slice_get, nat_lt, if◌then◌else◌}
use Rattle.sw_thin.specs.Program.{Expr, Stmt, Func, Let as LetStmt, Print as PrintStmt, Int as IntExpr, Str as StrExpr, Var as VarExpr, Add as AddExpr}
use Rattle.sw_job.specs.declared.value.Value.{Value}
use Rattle.sw_job.specs.declared.value.Value.TheVariants.{Int, Str, Void}
use Rattle.sw_job.specs.declared.instr.Instr.{Instr}
use Rattle.sw_job.specs.declared.instr.Instr.TheVariants.{BeginStmt, PushInt, PushStr, Load, Add, Print, Take, Discard, ReturnVoid}
use Rattle.sw_job.specs.declared.turn.Operand.{Operand}
use Rattle.sw_job.specs.declared.turn.Operand.TheVariants.{Value as Operation}
use Rattle.sw_job.specs.declared.turn.Frame.{Frame}
use Rattle.sw_job.specs.declared.turn.Ask.TheVariants.{Print as AskPrint}
use Rattle.sw_job.specs.declared.turn.Exit.TheVariants.{Ask, Slice}
use Rattle.sw_job.specs.declared.code.FuncCode.{FuncCode}
use Rattle.sw_job.specs.Machine.{frame, CodeGoes, CodeStops, on_value, on_text, on_outcome, is_take, code_act}
use Rattle.sw_job.specs.Values.{sum_of, printed}
use Rattle.sw_thin.specs.Meaning.{Todo, Eval, Exec, DoAdd, DoLet, DoPrint, Await, Forget, Held, Var, Part, Kind, Body, TreeFrame, Fr, TreeGoes, TreeStops, TreeNoStep, execs, entry, give, lookup, on_part, with_value, with_outcome, with_text, expand, tree_act, finish, tree_step}
use Rattle.sw_thin.specs.Lowering.{Scope, depth_of, scope_after, expr_code, stmt_code, body_code, func_code}
use Rattle.sw_thin.proofs.Track.{HasAt, todo_code, on_none, after, Track, ends, item, scope, vals, outer, full, below, AtBody, Simulates}
use Rattle.sw_thin.proofs.Follow.{has_prefix, has_suffix, Follows, fetched, Makes, makes, stays, Base, base_of, TrackOf, stands_at, track_as, on_part_makes, on_part_follows, text_makes, outcome_makes, give_makes}
use Rattle.sw_thin.proofs.Vars.{Found, lookup_found, value_makes}

-- the code does what is first
abbrev pub Case : List FuncCode → ℕ → Todo → Type 0
Case code max i = (k : Kind) (h : List Held) (t : List Todo) (fs : List TreeFrame) (f q : ℕ) (ops : List Operand) (ms : List Frame) (n : ℕ) (sc1 : Scope) (b : Base code k fs (Simulates code fs) f ms) → ops ≡ vals h ++ b.tail → HasAt b.func.instrs q (todo_code (scope h ++ outer k (full fs)) i) → after i (scope h) ≡ Some sc1 → TrackOf b (q + length (todo_code (scope h ++ outer k (full fs)) i)) sc1 t → Follows code max (tree_act max i k h t fs n) (frame f q ops) ms n

begins : (instrs : List Instr) (q : ℕ) (sc : Scope) (s : Stmt) → HasAt instrs q (stmt_code sc s) → slice_get instrs q ≡ Some BeginStmt
begins instrs q sc (LetStmt x e) has = has.0
begins instrs q sc (PrintStmt e) has = has.0

module _ (code : List FuncCode) (max : ℕ) where
  -- the code is at the address of these frames
  at_frame : (k : Kind) (h : List Held) (t : List Todo) (fs : List TreeFrame) (f q : ℕ) (ops : List Operand) (ms : List Frame) (n : ℕ) (b : Base code k fs (Simulates code fs) f ms) → ops ≡ vals h ++ b.tail → TrackOf b q (scope h) t → Follows code max (TreeGoes (Fr k h t ∷ fs) n) (frame f q ops) ms n
  at_frame k h t fs f q ops ms n b e tr = stays code max (Fr k h t ∷ fs) (frame f q ops) ms n (stands_at b h t q ops e tr)

  -- an instruction that goes on in the frame
  one_go : (x : Instr) (k : Kind) (h : List Held) (t : List Todo) (fs : List TreeFrame) (f q : ℕ) (ops : List Operand) (ms : List Frame) (n : ℕ) (b : Base code k fs (Simulates code fs) f ms) (q1 : ℕ) (ops1 : List Operand) → slice_get b.func.instrs q ≡ Some x → code_act code max x f q ops ms n ≡ CodeGoes (frame f q1 ops1) ms n → ops1 ≡ vals h ++ b.tail → TrackOf b q1 (scope h) t → Follows code max (TreeGoes (Fr k h t ∷ fs) n) (frame f q ops) ms n
  one_go x k h t fs f q ops ms n b q1 ops1 at d e tr =
      makes code max f q b.func x ops ms n (TreeGoes (Fr k h t ∷ fs) n) b.in_code at (subst (λ z. Makes code max (TreeGoes (Fr k h t ∷ fs) n) z) (sym d) (at_frame k h t fs f q1 ops1 ms n b e tr))

  -- a part is evaluated, and its value pushed
  push : (v : Value) (k : Kind) (h : List Held) (t : List Todo) (fs : List TreeFrame) (f q : ℕ) (ops : List Operand) (ms : List Frame) (n : ℕ) (sc1 : Scope) (b : Base code k fs (Simulates code fs) f ms) → ops ≡ vals h ++ b.tail → Some (None ∷ scope h) ≡ Some sc1 → TrackOf b (q + 1) sc1 t → Follows code max (TreeGoes (Fr k (Part v ∷ h) t ∷ fs) n) (frame f (q + 1) (Operation v ∷ ops)) ms n
  push v k h t fs f q ops ms n sc1 b e a tr =
      at_frame k (Part v ∷ h) t fs f (q + 1) (Operation v ∷ ops) ms n b (ap (λ o. Operation v ∷ o) e) (track_as b.func.instrs (outer k (full fs)) b.r b.last t a refl tr)

  case_str : (text : List ℕ) → Case code max (Eval (StrExpr text))
  case_str text k h t fs f q ops ms n sc1 b e has a tr =
      makes code max f q b.func (PushStr text) ops ms n (TreeGoes (Fr k (Part (Str text) ∷ h) t ∷ fs) n) b.in_code has.0 (push (Str text) k h t fs f q ops ms n sc1 b e a tr)

  case_int : (m : ℤ) → Case code max (Eval (IntExpr m))
  case_int m k h t fs f q ops ms n sc1 b e has a tr =
      makes code max f q b.func (PushInt m) ops ms n (TreeGoes (Fr k (Part (Int m) ∷ h) t ∷ fs) n) b.in_code has.0 (push (Int m) k h t fs f q ops ms n sc1 b e a tr)

  case_var : (x : List ℕ) → Case code max (Eval (VarExpr x))
  case_var x Body h t fs f q ops ms n sc1 b e has a tr =
      let depth = depth_of x (scope h ++ []) in
      let e1 : ops ≡ vals h ++ [] = e ∙ ap (λ z. vals h ++ z) b.at_end.none in
      let found : Found (lookup x h) (slice_get ops depth) = subst (λ o. Found (lookup x h) (slice_get o depth)) (sym e1) (lookup_found x h) in
      makes code max f q b.func (Load depth) ops ms n (with_value (lookup x h) (λ v. TreeGoes (Fr Body (Part v ∷ h) t ∷ fs) n)) b.in_code has.0 (value_makes code max (lookup x h) (slice_get ops depth) (λ v. TreeGoes (Fr Body (Part v ∷ h) t ∷ fs) n) (λ v. CodeGoes (frame f (q + 1) (Operation v ∷ ops)) ms n) found (λ v. push v Body h t fs f q ops ms n sc1 b e a tr))

  -- two parts and their sum stand here
  case_add : (ea eb : Expr) → Case code max (Eval (AddExpr ea eb))
  case_add ea eb k h t fs f q ops ms n sc1 b e has a tr =
      let instrs = b.func.instrs in
      let sc = scope h ++ outer k (full fs) in
      let ca = expr_code sc ea in
      let cb = expr_code (None ∷ sc) eb in
      let hb = has_suffix instrs q ca (cb ++ Add ∷ []) has in
      let hx = has_suffix instrs (q + length ca) cb (Add ∷ []) hb in
      let len : q + length (ca ++ (cb ++ Add ∷ [])) ≡ q + length ca + length cb + 1 = omega (arith, length-append ca (cb ++ Add ∷ []), length-append cb (Add ∷ [])) in
      let t3 : TrackOf b (q + length ca + length cb) (None ∷ None ∷ scope h) (DoAdd ∷ t) = item hx refl (track_as instrs (outer k (full fs)) b.r b.last t a len tr) in
      let t2 : TrackOf b (q + length ca) (None ∷ scope h) (Eval eb ∷ DoAdd ∷ t) = item (has_prefix instrs (q + length ca) cb (Add ∷ []) hb) refl t3 in
      at_frame k h (Eval ea ∷ Eval eb ∷ DoAdd ∷ t) fs f q ops ms n b e (item (has_prefix instrs q ca (cb ++ Add ∷ []) has) refl t2)

  case_do_add : Case code max DoAdd
  case_do_add k h t fs f q ops ms n sc1 b e has a tr =
      makes code max f q b.func Add ops ms n (tree_act max DoAdd k h t fs n) b.in_code has.0 (on_part_makes code max h b.tail ops (λ y h1. on_part h1 (λ x h2. with_outcome (sum_of x y) n (λ v. TreeGoes (Fr k (Part v ∷ h2) t ∷ fs) n))) (λ y o1. on_value o1 (λ x o2. on_outcome (sum_of x y) n (λ v. CodeGoes (frame f (q + 1) (Operation v ∷ o2)) ms n))) (λ s1. on_none s1 (λ s2. Some (None ∷ s2))) sc1 e a (λ y h1 a1. on_part_makes code max h1 b.tail (vals h1 ++ b.tail) (λ x h2. with_outcome (sum_of x y) n (λ v. TreeGoes (Fr k (Part v ∷ h2) t ∷ fs) n)) (λ x o2. on_outcome (sum_of x y) n (λ v. CodeGoes (frame f (q + 1) (Operation v ∷ o2)) ms n)) (λ s2. Some (None ∷ s2)) sc1 refl a1 (λ x h2 a2. outcome_makes code max (sum_of x y) n (λ v. TreeGoes (Fr k (Part v ∷ h2) t ∷ fs) n) (λ v. CodeGoes (frame f (q + 1) (Operation v ∷ (vals h2 ++ b.tail))) ms n) (λ v. push v k h2 t fs f q (vals h2 ++ b.tail) ms n sc1 b refl a2 tr))))

  -- a part becomes a variable, and the code does nothing
  case_let : (x : List ℕ) → Case code max (DoLet x)
  case_let x k h t fs f q ops ms n sc1 b e has a tr =
      on_part_follows code max h (λ v h1. TreeGoes (Fr k (Var x v ∷ h1) t ∷ fs) n) (λ s1. Some (Some x ∷ s1)) sc1 (frame f q ops) ms n a (λ v h1 eh a1. at_frame k (Var x v ∷ h1) t fs f q ops ms n b (e ∙ ap (λ z. vals z ++ b.tail) eh) (track_as b.func.instrs (outer k (full fs)) b.r b.last t a1 (omega arith) tr))

  case_forget : Case code max Forget
  case_forget k h t fs f q ops ms n sc1 b e has a tr =
      on_part_follows code max h (λ v h1. TreeGoes (Fr k h1 t ∷ fs) n) (λ s1. Some s1) sc1 (frame f q ops) ms n a (λ v h1 eh a1. one_go (Discard 1) k h1 t fs f q ops ms n b (q + 1) (drop 1 ops) has.0 refl (ap (λ o. drop 1 o) (e ∙ ap (λ z. vals z ++ b.tail) eh)) (track_as b.func.instrs (outer k (full fs)) b.r b.last t a1 refl tr))

  -- a frame that stands at its Take awaits a value
  awaiting : (k : Kind) (h : List Held) (t : List Todo) (fs : List TreeFrame) (f q : ℕ) (ops : List Operand) (ms : List Frame) (sc1 : Scope) (b : Base code k fs (Simulates code fs) f ms) → ops ≡ vals h ++ b.tail → slice_get b.func.instrs q ≡ Some Take → Some (None ∷ scope h) ≡ Some sc1 → TrackOf b (q + 1) sc1 t → below code (Simulates code (Fr k h (Await ∷ t) ∷ fs)) (Fr k h (Await ∷ t) ∷ fs) (frame f q ops ∷ ms)
  awaiting k h t fs f q ops ms sc1 b e at a tr = (stands_at b h (Await ∷ t) q ops e (item (at, tt) a tr), ap is_take (fetched code f q b.func Take b.in_code at))

  case_do_print : Case code max DoPrint
  case_do_print k h t fs f q ops ms n sc1 b e has a tr =
      makes code max f q b.func Print ops ms n (tree_act max DoPrint k h t fs n) b.in_code has.0 (on_part_makes code max h b.tail ops (λ v h1. with_text (printed v) (λ text. TreeStops (Ask (AskPrint text)) (Fr k h1 (Await ∷ t) ∷ fs) n)) (λ v o1. on_text (printed v) (λ text. CodeStops (Ask (AskPrint text)) (frame f (q + 1) o1 ∷ ms) n)) (λ s1. Some (None ∷ s1)) sc1 e a (λ v h1 a1. text_makes code max (printed v) (λ text. TreeStops (Ask (AskPrint text)) (Fr k h1 (Await ∷ t) ∷ fs) n) (λ text. CodeStops (Ask (AskPrint text)) (frame f (q + 1) (vals h1 ++ b.tail) ∷ ms) n) (λ text. (refl, refl, awaiting k h1 t fs f (q + 1) (vals h1 ++ b.tail) ms sc1 b refl has.1.0 a1 (track_as b.func.instrs (outer k (full fs)) b.r b.last t refl (omega arith) tr)))))

  -- a part and what takes it stand here
  one_part : (i : Todo) (xs : List Instr) (ea : Expr) (k : Kind) (h : List Held) (t : List Todo) (fs : List TreeFrame) (f q : ℕ) (ms : List Frame) (sc1 : Scope) (b : Base code k fs (Simulates code fs) f ms) → todo_code (None ∷ (scope h ++ outer k (full fs))) i ≡ xs → after i (None ∷ scope h) ≡ Some sc1 → HasAt b.func.instrs q (expr_code (scope h ++ outer k (full fs)) ea ++ xs) → TrackOf b (q + length (expr_code (scope h ++ outer k (full fs)) ea ++ xs)) sc1 t → TrackOf b q (scope h) (Eval ea ∷ i ∷ t)
  one_part i xs ea k h t fs f q ms sc1 b code_i a has tr =
      let ca = expr_code (scope h ++ outer k (full fs)) ea in
      let hx = subst (λ l. HasAt b.func.instrs (q + length ca) l) (sym code_i) (has_suffix b.func.instrs q ca xs has) in
      let len : q + length (ca ++ xs) ≡ q + length ca + length xs = omega (arith, length-append ca xs) in
      let lx = len ∙ ap (λ l. q + length ca + length l) (sym code_i) in
      item (has_prefix b.func.instrs q ca xs has) refl (item hx a (track_as b.func.instrs (outer k (full fs)) b.r b.last t refl lx tr))

  -- what a statement comes to do follows its `BeginStmt`
  expand_track : (s : Stmt) (k : Kind) (h : List Held) (t : List Todo) (fs : List TreeFrame) (f q : ℕ) (ms : List Frame) (sc1 : Scope) (b : Base code k fs (Simulates code fs) f ms) → HasAt b.func.instrs q (stmt_code (scope h ++ outer k (full fs)) s) → Some (scope_after (scope h) s) ≡ Some sc1 → TrackOf b (q + length (stmt_code (scope h ++ outer k (full fs)) s)) sc1 t → TrackOf b (q + 1) (scope h) (expand s t)
  expand_track (LetStmt x y) k h t fs f q ms sc1 b has a tr =
      item has.1 refl (item tt refl (track_as b.func.instrs (outer k (full fs)) b.r b.last t a (omega arith) tr))
  expand_track (PrintStmt x) k h t fs f q ms sc1 b has a tr =
      let instrs = b.func.instrs in
      let ce = expr_code (scope h ++ outer k (full fs)) x in
      let taken = Print ∷ Take ∷ [] in
      let has1 = subst (λ l. HasAt instrs (q + 1) l) (sym (append_assoc ce taken (Discard 1 ∷ []))) has.1 in
      let len : q + length (stmt_code (scope h ++ outer k (full fs)) (PrintStmt x)) ≡ q + 1 + length (ce ++ taken) + 1 = omega (arith, length-append ce (Print ∷ Take ∷ Discard 1 ∷ []), length-append ce taken) in
      let forget : TrackOf b (q + 1 + length (ce ++ taken)) (None ∷ scope h) (Forget ∷ t) = item (has_suffix instrs (q + 1) (ce ++ taken) (Discard 1 ∷ []) has1) refl (track_as instrs (outer k (full fs)) b.r b.last t a len tr) in
      one_part DoPrint taken x k h (Forget ∷ t) fs f (q + 1) ms (None ∷ scope h) b refl refl (has_prefix instrs (q + 1) (ce ++ taken) (Discard 1 ∷ []) has1) forget

  -- a statement begins, or the turn ends before it
  case_exec : (s : Stmt) → Case code max (Exec s)
  case_exec s k h t fs f q ops ms n sc1 b e has a tr =
      let at = begins b.func.instrs q (scope h ++ outer k (full fs)) s has in
      makes code max f q b.func BeginStmt ops ms n (tree_act max (Exec s) k h t fs n) b.in_code at (go (nat_lt n max) (at_frame k h (expand s t) fs f (q + 1) ops ms (n + 1) b e (expand_track s k h t fs f q ms sc1 b has a tr)) (stands_at b h (Exec s ∷ t) q ops e (item has a tr), ap is_take (fetched code f q b.func BeginStmt b.in_code at)))
    where
      go : (z : Bool) → Follows code max (TreeGoes (Fr k h (expand s t) ∷ fs) (n + 1)) (frame f (q + 1) ops) ms (n + 1) → below code (Simulates code (Fr k h (Exec s ∷ t) ∷ fs)) (Fr k h (Exec s ∷ t) ∷ fs) (frame f q ops ∷ ms) → Makes code max (if z then TreeGoes (Fr k h (expand s t) ∷ fs) (n + 1) else TreeStops Slice (Fr k h (Exec s ∷ t) ∷ fs) n) (if z then CodeGoes (frame f (q + 1) ops) ms (n + 1) else CodeStops Slice (frame f q ops ∷ ms) n)
      go true x y = x
      go false x y = (refl, refl, y)

  case_await : Case code max Await
  case_await k h t fs f q ops ms n sc1 b e has a tr = makes code max f q b.func Take ops ms n TreeNoStep b.in_code has.0 tt

  any_case : (i : Todo) → Case code max i
  any_case (Eval (IntExpr m)) = case_int m
  any_case (Eval (StrExpr text)) = case_str text
  any_case (Eval (VarExpr x)) = case_var x
  any_case (Eval (AddExpr a b)) = case_add a b
  any_case DoAdd = case_do_add
  any_case (DoLet x) = case_let x
  any_case (Exec s) = case_exec s
  any_case DoPrint = case_do_print
  any_case Await = case_await
  any_case Forget = case_forget

  -- what is left to do is first in the code
  first : (k : Kind) (fs : List TreeFrame) (f : ℕ) (ms : List Frame) (b : Base code k fs (Simulates code fs) f ms) (h : List Held) (ops : List Operand) (n : ℕ) → ops ≡ vals h ++ b.tail → (i : Todo) (t : List Todo) (q : ℕ) (sc : Scope) → sc ≡ scope h → Track b.func.instrs (outer k (full fs)) b.r b.last q sc (i ∷ t) → Follows code max (tree_act max i k h t fs n) (frame f q ops) ms n
  first k fs f ms b h ops n e i t q sc s (item {sc1 = sc1} has a tr) =
      let out = outer k (full fs) in
      any_case i k h t fs f q ops ms n sc1 b e (subst (λ z. HasAt b.func.instrs q (todo_code (z ++ out) i)) s has) (subst (λ z. after i z ≡ Some sc1) s a) (subst (λ z. Track b.func.instrs out b.r b.last (q + length (todo_code (z ++ out) i)) sc1 t) s tr)

  -- the end of a frame
  ended : (k : Kind) (h : List Held) (fs : List TreeFrame) (f q : ℕ) (ops : List Operand) (ms : List Frame) (n : ℕ) (b : Base code k fs (Simulates code fs) f ms) → ops ≡ vals h ++ b.tail → q ≡ b.r → scope h ≡ b.last → Follows code max (finish k fs n) (frame f q ops) ms n
  ended Body h fs f q ops ms n b e eq es =
      makes code max f q b.func ReturnVoid ops ms n (give Void fs n) b.in_code (ap (λ z. slice_get b.func.instrs z) eq ∙ b.at_end.returns) (give_makes code max Void fs ms n b.at_end.callers)

  last_of : (k : Kind) (h : List Held) (fs : List TreeFrame) (f : ℕ) (ops : List Operand) (ms : List Frame) (n : ℕ) (b : Base code k fs (Simulates code fs) f ms) → ops ≡ vals h ++ b.tail → (q : ℕ) (sc : Scope) → sc ≡ scope h → Track b.func.instrs (outer k (full fs)) b.r b.last q sc [] → Follows code max (finish k fs n) (frame f q ops) ms n
  last_of k h fs f ops ms n b e q sc s (ends x y) = ended k h fs f q ops ms n b e x (sym s ∙ y)

  -- one step of the tree, and what the code does in it
  pub step_follows : (fs : List TreeFrame) (m : Frame) (ms : List Frame) (n : ℕ) → Simulates code fs m ms → Follows code max (tree_step max fs n) m ms n
  step_follows [] m ms n g = absurd g
  step_follows (Fr k h [] ∷ fs) m ms n g = last_of k h fs m.func.0 m.operands ms n (base_of g) g.operands m.address (scope h) refl g.track
  step_follows (Fr k h (i ∷ t) ∷ fs) m ms n g = first k fs m.func.0 ms (base_of g) h m.operands n g.operands i t m.address (scope h) refl g.track

-- code stands where it was put
pub has_all : (xs pre : List Instr) → HasAt (pre ++ xs) (length pre) xs
has_all [] pre = tt
has_all (i ∷ xs) pre =
    let n : length (pre ++ i ∷ []) ≡ length pre + 1 = omega (arith, length-append pre (i ∷ [])) in
    let rest = has_all xs (pre ++ i ∷ []) in
    let moved = subst (λ l. HasAt l (length (pre ++ i ∷ [])) xs) (append_assoc pre (i ∷ []) xs) rest in
    (seam pre, subst (λ m. HasAt (pre ++ i ∷ xs) m xs) n moved)
  where
    seam : (pre : List Instr) → slice_get (pre ++ i ∷ xs) (length pre) ≡ Some i
    seam [] = refl
    seam (x ∷ pre) = seam pre

-- statements stand here, and after them the end of a func
record BodyTrack (instrs : List Instr) (sc : Scope) (q : ℕ) (body : List Stmt) : Type 0 where
  pub r : ℕ
  pub last : Scope
  pub returns : slice_get instrs r ≡ Some ReturnVoid
  pub track : Track instrs [] r last q sc (execs body [])

body_track : (instrs : List Instr) (sc : Scope) (q : ℕ) (body : List Stmt) → HasAt instrs q (body_code sc body) → BodyTrack instrs sc q body
body_track instrs sc q [] has = record { r = q; last = sc; returns = has.0; track = ends refl refl }
body_track instrs sc q (s ∷ body) has =
    let e : stmt_code sc s ≡ stmt_code (sc ++ []) s = ap (λ z. stmt_code z s) (sym (append_empty sc)) in
    let rest = body_track instrs (scope_after sc s) (q + length (stmt_code sc s)) body (has_suffix instrs q (stmt_code sc s) (body_code (scope_after sc s) body) has) in
    let prefix = subst (λ l. HasAt instrs q l) e (has_prefix instrs q (stmt_code sc s) (body_code (scope_after sc s) body) has) in
    record { r = rest.r; last = rest.last; returns = rest.returns; track = item prefix refl (subst (λ l. Track instrs [] rest.r rest.last (q + length l) (scope_after sc s) (execs body [])) e rest.track) }
  where
    append_empty : (sc : Scope) → sc ++ [] ≡ sc
    append_empty [] = refl
    append_empty (x ∷ sc) = ap (λ z. x ∷ z) (append_empty sc)

-- a func at its beginning stands at the beginning of its code
pub entry_simulates : (code : List FuncCode) (f : ℕ) (func : Func) (fs : List TreeFrame) (ms : List Frame) → slice_get code f ≡ Some (func_code func) → below code (Simulates code fs) fs ms → Simulates code (entry func ∷ fs) (frame f 0 []) ms
entry_simulates code f func fs ms e w =
    let instrs = body_code [] func.body in
    let body = body_track instrs [] 0 func.body (has_all instrs []) in
    let end : AtBody code instrs fs (Simulates code fs) body.r [] ms = record { returns = body.returns; none = refl; callers = w } in
    record { func = func_code func; in_code = e; r = body.r; last = body.last; tail = []; operands = refl; track = body.track; at_end = end }
