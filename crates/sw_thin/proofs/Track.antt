-- The relation of the simulation: where what is left to do on the tree stands in the code, frame by frame.
use Rattle.std.specs.Prelude.{◌≡◌, ℕ, ◌+◌, List, [], ◌∷◌, ◌++◌, length, Option, Some, None, slice_get, Bool, true, false}
use Rattle.sw_job.specs.declared.instr.Instr.{Instr}
use Rattle.sw_job.specs.declared.instr.Instr.TheVariants.{Add, Print, Take, Discard, ReturnVoid}
use Rattle.sw_job.specs.declared.turn.Operand.{Operand}
use Rattle.sw_job.specs.declared.turn.Operand.TheVariants.{Value as Operation}
use Rattle.sw_job.specs.declared.turn.Frame.{Frame}
use Rattle.sw_job.specs.declared.code.FuncCode.{FuncCode}
use Rattle.sw_job.specs.Machine.{fetch, is_take}
use Rattle.sw_thin.specs.Meaning.{Todo, Eval, Exec, DoAdd, DoLet, DoPrint, Await, Forget, Held, Var, Part, Kind, Body, TreeFrame, Fr}
use Rattle.sw_thin.specs.Lowering.{Scope, expr_code, stmt_code, scope_after}

-- the instructions stand in the code at this address
abbrev pub HasAt : List Instr → ℕ → List Instr → Type 0
HasAt instrs p [] = Unit {0}
HasAt instrs p (i ∷ is) = (slice_get instrs p ≡ Some i) × HasAt instrs (p + 1) is

-- the code of one thing that is left to do, where the operands are these
abbrev pub todo_code : Scope → Todo → List Instr
todo_code sc (Eval e) = expr_code sc e
todo_code sc (Exec s) = stmt_code sc s
todo_code sc DoAdd = Add ∷ []
todo_code sc (DoLet x) = []
todo_code sc DoPrint = Print ∷ Take ∷ []
todo_code sc Await = Take ∷ []
todo_code sc Forget = Discard 1 ∷ []

-- without the newest operand, which is no variable
abbrev pub on_none : Scope → (Scope → Option Scope) → Option Scope
on_none (None ∷ sc) go = go sc
on_none _ go = None

-- the operands of its own frame after it, or None where it does not fit them
abbrev pub after : Todo → Scope → Option Scope
after (Eval e) sc = Some (None ∷ sc)
after (Exec s) sc = Some (scope_after sc s)
after DoAdd sc = on_none sc (λ s1. on_none s1 (λ rest. Some (None ∷ rest)))
after (DoLet x) sc = on_none sc (λ rest. Some (Some x ∷ rest))
after DoPrint sc = on_none sc (λ rest. Some (None ∷ rest))
after Await sc = Some (None ∷ sc)
after Forget sc = on_none sc (λ rest. Some rest)

-- what is left to do stands from this address to the address r, with these operands of the frame at first and those at
-- last; out are the operands beneath them
pub data Track (instrs : List Instr) (out : Scope) (r : ℕ) (last : Scope) : ℕ → Scope → List Todo → Type 0 where
  ends : {p : ℕ} {sc : Scope} → p ≡ r → sc ≡ last → Track instrs out r last p sc []
  item : {p : ℕ} {sc sc1 : Scope} {i : Todo} {t : List Todo} → HasAt instrs p (todo_code (sc ++ out) i) → after i sc ≡ Some sc1 → Track instrs out r last (p + length (todo_code (sc ++ out) i)) sc1 t → Track instrs out r last p sc (i ∷ t)

-- what the operands of what is held are
abbrev pub scope : List Held → Scope
scope [] = []
scope (Var x v ∷ h) = Some x ∷ scope h
scope (Part v ∷ h) = None ∷ scope h

-- the operands of what is held
abbrev pub vals : List Held → List Operand
vals [] = []
vals (Var x v ∷ h) = Operation v ∷ vals h
vals (Part v ∷ h) = Operation v ∷ vals h

-- what lies beneath the operands of a frame in the frame of the code, where the frames below it have these
abbrev pub outer : Kind → Scope → Scope
outer Body sc = []

-- all that a frame of the code holds
abbrev pub full : List TreeFrame → Scope
full [] = []
full (Fr k h t ∷ ts) = scope h ++ outer k (full ts)

abbrev pub waits : List TreeFrame → Bool
waits (Fr k h (Await ∷ t) ∷ ts) = true
waits _ = false

-- frames that are left: those of the tree stand in those of the code, and the code awaits a value where the tree does
abbrev pub below : List FuncCode → (Frame → List Frame → Type 0) → List TreeFrame → List Frame → Type 0
below code g [] [] = Unit {0}
below code g [] (m ∷ ms) = ⊥
below code g (t ∷ ts) [] = ⊥
below code g (t ∷ ts) (m ∷ ms) = g m ms × (is_take (fetch code m.func.0 m.address) ≡ waits (t ∷ ts))

-- what the end of a body leads to, where g says that the frames below it stand
pub record AtBody (code : List FuncCode) (instrs : List Instr) (ts : List TreeFrame) (g : Frame → List Frame → Type 0) (r : ℕ) (tail : List Operand) (ms : List Frame) : Type 0 where
  pub returns : slice_get instrs r ≡ Some ReturnVoid
  pub none : tail ≡ []
  pub callers : below code g ts ms

-- what the end of a frame leads to
abbrev pub AtEnd : List FuncCode → List Instr → Kind → List TreeFrame → (Frame → List Frame → Type 0) → ℕ → ℕ → Scope → List Operand → List Frame → Type 0
AtEnd code instrs Body ts g f r last tail ms = AtBody code instrs ts g r tail ms

-- a frame of the tree stands at an address of a func, with what is left of both
pub record Stands (code : List FuncCode) (k : Kind) (h : List Held) (t : List Todo) (ts : List TreeFrame) (g : Frame → List Frame → Type 0) (f p : ℕ) (ops : List Operand) (ms : List Frame) : Type 0 where
  pub func : FuncCode
  pub in_code : slice_get code f ≡ Some func
  pub r : ℕ
  pub last : Scope
  pub tail : List Operand
  pub operands : ops ≡ vals h ++ tail
  pub track : Track func.instrs (outer k (full ts)) r last p (scope h) t
  pub at_end : AtEnd code func.instrs k ts g f r last tail ms

-- frames of the tree stand in a frame of the code and its callers
abbrev pub Simulates : List FuncCode → List TreeFrame → Frame → List Frame → Type 0
Simulates code [] m ms = ⊥
Simulates code (Fr k h t ∷ ts) m ms = Stands code k h t ts (Simulates code ts) m.func.0 m.address m.operands ms

-- frames of the tree and frames of the code, after an exit and before a turn
abbrev pub Left : List FuncCode → List Frame → List TreeFrame → Type 0
Left code ms fs = below code (Simulates code fs) fs ms
