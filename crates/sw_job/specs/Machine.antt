-- What the job machine does with code: one instruction, a run, and how a turn is entered.
--
-- Throughout: f is the number of the running func, p the address of its next instruction, o its operands, m the running
-- frame, ms the frames of its callers, and n how many statements were begun in this turn.
use Rattle.std.specs.Prelude.{◌≡◌, ℕ, zero, suc, ◌+◌, nat_lt, List, [], ◌∷◌, Option, Some, None, drop, slice_get, Bool, true, false, if◌then◌else◌}
use Rattle.sw_job.specs.declared.value.Value.{Value}
use Rattle.sw_job.specs.declared.value.Value.TheVariants.{Int, Str, Void}
use Rattle.sw_job.specs.declared.instr.Instr.{Instr}
use Rattle.sw_job.specs.declared.instr.Instr.TheVariants.{BeginStmt, PushInt, PushStr, Load, Add, Print, Take, Discard, ReturnVoid}
use Rattle.sw_job.specs.declared.turn.Operand.{Operand}
use Rattle.sw_job.specs.declared.turn.Operand.TheVariants.{Value as Operation}
use Rattle.sw_job.specs.declared.turn.Frame.{Frame}
use Rattle.sw_job.specs.declared.turn.Ask.TheVariants.{Print as AskPrint}
use Rattle.sw_job.specs.declared.turn.Exit.{Exit}
use Rattle.sw_job.specs.declared.turn.Exit.TheVariants.{Ask, Return, Trap, Slice}
use Rattle.sw_job.specs.declared.turn.Given.{Given}
use Rattle.sw_job.specs.declared.turn.Given.TheVariants.{Nothing, Value as GivenValue}
use Rattle.sw_job.specs.declared.code.FuncCode.{FuncCode}
use Rattle.sw_job.specs.Values.{printed, Outcome, Gives, Traps, Wrong, sum_of}

abbrev pub frame : ℕ → ℕ → List Operand → Frame
frame func address operands = record { func = record { 0 = func }; address = address; operands = operands }

abbrev pub instr_in : Option FuncCode → ℕ → Option Instr
instr_in None address = None
instr_in (Some f) address = slice_get f.instrs address

-- the instruction at an address of a func
abbrev pub fetch : List FuncCode → ℕ → ℕ → Option Instr
fetch code func address = instr_in (slice_get code func) address

-- what an instruction leads to: a frame over its callers with the statements begun so far; or an exit, with
-- the frames that are left; or there is no step here, and the run is stuck
pub data CodeNext : Type 0 where
  CodeGoes : Frame → List Frame → ℕ → CodeNext
  CodeStops : Exit → List Frame → ℕ → CodeNext
  CodeNoStep : CodeNext

abbrev pub on_value : List Operand → (Value → List Operand → CodeNext) → CodeNext
on_value [] go = CodeNoStep
on_value (Operation v ∷ operands) go = go v operands

abbrev pub on_text : Option (List ℕ) → (List ℕ → CodeNext) → CodeNext
on_text None go = CodeNoStep
on_text (Some text) go = go text

abbrev pub on_operand : Option Operand → (Value → CodeNext) → CodeNext
on_operand None go = CodeNoStep
on_operand (Some (Operation v)) go = go v

abbrev pub on_outcome : Outcome → ℕ → (Value → CodeNext) → CodeNext
on_outcome (Gives v) n go = go v
on_outcome (Traps kind) n go = CodeStops (Trap kind) [] n
on_outcome Wrong n go = CodeNoStep

abbrev pub is_take : Option Instr → Bool
is_take (Some Take) = true
is_take _ = false

abbrev pub at_take : Option Instr → CodeNext → CodeNext
at_take (Some Take) next = next
at_take _ next = CodeNoStep

abbrev pub not_take : Option Instr → CodeNext → CodeNext
not_take (Some Take) next = CodeNoStep
not_take _ next = next

-- a value for the frame that awaits it, or for the caller of all
abbrev pub code_give : List FuncCode → Value → List Frame → ℕ → CodeNext
code_give code v [] begun = CodeStops (Return v) [] begun
code_give code v (m ∷ ms) begun =
    at_take (fetch code m.func.0 m.address) (CodeGoes (frame m.func.0 (m.address + 1) (Operation v ∷ m.operands)) ms begun)

-- one instruction, of the func f at the address p; max statements may begin
abbrev pub code_act : List FuncCode → ℕ → Instr → ℕ → ℕ → List Operand → List Frame → ℕ → CodeNext
code_act code max BeginStmt f p o ms n =
    if nat_lt n max then CodeGoes (frame f (p + 1) o) ms (n + 1) else CodeStops Slice (frame f p o ∷ ms) n
code_act code max (PushStr text) f p o ms n = CodeGoes (frame f (p + 1) (Operation (Str text) ∷ o)) ms n
code_act code max (PushInt m) f p o ms n = CodeGoes (frame f (p + 1) (Operation (Int m) ∷ o)) ms n
code_act code max (Load depth) f p o ms n = on_operand (slice_get o depth) (λ v. CodeGoes (frame f (p + 1) (Operation v ∷ o)) ms n)
code_act code max Add f p o ms n =
    on_value o (λ y o1. on_value o1 (λ x o2. on_outcome (sum_of x y) n (λ v. CodeGoes (frame f (p + 1) (Operation v ∷ o2)) ms n)))
code_act code max Print f p o ms n =
    on_value o (λ v rest. on_text (printed v) (λ text. CodeStops (Ask (AskPrint text)) (frame f (p + 1) rest ∷ ms) n))
code_act code max Take f p o ms n = CodeNoStep
code_act code max (Discard count) f p o ms n = CodeGoes (frame f (p + 1) (drop count o)) ms n
code_act code max ReturnVoid f p o ms n = code_give code Void ms n

abbrev pub code_act_at : List FuncCode → ℕ → Option Instr → ℕ → ℕ → List Operand → List Frame → ℕ → CodeNext
code_act_at code max None f p o ms n = CodeNoStep
code_act_at code max (Some i) f p o ms n = code_act code max i f p o ms n

abbrev pub code_step : List FuncCode → ℕ → Frame → List Frame → ℕ → CodeNext
code_step code max m ms n = code_act_at code max (fetch code m.func.0 m.address) m.func.0 m.address m.operands ms n

-- where a run of so many instructions comes to: its exit, with the frames that are left and the statements
-- begun; or it is still open; or it is stuck
pub data CodeEnd : Type 0 where
  CodeEnds : Exit → List Frame → ℕ → CodeEnd
  CodeOpen : CodeEnd
  CodeStuck : CodeEnd

abbrev pub code_then : CodeNext → (Frame → List Frame → ℕ → CodeEnd) → CodeEnd
code_then (CodeGoes m ms n) go = go m ms n
code_then (CodeStops exit ms n) go = CodeEnds exit ms n
code_then CodeNoStep go = CodeStuck

-- at most so many instructions
abbrev pub code_run : List FuncCode → ℕ → ℕ → Frame → List Frame → ℕ → CodeEnd
code_run code max zero m ms n = CodeOpen
code_run code max (suc steps) m ms n = code_then (code_step code max m ms n) (code_run code max steps)

-- a turn is entered: a value is handed to the frame that awaits it, or nothing to one that awaits none
abbrev pub code_enter : List FuncCode → Given → List Frame → CodeNext
code_enter code given [] = CodeNoStep
code_enter code Nothing (m ∷ ms) = not_take (fetch code m.func.0 m.address) (CodeGoes m ms 0)
code_enter code (GivenValue v) (m ∷ ms) = code_give code v (m ∷ ms) 0

-- the code's turn of at most max statements comes to this
abbrev pub CodeReaches : List FuncCode → ℕ → Given → List Frame → CodeEnd → Type 0
CodeReaches code max given frames end = (steps : ℕ) × (code_then (code_enter code given frames) (code_run code max steps) ≡ end)
