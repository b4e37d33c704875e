-- When the operand types of code agree, and which starts are typed for it.
use Rattle.std.specs.Prelude.{◌≡◌, ℕ, ◌+◌, ◌-◌, ◌<◌, ◌≤◌, List, [], ◌∷◌, length, Option, Some, None, drop, slice_get, false, ◌++◌, reverse, take}
use Rattle.sw_job.specs.declared.value.Value.{Value}
use Rattle.sw_job.specs.declared.value.Value.TheVariants.{Int, Str, Void}
use Rattle.sw_job.specs.declared.value.Ty.{Ty}
use Rattle.sw_job.specs.declared.value.Ty.TheVariants.{Int as IntTy, Str as StrTy, Void as VoidTy}
use Rattle.sw_job.specs.declared.instr.Instr.{Instr}
use Rattle.sw_job.specs.declared.instr.Instr.TheVariants.{BeginStmt, PushInt, PushStr, Load, Add, Print, Take, Discard, ReturnVoid}
use Rattle.sw_job.specs.declared.turn.Operand.{Operand}
use Rattle.sw_job.specs.declared.turn.Operand.TheVariants.{Value as Operation}
use Rattle.sw_job.specs.declared.turn.Frame.{Frame}
use Rattle.sw_job.specs.declared.turn.Ask.TheVariants.{Print as AskPrint}
use Rattle.sw_job.specs.declared.turn.Exit.{Exit}
use Rattle.sw_job.specs.declared.turn.Exit.TheVariants.{Ask, Return, Trap, Slice}
use Rattle.sw_job.specs.declared.turn.Given.{Given}
use Rattle.sw_job.specs.declared.turn.Given.TheVariants.{Nothing, Value as GivenValue}
use Rattle.sw_job.specs.declared.code.FuncCode.{FuncCode}
use Rattle.sw_job.specs.declared.code.Shape.{Shape}
use Rattle.std.specs.Option.{option_map}
use Rattle.sw_job.specs.Machine.{fetch, is_take, CodeNext, CodeGoes, CodeStops, CodeNoStep, CodeStuck, CodeReaches, code_enter, code_step}

abbrev pub ty_of : Value → Ty
ty_of (Int n) = IntTy
ty_of (Str text) = StrTy
ty_of Void = VoidTy

abbrev pub types_of : List Operand → List Ty
types_of [] = []
types_of (Operation v ∷ operands) = ty_of v ∷ types_of operands

-- the operand types that a shape tells: the parts, and below them the variables, the newest first
abbrev pub types_in : List Ty → Shape → List Ty
types_in variables s = s.parts ++ reverse (take s.variables variables)

abbrev pub shape_in : Option FuncCode → ℕ → Option (List Ty)
shape_in None address = None
shape_in (Some f) address = option_map (types_in f.variables) (slice_get f.shapes address)

-- the operand types before the instruction at an address
abbrev pub shape_at : List FuncCode → ℕ → ℕ → Option (List Ty)
shape_at code func address = shape_in (slice_get code func) address

abbrev pub result_in : Option FuncCode → Ty
result_in None = VoidTy
result_in (Some f) = f.result

abbrev pub result_of : List FuncCode → ℕ → Ty
result_of code func = result_in (slice_get code func)

-- at this address a frame with operands of these types goes on
abbrev pub Goes : List FuncCode → ℕ → ℕ → List Ty → Type 0
Goes code f p types = (shape_at code f p ≡ Some types) × (is_take (fetch code f p) ≡ false)

-- at this address a frame with operands of these types awaits a value of the type t, and goes on with it
abbrev pub Waits : List FuncCode → ℕ → ℕ → Ty → List Ty → Type 0
Waits code f p t types = (fetch code f p ≡ Some Take) × (shape_at code f p ≡ Some types) × Goes code f (p + 1) (t ∷ types)

abbrev pub IsPrintable : Ty → Type 0
IsPrintable IntTy = Unit {0}
IsPrintable StrTy = Unit {0}
IsPrintable VoidTy = ⊥

-- what an instruction needs of the operand types, and what they are where it leads
abbrev pub Agrees : List FuncCode → ℕ → ℕ → Instr → List Ty → Type 0
Agrees code f p BeginStmt types = Goes code f (p + 1) types
Agrees code f p (PushInt n) types = Goes code f (p + 1) (IntTy ∷ types)
Agrees code f p (PushStr text) types = Goes code f (p + 1) (StrTy ∷ types)
Agrees code f p (Load depth) types = (t : Ty) × (slice_get types depth ≡ Some t) × Goes code f (p + 1) (t ∷ types)
Agrees code f p Add types = (rest : List Ty) × (types ≡ IntTy ∷ IntTy ∷ rest) × Goes code f (p + 1) (IntTy ∷ rest)
Agrees code f p Print types = (t : Ty) × (rest : List Ty) × (types ≡ t ∷ rest) × IsPrintable t × Waits code f (p + 1) VoidTy rest
Agrees code f p Take types = Unit {0}
Agrees code f p (Discard count) types = (count ≤ length types) × Goes code f (p + 1) (drop count types)
Agrees code f p ReturnVoid types = result_of code f ≡ VoidTy

-- each func begins without operands, each address with types has an instruction, and each instruction agrees
pub record IsTyped (code : List FuncCode) : Type 0 where
  pub entries : (f : ℕ) (func : FuncCode) → slice_get code f ≡ Some func → Goes code f 0 []
  pub within : (f p : ℕ) (types : List Ty) → shape_at code f p ≡ Some types → (i : Instr) × (fetch code f p ≡ Some i)
  pub each : (f p : ℕ) (i : Instr) (types : List Ty) → fetch code f p ≡ Some i → shape_at code f p ≡ Some types → Agrees code f p i types

-- frames of which each awaits what the one above it returns, the first a value of the type t
abbrev pub TypedCallers : List FuncCode → Ty → List Frame → Type 0
TypedCallers code t [] = Unit {0}
TypedCallers code t (m ∷ ms) = Waits code m.func.0 m.address t (types_of m.operands) × TypedCallers code (result_of code m.func.0) ms

-- a frame that goes on, over its callers
abbrev pub TypedFrames : List FuncCode → Frame → List Frame → Type 0
TypedFrames code m ms = Goes code m.func.0 m.address (types_of m.operands) × TypedCallers code (result_of code m.func.0) ms

-- a start that is typed for the code: its frames go on, or await a value of the type that is given
abbrev pub TypedStart : List FuncCode → Given → List Frame → Type 0
TypedStart code given [] = ⊥
TypedStart code Nothing (m ∷ ms) = TypedFrames code m ms
TypedStart code (GivenValue v) (m ∷ ms) = TypedCallers code (ty_of v) (m ∷ ms)

-- what is left after an exit is typed for what the job is given next
abbrev pub TypedLeft : List FuncCode → Exit → List Frame → Type 0
TypedLeft code (Ask (AskPrint text)) frames = TypedStart code (GivenValue Void) frames
TypedLeft code (Return v) frames = frames ≡ []
TypedLeft code (Trap kind) frames = frames ≡ []
TypedLeft code Slice frames = TypedStart code Nothing frames

-- code is never stuck from a start that is typed for it
abbrev pub NeverStuck : List FuncCode → Type 0
NeverStuck code = (given : Given) (max : ℕ) (frames : List Frame) → TypedStart code given frames → CodeReaches code max given frames CodeStuck → ⊥

-- how many instructions a func has
abbrev pub size_of : Option FuncCode → ℕ
size_of None = 0
size_of (Some f) = length f.instrs

-- how many instructions of a func stand from an address on
abbrev pub ahead : List FuncCode → ℕ → ℕ → ℕ
ahead code f p = size_of (slice_get code f) - p

-- how many instructions are ahead of all frames: each instruction leaves fewer
abbrev pub all_ahead : List FuncCode → List Frame → ℕ
all_ahead code [] = 0
all_ahead code (m ∷ ms) = ahead code m.func.0 m.address + all_ahead code ms

-- an exit leaves fewer instructions ahead; only a slice leaves as many, once max statements were begun
abbrev pub LeavesFewer : ℕ → ℕ → Exit → ℕ → ℕ → Type 0
LeavesFewer max begun (Ask ask) before after = after < before
LeavesFewer max begun (Return v) before after = after < before
LeavesFewer max begun (Trap kind) before after = after < before
LeavesFewer max begun Slice before after = (after ≡ before) × (max ≤ begun)

-- a step that goes on: the instructions that were and are ahead, and the statements that were and are begun
pub record Advances (max before after begun begun' : ℕ) : Type 0 where
  pub fewer : after < before
  pub counts : begun' ≤ begun + 1
  pub within : begun' ≤ max

-- what a step leads to where so many instructions were ahead, and of max statements so many begun: typed
-- frames or a typed rest, with fewer instructions ahead, and always something
abbrev pub Safe : List FuncCode → ℕ → ℕ → ℕ → CodeNext → Type 0
Safe code max before begun (CodeGoes m ms begun') = TypedFrames code m ms × Advances max before (all_ahead code (m ∷ ms)) begun begun'
Safe code max before begun (CodeStops exit ms begun') = TypedLeft code exit ms × LeavesFewer max begun exit before (all_ahead code ms) × (begun' ≡ begun)
Safe code max before begun CodeNoStep = ⊥

-- each step of typed frames is safe
abbrev pub EachStepIsSafe : List FuncCode → Type 0
EachStepIsSafe code = (max : ℕ) (m : Frame) (ms : List Frame) (begun : ℕ) → begun ≤ max → TypedFrames code m ms → Safe code max (all_ahead code (m ∷ ms)) begun (code_step code max m ms begun)

-- what a turn is entered with, from a start with so many instructions ahead of its frames: typed frames or a typed rest,
-- with no more instructions ahead, and always something
abbrev pub SafeEntry : List FuncCode → ℕ → CodeNext → Type 0
SafeEntry code before (CodeGoes m ms begun) = TypedFrames code m ms × (all_ahead code (m ∷ ms) ≤ before) × (begun ≡ 0)
SafeEntry code before (CodeStops exit ms begun) = TypedLeft code exit ms × (all_ahead code ms < before) × (begun ≡ 0)
SafeEntry code before CodeNoStep = ⊥

-- each typed start is entered safely
abbrev pub EachEntryIsSafe : List FuncCode → Type 0
EachEntryIsSafe code = (given : Given) (frames : List Frame) → TypedStart code given frames → SafeEntry code (all_ahead code frames) (code_enter code given frames)
