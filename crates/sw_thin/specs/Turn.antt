-- What the job machine answers, one instruction at a time.
use Rattle.std.specs.Prelude.{◌≡◌, ℕ, ◌+◌, ◌<◌, ◌≤◌, List, ◌∷◌}
use Rattle.sw_job.specs.declared.turn.Frame.{Frame}
use Rattle.sw_job.specs.declared.turn.Given.{Given}
use Rattle.sw_job.specs.declared.turn.TurnEnd.{TurnEnd}
use Rattle.sw_job.specs.declared.code.FuncCode.{FuncCode}
use Rattle.sw_job.specs.Machine.{CodeNext, CodeGoes, CodeStops, CodeNoStep, CodeEnds, code_run, code_step, code_enter}
use Rattle.sw_job.specs.Values.{Outcome as CodeOutcome, Gives as CodeGives, Traps as CodeTraps, Wrong as CodeWrong}
use Rattle.sw_job.specs.Typed.{TypedLeft, all_ahead, Safe, SafeEntry}
use Rattle.sw_thin.specs.declared.machine.Next.{Next}
use Rattle.sw_thin.specs.declared.machine.Next.TheVariants.{Goes, Stops, NoStep}
use Rattle.sw_thin.specs.declared.machine.Outcome.{Outcome}
use Rattle.sw_thin.specs.declared.machine.Outcome.TheVariants.{Gives, Traps, Wrong}

-- what an operator's answer says
abbrev pub outcome_of : Outcome → CodeOutcome
outcome_of (Gives v) = CodeGives v
outcome_of (Traps kind) = CodeTraps kind
outcome_of Wrong = CodeWrong

-- what an answer says, with the frames that are below or left
abbrev pub next_of : Next → List Frame → CodeNext
next_of (Goes top begun) frames = CodeGoes top frames begun
next_of (Stops exit begun) frames = CodeStops exit frames begun
next_of NoStep frames = CodeNoStep

-- the answer, and the frames that are left, are those of the code
abbrev pub IsNext : CodeNext → Next → List Frame → Type 0
IsNext next answer frames = next ≡ next_of answer frames

-- a run from typed frames, and where it ended
pub record RunEnds (code : List FuncCode) (max : ℕ) (m : Frame) (ms : List Frame) (end : TurnEnd) : Type 0 where
  pub run : (steps : ℕ) × (code_run code max steps m ms 0 ≡ CodeEnds end.exit end.frames end.begun)
  pub left : TypedLeft code end.exit end.frames
  pub nearer : all_ahead code end.frames < all_ahead code (m ∷ ms)
  pub counted : end.begun ≤ max
  pub spent : end.begun + all_ahead code end.frames ≤ all_ahead code (m ∷ ms)

-- one step of typed frames
pub record StepTo (code : List FuncCode) (max : ℕ) (m : Frame) (ms : List Frame) (begun : ℕ) (answer : Next) (frames : List Frame) : Type 0 where
  pub step : code_step code max m ms begun ≡ next_of answer frames
  pub safe : Safe code max (all_ahead code (m ∷ ms)) begun (next_of answer frames)

-- a turn entered from a typed start
pub record EnterTo (code : List FuncCode) (given : Given) (start : List Frame) (answer : Next) (frames : List Frame) : Type 0 where
  pub enter : code_enter code given start ≡ next_of answer frames
  pub safe : SafeEntry code (all_ahead code start) (next_of answer frames)
