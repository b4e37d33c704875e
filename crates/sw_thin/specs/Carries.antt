-- When code carries a program: from each typed start it does, turn by turn, what the tree does.
use Rattle.std.specs.Prelude.{◌≡◌, ℕ, zero, suc, ◌≤◌, List, [], ◌∷◌, Some, slice_get}
use Rattle.std.specs.Option.{option_map}
use Rattle.sw_thin.specs.Program.{Func}
use Rattle.sw_job.specs.declared.value.Ty.TheVariants.{Void as VoidTy}
use Rattle.sw_job.specs.declared.turn.Frame.{Frame}
use Rattle.sw_job.specs.declared.turn.Exit.{Exit}
use Rattle.sw_job.specs.declared.turn.Given.{Given}
use Rattle.sw_job.specs.declared.code.FuncCode.{FuncCode}
use Rattle.sw_job.specs.Machine.{frame, CodeEnds, CodeReaches}
use Rattle.sw_job.specs.Typed.{TypedStart}
use Rattle.sw_thin.specs.Meaning.{TreeFrame, entry, TreeEnds, TreeReaches}

-- a turn of the code and a turn of the tree reach the same exit with as many statements begun, and what is
-- left of both is alike
pub record SameTurn (code : List FuncCode) (alike : List Frame → List TreeFrame → Type 0) (given : Given) (max : ℕ) (frames : List Frame) (fs : List TreeFrame) : Type 0 where
  pub exit : Exit
  pub frames_left : List Frame
  pub tree_left : List TreeFrame
  pub begun : ℕ
  pub in_code : CodeReaches code max given frames (CodeEnds exit frames_left begun)
  pub in_tree : TreeReaches max given fs (TreeEnds exit tree_left begun)
  pub still_alike : alike frames_left tree_left

-- frames of the code and frames of the tree are alike for so many turns, whatever is given and however many
-- statements may begin
abbrev pub Alike : List FuncCode → ℕ → List Frame → List TreeFrame → Type 0
Alike code zero frames fs = Unit {0}
Alike code (suc turns) frames fs =
    (given : Given) (max : ℕ) → TypedStart code given frames → 1 ≤ max → SameTurn code (Alike code turns) given max frames fs

-- the code has the program's funcs under their numbers, each of which returns nothing, and whose first frame is alike to
-- that of its body
pub record Carries (funcs : List Func) (code : List FuncCode) : Type 0 where
  pub results : (f : ℕ) → option_map (λ c. c.result) (slice_get code f) ≡ option_map (λ d. VoidTy) (slice_get funcs f)
  pub bodies : (f : ℕ) (func : Func) → slice_get funcs f ≡ Some func → (turns : ℕ) → Alike code turns (frame f 0 [] ∷ []) (entry func ∷ [])
