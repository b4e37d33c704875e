-- The code follows the tree: variables.
use Rattle.std.proofs.Common.{◌≡◌, ℕ, suc, ◌+◌, List, [], ◌∷◌, ◌++◌, Option, Some, None, refl, sym, ap, subst, arith, Bool, true, false}
use Rattle.std.specs.Prelude.{nat_eq, slice_get, if◌then◌else◌}
use Rattle.std.specs.Cmp.Lexicographic.{pointwise}
use Rattle.sw_job.specs.declared.value.Value.{Value}
use Rattle.sw_job.specs.declared.turn.Operand.{Operand}
use Rattle.sw_job.specs.declared.turn.Operand.TheVariants.{Value as Operation}
use Rattle.sw_job.specs.declared.code.FuncCode.{FuncCode}
use Rattle.sw_job.specs.Machine.{CodeNext, on_operand}
use Rattle.sw_thin.specs.Meaning.{Held, Var, Part, TreeNext, TreeNoStep, lookup, with_value}
use Rattle.sw_thin.specs.Lowering.{depth_of}
use Rattle.sw_thin.proofs.Track.{scope, vals}
use Rattle.sw_thin.proofs.Follow.{Makes}

get_next : {A : Type 0} (x : A) (xs : List A) (n : ℕ) → slice_get (x ∷ xs) (n + 1) ≡ slice_get xs n
get_next x xs n = let e : n + 1 ≡ suc n = omega arith in ap (λ m. slice_get (x ∷ xs) m) e

-- what the tree finds, the code finds
abbrev pub Found : Option Value → Option Operand → Type 0
Found None o = o ≡ None
Found (Some v) o = o ≡ Some (Operation v)

pub lookup_found : (x : List ℕ) (h : List Held) → Found (lookup x h) (slice_get (vals h ++ []) (depth_of x (scope h ++ [])))
lookup_found x [] = refl
lookup_found x (Part v ∷ h) = subst (λ o. Found (lookup x h) o) (sym (get_next (Operation v) (vals h ++ []) (depth_of x (scope h ++ [])))) (lookup_found x h)
lookup_found x (Var y v ∷ h) = go (pointwise nat_eq x y) (lookup_found x h)
  where
    go : (b : Bool) → Found (lookup x h) (slice_get (vals h ++ []) (depth_of x (scope h ++ []))) → Found (if b then Some v else lookup x h) (slice_get (Operation v ∷ (vals h ++ [])) (if b then 0 else depth_of x (scope h ++ []) + 1))
    go true found = refl
    go false found = subst (λ o. Found (lookup x h) o) (sym (get_next (Operation v) (vals h ++ []) (depth_of x (scope h ++ [])))) found

-- the value of a variable
pub value_makes : (code : List FuncCode) (max : ℕ) (o : Option Value) (operand : Option Operand) (go : Value → TreeNext) (code_go : Value → CodeNext) → Found o operand → ((v : Value) → Makes code max (go v) (code_go v)) → Makes code max (with_value o go) (on_operand operand code_go)
value_makes code max None operand go code_go found w = subst (λ z. Makes code max TreeNoStep (on_operand z code_go)) (sym found) tt
value_makes code max (Some v) operand go code_go found w = subst (λ z. Makes code max (go v) (on_operand z code_go)) (sym found) (w v)
