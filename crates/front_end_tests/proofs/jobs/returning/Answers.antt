use Rattle.std.proofs.Common.{◌≡◌, ℕ, zero, suc, List, [], ◌∷◌, Some, refl, subst, rules}
use Rattle.std.specs.Prelude.{slice_get}
use Rattle.sw_job.specs.declared.value.Ty.{Ty}
use Rattle.sw_job.specs.declared.value.Ty.TheVariants.{Void as VoidTy}
use Rattle.sw_job.specs.declared.instr.Instr.{Instr}
use Rattle.sw_job.specs.declared.instr.Instr.TheVariants.{ReturnVoid}
use Rattle.sw_job.specs.declared.code.FuncCode.{FuncCode}
use Rattle.sw_job.specs.Machine.{fetch}
use Rattle.sw_job.specs.Typed.{shape_at, Goes, Agrees, IsTyped}
use Rattle.front_end_tests.proofs.jobs.returning.Goals as goal

-- the one func, which only returns
abbrev returning : List FuncCode
returning = record { result = VoidTy; variables = []; instrs = ReturnVoid ∷ []; shapes = record { variables = 0; parts = [] } ∷ [] } ∷ []

entries : (f : ℕ) (func : FuncCode) → slice_get returning f ≡ Some func → Goes returning f 0 []
entries zero func e = (refl, refl)
entries (suc f) func e = absurd (cc)

within : (f p : ℕ) (types : List Ty) → shape_at returning f p ≡ Some types → (i : Instr) × (fetch returning f p ≡ Some i)
within zero zero types e = (ReturnVoid, refl)
within zero (suc p) types e = absurd (cc)
within (suc f) p types e = absurd (cc)

each : (f p : ℕ) (i : Instr) (types : List Ty) → fetch returning f p ≡ Some i → shape_at returning f p ≡ Some types → Agrees returning f p i types
each zero zero i types e shape = let is : ReturnVoid ≡ i = cc in subst (λ z. Agrees returning zero zero z types) is refl
each zero (suc p) i types e shape = absurd (cc)
each (suc f) p i types e shape = absurd (cc)

pub new-requires-3 : goal.new-requires-3
new-requires-3 c =
    let is : returning ≡ c.push-3.new.self = search rules in
    subst IsTyped is (record { entries = entries; within = within; each = each })
