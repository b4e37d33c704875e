-- What the language has without a declaration: funcs, members of built-in types and of distributed actors, and the type of the
-- errors of calls.
use Rattle.std.specs.Prelude.{ℕ, zero, Bool, true, false, Option, Some, None, List, [], ◌∷◌, codes}
use Rattle.sw_base.specs.declared.ids.TypeNo.{TypeNo}
use Rattle.sw_sight.specs.InSight.{Text}
use Rattle.sw_value.specs.declared.ty.Base.{Base}
use Rattle.sw_value.specs.declared.ty.Base.TheVariants as base
use Rattle.sw_value.specs.declared.ty.Ty.{Ty}
use Rattle.sw_typed.specs.declared.entity.Entity.{Entity}
use Rattle.sw_typed.specs.declared.entity.Entity.TheVariants as entity
use Rattle.sw_typed.specs.declared.entity.BuiltIn.{BuiltIn}
use Rattle.sw_typed.specs.declared.entity.BuiltIn.TheVariants as built_in
use Rattle.sw_declared.specs.Members.{Label}
use Rattle.sw_declared.specs.declared.names.Form.{Form}
use Rattle.sw_declared.specs.declared.names.Form.TheVariants as form
use Rattle.sw_type_table.specs.declared.entry.CaseEntry.{CaseEntry}
use Rattle.sw_members.specs.declared.declaration.Declaration.{Declaration}
use Rattle.sw_typing.specs.Types.{bare}

-- ---- declarations

-- what stands as a value of this type
abbrev pub value : Text → Bool → Entity → Option Ty → Bool → Declaration
value name is_static entity gives is_var = record {
  name = name;
  labels = None;
  is_static = is_static;
  entity = entity;
  takes = [];
  gives = gives;
  is_mutating = false;
  is_var = is_var;
}

-- what is called with these labels and values of these types, and gives one of that type
abbrev pub callable : Text → Bool → Entity → List Label → List (Option Ty) → Option Ty → Bool → Declaration
callable name is_static entity labels takes gives is_mutating = record {
  name = name;
  labels = Some labels;
  is_static = is_static;
  entity = entity;
  takes = takes;
  gives = gives;
  is_mutating = is_mutating;
  is_var = false;
}

-- ---- what is built in

abbrev pub built_in_value : Text → Bool → BuiltIn → Base → Declaration
built_in_value name is_static b gives = value name is_static (entity.BuiltIn b) (Some (bare gives)) false

abbrev pub built_in_func : Text → BuiltIn → Option Ty → Base → Bool → Declaration
built_in_func name b takes gives is_mutating =
    callable name false (entity.BuiltIn b) (None ∷ []) (takes ∷ []) (Some (bare gives)) is_mutating

-- `print(_:)`, of a value of any type
abbrev pub built_in_funcs : List Declaration
built_in_funcs = built_in_func (codes "print") built_in.Print None base.Void false ∷ []

abbrev pub of_int : List Declaration
of_int =
    built_in_value (codes "max") true built_in.GreatestInt base.Int
    ∷ built_in_value (codes "min") true built_in.LeastInt base.Int
    ∷ []

abbrev pub of_string : List Declaration
of_string = built_in_value (codes "isEmpty") false built_in.StringIsEmpty base.Bool ∷ []

-- `append(_:)` takes an element, whose type is told by the array on which it is called.
abbrev pub of_array : List Declaration
of_array =
    built_in_value (codes "count") false built_in.Count base.Int
    ∷ built_in_value (codes "isEmpty") false built_in.ArrayIsEmpty base.Bool
    ∷ built_in_func (codes "append") built_in.Append None base.Void true
    ∷ []

-- `ActorID(node:name:)`
abbrev pub of_id : List Declaration
of_id =
    callable (codes "init") true (entity.BuiltIn built_in.ActorId) (Some (codes "node") ∷ Some (codes "name") ∷ [])
    (Some (bare base.Int) ∷ Some (bare base.Str) ∷ []) (Some (bare base.Id)) false
    ∷ []

abbrev pub of_system : List Declaration
of_system =
    built_in_value (codes "node") false built_in.Node base.Int
    ∷ built_in_func (codes "named") built_in.Named (Some (bare base.Str)) base.System false
    ∷ built_in_func (codes "resignID") built_in.ResignId (Some (bare base.Id)) base.Void false
    ∷ []

-- the static `resolve(id:using:)`
abbrev pub resolve : TypeNo → Declaration
resolve owner =
    callable (codes "resolve") true (entity.BuiltIn (built_in.Resolve owner)) (Some (codes "id") ∷ Some (codes "using") ∷ [])
    (Some (bare base.Id) ∷ Some (bare base.System) ∷ []) (Some (bare (base.Distributed owner))) false

abbrev pub of_distributed : TypeNo → List Declaration
of_distributed owner =
    built_in_value (codes "id") false built_in.Id base.Id
    ∷ built_in_value (codes "actorSystem") false built_in.ActorSystem base.System
    ∷ resolve owner
    ∷ []

abbrev pub of_form : TypeNo → Form → List Declaration
of_form owner form.DistributedActor = of_distributed owner
of_form owner form = []

-- ---- `DistributedCallError`, the type with the number 0

abbrev pub bare_case : Text → CaseEntry
bare_case name = record { name = name; labels = []; types = [] }

abbrev pub call_error_cases : List CaseEntry
call_error_cases =
    bare_case (codes "unreachable")
    ∷ bare_case (codes "peerRestarted")
    ∷ bare_case (codes "resigned")
    ∷ bare_case (codes "wrongType")
    ∷ []
