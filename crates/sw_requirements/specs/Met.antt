-- When a requirement of a protocol is met, by the funcs and the other members of the type that conforms.
--
-- A func requirement is met by a func of the type with the same name, the same labels in order, the same types of parameters, the same
-- type of result and the same static-ness, that throws, is async or is mutating only where the requirement is. A property
-- requirement is met by a property, stored or computed, that is not static, of that name and exactly that type. Nothing else
-- meets a requirement.
use Rattle.std.specs.Prelude.{Bool, true, false, ◌&&◌, ◌||◌, not, Option, Some, None, List}
use Rattle.std.specs.List.{list_any}
use Rattle.std.specs.Cmp.Lexicographic.{pointwise}
use Rattle.sw_sight.specs.InSight.{Text, same}
use Rattle.sw_value.specs.declared.ty.Ty.{Ty}
use Rattle.sw_typed.specs.declared.entity.Entity.{Entity}
use Rattle.sw_typed.specs.declared.entity.Entity.TheVariants as entity
use Rattle.sw_declared.specs.Members.{same_labels}
use Rattle.sw_type_table.specs.declared.entry.Signature.{Signature}
use Rattle.sw_type_table.specs.declared.entry.Requirement.{Requirement}
use Rattle.sw_type_table.specs.declared.entry.Requirement.TheVariants as requirement
use Rattle.sw_members.specs.declared.declaration.Declaration.{Declaration}
use Rattle.sw_typing.specs.Types as types

-- ---- the same type

-- Where there is no type, another rule is broken or nothing could be inferred: a type that is not there breaks no rule.
abbrev pub same_type : Option Ty → Option Ty → Bool
same_type None u = true
same_type (Some t) None = true
same_type (Some t) (Some u) = types.same_type t u

-- as many, and each the same as the other in its place
abbrev pub same_types : List (Option Ty) → List (Option Ty) → Bool
same_types = pointwise same_type

-- ---- a func requirement

abbrev pub same_truth : Bool → Bool → Bool
same_truth true b = b
same_truth false b = not b

-- a func is so only where it may be
abbrev pub only_where : Bool → Bool → Bool
only_where may is = may || not is

-- this func meets what is required
abbrev pub meets : Signature → Signature → Bool
meets func required =
    same func.name required.name
    && (same_labels func.labels required.labels
    && (same_types func.types required.types
    && (same_type func.result required.result
    && (same_truth func.is_static required.is_static
    && (only_where required.throws func.throws
    && (only_where required.is_async func.is_async
    && only_where required.is_mutating func.is_mutating))))))

-- ---- a property requirement

-- stored or computed
abbrev pub is_property : Entity → Bool
is_property (entity.Func number) = false
is_property (entity.Initializer number) = false
is_property (entity.Getter number) = true
is_property (entity.Stored owner number binding) = true
is_property (entity.Case owner number) = false
is_property (entity.Requirement owner number) = false
is_property (entity.BuiltIn b) = false

-- this member is a property of that name and type, of the values of the type that conforms
abbrev pub is_required : Text → Option Ty → Declaration → Bool
is_required name t member = is_property member.entity && (not member.is_static && (same member.name name && same_type member.gives t))

-- ---- a requirement, by the funcs of a type as they are written, and its members with what is known of them

abbrev pub is_met : List Signature → List Declaration → Requirement → Bool
is_met funcs members (requirement.Func required) = list_any (λ func. meets func required) funcs
is_met funcs members (requirement.Property name t) = list_any (is_required name t) members
