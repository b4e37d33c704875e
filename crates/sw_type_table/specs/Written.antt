-- Which type a written type is, by what the file and the own type declare; none where it is no type: a protocol without
-- `any`, or `any` before something else.
use Rattle.std.specs.Prelude.{ℕ, suc, Bool, ◌||◌, cond, Option, Some, None, List, [], ◌∷◌, ◌++◌, codes}
use Rattle.std.specs.Option.{option_map}
use Rattle.sw_base.specs.declared.ids.TypeNo.{TypeNo}
use Rattle.sw_sight.specs.InSight.{Text, same}
use Rattle.sw_tree.specs.declared.types.«Type».{«Type» as TypeTree, fold-Type}
use Rattle.sw_tree.specs.declared.types.«Type».TheOpen.{Type-F}
use Rattle.sw_value.specs.declared.ty.Mark.{Mark}
use Rattle.sw_value.specs.declared.ty.Mark.TheVariants as mark
use Rattle.sw_value.specs.declared.ty.Base.{Base}
use Rattle.sw_value.specs.declared.ty.Base.TheVariants as base
use Rattle.sw_value.specs.declared.ty.Ty.{Ty}
use Rattle.sw_declared.specs.declared.names.Form.{Form}
use Rattle.sw_declared.specs.declared.names.Form.TheVariants.{Struct, Enum, Protocol, Actor, DistributedActor}
use Rattle.sw_declared.specs.declared.names.DeclaredType.{DeclaredType}
use Rattle.sw_declared.specs.declared.names.Member.{Member}
use Rattle.sw_declared.specs.declared.names.Names.{Names}
use Rattle.sw_declared.specs.Names.{has_alias}
use Rattle.sw_declared.specs.Members.{has_type_member}

-- the first declared type of a name, with its number, where the types are numbered from here
unfoldable pub find_type : ℕ → List DeclaredType → Text → Option (TypeNo × Form)
find_type n [] x = None
find_type n (t ∷ types) x = cond (same t.name x) (Some (record { 0 = n }, t.form)) (find_type (suc n) types x)

abbrev pub type_named : Names → Text → Option (TypeNo × Form)
type_named names x = find_type 1 names.types x

-- a type that is declared
abbrev pub declared_base : TypeNo → Form → Option Base
declared_base number Struct = Some (base.Struct number)
declared_base number Enum = Some (base.Enum number)
declared_base number Protocol = None
declared_base number Actor = Some (base.Plain number)
declared_base number DistributedActor = Some (base.Distributed number)

-- a type that is built in; `DistributedCallError` has the number 0
abbrev pub built_in_base : Text → Option Base
built_in_base x =
    cond (same (codes "Int") x) (Some base.Int)
    (cond (same (codes "Bool") x) (Some base.Bool)
    (cond (same (codes "String") x) (Some base.Str)
    (cond (same (codes "Void") x) (Some base.Void)
    (cond (same (codes "ActorID") x) (Some base.Id)
    (cond (same (codes "NodeSystem") x) (Some base.System)
    (cond (same (codes "DistributedCallError") x) (Some (base.Enum (record { 0 = 0 }))) None))))))

abbrev pub base_or_built_in : Text → Option (TypeNo × Form) → Option Base
base_or_built_in x (Some (number, form)) = declared_base number form
base_or_built_in x None = built_in_base x

-- An alias, or a type of the own type, hides what has its name in the file.
abbrev pub is_hidden : Names → List Member → Text → Bool
is_hidden names own x = has_type_member own x || has_alias names.aliases x

-- A name is looked up in the own type, then in the file, then among what is built in. An alias is one of the actor system.
abbrev pub named_base : Names → List Member → Text → Option Base
named_base names own x =
    cond (is_hidden names own x) (Some base.System) (base_or_built_in x (type_named names x))

-- `any` of a declared protocol, or of `Error`
abbrev pub any_base : Text → Option (TypeNo × Form) → Option Base
any_base x (Some (number, Protocol)) = Some (base.Any number)
any_base x (Some (number, form)) = None
any_base x None = cond (same (codes "Error") x) (Some base.AnyError) None

abbrev pub named_any : Names → List Member → Text → Option Base
named_any names own x = cond (is_hidden names own x) None (any_base x (type_named names x))

abbrev pub bare : Base → Ty
bare b = record { marks = []; base = b }

-- these marks around a type
abbrev pub surround : List Mark → Ty → Ty
surround marks t = record { marks = marks ++ t.marks; base = t.base }

abbrev pub marked : Mark → Ty → Ty
marked m = surround (m ∷ [])

-- What stands after a `.` is an identity: `ID` of a distributed actor, or `ActorID` of the actor system.
abbrev pub type_level : Names → List Member → Type-F (Option Ty) → Option Ty
type_level names own (Type-F.Name name) = option_map bare (named_base names own name.text)
type_level names own (Type-F.Member outer name) = Some (bare base.Id)
type_level names own (Type-F.Array at t) = option_map (marked mark.Array) t
type_level names own (Type-F.Any at name) = option_map bare (named_any names own name.text)
type_level names own (Type-F.Void at) = Some (bare base.Void)
type_level names own (Type-F.Optional t) = option_map (marked mark.Optional) t

abbrev pub written : Names → List Member → TypeTree → Option Ty
written names own = fold-Type (Option Ty) (type_level names own)
