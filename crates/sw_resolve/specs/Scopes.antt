-- What an expression sees: the own type and its members, and which names are those of types.
use Rattle.std.specs.Prelude.{Bool, ◌||◌, ◌&&◌, not, cond, Option, Some, None, is_some, List, []}
use Rattle.std.specs.Option.{option_map}
use Rattle.sw_sight.specs.InSight.{Text}
use Rattle.sw_value.specs.declared.ty.Base.{Base}
use Rattle.sw_value.specs.declared.ty.Ty.{Ty}
use Rattle.sw_declared.specs.Members.{has_type_member}
use Rattle.sw_type_table.specs.Written.{named_base}
use Rattle.sw_scope.specs.Around as around
use Rattle.sw_members.specs.declared.declaration.Declaration.{Declaration}
use Rattle.sw_members.specs.declared.declaration.Side.{Side}
use Rattle.sw_members.specs.declared.declaration.Side.TheVariants.{Both, Static}
use Rattle.sw_members.specs.Found.{any_named}
use Rattle.sw_locals.specs.InBody.{local_named}
use Rattle.sw_typing.specs.declared.facts.Facts.{Facts}
use Rattle.sw_typing.specs.Types.{bare}
use Rattle.sw_typing.specs.Facts.{base_members}
use Rattle.sw_resolve.specs.declared.scope.Scope.{Scope}

-- the names of the file and of the own type, as the pass of names has them
abbrev pub around_of : Scope → around.Around
around_of scope = record { names = scope.names.now; own = scope.inside.now; has_instance = scope.has_instance }

-- the type of `self`
unfoldable pub own_type : Scope → Option Ty
own_type scope = option_map (λ b. bare b) scope.own

-- the members of a type that no mark surrounds, where there is one
unfoldable pub members_at : Facts → Option Base → List Declaration
members_at known None = []
members_at known (Some b) = base_members known b

unfoldable pub own_members : Scope → List Declaration
own_members scope = members_at scope.known.now scope.own

-- Where there is no instance, a name stands for a static member.
unfoldable pub own_side : Scope → Side
own_side scope = cond scope.has_instance Both Static

-- a variable of this name is in sight
unfoldable pub is_local : Scope → Text → Bool
is_local scope x = is_some (local_named x scope.locals.now)

-- a member of the own type has the name, and hides what has it in the file
unfoldable pub is_own : Scope → Text → Bool
is_own scope x = any_named Both x (own_members scope)

-- the name is a type's
unfoldable pub is_type : Scope → Text → Bool
is_type scope x = around.is_type (around_of scope) x

-- something has the name in the own type or in the file, or is built in
unfoldable pub is_declared : Scope → Text → Bool
is_declared scope x = around.is_declared (around_of scope) x

-- Before a `.` the name means the type, unless a variable or a member of the own type has it. Where an alias of the own type
-- and a func of it have the name, it means the alias.
unfoldable pub names_type : Scope → Text → Bool
names_type scope x =
    not (is_local scope x)
    && ((has_type_member scope.inside.now x || not (is_own scope x)) && is_type scope x)

-- the type of this name; none where it is a protocol's, or no type's
unfoldable pub type_named : Scope → Text → Option Base
type_named scope x = named_base scope.names.now scope.inside.now x
