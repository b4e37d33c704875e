-- What the tables of names tell: which names stand in them.
use Rattle.std.specs.Prelude.{ℕ, zero, suc, Bool, true, false, ◌&&◌, cond, List, [], ◌∷◌, codes}
use Rattle.std.specs.List.{list_any}
use Rattle.sw_sight.specs.InSight.{Text, same}
use Rattle.sw_declared.specs.declared.names.Inner.{Inner}
use Rattle.sw_declared.specs.declared.names.Inner.TheVariants.{Nothing, Id, ActorId}
use Rattle.sw_declared.specs.declared.names.Form.{Form}
use Rattle.sw_declared.specs.declared.names.Form.TheVariants.{Struct, Enum, Protocol, Actor, DistributedActor}
use Rattle.sw_declared.specs.declared.names.DeclaredType.{DeclaredType}
use Rattle.sw_declared.specs.declared.names.Alias.{Alias}
use Rattle.sw_declared.specs.declared.names.DeclaredFunc.{DeclaredFunc}
use Rattle.sw_declared.specs.declared.names.FuncKind.{FuncKind}
use Rattle.sw_declared.specs.declared.names.FuncKind.TheVariants.{TopLevel, Method, Getter, Initializer, Synthesized}

-- the type that may stand after the `.`
unfoldable pub names_inner : Inner → Text → Bool
names_inner Nothing y = false
names_inner Id y = same (codes "ID") y
names_inner ActorId y = same (codes "ActorID") y

-- what may stand after the `.` of a declared type
unfoldable pub inner_of : Form → Inner
inner_of Struct = Nothing
inner_of Enum = Nothing
inner_of Protocol = Nothing
inner_of Actor = Nothing
inner_of DistributedActor = Id

-- a declared type has this name
abbrev pub has_type : List DeclaredType → Text → Bool
has_type types x = list_any (λ t. same t.name x) types

-- the number of what is one place later, where it is there
unfoldable pub one_later : ℕ → ℕ
one_later zero = zero
one_later (suc n) = suc (suc n)

-- The number of the first declared type of this name, from 1; 0 where none has it.
unfoldable pub number_of : List DeclaredType → Text → ℕ
number_of [] x = zero
number_of (t ∷ types) x = cond (same t.name x) (suc zero) (one_later (number_of types x))

-- after the name of a declared type this one may stand
abbrev pub has_type_inner : List DeclaredType → Text → Text → Bool
has_type_inner types x y = list_any (λ t. same t.name x && names_inner (inner_of t.form) y) types

abbrev pub has_alias : List Alias → Text → Bool
has_alias aliases x = list_any (λ a. same a.name x) aliases

abbrev pub has_alias_inner : List Alias → Text → Text → Bool
has_alias_inner aliases x y = list_any (λ a. same a.name x && names_inner a.inner y) aliases

unfoldable pub is_top_level : FuncKind → Bool
is_top_level TopLevel = true
is_top_level Method = false
is_top_level Getter = false
is_top_level Initializer = false
is_top_level Synthesized = false

-- a func of the file has this name
abbrev pub has_func : List DeclaredFunc → Text → Bool
has_func funcs x = list_any (λ f. is_top_level f.kind && same f.name x) funcs
