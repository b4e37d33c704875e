-- Numbers by name that tell of the items of a table. No public clause cites this module.
use Rattle.std.specs.Prelude.{◌≡◌, ℕ, Bool, true, false, ◌&&◌, Some, None, List, [], nat_lt}
use Rattle.std.specs.List.{list_any}
use Rattle.sw_sight.specs.InSight.{Text, same}
use Rattle.sw_sight.specs.Levels.{Entries, level}
use Rattle.sw_declared.specs.declared.names.Inner.{Inner}
use Rattle.sw_declared.specs.declared.names.Inner.TheVariants.{Nothing, Id, ActorId}
use Rattle.sw_declared.specs.declared.names.Form.{Form}
use Rattle.sw_declared.specs.declared.names.Form.TheVariants.{Struct, Enum, Protocol, Actor, DistributedActor}
use Rattle.sw_declared.specs.declared.names.MemberKind.{MemberKind}
use Rattle.sw_declared.specs.declared.names.MemberKind.TheVariants as kind
use Rattle.sw_declared.specs.declared.names.FuncKind.{FuncKind}
use Rattle.sw_declared.specs.declared.names.FuncKind.TheVariants.{TopLevel, Method, Getter, Initializer, Synthesized}
use Rattle.sw_declared.specs.declared.names.DeclaredType.{DeclaredType}
use Rattle.sw_declared.specs.declared.names.Alias.{Alias}
use Rattle.sw_declared.specs.declared.names.DeclaredFunc.{DeclaredFunc}
use Rattle.sw_declared.specs.Names.{number_of}
use Rattle.sw_declared.specs.Members.{Called}
use Rattle.sw_declared.specs.Spelling.{spelled}

-- The number of a key is the greatest rank of the items that have it, 0 where none has.
abbrev pub IsRanked : {A : Type 0} → (A → Text) → (A → ℕ) → List A → Entries → Type 0
IsRanked key rank items entries = (x : Text) (n : ℕ) → nat_lt n (level x entries) ≡ list_any (λ t. same (key t) x && nat_lt n (rank t)) items

-- 1, and 2 for what is static
unfoldable pub static_rank : Bool → ℕ
static_rank false = 1
static_rank true = 2

-- 1 for an alias, and 2 for one after which `ActorID` may stand
unfoldable pub alias_rank : Inner → ℕ
alias_rank Nothing = 1
alias_rank Id = 1
alias_rank ActorId = 2

-- 1 for an alias after which `ID` may stand
unfoldable pub id_rank : Inner → ℕ
id_rank Nothing = 0
id_rank Id = 1
id_rank ActorId = 0

unfoldable pub type_rank : MemberKind → ℕ
type_rank kind.Stored = 0
type_rank kind.Computed = 0
type_rank kind.Func = 0
type_rank kind.Case = 0
type_rank (kind.Alias inner) = alias_rank inner
type_rank kind.BuiltIn = 0

unfoldable pub type_id_rank : MemberKind → ℕ
type_id_rank kind.Stored = 0
type_id_rank kind.Computed = 0
type_id_rank kind.Func = 0
type_id_rank kind.Case = 0
type_id_rank (kind.Alias inner) = id_rank inner
type_id_rank kind.BuiltIn = 0

-- of what is not called
unfoldable pub plain_rank : Called → Bool → ℕ
plain_rank None is_static = static_rank is_static
plain_rank (Some labels) is_static = 0

-- of what is called
unfoldable pub call_rank : Called → Bool → ℕ
call_rank None is_static = 0
call_rank (Some labels) is_static = static_rank is_static

-- the name and the labels of what is called
unfoldable pub call_key : Text → Called → Text
call_key name None = []
call_key name (Some labels) = spelled name labels

unfoldable pub actor_rank : Form → ℕ
actor_rank Struct = 0
actor_rank Enum = 0
actor_rank Protocol = 0
actor_rank Actor = 0
actor_rank DistributedActor = 1

unfoldable pub func_rank : FuncKind → ℕ
func_rank TopLevel = 1
func_rank Method = 0
func_rank Getter = 0
func_rank Initializer = 0
func_rank Synthesized = 0

-- ---- the tables

-- of types: their numbers, and which are distributed actors
pub record AreTypesRanked (items : List DeclaredType) (by_name by_actor : Entries) : Type 0 where
  pub numbers : (x : Text) → level x by_name ≡ number_of items x
  pub actors : IsRanked (λ t. t.name) (λ t. actor_rank t.form) items by_actor

pub record AreAliasesRanked (items : List Alias) (by_name by_id : Entries) : Type 0 where
  pub named : IsRanked (λ a. a.name) (λ a. alias_rank a.inner) items by_name
  pub ids : IsRanked (λ a. a.name) (λ a. id_rank a.inner) items by_id

abbrev pub AreFuncsRanked : List DeclaredFunc → Entries → Type 0
AreFuncsRanked items by_name = IsRanked (λ f. f.name) (λ f. func_rank f.kind) items by_name
