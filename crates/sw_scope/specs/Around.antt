-- What a part of a source sees beside the names in sight: what the file declares, the members of the own type, whether
-- there is an instance of it, and what is built in.
use Rattle.std.specs.Prelude.{Bool, ◌||◌, ◌&&◌, not, List, [], ◌∷◌, codes}
use Rattle.std.specs.List.{list_any}
use Rattle.sw_sight.specs.InSight.{Text, same}
use Rattle.sw_declared.specs.declared.names.Member.{Member}
use Rattle.sw_declared.specs.declared.names.Names.{Names}
use Rattle.sw_declared.specs.Names.{has_type, has_type_inner, has_alias, has_alias_inner, has_func}
use Rattle.sw_declared.specs.Members.{Called, has_member, has_static, has_type_member, has_inner_member, has_fitting, has_static_fitting}

pub record Around : Type 0 where
  pub names : Names
  pub own : List Member
  pub has_instance : Bool

-- ---- types

abbrev pub built_in_types : List Text
built_in_types =
    codes "Int" ∷ codes "Bool" ∷ codes "String" ∷ codes "Void" ∷ codes "ActorID" ∷ codes "NodeSystem" ∷ codes "DistributedCallError"
    ∷ codes "Codable" ∷ codes "Sendable" ∷ codes "Equatable" ∷ codes "Hashable" ∷ codes "Error" ∷ []

abbrev pub among : List Text → Text → Bool
among words x = list_any (λ word. same word x) words

-- the file declares a type of this name, or an alias
abbrev pub is_file_type : Names → Text → Bool
is_file_type names x = has_type names.types x || has_alias names.aliases x

-- a type has this name: an alias of the own type, one of the file, or one that is built in
unfoldable pub is_type : Around → Text → Bool
is_type around x = has_type_member around.own x || (is_file_type around.names x || among built_in_types x)

-- The second may stand after the `.` of the first, by what the first means: in the own type, else in the file, else as it
-- is built in.
unfoldable pub is_inner : Around → Text → Text → Bool
is_inner around x y =
    has_inner_member around.own x y
    || (not (has_type_member around.own x)
    && ((has_type_inner around.names.types x y || has_alias_inner around.names.aliases x y)
    || (not (is_file_type around.names x) && (same (codes "NodeSystem") x && same (codes "ActorID") y))))

-- ---- values

-- something has this name in the own type or in the file, or is built in
unfoldable pub is_declared : Around → Text → Bool
is_declared around x =
    has_member around.own x || (has_func around.names.funcs x || (is_type around x || same (codes "print") x))

-- There are members of this name, and those that the use chooses need an instance: the ones that are called so, or, where
-- none is, all.
unfoldable pub needs_instance : List Member → Text → Called → Bool
needs_instance own x called =
    has_member own x
    && not (has_static_fitting own x called || (not (has_fitting own x called) && has_static own x))
