-- What a table of members tells: which members have a name, and with which labels they are called.
use Rattle.std.specs.Prelude.{ℕ, Bool, true, false, ◌&&◌, Option, Some, None, List, [], ◌∷◌}
use Rattle.std.specs.List.{list_any}
use Rattle.sw_sight.specs.InSight.{Text, same}
use Rattle.sw_declared.specs.declared.names.MemberKind.{MemberKind}
use Rattle.sw_declared.specs.declared.names.MemberKind.TheVariants.{Stored, Computed, Func, Case, Alias, BuiltIn}
use Rattle.sw_declared.specs.declared.names.Member.{Member}
use Rattle.sw_declared.specs.Names.{names_inner}

-- the label of an argument or a parameter, where it has one
abbrev pub Label : Type 0
Label = Option (List ℕ)

-- the labels of a call; none where a name stands without one
abbrev pub Called : Type 0
Called = Option (List Label)

unfoldable pub same_label : Label → Label → Bool
same_label None None = true
same_label None (Some b) = false
same_label (Some a) None = false
same_label (Some a) (Some b) = same a b

unfoldable pub same_labels : List Label → List Label → Bool
same_labels [] [] = true
same_labels [] (y ∷ ys) = false
same_labels (x ∷ xs) [] = false
same_labels (x ∷ xs) (y ∷ ys) = same_label x y && same_labels xs ys

unfoldable pub same_call : Called → Called → Bool
same_call None None = true
same_call None (Some ys) = false
same_call (Some xs) None = false
same_call (Some xs) (Some ys) = same_labels xs ys

-- a member names a type
unfoldable pub names_type : MemberKind → Bool
names_type Stored = false
names_type Computed = false
names_type Func = false
names_type Case = false
names_type (Alias inner) = true
names_type BuiltIn = false

-- after the name of an alias this type may stand
unfoldable pub member_inner : MemberKind → Text → Bool
member_inner Stored y = false
member_inner Computed y = false
member_inner Func y = false
member_inner Case y = false
member_inner (Alias inner) y = names_inner inner y
member_inner BuiltIn y = false

-- a member has the name
abbrev pub has_member : List Member → Text → Bool
has_member own x = list_any (λ m. same m.name x) own

-- a static one has
abbrev pub has_static : List Member → Text → Bool
has_static own x = list_any (λ m. m.is_static && same m.name x) own

-- one that names a type has
abbrev pub has_type_member : List Member → Text → Bool
has_type_member own x = list_any (λ m. names_type m.kind && same m.name x) own

-- and the second may stand after its `.`
abbrev pub has_inner_member : List Member → Text → Text → Bool
has_inner_member own x y = list_any (λ m. same m.name x && member_inner m.kind y) own

-- a member has the name, and is called so, or is not called where this is no call
abbrev pub has_fitting : List Member → Text → Called → Bool
has_fitting own x called = list_any (λ m. same m.name x && same_call called m.labels) own

abbrev pub has_static_fitting : List Member → Text → Called → Bool
has_static_fitting own x called = list_any (λ m. m.is_static && (same m.name x && same_call called m.labels)) own
