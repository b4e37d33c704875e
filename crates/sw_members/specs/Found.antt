-- Which declaration of a list a name means: on which side of a type it is looked for, and whether it is called.
use Rattle.std.specs.Prelude.{Bool, true, ◌&&◌, not, Option, Some, is_none, is_some, List}
use Rattle.std.specs.List.{find, list_any}
use Rattle.sw_sight.specs.InSight.{Text, same}
use Rattle.sw_declared.specs.Members.{Label, same_call}
use Rattle.sw_members.specs.declared.declaration.Declaration.{Declaration}
use Rattle.sw_members.specs.declared.declaration.Side.{Side}
use Rattle.sw_members.specs.declared.declaration.Side.TheVariants.{Both, Static, Instance}

-- a declaration that is static, or is not, is on that side
unfoldable pub on_side : Side → Bool → Bool
on_side Both is_static = true
on_side Static is_static = is_static
on_side Instance is_static = not is_static

abbrev pub is_named : Side → Text → Declaration → Bool
is_named side x d = same d.name x && on_side side d.is_static

-- the first of this name that stands as a value
abbrev pub value_named : Side → Text → List Declaration → Option Declaration
value_named side x ds = find (λ d. is_named side x d && is_none d.labels) ds

-- the first of this name that takes these labels in this order
abbrev pub fitting : Side → Text → List Label → List Declaration → Option Declaration
fitting side x labels ds = find (λ d. is_named side x d && same_call (Some labels) d.labels) ds

abbrev pub any_named : Side → Text → List Declaration → Bool
any_named side x ds = list_any (is_named side x) ds

-- one of this name can be called
abbrev pub any_callable : Side → Text → List Declaration → Bool
any_callable side x ds = list_any (λ d. is_named side x d && is_some d.labels) ds
