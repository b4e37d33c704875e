-- The first token of each form of type.
use Rattle.std.proofs.Common.{◌≡◌, sym, ap, ◌∙◌}
use Rattle.sw_base.specs.declared.ids.Span.{Span}
use Rattle.sw_tree.specs.declared.expr.Name.{Name}
use Rattle.sw_tree.specs.declared.types.«Type».{«Type» as TypeTree, fold-roll-Type, roll-Type, map-Type}
use Rattle.sw_tree.specs.declared.types.«Type».TheOpen.{Type-F}
use Rattle.sw_tree.specs.declared.types.«Type».TheVariants as t
use Rattle.sw_check_decl.specs.Counts.{token_level, first_token}

rolled : (layer : Type-F TypeTree) {x : TypeTree} → roll-Type layer ≡ x → first_token x ≡ token_level (map-Type TypeTree Span first_token layer)
unfolding first_token
rolled layer h = ap first_token (sym h) ∙ fold-roll-Type Span token_level layer

pub of_name : (name : Name) → first_token (t.Name name) ≡ name.span
of_name name = rolled _ (t.rolls-Name name)

pub of_member : (outer : Name) (name : Name) → first_token (t.Member outer name) ≡ outer.span
of_member outer name = rolled _ (t.rolls-Member outer name)

pub of_array : (at : Span) (x : TypeTree) → first_token (t.Array at x) ≡ at
of_array at x = rolled _ (t.rolls-Array at x)

pub of_any : (at : Span) (name : Name) → first_token (t.Any at name) ≡ at
of_any at name = rolled _ (t.rolls-Any at name)

pub of_void : (at : Span) → first_token (t.Void at) ≡ at
of_void at = rolled _ (t.rolls-Void at)

pub of_optional : (x : TypeTree) → first_token (t.Optional x) ≡ first_token x
of_optional x = rolled _ (t.rolls-Optional x)

pub ruleset token_rules = (of_name, of_member, of_array, of_any, of_void, of_optional)
