-- What each form of type breaks.
use Rattle.std.proofs.Common.{◌≡◌, not, List, [], sym, ap, ◌∙◌}
use Rattle.sw_base.specs.declared.ids.Span.{Span}
use Rattle.sw_rules.specs.declared.Refusal.{Refusal}
use Rattle.sw_rules.specs.declared.Rule.TheVariants.{T7}
use Rattle.sw_findings.specs.Found.{when}
use Rattle.sw_tree.specs.declared.expr.Name.{Name}
use Rattle.sw_tree.specs.declared.types.«Type».{«Type» as TypeTree, fold-roll-Type, roll-Type, map-Type}
use Rattle.sw_tree.specs.declared.types.«Type».TheOpen.{Type-F}
use Rattle.sw_tree.specs.declared.types.«Type».TheVariants as t
use Rattle.sw_declared.specs.declared.names.Member.{Member}
use Rattle.sw_declared.specs.declared.names.Names.{Names}
use Rattle.sw_check_decl.specs.Protocols.{takes_any}
use Rattle.sw_check_decl.specs.TypesInSource.{type_level, type_broken, type_name_broken}
use Rattle.sw_check_decl.proofs.Findings.{keep_none}

rolled : (names : Names) (own : List Member) (layer : Type-F TypeTree) {x : TypeTree} → roll-Type layer ≡ x → type_broken names own x ≡ type_level names own (map-Type TypeTree (List Refusal) (type_broken names own) layer)
unfolding type_broken
rolled names own layer h = ap (type_broken names own) (sym h) ∙ fold-roll-Type (List Refusal) (type_level names own) layer

pub of_name : (names : Names) (own : List Member) (name : Name) → type_broken names own (t.Name name) ≡ type_name_broken names own name
of_name names own name = rolled names own _ (t.rolls-Name name)

pub of_member : (names : Names) (own : List Member) (outer : Name) (name : Name) → type_broken names own (t.Member outer name) ≡ []
of_member names own outer name = rolled names own _ (t.rolls-Member outer name)

pub of_array : (names : Names) (own : List Member) (at : Span) (x : TypeTree) → type_broken names own (t.Array at x) ≡ type_broken names own x
of_array names own at x = rolled names own _ (t.rolls-Array at x)

pub of_any : (names : Names) (own : List Member) (at : Span) (name : Name) → type_broken names own (t.Any at name) ≡ when (not (takes_any names own name.text)) T7 at
of_any names own at name = rolled names own _ (t.rolls-Any at name)

pub of_void : (names : Names) (own : List Member) (at : Span) → type_broken names own (t.Void at) ≡ []
of_void names own at = rolled names own _ (t.rolls-Void at)

pub of_optional : (names : Names) (own : List Member) (x : TypeTree) → type_broken names own (t.Optional x) ≡ type_broken names own x
of_optional names own x = rolled names own _ (t.rolls-Optional x)

pub ruleset type_rules = (keep_none, of_name, of_member, of_array, of_any, of_void, of_optional)
