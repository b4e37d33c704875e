-- Which type each form of a written type is, and types within marks.
use Rattle.std.proofs.Common.{◌≡◌, List, [], ◌∷◌, ◌++◌, Option, Some, None, refl, sym, ap, ◌∙◌, append_assoc, append-nil}
use Rattle.std.specs.Option.{option_map}
use Rattle.sw_base.specs.declared.ids.Span.{Span}
use Rattle.sw_tree.specs.declared.expr.Name.{Name}
use Rattle.sw_tree.specs.declared.types.«Type».{«Type» as TypeTree, fold-roll-Type}
use Rattle.sw_tree.specs.declared.types.«Type».TheOpen.{Type-F}
use Rattle.sw_tree.specs.declared.types.«Type».TheVariants as t
use Rattle.sw_value.specs.declared.ty.Mark.{Mark}
use Rattle.sw_value.specs.declared.ty.Mark.TheVariants as mark
use Rattle.sw_value.specs.declared.ty.Base.{Base}
use Rattle.sw_value.specs.declared.ty.Base.TheVariants as base
use Rattle.sw_value.specs.declared.ty.Ty.{Ty}
use Rattle.sw_declared.specs.declared.names.Member.{Member}
use Rattle.sw_declared.specs.declared.names.Names.{Names}
use Rattle.sw_type_table.specs.Written.{bare, marked, surround, named_base, named_any, type_level, written}

pub of_name : (names : Names) (own : List Member) (name : Name) → written names own (t.Name name) ≡ option_map bare (named_base names own name.text)
of_name names own name = ap (written names own) (sym (t.rolls-Name name)) ∙ fold-roll-Type (Option Ty) (type_level names own) (Type-F.Name name)

pub of_member : (names : Names) (own : List Member) (outer : Name) (name : Name) → written names own (t.Member outer name) ≡ Some (bare base.Id)
of_member names own outer name = ap (written names own) (sym (t.rolls-Member outer name)) ∙ fold-roll-Type (Option Ty) (type_level names own) (Type-F.Member outer name)

pub of_array : (names : Names) (own : List Member) (at : Span) (x : TypeTree) → written names own (t.Array at x) ≡ option_map (marked mark.Array) (written names own x)
of_array names own at x = ap (written names own) (sym (t.rolls-Array at x)) ∙ fold-roll-Type (Option Ty) (type_level names own) (Type-F.Array at x)

pub of_any : (names : Names) (own : List Member) (at : Span) (name : Name) → written names own (t.Any at name) ≡ option_map bare (named_any names own name.text)
of_any names own at name = ap (written names own) (sym (t.rolls-Any at name)) ∙ fold-roll-Type (Option Ty) (type_level names own) (Type-F.Any at name)

pub of_void : (names : Names) (own : List Member) (at : Span) → written names own (t.Void at) ≡ Some (bare base.Void)
of_void names own at = ap (written names own) (sym (t.rolls-Void at)) ∙ fold-roll-Type (Option Ty) (type_level names own) (Type-F.Void at)

pub of_optional : (names : Names) (own : List Member) (x : TypeTree) → written names own (t.Optional x) ≡ option_map (marked mark.Optional) (written names own x)
of_optional names own x = ap (written names own) (sym (t.rolls-Optional x)) ∙ fold-roll-Type (Option Ty) (type_level names own) (Type-F.Optional x)

abbrev within : List Mark → Base → Ty
within marks base = record { marks = marks; base = base }

-- one more mark within these
pub surround_more : (marks : List Mark) (m : Mark) (x : Option Ty) → option_map (surround (marks ++ m ∷ [])) x ≡ option_map (surround marks) (option_map (marked m) x)
surround_more marks m None = refl
surround_more marks m (Some x) = ap (λ ms. Some (within ms x.base)) (append_assoc marks (m ∷ []) x.marks)

pub surround_base : (marks : List Mark) (b : Base) → surround marks (bare b) ≡ within marks b
surround_base marks b = ap (λ ms. within ms b) (append-nil marks)

pub surround_none : (x : Option Ty) → option_map (surround []) x ≡ x
surround_none None = refl
surround_none (Some x) = refl

pub ruleset level_rules = (of_name, of_member, of_array, of_any, of_void, of_optional, surround_more, surround_base, surround_none)
