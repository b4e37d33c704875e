-- What an expression sees, where more is known: names, and what stands before the name of a member.
use Rattle.std.proofs.Common.{◌≡◌, refl, sym, ap, ◌∙◌, subst, not, cond, ◌&&◌, ◌||◌, Option, Some, None, is_some}
use Rattle.sw_base.specs.declared.ids.Span.{Span}
use Rattle.std.specs.Option.{option_map}
use Rattle.sw_sight.specs.InSight.{Text}
use Rattle.sw_value.specs.declared.ty.Base.{Base}
use Rattle.sw_value.specs.declared.ty.Ty.{Ty}
use Rattle.sw_tree.specs.declared.expr.Name.{Name}
use Rattle.sw_declared.specs.Members.{has_type_member}
use Rattle.sw_type_table.specs.Written.{named_base}
use Rattle.sw_scope.specs.Around as around
use Rattle.sw_typed.specs.declared.expr.Typed.{Typed}
use Rattle.sw_typed.specs.declared.expr.Form.TheVariants as form
use Rattle.sw_members.specs.declared.declaration.Declaration.{Declaration}
use Rattle.sw_members.specs.declared.declaration.Side.TheVariants.{Both as BothSides, Static}
use Rattle.sw_members.specs.Found.{value_named}
use Rattle.sw_locals.specs.declared.local.Local.{Local}
use Rattle.sw_locals.specs.InBody.{local_named}
use Rattle.sw_typing.specs.declared.facts.Facts.{Facts}
use Rattle.sw_typing.specs.Types.{bare}
use Rattle.sw_typing.specs.Conversions.{typed}
use Rattle.sw_resolve.specs.declared.scope.Scope.{Scope}
use Rattle.sw_resolve.specs.declared.standing.Standing.{Standing}
use Rattle.sw_resolve.specs.declared.standing.Standing.TheVariants.{Value, «Type», Lost, Own}
use Rattle.sw_resolve.specs.Scopes.{around_of, is_local, is_own, is_type, members_at, names_type, own_members, own_side, own_type, type_named}
use Rattle.sw_resolve.specs.Standings.{first, member, members, members_of, receiver, side, value_of, value_or_parts, value_there}
use Rattle.sw_resolve.specs.Names.{named, variable_or_member}
use Rattle.sw_monotone.specs.Growth.{AreBelow, AreFactsBelow, GrowsTo, IsBelow}
use Rattle.sw_monotone.proofs.Declarations.{Both, IsThere, any_named_same, gives_same, value_named_below}
use Rattle.sw_monotone.proofs.Known.{base_members_below, type_members_below}

-- what has a type is the same in both
abbrev pub IsKept : Typed → Typed → Type 0
IsKept e e' = IsThere e.ty → e' ≡ e

members_at_below : (k k' : Facts) → AreFactsBelow k k' → (b : Option Base) → AreBelow (members_at k b) (members_at k' b)
unfolding members_at
members_at_below k k' below None = tt
members_at_below k k' below (Some b) = base_members_below k k' below b

members_of_below : (k k' : Facts) → AreFactsBelow k k' → (t : Option Ty) → AreBelow (members_of k t) (members_of k' t)
unfolding members_of
members_of_below k k' below None = tt
members_of_below k k' below (Some t) = type_members_below k k' below t

-- ---- a member

pub value_of_kept : (st : Standing) (at : Span) (d d' : Declaration) → IsBelow d d' → IsKept (value_of st at d) (value_of st at d')
value_of_kept st at d d' h there =
    ap (λ g. typed g (first st) (form.Member d'.entity (receiver st d'.is_static) at)) (gives_same d d' h there)
    ∙ ap (λ e. typed d.gives (first st) (form.Member e (receiver st d'.is_static) at)) h.entity
    ∙ ap (λ b. typed d.gives (first st) (form.Member d.entity (receiver st b) at)) h.is_static

value_kept : (st : Standing) (at : Span) (o o' : Option Declaration) → Both IsBelow o o' → IsKept (value_or_parts st at o) (value_or_parts st at o')
unfolding value_or_parts
value_kept st at None None h there = absurd there
value_kept st at None (Some d') h there = absurd h
value_kept st at (Some d) None h there = absurd h
value_kept st at (Some d) (Some d') h there = value_of_kept st at d d' h there

module _ (s s' : Scope) (grows : GrowsTo s s') where
  pub at_below : (b : Option Base) → AreBelow (members_at s.known.now b) (members_at s'.known.now b)
  at_below b = members_at_below s.known.now s'.known.now grows.known b

  own_below : AreBelow (own_members s) (own_members s')
  unfolding own_members
  own_below = subst (λ b. AreBelow (members_at s.known.now s.own) (members_at s'.known.now b)) (sym grows.own) (at_below s.own)

  -- ---- names

  pub own_type_same : own_type s' ≡ own_type s
  unfolding own_type
  own_type_same = ap (λ o. option_map (λ b. bare b) o) grows.own

  own_side_same : own_side s' ≡ own_side s
  unfolding own_side
  own_side_same = ap (λ b. cond b BothSides Static) grows.has_instance

  pub local_same : (x : Text) → local_named x s'.locals.now ≡ local_named x s.locals.now
  local_same x = ap (local_named x) grows.locals

  is_local_same : (x : Text) → is_local s' x ≡ is_local s x
  unfolding is_local
  is_local_same x = ap (λ l. is_some l) (local_same x)

  pub is_own_same : (x : Text) → is_own s' x ≡ is_own s x
  unfolding is_own
  is_own_same x = any_named_same BothSides x _ _ own_below

  around_same : around_of s' ≡ around_of s
  around_same = let n = grows.names in let i = grows.inside in let h = grows.has_instance in cc

  pub is_type_same : (x : Text) → is_type s' x ≡ is_type s x
  unfolding is_type
  is_type_same x = ap (λ a. around.is_type a x) around_same

  pub names_type_same : (x : Text) → names_type s' x ≡ names_type s x
  unfolding names_type
  names_type_same x =
      ap (λ t. not t && ((has_type_member s'.inside.now x || not (is_own s' x)) && is_type s' x)) (is_local_same x)
      ∙ ap (λ ms. not (is_local s x) && ((has_type_member ms x || not (is_own s' x)) && is_type s' x)) grows.inside
      ∙ ap (λ t. not (is_local s x) && ((has_type_member s.inside.now x || not t) && is_type s' x)) (is_own_same x)
      ∙ ap (λ t. not (is_local s x) && ((has_type_member s.inside.now x || not (is_own s x)) && t)) (is_type_same x)

  pub type_named_same : (x : Text) → type_named s' x ≡ type_named s x
  unfolding type_named
  type_named_same x = ap (λ n. named_base n s'.inside.now x) grows.names ∙ ap (λ i. named_base s.names.now i x) grows.inside

  -- ---- what stands before the name of a member

  pub members_below : (st : Standing) → AreBelow (members s st) (members s' st)
  unfolding members
  members_below (Value e) = members_of_below s.known.now s'.known.now grows.known e.ty
  members_below («Type» b at) = at_below b
  members_below (Lost at) = tt
  members_below (Own at) = own_below

  pub side_same : (st : Standing) → side s' st ≡ side s st
  unfolding side
  side_same (Value e) = refl
  side_same («Type» b at) = refl
  side_same (Lost at) = refl
  side_same (Own at) = own_side_same

  value_there_below : (st : Standing) (x : Text) → Both IsBelow (value_there s st x) (value_there s' st x)
  value_there_below st x = subst (λ d. Both IsBelow (value_there s st x) (value_named d x (members s' st))) (sym (side_same st)) (value_named_below (side s st) x _ _ (members_below st))

  pub member_kept : (st : Standing) (name : Name) → IsKept (member s st name) (member s' st name)
  unfolding member
  member_kept st name = value_kept st name.span _ _ (value_there_below st name.text)

  -- ---- a name that stands alone

  variable_kept : (name : Name) (o : Option Local) → IsKept (variable_or_member s name o) (variable_or_member s' name o)
  unfolding variable_or_member
  variable_kept name (Some local) = λ there. refl
  variable_kept name None = member_kept (Own name.span) name

  pub named_kept : (name : Name) → IsKept (named s name) (named s' name)
  unfolding named
  named_kept name = subst (λ o. IsKept (named s name) (variable_or_member s' name o)) (sym (local_same name.text)) (variable_kept name (local_named name.text s.locals.now))

-- ---- what has no type has no members

member_none : (s : Scope) (e : Typed) (t : Option Ty) (at : Span) (x : Text) → IsThere (value_or_parts (Value e) at (value_named (side s (Value e)) x (members_of s.known.now t))).ty → IsThere t
unfolding value_or_parts members_of
member_none s e None at x there = absurd there
member_none s e (Some t) at x there = tt

-- a member of a value that has a type has a type only if the value has one
pub member_there : (s : Scope) (e : Typed) (name : Name) → IsThere (member s (Value e) name).ty → IsThere e.ty
unfolding member members
member_there s e name there = member_none s e e.ty name.span name.text there
