-- What is known of types, where more of their members have a type.
use Rattle.std.proofs.Common.{◌≡◌, refl, sym, ap, subst, Bool, not, cond, ◌&&◌, ◌||◌, Option, Some, None, List, [], ◌∷◌}
use Rattle.sw_base.specs.declared.ids.TypeNo.{TypeNo}
use Rattle.sw_value.specs.declared.ty.Mark.{Mark}
use Rattle.sw_value.specs.declared.ty.Mark.TheVariants as mark
use Rattle.sw_value.specs.declared.ty.Base.{Base}
use Rattle.sw_value.specs.declared.ty.Base.TheVariants as base
use Rattle.sw_value.specs.declared.ty.Ty.{Ty}
use Rattle.sw_tree.specs.declared.expr.BinaryOperator.{BinaryOperator}
use Rattle.sw_typed.specs.declared.expr.Typed.{Typed}
use Rattle.sw_typing.specs.declared.need.Need.{Need}
use Rattle.sw_typing.specs.declared.need.Need.TheVariants.{Free, Lost, Like, Needed}
use Rattle.sw_typing.specs.declared.facts.TypeFacts.{TypeFacts}
use Rattle.sw_typing.specs.declared.facts.Facts.{Facts}
use Rattle.sw_typing.specs.Types.{same_type, ty, bare}
use Rattle.sw_typing.specs.Facts.{base_members, conforms, conforms_base, facts_of, has, is_equatable, is_equatable_base, is_equatable_marked, is_listed, is_printable, is_printable_base, members, members_of}
use Rattle.sw_typing.specs.Conversions.{at_like, at_needed, converted, converts, fitted, untyped}
use Rattle.sw_typing.specs.Operators.{is_equality, is_incomparable, operation_type, type_of_both}
use Rattle.sw_monotone.specs.Growth.{AreBelow, AreFactsBelow, IsTypeBelow}
use Rattle.sw_monotone.proofs.Declarations.{Both, IsThere, slice_get_both}

has_same : (test : TypeFacts → Bool) → ((a b : TypeFacts) → IsTypeBelow a b → test b ≡ test a) → (o o' : Option TypeFacts) → Both IsTypeBelow o o' → has test o' ≡ has test o
unfolding has
has_same test same None None h = refl
has_same test same None (Some b) h = absurd h
has_same test same (Some a) None h = absurd h
has_same test same (Some a) (Some b) h = same a b h

members_of_below : (o o' : Option TypeFacts) → Both IsTypeBelow o o' → AreBelow (members_of o) (members_of o')
unfolding members_of
members_of_below None None h = tt
members_of_below None (Some b) h = absurd h
members_of_below (Some a) None h = absurd h
members_of_below (Some a) (Some b) h = h.members

module _ (k k' : Facts) (below : AreFactsBelow k k') where
  facts_below : (number : TypeNo) → Both IsTypeBelow (facts_of k number) (facts_of k' number)
  facts_below number = slice_get_both IsTypeBelow k.types k'.types number.0 below.types

  -- ---- members

  pub base_members_below : (b : Base) → AreBelow (base_members k b) (base_members k' b)
  unfolding base_members
  base_members_below base.Int = below.of_int
  base_members_below base.Bool = tt
  base_members_below base.Str = below.of_string
  base_members_below base.Void = tt
  base_members_below base.Id = below.of_id
  base_members_below base.System = below.of_system
  base_members_below (base.Struct number) = members_of_below _ _ (facts_below number)
  base_members_below (base.Enum number) = members_of_below _ _ (facts_below number)
  base_members_below (base.Plain number) = members_of_below _ _ (facts_below number)
  base_members_below (base.Distributed number) = members_of_below _ _ (facts_below number)
  base_members_below (base.Any number) = members_of_below _ _ (facts_below number)
  base_members_below base.AnyError = tt

  marked_members_below : (ms : List Mark) (b : Base) → AreBelow (members k (ty ms b)) (members k' (ty ms b))
  unfolding members
  marked_members_below [] b = base_members_below b
  marked_members_below (mark.Array ∷ ms) b = below.of_array
  marked_members_below (mark.Optional ∷ ms) b = tt

  pub type_members_below : (t : Ty) → AreBelow (members k t) (members k' t)
  type_members_below t = marked_members_below t.marks t.base

  -- ---- tests

  listed_same : (number p : TypeNo) → has (λ facts. is_listed p facts.protocols) (facts_of k' number) ≡ has (λ facts. is_listed p facts.protocols) (facts_of k number)
  listed_same number p = has_same _ (λ a b h. ap (is_listed p) h.protocols) _ _ (facts_below number)

  conforms_base_same : (a b : Base) → conforms_base k' a b ≡ conforms_base k a b
  unfolding conforms_base
  conforms_base_same (base.Struct number) (base.Any p) = listed_same number p
  conforms_base_same (base.Enum number) (base.Any p) = listed_same number p
  conforms_base_same (base.Enum number) base.AnyError = has_same (λ facts. facts.is_error) (λ a b h. h.is_error) _ _ (facts_below number)
  conforms_base_same a b = refl

  conforms_marked_same : (ms : List Mark) (a b : Base) → conforms k' (ty ms a) b ≡ conforms k (ty ms a) b
  unfolding conforms
  conforms_marked_same [] a b = conforms_base_same a b
  conforms_marked_same (m ∷ ms) a b = refl

  conforms_same : (t : Ty) (b : Base) → conforms k' t b ≡ conforms k t b
  conforms_same t b = conforms_marked_same t.marks t.base b

  is_equatable_base_same : (b : Base) → is_equatable_base k' b ≡ is_equatable_base k b
  unfolding is_equatable_base
  is_equatable_base_same (base.Struct number) = has_same (λ facts. facts.is_equatable) (λ a b h. h.is_equatable) _ _ (facts_below number)
  is_equatable_base_same (base.Enum number) = has_same (λ facts. facts.is_equatable) (λ a b h. h.is_equatable) _ _ (facts_below number)
  is_equatable_base_same b = refl

  is_equatable_marked_same : (ms : List Mark) (b : Base) → is_equatable_marked k' ms b ≡ is_equatable_marked k ms b
  is_equatable_marked_same [] b = is_equatable_base_same b
  is_equatable_marked_same (mark.Optional ∷ ms) b = is_equatable_marked_same ms b
  is_equatable_marked_same (mark.Array ∷ ms) b = refl

  is_equatable_same : (t : Ty) → is_equatable k' t ≡ is_equatable k t
  unfolding is_equatable
  is_equatable_same t = is_equatable_marked_same t.marks t.base

  is_printable_base_same : (b : Base) → is_printable_base k' b ≡ is_printable_base k b
  unfolding is_printable_base
  is_printable_base_same (base.Enum number) = has_same (λ facts. facts.is_printable) (λ a b h. h.is_printable) _ _ (facts_below number)
  is_printable_base_same b = refl

  is_printable_marked_same : (ms : List Mark) (b : Base) → is_printable k' (ty ms b) ≡ is_printable k (ty ms b)
  unfolding is_printable
  is_printable_marked_same [] b = is_printable_base_same b
  is_printable_marked_same (m ∷ ms) b = refl

  pub is_printable_same : (t : Ty) → is_printable k' t ≡ is_printable k t
  is_printable_same t = is_printable_marked_same t.marks t.base

  -- ---- operators

  is_incomparable_same : (operator : BinaryOperator) (a b : Option Ty) → is_incomparable k' operator a b ≡ is_incomparable k operator a b
  unfolding is_incomparable
  is_incomparable_same operator None b = refl
  is_incomparable_same operator (Some a) None = refl
  is_incomparable_same operator (Some a) (Some b) = ap (λ t. is_equality operator && (same_type a b && not t)) (is_equatable_same a)

  pub operation_type_same : (operator : BinaryOperator) (a b : Option Ty) → operation_type k' operator a b ≡ operation_type k operator a b
  unfolding operation_type
  operation_type_same operator a b = ap (λ t. cond t None (type_of_both operator a b)) (is_incomparable_same operator a b)

  -- ---- conversions

  converts_same : (t : Ty) (ms : List Mark) (b : Base) → converts k' t ms b ≡ converts k t ms b
  unfolding converts
  converts_same t [] b = ap (λ h. same_type t (bare b) || h) (conforms_same t b)
  converts_same t (mark.Array ∷ ms) b = refl
  converts_same t (mark.Optional ∷ ms) b = ap (λ h. same_type t (ty (mark.Optional ∷ ms) b) || h) (converts_same t ms b)

  at_needed_same : (needed : Ty) (o : Option Ty) (e : Typed) → at_needed k' needed o e ≡ at_needed k needed o e
  unfolding at_needed
  at_needed_same needed None e = refl
  at_needed_same needed (Some t) e = ap (λ h. cond h (converted t needed.marks needed.base e) (untyped e)) (converts_same t needed.marks needed.base)

  at_like_same : (other : Ty) (o : Option Ty) (e : Typed) → at_like k' other o e ≡ at_like k other o e
  unfolding at_like
  at_like_same other None e = refl
  at_like_same other (Some t) e = ap (λ h. cond h (converted t other.marks other.base e) e) (converts_same t other.marks other.base)

  pub fitted_same : (n : Need) (e : Typed) → fitted k' n e ≡ fitted k n e
  unfolding fitted
  fitted_same Free e = refl
  fitted_same Lost e = refl
  fitted_same (Like t) e = at_like_same t e.ty e
  fitted_same (Needed t) e = at_needed_same t e.ty e

-- ---- what has no type has none in any place

at_needed_there : (k : Facts) (needed : Ty) (o : Option Ty) (e : Typed) → e.ty ≡ o → IsThere (at_needed k needed o e).ty → IsThere e.ty
unfolding at_needed
at_needed_there k needed None e is h = h
at_needed_there k needed (Some t) e is h = subst IsThere (sym is) tt

at_like_there : (k : Facts) (other : Ty) (o : Option Ty) (e : Typed) → e.ty ≡ o → IsThere (at_like k other o e).ty → IsThere e.ty
unfolding at_like
at_like_there k other None e is h = h
at_like_there k other (Some t) e is h = subst IsThere (sym is) tt

pub fitted_there : (k : Facts) (n : Need) (e : Typed) → IsThere (fitted k n e).ty → IsThere e.ty
unfolding fitted
fitted_there k Free e h = h
fitted_there k Lost e h = h
fitted_there k (Like t) e h = at_like_there k t e.ty e refl h
fitted_there k (Needed t) e h = at_needed_there k t e.ty e refl h
