-- What a call calls, where more is known.
use Rattle.std.proofs.Common.{◌≡◌, refl, sym, ap, ◌∙◌, subst, Bool, true, false, not, cond, ◌&&◌, ◌||◌, Option, Some, None, List}
use Rattle.std.specs.Prelude.{codes}
use Rattle.sw_base.specs.declared.ids.Span.{Span}
use Rattle.sw_sight.specs.InSight.{Text}
use Rattle.sw_value.specs.declared.ty.Ty.{Ty}
use Rattle.sw_tree.specs.declared.expr.Name.{Name}
use Rattle.sw_declared.specs.Members.{Label}
use Rattle.sw_typed.specs.declared.entity.Entity.{Entity}
use Rattle.sw_typed.specs.declared.expr.Typed.{Typed}
use Rattle.sw_typed.specs.declared.expr.Receiver.{Receiver}
use Rattle.sw_typed.specs.declared.expr.Receiver.TheVariants as on
use Rattle.sw_typed.specs.Elaborated as e
use Rattle.sw_typed.specs.ElaboratedOf.{receiver_of}
use Rattle.sw_members.specs.declared.declaration.Declaration.{Declaration}
use Rattle.sw_members.specs.declared.declaration.Side.TheVariants.{Both as BothSides}
use Rattle.sw_members.specs.Found.{any_named, fitting}
use Rattle.sw_locals.specs.declared.local.Local.{Local}
use Rattle.sw_locals.specs.InBody.{local_named}
use Rattle.sw_typing.specs.declared.need.Need.{Need}
use Rattle.sw_resolve.specs.declared.scope.Scope.{Scope}
use Rattle.sw_resolve.specs.declared.standing.Standing.{Standing}
use Rattle.sw_resolve.specs.declared.standing.Standing.TheVariants.{Value, Own}
use Rattle.sw_resolve.specs.declared.callee.Callee.{Callee}
use Rattle.sw_resolve.specs.declared.callee.Called.{Called}
use Rattle.sw_resolve.specs.declared.callee.Called.TheVariants as called
use Rattle.sw_resolve.specs.Scopes.{is_own, is_type, members_at, type_named}
use Rattle.sw_resolve.specs.Standings.{members, members_of, owner, first, receiver, side}
use Rattle.sw_resolve.specs.Changes.{is_own_actor, is_var, may_change, is_reference, is_variable, is_variable_form, own_may_change}
use Rattle.sw_resolve.specs.Callees.{built_in_fitting, callee_of, callee_or_parts, called_there, changes_constant, file_callee, file_called, file_fitting, fitting_there, is_unchangeable, member_callee, member_or_file, name_called, name_or_variable, needs_for, or_else}
use Rattle.sw_monotone.specs.Growth.{GrowsTo, IsBelow}
use Rattle.sw_monotone.proofs.Declarations.{Both, IsThere, any_named_same, fitting_below, gives_same}
use Rattle.sw_monotone.proofs.Seen.{at_below, is_own_same, is_type_same, local_same, members_below, side_same, type_named_same}

-- something is called that gives a type
abbrev pub Gives : Called → Type 0
Gives (called.Callee callee) = IsThere callee.gives
Gives (called.Nothing at parts) = ⊥

-- what gives a type is the same in both
abbrev pub IsCalledKept : Called → Called → Type 0
IsCalledKept c c' = Gives c → c' ≡ c

-- ---- a declaration as what is called

unbroken : (is_broken : Bool) (o : Option Ty) → IsThere (cond is_broken None o) → IsThere o
unbroken true o there = absurd there
unbroken false o there = there

callee_kept : (begins : Span) (r : Receiver) (of : Option Ty) (at : Span) (is_broken : Bool) (d d' : Declaration) → IsBelow d d'
    → IsThere (callee_of begins r of at is_broken d).gives → callee_of begins r of at is_broken d' ≡ callee_of begins r of at is_broken d
callee_kept begins r of at is_broken d d' h there =
    let make : Entity → List Need → Option Ty → Callee = λ entity needs gives. record { first = begins; entity = entity; receiver = r; at = at; needs = needs; gives = gives } in
    ap (λ e. make e (needs_for of e d'.takes) (cond is_broken None d'.gives)) h.entity
    ∙ ap (λ ts. make d.entity (needs_for of d.entity ts) (cond is_broken None d'.gives)) h.takes
    ∙ ap (λ g. make d.entity (needs_for of d.entity d.takes) (cond is_broken None g)) (gives_same d d' h (unbroken is_broken d.gives there))

or_else_below : (a a' b b' : Option Declaration) → Both IsBelow a a' → Both IsBelow b b' → Both IsBelow (or_else a b) (or_else a' b')
unfolding or_else
or_else_below None None b b' h k = k
or_else_below None (Some a') b b' h k = absurd h
or_else_below (Some a) None b b' h k = absurd h
or_else_below (Some a) (Some a') b b' h k = h

none_or : (t : Bool) (o o' : Option Declaration) → Both IsBelow o o' → Both IsBelow (cond t None o) (cond t None o')
none_or true o o' h = tt
none_or false o o' h = h

module _ (s s' : Scope) (grows : GrowsTo s s') where
  -- ---- what may be changed

  own_may_same : own_may_change s' ≡ own_may_change s
  unfolding own_may_change
  own_may_same = ap (λ o. is_own_actor o || s'.self_is_variable) grows.own ∙ ap (λ t. is_own_actor s.own || t) grows.self_is_variable

  mutual
    variable_same : (x : e.Expr) → is_variable s' x ≡ is_variable s x
    variable_same (e.expr t at f) = variable_form_same f

    variable_form_same : (f : e.Form) → is_variable_form s' f ≡ is_variable_form s f
    variable_form_same e.SelfValue = grows.self_is_variable
    variable_form_same (e.Member entity r at) = ap (λ t. cond (is_var entity) t false) (may_change_same r)
    variable_form_same (e.Index at a i) = variable_same a
    variable_form_same f = refl

    may_change_same : (r : e.Receiver) → may_change s' r ≡ may_change s r
    may_change_same e.Nothing = refl
    may_change_same e.Own = own_may_same
    may_change_same (e.Value (e.expr t at f)) = ap (λ b. is_reference t || b) (variable_form_same f)

  unchangeable_same : (b b' : Bool) (r : Receiver) → b' ≡ b → is_unchangeable s' b' r ≡ is_unchangeable s b r
  unfolding is_unchangeable
  unchangeable_same b b' r h = ap (λ t. t && not (may_change s' (receiver_of r))) h ∙ ap (λ t. b && not t) (may_change_same (receiver_of r))

  -- ---- a call of a member

  constant_same : (st : Standing) (d d' : Declaration) → IsBelow d d' → changes_constant s' st d' ≡ changes_constant s st d
  constant_same st d d' h = ap (λ b. is_unchangeable s' d'.is_mutating (receiver st b)) h.is_static ∙ unchangeable_same d.is_mutating d'.is_mutating (receiver st d.is_static) h.is_mutating

  member_callee_kept : (st : Standing) (at : Span) (d d' : Declaration) → IsBelow d d' → IsThere (member_callee s st at d).gives → member_callee s' st at d' ≡ member_callee s st at d
  member_callee_kept st at d d' h there =
      ap (λ b. callee_of (first st) (receiver st b) (owner st) at (changes_constant s' st d') d') h.is_static
      ∙ ap (λ b. callee_of (first st) (receiver st d.is_static) (owner st) at b d') (constant_same st d d' h)
      ∙ callee_kept (first st) (receiver st d.is_static) (owner st) at (changes_constant s st d) d d' h there

  parts_kept : (st : Standing) (name : Name) (o o' : Option Declaration) → Both IsBelow o o' → IsCalledKept (callee_or_parts s st name o) (callee_or_parts s' st name o')
  unfolding callee_or_parts
  parts_kept st name None None h gives = absurd gives
  parts_kept st name None (Some d') h gives = absurd h
  parts_kept st name (Some d) None h gives = absurd h
  parts_kept st name (Some d) (Some d') h gives = ap called.Callee (member_callee_kept st name.span d d' h gives)

  fitting_there_below : (st : Standing) (x : Text) (labels : List Label) → Both IsBelow (fitting_there s st x labels) (fitting_there s' st x labels)
  fitting_there_below st x labels =
      subst (λ d. Both IsBelow (fitting_there s st x labels) (fitting d x labels (members s' st))) (sym (side_same s s' grows st))
      (fitting_below (side s st) x labels _ _ (members_below s s' grows st))

  pub called_there_kept : (st : Standing) (name : Name) (labels : List Label) → IsCalledKept (called_there s st name labels) (called_there s' st name labels)
  unfolding called_there
  called_there_kept st name labels = parts_kept st name _ _ (fitting_there_below st name.text labels)

  -- ---- a call of a name that stands alone

  built_in_below : (x : Text) (labels : List Label) → Both IsBelow (built_in_fitting s x labels) (built_in_fitting s' x labels)
  unfolding built_in_fitting
  built_in_below x labels =
      let known = grows.known in
      let is_hidden : (any_named BothSides x s'.known.now.funcs || is_type s' x) ≡ (any_named BothSides x s.known.now.funcs || is_type s x) =
      ap (λ t. t || is_type s' x) (any_named_same BothSides x _ _ known.funcs) ∙ ap (λ t. any_named BothSides x s.known.now.funcs || t) (is_type_same s s' grows x) in
      subst (λ t. Both IsBelow (built_in_fitting s x labels) (cond t None (fitting BothSides x labels s'.known.now.built_in))) (sym is_hidden)
      (none_or (any_named BothSides x s.known.now.funcs || is_type s x) _ _ (fitting_below BothSides x labels _ _ known.built_in))

  initialiser_below : (x : Text) (labels : List Label)
      → Both IsBelow (fitting BothSides (codes "init") labels (members_at s.known.now (type_named s x))) (fitting BothSides (codes "init") labels (members_at s'.known.now (type_named s' x)))
  initialiser_below x labels =
      subst (λ b. Both IsBelow (fitting BothSides (codes "init") labels (members_at s.known.now (type_named s x))) (fitting BothSides (codes "init") labels (members_at s'.known.now b)))
      (sym (type_named_same s s' grows x)) (fitting_below BothSides (codes "init") labels _ _ (at_below s s' grows (type_named s x)))

  file_fitting_below : (x : Text) (labels : List Label) → Both IsBelow (file_fitting s x labels) (file_fitting s' x labels)
  unfolding file_fitting
  file_fitting_below x labels =
      let known = grows.known in
      or_else_below _ _ _ _ (fitting_below BothSides x labels _ _ known.funcs) (or_else_below _ _ _ _ (initialiser_below x labels) (built_in_below x labels))

  file_callee_kept : (at : Span) (o o' : Option Declaration) → Both IsBelow o o' → IsCalledKept (file_callee at o) (file_callee at o')
  unfolding file_callee
  file_callee_kept at None None h gives = absurd gives
  file_callee_kept at None (Some d') h gives = absurd h
  file_callee_kept at (Some d) None h gives = absurd h
  file_callee_kept at (Some d) (Some d') h gives = ap called.Callee (callee_kept at on.Nothing None at false d d' h gives)

  file_called_kept : (name : Name) (labels : List Label) → IsCalledKept (file_called s name labels) (file_called s' name labels)
  unfolding file_called
  file_called_kept name labels = file_callee_kept name.span _ _ (file_fitting_below name.text labels)

  either_kept : (t : Bool) (a a' b b' : Called) → IsCalledKept a a' → IsCalledKept b b' → IsCalledKept (cond t a b) (cond t a' b')
  either_kept true a a' b b' h k = h
  either_kept false a a' b b' h k = k

  member_or_file_kept : (name : Name) (labels : List Label) → IsCalledKept (member_or_file s name labels) (member_or_file s' name labels)
  unfolding member_or_file
  member_or_file_kept name labels =
      subst (λ t. IsCalledKept (member_or_file s name labels) (cond t (called_there s' (Own name.span) name labels) (file_called s' name labels))) (sym (is_own_same s s' grows name.text))
      (either_kept (is_own s name.text) _ _ _ _ (called_there_kept (Own name.span) name labels) (file_called_kept name labels))

  name_or_variable_kept : (name : Name) (labels : List Label) (o : Option Local) → IsCalledKept (name_or_variable s name labels o) (name_or_variable s' name labels o)
  unfolding name_or_variable
  name_or_variable_kept name labels None = member_or_file_kept name labels
  name_or_variable_kept name labels (Some local) = λ gives. absurd gives

  pub name_called_kept : (name : Name) (labels : List Label) → IsCalledKept (name_called s name labels) (name_called s' name labels)
  unfolding name_called
  name_called_kept name labels =
      subst (λ o. IsCalledKept (name_called s name labels) (name_or_variable s' name labels o)) (sym (local_same s s' grows name.text))
      (name_or_variable_kept name labels (local_named name.text s.locals.now))

-- ---- what has no type has no members that can be called

called_none : (s : Scope) (x : Typed) (t : Option Ty) (name : Name) (labels : List Label)
    → Gives (callee_or_parts s (Value x) name (fitting (side s (Value x)) name.text labels (members_of s.known.now t))) → IsThere t
unfolding callee_or_parts members_of
called_none s x None name labels gives = absurd gives
called_none s x (Some t) name labels gives = tt

-- a member of a value that is called gives a type only if the value has one
pub called_there_gives : (s : Scope) (x : Typed) (name : Name) (labels : List Label) → Gives (called_there s (Value x) name labels) → IsThere x.ty
unfolding called_there members
called_there_gives s x name labels gives = called_none s x x.ty name labels gives
