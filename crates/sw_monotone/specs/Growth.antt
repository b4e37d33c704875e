-- When more is known of types: the same declarations, of which more give a type.
use Rattle.std.specs.Prelude.{◌≡◌, ⊤, Bool, Some, is_some, List, [], ◌∷◌}
use Rattle.std.specs.List.{list_all}
use Rattle.sw_value.specs.declared.ty.Ty.{Ty}
use Rattle.sw_typed.specs.declared.expr.TypedPiece.{TypedPiece}
use Rattle.sw_members.specs.declared.declaration.Declaration.{Declaration}
use Rattle.sw_typing.specs.declared.facts.TypeFacts.{TypeFacts}
use Rattle.sw_typing.specs.declared.facts.Facts.{Facts}
use Rattle.sw_resolve.specs.declared.scope.Scope.{Scope}

-- A declaration is below another that is the same in all but the type that it gives: where the first gives a type, the
-- second gives the same.
pub record IsBelow (a b : Declaration) : Type 0 where
  pub name : b.name ≡ a.name
  pub labels : b.labels ≡ a.labels
  pub is_static : b.is_static ≡ a.is_static
  pub entity : b.entity ≡ a.entity
  pub takes : b.takes ≡ a.takes
  pub gives : (t : Ty) → a.gives ≡ Some t → b.gives ≡ Some t
  pub is_mutating : b.is_mutating ≡ a.is_mutating
  pub is_var : b.is_var ≡ a.is_var

-- lists of one length, in which each item stands so to the one at its place in the other
abbrev pub Pairwise : {A : Type 0} → (A → A → Type 0) → List A → List A → Type 0
Pairwise R [] [] = ⊤
Pairwise R (x ∷ xs) (y ∷ ys) = R x y × Pairwise R xs ys
Pairwise R xs ys = ⊥

-- lists of declarations, each below the one at its place
abbrev pub AreBelow : List Declaration → List Declaration → Type 0
AreBelow = Pairwise IsBelow

-- What is known of one type, and the same with more types of its members.
pub record IsTypeBelow (a b : TypeFacts) : Type 0 where
  pub members : AreBelow a.members b.members
  pub protocols : b.protocols ≡ a.protocols
  pub is_error : b.is_error ≡ a.is_error
  pub is_equatable : b.is_equatable ≡ a.is_equatable
  pub is_printable : b.is_printable ≡ a.is_printable

-- What is known of all types, and the same with more types of declarations.
pub record AreFactsBelow (a b : Facts) : Type 0 where
  pub types : Pairwise IsTypeBelow a.types b.types
  pub funcs : AreBelow a.funcs b.funcs
  pub built_in : AreBelow a.built_in b.built_in
  pub of_int : AreBelow a.of_int b.of_int
  pub of_string : AreBelow a.of_string b.of_string
  pub of_array : AreBelow a.of_array b.of_array
  pub of_id : AreBelow a.of_id b.of_id
  pub of_system : AreBelow a.of_system b.of_system

-- What an expression sees, and the same with more types of declarations known.
pub record GrowsTo (s s' : Scope) : Type 0 where
  pub known : AreFactsBelow s.known.now s'.known.now
  pub names : s'.names.now ≡ s.names.now
  pub inside : s'.inside.now ≡ s.inside.now
  pub own : s'.own ≡ s.own
  pub has_instance : s'.has_instance ≡ s.has_instance
  pub self_is_variable : s'.self_is_variable ≡ s.self_is_variable
  pub locals : s'.locals.now ≡ s.locals.now

-- each value that stands in a string has a type
abbrev pub all_values_typed : List TypedPiece → Bool
all_values_typed pieces = list_all (λ p. is_some p.value.ty) pieces
