-- What is known of types is ordered: being below is reflexive and transitive.
use Rattle.std.proofs.Common.{refl, ◌∙◌, List, [], ◌∷◌}
use Rattle.sw_members.specs.declared.declaration.Declaration.{Declaration}
use Rattle.sw_typing.specs.declared.facts.TypeFacts.{TypeFacts}
use Rattle.sw_typing.specs.declared.facts.Facts.{Facts}
use Rattle.sw_monotone.specs.Growth.{AreBelow, AreFactsBelow, IsBelow, IsTypeBelow, Pairwise}

pairs_themselves : {A : Type 0} (R : A → A → Type 0) → ((x : A) → R x x) → (xs : List A) → Pairwise R xs xs
pairs_themselves R itself [] = tt
pairs_themselves R itself (x ∷ xs) = (itself x, pairs_themselves R itself xs)

pairs_onward : {A : Type 0} (R : A → A → Type 0) → ((x y z : A) → R x y → R y z → R x z) → (xs ys zs : List A) → Pairwise R xs ys → Pairwise R ys zs → Pairwise R xs zs
pairs_onward R onward [] [] zs h k = k
pairs_onward R onward [] (y ∷ ys) zs h k = absurd h
pairs_onward R onward (x ∷ xs) [] zs h k = absurd h
pairs_onward R onward (x ∷ xs) (y ∷ ys) [] h k = absurd k
pairs_onward R onward (x ∷ xs) (y ∷ ys) (z ∷ zs) h k = (onward x y z h.0 k.0, pairs_onward R onward xs ys zs h.1 k.1)

itself : (a : Declaration) → IsBelow a a
itself a = record { name = refl; labels = refl; is_static = refl; entity = refl; takes = refl; gives = λ t h. h; is_mutating = refl; is_var = refl }

onward : (a b c : Declaration) → IsBelow a b → IsBelow b c → IsBelow a c
onward a b c h k = record {
  name = k.name ∙ h.name;
  labels = k.labels ∙ h.labels;
  is_static = k.is_static ∙ h.is_static;
  entity = k.entity ∙ h.entity;
  takes = k.takes ∙ h.takes;
  gives = λ t e. k.gives t (h.gives t e);
  is_mutating = k.is_mutating ∙ h.is_mutating;
  is_var = k.is_var ∙ h.is_var;
}

all_themselves : (xs : List Declaration) → AreBelow xs xs
all_themselves = pairs_themselves IsBelow itself

all_onward : (xs ys zs : List Declaration) → AreBelow xs ys → AreBelow ys zs → AreBelow xs zs
all_onward = pairs_onward IsBelow onward

type_itself : (a : TypeFacts) → IsTypeBelow a a
type_itself a = record { members = all_themselves a.members; protocols = refl; is_error = refl; is_equatable = refl; is_printable = refl }

type_onward : (a b c : TypeFacts) → IsTypeBelow a b → IsTypeBelow b c → IsTypeBelow a c
type_onward a b c h k = record {
  members = all_onward a.members b.members c.members h.members k.members;
  protocols = k.protocols ∙ h.protocols;
  is_error = k.is_error ∙ h.is_error;
  is_equatable = k.is_equatable ∙ h.is_equatable;
  is_printable = k.is_printable ∙ h.is_printable;
}

pub facts_themselves : (a : Facts) → AreFactsBelow a a
facts_themselves a = record {
  types = pairs_themselves IsTypeBelow type_itself a.types;
  funcs = all_themselves a.funcs;
  built_in = all_themselves a.built_in;
  of_int = all_themselves a.of_int;
  of_string = all_themselves a.of_string;
  of_array = all_themselves a.of_array;
  of_id = all_themselves a.of_id;
  of_system = all_themselves a.of_system;
}

pub facts_onward : (a b c : Facts) → AreFactsBelow a b → AreFactsBelow b c → AreFactsBelow a c
facts_onward a b c h k = record {
  types = pairs_onward IsTypeBelow type_onward a.types b.types c.types h.types k.types;
  funcs = all_onward a.funcs b.funcs c.funcs h.funcs k.funcs;
  built_in = all_onward a.built_in b.built_in c.built_in h.built_in k.built_in;
  of_int = all_onward a.of_int b.of_int c.of_int h.of_int k.of_int;
  of_string = all_onward a.of_string b.of_string c.of_string h.of_string k.of_string;
  of_array = all_onward a.of_array b.of_array c.of_array h.of_array k.of_array;
  of_id = all_onward a.of_id b.of_id c.of_id h.of_id k.of_id;
  of_system = all_onward a.of_system b.of_system c.of_system h.of_system k.of_system;
}
