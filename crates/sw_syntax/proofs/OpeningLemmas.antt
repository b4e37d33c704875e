-- What a test of statements and declarations says of the first token.
use Rattle.std.proofs.Common.{◌≡◌, false, List, [], ◌∷◌, Some, None, refl, ap}
use Rattle.sw_grammar.specs.Reading.{at_first}
use Rattle.sw_syntax.specs.declared.class.Sight.{Sight}
use Rattle.sw_syntax.specs.declared.decl_tests.Opening.{Opening}
use Rattle.sw_syntax.specs.Tokens.{Sighted}
use Rattle.sw_syntax.specs.ReadResults.{first_sight}
use Rattle.sw_syntax.specs.DeclTests.{stands}

some_same : {A : Type 0} (x y : A) → Some x ≡ Some y → x ≡ y
some_same x y e = cc

pub tested : (x : Opening) (ts : List Sighted) (s : Sight) → Some s ≡ first_sight ts → stands x s ≡ at_first (stands x) ts
tested x [] s e = absurd cc
tested x (t ∷ ts) s e = ap (λ s. stands x s) (some_same s t.sight e)

pub untested : (x : Opening) (ts : List Sighted) → None ≡ first_sight ts → false ≡ at_first (stands x) ts
untested x [] e = refl
untested x (t ∷ ts) e = absurd cc
