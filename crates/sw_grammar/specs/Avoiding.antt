-- Tokens that no terminal of a grammar takes.
use Rattle.std.specs.Prelude.{◌≡◌, Bool, true, false, List, [], ◌∷◌}
use Rattle.sw_grammar.specs.Grammar.{Token, Part, terminal, nonterminal, both, either, maybe, many, then_if, when, nest, counts, limited, gives}
use Rattle.sw_grammar.specs.Deciding.{Apart}

-- no token of the run passes the test
abbrev pub Free : {K V : Type 0} → (K → Bool) → List (Token K V) → Type 0
Free f [] = Unit {0}
Free f (t ∷ u) = (f t.sight ≡ false) × Free f u

module _ (K V S : Type 0) (Sort : S → Type 0) (f : K → Bool) (clean : S → Bool) where
  -- no terminal in it takes a token that passes the test, and of nonterminals it calls only clean ones
  abbrev pub Avoids : {A : Type 0} → Part K V S Sort A → Type 0
  Avoids (terminal h) = Apart h f
  Avoids (nonterminal s) = clean s ≡ true
  Avoids (both a b) = Avoids a × Avoids b
  Avoids (either a b) = Avoids a × Avoids b
  Avoids (maybe a) = Avoids a
  Avoids (many a) = Avoids a
  Avoids (then_if a goes b) = Avoids a × Avoids b
  Avoids (when h a) = Avoids a
  Avoids (nest a) = Avoids a
  Avoids (counts a) = Avoids a
  Avoids (limited a) = Avoids a
  Avoids (gives h a) = Avoids a
