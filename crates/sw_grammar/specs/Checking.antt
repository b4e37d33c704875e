-- Whether one token ahead decides a part, as one computation, where a test of all sights can be computed.
use Rattle.std.specs.Prelude.{Bool, true, false, not, ◌||◌, ◌&&◌}
use Rattle.sw_grammar.specs.Grammar.{Part, terminal, nonterminal, both, either, maybe, many, then_if, when, nest, counts, limited, gives}
use Rattle.sw_grammar.specs.Reading.{nullable, first}
use Rattle.sw_grammar.specs.Deciding.{follow_last}

abbrev pub same : Bool → Bool → Bool
same true b = b
same false b = not b

module _ (K V S : Type 0) (Sort : S → Type 0) (production : (s : S) → Part K V S Sort (Sort s)) (first_table : S → K → Bool) (nullable_table : S → Bool) (follow_last_table : S → K → Bool) (each : (K → Bool) → Bool) where
  abbrev is_nullable : {A : Type 0} → Part K V S Sort A → Bool
  is_nullable a = nullable K V S Sort production first_table nullable_table a

  abbrev first_of : {A : Type 0} → Part K V S Sort A → K → Bool
  first_of a = first K V S Sort production first_table nullable_table a

  abbrev follow_last_of : {A : Type 0} → Part K V S Sort A → K → Bool
  follow_last_of a = follow_last K V S Sort production first_table nullable_table follow_last_table a

  -- no sight passes both tests; and each that passes the first passes the second
  abbrev pub never_both : (K → Bool) → (K → Bool) → Bool
  never_both f h = each (λ t. not (f t && h t))

  abbrev pub implies : (K → Bool) → (K → Bool) → Bool
  implies f h = each (λ t. not (f t) || h t)

  abbrev pub decides : {A : Type 0} → Part K V S Sort A → Bool
  decides (terminal f) = true
  decides (nonterminal s) = true
  decides (both a b) = decides a && (decides b && never_both (follow_last_of a) (first_of b))
  decides (either a b) = decides a && (decides b && (never_both (first_of a) (first_of b) && (not (is_nullable a) && not (is_nullable b))))
  decides (maybe a) = decides a && not (is_nullable a)
  decides (many a) = decides a && (not (is_nullable a) && never_both (follow_last_of a) (first_of a))
  decides (then_if a goes b) = decides a && (decides b && (never_both (follow_last_of a) (first_of b) && (not (is_nullable a) && not (is_nullable b))))
  decides (when f a) = decides a && not (is_nullable a)
  decides (nest a) = decides a && not (is_nullable a)
  decides (counts a) = decides a && not (is_nullable a)
  decides (limited a) = decides a
  decides (gives f a) = decides a

  -- no terminal in it takes a sight that passes the test, and of nonterminals it calls only clean ones
  abbrev pub avoids : (K → Bool) → (S → Bool) → {A : Type 0} → Part K V S Sort A → Bool
  avoids f clean (terminal h) = never_both h f
  avoids f clean (nonterminal s) = clean s
  avoids f clean (both a b) = avoids f clean a && avoids f clean b
  avoids f clean (either a b) = avoids f clean a && avoids f clean b
  avoids f clean (maybe a) = avoids f clean a
  avoids f clean (many a) = avoids f clean a
  avoids f clean (then_if a goes b) = avoids f clean a && avoids f clean b
  avoids f clean (when h a) = avoids f clean a
  avoids f clean (nest a) = avoids f clean a
  avoids f clean (counts a) = avoids f clean a
  avoids f clean (limited a) = avoids f clean a
  avoids f clean (gives h a) = avoids f clean a

  -- what the tables say of a nonterminal is what its production says
  abbrev pub is_table : S → Bool
  is_table s =
      decides (production s) && (same (is_nullable (production s)) (nullable_table s) && (implies (first_of (production s)) (first_table s) && (implies (first_table s) (first_of (production s)) && implies (follow_last_of (production s)) (follow_last_table s))))
