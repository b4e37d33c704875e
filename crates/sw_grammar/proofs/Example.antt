-- A small grammar that one token ahead decides, and what is read of some runs: sums in brackets, where signs are counted.
use Rattle.std.proofs.Common.{◌≡◌, ℕ, suc, ◌<◌, Bool, true, false, ◌||◌, List, [], ◌∷◌, map, length, refl, lit<}
use Rattle.sw_grammar.specs.Grammar.{Token, Part, terminal, nonterminal, both, either, many, nest, counts, limited, gives}
use Rattle.sw_grammar.specs.Reading.{over_budget, unexpected, Out, got, rejected, reads}
use Rattle.sw_grammar.specs.Deciding.{Apart, IsTable, IsDecided, Leads}
use Rattle.sw_grammar.proofs.Whole.{reads_in}

data Kind : Type 0 where
  One : Kind
  Plus : Kind
  Left : Kind
  Right : Kind

abbrev is_one : Kind → Bool
is_one One = true
is_one Plus = false
is_one Left = false
is_one Right = false

abbrev is_plus : Kind → Bool
is_plus One = false
is_plus Plus = true
is_plus Left = false
is_plus Right = false

abbrev is_left : Kind → Bool
is_left One = false
is_left Plus = false
is_left Left = true
is_left Right = false

abbrev is_right : Kind → Bool
is_right One = false
is_right Plus = false
is_right Left = false
is_right Right = true

data Nonterminal : Type 0 where
  Sum : Nonterminal
  Term : Nonterminal

abbrev Sort : Nonterminal → Type 0
Sort s = ℕ

abbrev P : Type 0 → Type 1
P A = Part Kind (Unit {0}) Nonterminal Sort A

-- a token is its kind
abbrev tok : Kind → Token Kind (Unit {0})
tok kind = record { sight = kind; face = tt }

-- its value is the number of its terms, those in brackets being one
abbrev production : (s : Nonterminal) → P (Sort s)
production Sum = gives (λ x. suc (length x.1)) (both (nonterminal Term) (many (both (counts (terminal is_plus)) (nonterminal Term))))
production Term = either (gives (λ t. 1) (terminal is_one)) (gives (λ x. 1) (nest (both (terminal is_left) (both (limited (nonterminal Sum)) (terminal is_right)))))

abbrev first_table : Nonterminal → Kind → Bool
first_table s t = is_one t || is_left t

abbrev follow_last_table : Nonterminal → Kind → Bool
follow_last_table Sum t = is_plus t
follow_last_table Term t = false

abbrev nullable_table : Nonterminal → Bool
nullable_table s = false

abbrev rank : Nonterminal → ℕ
rank Sum = 1
rank Term = 0

never : (f : Kind → Bool) → Apart (λ t. false) f
never f t p q = cc

right_sum : Apart is_plus is_right
right_sum One p q = cc
right_sum Plus p q = cc
right_sum Left p q = cc
right_sum Right p q = cc

one_left : Apart is_one is_left
one_left One p q = cc
one_left Plus p q = cc
one_left Left p q = cc
one_left Right p q = cc

decides : IsDecided Kind (Unit {0}) Nonterminal Sort production first_table nullable_table follow_last_table rank 2
decides = record { table = table; low = low; leads = leads }
  where
    table : (s : Nonterminal) → IsTable Kind (Unit {0}) Nonterminal Sort production first_table nullable_table follow_last_table s
    table Sum = record {
      decided = (tt, (((tt, refl), tt, never (first_table Term)), refl, never is_plus), never is_plus);
      empty = refl;
      head = λ t h. h;
      only = λ t h. h;
      tail = tail_sum;
    }
      where
        tail_sum : (t : Kind) → ((is_plus t || false) || (is_plus t || false)) ≡ true → is_plus t ≡ true
        tail_sum One h = cc
        tail_sum Plus h = refl
        tail_sum Left h = cc
        tail_sum Right h = cc
    table Term = record {
      decided = (tt, ((tt, (tt, tt, right_sum), never (first_table Sum)), refl), one_left, refl, refl);
      empty = refl;
      head = λ t h. h;
      only = λ t h. h;
      tail = λ t h. h;
    }

    low : (s : Nonterminal) → rank s < 2
    low Sum = lit< tt
    low Term = lit< tt

    leads : (s : Nonterminal) → Leads Kind (Unit {0}) Nonterminal Sort production first_table nullable_table follow_last_table rank (production s) (rank s)
    leads Sum = (lit< tt, λ h. cc)
    leads Term = (tt, (tt, λ h. cc))

abbrev read_sum : ℕ → ℕ → List Kind → Out (Token Kind (Unit {0})) ℕ
read_sum brackets signs ts = reads_in Kind (Unit {0}) Nonterminal Sort production first_table nullable_table follow_last_table rank 2 decides Sum (record { brackets = brackets; left = signs; limit = signs }) (map tok ts)

-- a sentence, and no more signs may be counted
text : read_sum 1 1 (One ∷ Plus ∷ One ∷ Right ∷ []) ≡ got 2 0 (map tok (Right ∷ []))
unfolding reads
text = refl

-- a count ends with its part: the sign in the brackets is not counted after them
text_in_brackets : read_sum 1 1 (Left ∷ One ∷ Plus ∷ One ∷ Right ∷ Plus ∷ One ∷ []) ≡ got 2 0 []
unfolding reads
text_in_brackets = refl

-- one sign too many
too_many : read_sum 1 1 (One ∷ Plus ∷ One ∷ Plus ∷ One ∷ []) ≡ rejected over_budget (map tok (Plus ∷ One ∷ []))
unfolding reads
too_many = refl

-- one bracket too many
too_deep : read_sum 1 1 (Left ∷ Left ∷ One ∷ []) ≡ rejected over_budget (map tok (Left ∷ One ∷ []))
unfolding reads
too_deep = refl

-- a token that goes on with no sentence, and the end where one is wanted
out_of_place : read_sum 1 1 (One ∷ Plus ∷ Plus ∷ []) ≡ rejected unexpected (map tok (Plus ∷ []))
unfolding reads
out_of_place = refl

at_the_end : read_sum 1 1 (Left ∷ One ∷ []) ≡ rejected unexpected []
unfolding reads
at_the_end = refl
