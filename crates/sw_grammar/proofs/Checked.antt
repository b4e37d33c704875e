-- What the computation finds is so.
use Rattle.std.proofs.Common.{◌≡◌, Bool, true, false, not, ◌||◌, ◌&&◌, refl}
use Rattle.sw_grammar.specs.Grammar as g
use Rattle.sw_grammar.specs.Grammar.{Part}
use Rattle.sw_grammar.specs.Reading.{nullable, first}
use Rattle.sw_grammar.specs.Deciding.{Apart, follow_last, Decided, IsTable}
use Rattle.sw_grammar.specs.Avoiding.{Avoids}
use Rattle.sw_grammar.specs.Checking.{same, never_both, implies, decides, avoids, is_table}
use Rattle.sw_grammar.proofs.Starts.{and_halves}

not_both : (a b : Bool) → not (a && b) ≡ true → a ≡ true → b ≡ true → ⊥
not_both true b e p q = cc
not_both false b e p q = cc

implied : (a b : Bool) → (not a || b) ≡ true → a ≡ true → b ≡ true
implied true b e p = e
implied false b e p = cc

is_false : (a : Bool) → not a ≡ true → a ≡ false
is_false true e = cc
is_false false e = refl

same_bool : (a b : Bool) → same a b ≡ true → a ≡ b
same_bool true true e = refl
same_bool true false e = cc
same_bool false true e = cc
same_bool false false e = refl

module _ (K V S : Type 0) (Sort : S → Type 0) (production : (s : S) → Part K V S Sort (Sort s)) (first_table : S → K → Bool) (nullable_table : S → Bool) (follow_last_table : S → K → Bool)
    (each : (K → Bool) → Bool) (at_each : (p : K → Bool) → each p ≡ true → (t : K) → p t ≡ true) where
  abbrev nul : {A : Type 0} → Part K V S Sort A → Bool
  nul a = nullable K V S Sort production first_table nullable_table a

  abbrev fst : {A : Type 0} → Part K V S Sort A → K → Bool
  fst a = first K V S Sort production first_table nullable_table a

  abbrev cnt : {A : Type 0} → Part K V S Sort A → K → Bool
  cnt a = follow_last K V S Sort production first_table nullable_table follow_last_table a

  abbrev Ok : {A : Type 0} → Part K V S Sort A → Type 0
  Ok a = Decided K V S Sort production first_table nullable_table follow_last_table a

  abbrev ok : {A : Type 0} → Part K V S Sort A → Bool
  ok a = decides K V S Sort production first_table nullable_table follow_last_table each a

  abbrev none : (K → Bool) → (K → Bool) → Bool
  none f h = never_both K V S Sort production first_table nullable_table follow_last_table each f h

  abbrev all : (K → Bool) → (K → Bool) → Bool
  all f h = implies K V S Sort production first_table nullable_table follow_last_table each f h

  apart : (f h : K → Bool) → none f h ≡ true → Apart f h
  apart f h e t = not_both (f t) (h t) (at_each (λ t. not (f t && h t)) e t)

  follows : (f h : K → Bool) → all f h ≡ true → (t : K) → f t ≡ true → h t ≡ true
  follows f h e t = implied (f t) (h t) (at_each (λ t. not (f t) || h t) e t)

  decided : {A : Type 0} (a : Part K V S Sort A) → ok a ≡ true → Ok a
  decided (g.terminal f) e = tt
  decided (g.nonterminal s) e = tt
  decided (g.both a b) e =
      let (ea, r) = and_halves (ok a) (ok b && none (cnt a) (fst b)) e in
      let (eb, n) = and_halves (ok b) (none (cnt a) (fst b)) r in
      (decided a ea, decided b eb, apart (cnt a) (fst b) n)
  decided (g.either a b) e =
      let (ea, r) = and_halves (ok a) (ok b && (none (fst a) (fst b) && (not (nul a) && not (nul b)))) e in
      let (eb, r2) = and_halves (ok b) (none (fst a) (fst b) && (not (nul a) && not (nul b))) r in
      let (n, r3) = and_halves (none (fst a) (fst b)) (not (nul a) && not (nul b)) r2 in
      let (na, nb) = and_halves (not (nul a)) (not (nul b)) r3 in
      (decided a ea, decided b eb, apart (fst a) (fst b) n, is_false (nul a) na, is_false (nul b) nb)
  decided (g.maybe a) e = let (ea, n) = and_halves (ok a) (not (nul a)) e in (decided a ea, is_false (nul a) n)
  decided (g.many a) e =
      let (ea, r) = and_halves (ok a) (not (nul a) && none (cnt a) (fst a)) e in
      let (na, n) = and_halves (not (nul a)) (none (cnt a) (fst a)) r in
      (decided a ea, is_false (nul a) na, apart (cnt a) (fst a) n)
  decided (g.then_if a goes b) e =
      let (ea, r) = and_halves (ok a) (ok b && (none (cnt a) (fst b) && (not (nul a) && not (nul b)))) e in
      let (eb, r2) = and_halves (ok b) (none (cnt a) (fst b) && (not (nul a) && not (nul b))) r in
      let (n, r3) = and_halves (none (cnt a) (fst b)) (not (nul a) && not (nul b)) r2 in
      let (na, nb) = and_halves (not (nul a)) (not (nul b)) r3 in
      (decided a ea, decided b eb, apart (cnt a) (fst b) n, is_false (nul a) na, is_false (nul b) nb)
  decided (g.when f a) e = let (ea, n) = and_halves (ok a) (not (nul a)) e in (decided a ea, is_false (nul a) n)
  decided (g.nest a) e = let (ea, n) = and_halves (ok a) (not (nul a)) e in (decided a ea, is_false (nul a) n)
  decided (g.counts a) e = let (ea, n) = and_halves (ok a) (not (nul a)) e in (decided a ea, is_false (nul a) n)
  decided (g.limited a) e = decided a e
  decided (g.gives f a) e = decided a e

  module _ (f : K → Bool) (clean : S → Bool) where
    abbrev free : {A : Type 0} → Part K V S Sort A → Bool
    free a = avoids K V S Sort production first_table nullable_table follow_last_table each f clean a

    pub avoids_checked : {A : Type 0} (a : Part K V S Sort A) → free a ≡ true → Avoids K V S Sort f clean a
    avoids_checked (g.terminal h) e = apart h f e
    avoids_checked (g.nonterminal s) e = e
    avoids_checked (g.both a b) e = let (ea, eb) = and_halves (free a) (free b) e in (avoids_checked a ea, avoids_checked b eb)
    avoids_checked (g.either a b) e = let (ea, eb) = and_halves (free a) (free b) e in (avoids_checked a ea, avoids_checked b eb)
    avoids_checked (g.maybe a) e = avoids_checked a e
    avoids_checked (g.many a) e = avoids_checked a e
    avoids_checked (g.then_if a goes b) e = let (ea, eb) = and_halves (free a) (free b) e in (avoids_checked a ea, avoids_checked b eb)
    avoids_checked (g.when h a) e = avoids_checked a e
    avoids_checked (g.nest a) e = avoids_checked a e
    avoids_checked (g.counts a) e = avoids_checked a e
    avoids_checked (g.limited a) e = avoids_checked a e
    avoids_checked (g.gives h a) e = avoids_checked a e

  -- the tables are those of the production, where the computation says so
  pub table_checked : (s : S) → is_table K V S Sort production first_table nullable_table follow_last_table each s ≡ true → IsTable K V S Sort production first_table nullable_table follow_last_table s
  table_checked s e =
      let (ok_rule, r) = and_halves (ok (production s)) (same (nul (production s)) (nullable_table s) && (all (fst (production s)) (first_table s) && (all (first_table s) (fst (production s)) && all (cnt (production s)) (follow_last_table s)))) e in
      let (empty, r2) = and_halves (same (nul (production s)) (nullable_table s)) (all (fst (production s)) (first_table s) && (all (first_table s) (fst (production s)) && all (cnt (production s)) (follow_last_table s))) r in
      let (head, r3) = and_halves (all (fst (production s)) (first_table s)) (all (first_table s) (fst (production s)) && all (cnt (production s)) (follow_last_table s)) r2 in
      let (only, tail) = and_halves (all (first_table s) (fst (production s))) (all (cnt (production s)) (follow_last_table s)) r3 in
      record {
        decided = decided (production s) ok_rule;
        empty = same_bool (nul (production s)) (nullable_table s) empty;
        head = follows (fst (production s)) (first_table s) head;
        only = follows (first_table s) (fst (production s)) only;
        tail = follows (cnt (production s)) (follow_last_table s) tail;
      }
