-- A cut stops at one place, and `stop_at` finds it.
use Rattle.std.proofs.Common.{◌≡◌, ◌<◌, ◌≤◌, ◌⊎◌, ℕ, zero, suc, ◌+◌, Bool, true, false, cond, List, [], ◌∷◌, length, take, refl, arith, nat_lt}
use Rattle.std.proofs.lemmas.Grind.{common_steps}
use mathlib.Core.Logic.{inl, inr}
use Rattle.sw_lex.specs.declared.lexemes.Lexeme.{Lexeme}
use Rattle.sw_lex.specs.Lexemes.{size_of}
use Rattle.sw_lex.specs.Cut.{Opens, is_inside, after, open_after, total}
use Rattle.sw_lex.specs.Rules.{IsStopOffset}
use Rattle.sw_lex.specs.FirstBroken.{stop_at}

-- whether a string is open after the first so many, where these brackets are open before
abbrev is_open : Opens → List Lexeme → ℕ → Bool
is_open opens items count = is_inside (open_after opens (take count items))

-- no string is open at `found`, and one is open after it
abbrev Outside : Opens → List Lexeme → ℕ → ℕ → Type 0
Outside opens items at found =
    (count : ℕ) × (count ≤ length items) × (at + total (take count items) ≡ found) × (is_open opens items count ≡ false)
    × ((more : ℕ) → count < more → more ≤ length items → is_open opens items more ≡ true)

abbrev AllInside : Opens → List Lexeme → Type 0
AllInside opens items = (more : ℕ) → more ≤ length items → is_open opens items more ≡ true

abbrev Stops : Opens → List Lexeme → ℕ → ℕ → ℕ → Type 0
Stops opens items at outer found = Outside opens items at found ⊎ (AllInside opens items × (found ≡ outer))

none_more : (opens : Opens) → is_inside opens ≡ true → AllInside opens []
none_more opens e zero h = e
none_more opens e (suc n) h = absurd (omega arith)

all_more : (opens : Opens) (item : Lexeme) (items : List Lexeme) → is_inside opens ≡ true → AllInside (after opens item) items → AllInside opens (item ∷ items)
all_more opens item items e h zero l = e
all_more opens item items e h (suc n) l = h n (omega arith)

later : (opens : Opens) (item : Lexeme) (items : List Lexeme) (count : ℕ) → ((more : ℕ) → count < more → more ≤ length items → is_open (after opens item) items more ≡ true)
    → (more : ℕ) → suc count < more → more ≤ length (item ∷ items) → is_open opens (item ∷ items) more ≡ true
later opens item items count h zero b l = absurd (omega arith)
later opens item items count h (suc n) b l = h n (omega arith) (omega arith)

after_one : (opens : Opens) (item : Lexeme) (items : List Lexeme) → AllInside (after opens item) items → (more : ℕ) → 0 < more → more ≤ length (item ∷ items) → is_open opens (item ∷ items) more ≡ true
after_one opens item items h zero b l = absurd (omega arith)
after_one opens item items h (suc n) b l = h n (omega arith)

stops_none : (t : Bool) (at outer : ℕ) (opens : Opens) → is_inside opens ≡ t → Stops opens [] at outer (cond t outer at)
stops_none true at outer opens e = inr (none_more opens e, refl)
stops_none false at outer opens e = inl (0, omega arith, omega arith, e, λ more b l. absurd (omega (arith, b, l)))

stops_one : (t : Bool) (at outer found : ℕ) (opens : Opens) (item : Lexeme) (items : List Lexeme) → is_inside opens ≡ t
    → Stops (after opens item) items (at + size_of item) (cond t outer at) found → Stops opens (item ∷ items) at outer found
stops_one t at outer found opens item items e (inl o) = inl (suc o.0, omega (arith, o.1), omega (arith, o.2), o.3, later opens item items o.0 o.4)
stops_one true at outer found opens item items e (inr a) = inr (all_more opens item items e a.0, a.1)
stops_one false at outer found opens item items e (inr a) = inl (0, omega arith, omega (arith, a.1), e, after_one opens item items a.0)

stops : (at outer : ℕ) (opens : Opens) (items : List Lexeme) → Stops opens items at outer (stop_at at outer opens items)
stops at outer opens [] = stops_none (is_inside opens) at outer opens refl
stops at outer opens (item ∷ items) = stops_one (is_inside opens) at outer _ opens item items refl (stops (at + size_of item) (cond (is_inside opens) outer at) (after opens item) items)

pub stop_place : (items : List Lexeme) → IsStopOffset items (stop_at 0 0 [] items)
stop_place items = go (stops 0 0 [] items)
  where
    go : Stops [] items 0 0 (stop_at 0 0 [] items) → IsStopOffset items (stop_at 0 0 [] items)
    go (inl o) = record { count = o.0; within = o.1; ends = omega (arith, o.2); outside = o.3; inside = o.4 }
    go (inr a) = let none : is_open [] items 0 ≡ true = a.0 0 (omega arith) in absurd (cc)

pub one_place : (items : List Lexeme) (a b : ℕ) → IsStopOffset items a → IsStopOffset items b → a ≡ b
one_place items a b p q = go (nat_lt p.count q.count) (nat_lt q.count p.count) refl refl
  where
    go : (s t : Bool) → nat_lt p.count q.count ≡ s → nat_lt q.count p.count ≡ t → a ≡ b
    go true t e f = let l : p.count < q.count = grind (arith, common_steps) in absurd (let i = p.inside q.count l q.within in cc (q.outside))
    go false true e f = let l : q.count < p.count = grind (arith, common_steps) in absurd (let i = q.inside p.count l p.within in cc (p.outside))
    go false false e f = let same : p.count ≡ q.count = grind (arith, common_steps) in cc (p.ends, q.ends)

total_within : (count : ℕ) (items : List Lexeme) → total (take count items) ≤ total items
total_within zero items = omega arith
total_within (suc n) [] = omega arith
total_within (suc n) (item ∷ items) = omega (arith, total_within n items)

pub stop_within : (items : List Lexeme) (at : ℕ) → IsStopOffset items at → at ≤ total items
stop_within items at p = omega (arith, total_within p.count items, p.ends)
