-- The token at a place is the one after the run that ends there.
use Rattle.std.proofs.Common.{◌≡◌, ◌+◌, ◌-◌, ◌⊎◌, inl, inr, ℕ, zero, suc, Bool, true, false, List, [], ◌∷◌, ◌++◌, Some, slice_get, drop, length, refl, sym, ap, ◌∙◌, arith, length-append, append_assoc}
use Rattle.std.proofs.lemmas.List.{drop-drop, drop_at}
use Rattle.sw_lex.specs.declared.token.TokenKind.TheVariants as k
use Rattle.sw_grammar.specs.Reading.{at_first}
use Rattle.sw_syntax.specs.declared.class.Sight.{Sight}
use Rattle.sw_syntax.specs.Tokens.{Sighted}
use Rattle.sw_syntax.specs.Tests.{is}
use Rattle.sw_lex.specs.declared.token.Token.{Token}
use Rattle.sw_syntax.specs.Refusals.{EndsIn, StandsAt}
use Rattle.sw_syntax.specs.Reaching.{IsAwaitTry}

pub rest_at : (S : List Sighted) (at position : ℕ) (run rest : List Sighted) → drop at S ≡ run ++ rest → at + length run ≡ position → drop position S ≡ rest
rest_at S at position run rest e n = ap (λ i. drop i S) (sym n) ∙ sym (drop-drop (length run) at S) ∙ ap (λ l. drop (length run) l) e ∙ drop_at run rest (length run) refl

pub first_at : (f : Sight → Bool) (S : List Sighted) (at position : ℕ) (run rest : List Sighted) (next : Sighted) → drop at S ≡ run ++ next ∷ rest → at + length run ≡ position → at_first f (drop position S) ≡ f next.sight
first_at f S at position run rest next e n = ap (λ l. at_first f l) (rest_at S at position run (next ∷ rest) e n)

last_of : {T : Type 0} (u : List T) → (u ≡ []) ⊎ ((prefix : List T) × (last : T) × (u ≡ prefix ++ last ∷ []))
last_of [] = inl refl
last_of (x ∷ u) = step (last_of u)
  where
    step : (u ≡ []) ⊎ ((prefix : List _) × (last : _) × (u ≡ prefix ++ last ∷ [])) → ((x ∷ u) ≡ []) ⊎ ((prefix : List _) × (last : _) × ((x ∷ u) ≡ prefix ++ last ∷ []))
    step (inl e) = inr ([], x, ap (λ l. x ∷ l) e)
    step (inr (prefix, last, e)) = inr (x ∷ prefix, last, ap (λ l. x ∷ l) e)

-- the last of the run stands before the place
last_at : (f : Sight → Bool) (S : List Sighted) (at position : ℕ) (run rest prefix : List Sighted) (next last : Sighted) → drop at S ≡ run ++ next ∷ rest → at + length run ≡ position → run ≡ prefix ++ last ∷ [] → at_first f (drop (position - 1) S) ≡ f last.sight
last_at f S at position run rest prefix next last e n er =
    first_at f S at (position - 1) prefix (next ∷ rest) last (e ∙ ap (λ r. r ++ next ∷ rest) er ∙ append_assoc prefix (last ∷ []) (next ∷ rest))
    (let l = ap length er ∙ length-append prefix (last ∷ []) in omega (arith, l, n))

pub ends_in : (f : Sight → Bool) (S : List Sighted) (at position : ℕ) (run rest : List Sighted) (next : Sighted) → drop at S ≡ run ++ next ∷ rest → at + length run ≡ position → (position ≡ at → ⊥) → at_first f (drop (position - 1) S) ≡ true → EndsIn f run
ends_in f S at position run rest next e n other is = go (last_of run)
  where
    go : (run ≡ []) ⊎ ((prefix : List Sighted) × (last : Sighted) × (run ≡ prefix ++ last ∷ [])) → EndsIn f run
    go (inl er) = absurd (other (let l = ap length er in omega (arith, l, n)))
    go (inr (prefix, last, er)) = (prefix, last, er, sym (last_at f S at position run rest prefix next last e n er) ∙ is)

pub ends_not : (f : Sight → Bool) (S : List Sighted) (at position : ℕ) (run rest : List Sighted) (next : Sighted) → drop at S ≡ run ++ next ∷ rest → at + length run ≡ position → at_first f (drop (position - 1) S) ≡ false → EndsIn f run → ⊥
ends_not f S at position run rest next e n is (prefix, last, er, h) = false_true (f last.sight) h (sym (last_at f S at position run rest prefix next last e n er) ∙ is)
  where
    false_true : (b : Bool) → b ≡ true → b ≡ false → ⊥
    false_true b p q = cc

pub not_empty : (f : Sight → Bool) (S : List Sighted) (at position : ℕ) (run rest : List Sighted) (next : Sighted) → at + length run ≡ position → position ≡ at → EndsIn f run → ⊥
not_empty f S at position run rest next n same (prefix, last, er, h) = let l = ap length er ∙ length-append prefix (last ∷ []) in omega (arith, l, n, same)

-- ---- `await` before `try`

pub both_there : (S : List Sighted) (at position : ℕ) → (position ≡ at → ⊥) → at_first (is k.Await) (drop (position - 1) S) ≡ true → at_first (is k.Try) (drop position S) ≡ true
    → (run : List Sighted) (next : Sighted) (rest : List Sighted) → drop at S ≡ run ++ next ∷ rest → at + length run ≡ position → IsAwaitTry run next
both_there S at position other a t run next rest e n = (ends_in (is k.Await) S at position run rest next e n other a, sym (first_at (is k.Try) S at position run rest next e n) ∙ t)

pub no_await : (S : List Sighted) (at position : ℕ) → at_first (is k.Await) (drop (position - 1) S) ≡ false
    → (run : List Sighted) (next : Sighted) (rest : List Sighted) → drop at S ≡ run ++ next ∷ rest → at + length run ≡ position → IsAwaitTry run next → ⊥
no_await S at position a run next rest e n h = ends_not (is k.Await) S at position run rest next e n a h.0

pub no_try : (S : List Sighted) (at position : ℕ) → at_first (is k.Try) (drop position S) ≡ false
    → (run : List Sighted) (next : Sighted) (rest : List Sighted) → drop at S ≡ run ++ next ∷ rest → at + length run ≡ position → IsAwaitTry run next → ⊥
no_try S at position t run next rest e n h = clash (is k.Try next.sight) h.1 (sym (first_at (is k.Try) S at position run rest next e n) ∙ t)
  where
    clash : (b : Bool) → b ≡ true → b ≡ false → ⊥
    clash b p q = cc

pub no_run : (S : List Sighted) (at position : ℕ) → position ≡ at → (run : List Sighted) (next : Sighted) (rest : List Sighted) → drop at S ≡ run ++ next ∷ rest → at + length run ≡ position → IsAwaitTry run next → ⊥
no_run S at position same run next rest e n h = not_empty (is k.Await) S at position run rest next n same h.0

-- ---- the span of a token that is there

pub stands_at : (tokens : List Token) (position : ℕ) (t : Token) → slice_get tokens position ≡ Some t → StandsAt tokens position t.span
stands_at [] position t h = absurd (cc (h))
stands_at (first ∷ rest) zero t h = let same : first ≡ t = cc (h) in (first, rest, refl, ap (λ (t : Token). t.span) (sym same))
stands_at (first ∷ rest) (suc position) t h = stands_at rest position t h
