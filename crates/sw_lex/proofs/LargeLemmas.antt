-- Where the code finds an integer that is too large, one stands in the cut.
use Rattle.std.proofs.Common.{◌≡◌, ◌<◌, ℕ, ◌+◌, true, List, [], ◌∷◌, ◌++◌, take, drop, refl, ap, sym, subst, arith}
use Rattle.std.proofs.lemmas.Grind.{common_steps}
use Rattle.std.proofs.lemmas.List.{drop-drop}
use mathlib.Core.Logic.{inl, inr}
use Rattle.sw_base.specs.Limits.{greatest_integer}
use Rattle.sw_lex.specs.declared.token.TokenKind.TheVariants as k
use Rattle.sw_lex.specs.declared.lexemes.Lexeme.{Lexeme}
use Rattle.sw_lex.specs.declared.lexemes.Lexeme.TheVariants.{Token}
use Rattle.sw_lex.specs.Bytes.{Text}
use Rattle.sw_lex.specs.Lexemes.{size_of}
use Rattle.sw_lex.specs.Cut.{CutOf, total}
use Rattle.sw_lex.specs.Rules.{HasTooLarge, number}
use Rattle.sw_lex.specs.FirstBroken.{FindsTooLarge, is_too_large}

large_is : (bytes : Text) (item : Lexeme) → is_too_large bytes item ≡ true → (size : ℕ) × (item ≡ Token k.Integer size) × (greatest_integer < number 0 (take size bytes))
large_is bytes (Token k.Integer size) h = (size, refl, grind (arith, common_steps))
large_is bytes item h = absurd (cc)

is_large : (bytes : Text) (size : ℕ) → greatest_integer < number 0 (take size bytes) → is_too_large bytes (Token k.Integer size) ≡ true
is_large bytes size h = grind (arith, common_steps)

-- an integer that is too large, after some of these
abbrev Large : ℕ → Text → List Lexeme → ℕ → Type 0
Large at bytes items place =
    (size : ℕ) × (before : List Lexeme) × (following : List Lexeme)
    × (items ≡ before ++ Token k.Integer size ∷ following) × (at + total before ≡ place) × (greatest_integer < number 0 (take size (drop (total before) bytes)))

found_large : (at : ℕ) (bytes : Text) (items : List Lexeme) (place : ℕ) → FindsTooLarge at bytes items place → Large at bytes items place
found_large at bytes [] place h = absurd h
found_large at bytes (item ∷ items) place (inl h) = let l = large_is bytes item h.1 in (l.0, [], items, ap (λ (x : Lexeme). x ∷ items) l.1, omega (arith, h.0), l.2)
found_large at bytes (item ∷ items) place (inr h) =
    let l = found_large (at + size_of item) (drop (size_of item) bytes) items place h in
    let same : drop (total l.1) (drop (size_of item) bytes) ≡ drop (size_of item + total l.1) bytes = drop-drop (total l.1) (size_of item) bytes in
    (l.0, item ∷ l.1, l.2, ap (λ (xs : List Lexeme). item ∷ xs) l.3, omega (arith, l.4), subst (λ (z : Text). greatest_integer < number 0 (take l.0 z)) same l.5)

finds_large : (at : ℕ) (bytes : Text) (before following : List Lexeme) (size place : ℕ) → at + total before ≡ place → greatest_integer < number 0 (take size (drop (total before) bytes))
    → FindsTooLarge at bytes (before ++ Token k.Integer size ∷ following) place
finds_large at bytes [] following size place e l = inl (omega (arith, e), is_large bytes size l)
finds_large at bytes (item ∷ before) following size place e l =
    let same : drop (size_of item + total before) bytes ≡ drop (total before) (drop (size_of item) bytes) = sym (drop-drop (total before) (size_of item) bytes) in
    inr (finds_large (at + size_of item) (drop (size_of item) bytes) before following size place (omega (arith, e)) (subst (λ (z : Text). greatest_integer < number 0 (take size z)) same l))

pub has_large : (source : Text) (whole : CutOf source) (at : ℕ) → FindsTooLarge 0 source whole.items at → HasTooLarge source at
has_large source whole at h =
    let l = found_large 0 source whole.items at h in
    let place : total l.1 ≡ at = omega (arith, l.4) in
    (whole, l.0, record { before = l.1; following = l.2; split = l.3; ends = place }, subst (λ n. greatest_integer < number 0 (take l.0 (drop n source))) place l.5)

pub large_found_at : (source : Text) (at : ℕ) → HasTooLarge source at → (whole : CutOf source) × FindsTooLarge 0 source whole.items at
large_found_at source at h =
    let here = h.2 in
    let l : greatest_integer < number 0 (take h.1 (drop (total here.before) source)) = subst (λ n. greatest_integer < number 0 (take h.1 (drop n source))) (sym here.ends) h.3 in
    (h.0, subst (λ (xs : List Lexeme). FindsTooLarge 0 source xs at) (sym here.split) (finds_large 0 source here.before here.following h.1 at (omega (arith, here.ends)) l))
