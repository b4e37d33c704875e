-- How places follow each other: a byte after another follows it, and places go on.
use Rattle.std.proofs.Common.{◌≡◌, ◌<◌, ◌≤◌, ℕ, zero, suc, ◌+◌, ◌-◌, Bool, true, false, cond, [], ◌∷◌, ◌++◌, length, take, drop, slice_index, refl, ap, sym, ◌∙◌, subst, arith, ◌==◌, take-add}
use Rattle.std.proofs.lemmas.List.{length-take}
use mathlib.Core.Logic.{inl, inr}
use Rattle.sw_base.specs.declared.ids.Span.{Span}
use Rattle.sw_rules.specs.Refusal.{StandsBefore}
use Rattle.sw_lex.specs.Bytes.{Text}
use Rattle.sw_lex.specs.Tokens.{after_byte, moved, origin, place_at}
use Rattle.sw_lex.specs.Scanning.{IsNear}

pub stands_more : (a b c : Span) → StandsBefore a b → StandsBefore b c → StandsBefore a c
stands_more a b c (inl p) (inl q) = inl (omega (arith, p, q))
stands_more a b c (inl p) (inr q) = inl (omega (arith, p, q.0))
stands_more a b c (inr p) (inl q) = inl (omega (arith, p.0, q))
stands_more a b c (inr p) (inr q) = inr (omega (arith, p.0, q.0), omega (arith, p.1, q.1))

after_one : (place : Span) (byte : ℕ) → StandsBefore place (after_byte place byte)
after_one place byte = go (byte == 10)
  where
    go : (t : Bool) → StandsBefore place (cond t (record { line = place.line + 1; column = 1 }) (record { line = place.line; column = place.column + 1 }))
    go true = inl (omega arith)
    go false = inr (refl, omega arith)

after_some : (place : Span) (byte : ℕ) (bytes : Text) → StandsBefore place (moved (after_byte place byte) bytes)
after_some place byte [] = after_one place byte
after_some place byte (next ∷ bytes) = stands_more place (after_byte place byte) (moved (after_byte (after_byte place byte) next) bytes) (after_one place byte) (after_some (after_byte place byte) next bytes)

pub moves : (place : Span) (a b : ℕ) (bytes : Text) → a < b → b ≤ length bytes → StandsBefore (moved place (take a bytes)) (moved place (take b bytes))
moves place a zero bytes p l = absurd (omega arith)
moves place a (suc b) [] p l = absurd (omega arith)
moves place zero (suc b) (byte ∷ bytes) p l = after_some place byte (take b bytes)
moves place (suc a) (suc b) (byte ∷ bytes) p l = moves (after_byte place byte) a b bytes (omega arith) (omega arith)

pub stands_after : (source : Text) (a b : ℕ) → a < b → b ≤ length source → StandsBefore (place_at source a) (place_at source b)
stands_after source a b p l = moves origin a b source p l

-- ---- places go on

moved_append : (place : Span) (prefix back : Text) → moved place (prefix ++ back) ≡ moved (moved place prefix) back
moved_append place [] back = refl
moved_append place (byte ∷ prefix) back = moved_append (after_byte place byte) prefix back

pub moved_one : (place : Span) (n : ℕ) (bytes : Text) → n < length bytes → after_byte (moved place (take n bytes)) (slice_index bytes n) ≡ moved place (take (suc n) bytes)
moved_one place n [] h = absurd (omega arith)
moved_one place zero (byte ∷ bytes) h = refl
moved_one place (suc n) (byte ∷ bytes) h = moved_one (after_byte place byte) n bytes (omega arith)

-- by the place of its last byte
pub moved_last : (place : Span) (size : ℕ) (bytes : Text) → 1 ≤ size → size ≤ length bytes → after_byte (moved place (take (size - 1) bytes)) (slice_index bytes (size - 1)) ≡ moved place (take size bytes)
moved_last place zero bytes some within = absurd (omega arith)
moved_last place (suc n) bytes some within =
    let less : suc n - 1 ≡ n = omega arith in
    subst (λ k. after_byte (moved place (take k bytes)) (slice_index bytes k) ≡ moved place (take (suc n) bytes)) (sym less) (moved_one place n bytes (omega arith))

-- the place so many bytes after an offset
pub moved_more : (place : Span) (bytes : Text) (at n : ℕ) → moved (moved place (take at bytes)) (take n (drop at bytes)) ≡ moved place (take (at + n) bytes)
moved_more place bytes at n = sym (ap (moved place) (take-add at n bytes) ∙ moved_append place (take at bytes) (take n (drop at bytes)))

pub place_more : (source : Text) (at n : ℕ) → moved (place_at source at) (take n (drop at source)) ≡ place_at source (at + n)
place_more source at n = moved_more origin source at n

moved_near : (place : Span) (n : ℕ) (bytes : Text) → place.line ≤ 1 + n → place.column ≤ 1 + n → IsNear (n + length bytes) (moved place bytes)
moved_near place n [] l c = (omega arith, omega arith)
moved_near place n (byte ∷ bytes) l c =
    let next = after_near place n byte l c in
    let size : n + 1 + length bytes ≡ n + length (byte ∷ bytes) = omega arith in
    subst (λ k. IsNear k (moved (after_byte place byte) bytes)) size (moved_near (after_byte place byte) (n + 1) bytes next.0 next.1)
  where
    after_near : (place : Span) (n byte : ℕ) → place.line ≤ 1 + n → place.column ≤ 1 + n → IsNear (n + 1) (after_byte place byte)
    after_near place n byte l c = go (byte == 10)
      where
        go : (t : Bool) → IsNear (n + 1) (cond t (record { line = place.line + 1; column = 1 }) (record { line = place.line; column = place.column + 1 }))
        go true = (omega arith, omega arith)
        go false = (omega arith, omega arith)

-- the place of an offset is no further from the first than the offset
pub place_near : (source : Text) (at : ℕ) → IsNear at (place_at source at)
place_near source at =
    let p = moved_near origin 0 (take at source) (omega arith) (omega arith) in
    let short : length (take at source) ≤ at = omega (arith, length-take at source) in
    (omega (arith, p.0, short), omega (arith, p.1, short))
