-- Tokens stand in the order of their places.
use Rattle.std.proofs.Common.{◌≡◌, ◌<◌, ◌≤◌, ℕ, ◌+◌, ◌-◌, Bool, true, false, cond, ◌==◌, List, [], ◌∷◌, length, drop, take, refl, sym, subst, arith, length-drop}
use Rattle.std.specs.List.{All, AllPairs}
use Rattle.std.proofs.lemmas.Grind.{common_steps}
use Rattle.std.proofs.lemmas.List.Elements.{All-nil, All-cons}
use Rattle.std.proofs.lemmas.List.Kept.{AllPairs-cons}
use mathlib.Core.Logic.{inl, inr, ◌⊎◌}
use Rattle.sw_base.specs.declared.ids.Span.{Span}
use Rattle.sw_rules.specs.Refusal.{StandsBefore}
use Rattle.sw_lex.specs.declared.token.Token.{Token as SourceToken}
use Rattle.sw_lex.specs.declared.lexemes.Lexeme.{Lexeme}
use Rattle.sw_lex.specs.declared.lexemes.Lexeme.TheVariants.{End, Gap, Token, Malformed, Unterminated}
use Rattle.sw_lex.specs.declared.emit.Here.{Here}
use Rattle.sw_lex.specs.Bytes.{Text}
use Rattle.sw_lex.specs.Lexemes.{size_of}
use Rattle.sw_lex.specs.Cut.{Opens, Cut, after, total}
use Rattle.sw_lex.specs.Tokens.{AreInOrder, here_after, end_place, moved, origin, place_at, start}
use Rattle.sw_lex.specs.Emitted.{emitted, tokens_of}
use Rattle.sw_lex.proofs.PlaceLemmas.{moves, moved_more, stands_after, stands_more}

-- the place stands before the token
abbrev IsAfter : Span → SourceToken → Type 0
IsAfter place token = StandsBefore place token.span

abbrev Rises : SourceToken → SourceToken → Type 0
Rises token later = StandsBefore token.span later.span

goes_on : (place : Span) (size : ℕ) (bytes : Text) → 0 < size → size ≤ length bytes → StandsBefore place (moved place (take size bytes))
goes_on place size bytes some within = moves place 0 size bytes some within

-- a place before all of the bytes, and before the end, stands before each token
all_after : (place end : Span) (here : Here) (opens : Opens) (valid : ℕ) (bytes : Text) (items : List Lexeme) (stop : Lexeme) → Cut opens valid bytes items stop → total items ≤ length bytes
    → StandsBefore place here.place → StandsBefore place end → All (IsAfter place) (emitted end here bytes items)
all_after place end here opens valid bytes [] stop cut within before ends = All-cons (IsAfter place) _ [] ends (All-nil (IsAfter place))
all_after place end here opens valid bytes (item ∷ items) stop cut within before ends =
    go item cut.1 (omega (arith, within))
    (λ next. all_after place end (here_after here bytes item) (after opens item) (valid - size_of item) (drop (size_of item) bytes) items stop cut.2 (omega (arith, within, length-drop (size_of item) bytes)) next ends)
  where
    go : (x : Lexeme) → 0 < size_of x → size_of x ≤ length bytes
        → (StandsBefore place (here_after here bytes x).place → All (IsAfter place) (emitted end (here_after here bytes x) (drop (size_of x) bytes) items))
        → All (IsAfter place) (emitted end here bytes (x ∷ items))
    go (Gap size) some fits later = later (stands_more place here.place (moved here.place (take size bytes)) before (goes_on here.place size bytes some fits))
    go (Token kind size) some fits later =
        All-cons (IsAfter place) _ (emitted end (here_after here bytes (Token kind size)) (drop size bytes) items) before
        (later (stands_more place here.place (moved here.place (take size bytes)) before (goes_on here.place size bytes some fits)))
    go End some fits later = absurd (omega (arith, some))
    go Malformed some fits later = absurd (omega (arith, some))
    go Unterminated some fits later = absurd (omega (arith, some))

-- where each byte stands before the end
in_order : (end : Span) (here : Here) (opens : Opens) (valid : ℕ) (bytes : Text) (items : List Lexeme) (stop : Lexeme) → Cut opens valid bytes items stop → total items ≤ length bytes
    → ((n : ℕ) → n < length bytes → StandsBefore (moved here.place (take n bytes)) end) → AllPairs Rises (emitted end here bytes items)
in_order end here opens valid bytes [] stop cut within ends = AllPairs-cons Rises _ [] (All-nil _) (λ i j d p q. absurd (omega (arith, q)))
in_order end here opens valid bytes (item ∷ items) stop cut within ends =
    go item cut.1 (omega (arith, within)) cut.2 (omega (arith, within, length-drop (size_of item) bytes))
    (λ next. in_order end (here_after here bytes item) (after opens item) (valid - size_of item) (drop (size_of item) bytes) items stop cut.2 (omega (arith, within, length-drop (size_of item) bytes)) next)
  where
    -- after so many bytes
    left : (size n : ℕ) → n < length (drop size bytes) → StandsBefore (moved (moved here.place (take size bytes)) (take n (drop size bytes))) end
    left size n l = subst (λ p. StandsBefore p end) (sym (moved_more here.place bytes size n)) (ends (size + n) (omega (arith, l, length-drop size bytes)))

    go : (x : Lexeme) → 0 < size_of x → size_of x ≤ length bytes → Cut (after opens x) (valid - size_of x) (drop (size_of x) bytes) items stop → total items ≤ length (drop (size_of x) bytes)
        → (((n : ℕ) → n < length (drop (size_of x) bytes) → StandsBefore (moved (here_after here bytes x).place (take n (drop (size_of x) bytes))) end) → AllPairs Rises (emitted end (here_after here bytes x) (drop (size_of x) bytes) items))
        → AllPairs Rises (emitted end here bytes (x ∷ items))
    go (Gap size) some fits rest short later = later (left size)
    go (Token kind size) some fits rest short later =
        AllPairs-cons Rises _ (emitted end (here_after here bytes (Token kind size)) (drop size bytes) items)
        (all_after here.place end (here_after here bytes (Token kind size)) (after opens (Token kind size)) (valid - size) (drop size bytes) items stop rest short (goes_on here.place size bytes some fits) (ends 0 (omega (arith, some, fits))))
        (later (left size))
    go End some fits rest short later = absurd (omega (arith, some))
    go Malformed some fits rest short later = absurd (omega (arith, some))
    go Unterminated some fits rest short later = absurd (omega (arith, some))

-- each byte of a source stands before its end
before_end : (source : Text) (n : ℕ) → n < length source → StandsBefore (place_at source n) (end_place source)
before_end source n l = go (length source == 0) refl
  where
    last : Span
    last = place_at source (length source - 1)

    past : Span
    past = record { line = last.line; column = last.column + 1 }

    to_last : (m : ℕ) → m + 1 ≡ length source → (n < m) ⊎ (n ≡ m) → StandsBefore (place_at source n) (record { line = (place_at source m).line; column = (place_at source m).column + 1 })
    to_last m e (inl less) = stands_more _ (place_at source m) _ (stands_after source n m less (omega (arith, e))) (inr (refl, omega arith))
    to_last m e (inr same) = subst (λ k. StandsBefore (place_at source n) (record { line = (place_at source k).line; column = (place_at source k).column + 1 })) same (inr (refl, omega arith))

    either : (m : ℕ) → m + 1 ≡ length source → (n < m) ⊎ (n ≡ m)
    either m e = grind (arith, l, e)

    go : (t : Bool) → (length source == 0) ≡ t
        → StandsBefore (place_at source n) (cond t origin (record { line = (place_at source (length source - 1)).line; column = (place_at source (length source - 1)).column + 1 }))
    go true e = let none : length source ≡ 0 = grind (arith, common_steps) in absurd (omega (arith, l, none))
    go false e = let m : length source - 1 + 1 ≡ length source = omega (arith, l) in to_last (length source - 1) m (either (length source - 1) m)

pub tokens_in_order : (source : Text) (valid : ℕ) (items : List Lexeme) (stop : Lexeme) → Cut [] valid source items stop → total items ≤ length source → AreInOrder (tokens_of source items)
tokens_in_order source valid items stop cut within = in_order (end_place source) start [] valid source items stop cut within (before_end source)
