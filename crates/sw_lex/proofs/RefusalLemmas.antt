-- The first broken rule by offset is the refusal that precedes the others.
use Rattle.std.proofs.Common.{◌≡◌, ◌<◌, ◌≤◌, ℕ, ◌+◌, Some, List, [], ◌∷◌, length, drop, refl, sym, ◌∙◌, subst, arith}
use mathlib.Core.Logic.{inl, inr}
use Rattle.sw_base.specs.declared.ids.Span.{Span}
use Rattle.sw_rules.specs.declared.Rule.{Rule}
use Rattle.sw_rules.specs.declared.Rule.TheVariants.{L1, L2, L3, L4, L5}
use Rattle.sw_rules.specs.Rule.{rule_pass}
use Rattle.sw_rules.specs.Refusal.{StandsBefore}
use Rattle.sw_rules.specs.Pass as pass
use Rattle.sw_rules.proofs.Numbered.{first_at}
use Rattle.sw_rules.proofs.Passes.{same_first}
use Rattle.sw_lex.specs.declared.lexemes.Lexeme.{Lexeme}
use Rattle.sw_lex.specs.declared.lexemes.Lexeme.TheVariants.{Malformed, Unterminated}
use Rattle.sw_lex.specs.Bytes.{Text}
use Rattle.sw_lex.specs.Lexemes.{size_of}
use Rattle.sw_lex.specs.Cut.{Cut, IsValidPrefix, total}
use Rattle.sw_lex.specs.Tokens.{place_at}
use Rattle.sw_lex.specs.Rules.{Breaks, Refuses, IsStopOffset, StopsAt}
use Rattle.sw_lex.specs.FirstBroken.{FindsTooLarge, IsFirst}
use Rattle.sw_lex.proofs.FirstLemmas.{pair}
use Rattle.sw_lex.proofs.OneCut.{one_whole}
use Rattle.sw_lex.proofs.LargeLemmas.{large_found_at}
use Rattle.sw_lex.proofs.StopLemmas.{stop_within}
use Rattle.sw_lex.proofs.PlaceLemmas.{stands_after}

-- ---- a rule is broken within the source

large_within : (at place : ℕ) (bytes : Text) (items : List Lexeme) → FindsTooLarge at bytes items place → place ≤ at + total items
large_within at place bytes [] h = absurd h
large_within at place bytes (item ∷ items) (inl h) = omega (arith, h.0)
large_within at place bytes (item ∷ items) (inr h) = omega (arith, large_within (at + size_of item) place (drop (size_of item) bytes) items h)

broken_within : (source : Text) (valid : ℕ) (items : List Lexeme) (stop : Lexeme) → IsValidPrefix source valid → Cut [] valid source items stop → total items ≤ length source
    → (rule : Rule) (at : ℕ) → Breaks source rule at → at ≤ length source
broken_within source valid items stop g c l rule at h = go rule h
  where
    stopped : (own : Lexeme) → StopsAt source own at → at ≤ length source
    stopped own h = let p : IsStopOffset items at = subst (λ (xs : List Lexeme). IsStopOffset xs at) (one_whole source valid items stop g c h.0).0 h.2 in omega (arith, stop_within items at p, l)

    go : (rule : Rule) → Breaks source rule at → at ≤ length source
    go L1 h = omega (arith, h.short)
    go L2 h = stopped Malformed h
    go L3 h = stopped Unterminated h
    go L4 h = let f = large_found_at source at h in let p : FindsTooLarge 0 source items at = subst (λ (xs : List Lexeme). FindsTooLarge 0 source xs at) (one_whole source valid items stop g c f.0).0 f.1 in omega (arith, large_within 0 at source items p, l)
    go L5 h = omega (arith, h.0)
    go rule h = absurd h

-- ---- the first by offset precedes the others

of_tokens : (source : Text) (rule : Rule) (at : ℕ) → Breaks source rule at → rule_pass rule ≡ 1
of_tokens source L1 at h = refl
of_tokens source L2 at h = refl
of_tokens source L3 at h = refl
of_tokens source L4 at h = refl
of_tokens source L5 at h = refl
of_tokens source rule at h = absurd h

-- the byte at the offset, or the end of the source, stands at the place
abbrev StandsAt : Text → ℕ → Span → Type 0
StandsAt source at span = (at ≤ length source) × (span ≡ place_at source at)

rises : (source : Text) (i j : ℕ) (a b : Span) → i < j → StandsAt source i a → StandsAt source j b → StandsBefore a b
rises source i j a b less (_, p) (within, q) = rw (p, q) (stands_after source i j less within)

pub first_refusal : (source : Text) (valid : ℕ) (items : List Lexeme) (stop : Lexeme) → IsValidPrefix source valid → Cut [] valid source items stop → total items ≤ length source
    → (rule : Rule) (at : ℕ) (span : Span) → IsFirst (Breaks source) (Some (pair rule at)) → span ≡ place_at source at
    → pass.IsFirst (Refuses source) (record { rule = rule; span = span })
first_refusal source valid items stop g c l rule at span h p =
    same_first _ (Refuses source) (record { rule = rule; span = span })
    (λ r k. (k.0, k.1, k.2.1))
    (λ r k. (k.0, k.1, (within r.rule k.0 k.1, k.2)))
    (first_at (Breaks source) (StandsAt source) (rises source) (λ i a b m n. m.1 ∙ sym n.1) 1 (of_tokens source) (record { rule = rule; span = span }) at h.0 h.1 (within rule at h.0, p))
  where
    within : (rule : Rule) (at : ℕ) → Breaks source rule at → at ≤ length source
    within rule at h = broken_within source valid items stop g c l rule at h
