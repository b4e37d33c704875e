-- The first rule that tokens break by the number of its token is the first by place, since tokens stand in the order of their places.
use Rattle.std.proofs.Common.{◌≡◌, ◌<◌, ℕ, zero, suc, List, [], ◌∷◌, drop, length, slice_index_or, refl, sym, ap, ◌∙◌, subst, arith}
use Rattle.sw_base.specs.declared.ids.Span.{Span}
use Rattle.sw_rules.specs.declared.Rule.{Rule}
use Rattle.sw_rules.specs.declared.Rule.TheVariants.{P1, P2, P3, P4, P5, P6}
use Rattle.sw_rules.specs.Rule.{rule_pass}
use Rattle.sw_rules.specs.Refusal.{StandsBefore}
use Rattle.sw_rules.specs.Pass.{IsFirst, RefusesNone}
use Rattle.sw_rules.proofs.Numbered.{first_at}
use Rattle.sw_lex.specs.declared.token.Token.{Token}
use Rattle.sw_lex.specs.Tokens.{AreInOrder}
use Rattle.sw_syntax.specs.Tokens.{Sighted}
use Rattle.sw_syntax.specs.Nonterminals.{Nonterminal}
use Rattle.sw_syntax.specs.Refusals.{Breaks, BreaksP1to6, Refuses, StandsAt}
use Rattle.sw_syntax.specs.Finding.{IsFirstBroken, BreaksNone}

-- ---- a number has one token, and tokens stand in order

token_at : (tokens : List Token) (position : ℕ) (default token : Token) (rest : List Token) → drop position tokens ≡ token ∷ rest → (slice_index_or tokens position default ≡ token) × (position < length tokens)
token_at [] zero default token rest e = absurd (cc)
token_at [] (suc position) default token rest e = absurd (cc)
token_at (first ∷ tokens) zero default token rest e = (cc, omega arith)
token_at (first ∷ tokens) (suc position) default token rest e = let h = token_at tokens position default token rest e in (h.0, omega (arith, h.1))

rises : (tokens : List Token) → AreInOrder tokens → (i j : ℕ) (a b : Span) → i < j → StandsAt tokens i a → StandsAt tokens j b → StandsBefore a b
rises tokens ordered i j a b less (token, rest, e, p) (later, rest', e', q) =
    let here = token_at tokens i token token rest e in
    let there = token_at tokens j token later rest' e' in
    subst (λ s. StandsBefore s b) (ap (λ (t : Token). t.span) here.0 ∙ sym p) (subst (StandsBefore (slice_index_or tokens i token).span) (ap (λ (t : Token). t.span) there.0 ∙ sym q) (ordered i j token less there.1))

one : (tokens : List Token) (i : ℕ) (a b : Span) → StandsAt tokens i a → StandsAt tokens i b → a ≡ b
one tokens i a b (token, rest, e, p) (other, rest', e', q) =
    p ∙ ap (λ (t : Token). t.span) (sym (token_at tokens i token token rest e).0 ∙ (token_at tokens i token other rest' e').0) ∙ sym q

-- ---- the rules of the grammar are of one pass

of_run : (s : Nonterminal) (tokens : List Token) (at : ℕ) (run : List Sighted) (next : Sighted) (rule : Rule) → BreaksP1to6 s tokens at run next rule → rule_pass rule ≡ 2
of_run s tokens at run next P1 h = refl
of_run s tokens at run next P2 h = refl
of_run s tokens at run next P3 h = refl
of_run s tokens at run next P4 h = refl
of_run s tokens at run next P5 h = refl
of_run s tokens at run next P6 h = refl
of_run s tokens at run next rule h = absurd h

of_grammar : (s : Nonterminal) (tokens : List Token) (at : ℕ) (rule : Rule) (position : ℕ) → Breaks s tokens at rule position → rule_pass rule ≡ 2
of_grammar s tokens at rule position (run, next, longest, breaks, n) = of_run s tokens at run next rule breaks

-- ---- the answer

pub first_by_place : (s : Nonterminal) (tokens : List Token) (at : ℕ) (rule : Rule) (position : ℕ) (span : Span) → AreInOrder tokens → IsFirstBroken s tokens at rule position → StandsAt tokens position span
    → IsFirst (Refuses s tokens at) (record { rule = rule; span = span })
first_by_place s tokens at rule position span ordered first stands =
    first_at (Breaks s tokens at) (StandsAt tokens) (rises tokens ordered) (one tokens) 2 (of_grammar s tokens at) (record { rule = rule; span = span }) position first.0 first.1 stands

pub none_by_place : (s : Nonterminal) (tokens : List Token) (at : ℕ) → BreaksNone s tokens at → RefusesNone (Refuses s tokens at)
none_by_place s tokens at none refusal h = none refusal.rule h.0 h.1
