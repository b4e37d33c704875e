-- Which rule is broken first, told from the longest run that begins a text and the token after it; and that a sentence is the only one.
use Rattle.std.proofs.Common.{◌≡◌, ◌<◌, ◌≤◌, ◌+◌, ◌⊎◌, inl, inr, ℕ, Bool, true, false, List, [], ◌∷◌, ◌++◌, drop, length, refl, sym, ap, ◌∙◌, subst, arith}
use Rattle.sw_rules.specs.declared.Rule.{Rule}
use Rattle.sw_rules.specs.declared.Rule.TheVariants.{P1, P2, P3, P4, P5, P6}
use Rattle.sw_rules.specs.Rule.{rule_order}
use Rattle.sw_lex.specs.declared.token.Token.{Token}
use Rattle.sw_grammar.proofs.Viable as begun
use Rattle.sw_syntax.specs.declared.class.Sight.{Sight}
use Rattle.sw_syntax.specs.Tokens.{Sighted, Face, sighted}
use Rattle.sw_syntax.specs.Tests.{is_comparison, is_effect}
use Rattle.sw_syntax.specs.Nonterminals.{Nonterminal, Sort}
use Rattle.sw_syntax.specs.Grammar.{production}
use Rattle.sw_syntax.specs.Tables.{first_table, follow_last_table, nullable_table}
use Rattle.sw_syntax.specs.Meaning.{Spells, IsViablePrefix, source_budget}
use Rattle.sw_syntax.specs.Refusals.{EndsAt, ExceedsBudget, IsNoSentence, IsLongest, BreaksP2to6, BreaksP1to6, before, IsSentence}
use Rattle.sw_syntax.specs.Finding.{IsBefore, IsFirstBroken, BreaksNone}
use Rattle.sw_syntax.specs.Reaching.{BreaksLeniently}
use Rattle.sw_syntax.proofs.Law.{one_tree}
use Rattle.sw_syntax.proofs.SameRules.{stops, same_cut, leniently, strictly}

head_same : {A : Type 0} (x y : A) (xs ys : List A) → (x ∷ xs) ≡ (y ∷ ys) → x ≡ y
head_same x y xs ys e = cc

-- ---- one run is the longest

pub spelt_viable : (s : Nonterminal) (u : List Sighted) (x : Sort s) → Spells false s source_budget u x → IsViablePrefix false s source_budget u
spelt_viable s u x = begun.spelt_viable Sight Face Nonterminal Sort (production false) first_table nullable_table follow_last_table s source_budget u x

same_longest : (s : Nonterminal) (tokens : List Token) (at : ℕ) (u v : List Sighted) (t y : Sighted) → IsLongest s tokens at u t → IsLongest s tokens at v y → (u ≡ v) × (t ≡ y)
same_longest s tokens at u v t y (r, e, p, ends) (q, e', p', ends') =
    let (same, left) = same_cut s (drop at (sighted tokens)) u (t ∷ r) v (y ∷ q) e e' p p' ends ends' in (same, head_same t y r q left)

-- ---- the first of the rules that a run breaks

-- the rule's place is earlier, or it is the same and the rule comes first in order
abbrev Comes : Rule → Rule → Type 0
Comes rule other = (before other < before rule) ⊎ ((before rule ≡ before other) × (rule_order rule ≤ rule_order other))

comes_before : (rule other : Rule) (position its_position n : ℕ) → Comes rule other → position + before rule ≡ n → its_position + before other ≡ n → IsBefore rule position other its_position
comes_before rule other position its_position n (inl h) e e' = inl (omega (arith, h, e, e'))
comes_before rule other position its_position n (inr h) e e' = inr (omega (arith, h.0, e, e'), h.1)

module _ (s : Nonterminal) (tokens : List Token) (at : ℕ) (u : List Sighted) (t : Sighted) where
  abbrev Later : Rule → Type 0
  Later rule = BreaksP2to6 s tokens at u t rule

  abbrev Behind : Rule → Type 0
  Behind rule = BreaksP1to6 s tokens at u t rule

  abbrev Never : Rule → Type 0
  Never rule = Later rule → ⊥

  abbrev Ends : Bool → Type 0
  Ends lenient = EndsAt lenient s u (t ∷ [])

  abbrev Lacks : Bool → Type 0
  Lacks lenient = ExceedsBudget lenient s u (t ∷ [])

  abbrev Goes : Type 0
  Goes = IsViablePrefix true s source_budget (u ++ t ∷ [])

  lacks_ends : (lenient : Bool) {A : Type 0} → Lacks lenient → Ends lenient → A
  lacks_ends lenient (refused, larger, within, p) ends = absurd (ends larger p)

  same_run : (v : List Sighted) (y : Sighted) (other : Rule) → (u ≡ v) × (t ≡ y) → BreaksP1to6 s tokens at v y other → Behind other
  same_run v y other (eu, et) h = subst (λ u. BreaksP1to6 s tokens at u t other) (sym eu) (subst (λ t. BreaksP1to6 s tokens at v t other) (sym et) h)

  first_of : (rule : Rule) (position : ℕ) → IsLongest s tokens at u t → Behind rule → position + before rule ≡ at + length u → ((other : Rule) → Behind other → Comes rule other) → IsFirstBroken s tokens at rule position
  first_of rule position l h e least = (
    (u, t, l, h, e),
    λ other its_position (v, y, l', h', e').
        let same = same_longest s tokens at u v t y l l' in
        comes_before rule other position its_position (at + length u) (least other (same_run v y other same h')) e (e' ∙ ap (λ u. at + length u) (sym same.0)),
  )

  -- ---- each rule, where it is the first

  least_p4 : (other : Rule) → Behind other → Comes P4 other
  least_p4 P1 h = inl (omega arith)
  least_p4 P2 h = inl (omega arith)
  least_p4 P3 h = inl (omega arith)
  least_p4 P4 h = inr (refl, omega arith)
  least_p4 P5 h = inl (omega arith)
  least_p4 P6 h = inl (omega arith)
  least_p4 other h = absurd h

  pub first_p4 : (position : ℕ) → IsLongest s tokens at u t → Later P4 → position + 1 ≡ at + length u → IsFirstBroken s tokens at P4 position
  first_p4 position l h e = first_of P4 position l h e least_p4

  least_p3 : Never P4 → (P1' : Behind P1 → ⊥) → Never P2 → (other : Rule) → Behind other → Comes P3 other
  least_p3 n4 n1 n2 P1 h = absurd (n1 h)
  least_p3 n4 n1 n2 P2 h = absurd (n2 h)
  least_p3 n4 n1 n2 P3 h = inr (refl, omega arith)
  least_p3 n4 n1 n2 P4 h = absurd (n4 h)
  least_p3 n4 n1 n2 P5 h = inr (refl, omega arith)
  least_p3 n4 n1 n2 P6 h = inr (refl, omega arith)
  least_p3 n4 n1 n2 other h = absurd h

  -- room is lacking
  pub first_over_budget : (position : ℕ) → IsLongest s tokens at u t → Never P4 → Lacks false → position + 0 ≡ at + length u → IsFirstBroken s tokens at P3 position
  first_over_budget position l n4 lacks e = first_of P3 position l (inl lacks) e (least_p3 n4 (λ h. lacks_ends false lacks h.1) (λ h. lacks_ends false lacks h.1))

  -- room is lacking for a second comparison
  pub first_chain_over_budget : (position : ℕ) → IsLongest s tokens at u t → Never P4 → Never P2 → is_comparison t.sight ≡ true → Lacks true → position + 0 ≡ at + length u → IsFirstBroken s tokens at P3 position
  first_chain_over_budget position l n4 n2 c lacks e = let p3 : Later P3 = strictly s tokens at u t l P3 (inr (c, lacks)) in first_of P3 position l p3 e (least_p3 n4 (λ h. h.2 P3 p3) n2)

  least_p2 : Never P4 → Later P2 → (other : Rule) → Behind other → Comes P2 other
  least_p2 n4 p2 P1 h = absurd (h.2 P2 p2)
  least_p2 n4 p2 P2 h = inr (refl, omega arith)
  least_p2 n4 p2 P3 h = inr (refl, omega arith)
  least_p2 n4 p2 P4 h = absurd (n4 h)
  least_p2 n4 p2 P5 h = inr (refl, omega arith)
  least_p2 n4 p2 P6 h = inr (refl, omega arith)
  least_p2 n4 p2 other h = absurd h

  pub first_p2 : (position : ℕ) → IsLongest s tokens at u t → Never P4 → Later P2 → position + 0 ≡ at + length u → IsFirstBroken s tokens at P2 position
  first_p2 position l n4 p2 e = first_of P2 position l p2 e (least_p2 n4 p2)

  -- where the lenient grammar goes on, no budget is exceeded
  no_p3 : IsLongest s tokens at u t → Ends false → Goes → Never P3
  no_p3 l ends goes p3 = go (leniently s tokens at u t l P3 p3)
    where
      go : BreaksLeniently s tokens at u t P3 → ⊥
      go (inl lacks) = lacks_ends false lacks ends
      go (inr (c, lacks)) = lacks.0 goes

  least_p5 : Never P4 → Never P2 → Never P3 → Later P5 → (other : Rule) → Behind other → Comes P5 other
  least_p5 n4 n2 n3 p5 P1 h = absurd (h.2 P5 p5)
  least_p5 n4 n2 n3 p5 P2 h = absurd (n2 h)
  least_p5 n4 n2 n3 p5 P3 h = absurd (n3 h)
  least_p5 n4 n2 n3 p5 P4 h = absurd (n4 h)
  least_p5 n4 n2 n3 p5 P5 h = inr (refl, omega arith)
  least_p5 n4 n2 n3 p5 P6 h = inr (refl, omega arith)
  least_p5 n4 n2 n3 p5 other h = absurd h

  pub first_p5 : (position : ℕ) → IsLongest s tokens at u t → Never P4 → Never P2 → is_comparison t.sight ≡ true → Ends false → Goes → position + 0 ≡ at + length u → IsFirstBroken s tokens at P5 position
  first_p5 position l n4 n2 c ends goes e = let p5 : Later P5 = strictly s tokens at u t l P5 (c, ends, goes) in first_of P5 position l p5 e (least_p5 n4 n2 (no_p3 l ends goes) p5)

  least_p6 : Never P4 → Never P2 → Never P3 → Never P5 → Later P6 → (other : Rule) → Behind other → Comes P6 other
  least_p6 n4 n2 n3 n5 p6 P1 h = absurd (h.2 P6 p6)
  least_p6 n4 n2 n3 n5 p6 P2 h = absurd (n2 h)
  least_p6 n4 n2 n3 n5 p6 P3 h = absurd (n3 h)
  least_p6 n4 n2 n3 n5 p6 P4 h = absurd (n4 h)
  least_p6 n4 n2 n3 n5 p6 P5 h = absurd (n5 h)
  least_p6 n4 n2 n3 n5 p6 P6 h = inr (refl, omega arith)
  least_p6 n4 n2 n3 n5 p6 other h = absurd h

  pub first_p6 : (position : ℕ) → IsLongest s tokens at u t → Never P4 → Never P2 → (is_comparison t.sight ≡ true → ⊥) → is_effect t.sight ≡ true → Ends false → Goes → position + 0 ≡ at + length u → IsFirstBroken s tokens at P6 position
  first_p6 position l n4 n2 other effect ends goes e = let p6 : Later P6 = strictly s tokens at u t l P6 (effect, ends, goes) in first_of P6 position l p6 e (least_p6 n4 n2 (no_p3 l ends goes) (λ h. other (leniently s tokens at u t l P5 h).0) p6)

  -- what the lenient grammar refuses too
  abbrev Quiet : Type 0
  Quiet = (is_comparison t.sight ≡ true → Ends true) × (is_effect t.sight ≡ true → Goes → ⊥)

  quiet : IsLongest s tokens at u t → Ends false → Never P4 → Never P2 → Quiet → (other : Rule) → Never other
  quiet l ends n4 n2 q P2 h = n2 h
  quiet l ends n4 n2 q P3 h = go (leniently s tokens at u t l P3 h)
    where
      go : BreaksLeniently s tokens at u t P3 → ⊥
      go (inl lacks) = lacks_ends false lacks ends
      go (inr (c, lacks)) = lacks_ends true lacks (q.0 c)
  quiet l ends n4 n2 q P4 h = n4 h
  quiet l ends n4 n2 q P5 h = let (c, _, goes) = leniently s tokens at u t l P5 h in q.0 c source_budget goes
  quiet l ends n4 n2 q P6 h = let (effect, _, goes) = leniently s tokens at u t l P6 h in q.1 effect goes
  quiet l ends n4 n2 q other h = absurd h

  least_p1 : ((other : Rule) → Never other) → (other : Rule) → Behind other → Comes P1 other
  least_p1 none P1 h = inr (refl, omega arith)
  least_p1 none P2 h = absurd (none P2 h)
  least_p1 none P3 h = absurd (none P3 h)
  least_p1 none P4 h = absurd (none P4 h)
  least_p1 none P5 h = absurd (none P5 h)
  least_p1 none P6 h = absurd (none P6 h)
  least_p1 none other h = absurd h

  pub first_p1 : (position : ℕ) → IsLongest s tokens at u t → Never P4 → Never P2 → IsNoSentence s u → Ends false → Quiet → position + 0 ≡ at + length u → IsFirstBroken s tokens at P1 position
  first_p1 position l n4 n2 no_text ends q e = first_of P1 position l (no_text, ends, quiet l ends n4 n2 q) e (least_p1 (quiet l ends n4 n2 q))

  -- a sentence, and with the token after it no rule is broken
  unbroken_after : IsLongest s tokens at u t → (x : Sort s) → Spells false s source_budget u x → Ends false → Never P4 → Quiet → (other : Rule) → Behind other → ⊥
  unbroken_after l x p ends n4 q P1 h = h.0 source_budget x p
  unbroken_after l x p ends n4 q P2 h = h.0 source_budget x p
  unbroken_after l x p ends n4 q P3 h = quiet l ends n4 (λ h. h.0 source_budget x p) q P3 h
  unbroken_after l x p ends n4 q P4 h = n4 h
  unbroken_after l x p ends n4 q P5 h = quiet l ends n4 (λ h. h.0 source_budget x p) q P5 h
  unbroken_after l x p ends n4 q P6 h = quiet l ends n4 (λ h. h.0 source_budget x p) q P6 h
  unbroken_after l x p ends n4 q other h = absurd h

-- ---- no rule

pub unbroken : (s : Nonterminal) (tokens : List Token) (at : ℕ) (u rest : List Sighted) (t : Sighted) (x : Sort s) → drop at (sighted tokens) ≡ u ++ t ∷ rest → Spells false s source_budget u x → EndsAt false s u (t ∷ [])
    → (BreaksP2to6 s tokens at u t P4 → ⊥) → (is_comparison t.sight ≡ true → EndsAt true s u (t ∷ [])) × (is_effect t.sight ≡ true → IsViablePrefix true s source_budget (u ++ t ∷ []) → ⊥) → BreaksNone s tokens at
unbroken s tokens at u rest t x e p ends n4 q = λ rule position (v, y, l, h, _).
    let longest : IsLongest s tokens at u t = (rest, e, spelt_viable s u x p, ends source_budget) in
    let same = same_longest s tokens at u v t y longest l in
    unbroken_after s tokens at u t longest x p ends n4 q rule (same_run s tokens at u t v y rule same h)

pub unbroken_end : (s : Nonterminal) (tokens : List Token) (at : ℕ) (u : List Sighted) (x : Sort s) → drop at (sighted tokens) ≡ u ++ [] → Spells false s source_budget u x → BreaksNone s tokens at
unbroken_end s tokens at u x e p = λ rule position (v, y, (r, e', p', ends), h, _).
    none y r (same_cut s (drop at (sighted tokens)) u [] v (y ∷ r) e e' (spelt_viable s u x p) p' tt ends).1
  where
    none : (y : Sighted) (r : List Sighted) → [] ≡ y ∷ r → ⊥
    none y r e = cc

-- ---- the text is the only one

pub one_text : (s : Nonterminal) (tokens : List Token) (at : ℕ) (x y : Sort s) (end its_end : ℕ) → IsSentence s tokens at x end → IsSentence s tokens at y its_end → (x ≡ y) × (end ≡ its_end)
one_text s tokens at x y end its_end (u, rest, e, n, p, ends) (v, other, e', n', q, ends') =
    let (same, _) = same_cut s (drop at (sighted tokens)) u rest v other e e' (spelt_viable s u x p) (spelt_viable s v y q) (stops s u rest ends) (stops s v other ends') in
    (one_tree false s source_budget source_budget u x y p (subst (λ v. Spells false s source_budget v y) (sym same) q), n ∙ ap (λ u. at + length u) same ∙ sym n')
