-- Which rule is broken first, from what the readings of a nonterminal's tokens say.
use Rattle.std.proofs.Common.{◌≡◌, ◌<◌, ◌≤◌, ◌+◌, ◌-◌, ◌⊎◌, inl, inr, ℕ, zero, suc, Bool, true, false, List, [], ◌∷◌, ◌++◌, drop, length, Option, Some, None, Err, refl, sym, ap, ◌∙◌, subst, arith, length-append}
use Rattle.std.proofs.lemmas.List.{length-drop}
use Rattle.sw_rules.specs.declared.Rule.{Rule}
use Rattle.sw_rules.specs.declared.Rule.TheVariants.{P1, P2, P3, P4, P5, P6}
use Rattle.sw_lex.specs.declared.token.Token.{Token}
use Rattle.sw_grammar.specs.Grammar.{Budget}
use Rattle.sw_grammar.specs.Reading.{Out, rejected, over_budget, unexpected, at_first}
use Rattle.sw_syntax.specs.declared.class.Sight.{Sight}
use Rattle.sw_syntax.specs.declared.view.Stop.{Stop}
use Rattle.sw_syntax.specs.declared.view.Stop.TheVariants.{Refused}
use Rattle.sw_syntax.specs.Tokens.{Sighted, sighted}
use Rattle.sw_syntax.specs.Tests.{is, is_comparison, is_effect}
use Rattle.sw_syntax.specs.Broken.{broken_at}
use Rattle.sw_syntax.specs.Nonterminals.{Nonterminal, Sort}
use Rattle.sw_syntax.specs.Meaning.{Spells, IsViablePrefix, source_budget}
use Rattle.sw_syntax.specs.Answering.{Answers, read_in}
use Rattle.sw_syntax.specs.ReadResults.{reason, Gives}
use Rattle.sw_syntax.specs.Refusals.{EndsAt, ExceedsBudget, IsNoSentence, IsLongest, BreaksP2to6, IsSentence}
use Rattle.sw_syntax.specs.Finding.{IsFirstBroken, BreaksNone}
use Rattle.sw_syntax.proofs.Exits.{refusal_gives}
use Rattle.sw_syntax.proofs.Law.{exact, viable_prefix}
use Rattle.sw_syntax.proofs.Lenient.{viable_leniently}
use Rattle.sw_syntax.proofs.SightLemmas.{sighted_length, source_length}
use Rattle.sw_syntax.proofs.Refused as refused
use Rattle.sw_syntax.specs.declared.broken.Reach.{Reach}
use Rattle.sw_syntax.specs.declared.broken.Reach.TheVariants.{Short, OverBudget, Beyond}
use Rattle.sw_syntax.proofs.PlaceLemmas.{first_at}
use Rattle.sw_syntax.specs.Reaching.{OfCut, Says, Tells, IsAwaitTry, Below, NotBelow, Finds}

pub over_budget_gives : {A : Type 0} (ts : List Sighted) (stop : Stop) (end : ℕ) (is_over_budget : Bool) (out : Out Sighted A) → Gives {A = A} ts (Err stop) out → stop ≡ Refused end is_over_budget → is_over_budget ≡ true → out ≡ rejected over_budget (drop end ts)
over_budget_gives ts stop end is_over_budget out h e is = refusal_gives ts stop end is_over_budget out h e ∙ ap (λ b. rejected (reason b) (drop end ts)) is

pub unexpected_gives : {A : Type 0} (ts : List Sighted) (stop : Stop) (end : ℕ) (is_over_budget : Bool) (out : Out Sighted A) → Gives {A = A} ts (Err stop) out → stop ≡ Refused end is_over_budget → is_over_budget ≡ false → out ≡ rejected unexpected (drop end ts)
unexpected_gives ts stop end is_over_budget out h e is = refusal_gives ts stop end is_over_budget out h e ∙ ap (λ b. rejected (reason b) (drop end ts)) is

-- ---- what is so of each cut

pub of_source : (S S' : List Sighted) (at position : ℕ) (H : List Sighted → Sighted → Type 0) → S ≡ S' → OfCut S at position H → OfCut S' at position H
of_source S S' at position H e h = subst (λ S. OfCut S at position H) e h

pub said : (s : Nonterminal) (lenient : Bool) (S : List Sighted) (at position : ℕ) (r r' : Reach) → OfCut S at position (Says lenient s r) → r ≡ r' → OfCut S at position (Says lenient s r')
said s lenient S at position r r' h e = subst (λ (r : Reach). OfCut S at position (Says lenient s r)) e h

pub tells : (s : Nonterminal) (S S' : List Sighted) (at position : ℕ) (r r' : Option Rule) → OfCut S at position (Tells s r) → S ≡ S' → r ≡ r' → OfCut S' at position (Tells s r')
tells s S S' at position r r' h e er = of_source S S' at position (Tells s r') e (subst (λ (r : Option Rule). OfCut S at position (Tells s r)) er h)

module _ (s : Nonterminal) (S : List Sighted) (at position : ℕ) where
  abbrev Lenient : Reach → Type 0
  Lenient r = OfCut S at position (Says true s r)

  abbrev Told : Option Rule → Type 0
  Told rule = OfCut S at position (Tells s rule)

  abbrev Finding : Bool → (Sight → Bool) → Type 0
  Finding b f = at_first f (drop position S) ≡ b

  here : (b : Bool) (f : Sight → Bool) → Finding b f → (run : List Sighted) (next : Sighted) (rest : List Sighted) → drop at S ≡ run ++ next ∷ rest → at + length run ≡ position → f next.sight ≡ b
  here b f h run next rest e n = sym (first_at f S at position run rest next e n) ∙ h

  other : (b : Bool) → b ≡ false → b ≡ true → ⊥
  other b p q = cc

  pub tell_short : Lenient Short → Told None
  tell_short says run next rest e n begun = (λ _. says run next rest e n begun, λ _ goes. says run next rest e n begun source_budget goes)

  pub tell_p3 : Finding true is_comparison → Lenient OverBudget → Told (Some P3)
  tell_p3 c says run next rest e n = (here true is_comparison c run next rest e n, (says run next rest e n).1)

  pub tell_p5 : Finding true is_comparison → Lenient Beyond → Told (Some P5)
  tell_p5 c says run next rest e n = (here true is_comparison c run next rest e n, says run next rest e n)

  pub tell_not : Finding false is_comparison → Finding false is_effect → Told None
  tell_not c f run next rest e n begun =
      (λ h. absurd (other (is_comparison next.sight) (here false is_comparison c run next rest e n) h), λ h. absurd (other (is_effect next.sight) (here false is_effect f run next rest e n) h))

  pub tell_over_budget : Finding false is_comparison → Lenient OverBudget → Told None
  tell_over_budget c says run next rest e n begun =
      (λ h. absurd (other (is_comparison next.sight) (here false is_comparison c run next rest e n) h), λ _ goes. (says run next rest e n).1.0 goes)

  pub tell_p6 : Finding false is_comparison → Finding true is_effect → Lenient Beyond → Told (Some P6)
  tell_p6 c f says run next rest e n = (other (is_comparison next.sight) (here false is_comparison c run next rest e n), here true is_effect f run next rest e n, says run next rest e n)

-- ---- lengths

-- the token after a run stands in the list
place_inside : (S : List Sighted) (at position : ℕ) (run rest : List Sighted) (next : Sighted) → drop at S ≡ run ++ next ∷ rest → at + length run ≡ position → position < length S
place_inside S at position run rest next e n = let l = sym (length-drop at S) ∙ ap length e ∙ length-append run (next ∷ rest) in omega (arith, l, n)

-- ---- what a refusal says

abbrev pub Facts : Nonterminal → Bool → List Sighted → Sighted → Type 0
Facts s true run next = ExceedsBudget false s run (next ∷ [])
Facts s false run next = IsNoSentence s run × EndsAt false s run (next ∷ [])

-- the tokens are refused at a place
pub record Known (s : Nonterminal) (tokens : List Token) (at position : ℕ) (is_over_budget : Bool) : Type 0 where
  pub run : List Sighted
  pub next : Sighted
  pub rest : List Sighted
  pub whole : drop at (sighted tokens) ≡ run ++ next ∷ rest
  pub ends : at + length run ≡ position
  pub begun : IsViablePrefix false s source_budget run
  pub facts : Facts s is_over_budget run next

cut_place : (S run rest : List Sighted) (at position : ℕ) (next : Sighted) → drop at S ≡ run ++ next ∷ rest → drop position S ≡ next ∷ rest → at + length run ≡ position
cut_place S run rest at position next e er =
    let a = sym (length-drop at S) ∙ ap length e ∙ length-append run (next ∷ rest) in
    let b = sym (length-drop position S) ∙ ap length er in
    omega (arith, a, b)

pub known : (s : Nonterminal) (tokens : List Token) (at position : ℕ) (is_over_budget : Bool) → position < length tokens
    → read_in false s source_budget (drop at (sighted tokens)) ≡ rejected (reason is_over_budget) (drop position (sighted tokens)) → Known s tokens at position is_over_budget
known s tokens at position true inside given =
    let (u, e, p, lacks) = subst (λ o. Answers false s source_budget (drop at (sighted tokens)) o) given (exact false s source_budget (drop at (sighted tokens))) in
    go u (drop position (sighted tokens)) refl e p lacks
  where
    go : (u rest : List Sighted) → drop position (sighted tokens) ≡ rest → drop at (sighted tokens) ≡ u ++ rest → IsViablePrefix false s source_budget u → ExceedsBudget false s u rest → Known s tokens at position true
    go u [] er e p lacks = elim lacks [ ]
    go u (t ∷ rest) er e p lacks = record { run = u; next = t; rest = rest; whole = e; ends = cut_place (sighted tokens) u rest at position t e er; begun = p; facts = lacks }
known s tokens at position false inside given =
    let (u, e, p, ends, none) = subst (λ o. Answers false s source_budget (drop at (sighted tokens)) o) given (exact false s source_budget (drop at (sighted tokens))) in
    go u (drop position (sighted tokens)) refl e p ends none
  where
    go : (u rest : List Sighted) → drop position (sighted tokens) ≡ rest → drop at (sighted tokens) ≡ u ++ rest → IsViablePrefix false s source_budget u → EndsAt false s u rest → IsNoSentence s u → Known s tokens at position false
    go u [] er e p ends none = absurd (let a = length-drop position (sighted tokens) in let b = ap length er in let l = sighted_length tokens in omega (arith, a, b, l, inside))
    go u (t ∷ rest) er e p ends none = record { run = u; next = t; rest = rest; whole = e; ends = cut_place (sighted tokens) u rest at position t e er; begun = p; facts = (none, ends) }

module _ (s : Nonterminal) (tokens : List Token) (at position : ℕ) where
  inside_of : (is_over_budget : Bool) → Known s tokens at position is_over_budget → position < length tokens
  inside_of is_over_budget h = subst (λ n. position < n) (sighted_length tokens) (place_inside (sighted tokens) at position h.run h.rest h.next h.whole h.ends)

  pub known_inside : (is_over_budget : Bool) → Known s tokens at position is_over_budget → (at ≤ position) × (position < length tokens)
  known_inside is_over_budget h = let e = h.ends in (omega (arith, e), inside_of is_over_budget h)

  stops : (is_over_budget : Bool) (run : List Sighted) (next : Sighted) → Facts s is_over_budget run next → IsViablePrefix false s source_budget (run ++ next ∷ []) → ⊥
  stops true run next lacks = lacks.0
  stops false run next facts = facts.1 source_budget

  longest : (is_over_budget : Bool) (h : Known s tokens at position is_over_budget) → IsLongest s tokens at h.run h.next
  longest is_over_budget h = (h.rest, h.whole, h.begun, stops is_over_budget h.run h.next h.facts)

  exact_place : (is_over_budget : Bool) (h : Known s tokens at position is_over_budget) → position + 0 ≡ at + length h.run
  exact_place is_over_budget h = let e = h.ends in omega (arith, e)

  abbrev NoAwaitTry : Type 0
  NoAwaitTry = OfCut (sighted tokens) at position (λ run next. IsAwaitTry run next → ⊥)

  pub p4_found : (is_over_budget : Bool) → Known s tokens at position is_over_budget → at < position → OfCut (sighted tokens) at position IsAwaitTry → Finds s tokens at (Some (P4, position - 1))
  p4_found is_over_budget h after told =
      let e = h.ends in
      let l = inside_of is_over_budget h in
      (refused.first_p4 s tokens at h.run h.next (position - 1) (longest is_over_budget h) (told h.run h.next h.rest h.whole h.ends) (omega (arith, e, after)), omega (arith, l))

  pub over_budget_found : Known s tokens at position true → NoAwaitTry → Finds s tokens at (Some (P3, position))
  over_budget_found h n4 = (refused.first_over_budget s tokens at h.run h.next position (longest true h) (n4 h.run h.next h.rest h.whole h.ends) h.facts (exact_place true h), inside_of true h)

  pub p2_found : Known s tokens at position false → NoAwaitTry → Below s tokens at position → Finds s tokens at (Some (P2, position))
  p2_found h n4 below =
      (refused.first_p2 s tokens at h.run h.next position (longest false h) (n4 h.run h.next h.rest h.whole h.ends) (h.facts.0, h.facts.1, below (length h.run) h.ends) (exact_place false h), inside_of false h)

  pub chained_found : Known s tokens at position false → NoAwaitTry → NotBelow s tokens at position → (rule : Rule) → OfCut (sighted tokens) at position (Tells s (Some rule)) → Finds s tokens at (Some (rule, position))
  chained_found h n4 nb rule told = (go rule (told h.run h.next h.rest h.whole h.ends), inside_of false h)
    where
      never : (BreaksP2to6 s tokens at h.run h.next P4 → ⊥) × (BreaksP2to6 s tokens at h.run h.next P2 → ⊥)
      never = (n4 h.run h.next h.rest h.whole h.ends, λ p2. nb (length h.run) h.ends p2.2)

      go : (rule : Rule) → Tells s (Some rule) h.run h.next → IsFirstBroken s tokens at rule position
      go P3 t = refused.first_chain_over_budget s tokens at h.run h.next position (longest false h) never.0 never.1 t.0 t.1 (exact_place false h)
      go P5 t = refused.first_p5 s tokens at h.run h.next position (longest false h) never.0 never.1 t.0 h.facts.1 t.1 (exact_place false h)
      go P6 t = refused.first_p6 s tokens at h.run h.next position (longest false h) never.0 never.1 t.0 t.1 h.facts.1 t.2 (exact_place false h)
      go rule t = absurd t

  pub p1_found : Known s tokens at position false → NoAwaitTry → NotBelow s tokens at position → OfCut (sighted tokens) at position (Tells s None) → Finds s tokens at (Some (P1, position))
  p1_found h n4 nb told = (
    refused.first_p1 s tokens at h.run h.next position (longest false h) (n4 h.run h.next h.rest h.whole h.ends) (λ p2. nb (length h.run) h.ends p2.2) h.facts.0 h.facts.1
        (told h.run h.next h.rest h.whole h.ends (viable_leniently s source_budget h.run h.begun)) (exact_place false h),
    inside_of false h,
  )

-- ---- below a line break

cut_at : (S : List Sighted) (n : ℕ) → n < length S → (run : List Sighted) × (next : Sighted) × (rest : List Sighted) × (S ≡ run ++ next ∷ rest) × (length run ≡ n)
cut_at [] n l = absurd (omega (arith, l))
cut_at (t ∷ S) zero l = ([], t, S, refl, refl)
cut_at (t ∷ S) (suc n) l = let (run, next, rest, e, h) = cut_at S n (omega (arith, l)) in (t ∷ run, next, rest, ap (λ r. t ∷ r) e, ap suc h)

module _ (s : Nonterminal) (tokens : List Token) (at position : ℕ) (inside : position < length tokens) where
  abbrev Broken : List Sighted
  Broken = sighted (broken_at position tokens)

  below : ((run : List Sighted) (next : Sighted) → IsViablePrefix false s source_budget (run ++ next ∷ []) ⊎ (IsViablePrefix false s source_budget run × ExceedsBudget false s run (next ∷ [])) → IsViablePrefix false s source_budget run × ((budget : Budget) × IsViablePrefix false s budget (run ++ next ∷ [])))
      → OfCut Broken at position (λ run next. IsViablePrefix false s source_budget (run ++ next ∷ []) ⊎ (IsViablePrefix false s source_budget run × ExceedsBudget false s run (next ∷ []))) → Below s tokens at position
  below made says n e =
      let l : n < length (drop at Broken) = (let a = length-drop at Broken in let b = source_length position tokens in omega (arith, a, b, e, inside)) in
      let (run, next, rest, whole, h) = cut_at (drop at Broken) n l in
      let (p, q) = made run next (says run next rest whole (omega (arith, e, h))) in
      (run, next, rest, subst (λ p. drop at (sighted (broken_at p tokens)) ≡ run ++ next ∷ rest) (sym e) whole, h, p, q)

  made : (run : List Sighted) (next : Sighted) → IsViablePrefix false s source_budget (run ++ next ∷ []) ⊎ (IsViablePrefix false s source_budget run × ExceedsBudget false s run (next ∷ [])) → IsViablePrefix false s source_budget run × ((budget : Budget) × IsViablePrefix false s budget (run ++ next ∷ []))
  made run next (inl p) = (viable_prefix false s source_budget run (next ∷ []) p, (source_budget, p))
  made run next (inr (p, lacks)) = (p, (lacks.1, lacks.3))

  pub below_beyond : OfCut Broken at position (Says false s Beyond) → Below s tokens at position
  below_beyond says = below made (λ run next rest e n. inl (says run next rest e n))

  pub below_over_budget : OfCut Broken at position (Says false s OverBudget) → Below s tokens at position
  below_over_budget says = below made (λ run next rest e n. inr (says run next rest e n))

  pub not_below : OfCut Broken at position (Says false s Short) → NotBelow s tokens at position
  not_below says n e (run, next, rest, whole, h, p, (budget, q)) =
      says run next rest (subst (λ p. drop at (sighted (broken_at p tokens)) ≡ run ++ next ∷ rest) e whole) (omega (arith, e, h)) p budget q

-- ---- after a sentence

module _ (s : Nonterminal) (tokens : List Token) (at end : ℕ) (x : Sort s) where
  -- the token after the text
  abbrev Behind : Type 0
  Behind = (run : List Sighted) × (next : Sighted) × (rest : List Sighted) × (drop at (sighted tokens) ≡ run ++ next ∷ rest) × (at + length run ≡ end) × Spells false s source_budget run x × EndsAt false s run (next ∷ [])

  pub text_end : IsSentence s tokens at x end → length tokens ≤ end → at < length tokens → BreaksNone s tokens at
  text_end (run, rest, e, n, p, ends) l inside = go rest e
    where
      go : (rest : List Sighted) → drop at (sighted tokens) ≡ run ++ rest → BreaksNone s tokens at
      go [] e = refused.unbroken_end s tokens at run x e p
      go (t ∷ rest) e = absurd (let a = sym (length-drop at (sighted tokens)) ∙ ap length e ∙ length-append run (t ∷ rest) in let b = sighted_length tokens in omega (arith, a, b, l, n))

  pub text_past : IsSentence s tokens at x end → at ≤ end
  text_past (run, rest, e, n, p, ends) = omega (arith, n)

  after : IsSentence s tokens at x end → end < length tokens → Behind
  after (run, rest, e, n, p, ends) l = go rest e ends
    where
      go : (rest : List Sighted) → drop at (sighted tokens) ≡ run ++ rest → EndsAt false s run rest → Behind
      go [] e ends = absurd (let a = sym (length-drop at (sighted tokens)) ∙ ap length e ∙ length-append run [] in let b = sighted_length tokens in omega (arith, a, b, l, n))
      go (t ∷ rest) e ends = (run, t, rest, e, sym n, p, ends)

  longest_after : (h : Behind) → IsLongest s tokens at h.0 h.1
  longest_after (run, next, rest, e, n, p, ends) = (rest, e, refused.spelt_viable s run x p, ends source_budget)

  pub p4_text : IsSentence s tokens at x end → end < length tokens → at < end → OfCut (sighted tokens) at end IsAwaitTry → Finds s tokens at (Some (P4, end - 1))
  p4_text text l past told =
      let (run, next, rest, e, n, p, ends) = after text l in
      (refused.first_p4 s tokens at run next (end - 1) (longest_after (run, next, rest, e, n, p, ends)) (told run next rest e n) (omega (arith, n, past)), omega (arith, l))

  pub chained_text : IsSentence s tokens at x end → end < length tokens → NoAwaitTry s tokens at end → (rule : Rule) → OfCut (sighted tokens) at end (Tells s (Some rule)) → Finds s tokens at (Some (rule, end))
  chained_text text l n4 rule told = (go rule (told run next rest e n), l)
    where
      h : Behind
      h = after text l

      run : List Sighted
      run = h.0

      next : Sighted
      next = h.1

      rest : List Sighted
      rest = h.2

      e : drop at (sighted tokens) ≡ run ++ next ∷ rest
      e = h.3

      n : at + length run ≡ end
      n = h.4

      at_place : end + 0 ≡ at + length run
      at_place = omega (arith, n)

      never_p2 : BreaksP2to6 s tokens at run next P2 → ⊥
      never_p2 p2 = p2.0 source_budget x h.5

      go : (rule : Rule) → Tells s (Some rule) run next → IsFirstBroken s tokens at rule end
      go P3 t = refused.first_chain_over_budget s tokens at run next end (longest_after h) (n4 run next rest e n) never_p2 t.0 t.1 at_place
      go P5 t = refused.first_p5 s tokens at run next end (longest_after h) (n4 run next rest e n) never_p2 t.0 h.6 t.1 at_place
      go P6 t = refused.first_p6 s tokens at run next end (longest_after h) (n4 run next rest e n) never_p2 t.0 t.1 h.6 t.2 at_place
      go rule t = absurd t

  pub none_text : IsSentence s tokens at x end → end < length tokens → NoAwaitTry s tokens at end → OfCut (sighted tokens) at end (Tells s None) → BreaksNone s tokens at
  none_text text l n4 told =
      let (run, next, rest, e, n, p, ends) = after text l in
      refused.unbroken s tokens at run rest next x e p ends (n4 run next rest e n) (told run next rest e n (viable_leniently s source_budget run (refused.spelt_viable s run x p)))
