-- P3, P5 and P6 are told by the lenient grammar, after the longest run that is a viable prefix.
use Rattle.std.proofs.Common.{◌≡◌, ◌⊎◌, ℕ, inl, inr, true, false, List, [], ◌∷◌, ◌++◌, refl, sym, ap, ◌∙◌, subst, append-nil}
use Rattle.sw_rules.specs.declared.Rule.{Rule}
use Rattle.sw_rules.specs.declared.Rule.TheVariants.{P3, P5, P6}
use Rattle.sw_lex.specs.declared.token.Token.{Token}
use Rattle.sw_grammar.specs.Grammar.{Budget}
use Rattle.sw_grammar.specs.Reading.{Out, got, rejected, out_of_fuel, over_budget, unexpected}
use Rattle.sw_grammar.proofs.Only as only
use Rattle.sw_grammar.proofs.Viable as begun
use Rattle.sw_syntax.specs.declared.class.Sight.{Sight}
use Rattle.sw_syntax.specs.Tokens.{same_kind, Sighted, Face}
use Rattle.sw_syntax.specs.Tests.{is_comparison, is_effect}
use Rattle.sw_syntax.specs.Nonterminals.{Nonterminal, Sort}
use Rattle.sw_syntax.specs.Grammar.{production}
use Rattle.sw_syntax.specs.Tables.{first_table, follow_last_table, nullable_table, rank, width}
use Rattle.sw_syntax.specs.Meaning.{IsViablePrefix, source_budget}
use Rattle.sw_syntax.specs.Answering.{Answers, read_in}
use Rattle.sw_syntax.specs.Misplaced.{EndsInChain, EndsInEffect}
use Rattle.sw_syntax.specs.Refusals.{EndsAt, ExceedsBudget, ExceedsBudgetToChain, IsLongest, BreaksP2to6}
use Rattle.sw_syntax.specs.Reaching.{BreaksLeniently}
use Rattle.sw_syntax.proofs.Classes.{apart}
use Rattle.sw_syntax.proofs.Decides.{is_decided}
use Rattle.sw_syntax.proofs.Law.{exact, viable_prefix}
use Rattle.sw_syntax.proofs.Reached.{Sides, sides}
use Rattle.sw_syntax.proofs.MisplacedLemmas.{chain_ends, effect_ends}
use Rattle.sw_syntax.proofs.FromLenient.{begun_strictly}
use Rattle.sw_syntax.proofs.ToLenient.{chain_loosely, effect_loosely}

-- ---- one run is the longest

-- with the first of what is left, if any is, the tokens begin no sentence in the budget of a source
abbrev pub StopsAt : Nonterminal → List Sighted → List Sighted → Type 0
StopsAt s u [] = Unit {0}
StopsAt s u (t ∷ rest) = IsViablePrefix false s source_budget (u ++ t ∷ []) → ⊥

pub stops : (s : Nonterminal) (u rest : List Sighted) → EndsAt false s u rest → StopsAt s u rest
stops s u [] h = tt
stops s u (t ∷ rest) h = h source_budget

pub same_cut : (s : Nonterminal) (ts u rest v other : List Sighted) → ts ≡ u ++ rest → ts ≡ v ++ other → IsViablePrefix false s source_budget u → IsViablePrefix false s source_budget v → StopsAt s u rest → StopsAt s v other → (u ≡ v) × (rest ≡ other)
same_cut s ts u [] v [] = only.same_cut Sight Face Nonterminal Sort (production false) first_table nullable_table follow_last_table rank width (is_decided false) s source_budget ts u [] v []
same_cut s ts u [] v (y ∷ other) = only.same_cut Sight Face Nonterminal Sort (production false) first_table nullable_table follow_last_table rank width (is_decided false) s source_budget ts u [] v (y ∷ other)
same_cut s ts u (t ∷ rest) v [] = only.same_cut Sight Face Nonterminal Sort (production false) first_table nullable_table follow_last_table rank width (is_decided false) s source_budget ts u (t ∷ rest) v []
same_cut s ts u (t ∷ rest) v (y ∷ other) = only.same_cut Sight Face Nonterminal Sort (production false) first_table nullable_table follow_last_table rank width (is_decided false) s source_budget ts u (t ∷ rest) v (y ∷ other)

-- ---- the last token of a run

empty_front : {T : Type 0} (u : List T) (t : T) → [] ≡ u ++ t ∷ [] → ⊥
empty_front [] t e = cc
empty_front (y ∷ u) t e = cc

last_same : {T : Type 0} (u v : List T) (t y : T) → u ++ t ∷ [] ≡ v ++ y ∷ [] → (u ≡ v) × (t ≡ y)
last_same [] [] t y e = (refl, cc)
last_same {T} [] (b ∷ v) t y e = let less : [] ≡ v ++ y ∷ [] = cc in absurd (empty_front v y less)
last_same {T} (a ∷ u) [] t y e = let less : [] ≡ u ++ t ∷ [] = cc in absurd (empty_front u t less)
last_same (a ∷ u) (b ∷ v) t y e =
    let same : a ≡ b = cc in
    let less : u ++ t ∷ [] ≡ v ++ y ∷ [] = cc in
    let (eu, et) = last_same u v t y less in
    (ap (λ x. x ∷ u) same ∙ ap (λ l. b ∷ l) eu, et)

-- the first part of a run and the token after it is all of that, or the front of the run
cut_last : {T : Type 0} (u v w : List T) (t : T) → u ++ t ∷ [] ≡ v ++ w → (v ≡ u ++ t ∷ []) ⊎ ((r : List T) × (u ≡ v ++ r))
cut_last {T} u v w t e = go (sides v w u t [] (sym e))
  where
    go : Sides v w u t [] → (v ≡ u ++ t ∷ []) ⊎ ((r : List T) × (u ≡ v ++ r))
    go (inl ([], ev, er)) = inl (ev ∙ append-nil (u ++ t ∷ []))
    go (inl (y ∷ r, ev, er)) = absurd (cc)
    go (inr (r, eu, er)) = inr (r, eu)

not_both : (t : Sight) → is_comparison t ≡ true → is_effect t ≡ true → ⊥
unfolding same_kind
not_both t = apart is_comparison is_effect refl t

-- ---- a run, and the token after it

module _ (s : Nonterminal) (u : List Sighted) (t : Sighted) where
  abbrev Ends : Type 0
  Ends = EndsAt false s u (t ∷ [])

  ended_same : (v : List Sighted) (y : Sighted) → u ≡ v → t ≡ y → EndsAt false s v (y ∷ []) → Ends
  ended_same v y eu et h = subst (λ v. EndsAt false s v (t ∷ [])) (sym eu) (subst (λ y. EndsAt false s v (y ∷ [])) (sym et) h)

  chain_told : (budget : Budget) → EndsInChain s budget (u ++ t ∷ []) → (is_comparison t.sight ≡ true) × Ends
  chain_told budget p =
      let (v, y, e, is, ends) = chain_ends s budget (u ++ t ∷ []) p in
      let (eu, et) = last_same u v t y e in
      (subst (λ (y : Sighted). is_comparison y.sight ≡ true) (sym et) is, ended_same v y eu et ends)

  effect_told : (budget : Budget) → EndsInEffect s budget (u ++ t ∷ []) → (is_effect t.sight ≡ true) × Ends
  effect_told budget p =
      let (v, y, e, is, ends) = effect_ends s budget (u ++ t ∷ []) p in
      let (eu, et) = last_same u v t y e in
      (subst (λ (y : Sighted). is_effect y.sight ≡ true) (sym et) is, ended_same v y eu et ends)

  -- a run that is a viable prefix does not end so, nor does any front of it
  none_before : (home budget : Budget) (v r : List Sighted) → u ≡ v ++ r → IsViablePrefix false s home u → EndsInChain s budget v ⊎ EndsInEffect s budget v → ⊥
  none_before home budget v r eu here (inl p) =
      let (v1, y, ev, is, ends) = chain_ends s budget v p in ends home (subst (IsViablePrefix false s home) ev (viable_prefix false s home v r (subst (IsViablePrefix false s home) eu here)))
  none_before home budget v r eu here (inr p) =
      let (v1, y, ev, is, ends) = effect_ends s budget v p in ends home (subst (IsViablePrefix false s home) ev (viable_prefix false s home v r (subst (IsViablePrefix false s home) eu here)))

  -- where the lenient grammar goes on with the token, and the grammar does not
  ended : (home budget : Budget) → IsViablePrefix false s home u → Ends → IsViablePrefix true s budget (u ++ t ∷ []) → EndsInChain s budget (u ++ t ∷ []) ⊎ EndsInEffect s budget (u ++ t ∷ [])
  ended home budget here ends b = go (begun_strictly s budget (u ++ t ∷ []) b)
    where
      go : IsViablePrefix false s budget (u ++ t ∷ []) ⊎ ((v : List Sighted) × (w : List Sighted) × (u ++ t ∷ [] ≡ v ++ w) × (EndsInChain s budget v ⊎ EndsInEffect s budget v))
          → EndsInChain s budget (u ++ t ∷ []) ⊎ EndsInEffect s budget (u ++ t ∷ [])
      go (inl p) = absurd (ends budget p)
      go (inr (v, w, e, q)) = cut (cut_last u v w t e)
        where
          cut : (v ≡ u ++ t ∷ []) ⊎ ((r : List Sighted) × (u ≡ v ++ r)) → EndsInChain s budget (u ++ t ∷ []) ⊎ EndsInEffect s budget (u ++ t ∷ [])
          cut (inl ev) = subst (λ v. EndsInChain s budget v ⊎ EndsInEffect s budget v) ev q
          cut (inr (r, eu)) = absurd (none_before home budget v r eu here q)

  chain_of : (home budget : Budget) → IsViablePrefix false s home u → Ends → is_comparison t.sight ≡ true → IsViablePrefix true s budget (u ++ t ∷ []) → EndsInChain s budget (u ++ t ∷ [])
  chain_of home budget here ends is b = go (ended home budget here ends b)
    where
      go : EndsInChain s budget (u ++ t ∷ []) ⊎ EndsInEffect s budget (u ++ t ∷ []) → EndsInChain s budget (u ++ t ∷ [])
      go (inl p) = p
      go (inr p) = absurd (not_both t.sight is (effect_told budget p).0)

  effect_of : (home budget : Budget) → IsViablePrefix false s home u → Ends → is_effect t.sight ≡ true → IsViablePrefix true s budget (u ++ t ∷ []) → EndsInEffect s budget (u ++ t ∷ [])
  effect_of home budget here ends is b = go (ended home budget here ends b)
    where
      go : EndsInChain s budget (u ++ t ∷ []) ⊎ EndsInEffect s budget (u ++ t ∷ []) → EndsInEffect s budget (u ++ t ∷ [])
      go (inl p) = absurd (not_both t.sight (chain_told budget p).0 is)
      go (inr p) = p

  -- ---- it goes on in no budget, or budget is lacking for it

  lacks_stops : (v r : List Sighted) → ExceedsBudget false s v r → StopsAt s v r
  lacks_stops v [] h = tt
  lacks_stops v (y ∷ r) h = h.0

  ends_or_lacks : IsViablePrefix false s source_budget u → (IsViablePrefix false s source_budget (u ++ t ∷ []) → ⊥) → Ends ⊎ ExceedsBudget false s u (t ∷ [])
  ends_or_lacks here refused = go (read_in false s source_budget (u ++ t ∷ [])) (exact false s source_budget (u ++ t ∷ []))
    where
      cut : (v r : List Sighted) → u ++ t ∷ [] ≡ v ++ r → IsViablePrefix false s source_budget v → StopsAt s v r → (v ≡ u) × (r ≡ t ∷ [])
      cut v r e p stop = same_cut s (u ++ t ∷ []) v r u (t ∷ []) e refl p here stop refused

      ends : (v r : List Sighted) → (v ≡ u) × (r ≡ t ∷ []) → EndsAt false s v r → Ends
      ends v r (ev, er) h = subst (λ v. EndsAt false s v (t ∷ [])) ev (subst (EndsAt false s v) er h)

      lacks : (v r : List Sighted) → (v ≡ u) × (r ≡ t ∷ []) → ExceedsBudget false s v r → ExceedsBudget false s u (t ∷ [])
      lacks v r (ev, er) h = subst (λ v. ExceedsBudget false s v (t ∷ [])) ev (subst (ExceedsBudget false s v) er h)

      go : (o : Out Sighted (Sort s)) → Answers false s source_budget (u ++ t ∷ []) o → Ends ⊎ ExceedsBudget false s u (t ∷ [])
      go (got x c r) (v, e, p, h) = inl (ends v r (cut v r e (begun.spelt_viable Sight Face Nonterminal Sort (production false) first_table nullable_table follow_last_table s source_budget v x p) (stops s v r h)) h)
      go (rejected over_budget r) (v, e, p, h) = inr (lacks v r (cut v r e p (lacks_stops v r h)) h)
      go (rejected unexpected r) (v, e, p, h, none) = inl (ends v r (cut v r e p (stops s v r h)) h)
      go out_of_fuel h = absurd h

  -- ---- P3

  abbrev LacksTo : Type 0
  LacksTo = ExceedsBudget false s u (t ∷ []) ⊎ ExceedsBudgetToChain s (u ++ t ∷ [])

  abbrev LacksLeniently : Type 0
  LacksLeniently = ExceedsBudget false s u (t ∷ []) ⊎ ((is_comparison t.sight ≡ true) × ExceedsBudget true s u (t ∷ []))

  lacks_leniently : IsViablePrefix false s source_budget u → LacksTo → LacksLeniently
  lacks_leniently here (inl lacks) = inl lacks
  lacks_leniently here (inr (none, larger, within, p)) =
      let (is, ends) = chain_told larger p in inr (is, ((λ b. none (chain_of source_budget source_budget here ends is b)), larger, within, chain_loosely s larger (u ++ t ∷ []) p))

  lacks_strictly : IsViablePrefix false s source_budget u → (IsViablePrefix false s source_budget (u ++ t ∷ []) → ⊥) → LacksLeniently → LacksTo
  lacks_strictly here refused (inl lacks) = inl lacks
  lacks_strictly here refused (inr (is, (none, larger, within, b))) = go (ends_or_lacks here refused)
    where
      go : Ends ⊎ ExceedsBudget false s u (t ∷ []) → LacksTo
      go (inl ends) = inr ((λ p. none (chain_loosely s source_budget (u ++ t ∷ []) p)), larger, within, chain_of source_budget larger here ends is b)
      go (inr lacks) = inl lacks

-- ---- the laws: after the longest run the lenient grammar tells the same rules

module _ (s : Nonterminal) (tokens : List Token) (at : ℕ) (u : List Sighted) (t : Sighted) (longest : IsLongest s tokens at u t) where
  pub leniently : (production : Rule) → BreaksP2to6 s tokens at u t production → BreaksLeniently s tokens at u t production
  leniently P3 p = lacks_leniently s u t longest.2 p
  leniently P5 p = let (is, ends) = chain_told s u t source_budget p in (is, ends, chain_loosely s source_budget (u ++ t ∷ []) p)
  leniently P6 p = let (is, ends) = effect_told s u t source_budget p in (is, ends, effect_loosely s source_budget (u ++ t ∷ []) p)
  leniently production p = p

  pub strictly : (production : Rule) → BreaksLeniently s tokens at u t production → BreaksP2to6 s tokens at u t production
  strictly P3 p = lacks_strictly s u t longest.2 longest.3 p
  strictly P5 (is, ends, b) = chain_of s u t source_budget source_budget longest.2 ends is b
  strictly P6 (is, ends, b) = effect_of s u t source_budget source_budget longest.2 ends is b
  strictly production p = p
