-- What a reading says of the token at a place, by how far it came.
use Rattle.std.proofs.Common.{◌≡◌, ◌<◌, ◌≤◌, ◌+◌, ◌-◌, ◌⊎◌, inl, inr, ℕ, suc, Bool, true, false, List, [], ◌∷◌, ◌++◌, drop, length, refl, sym, ap, ◌∙◌, subst, arith, length-append, append-nil, append_assoc}
use Rattle.std.proofs.lemmas.List.{length-drop}
use Rattle.sw_grammar.specs.Reading.{Out, got, rejected, over_budget, unexpected}
use Rattle.sw_grammar.proofs.Viable as begun
use Rattle.sw_lex.specs.declared.token.Token.{Token}
use Rattle.sw_syntax.specs.declared.class.Sight.{Sight}
use Rattle.sw_syntax.specs.Tokens.{Sighted, Face, sighted}
use Rattle.sw_syntax.specs.Nonterminals.{Nonterminal, Sort}
use Rattle.sw_syntax.specs.Grammar.{production}
use Rattle.sw_syntax.specs.Tables.{first_table, follow_last_table, nullable_table}
use Rattle.sw_syntax.specs.Meaning.{Spells, IsViablePrefix, source_budget}
use Rattle.sw_syntax.specs.Answering.{Answers, read_in}
use Rattle.sw_syntax.specs.ReadResults.{reason}
use Rattle.sw_syntax.specs.Refusals.{EndsAt, ExceedsBudget, IsNoSentence, IsSentence}
use Rattle.sw_syntax.proofs.Law.{exact, viable_prefix}
use Rattle.sw_syntax.proofs.SightLemmas.{sighted_length}

-- of two cuts of one list, the first goes beyond the token after the second's front, or it does not
abbrev pub Sides : {T : Type 0} → List T → List T → List T → T → List T → Type 0
Sides {T} v r u t rest = ((w : List T) × (v ≡ (u ++ t ∷ []) ++ w) × (rest ≡ w ++ r)) ⊎ ((w : List T) × (u ≡ v ++ w) × (r ≡ w ++ t ∷ rest))

pub sides : {T : Type 0} (v r u : List T) (t : T) (rest : List T) → v ++ r ≡ u ++ t ∷ rest → Sides v r u t rest
sides [] r u t rest e = inr (u, refl, e)
sides (x ∷ v) r [] t rest e = inl (v, cc, cc)
sides (x ∷ v) r (y ∷ u) t rest e =
    let same : x ≡ y = cc in
    let less : v ++ r ≡ u ++ t ∷ rest = cc in
    step same (sides v r u t rest less)
  where
    step : x ≡ y → Sides v r u t rest → Sides (x ∷ v) r (y ∷ u) t rest
    step same (inl (w, ev, er)) = inl (w, ap (λ x. x ∷ v) same ∙ ap (λ l. y ∷ l) ev, er)
    step same (inr (w, eu, er)) = inr (w, ap (λ y. y ∷ u) (sym same) ∙ ap (λ l. x ∷ l) eu, er)

module _ (lenient : Bool) (s : Nonterminal) (S : List Sighted) (at : ℕ) (u : List Sighted) (t : Sighted) (rest : List Sighted) (e : drop at S ≡ u ++ t ∷ rest) where
  abbrev Here : Type 0
  Here = IsViablePrefix lenient s source_budget u

  abbrev On : Type 0
  On = IsViablePrefix lenient s source_budget (u ++ t ∷ [])

  -- what is left after an end is no longer than what follows the token, where the end is beyond it, and longer elsewhere
  lengths : (end : ℕ) → (length (drop end S) ≡ length S - end) × (length S - at ≡ length u + suc (length rest))
  lengths end = (length-drop end S, sym (length-drop at S) ∙ ap length e ∙ length-append u (t ∷ rest))

  -- the reading came beyond the token
  past : (v : List Sighted) (end : ℕ) → drop at S ≡ v ++ drop end S → IsViablePrefix lenient s source_budget v → at + length u < end → On
  past v end e' p l = go (sides v (drop end S) u t rest (sym e' ∙ e))
    where
      go : Sides v (drop end S) u t rest → On
      go (inl (w, ev, er)) = viable_prefix lenient s source_budget (u ++ t ∷ []) w (subst (IsViablePrefix lenient s source_budget) ev p)
      go (inr (w, eu, er)) = absurd (let (a, b) = lengths end in let c = ap length er ∙ length-append w (t ∷ rest) in omega (arith, l, a, b, c))

  -- it came to the token and no further
  short : (v : List Sighted) (end : ℕ) → drop at S ≡ v ++ drop end S → end ≤ at + length u → (w : List Sighted) × (u ≡ v ++ w) × (drop end S ≡ w ++ t ∷ rest)
  short v end e' l = go (sides v (drop end S) u t rest (sym e' ∙ e))
    where
      go : Sides v (drop end S) u t rest → (w : List Sighted) × (u ≡ v ++ w) × (drop end S ≡ w ++ t ∷ rest)
      go (inl (w, ev, er)) = absurd (let (a, b) = lengths end in let c = ap length er ∙ length-append w (drop end S) in omega (arith, l, a, b, c))
      go (inr h) = h

  -- it ended where u does
  at_end : (v : List Sighted) (end : ℕ) → drop at S ≡ v ++ drop end S → end ≡ at + length u → (u ≡ v) × (drop end S ≡ t ∷ rest)
  at_end v end e' l = go (short v end e' (omega (arith, l)))
    where
      go : (w : List Sighted) × (u ≡ v ++ w) × (drop end S ≡ w ++ t ∷ rest) → (u ≡ v) × (drop end S ≡ t ∷ rest)
      go ([], eu, er) = (eu ∙ append-nil v, er)
      go (y ∷ w, eu, er) = absurd (let (a, b) = lengths end in let c = ap length er ∙ length-append (y ∷ w) (t ∷ rest) in omega (arith, l, a, b, c))

  -- where with the next token nothing is begun, not even as far as u
  ended : (v w : List Sighted) (y : Sighted) → u ≡ v ++ y ∷ w → (IsViablePrefix lenient s source_budget (v ++ y ∷ []) → ⊥) → Here → ⊥
  ended v w y eu none p = none (viable_prefix lenient s source_budget (v ++ y ∷ []) w (subst (IsViablePrefix lenient s source_budget) (eu ∙ sym (append_assoc v (y ∷ []) w)) p))

  ends_here : (v r : List Sighted) → (w : List Sighted) × (u ≡ v ++ w) × (r ≡ w ++ t ∷ rest) → EndsAt lenient s v r → Here → EndsAt lenient s u (t ∷ [])
  ends_here v r ([], eu, er) ends p = subst (λ v. EndsAt lenient s v (t ∷ [])) (sym (eu ∙ append-nil v)) (subst (EndsAt lenient s v) er ends)
  ends_here v r (y ∷ w, eu, er) ends p = absurd (ended v w y eu (subst (EndsAt lenient s v) er ends source_budget) p)

  spelt_viable : (v : List Sighted) (x : Sort s) → Spells lenient s source_budget v x → IsViablePrefix lenient s source_budget v
  spelt_viable v x = begun.spelt_viable Sight Face Nonterminal Sort (production lenient) first_table nullable_table follow_last_table s source_budget v x

  abbrev answer : Out Sighted (Sort s) → Type 0
  answer o = Answers lenient s source_budget (drop at S) o

  told : (o : Out Sighted (Sort s)) → read_in lenient s source_budget (drop at S) ≡ o → answer o
  told o is = subst (λ o. answer o) is (exact lenient s source_budget (drop at S))

  -- ---- a value

  pub got_beyond : (x : Sort s) (c end : ℕ) → read_in lenient s source_budget (drop at S) ≡ got x c (drop end S) → at + length u < end → On
  got_beyond x c end is l = let (v, e', p, ends) = told (got x c (drop end S)) is in past v end e' (spelt_viable v x p) l

  pub got_short : (x : Sort s) (c end : ℕ) → read_in lenient s source_budget (drop at S) ≡ got x c (drop end S) → end ≤ at + length u → Here → EndsAt lenient s u (t ∷ [])
  got_short x c end is l = let (v, e', p, ends) = told (got x c (drop end S)) is in ends_here v (drop end S) (short v end e' l) ends

  -- ---- a refusal

  refused_viable : (is_over_budget : Bool) (position : ℕ) → read_in lenient s source_budget (drop at S) ≡ rejected (reason is_over_budget) (drop position S) → (v : List Sighted) × (drop at S ≡ v ++ drop position S) × IsViablePrefix lenient s source_budget v
  refused_viable true position is = let (v, e', p, lacks) = told (rejected over_budget (drop position S)) is in (v, e', p)
  refused_viable false position is = let (v, e', p, ends, none) = told (rejected unexpected (drop position S)) is in (v, e', p)

  pub rejected_beyond : (is_over_budget : Bool) (position : ℕ) → read_in lenient s source_budget (drop at S) ≡ rejected (reason is_over_budget) (drop position S) → at + length u < position → On
  rejected_beyond is_over_budget position is l = let (v, e', p) = refused_viable is_over_budget position is in past v position e' p l

  pub rejected_over_budget : (position : ℕ) → read_in lenient s source_budget (drop at S) ≡ rejected over_budget (drop position S) → position ≡ at + length u → Here × ExceedsBudget lenient s u (t ∷ [])
  rejected_over_budget position is l =
      let (v, e', p, lacks) = told (rejected over_budget (drop position S)) is in
      let (eu, er) = at_end v position e' l in
      (subst (IsViablePrefix lenient s source_budget) (sym eu) p, subst (λ v. ExceedsBudget lenient s v (t ∷ [])) (sym eu) (subst (ExceedsBudget lenient s v) er lacks))

  pub rejected_unexpected : (position : ℕ) → read_in lenient s source_budget (drop at S) ≡ rejected unexpected (drop position S) → position ≤ at + length u → Here → EndsAt lenient s u (t ∷ [])
  rejected_unexpected position is l = let (v, e', p, ends, none) = told (rejected unexpected (drop position S)) is in ends_here v (drop position S) (short v position e' l) ends

  -- refused before the token
  pub rejected_before : (is_over_budget : Bool) (position : ℕ) → read_in lenient s source_budget (drop at S) ≡ rejected (reason is_over_budget) (drop position S) → position < at + length u → Here → EndsAt lenient s u (t ∷ [])
  rejected_before false position is l = rejected_unexpected position is (omega (arith, l))
  rejected_before true position is l =
      let (v, e', p, lacks) = told (rejected over_budget (drop position S)) is in
      λ here. absurd (go v lacks here (short v position e' (omega (arith, l))))
    where
      go : (v : List Sighted) → ExceedsBudget lenient s v (drop position S) → Here → (w : List Sighted) × (u ≡ v ++ w) × (drop position S ≡ w ++ t ∷ rest) → ⊥
      go v lacks here ([], eu, er) = let (a, b) = lengths position in let c = ap length er in omega (arith, l, a, b, c)
      go v lacks here (y ∷ w, eu, er) = ended v w y eu (subst (ExceedsBudget lenient s v) er lacks).0 here

-- ---- all the tokens of a source

pub text_found : (s : Nonterminal) (tokens : List Token) (at : ℕ) (x : Sort s) (c end : ℕ) → at < length tokens → end ≤ length (sighted tokens)
    → read_in false s source_budget (drop at (sighted tokens)) ≡ got x c (drop end (sighted tokens)) → IsSentence s tokens at x end
text_found s tokens at x c end inside ends given =
    let (u, e, p, h) = subst (λ o. Answers false s source_budget (drop at (sighted tokens)) o) given (exact false s source_budget (drop at (sighted tokens))) in
    let a = sym (length-drop at (sighted tokens)) ∙ ap length e ∙ length-append u (drop end (sighted tokens)) in
    let b = length-drop end (sighted tokens) in
    let l = sighted_length tokens in
    (u, drop end (sighted tokens), e, omega (arith, a, b, l, inside, ends), p, h)

-- what is refused is a token, unless all of them begin a text and are none
pub refused_inside : (s : Nonterminal) (tokens : List Token) (at position : ℕ) (is_over_budget : Bool) → (IsViablePrefix false s source_budget (drop at (sighted tokens)) → IsNoSentence s (drop at (sighted tokens)) → ⊥)
    → read_in false s source_budget (drop at (sighted tokens)) ≡ rejected (reason is_over_budget) (drop position (sighted tokens)) → position < length tokens
refused_inside s tokens at position is_over_budget never given = go is_over_budget (drop position (sighted tokens)) refl (subst (λ o. Answers false s source_budget (drop at (sighted tokens)) o) given (exact false s source_budget (drop at (sighted tokens))))
  where
    stands : (t : Sighted) (rest : List Sighted) → drop position (sighted tokens) ≡ t ∷ rest → position < length tokens
    stands t rest e = let a = sym (length-drop position (sighted tokens)) ∙ ap length e in let l = sighted_length tokens in omega (arith, a, l)

    go : (is_over_budget : Bool) (rest : List Sighted) → drop position (sighted tokens) ≡ rest → Answers false s source_budget (drop at (sighted tokens)) (rejected (reason is_over_budget) rest) → position < length tokens
    go is_over_budget (t ∷ rest) e h = stands t rest e
    go true [] e (u, eu, p, lacks) = elim lacks [ ]
    go false [] e (u, eu, p, ends, none) = let all = sym (eu ∙ append-nil u) in absurd (never (subst (IsViablePrefix false s source_budget) all p) (subst (IsNoSentence s) all none))
