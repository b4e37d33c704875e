-- The tokens have one answer: what is said of it determines it.
use Rattle.std.proofs.Common.{◌≡◌, ◌⊎◌, inl, inr, ℕ, List, [], ◌∷◌, ◌++◌, Bool, refl, sym, ap, ◌∙◌, subst, append_assoc, append-nil, ⊎_elim}
use Rattle.sw_grammar.specs.Grammar.{Token, Part, Budget, Spells, IsViablePrefix}
use Rattle.sw_grammar.specs.Reading.{over_budget, unexpected, Out, got, rejected, out_of_fuel}
use Rattle.sw_grammar.specs.Deciding.{IsDecided}
use Rattle.sw_grammar.specs.Ends.{EndsAt, ExceedsBudget}
use Rattle.sw_grammar.specs.ReaderAnswers.{Answers}
use Rattle.sw_grammar.proofs.Prefix.{viable_prefix}
use Rattle.sw_grammar.proofs.Whole.{one_tree}
use Rattle.sw_grammar.proofs.Viable.{spelt_viable}

-- the same answer, up to how many more may be counted
abbrev pub Agree : {T A : Type 0} → Out T A → Out T A → Type 0
Agree (got x c r) (got y e q) = (x ≡ y) × (r ≡ q)
Agree (rejected over_budget r) (rejected over_budget q) = r ≡ q
Agree (rejected unexpected r) (rejected unexpected q) = r ≡ q
Agree o o' = ⊥

-- of two cuts of one list, one is not longer
compare : {T : Type 0} (u rest a b : List T) → u ++ rest ≡ a ++ b → ((r : List T) × (a ≡ u ++ r) × (rest ≡ r ++ b)) ⊎ ((r : List T) × (u ≡ a ++ r) × (b ≡ r ++ rest))
compare [] rest a b e = inl (a, refl, e)
compare (x ∷ u) rest [] b e = inr (x ∷ u, refl, sym e)
compare (x ∷ u) rest (y ∷ a) b e =
    let same : x ≡ y = cc in
    let less : u ++ rest ≡ a ++ b = cc in
    ⊎_elim (λ h. inl (h.0, ap (λ z. z ∷ a) (sym same) ∙ ap (λ l. x ∷ l) h.1, h.2)) (λ h. inr (h.0, ap (λ z. z ∷ u) same ∙ ap (λ l. y ∷ l) h.1, h.2)) (compare u rest a b less)

module _ (K V S : Type 0) (Sort : S → Type 0) (production : (s : S) → Part K V S Sort (Sort s)) (first_table : S → K → Bool) (nullable_table : S → Bool) (follow_last_table : S → K → Bool)
    (rank : S → ℕ) (width : ℕ) (fine : IsDecided K V S Sort production first_table nullable_table follow_last_table rank width) where
  abbrev IsPrefix : S → Budget → List (Token K V) → Type 0
  IsPrefix = IsViablePrefix K V S Sort production

  abbrev EndsHere : S → Budget → List (Token K V) → List (Token K V) → Type 0
  EndsHere s budget u [] = Unit {0}
  EndsHere s budget u (t ∷ rest) = IsPrefix s budget (u ++ t ∷ []) → ⊥

  ends_here : (s : S) (budget : Budget) (u rest : List (Token K V)) → EndsAt K V S Sort production s u rest → EndsHere s budget u rest
  ends_here s budget u [] h = tt
  ends_here s budget u (t ∷ rest) h = h budget

  lacks_here : (s : S) (budget : Budget) (u rest : List (Token K V)) → ExceedsBudget K V S Sort production s budget u rest → EndsHere s budget u rest
  lacks_here s budget u [] h = tt
  lacks_here s budget u (t ∷ rest) h = h.0

  -- a longer run is none
  no_longer : (s : S) (budget : Budget) (u rest a b r : List (Token K V)) → a ≡ u ++ r → rest ≡ r ++ b → IsPrefix s budget a → EndsHere s budget u rest → (u ≡ a) × (rest ≡ b)
  no_longer s budget u rest a b [] ea er p ends = (sym (ea ∙ append-nil u), er)
  no_longer s budget u rest a b (t ∷ r) ea er p ends =
      absurd (subst (EndsHere s budget u) er ends (viable_prefix K V S Sort production s budget (u ++ t ∷ []) r (subst (IsPrefix s budget) (ea ∙ sym (append_assoc u (t ∷ []) r)) p)))

  pub same_cut : (s : S) (budget : Budget) (ts u rest a b : List (Token K V)) → ts ≡ u ++ rest → ts ≡ a ++ b → IsPrefix s budget u → IsPrefix s budget a → EndsHere s budget u rest → EndsHere s budget a b → (u ≡ a) × (rest ≡ b)
  same_cut s budget ts u rest a b e e' p q ends ends' = ⊎_elim
      (λ h. no_longer s budget u rest a b h.0 h.1 h.2 q ends)
      (λ h. let (x, y) = no_longer s budget a b u rest h.0 h.1 h.2 p ends' in (sym x, sym y))
      (compare u rest a b (sym e ∙ e'))

  begun : (s : S) (budget : Budget) (u : List (Token K V)) (x : Sort s) → Spells K V S Sort production s budget u x → IsPrefix s budget u
  begun = spelt_viable K V S Sort production first_table nullable_table follow_last_table

  -- with the next token a sentence is begun nowhere, and somewhere
  not_both : (s : S) (budget : Budget) (u rest a b : List (Token K V)) → u ≡ a → rest ≡ b → EndsAt K V S Sort production s u rest → ExceedsBudget K V S Sort production s budget a b → ⊥
  not_both s budget u rest a b eu er ends lacks = go rest ends (subst (λ u. ExceedsBudget K V S Sort production s budget u rest) (sym eu) (subst (ExceedsBudget K V S Sort production s budget a) (sym er) lacks))
    where
      go : (rest : List (Token K V)) → EndsAt K V S Sort production s u rest → ExceedsBudget K V S Sort production s budget u rest → ⊥
      go [] ends lacks = lacks
      go (t ∷ rest) ends (refused, larger, within, q) = ends larger q

  pub only_answer : (s : S) (budget : Budget) (ts : List (Token K V)) (o o' : Out (Token K V) (Sort s)) → Answers K V S Sort production s budget ts o → Answers K V S Sort production s budget ts o' → Agree o o'
  only_answer s budget ts (got x c rest) (got y e b) (u, eu, p, ends) (a, ea, q, ends') =
      let (same, left) = same_cut s budget ts u rest a b eu ea (begun s budget u x p) (begun s budget a y q) (ends_here s budget u rest ends) (ends_here s budget a b ends') in
      (one_tree K V S Sort production first_table nullable_table follow_last_table rank width fine s budget budget u x y p (subst (λ a. Spells K V S Sort production s budget a y) (sym same) q), left)
  only_answer s budget ts (got x c rest) (rejected over_budget b) (u, eu, p, ends) (a, ea, q, lacks) =
      let (same, left) = same_cut s budget ts u rest a b eu ea (begun s budget u x p) q (ends_here s budget u rest ends) (lacks_here s budget a b lacks) in
      not_both s budget u rest a b same left ends lacks
  only_answer s budget ts (got x c rest) (rejected unexpected b) (u, eu, p, ends) (a, ea, q, ends', none) =
      let (same, left) = same_cut s budget ts u rest a b eu ea (begun s budget u x p) q (ends_here s budget u rest ends) (ends_here s budget a b ends') in
      none budget x (subst (λ a. Spells K V S Sort production s budget a x) same p)
  only_answer s budget ts (rejected over_budget rest) (got y e b) (u, eu, p, lacks) (a, ea, q, ends') =
      let (same, left) = same_cut s budget ts a b u rest ea eu (begun s budget a y q) p (ends_here s budget a b ends') (lacks_here s budget u rest lacks) in
      not_both s budget a b u rest same left ends' lacks
  only_answer s budget ts (rejected over_budget rest) (rejected over_budget b) (u, eu, p, lacks) (a, ea, q, lacks') =
      (same_cut s budget ts u rest a b eu ea p q (lacks_here s budget u rest lacks) (lacks_here s budget a b lacks')).1
  only_answer s budget ts (rejected over_budget rest) (rejected unexpected b) (u, eu, p, lacks) (a, ea, q, ends', none) =
      let (same, left) = same_cut s budget ts a b u rest ea eu q p (ends_here s budget a b ends') (lacks_here s budget u rest lacks) in
      not_both s budget a b u rest same left ends' lacks
  only_answer s budget ts (rejected unexpected rest) (got y e b) (u, eu, p, ends, none) (a, ea, q, ends') =
      let (same, left) = same_cut s budget ts u rest a b eu ea p (begun s budget a y q) (ends_here s budget u rest ends) (ends_here s budget a b ends') in
      none budget y (subst (λ a. Spells K V S Sort production s budget a y) (sym same) q)
  only_answer s budget ts (rejected unexpected rest) (rejected over_budget b) (u, eu, p, ends, none) (a, ea, q, lacks) =
      let (same, left) = same_cut s budget ts u rest a b eu ea p q (ends_here s budget u rest ends) (lacks_here s budget a b lacks) in
      not_both s budget u rest a b same left ends lacks
  only_answer s budget ts (rejected unexpected rest) (rejected unexpected b) (u, eu, p, ends, none) (a, ea, q, ends', none') =
      (same_cut s budget ts u rest a b eu ea p q (ends_here s budget u rest ends) (ends_here s budget a b ends')).1
  only_answer s budget ts out_of_fuel o' h k = absurd h
  only_answer s budget ts (got x c r) out_of_fuel h k = k
  only_answer s budget ts (rejected over_budget r) out_of_fuel h k = k
  only_answer s budget ts (rejected unexpected r) out_of_fuel h k = k
