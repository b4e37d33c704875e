-- Whether tokens begin a sentence within a budget is told by reading them: they do where none of them is left.
use Rattle.std.proofs.Common.{◌≡◌, ℕ, List, [], ◌∷◌, ◌++◌, sym, ap, ◌∙◌, subst, append_assoc, append-nil}
use Rattle.sw_grammar.specs.Grammar.{Token, Part, Budget, Spells, IsViablePrefix}
use Rattle.sw_grammar.specs.Reading.{over_budget, unexpected, Out, got, rejected, out_of_fuel}
use Rattle.sw_grammar.specs.Deciding.{IsDecided}
use Rattle.sw_grammar.specs.Ends.{EndsAt, ExceedsBudget}
use Rattle.sw_grammar.specs.ReaderAnswers.{Answers}
use Rattle.sw_grammar.proofs.Starts.{text_n}
use Rattle.sw_grammar.proofs.Prefix.{viable_prefix}
use Rattle.sw_grammar.proofs.Whole.{reads_in, reads_exact}
use Rattle.std.specs.Prelude.{Bool}

abbrev pub left_of : {T A : Type 0} → Out T A → List T
left_of (got x c rest) = rest
left_of (rejected reason rest) = rest
left_of out_of_fuel = []

module _ (K V S : Type 0) (Sort : S → Type 0) (production : (s : S) → Part K V S Sort (Sort s)) (first_table : S → K → Bool) (nullable_table : S → Bool) (follow_last_table : S → K → Bool) where
  abbrev IsPrefix : S → Budget → List (Token K V) → Type 0
  IsPrefix = IsViablePrefix K V S Sort production

  -- a sentence begins one
  pub spelt_viable : (s : S) (budget : Budget) (u : List (Token K V)) (x : Sort s) → Spells K V S Sort production s budget u x → IsPrefix s budget u
  spelt_viable s budget u x (n, e, p) = (n, text_n K V S Sort production first_table nullable_table follow_last_table n s budget.brackets budget.limit budget.left e u x p)

  all_read : (ts u rest : List (Token K V)) → ts ≡ u ++ rest → rest ≡ [] → u ≡ ts
  all_read ts u rest e er = sym (e ∙ ap (λ r. u ++ r) er ∙ append-nil u)

  viable_all : (s : S) (budget : Budget) (ts : List (Token K V)) (o : Out (Token K V) (Sort s)) → Answers K V S Sort production s budget ts o → left_of o ≡ [] → IsPrefix s budget ts
  viable_all s budget ts (got x c rest) (u, e, p, ends) er = subst (IsPrefix s budget) (all_read ts u rest e er) (spelt_viable s budget u x p)
  viable_all s budget ts (rejected over_budget rest) (u, e, p, lacks) er = subst (IsPrefix s budget) (all_read ts u rest e er) p
  viable_all s budget ts (rejected unexpected rest) (u, e, p, ends, none) er = subst (IsPrefix s budget) (all_read ts u rest e er) p
  viable_all s budget ts out_of_fuel h er = absurd h

  next_prefix : (s : S) (budget : Budget) (ts u rest r : List (Token K V)) (t : (Token K V)) → ts ≡ u ++ rest → rest ≡ t ∷ r → IsPrefix s budget ts → IsPrefix s budget (u ++ t ∷ [])
  next_prefix s budget ts u rest r t e er b = viable_prefix K V S Sort production s budget (u ++ t ∷ []) r (subst (IsPrefix s budget) (e ∙ ap (λ q. u ++ q) er ∙ sym (append_assoc u (t ∷ []) r)) b)

  left_over : (s : S) (budget : Budget) (ts : List (Token K V)) (o : Out (Token K V) (Sort s)) → Answers K V S Sort production s budget ts o → (t : (Token K V)) (r : List (Token K V)) → left_of o ≡ t ∷ r → IsPrefix s budget ts → ⊥
  left_over s budget ts (got x c rest) (u, e, p, ends) t r er b = subst (EndsAt K V S Sort production s u) er ends budget (next_prefix s budget ts u rest r t e er b)
  left_over s budget ts (rejected over_budget rest) (u, e, p, lacks) t r er b = (subst (ExceedsBudget K V S Sort production s budget u) er lacks).0 (next_prefix s budget ts u rest r t e er b)
  left_over s budget ts (rejected unexpected rest) (u, e, p, ends, none) t r er b = subst (EndsAt K V S Sort production s u) er ends budget (next_prefix s budget ts u rest r t e er b)
  left_over s budget ts out_of_fuel h t r er b = h

  module _ (rank : S → ℕ) (width : ℕ) (fine : IsDecided K V S Sort production first_table nullable_table follow_last_table rank width) where
    abbrev answer : (s : S) → Budget → List (Token K V) → Out (Token K V) (Sort s)
    answer s budget ts = reads_in K V S Sort production first_table nullable_table follow_last_table rank width fine s budget ts

    pub viable_where_read : (s : S) (budget : Budget) (ts : List (Token K V)) → left_of (answer s budget ts) ≡ [] → IsPrefix s budget ts
    viable_where_read s budget ts = viable_all s budget ts (answer s budget ts) (reads_exact K V S Sort production first_table nullable_table follow_last_table rank width fine s budget ts)

    pub not_viable_where_left : (s : S) (budget : Budget) (ts : List (Token K V)) (t : (Token K V)) (r : List (Token K V)) → left_of (answer s budget ts) ≡ t ∷ r → IsPrefix s budget ts → ⊥
    not_viable_where_left s budget ts t r = left_over s budget ts (answer s budget ts) (reads_exact K V S Sort production first_table nullable_table follow_last_table rank width fine s budget ts) t r
