-- Tokens that end in a second comparison, or in `try` or `await` right of a binary operator, begin no sentence in any budget.
use Rattle.std.proofs.Common.{◌≡◌, ◌<◌, ℕ, zero, suc, Bool, true, false, List, [], ◌∷◌, ◌++◌, refl, sym, ap, ◌∙◌, subst, append_assoc, arith, Option}
use Rattle.sw_grammar.specs.Grammar as g
use Rattle.sw_grammar.specs.Grammar.{Budget, Each, Derives_by, Derives}
use Rattle.sw_grammar.specs.Deciding.{Decided}
use Rattle.sw_grammar.proofs.Starts.{not_true}
use Rattle.sw_grammar.proofs.Halting as halting
use Rattle.sw_tree.specs.declared.expr.Expr.{Expr as ExprTree}
use Rattle.sw_syntax.specs.declared.class.Sight.{Sight}
use Rattle.sw_syntax.specs.Tokens.{same_kind, Sighted, Face}
use Rattle.sw_syntax.specs.Tests.{is_binary, is_comparison, is_effect, starts_operand}
use Rattle.sw_syntax.specs.Nonterminals.{Nonterminal, Sort, Binary}
use Rattle.sw_syntax.specs.Values.{to_left, to_right}
use Rattle.sw_syntax.specs.Parts.{P}
use Rattle.sw_syntax.specs.Grammar.{production, operand, leftward}
use Rattle.sw_syntax.specs.Tables.{first_table, follow_last_table, nullable_table, rank, width, goes_on}
use Rattle.sw_syntax.specs.Misplaced.{IsChain, IsEffectRight, left_of, EndsInChain, EndsInEffect}
use Rattle.sw_syntax.specs.Refusals.{EndsAt}
use Rattle.sw_syntax.proofs.Classes.{apart}
use Rattle.sw_syntax.proofs.Decides.{is_decided}

-- ---- tests that no token passes both

no_operand : (t : Sight) → is_effect t ≡ true → starts_operand t ≡ false
unfolding same_kind
no_operand t is = not_true (starts_operand t) (apart is_effect starts_operand refl t is)

ends_operand : (t : Sight) → is_comparison t ≡ true → goes_on 3 t ≡ false
unfolding same_kind
ends_operand t is = not_true (goes_on 3 t) (apart is_comparison (goes_on 3) refl t is)

-- ---- the places

abbrev Ok : {A : Type 0} → P A → Type 0
Ok a = Decided Sight Face Nonterminal Sort (production false) first_table nullable_table follow_last_table a

abbrev Text : ℕ → {A : Type 0} → P A → ℕ → ℕ → ℕ → ℕ → List Sighted → A → Type 0
Text n a d l c e u x = Derives_by Sight Face Nonterminal Sort (production false) (Derives Sight Face Nonterminal Sort (production false) n) a d l c e u x

decided : (s : Nonterminal) → Ok (production false s)
decided s = ((is_decided false).table s).decided

module _ (f : Sight → Bool) where
  abbrev Halting : {A : Type 0} → P A → ℕ → ℕ → ℕ → List Sighted → Type 0
  Halting a d l c u = halting.Halting Sight Face Nonterminal Sort (production false) first_table nullable_table follow_last_table rank width (is_decided false) f a d l c u

  in_value : {A C : Type 0} (q : A → C) (a : P A) (d l c : ℕ) (u : List Sighted) → Halting a d l c u → Halting (g.gives q a) d l c u
  in_value = halting.halting_gives Sight Face Nonterminal Sort (production false) first_table nullable_table follow_last_table rank width (is_decided false) f

  in_second : (n : ℕ) {A C : Type 0} (a : P A) (b : P C) → Ok (g.both a b) → (d l c m : ℕ) (v w : List Sighted) (x : A) → Text n a d l c m v x → Halting b d l m w → Halting (g.both a b) d l c (v ++ w)
  in_second = halting.halting_second Sight Face Nonterminal Sort (production false) first_table nullable_table follow_last_table rank width (is_decided false) f

-- ---- a comparison, and the mark of a second

chain_halts : (n d l c : ℕ) (u : List Sighted) → IsChain (Derives Sight Face Nonterminal Sort (production false) n) (Binary 2) d l c u → Halting is_comparison (production false (Binary 2)) d l c u
chain_halts n d l c u (x, e, (v, w, m, eu, p, (v', w', zero, ew, q, r))) = elim r [ ]
chain_halts n d l c u (x, e, (v, w, m, eu, p, (v', w', suc i, ew, q, (t, et, is, ex, ec)))) =
    subst (Halting is_comparison (production false (Binary 2)) d l c) (sym (eu ∙ ap (λ w. v ++ w) (ew ∙ ap (λ w. v' ++ w) et)))
    (in_value is_comparison (λ (left, right). to_right left right) (g.both (g.nonterminal (Binary 3)) (g.maybe op)) d l c (v ++ (v' ++ t ∷ []))
    (in_second is_comparison n (g.nonterminal (Binary 3)) (g.maybe op) ok d l c m v (v' ++ t ∷ []) x.0 p
    (halting.halting_behind Sight Face Nonterminal Sort (production false) first_table nullable_table follow_last_table rank width (is_decided false) is_comparison n op ok.1 d l m (suc i) v' t x.1.0 q (ends_operand t.sight is) is is)))
  where
    op : P (Face × ExprTree)
    op = operand 2 (g.nonterminal (Binary 3))

    ok : Ok (g.both (g.nonterminal (Binary 3)) (g.maybe op))
    ok = decided (Binary 2)

-- ---- a mark, and `try` or `await`

-- the mark, and what is no operand
mark_halts : (k n i : ℕ) → Ok (operand n (g.nonterminal (Binary i))) → (d l c e : ℕ) (v : List Sighted) (t : Sighted) (x : Face) → Text k (g.counts (g.terminal (is_binary n))) d l c e v x → is_effect t.sight ≡ true
    → Halting is_effect (operand n (g.nonterminal (Binary i))) d l c (v ++ t ∷ [])
mark_halts k n i ok d l c e v t x p is =
    halting.halting_between Sight Face Nonterminal Sort (production false) first_table nullable_table follow_last_table rank width (is_decided false) is_effect k (g.counts (g.terminal (is_binary n))) (g.nonterminal (Binary i)) ok d l c e v t x p refl refl refl (no_operand t.sight is) is

-- after a chain
leftward_halts : (k n : ℕ) → Ok (leftward false n) → (d l c m e : ℕ) (v v' : List Sighted) (t : Sighted) (x : ExprTree) (y : Face) → Text k (leftward false n) d l c m v x
    → Text k (g.counts (g.terminal (is_binary n))) d l m e v' y → is_effect t.sight ≡ true → Halting is_effect (leftward false n) d l c (v ++ (v' ++ t ∷ []))
leftward_halts k n ok d l c m e v v' t x y (z, (a, b, i, ev, p, each), ez) q is =
    subst (Halting is_effect (leftward false n) d l c) (sym (ap (λ v. v ++ (v' ++ t ∷ [])) ev ∙ append_assoc a b (v' ++ t ∷ [])))
    (in_value is_effect (λ (left, others). to_left left others) (g.both (g.nonterminal (Binary (suc n))) (g.many op)) d l c (a ++ (b ++ (v' ++ t ∷ [])))
    (in_second is_effect k (g.nonterminal (Binary (suc n))) (g.many op) ok d l c i a (b ++ (v' ++ t ∷ [])) z.0 p
    (halting.halting_many Sight Face Nonterminal Sort (production false) first_table nullable_table follow_last_table rank width (is_decided false) is_effect k op ok.1 d l i m b (v' ++ t ∷ []) z.1 each (mark_halts k n (suc n) ok.1.0 d l m e v' t y q is))))
  where
    op : P (Face × ExprTree)
    op = operand n (g.nonterminal (Binary (suc n)))

-- after one operand
right_halts : (k n i j : ℕ) (f : ExprTree × Option (Face × ExprTree) → ExprTree) → Ok (g.both (g.nonterminal (Binary i)) (g.maybe (operand n (g.nonterminal (Binary j))))) → (d l c m e : ℕ) (v v' : List Sighted) (t : Sighted) (x : ExprTree) (y : Face) → Text k (g.nonterminal (Binary i)) d l c m v x
    → Text k (g.counts (g.terminal (is_binary n))) d l m e v' y → is_effect t.sight ≡ true → Halting is_effect (g.gives f (g.both (g.nonterminal (Binary i)) (g.maybe (operand n (g.nonterminal (Binary j)))))) d l c (v ++ (v' ++ t ∷ []))
right_halts k n i j f ok d l c m e v v' t x y p q is =
    in_value is_effect f (g.both (g.nonterminal (Binary i)) (g.maybe op)) d l c (v ++ (v' ++ t ∷ []))
    (in_second is_effect k (g.nonterminal (Binary i)) (g.maybe op) ok d l c m v (v' ++ t ∷ []) x p
    (halting.halting_maybe Sight Face Nonterminal Sort (production false) first_table nullable_table follow_last_table rank width (is_decided false) is_effect op d l m (v' ++ t ∷ []) (mark_halts k n j ok.1.0 d l m e v' t y q is)))
  where
    op : P (Face × ExprTree)
    op = operand n (g.nonterminal (Binary j))

-- after what stands left of a mark of each strength
left_halts : (k n : ℕ) → n < 6 → (d l c m e : ℕ) (v v' : List Sighted) (t : Sighted) (x : ExprTree) (y : Face) → Text k (left_of n) d l c m v x
    → Text k (g.counts (g.terminal (is_binary n))) d l m e v' y → is_effect t.sight ≡ true → Halting is_effect (production false (Binary n)) d l c (v ++ (v' ++ t ∷ []))
left_halts k zero _ = leftward_halts k 0 (decided (Binary 0))
left_halts k (suc zero) _ = leftward_halts k 1 (decided (Binary 1))
left_halts k (suc (suc zero)) _ = right_halts k 2 3 3 (λ (left, right). to_right left right) (decided (Binary 2))
left_halts k (suc (suc (suc zero))) _ = right_halts k 3 4 3 (λ (left, right). to_right left right) (decided (Binary 3))
left_halts k (suc (suc (suc (suc zero)))) _ = leftward_halts k 4 (decided (Binary 4))
left_halts k (suc (suc (suc (suc (suc zero))))) _ = leftward_halts k 5 (decided (Binary 5))
left_halts k (suc (suc (suc (suc (suc (suc n)))))) less = absurd (omega (arith, less))

effect_halts : (k n d l c : ℕ) (u : List Sighted) → IsEffectRight (Derives Sight Face Nonterminal Sort (production false) k) (Binary n) d l c u → Halting is_effect (production false (Binary n)) d l c u
effect_halts k n d l c u (less, (x, e, (v, w, m, eu, p, (v', w', i, ew, q, (t, et, is, ex, ec))))) =
    subst (Halting is_effect (production false (Binary n)) d l c) (sym (eu ∙ ap (λ w. v ++ w) (ew ∙ ap (λ w. v' ++ w) et))) (left_halts k n less d l c m i v v' t x.0 x.1.0 p q is)

-- ---- the laws

chain_at : (n : ℕ) (s : Nonterminal) (d l c : ℕ) (u : List Sighted) → IsChain (Derives Sight Face Nonterminal Sort (production false) n) s d l c u → Halting is_comparison (production false s) d l c u
chain_at n (Binary (suc (suc zero))) d l c u p = chain_halts n d l c u p
chain_at n s d l c u p = absurd p

effect_at : (n : ℕ) (s : Nonterminal) (d l c : ℕ) (u : List Sighted) → IsEffectRight (Derives Sight Face Nonterminal Sort (production false) n) s d l c u → Halting is_effect (production false s) d l c u
effect_at n (Binary i) d l c u p = effect_halts n i d l c u p
effect_at n s d l c u p = absurd p

-- the last token is a comparison, and with it the others begin no sentence in any budget
pub chain_ends : (s : Nonterminal) (budget : Budget) (u : List Sighted) → EndsInChain s budget u → (v : List Sighted) × (t : Sighted) × (u ≡ v ++ t ∷ []) × (is_comparison t.sight ≡ true) × EndsAt false s v (t ∷ [])
chain_ends = halting.arrived_ends Sight Face Nonterminal Sort (production false) first_table nullable_table follow_last_table rank width (is_decided false) is_comparison IsChain chain_at

-- the same of `try` or `await`
pub effect_ends : (s : Nonterminal) (budget : Budget) (u : List Sighted) → EndsInEffect s budget u → (v : List Sighted) × (t : Sighted) × (u ≡ v ++ t ∷ []) × (is_effect t.sight ≡ true) × EndsAt false s v (t ∷ [])
effect_ends = halting.arrived_ends Sight Face Nonterminal Sort (production false) first_table nullable_table follow_last_table rank width (is_decided false) is_effect IsEffectRight effect_at
