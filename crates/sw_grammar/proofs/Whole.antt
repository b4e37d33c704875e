-- The one law: the reader's answer says what it should of the tokens, in each grammar that one token ahead decides.
use Rattle.std.proofs.Common.{◌≡◌, ◌+◌, ◌*◌, ◌⊎◌, inl, inr, ℕ, zero, suc, Bool, true, false, List, [], ◌∷◌, ◌++◌, length, refl, sym, ap, ◌∙◌, subst, append_assoc, arith, length-append}
use Rattle.sw_grammar.specs.Grammar as g
use Rattle.sw_grammar.specs.Grammar.{Token, Part, Budget, IsWithin, Derives_by, Derives, ViablePrefix_by, ViablePrefix, Spells, IsViablePrefix}
use Rattle.sw_grammar.specs.Reading.{over_budget, unexpected, Out, got, rejected, out_of_fuel, at_first, first, read_by, reads}
use Rattle.sw_grammar.specs.Deciding.{follow_last, Decided, IsDecided}
use Rattle.sw_grammar.specs.Ends.{EndsAt, ExceedsBudget, IsNoSentence}
use Rattle.sw_grammar.specs.ReaderAnswers.{Answers}
use Rattle.sw_grammar.proofs.Grow.{viable_nil}
use Rattle.sw_grammar.proofs.Starts.{Starts, not_true, clash, starts_n, starts_b, text_n}
use Rattle.sw_grammar.proofs.Leading.{Large, lead_part}
use Rattle.sw_grammar.proofs.Sound.{Sound}
use Rattle.sw_grammar.proofs.Equations.{reads_step, reads_answers, reads_sound}
use Rattle.sw_grammar.proofs.Exact.{Fits, Reads, Lies, Within, within_lies, complete_by, within_by}
use Rattle.sw_grammar.proofs.Past.{Past, past_by}

sound_lies : {T A : Type 0} (D : ℕ → List T → A → Type 0) (B F : List T → Type 0) (ts : List T) (o : Out T A) → Sound D B F ts o → Lies ts o
sound_lies D B F ts (got x c r) (u, e, h) = (u, e)
sound_lies D B F ts (rejected over_budget r) (u, t, q, er, e, h, l) = (u, e)
sound_lies D B F ts (rejected unexpected r) (u, e, h) = (u, e)
sound_lies D B F ts out_of_fuel h = tt

at_first_weak : {K V : Type 0} (f h : K → Bool) (rest : List (Token K V)) → ((t : K) → h t ≡ true → f t ≡ true) → at_first f rest ≡ false → at_first h rest ≡ false
at_first_weak f h [] k e = refl
at_first_weak f h (t ∷ rest) k e = not_true (h t.sight) (λ p. clash (f t.sight) (k t.sight p) e)

not_within : {T : Type 0} (t : T) (v rest : List T) → rest ≡ v ++ t ∷ rest → ⊥
not_within t v rest e = let l = ap length e in omega (arith, l, length-append v (t ∷ rest))

not_past : {T : Type 0} (t : T) (v rest : List T) → rest ≡ t ∷ (v ++ rest) → ⊥
not_past t v rest e = let l = ap length e in omega (arith, l, length-append v rest)

-- the answer that was read, or the budget was exceeded
got_read : {T A : Type 0} (x : A) (e0 : ℕ) (rest : List T) (o : Out T A) → Reads true x e0 rest o → (c : ℕ) × (o ≡ got x c rest)
got_read x e0 rest (got y c r) (ey, er, fe) = (c, ap (λ y. got y c r) ey ∙ ap (λ r. got x c r) er)
got_read x e0 rest (rejected over_budget r) p = elim p [ ]
got_read x e0 rest (rejected unexpected r) p = elim p [ ]
got_read x e0 rest out_of_fuel p = elim p [ ]

value_same : {T A : Type 0} (x y : A) (c e : ℕ) (r q : List T) → got x c r ≡ got y e q → x ≡ y
value_same x y c e r q h = cc

module _ (K V S : Type 0) (Sort : S → Type 0) (production : (s : S) → Part K V S Sort (Sort s)) (first_table : S → K → Bool) (nullable_table : S → Bool) (follow_last_table : S → K → Bool)
    (rank : S → ℕ) (width : ℕ) (fine : IsDecided K V S Sort production first_table nullable_table follow_last_table rank width) where
  abbrev fst : {A : Type 0} → Part K V S Sort A → K → Bool
  fst a = first K V S Sort production first_table nullable_table a

  abbrev cnt : {A : Type 0} → Part K V S Sort A → K → Bool
  cnt a = follow_last K V S Sort production first_table nullable_table follow_last_table a

  abbrev Ok : {A : Type 0} → Part K V S Sort A → Type 0
  Ok a = Decided K V S Sort production first_table nullable_table follow_last_table a

  abbrev Dn : ℕ → (s : S) → ℕ → ℕ → ℕ → ℕ → List (Token K V) → Sort s → Type 0
  Dn n = Derives K V S Sort production n

  abbrev Bn : ℕ → (s : S) → ℕ → ℕ → ℕ → List (Token K V) → Type 0
  Bn n = ViablePrefix K V S Sort production n

  abbrev run : (s : S) → ℕ → ℕ → ℕ → List (Token K V) → Out (Token K V) (Sort s)
  run = reads K V S Sort production first_table nullable_table rank width

  abbrev Rd : {A : Type 0} → Part K V S Sort A → ℕ → ℕ → ℕ → List (Token K V) → Out (Token K V) A
  Rd a d l c ts = read_by K V S Sort production first_table nullable_table run a d l c ts

  step : (s : S) (d l c : ℕ) (ts : List (Token K V)) → run s d l c ts ≡ Rd (production s) d l c ts
  step = reads_step K V S Sort production first_table nullable_table follow_last_table rank width fine

  lies_run : (s : S) (d l c : ℕ) (ts : List (Token K V)) → Lies ts (run s d l c ts)
  lies_run s d l c ts = sound_lies _ _ (Large K V S Sort production first_table nullable_table follow_last_table (g.nonterminal s)) ts (run s d l c ts) (reads_sound K V S Sort production first_table nullable_table follow_last_table rank width fine s d l c ts)

  starts : (n : ℕ) (s : S) (d l c e : ℕ) (u : List (Token K V)) (x : Sort s) → Dn n s d l c e u x → Starts (nullable_table s) (first_table s) u
  starts = starts_n K V S Sort production first_table nullable_table follow_last_table fine.table

  starts_viable : (n : ℕ) (s : S) (d l c : ℕ) (u : List (Token K V)) → Bn n s d l c u → Starts true (first_table s) u
  starts_viable = starts_b K V S Sort production first_table nullable_table follow_last_table fine.table

  -- ---- sentences are read, and beginnings are not refused

  abbrev Completes : Bool → ℕ → Type 0
  Completes b n = (s : S) (d0 l0 c0 e0 : ℕ) (u : List (Token K V)) (x : Sort s) (d l c : ℕ) (rest : List (Token K V)) → Dn n s d0 l0 c0 e0 u x → Fits b d0 d → Fits b l0 l → Fits b c0 c → at_first (follow_last_table s) rest ≡ false
      → Reads b x e0 rest (run s d l c (u ++ rest))

  complete_n : (b : Bool) (n : ℕ) → Completes b n
  complete_n b zero s d0 l0 c0 e0 u x d l c rest p fd fl fc st = elim p [ ]
  complete_n b (suc n) s d0 l0 c0 e0 u x d l c rest p fd fl fc st = subst (Reads b x e0 rest) (sym (step s d l c (u ++ rest)))
      (complete_by K V S Sort production first_table nullable_table follow_last_table run lies_run b (Dn n) (Bn n) (starts n) (complete_n b n) (production s) (fine.table s).decided d0 l0 c0 e0 u x d l c rest p fd fl fc
      (at_first_weak (follow_last_table s) (cnt (production s)) rest (fine.table s).tail st))

  abbrev Keeps : Bool → ℕ → Type 0
  Keeps b n = (s : S) (d0 l0 c0 : ℕ) (u : List (Token K V)) (d l c : ℕ) (rest : List (Token K V)) → Bn n s d0 l0 c0 u → Fits b d0 d → Fits b l0 l → Fits b c0 c → Within b rest (run s d l c (u ++ rest))

  within_part : (b : Bool) (n : ℕ) → Keeps b n → {A : Type 0} (a : Part K V S Sort A) → Ok a → (d0 l0 c0 : ℕ) (u : List (Token K V)) (d l c : ℕ) (rest : List (Token K V))
      → ViablePrefix_by K V S Sort production (Dn n) (Bn n) a d0 l0 c0 u → Fits b d0 d → Fits b l0 l → Fits b c0 c → Within b rest (Rd a d l c (u ++ rest))
  within_part b n k a ok = within_by K V S Sort production first_table nullable_table follow_last_table run lies_run b (Dn n) (Bn n) (starts n) (complete_n b n)
      (viable_nil K V S Sort production n) (text_n K V S Sort production first_table nullable_table follow_last_table n) (starts_viable n) k a ok

  within_n : (b : Bool) (n : ℕ) → Keeps b n
  within_n b zero s d0 l0 c0 u d l c rest eu fd fl fc = subst (λ u. Within b rest (run s d l c (u ++ rest))) (sym eu) (within_lies b rest (run s d l c rest) (lies_run s d l c rest))
  within_n b (suc n) s d0 l0 c0 u d l c rest p fd fl fc = subst (Within b rest) (sym (step s d l c (u ++ rest)))
      (within_part b n (within_n b n) (production s) (fine.table s).decided d0 l0 c0 u d l c rest p fd fl fc)

  next : (A : Type 0) (a : Part K V S Sort A) → Ok a → (d l c : ℕ) (t : (Token K V)) (rest : List (Token K V)) → fst a t.sight ≡ true → Within false rest (Rd a d l c (t ∷ rest))
  next A a ok d l c t rest is =
      let (n, large) = lead_part K V S Sort production first_table nullable_table follow_last_table rank width fine a ok t is in
      let m : ℕ = large.0 in
      within_part false n (within_n false n) a ok m m m (t ∷ []) d l c rest (large.1 m m m (omega arith) (omega arith) (omega arith)) tt tt tt

  past_n : (n : ℕ) (s : S) (d0 l0 c0 e0 : ℕ) (u : List (Token K V)) (x : Sort s) (d l c : ℕ) (rest : List (Token K V)) → Dn n s d0 l0 c0 e0 u x → Past rest (run s d l c (u ++ rest))
  past_n zero s d0 l0 c0 e0 u x d l c rest p = elim p [ ]
  past_n (suc n) s d0 l0 c0 e0 u x d l c rest p = subst (Past rest) (sym (step s d l c (u ++ rest)))
      (past_by K V S Sort production first_table nullable_table follow_last_table run lies_run next (Dn n) (Bn n) (starts n)
      (λ A a ok d0 l0 c0 e0 u x d l c rest p st. complete_by K V S Sort production first_table nullable_table follow_last_table run lies_run false (Dn n) (Bn n) (starts n) (complete_n false n) a ok d0 l0 c0 e0 u x d l c rest p tt tt tt st)
      (past_n n) (production s) (fine.table s).decided d0 l0 c0 e0 u x d l c rest p)

  -- ---- the law

  abbrev Spelt : (s : S) → Budget → List (Token K V) → Sort s → Type 0
  Spelt = Spells K V S Sort production

  abbrev IsPrefix : S → Budget → List (Token K V) → Type 0
  IsPrefix = IsViablePrefix K V S Sort production

  abbrev pub reads_in : (s : S) → Budget → List (Token K V) → Out (Token K V) (Sort s)
  reads_in s budget ts = run s budget.brackets budget.limit budget.left ts

  -- where the tokens up to the next begin a sentence within some budget
  viable_on : (s : S) (d l c : ℕ) (u : List (Token K V)) (t : (Token K V)) (rest : List (Token K V)) (budget : Budget) → IsPrefix s budget (u ++ t ∷ []) → Within false rest (run s d l c (u ++ t ∷ rest))
  viable_on s d l c u t rest budget (n, p) =
      subst (λ ts. Within false rest (run s d l c ts)) (append_assoc u (t ∷ []) rest) (within_n false n s budget.brackets budget.limit budget.left (u ++ t ∷ []) d l c rest p tt tt tt)

  ends_got : (s : S) (d l c : ℕ) (u rest : List (Token K V)) (x : Sort s) (e : ℕ) → run s d l c (u ++ rest) ≡ got x e rest → EndsAt K V S Sort production s u rest
  ends_got s d l c u [] x e is = tt
  ends_got s d l c u (t ∷ rest) x e is = λ budget b. let (v, w) = subst (Within false rest) is (viable_on s d l c u t rest budget b) in not_within t v rest w

  ends_unexpected : (s : S) (d l c : ℕ) (u rest : List (Token K V)) → run s d l c (u ++ rest) ≡ rejected unexpected rest → EndsAt K V S Sort production s u rest
  ends_unexpected s d l c u [] is = tt
  ends_unexpected s d l c u (t ∷ rest) is = λ budget b. let (v, w) = subst (Within false rest) is (viable_on s d l c u t rest budget b) in not_within t v rest w

  no_text : (s : S) (d l c : ℕ) (u rest : List (Token K V)) → run s d l c (u ++ rest) ≡ rejected unexpected rest → IsNoSentence K V S Sort production s u
  no_text s d l c u rest is budget x (n, e, p) =
      let (t, v, w) = subst (Past rest) is (past_n n s budget.brackets budget.limit budget.left e u x d l c rest p) in not_past t v rest w

  lacks : (s : S) (budget : Budget) (u : List (Token K V)) (t : (Token K V)) (rest : List (Token K V)) → reads_in s budget (u ++ t ∷ rest) ≡ rejected over_budget (t ∷ rest) → Large K V S Sort production first_table nullable_table follow_last_table (g.nonterminal s) (u ++ t ∷ [])
      → ExceedsBudget K V S Sort production s budget u (t ∷ rest)
  lacks s budget u t rest is (n, large) = (refused, larger, (omega arith, omega arith, omega arith), (n, large.1 (large.0 + budget.brackets) (large.0 + budget.limit) (large.0 + budget.left) (omega arith) (omega arith) (omega arith)))
    where
      larger : Budget
      larger = record { brackets = large.0 + budget.brackets; left = large.0 + budget.left; limit = large.0 + budget.limit }

      inside : ⊥ ⊎ ((v : List (Token K V)) × (rest ≡ v ++ t ∷ rest)) → ⊥
      inside (inl h) = h
      inside (inr (v, w)) = not_within t v rest w

      refused : IsPrefix s budget (u ++ t ∷ []) → ⊥
      refused (m, p) = inside (subst (Within true rest) is (subst (λ ts. Within true rest (reads_in s budget ts)) (append_assoc u (t ∷ []) rest)
          (within_n true m s budget.brackets budget.limit budget.left (u ++ t ∷ []) budget.brackets budget.limit budget.left rest p (omega arith) (omega arith) (omega arith))))

  pub reads_exact : (s : S) (budget : Budget) (ts : List (Token K V)) → Answers K V S Sort production s budget ts (reads_in s budget ts)
  reads_exact s budget ts = go (reads_in s budget ts) refl (reads_sound K V S Sort production first_table nullable_table follow_last_table rank width fine s d l c ts) (reads_answers K V S Sort production first_table nullable_table follow_last_table rank width fine s d l c ts)
    where
      d : ℕ
      d = budget.brackets

      l : ℕ
      l = budget.limit

      c : ℕ
      c = budget.left

      n : ℕ
      n = suc (rank s + width * length ts)

      go : (o : Out (Token K V) (Sort s)) → reads_in s budget ts ≡ o
          → Sound (λ e u x. Derives K V S Sort production n s budget.brackets budget.limit budget.left e u x) (λ u. ViablePrefix K V S Sort production n s budget.brackets budget.limit budget.left u) (Large K V S Sort production first_table nullable_table follow_last_table (g.nonterminal s)) ts o
          → (reads_in s budget ts ≡ out_of_fuel → ⊥) → Answers K V S Sort production s budget ts o
      go (got x e rest) is (u, shape, p) ns = (u, shape, (n, e, p), ends_got s budget.brackets budget.limit budget.left u rest x e (ap (reads_in s budget) (sym shape) ∙ is))
      go (rejected over_budget rest) is (u, t, r, er, shape, p, large) ns =
          (u, shape, (n, p), subst (ExceedsBudget K V S Sort production s budget u) (sym er) (lacks s budget u t r (ap (λ i. reads_in s budget (u ++ i)) (sym er) ∙ ap (reads_in s budget) (sym shape) ∙ is ∙ ap (λ i. rejected over_budget i) er) large))
      go (rejected unexpected rest) is (u, shape, p) ns =
          let at = ap (reads_in s budget) (sym shape) ∙ is in
          (u, shape, (n, p), ends_unexpected s budget.brackets budget.limit budget.left u rest at, no_text s budget.brackets budget.limit budget.left u rest at)
      go out_of_fuel is h ns = ns is

  -- each sentence is read, with its value, in each budget that holds it, where what follows does not go on with it
  pub reads_text : (s : S) (budget larger : Budget) (u : List (Token K V)) (x : Sort s) (rest : List (Token K V)) → Spelt s budget u x → IsWithin budget larger → at_first (follow_last_table s) rest ≡ false → (c : ℕ) × (reads_in s larger (u ++ rest) ≡ got x c rest)
  reads_text s budget larger u x rest (n, e, p) within st =
      got_read x e rest (reads_in s larger (u ++ rest)) (complete_n true n s budget.brackets budget.limit budget.left e u x larger.brackets larger.limit larger.left rest p within.0 within.2 within.1 st)

  -- each sentence has one value, whatever the budgets
  pub one_tree : (s : S) (budget budget' : Budget) (u : List (Token K V)) (x y : Sort s) → Spelt s budget u x → Spelt s budget' u y → x ≡ y
  one_tree s budget budget' u x y p q =
      let (c, ex) = reads_text s budget larger u x [] p (omega arith, omega arith, omega arith) refl in
      let (e, ey) = reads_text s budget' larger u y [] q (omega arith, omega arith, omega arith) refl in
      value_same x y c e [] [] (sym ex ∙ ey)
    where
      larger : Budget
      larger = record { brackets = budget.brackets + budget'.brackets; left = budget.left + budget'.left; limit = budget.limit + budget'.limit }
