-- The reader that is run to its end: it answers, and its equations.
use Rattle.std.proofs.Common.{◌≡◌, ℕ, zero, suc, ◌+◌, ◌*◌, ◌<◌, ◌≤◌, Bool, true, false, cond, ◌&&◌, ◌⊎◌, inl, inr, List, [], ◌∷◌, ◌++◌, length, Option, Some, None, refl, sym, ap, ◌∙◌, subst, arith, length-append, ⊎_elim}
use Rattle.std.proofs.Math.Nat.{mul-le-mul_left, mul-suc}
use Rattle.sw_grammar.specs.Grammar as g
use Rattle.sw_grammar.specs.Grammar.{Token, Part, Derives_by, Derives, ViablePrefix_by, ViablePrefix}
use Rattle.sw_grammar.specs.Reading.{Reason, over_budget, unexpected, Out, got, rejected, out_of_fuel, ◌>>=◌, at_first, if_goes, turns, nullable, first, read_by, read, reads}
use Rattle.sw_grammar.specs.Deciding.{Decided, IsDecided, Leads}
use Rattle.sw_grammar.proofs.Starts.{Starts, starts_D, starts_n, clash}
use Rattle.sw_grammar.proofs.Leading.{leads_all, Large}
use Rattle.sw_grammar.proofs.Sound.{Sound, sound_by, sound}

-- two readers answer the same, and neither gives up
abbrev pub Same : {T A : Type 0} → Out T A → Out T A → Type 0
Same o o' = (o ≡ o') × (o ≡ out_of_fuel → ⊥)

same_then : {T A C : Type 0} (o o' : Out T A) (k k' : A → ℕ → List T → Out T C) → Same o o' → ((x : A) (c : ℕ) (r : List T) → o ≡ got x c r → Same (k x c r) (k' x c r)) → Same (o >>= k) (o' >>= k')
same_then (got x c r) o' k k' (e, ns) h = subst (λ o'. Same (k x c r) (o' >>= k')) e (h x c r refl)
same_then (rejected reason r) o' k k' (e, ns) h = (ap (λ o. o >>= k') e, λ z. cc)
same_then out_of_fuel o' k k' (e, ns) h = absurd (ns refl)

same_got : {T A : Type 0} (x : A) (c : ℕ) (r : List T) → Same (got x c r) (got x c r)
same_got x c r = (refl, λ e. cc)

same_rejected : {T A : Type 0} (reason : Reason) (r : List T) → Same {A = A} (rejected reason r) (rejected reason r)
same_rejected reason r = (refl, λ e. cc)

same_cond : {T A : Type 0} (b : Bool) (x x' y y' : Out T A) → Same x x' → Same y y' → Same (cond b x y) (cond b x' y')
same_cond true x x' y y' h k = h
same_cond false x x' y y' h k = k

same_turns : {K V A : Type 0} (f : K → Bool) (p p' : ℕ → List (Token K V) → Out (Token K V) A) (most : ℕ) → ((c : ℕ) (ts : List (Token K V)) → length ts ≤ most → Same (p c ts) (p' c ts))
    → ((c : ℕ) (ts : List (Token K V)) (x : A) (e : ℕ) (rest : List (Token K V)) → p c ts ≡ got x e rest → length rest < length ts) → (k c : ℕ) (ts : List (Token K V)) → length ts ≤ most → Same (turns f p k c ts) (turns f p' k c ts)
same_turns f p p' most hp hl zero c ts l = same_got [] c ts
same_turns {K} {V} {A} f p p' most hp hl (suc k) c ts l =
    let more : (ℕ → List (Token K V) → Out (Token K V) A) → A → ℕ → List (Token K V) → Out (Token K V) (List A) = λ p x e rest. turns f p k e rest >>= (λ xs m r. got (x ∷ xs) m r) in
    elim (at_first f ts) as (λ b. Same (cond b (p c ts >>= more p) (got [] c ts)) (cond b (p' c ts >>= more p') (got [] c ts))) [
      | true ↦ same_then (p c ts) (p' c ts) (more p) (more p') (hp c ts l) (λ x e rest q. same_then (turns f p k e rest) (turns f p' k e rest) (λ xs m r. got (x ∷ xs) m r) (λ xs m r. got (x ∷ xs) m r)
          (let h = hl c ts x e rest q in same_turns f p p' most hp hl k e rest (omega (arith, h, l))) (λ xs m r _. same_got (x ∷ xs) m r))
      | false ↦ same_got [] c ts
    ]

eq_then : {T A C : Type 0} (o : Out T A) (k k' : A → ℕ → List T → Out T C) → ((x : A) (c : ℕ) (r : List T) → o ≡ got x c r → k x c r ≡ k' x c r) → (o >>= k) ≡ (o >>= k')
eq_then (got x c r) k k' h = h x c r refl
eq_then (rejected reason r) k k' h = refl
eq_then out_of_fuel k k' h = refl

eq_cond : {A : Type 0} (b : Bool) (x x' y : A) → x ≡ x' → cond b x y ≡ cond b x' y
eq_cond b x x' y e = ap (λ x. cond b x y) e

turns_enough : {K V A : Type 0} (f : K → Bool) (p : ℕ → List (Token K V) → Out (Token K V) A) → ((c : ℕ) (ts : List (Token K V)) (x : A) (e : ℕ) (rest : List (Token K V)) → p c ts ≡ got x e rest → length rest < length ts)
    → (k m c : ℕ) (ts : List (Token K V)) → length ts ≤ k → length ts ≤ m → turns f p k c ts ≡ turns f p m c ts
turns_enough f p h zero zero c ts l l' = refl
turns_enough f p h zero (suc m) c [] l l' = refl
turns_enough f p h zero (suc m) c (t ∷ ts) l l' = absurd (omega (arith, l))
turns_enough f p h (suc k) zero c [] l l' = refl
turns_enough f p h (suc k) zero c (t ∷ ts) l l' = absurd (omega (arith, l'))
turns_enough f p h (suc k) (suc m) c ts l l' = eq_cond (at_first f ts) _ _ (got [] c ts)
    (eq_then (p c ts) _ _ (λ x e rest q. ap (λ o. o >>= (λ xs m r. got (x ∷ xs) m r)) (let s = h c ts x e rest q in turns_enough f p h k m e rest (omega (arith, s, l)) (omega (arith, s, l')))))

turns_again : {K V A : Type 0} (f : K → Bool) (p : ℕ → List (Token K V) → Out (Token K V) A) → ((c : ℕ) (ts : List (Token K V)) (x : A) (e : ℕ) (rest : List (Token K V)) → p c ts ≡ got x e rest → length rest < length ts)
    → (c : ℕ) (ts : List (Token K V)) → turns f p (length ts) c ts ≡ cond (at_first f ts) (p c ts >>= (λ x e rest. turns f p (length rest) e rest >>= (λ xs m r. got (x ∷ xs) m r))) (got [] c ts)
turns_again f p h c [] = refl
turns_again f p h c (t ∷ ts) = eq_cond (f t.sight) _ _ (got [] c (t ∷ ts))
    (eq_then (p c (t ∷ ts)) _ _ (λ x e rest q. ap (λ o. o >>= (λ xs m r. got (x ∷ xs) m r)) (let s = h c (t ∷ ts) x e rest q in turns_enough f p h (length ts) (length rest) e rest (omega (arith, s)) (omega arith))))

same_goes : {T A C : Type 0} (b : Bool) (x : A) (c : ℕ) (r : List T) (o o' : Out T C) → Same o o' → Same (if_goes b x c r o) (if_goes b x c r o')
same_goes true x c r o o' h = same_then o o' (λ y c r. got (x, Some y) c r) (λ y c r. got (x, Some y) c r) h (λ y c r _. (refl, λ e. cc))
same_goes false x c r o o' h = (refl, λ e. cc)

less_fuel : (w a b : ℕ) → a < b → w + w * a ≤ w * b
less_fuel w a b h = let m : w * suc a ≤ w * b = mul-le-mul_left w h in omega (arith, m, mul-suc w a)

module _ (K V S : Type 0) (Sort : S → Type 0) (production : (s : S) → Part K V S Sort (Sort s)) (first_table : S → K → Bool) (nullable_table : S → Bool) (follow_last_table : S → K → Bool)
    (rank : S → ℕ) (width : ℕ) (fine : IsDecided K V S Sort production first_table nullable_table follow_last_table rank width) where
  abbrev nul : {A : Type 0} → Part K V S Sort A → Bool
  nul a = nullable K V S Sort production first_table nullable_table a

  abbrev fst : {A : Type 0} → Part K V S Sort A → K → Bool
  fst a = first K V S Sort production first_table nullable_table a

  abbrev Ok : {A : Type 0} → Part K V S Sort A → Type 0
  Ok a = Decided K V S Sort production first_table nullable_table follow_last_table a

  abbrev Calls : {A : Type 0} → Part K V S Sort A → ℕ → Type 0
  Calls a r = Leads K V S Sort production first_table nullable_table follow_last_table rank a r

  abbrev Reader : Type 0
  Reader = (s : S) → ℕ → ℕ → ℕ → List (Token K V) → Out (Token K V) (Sort s)

  abbrev rd : Reader → {A : Type 0} → Part K V S Sort A → ℕ → ℕ → ℕ → List (Token K V) → Out (Token K V) A
  rd R a d l c ts = read_by K V S Sort production first_table nullable_table R a d l c ts

  abbrev rn : ℕ → Reader
  rn n = read K V S Sort production first_table nullable_table n

  abbrev Dn : ℕ → {A : Type 0} → Part K V S Sort A → ℕ → ℕ → ℕ → ℕ → List (Token K V) → A → Type 0
  Dn n a d l c e u x = Derives_by K V S Sort production (Derives K V S Sort production n) a d l c e u x

  abbrev Bn : ℕ → {A : Type 0} → Part K V S Sort A → ℕ → ℕ → ℕ → List (Token K V) → Type 0
  Bn n a d l c u = ViablePrefix_by K V S Sort production (Derives K V S Sort production n) (ViablePrefix K V S Sort production n) a d l c u

  lead_width : {A : Type 0} (a : Part K V S Sort A) → Calls a width
  lead_width a = leads_all K V S Sort production first_table nullable_table follow_last_table rank width fine a

  -- what is left after a value: as much as before only if the part may be empty
  abbrev Passed : {A : Type 0} → Part K V S Sort A → List (Token K V) → List (Token K V) → Type 0
  Passed a ts rest = ((rest ≡ ts) × (nul a ≡ true)) ⊎ (length rest < length ts)

  passed_starts : {A : Type 0} (a : Part K V S Sort A) (ts rest u : List (Token K V)) → ts ≡ u ++ rest → Starts (nul a) (fst a) u → Passed a ts rest
  passed_starts a ts rest [] e s = inl (sym e, s)
  passed_starts a ts rest (t ∷ u) e s = inr (subst (λ l. length rest < length l) (sym e) (omega (arith, length-append u rest)))

  passed : (n : ℕ) {A : Type 0} (a : Part K V S Sort A) → Ok a → (d l c : ℕ) (ts : List (Token K V)) (x : A) (e : ℕ) (rest : List (Token K V)) → rd (rn n) a d l c ts ≡ got x e rest → Passed a ts rest
  passed n a ok d l c ts x e rest is =
      let (u, shape, p) = subst (Sound (Dn n a d l c) (Bn n a d l c) (Large K V S Sort production first_table nullable_table follow_last_table a) ts) is
      (sound_by K V S Sort production first_table nullable_table follow_last_table rank width fine n (rn n) (sound K V S Sort production first_table nullable_table follow_last_table rank width fine n) a ok d l c ts) in
      passed_starts a ts rest u shape (starts_D K V S Sort production first_table nullable_table follow_last_table (Derives K V S Sort production n) (ViablePrefix K V S Sort production n)
      (starts_n K V S Sort production first_table nullable_table follow_last_table fine.table n) a ok d l c e u x p)

  same_by : (n : ℕ) (R' : Reader) (most : ℕ)
      → ((s : S) (d l c : ℕ) (ts : List (Token K V)) → rank s + width * length ts < most → Same (rn n s d l c ts) (R' s d l c ts))
      → {A : Type 0} (a : Part K V S Sort A) → Ok a → (r : ℕ) → Calls a r → (d l c : ℕ) (ts : List (Token K V)) → r + width * length ts ≤ most
      → Same (rd (rn n) a d l c ts) (rd R' a d l c ts)
  same_by n R' most h (g.terminal f) ok r lead d l c [] le = same_rejected unexpected []
  same_by n R' most h (g.terminal f) ok r lead d l c (t ∷ ts) le = same_cond (f t.sight) (got t.face c ts) (got t.face c ts) (rejected unexpected (t ∷ ts)) (rejected unexpected (t ∷ ts)) (same_got t.face c ts) (same_rejected unexpected (t ∷ ts))
  same_by n R' most h (g.nonterminal s) ok r lead d l c ts le = h s d l c ts (omega (arith, lead, le))
  same_by n R' most h (g.both {A} {B} a b) ok r lead d l c ts le =
      let q : ℕ → List (Token K V) → Out (Token K V) B = rd (rn n) b d l in
      let q' : ℕ → List (Token K V) → Out (Token K V) B = rd R' b d l in
      let second : (x : A) (e : ℕ) (rest : List (Token K V)) → Passed a ts rest → Same (q e rest) (q' e rest) = λ x e rest past. ⊎_elim
      (λ h'. subst (λ l. Same (q e l) (q' e l)) (sym h'.0) (same_by n R' most h b ok.1 r (lead.1 h'.1) d l e ts le))
      (λ h'. same_by n R' most h b ok.1 width (lead_width b) d l e rest (let budget = less_fuel width (length rest) (length ts) h' in omega (arith, budget, le))) past in
      same_then _ _ (λ x e rest. q e rest >>= (λ y m r'. got (x, y) m r')) (λ x e rest. q' e rest >>= (λ y m r'. got (x, y) m r')) (same_by n R' most h a ok.0 r lead.0 d l c ts le)
      (λ x e rest is. same_then (q e rest) (q' e rest) (λ y m r'. got (x, y) m r') (λ y m r'. got (x, y) m r') (second x e rest (passed n a ok.0 d l c ts x e rest is)) (λ y m r' _. same_got (x, y) m r'))
  same_by n R' most h (g.either a b) ok r lead d l c ts le = same_cond (at_first (fst a) ts) _ _ _ _ (same_by n R' most h a ok.0 r lead.0 d l c ts le) (same_by n R' most h b ok.1 r lead.1 d l c ts le)
  same_by n R' most h (g.maybe {A} a) ok r lead d l c ts le =
      let some : A → ℕ → List (Token K V) → Out (Token K V) (Option A) = λ x e r. got (Some x) e r in
      same_cond (at_first (fst a) ts) _ _ (got None c ts) (got None c ts)
      (same_then _ _ some some (same_by n R' most h a ok.0 r lead d l c ts le) (λ x e r _. same_got (Some x) e r)) (same_got None c ts)
  same_by n R' most h (g.many a) ok r lead d l c ts le = same_turns (fst a) _ _ (length ts)
      (λ c' ts' short. same_by n R' most h a ok.0 r lead d l c' ts' (let m : width * length ts' ≤ width * length ts = mul-le-mul_left width short in omega (arith, m, le)))
      (λ c' ts' x e rest is. ⊎_elim (λ h'. absurd (clash _ h'.1 ok.1)) (λ h'. h') (passed n a ok.0 d l c' ts' x e rest is)) (length ts) c ts (omega arith)
  same_by n R' most h (g.then_if {A} {B} a goes b) ok r lead d l c ts le =
      let q : ℕ → List (Token K V) → Out (Token K V) B = rd (rn n) b d l in
      let q' : ℕ → List (Token K V) → Out (Token K V) B = rd R' b d l in
      let second : (x : A) (e : ℕ) (rest : List (Token K V)) → Passed a ts rest → Same (q e rest) (q' e rest) = λ x e rest past. ⊎_elim
      (λ h'. absurd (clash _ h'.1 ok.3))
      (λ h'. same_by n R' most h b ok.1 width (lead_width b) d l e rest (let budget = less_fuel width (length rest) (length ts) h' in omega (arith, budget, le))) past in
      same_then _ _ (λ x e rest. if_goes (goes x && at_first (fst b) rest) x e rest (q e rest)) (λ x e rest. if_goes (goes x && at_first (fst b) rest) x e rest (q' e rest)) (same_by n R' most h a ok.0 r lead d l c ts le)
      (λ x e rest is. same_goes (goes x && at_first (fst b) rest) x e rest (q e rest) (q' e rest) (second x e rest (passed n a ok.0 d l c ts x e rest is)))
  same_by n R' most h (g.when f a) ok r lead d l c ts le = same_cond (at_first f ts) _ _ (rejected unexpected ts) (rejected unexpected ts) (same_by n R' most h a ok.0 r lead d l c ts le) (same_rejected unexpected ts)
  same_by n R' most h (g.nest a) ok r lead zero l c ts le = same_cond (at_first (fst a) ts) (rejected over_budget ts) (rejected over_budget ts) (rejected unexpected ts) (rejected unexpected ts) (same_rejected over_budget ts) (same_rejected unexpected ts)
  same_by n R' most h (g.nest a) ok r lead (suc d) l c ts le = same_by n R' most h a ok.0 r lead d l c ts le
  same_by n R' most h (g.counts a) ok r lead d l zero ts le = same_cond (at_first (fst a) ts) (rejected over_budget ts) (rejected over_budget ts) (rejected unexpected ts) (rejected unexpected ts) (same_rejected over_budget ts) (same_rejected unexpected ts)
  same_by n R' most h (g.counts a) ok r lead d l (suc c) ts le = same_by n R' most h a ok.0 r lead d l c ts le
  same_by n R' most h (g.limited a) ok r lead d l c ts le = same_then _ _ (λ x _ r. got x c r) (λ x _ r. got x c r) (same_by n R' most h a ok r lead d l l ts le) (λ x e r _. same_got x c r)
  same_by n R' most h (g.gives f a) ok r lead d l c ts le = same_then _ _ (λ x e r. got (f x) e r) (λ x e r. got (f x) e r) (same_by n R' most h a ok r lead d l c ts le) (λ x e r _. same_got (f x) e r)

  same_read : (n m : ℕ) (s : S) (d l c : ℕ) (ts : List (Token K V)) → rank s + width * length ts < n → rank s + width * length ts < m → Same (rn n s d l c ts) (rn m s d l c ts)
  same_read zero m s d l c ts le le' = absurd (omega (arith, le))
  same_read (suc n) zero s d l c ts le le' = absurd (omega (arith, le'))
  same_read (suc n) (suc m) s d l c ts le le' =
      same_by n (rn m) (rank s + width * length ts) (λ s' d' l' c' ts' h. same_read n m s' d' l' c' ts' (omega (arith, le, h)) (omega (arith, le', h))) (production s) (fine.table s).decided (rank s) (fine.leads s) d l c ts (omega arith)

  abbrev run : Reader
  run = reads K V S Sort production first_table nullable_table rank width

  same_run : (n : ℕ) (s : S) (d l c : ℕ) (ts : List (Token K V)) → rank s + width * length ts < n → Same (rn n s d l c ts) (run s d l c ts)
  unfolding reads
  same_run n s d l c ts le = same_read n (suc (rank s + width * length ts)) s d l c ts le (omega arith)

  -- the reader's equation
  pub reads_step : (s : S) (d l c : ℕ) (ts : List (Token K V)) → run s d l c ts ≡ rd run (production s) d l c ts
  unfolding reads
  reads_step s d l c ts = (same_by (rank s + width * length ts) run (rank s + width * length ts) (λ s' d' l' c' ts' h. same_run (rank s + width * length ts) s' d' l' c' ts' h)
      (production s) (fine.table s).decided (rank s) (fine.leads s) d l c ts (omega arith)).0

  -- a value takes a token, unless the part may be empty
  passed_run : {A : Type 0} (a : Part K V S Sort A) → Ok a → (d l c : ℕ) (ts : List (Token K V)) (x : A) (e : ℕ) (rest : List (Token K V)) → rd run a d l c ts ≡ got x e rest → Passed a ts rest
  passed_run a ok d l c ts x e rest is =
      let n : ℕ = suc (width + width * length ts) in
      passed n a ok d l c ts x e rest ((same_by n run n (λ s' d' l' c' ts' h. same_run n s' d' l' c' ts' h) a ok width (lead_width a) d l c ts (omega arith)).0 ∙ is)

  -- one turn of a repetition
  pub many_step : {A : Type 0} (a : Part K V S Sort A) → Ok a → nul a ≡ false → (d l c : ℕ) (ts : List (Token K V))
      → rd run (g.many a) d l c ts ≡ cond (at_first (fst a) ts) (rd run a d l c ts >>= (λ x e rest. rd run (g.many a) d l e rest >>= (λ xs m r. got (x ∷ xs) m r))) (got [] c ts)
  many_step a ok hn d l c ts = turns_again (fst a) (rd run a d l)
      (λ c ts x e rest is. ⊎_elim (λ h. absurd (clash _ h.1 hn)) (λ h. h) (passed_run a ok d l c ts x e rest is)) c ts

  pub reads_answers : (s : S) (d l c : ℕ) (ts : List (Token K V)) → run s d l c ts ≡ out_of_fuel → ⊥
  unfolding reads
  reads_answers s d l c ts = (same_run (suc (rank s + width * length ts)) s d l c ts (omega arith)).1

  -- its answer is so
  pub reads_sound : (s : S) (d l c : ℕ) (ts : List (Token K V)) →
      Sound (Dn (suc (rank s + width * length ts)) (g.nonterminal s) d l c) (Bn (suc (rank s + width * length ts)) (g.nonterminal s) d l c) (Large K V S Sort production first_table nullable_table follow_last_table (g.nonterminal s)) ts (run s d l c ts)
  unfolding reads
  reads_sound s d l c ts = sound K V S Sort production first_table nullable_table follow_last_table rank width fine (suc (rank s + width * length ts)) s d l c ts
