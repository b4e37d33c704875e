-- After a sentence, in whatever budget it is one, the reader does not refuse the next token at once: it ends there, goes on past the next token, or exceeds the budget.
use Rattle.std.proofs.Common.{◌≡◌, ℕ, zero, suc, ◌≤◌, Bool, true, false, cond, ◌&&◌, inl, inr, List, [], ◌∷◌, ◌++◌, length, Option, Some, None, refl, sym, ap, ◌∙◌, subst, append_assoc, arith, length-append}
use Rattle.sw_grammar.specs.Grammar as g
use Rattle.sw_grammar.specs.Grammar.{Token, Part, Counted, Each, Then, FirstPasses, Derives_by, ViablePrefix_by}
use Rattle.sw_grammar.specs.Reading.{over_budget, unexpected, Out, got, rejected, out_of_fuel, ◌>>=◌, at_first, if_goes, one, turns, nullable, first, read_by}
use Rattle.sw_grammar.specs.Deciding.{Apart, follow_last, Decided}
use Rattle.sw_grammar.proofs.Starts.{and_both, and_halves, not_true, Starts, starts_D, solid, starts_each}
use Rattle.sw_grammar.proofs.Exact.{on_true, on_false, regrouped, at_first_app, stops, Reads, Lies, Within, lies_then, lies_by, lies_turns, within_then}

abbrev pub Past : {T A : Type 0} → List T → Out T A → Type 0
Past rest (got x c r) = (v : _) × (rest ≡ v ++ r)
Past rest (rejected over_budget r) = Unit {0}
Past rest (rejected unexpected r) = (t : _) × (v : _) × (rest ≡ t ∷ (v ++ r))
Past rest out_of_fuel = Unit {0}

-- what is read after the next token
past_next : {T A : Type 0} (t : T) (rest : List T) (o : Out T A) → Within false rest o → Past (t ∷ rest) o
past_next t rest (got x c r) (v, e) = (t ∷ v, ap (λ l. t ∷ l) e)
past_next t rest (rejected over_budget r) h = tt
past_next t rest (rejected unexpected r) (v, e) = (t, v, ap (λ l. t ∷ l) e)
past_next t rest out_of_fuel h = tt

past_proper : {T A : Type 0} (t : T) (v rest r : List T) (o : Out T A) → rest ≡ t ∷ (v ++ r) → Lies r o → Past rest o
past_proper t v rest r (got x c q) e (w, e') = ((t ∷ v) ++ w, e ∙ ap (λ l. t ∷ (v ++ l)) e' ∙ ap (λ l. t ∷ l) (sym (append_assoc v w q)))
past_proper t v rest r (rejected over_budget q) e h = tt
past_proper t v rest r (rejected unexpected q) e (w, e') = (t, v ++ w, e ∙ ap (λ l. t ∷ (v ++ l)) e' ∙ ap (λ l. t ∷ l) (sym (append_assoc v w q)))
past_proper t v rest r out_of_fuel e h = tt

past_then : {T A C : Type 0} (rest : List T) (o : Out T A) (k : A → ℕ → List T → Out T C) → Past rest o → ((x : A) (c : ℕ) → Past rest (k x c rest)) → ((x : A) (c : ℕ) (r : List T) → Lies r (k x c r)) → Past rest (o >>= k)
past_then rest (got x c r) k ([], e) h any = subst (λ l. Past rest (k x c l)) e (h x c)
past_then rest (got x c r) k (t ∷ v, e) h any = past_proper t v rest r (k x c r) e (any x c r)
past_then rest (rejected over_budget r) k p h any = tt
past_then rest (rejected unexpected r) k p h any = p
past_then rest out_of_fuel k p h any = tt

past_map : {T A C : Type 0} (rest : List T) (o : Out T A) (f : A → C) (e : ℕ → ℕ) → Past rest o → Past rest (o >>= (λ x c r. got (f x) (e c) r))
past_map rest o f e p = past_then rest o _ p (λ x c. ([], refl)) (λ x c r. ([], refl))

-- after a sentence that is read
past_after : {T A C : Type 0} (rest mid : List T) (o : Out T A) (x : A) (m0 : ℕ) (k : A → ℕ → List T → Out T C) → Reads false x m0 mid o → ((m : ℕ) → Past rest (k x m mid)) → Past rest (o >>= k)
past_after rest mid (got y e r) x m0 k (ey, er, fe) h = subst (λ y. Past rest (k y e r)) (sym ey) (subst (λ r. Past rest (k x e r)) (sym er) (h e))
past_after rest mid (rejected over_budget r) x m0 k p h = tt
past_after rest mid (rejected unexpected r) x m0 k p h = elim p [ ]
past_after rest mid out_of_fuel x m0 k p h = elim p [ ]

-- a sentence after a sentence
past_second : {K V A C : Type 0} (nl : Bool) (ca fb : K → Bool) (p : List (Token K V) → Out (Token K V) A) (k : A → ℕ → List (Token K V) → Out (Token K V) C) → Apart ca fb → (v w rest : List (Token K V)) (x : A) (m0 : ℕ)
    → Past rest (p (v ++ rest)) → (at_first ca (w ++ rest) ≡ false → Reads false x m0 (w ++ rest) (p (v ++ (w ++ rest)))) → Starts nl fb w
    → ((x : A) (c : ℕ) (r : List (Token K V)) → Lies r (k x c r)) → ((x : A) (m : ℕ) → Past rest (k x m (w ++ rest)))
    → Past rest (p (v ++ (w ++ rest)) >>= k)
past_second nl ca fb p k apart v [] rest x m0 hv hp s any h = past_then rest (p (v ++ rest)) k hv h any
past_second nl ca fb p k apart v (t ∷ w) rest x m0 hv hp s any h =
    past_after rest ((t ∷ w) ++ rest) (p (v ++ ((t ∷ w) ++ rest))) x m0 k (hp (not_true (ca t.sight) (λ e. apart t.sight e s))) (h x)

-- where perhaps a part follows
past_perhaps : {K V A C : Type 0} (f : K → Bool) (p : List (Token K V) → Out (Token K V) A) (k : A → ℕ → List (Token K V) → Out (Token K V) C) (x : C) (c : ℕ) → ((t : (Token K V)) (rest : List (Token K V)) → f t.sight ≡ true → Within false rest (p (t ∷ rest)))
    → ((x : A) (c : ℕ) (r : List (Token K V)) → Lies r (k x c r)) → (rest : List (Token K V)) → Past rest (cond (at_first f rest) (p rest >>= k) (got x c rest))
past_perhaps f p k x c next any [] = ([], refl)
past_perhaps {K} {V} {A} {C} f p k x c next any (t ∷ rest) = go (f t.sight) refl
  where
    go : (z : Bool) → f t.sight ≡ z → Past (t ∷ rest) (cond z (p (t ∷ rest) >>= k) (got x c (t ∷ rest)))
    go true is = past_next t rest (p (t ∷ rest) >>= k) (within_then false rest (p (t ∷ rest)) k (next t rest is) any)
    go false is = ([], refl)

past_goes : {K V A C : Type 0} (z : Bool) (f : K → Bool) (p : List (Token K V) → Out (Token K V) C) (x : A) (c : ℕ) → ((t : (Token K V)) (rest : List (Token K V)) → f t.sight ≡ true → Within false rest (p (t ∷ rest)))
    → (rest : List (Token K V)) → Past {A = A × Option C} rest (if_goes (z && at_first f rest) x c rest (p rest))
past_goes true f p x c next [] = ([], refl)
past_goes false f p x c next [] = ([], refl)
past_goes {K} {V} {A} {C} z f p x c next (t ∷ rest) = go (z && f t.sight) refl
  where
    go : (j : Bool) → (z && f t.sight) ≡ j → Past {A = A × Option C} (t ∷ rest) (if_goes j x c (t ∷ rest) (p (t ∷ rest)))
    go true is = past_next t rest (if_goes true x c (t ∷ rest) (p (t ∷ rest))) (within_then false rest (p (t ∷ rest)) _ (next t rest (and_halves z (f t.sight) is).1) (λ y c r. ([], refl)))
    go false is = ([], refl)

lies_goes : {T A C : Type 0} (z : Bool) (x : A) (c : ℕ) (r : List T) (o : Out T C) → Lies r o → Lies {A = A × Option C} r (if_goes z x c r o)
lies_goes true x c r o h = lies_then r o _ h (λ y c r. ([], refl))
lies_goes false x c r o h = ([], refl)

less_long : {K V : Type 0} (f : K → Bool) (v w rest : List (Token K V)) (k : ℕ) → Starts false f v → length (v ++ (w ++ rest)) ≤ suc k → length (w ++ rest) ≤ k
less_long f [] w rest k s h = cc
less_long f (t ∷ v) w rest k s h = omega (arith, h, length-append v (w ++ rest))

none_left : {K V : Type 0} (f : K → Bool) (v m : List (Token K V)) → Starts false f v → length (v ++ m) ≤ 0 → ⊥
none_left f [] m s h = cc
none_left f (t ∷ v) m s h = omega (arith, h)

regroup : {T : Type 0} (u v w rest : List T) → u ≡ v ++ w → u ++ rest ≡ v ++ (w ++ rest)
regroup u v w rest e = ap (λ l. l ++ rest) e ∙ append_assoc v w rest

past_turns : {K V A : Type 0} (f ca : K → Bool) (p : ℕ → List (Token K V) → Out (Token K V) A) (D : Counted (Token K V) A) → Apart ca f
    → ((c0 e0 : ℕ) (u : List (Token K V)) (x : A) → D c0 e0 u x → Starts false f u)
    → ((c0 e0 : ℕ) (u : List (Token K V)) (x : A) (c : ℕ) (rest : List (Token K V)) → D c0 e0 u x → at_first ca rest ≡ false → Reads false x e0 rest (p c (u ++ rest)))
    → ((c0 e0 : ℕ) (u : List (Token K V)) (x : A) (c : ℕ) (rest : List (Token K V)) → D c0 e0 u x → Past rest (p c (u ++ rest)))
    → ((c : ℕ) (t : (Token K V)) (rest : List (Token K V)) → f t.sight ≡ true → Within false rest (p c (t ∷ rest))) → ((c : ℕ) (ts : List (Token K V)) → Lies ts (p c ts))
    → (k : ℕ) (xs : List A) (c0 e0 : ℕ) (u : List (Token K V)) (c : ℕ) (rest : List (Token K V)) → length (u ++ rest) ≤ k → Each D c0 e0 u xs → Past rest (turns f p k c (u ++ rest))
past_turns {K} {V} {A} f ca p D apart hs hp hq next any zero [] c0 e0 u c rest l (eu, ec) = subst (λ u. Past rest (turns f p zero c (u ++ rest))) (sym eu) ([], refl)
past_turns {K} {V} {A} f ca p D apart hs hp hq next any (suc k) [] c0 e0 u c rest l (eu, ec) =
    subst (λ u. Past rest (turns f p (suc k) c (u ++ rest))) (sym eu)
    (past_perhaps f (p c) (λ x m r. turns f p k m r >>= (λ xs e r. got (x ∷ xs) e r)) [] c (next c) (λ x m r. lies_then r (turns f p k m r) _ (lies_turns f p any k m r) (λ xs e r. ([], refl))) rest)
past_turns f ca p D apart hs hp hq next any zero (x ∷ xs) c0 e0 u c rest l (v, w, m0, eu, d, each) =
    absurd (none_left f v (w ++ rest) (hs c0 m0 v x d) (subst (λ l. length l ≤ 0) (regroup u v w rest eu) l))
past_turns {K} {V} {A} f ca p D apart hs hp hq next any (suc k) (x ∷ xs) c0 e0 u c rest l (v, w, m0, eu, d, each) =
    let start = hs c0 m0 v x d in
    let l' = less_long f v w rest k start (subst (λ l. length l ≤ suc k) (regroup u v w rest eu) l) in
    let more : A → ℕ → List (Token K V) → Out (Token K V) (List A) = λ x m r. turns f p k m r >>= (λ xs e r. got (x ∷ xs) e r) in
    regrouped (λ l. Past rest (turns f p (suc k) c l)) u v w rest eu
    (on_true (λ o. Past rest o) (at_first f (v ++ (w ++ rest))) _ _ (at_first_app f v (w ++ rest) start)
    (past_second true ca f (p c) more apart v w rest x m0 (hq c0 m0 v x c rest d) (hp c0 m0 v x c (w ++ rest) d) (starts_each false f D hs xs m0 e0 w each)
    (λ x m r. lies_then r (turns f p k m r) _ (lies_turns f p any k m r) (λ xs e r. ([], refl)))
    (λ x m. past_map rest (turns f p k m (w ++ rest)) (λ xs. x ∷ xs) (λ e. e) (past_turns f ca p D apart hs hp hq next any k xs m0 e0 w m rest l' each))))

module _ (K V S : Type 0) (Sort : S → Type 0) (production : (s : S) → Part K V S Sort (Sort s)) (first_table : S → K → Bool) (nullable_table : S → Bool) (follow_last_table : S → K → Bool) where
  abbrev nul : {A : Type 0} → Part K V S Sort A → Bool
  nul a = nullable K V S Sort production first_table nullable_table a

  abbrev fst : {A : Type 0} → Part K V S Sort A → K → Bool
  fst a = first K V S Sort production first_table nullable_table a

  abbrev cnt : {A : Type 0} → Part K V S Sort A → K → Bool
  cnt a = follow_last K V S Sort production first_table nullable_table follow_last_table a

  abbrev Ok : {A : Type 0} → Part K V S Sort A → Type 0
  Ok a = Decided K V S Sort production first_table nullable_table follow_last_table a

  module _ (R : (s : S) → ℕ → ℕ → ℕ → List (Token K V) → Out (Token K V) (Sort s)) (rest_lies : (s : S) (d l c : ℕ) (ts : List (Token K V)) → Lies ts (R s d l c ts)) where
    abbrev Rd : {A : Type 0} → Part K V S Sort A → ℕ → ℕ → ℕ → List (Token K V) → Out (Token K V) A
    Rd a d l c ts = read_by K V S Sort production first_table nullable_table R a d l c ts

    lies : {A : Type 0} (a : Part K V S Sort A) (d l c : ℕ) (ts : List (Token K V)) → Lies ts (Rd a d l c ts)
    lies a = lies_by K V S Sort production first_table nullable_table follow_last_table R rest_lies a

    module _ (next : (A : Type 0) (a : Part K V S Sort A) → Ok a → (d l c : ℕ) (t : (Token K V)) (rest : List (Token K V)) → fst a t.sight ≡ true → Within false rest (Rd a d l c (t ∷ rest)))
        (D : (s : S) → ℕ → ℕ → ℕ → ℕ → List (Token K V) → Sort s → Type 0) (B : (s : S) → ℕ → ℕ → ℕ → List (Token K V) → Type 0)
        (hs : (s : S) (d l c e : ℕ) (u : List (Token K V)) (x : Sort s) → D s d l c e u x → Starts (nullable_table s) (first_table s) u)
        (reads : (A : Type 0) (a : Part K V S Sort A) → Ok a → (d0 l0 c0 e0 : ℕ) (u : List (Token K V)) (x : A) (d l c : ℕ) (rest : List (Token K V)) → Derives_by K V S Sort production D a d0 l0 c0 e0 u x
        → at_first (cnt a) rest ≡ false → Reads false x e0 rest (Rd a d l c (u ++ rest)))
        (h : (s : S) (d0 l0 c0 e0 : ℕ) (u : List (Token K V)) (x : Sort s) (d l c : ℕ) (rest : List (Token K V)) → D s d0 l0 c0 e0 u x → Past rest (R s d l c (u ++ rest))) where
      abbrev Dv : {A : Type 0} → Part K V S Sort A → ℕ → ℕ → ℕ → ℕ → List (Token K V) → A → Type 0
      Dv a d l c e u x = Derives_by K V S Sort production D a d l c e u x

      start : {A : Type 0} (a : Part K V S Sort A) → Ok a → (d l c e : ℕ) (u : List (Token K V)) (x : A) → Dv a d l c e u x → Starts (nul a) (fst a) u
      start a ok = starts_D K V S Sort production first_table nullable_table follow_last_table D B hs a ok

      firm : {A : Type 0} (a : Part K V S Sort A) → Ok a → nul a ≡ false → (d l c e : ℕ) (u : List (Token K V)) (x : A) → Dv a d l c e u x → Starts false (fst a) u
      firm a ok = solid K V S Sort production first_table nullable_table follow_last_table D B hs a ok

      head_first : (f h : K → Bool) (u rest : List (Token K V)) → FirstPasses f u → Starts false h u → at_first f (u ++ rest) ≡ true
      head_first f h [] rest hd s = cc
      head_first f h (t ∷ u) rest hd s = hd

      pub past_by : {A : Type 0} (a : Part K V S Sort A) → Ok a → (d0 l0 c0 e0 : ℕ) (u : List (Token K V)) (x : A) (d l c : ℕ) (rest : List (Token K V)) → Dv a d0 l0 c0 e0 u x → Past rest (Rd a d l c (u ++ rest))
      past_by (g.terminal f) ok d0 l0 c0 e0 u x d l c rest (t, eu, is, ex, ec) =
          subst (λ u. Past rest (one f c (u ++ rest))) (sym eu) (on_true (λ o. Past rest o) (f t.sight) (got t.face c rest) (rejected unexpected (t ∷ rest)) is ([], refl))
      past_by (g.nonterminal s) ok d0 l0 c0 e0 u x d l c rest p = h s d0 l0 c0 e0 u x d l c rest p
      past_by (g.both {A} {B = C} a z) ok d0 l0 c0 e0 u x d l c rest (v, w, m0, eu, p, q) =
          let more : A → ℕ → List (Token K V) → Out (Token K V) (A × C) = λ x m r. Rd z d l m r >>= (λ y e r. got (x, y) e r) in
          regrouped (λ i. Past rest (Rd (g.both a z) d l c i)) u v w rest eu
          (past_second (nul z) (cnt a) (fst z) (Rd a d l c) more ok.2 v w rest x.0 m0 (past_by a ok.0 d0 l0 c0 m0 v x.0 d l c rest p) (reads _ a ok.0 d0 l0 c0 m0 v x.0 d l c (w ++ rest) p) (start z ok.1 d0 l0 m0 e0 w x.1 q)
          (λ x m r. lies_then r (Rd z d l m r) _ (lies z d l m r) (λ y e r. ([], refl)))
          (λ y m. past_map rest (Rd z d l m (w ++ rest)) (λ z. (y, z)) (λ e. e) (past_by z ok.1 d0 l0 m0 e0 w x.1 d l m rest q)))
      past_by (g.either a z) ok d0 l0 c0 e0 u x d l c rest (inl p) =
          on_true (λ o. Past rest o) (at_first (fst a) (u ++ rest)) _ _ (at_first_app (fst a) u rest (firm a ok.0 ok.3 d0 l0 c0 e0 u x p)) (past_by a ok.0 d0 l0 c0 e0 u x d l c rest p)
      past_by (g.either a z) ok d0 l0 c0 e0 u x d l c rest (inr p) =
          on_false (λ o. Past rest o) (at_first (fst a) (u ++ rest)) _ _ (stops (fst a) (fst z) false ok.2 u rest (firm z ok.1 ok.4 d0 l0 c0 e0 u x p) (λ n. cc)) (past_by z ok.1 d0 l0 c0 e0 u x d l c rest p)
      past_by (g.maybe a) ok d0 l0 c0 e0 u None d l c rest (eu, ec) =
          subst (λ u. Past rest (Rd (g.maybe a) d l c (u ++ rest))) (sym eu)
          (past_perhaps (fst a) (Rd a d l c) (λ x e r. got (Some x) e r) None c (λ t rest is. next _ a ok.0 d l c t rest is) (λ x e r. ([], refl)) rest)
      past_by (g.maybe a) ok d0 l0 c0 e0 u (Some x) d l c rest p =
          on_true (λ o. Past rest o) (at_first (fst a) (u ++ rest)) _ _ (at_first_app (fst a) u rest (firm a ok.0 ok.1 d0 l0 c0 e0 u x p))
          (past_map rest (Rd a d l c (u ++ rest)) Some (λ e. e) (past_by a ok.0 d0 l0 c0 e0 u x d l c rest p))
      past_by (g.many a) ok d0 l0 c0 e0 u xs d l c rest p =
          past_turns (fst a) (cnt a) (Rd a d l) (Dv a d0 l0) ok.2 (firm a ok.0 ok.1 d0 l0) (λ c0 e0 u x c rest p st. reads _ a ok.0 d0 l0 c0 e0 u x d l c rest p st)
          (λ c0 e0 u x c rest p. past_by a ok.0 d0 l0 c0 e0 u x d l c rest p) (λ c t rest is. next _ a ok.0 d l c t rest is) (lies a d l) (length (u ++ rest)) xs c0 e0 u c rest (omega arith) p
      past_by (g.then_if {A} {B = C} a goes z) ok d0 l0 c0 e0 u x d l c rest p = go x.0 x.1 p (λ v x m0 p. past_by a ok.0 d0 l0 c0 m0 v x d l c rest p) (λ m0 e0 w y m q. past_by z ok.1 d0 l0 m0 e0 w y d l m rest q)
        where
          go : (x : A) (y : Option C) → Then (Dv a d0 l0) (Dv z d0 l0) goes c0 e0 u x y
              → ((v : List (Token K V)) (x : A) (m0 : ℕ) → Dv a d0 l0 c0 m0 v x → Past rest (Rd a d l c (v ++ rest))) → ((m0 e0 : ℕ) (w : List (Token K V)) (y : C) (m : ℕ) → Dv z d0 l0 m0 e0 w y → Past rest (Rd z d l m (w ++ rest)))
              → Past rest (Rd (g.then_if a goes z) d l c (u ++ rest))
          go x None p fore back = past_then rest (Rd a d l c (u ++ rest)) (λ x m r. if_goes (goes x && at_first (fst z) r) x m r (Rd z d l m r)) (fore u x e0 p)
              (λ x m. past_goes (goes x) (fst z) (Rd z d l m) x m (λ t rest is. next _ z ok.1 d l m t rest is) rest) (λ x m r. lies_goes (goes x && at_first (fst z) r) x m r (Rd z d l m r) (lies z d l m r))
          go x (Some y) (v, w, m0, eu, p, is, q) fore back =
              let solid_w = firm z ok.1 ok.4 d0 l0 m0 e0 w y q in
              regrouped (λ i. Past rest (Rd (g.then_if a goes z) d l c i)) u v w rest eu
              (past_after rest (w ++ rest) (Rd a d l c (v ++ (w ++ rest))) x m0 (λ x m r. if_goes (goes x && at_first (fst z) r) x m r (Rd z d l m r))
              (reads _ a ok.0 d0 l0 c0 m0 v x d l c (w ++ rest) p (stops (cnt a) (fst z) false ok.2 w rest solid_w (λ n. cc)))
              (λ m. subst (λ j. Past rest (if_goes j x m (w ++ rest) (Rd z d l m (w ++ rest)))) (sym (and_both (goes x) (at_first (fst z) (w ++ rest)) is (at_first_app (fst z) w rest solid_w)))
              (past_map rest (Rd z d l m (w ++ rest)) (λ y. (x, Some y)) (λ e. e) (back m0 e0 w y m q))))
      past_by (g.when f a) ok d0 l0 c0 e0 u x d l c rest (hd, p) =
          on_true (λ o. Past rest o) (at_first f (u ++ rest)) _ _ (head_first f (fst a) u rest hd (firm a ok.0 ok.1 d0 l0 c0 e0 u x p)) (past_by a ok.0 d0 l0 c0 e0 u x d l c rest p)
      past_by (g.nest a) ok zero l0 c0 e0 u x d l c rest p = elim p [ ]
      past_by (g.nest a) ok (suc d0) l0 c0 e0 u x zero l c rest p =
          on_true (λ o. Past rest o) (at_first (fst a) (u ++ rest)) (rejected over_budget (u ++ rest)) (rejected unexpected (u ++ rest)) (at_first_app (fst a) u rest (firm a ok.0 ok.1 d0 l0 c0 e0 u x p)) tt
      past_by (g.nest a) ok (suc d0) l0 c0 e0 u x (suc d) l c rest p = past_by a ok.0 d0 l0 c0 e0 u x d l c rest p
      past_by (g.counts a) ok d0 l0 zero e0 u x d l c rest p = elim p [ ]
      past_by (g.counts a) ok d0 l0 (suc c0) e0 u x d l zero rest p =
          on_true (λ o. Past rest o) (at_first (fst a) (u ++ rest)) (rejected over_budget (u ++ rest)) (rejected unexpected (u ++ rest)) (at_first_app (fst a) u rest (firm a ok.0 ok.1 d0 l0 c0 e0 u x p)) tt
      past_by (g.counts a) ok d0 l0 (suc c0) e0 u x d l (suc c) rest p = past_by a ok.0 d0 l0 c0 e0 u x d l c rest p
      past_by (g.limited a) ok d0 l0 c0 e0 u x d l c rest (m0, p, ec) = past_map rest (Rd a d l l (u ++ rest)) (λ x. x) (λ _. c) (past_by a ok d0 l0 l0 m0 u x d l l rest p)
      past_by (g.gives f a) ok d0 l0 c0 e0 u y d l c rest (x, p, ey) = past_map rest (Rd a d l c (u ++ rest)) f (λ e. e) (past_by a ok d0 l0 c0 e0 u x d l c rest p)
