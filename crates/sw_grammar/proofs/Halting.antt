-- Where tokens arrive at places at which the reader takes all of them but the last, they go on with no sentence up to the last.
use Rattle.std.proofs.Common.{◌≡◌, ◌≤◌, ◌+◌, ◌*◌, ℕ, zero, suc, Bool, true, false, cond, ◌||◌, ◌&&◌, inl, inr, List, [], ◌∷◌, ◌++◌, length, Option, Some, None, refl, sym, ap, ◌∙◌, subst, append_assoc, append-nil, arith, length-append}
use Rattle.sw_grammar.specs.Grammar as g
use Rattle.sw_grammar.specs.Grammar.{Token, Part, Budget, Counted, Each, FirstPasses, Derives_by, Derives, ViablePrefix, IsViablePrefix}
use Rattle.sw_grammar.specs.Reading.{unexpected, over_budget, Out, got, rejected, out_of_fuel, ◌>>=◌, at_first, or_if, if_goes, turns, nullable, first, read_by, reads}
use Rattle.sw_grammar.specs.Deciding.{Apart, follow_last, Decided, IsDecided}
use Rattle.sw_grammar.specs.Ends.{EndsAt}
use Rattle.sw_grammar.specs.Arriving as arriving
use Rattle.sw_grammar.proofs.Grow.{viable_larger}
use Rattle.sw_grammar.proofs.Starts.{Starts, starts_n, starts_b, starts_weak, starts_D, solid, starts_prefix, starts_each, or_left, or_right, or_if_left, or_if_right, or_false, and_both, not_true, clash}
use Rattle.sw_grammar.proofs.Sound.{Sound}
use Rattle.sw_grammar.proofs.Leading.{Large}
use Rattle.sw_grammar.proofs.Equations.{reads_step, reads_answers, reads_sound}
use Rattle.sw_grammar.proofs.Exact.{Reads, Lies, complete_by, on_true, on_false, regrouped, at_first_app, stops}
use Rattle.sw_grammar.proofs.Whole.{reads_in}
use Rattle.sw_grammar.proofs.Viable.{left_of, not_viable_where_left}

-- ---- nothing is taken

abbrev Idle : {T A : Type 0} → Bool → List T → Out T A → Type 0
Idle nl ts (got x c r) = (r ≡ ts) × (nl ≡ true)
Idle nl ts (rejected reason r) = r ≡ ts
Idle nl ts out_of_fuel = ⊥

idle_then : {T A C : Type 0} (na nl : Bool) (ts : List T) (o : Out T A) (k : A → ℕ → List T → Out T C) → Idle na ts o → (na ≡ true → (x : A) (c : ℕ) → Idle nl ts (k x c ts)) → Idle nl ts (o >>= k)
idle_then na nl ts (got x c r) k (er, en) h = subst (λ r. Idle nl ts (k x c r)) (sym er) (h en x c)
idle_then na nl ts (rejected reason r) k er h = er
idle_then na nl ts out_of_fuel k p h = p

idle_map : {T A C : Type 0} (nl : Bool) (ts : List T) (o : Out T A) (f : A → C) (e : ℕ → ℕ) → Idle nl ts o → Idle nl ts (o >>= (λ x c r. got (f x) (e c) r))
idle_map nl ts o f e p = idle_then nl nl ts o (λ x c r. got (f x) (e c) r) p (λ en x c. (refl, en))

idle_weak : {T A : Type 0} (n m : Bool) (ts : List T) (o : Out T A) → (n ≡ true → m ≡ true) → Idle n ts o → Idle m ts o
idle_weak n m ts (got x c r) h (er, en) = (er, h en)
idle_weak n m ts (rejected reason r) h er = er
idle_weak n m ts out_of_fuel h p = p

idle_when : {T A : Type 0} (z nl : Bool) (ts : List T) (o : Out T A) → (z ≡ true → Idle nl ts o) → Idle nl ts (cond z o (rejected unexpected ts))
idle_when true nl ts o h = h refl
idle_when false nl ts o h = refl

if_none : (n a b : Bool) → or_if n a b ≡ false → (a ≡ false) × (n ≡ true → b ≡ false)
if_none true a b e = let (p, q) = or_false a b e in (p, λ _. q)
if_none false a b e = (e, λ p. cc)

and_none : (a b : Bool) → (a && b) ≡ false → a ≡ true → b ≡ false
and_none true b e p = e
and_none false b e p = cc

and_second : (a b : Bool) → b ≡ false → (a && b) ≡ false
and_second true b e = e
and_second false b e = refl

-- ---- all tokens but the last are taken

-- The reader ends before the token, and goes on with it elsewhere; or it refuses it, or one before it.
abbrev pub Halts : {K V A : Type 0} → (K → Bool) → Token K V → List (Token K V) → Out (Token K V) A → Type 0
Halts ca t rest (got x c r) = (r ≡ t ∷ rest) × (ca t.sight ≡ true)
Halts ca t rest (rejected reason r) = (v : List (Token _ _)) × (r ≡ v ++ t ∷ rest)
Halts ca t rest out_of_fuel = ⊥

halts_map : {K V A C : Type 0} (ca ca' : K → Bool) (t : Token K V) (rest : List (Token K V)) (o : Out (Token K V) A) (f : A → C) (e : ℕ → ℕ) → (ca t.sight ≡ true → ca' t.sight ≡ true)
    → Halts ca t rest o → Halts ca' t rest (o >>= (λ x c r. got (f x) (e c) r))
halts_map ca ca' t rest (got x c r) f e h (er, is) = (er, h is)
halts_map ca ca' t rest (rejected reason r) f e h p = p
halts_map ca ca' t rest out_of_fuel f e h p = p

-- after a sentence that is read
halts_behind : {K V A C : Type 0} (ca : K → Bool) (t : Token K V) (rest mid : List (Token K V)) (o : Out (Token K V) A) (x : A) (m0 : ℕ) (k : A → ℕ → List (Token K V) → Out (Token K V) C)
    → Reads true x m0 mid o → ((m : ℕ) → m0 ≤ m → Halts ca t rest (k x m mid)) → Halts ca t rest (o >>= k)
halts_behind ca t rest mid (got y e r) x m0 k (ey, er, fe) h = subst (λ y. Halts ca t rest (k y e r)) (sym ey) (subst (λ r. Halts ca t rest (k x e r)) (sym er) (h e fe))
halts_behind ca t rest mid (rejected over_budget r) x m0 k p h = absurd p
halts_behind ca t rest mid (rejected unexpected r) x m0 k p h = elim p [ ]
halts_behind ca t rest mid out_of_fuel x m0 k p h = elim p [ ]

halts_weak : {K V A : Type 0} (ca ca' : K → Bool) (t : Token K V) (rest : List (Token K V)) (o : Out (Token K V) A) → (ca t.sight ≡ true → ca' t.sight ≡ true) → Halts ca t rest o → Halts ca' t rest o
halts_weak ca ca' t rest (got x c r) h (er, is) = (er, h is)
halts_weak ca ca' t rest (rejected reason r) h p = p
halts_weak ca ca' t rest out_of_fuel h p = p

starts_second : {K V : Type 0} (na : Bool) (fa fb : K → Bool) (v w : List (Token K V)) → Starts na fa v → Starts false fb w → Starts false (λ t. or_if na (fa t) (fb t)) (v ++ w)
starts_second na fa fb [] [] ha hb = cc
starts_second na fa fb [] (t ∷ w) ha hb = or_if_right na (fa t.sight) (fb t.sight) ha hb
starts_second na fa fb (t ∷ v) w ha hb = or_if_left na (fa t.sight) (fb t.sight) ha

starts_more : {K V : Type 0} (f : K → Bool) (v w : List (Token K V)) → Starts true f v → Starts false f w → Starts false f (v ++ w)
starts_more f [] w hv hw = hw
starts_more f (t ∷ v) w hv hw = hv

starts_when : {K V : Type 0} (q h : K → Bool) (u : List (Token K V)) → FirstPasses q u → Starts false h u → Starts false (λ t. q t && h t) u
starts_when q h [] hd s = s
starts_when q h (t ∷ u) hd s = and_both (q t.sight) (h t.sight) hd s

head_first : {K V : Type 0} (q h : K → Bool) (u rest : List (Token K V)) → FirstPasses q u → Starts false h u → at_first q (u ++ rest) ≡ true
head_first q h [] rest hd s = cc
head_first q h (t ∷ u) rest hd s = hd

-- ---- repetitions

turns_stop : {K V A : Type 0} (f : K → Bool) (p : ℕ → List (Token K V) → Out (Token K V) A) (k m : ℕ) (t : Token K V) (rest : List (Token K V)) → f t.sight ≡ false → turns f p k m (t ∷ rest) ≡ got [] m (t ∷ rest)
turns_stop f p zero m t rest e = refl
turns_stop f p (suc k) m t rest e = on_false (λ o. o ≡ got [] m (t ∷ rest)) (f t.sight) _ (got [] m (t ∷ rest)) e refl

shorter : {K V : Type 0} (f : K → Bool) (v w : List (Token K V)) (k : ℕ) → Starts false f v → length (v ++ w) ≤ suc k → length w ≤ k
shorter f [] w k s h = cc
shorter f (t ∷ v) w k s h = omega (arith, h, length-append v w)

longer : {K V : Type 0} (f : K → Bool) (v w : List (Token K V)) → Starts false f v → length (v ++ w) ≤ 0 → ⊥
longer f [] w s h = cc
longer f (t ∷ v) w s h = omega (arith, h)

regroup : {T : Type 0} (u v w rest : List T) → u ≡ v ++ w → u ++ rest ≡ v ++ (w ++ rest)
regroup u v w rest e = ap (λ l. l ++ rest) e ∙ append_assoc v w rest

module _ {K V A : Type 0} (f ca : K → Bool) (p : ℕ → List (Token K V) → Out (Token K V) A) (D : Counted (Token K V) A) (apart : Apart ca f)
    (hd : (c0 e0 : ℕ) (u : List (Token K V)) (x : A) → D c0 e0 u x → Starts false f u)
    (hp : (c0 e0 : ℕ) (u : List (Token K V)) (x : A) (c : ℕ) (rest : List (Token K V)) → D c0 e0 u x → c0 ≤ c → at_first ca rest ≡ false → Reads true x e0 rest (p c (u ++ rest)))
    (t : Token K V) (rest : List (Token K V)) where
  abbrev On : K → Bool
  On s = f s || ca s

  -- the item in which it halts is the last
  item_halts : (k : ℕ) (o : Out (Token K V) A) → Halts ca t rest o → Halts On t rest (o >>= (λ x m r. turns f p k m r >>= (λ xs e r. got (x ∷ xs) e r)))
  item_halts k (got x m r) (er, is) =
      subst (λ r. Halts On t rest (turns f p k m r >>= (λ xs e r. got (x ∷ xs) e r))) (sym er)
      (subst (λ o. Halts On t rest (o >>= (λ xs e r. got (x ∷ xs) e r))) (sym (turns_stop f p k m t rest (not_true (f t.sight) (apart t.sight is)))) (refl, or_right (f t.sight) (ca t.sight) is))
  item_halts k (rejected reason r) h = h
  item_halts k out_of_fuel h = h

  turns_halts : (k : ℕ) (xs : List A) (c0 m0 : ℕ) (v w : List (Token K V)) (c : ℕ) → length (v ++ (w ++ rest)) ≤ k → Each D c0 m0 v xs → Starts false f w
      → ((m : ℕ) → m0 ≤ m → Halts ca t rest (p m (w ++ rest))) → c0 ≤ c → Halts On t rest (turns f p k c (v ++ (w ++ rest)))
  turns_halts zero [] c0 m0 v w c l (ev, ec) s h le = absurd (longer f w rest s (subst (λ v. length (v ++ (w ++ rest)) ≤ 0) ev l))
  turns_halts (suc k) [] c0 m0 v w c l (ev, ec) s h le =
      subst (λ v. Halts On t rest (turns f p (suc k) c (v ++ (w ++ rest)))) (sym ev)
      (on_true (λ o. Halts On t rest o) (at_first f (w ++ rest)) _ (got [] c (w ++ rest)) (at_first_app f w rest s) (item_halts k (p c (w ++ rest)) (h c (omega (arith, ec, le)))))
  turns_halts zero (x ∷ xs) c0 m0 v w c l (v1, v2, m1, ev, d, each) s h le =
      absurd (longer f v1 (v2 ++ (w ++ rest)) (hd c0 m1 v1 x d) (subst (λ l. length l ≤ 0) (regroup v v1 v2 (w ++ rest) ev) l))
  turns_halts (suc k) (x ∷ xs) c0 m0 v w c l (v1, v2, m1, ev, d, each) s h le =
      let shape = regroup v v1 v2 (w ++ rest) ev in
      let start = hd c0 m1 v1 x d in
      let mid : at_first ca (v2 ++ (w ++ rest)) ≡ false = after v2 (starts_each false f D hd xs m1 m0 v2 each) in
      let l' = shorter f v1 (v2 ++ (w ++ rest)) k start (subst (λ l. length l ≤ suc k) shape l) in
      subst (λ l. Halts On t rest (turns f p (suc k) c l)) (sym shape)
      (on_true (λ o. Halts On t rest o) (at_first f (v1 ++ (v2 ++ (w ++ rest)))) _ (got [] c (v1 ++ (v2 ++ (w ++ rest)))) (at_first_app f v1 (v2 ++ (w ++ rest)) start)
      (halts_behind On t rest (v2 ++ (w ++ rest)) (p c (v1 ++ (v2 ++ (w ++ rest)))) x m1 _ (hp c0 m1 v1 x c (v2 ++ (w ++ rest)) d le mid)
      (λ m le'. halts_map On On t rest (turns f p k m (v2 ++ (w ++ rest))) (λ xs. x ∷ xs) (λ e. e) (λ is. is) (turns_halts k xs m1 m0 v2 w m l' each s h le'))))
    where
      after : (v2 : List (Token K V)) → Starts true f v2 → at_first ca (v2 ++ (w ++ rest)) ≡ false
      after [] _ = stops ca f false apart w rest s (λ n. cc)
      after (y ∷ v2) is = not_true (ca y.sight) (λ e. apart y.sight e is)

-- ---- parts

module _ (K V S : Type 0) (Sort : S → Type 0) (production : (s : S) → Part K V S Sort (Sort s)) (first_table : S → K → Bool) (nullable_table : S → Bool) (follow_last_table : S → K → Bool)
    (rank : S → ℕ) (width : ℕ) (fine : IsDecided K V S Sort production first_table nullable_table follow_last_table rank width) where
  abbrev nul : {A : Type 0} → Part K V S Sort A → Bool
  nul a = nullable K V S Sort production first_table nullable_table a

  abbrev fst : {A : Type 0} → Part K V S Sort A → K → Bool
  fst a = first K V S Sort production first_table nullable_table a

  abbrev cnt : {A : Type 0} → Part K V S Sort A → K → Bool
  cnt a = follow_last K V S Sort production first_table nullable_table follow_last_table a

  abbrev Ok : {A : Type 0} → Part K V S Sort A → Type 0
  Ok a = Decided K V S Sort production first_table nullable_table follow_last_table a

  abbrev Dn : ℕ → (s : S) → ℕ → ℕ → ℕ → ℕ → List (Token K V) → Sort s → Type 0
  Dn n = Derives K V S Sort production n

  abbrev Dv : ℕ → {A : Type 0} → Part K V S Sort A → ℕ → ℕ → ℕ → ℕ → List (Token K V) → A → Type 0
  Dv n a d l c e u x = Derives_by K V S Sort production (Dn n) a d l c e u x

  abbrev run : (s : S) → ℕ → ℕ → ℕ → List (Token K V) → Out (Token K V) (Sort s)
  run = reads K V S Sort production first_table nullable_table rank width

  abbrev Rd : {A : Type 0} → Part K V S Sort A → ℕ → ℕ → ℕ → List (Token K V) → Out (Token K V) A
  Rd a d l c ts = read_by K V S Sort production first_table nullable_table run a d l c ts

  starts : (n : ℕ) (s : S) (d l c e : ℕ) (u : List (Token K V)) (x : Sort s) → Dn n s d l c e u x → Starts (nullable_table s) (first_table s) u
  starts = starts_n K V S Sort production first_table nullable_table follow_last_table fine.table

  -- ---- a token that a part does not begin with

  sound_idle : (s : S) (t : Token K V) (rest : List (Token K V)) (D : ℕ → List (Token K V) → Sort s → Type 0) (B F : List (Token K V) → Type 0) → first_table s t.sight ≡ false
      → ((c : ℕ) (u : List (Token K V)) (x : Sort s) → D c u x → Starts (nullable_table s) (first_table s) u) → ((u : List (Token K V)) → B u → Starts true (first_table s) u)
      → (o : Out (Token K V) (Sort s)) → (o ≡ out_of_fuel → ⊥) → Sound D B F (t ∷ rest) o → Idle (nullable_table s) (t ∷ rest) o
  sound_idle s t rest D B F isnt hd hb (got x c r) ns ([], e, p) = (sym e, hd c [] x p)
  sound_idle s t rest D B F isnt hd hb (got x c r) ns (y ∷ u, e, p) = let same : t ≡ y = cc in absurd (clash (first_table s t.sight) (subst (λ (y : Token K V). first_table s y.sight ≡ true) (sym same) (hd c (y ∷ u) x p)) isnt)
  sound_idle s t rest D B F isnt hd hb (rejected over_budget r) ns ([], y, q, er, e, b, large) = sym e
  sound_idle s t rest D B F isnt hd hb (rejected over_budget r) ns (z ∷ u, y, q, er, e, b, large) = let same : t ≡ z = cc in absurd (clash (first_table s t.sight) (subst (λ (y : Token K V). first_table s y.sight ≡ true) (sym same) (hb (z ∷ u) b)) isnt)
  sound_idle s t rest D B F isnt hd hb (rejected unexpected r) ns ([], e, b) = sym e
  sound_idle s t rest D B F isnt hd hb (rejected unexpected r) ns (z ∷ u, e, b) = let same : t ≡ z = cc in absurd (clash (first_table s t.sight) (subst (λ (y : Token K V). first_table s y.sight ≡ true) (sym same) (hb (z ∷ u) b)) isnt)
  sound_idle s t rest D B F isnt hd hb out_of_fuel ns h = ns refl

  quiet : (s : S) (d l c : ℕ) (t : Token K V) (rest : List (Token K V)) → first_table s t.sight ≡ false → Idle (nullable_table s) (t ∷ rest) (run s d l c (t ∷ rest))
  quiet s d l c t rest isnt = sound_idle s t rest _ _ (Large K V S Sort production first_table nullable_table follow_last_table (g.nonterminal s)) isnt (λ e u x p. starts n s d l c e u x p) (λ u b. starts_b K V S Sort production first_table nullable_table follow_last_table fine.table n s d l c u b)
      (run s d l c (t ∷ rest)) (reads_answers K V S Sort production first_table nullable_table follow_last_table rank width fine s d l c (t ∷ rest)) (reads_sound K V S Sort production first_table nullable_table follow_last_table rank width fine s d l c (t ∷ rest))
    where
      n : ℕ
      n = suc (rank s + width * length (t ∷ rest))

  idle_by : {A : Type 0} (a : Part K V S Sort A) → Ok a → (d l c : ℕ) (t : Token K V) (rest : List (Token K V)) → fst a t.sight ≡ false → Idle (nul a) (t ∷ rest) (Rd a d l c (t ∷ rest))
  idle_by (g.terminal f) ok d l c t rest isnt = on_false (λ o. Idle false (t ∷ rest) o) (f t.sight) (got t.face c rest) (rejected unexpected (t ∷ rest)) isnt refl
  idle_by (g.nonterminal s) ok d l c t rest isnt = quiet s d l c t rest isnt
  idle_by (g.both a b) ok d l c t rest isnt =
      let (na, nb) = if_none (nul a) (fst a t.sight) (fst b t.sight) isnt in
      idle_then (nul a) (nul a && nul b) (t ∷ rest) (Rd a d l c (t ∷ rest)) (λ x m r. Rd b d l m r >>= (λ y e r. got (x, y) e r)) (idle_by a ok.0 d l c t rest na)
      (λ ea x m. idle_then (nul b) (nul a && nul b) (t ∷ rest) (Rd b d l m (t ∷ rest)) (λ y e r. got (x, y) e r) (idle_by b ok.1 d l m t rest (nb ea)) (λ eb y e. (refl, and_both (nul a) (nul b) ea eb)))
  idle_by (g.either a b) ok d l c t rest isnt =
      let (na, nb) = or_false (fst a t.sight) (fst b t.sight) isnt in
      on_false (λ o. Idle (nul a || nul b) (t ∷ rest) o) (fst a t.sight) (Rd a d l c (t ∷ rest)) (Rd b d l c (t ∷ rest)) na
      (idle_weak (nul b) (nul a || nul b) (t ∷ rest) (Rd b d l c (t ∷ rest)) (or_right (nul a) (nul b)) (idle_by b ok.1 d l c t rest nb))
  idle_by (g.maybe a) ok d l c t rest isnt = on_false (λ o. Idle true (t ∷ rest) o) (fst a t.sight) _ (got None c (t ∷ rest)) isnt (refl, refl)
  idle_by (g.many a) ok d l c t rest isnt = on_false (λ o. Idle true (t ∷ rest) o) (fst a t.sight) _ (got [] c (t ∷ rest)) isnt (refl, refl)
  idle_by (g.then_if a goes b) ok d l c t rest isnt = idle_then (nul a) (nul a) (t ∷ rest) (Rd a d l c (t ∷ rest)) _ (idle_by a ok.0 d l c t rest isnt) (λ ea x m. absurd (clash (nul a) ea ok.3))
  idle_by (g.when f a) ok d l c t rest isnt = idle_when (f t.sight) (nul a) (t ∷ rest) (Rd a d l c (t ∷ rest)) (λ is. idle_by a ok.0 d l c t rest (and_none (f t.sight) (fst a t.sight) isnt is))
  idle_by (g.nest a) ok zero l c t rest isnt = on_false (λ o. Idle (nul a) (t ∷ rest) o) (fst a t.sight) (rejected over_budget (t ∷ rest)) (rejected unexpected (t ∷ rest)) isnt refl
  idle_by (g.nest a) ok (suc d) l c t rest isnt = idle_by a ok.0 d l c t rest isnt
  idle_by (g.counts a) ok d l zero t rest isnt = on_false (λ o. Idle (nul a) (t ∷ rest) o) (fst a t.sight) (rejected over_budget (t ∷ rest)) (rejected unexpected (t ∷ rest)) isnt refl
  idle_by (g.counts a) ok d l (suc c) t rest isnt = idle_by a ok.0 d l c t rest isnt
  idle_by (g.limited a) ok d l c t rest isnt = idle_map (nul a) (t ∷ rest) (Rd a d l l (t ∷ rest)) (λ x. x) (λ _. c) (idle_by a ok d l l t rest isnt)
  idle_by (g.gives f a) ok d l c t rest isnt = idle_map (nul a) (t ∷ rest) (Rd a d l c (t ∷ rest)) f (λ e. e) (idle_by a ok d l c t rest isnt)

  -- ---- a sentence is read

  sound_lies : {s : S} (D : ℕ → List (Token K V) → Sort s → Type 0) (B F : List (Token K V) → Type 0) (ts : List (Token K V)) (o : Out (Token K V) (Sort s)) → Sound D B F ts o → Lies ts o
  sound_lies D B F ts (got x c r) (u, e, h) = (u, e)
  sound_lies D B F ts (rejected over_budget r) (u, t, q, er, e, h, l) = (u, e)
  sound_lies D B F ts (rejected unexpected r) (u, e, h) = (u, e)
  sound_lies D B F ts out_of_fuel h = tt

  lies_run : (s : S) (d l c : ℕ) (ts : List (Token K V)) → Lies ts (run s d l c ts)
  lies_run s d l c ts = sound_lies _ _ (Large K V S Sort production first_table nullable_table follow_last_table (g.nonterminal s)) ts (run s d l c ts) (reads_sound K V S Sort production first_table nullable_table follow_last_table rank width fine s d l c ts)

  step : (s : S) (d l c : ℕ) (ts : List (Token K V)) → run s d l c ts ≡ Rd (production s) d l c ts
  step = reads_step K V S Sort production first_table nullable_table follow_last_table rank width fine

  tails_stop : (s : S) (rest : List (Token K V)) → at_first (follow_last_table s) rest ≡ false → at_first (cnt (production s)) rest ≡ false
  tails_stop s [] e = refl
  tails_stop s (t ∷ rest) e = not_true (cnt (production s) t.sight) (λ p. clash (follow_last_table s t.sight) ((fine.table s).tail t.sight p) e)

  abbrev Bn : ℕ → (s : S) → ℕ → ℕ → ℕ → List (Token K V) → Type 0
  Bn n = ViablePrefix K V S Sort production n

  complete : (n : ℕ) (s : S) (d0 l0 c0 e0 : ℕ) (u : List (Token K V)) (x : Sort s) (d l c : ℕ) (rest : List (Token K V)) → Dn n s d0 l0 c0 e0 u x → d0 ≤ d → l0 ≤ l → c0 ≤ c → at_first (follow_last_table s) rest ≡ false
      → Reads true x e0 rest (run s d l c (u ++ rest))
  complete zero s d0 l0 c0 e0 u x d l c rest p fd fl fc st = elim p [ ]
  complete (suc n) s d0 l0 c0 e0 u x d l c rest p fd fl fc st = subst (Reads true x e0 rest) (sym (step s d l c (u ++ rest)))
      (complete_by K V S Sort production first_table nullable_table follow_last_table run lies_run true (Dn n) (Bn n) (starts n) (complete n) (production s) (fine.table s).decided d0 l0 c0 e0 u x d l c rest p fd fl fc (tails_stop s rest st))

  complete_part : (n : ℕ) {A : Type 0} (a : Part K V S Sort A) → Ok a → (d0 l0 c0 e0 : ℕ) (u : List (Token K V)) (x : A) (d l c : ℕ) (rest : List (Token K V)) → Dv n a d0 l0 c0 e0 u x → d0 ≤ d → l0 ≤ l → c0 ≤ c
      → at_first (cnt a) rest ≡ false → Reads true x e0 rest (Rd a d l c (u ++ rest))
  complete_part n a ok = complete_by K V S Sort production first_table nullable_table follow_last_table run lies_run true (Dn n) (Bn n) (starts n) (complete n) a ok

  firm : (n : ℕ) {A : Type 0} (a : Part K V S Sort A) → Ok a → nul a ≡ false → (d l c e : ℕ) (u : List (Token K V)) (x : A) → Dv n a d l c e u x → Starts false (fst a) u
  firm n a ok = solid K V S Sort production first_table nullable_table follow_last_table (Dn n) (Bn n) (starts n) a ok

  -- ---- parts that halt

  module _ (f : K → Bool) where
    -- The last of the tokens passes the test, and in each budget that is large enough the part is read up to it, whatever follows.
    pub record Halting {A : Type 0} (a : Part K V S Sort A) (d0 l0 c0 : ℕ) (u : List (Token K V)) : Type 0 where
      pub prefix : List (Token K V)
      pub last : Token K V
      pub shape : u ≡ prefix ++ last ∷ []
      pub passes : f last.sight ≡ true
      pub begins : Starts false (fst a) u
      pub halts : (d l c : ℕ) (rest : List (Token K V)) → d0 ≤ d → l0 ≤ l → c0 ≤ c → Halts (cnt a) last rest (Rd a d l c (u ++ rest))

    -- in its first part
    in_first : {A C : Type 0} (a : Part K V S Sort A) (b : Part K V S Sort C) → Ok (g.both a b) → (d l : ℕ) (t : Token K V) (rest : List (Token K V)) (o : Out (Token K V) A) → Halts (cnt a) t rest o
        → Halts {A = A × C} (cnt (g.both a b)) t rest (o >>= (λ x m r. Rd b d l m r >>= (λ y e r. got (x, y) e r)))
    in_first {A} {C} a b ok d l t rest (got x c r) (er, is) =
        subst (λ r. Halts {A = A × C} (cnt (g.both a b)) t rest (Rd b d l c r >>= (λ y e r. got (x, y) e r))) (sym er) (second (Rd b d l c (t ∷ rest)) (idle_by b ok.1 d l c t rest (not_true (fst b t.sight) (ok.2 t.sight is))))
      where
        second : (o : Out (Token K V) C) → Idle (nul b) (t ∷ rest) o → Halts {A = A × C} (cnt (g.both a b)) t rest (o >>= (λ y e r. got (x, y) e r))
        second (got y e r) (er, eb) = (er, or_if_right (nul b) (cnt b t.sight) (fst b t.sight || cnt a t.sight) eb (or_right (fst b t.sight) (cnt a t.sight) is))
        second (rejected reason r) er = ([], er)
        second out_of_fuel p = p
    in_first a b ok d l t rest (rejected reason r) p = p
    in_first a b ok d l t rest out_of_fuel p = p

    pub halting_first : {A C : Type 0} (a : Part K V S Sort A) (b : Part K V S Sort C) → Ok (g.both a b) → (d0 l0 c0 : ℕ) (u : List (Token K V)) → Halting a d0 l0 c0 u → Halting (g.both a b) d0 l0 c0 u
    halting_first a b ok d0 l0 c0 u h = record {
      prefix = h.prefix;
      last = h.last;
      shape = h.shape;
      passes = h.passes;
      begins = starts_weak false false (fst a) (fst (g.both a b)) (λ e. e) (λ t. or_if_left (nul a) (fst a t) (fst b t)) u h.begins;
      halts = λ d l c rest fd fl fc. in_first a b ok d l h.last rest (Rd a d l c (u ++ rest)) (h.halts d l c rest fd fl fc);
    }

    -- after a sentence of its first
    longer_shape : (v w prefix : List (Token K V)) (t : Token K V) → w ≡ prefix ++ t ∷ [] → v ++ w ≡ (v ++ prefix) ++ t ∷ []
    longer_shape v w prefix t e = ap (λ l. v ++ l) e ∙ sym (append_assoc v prefix (t ∷ []))

    pub halting_second : (n : ℕ) {A C : Type 0} (a : Part K V S Sort A) (b : Part K V S Sort C) → Ok (g.both a b) → (d0 l0 c0 m0 : ℕ) (v w : List (Token K V)) (x : A) → Dv n a d0 l0 c0 m0 v x → Halting b d0 l0 m0 w
        → Halting (g.both a b) d0 l0 c0 (v ++ w)
    halting_second n {A} {C} a b ok d0 l0 c0 m0 v w x p h = record {
      prefix = v ++ h.prefix;
      last = h.last;
      shape = longer_shape v w h.prefix h.last h.shape;
      passes = h.passes;
      begins = starts_second (nul a) (fst a) (fst b) v w (starts_D K V S Sort production first_table nullable_table follow_last_table (Dn n) (Bn n) (starts n) a ok.0 d0 l0 c0 m0 v x p) h.begins;
      halts = λ d l c rest fd fl fc.
          regrouped (λ i. Halts {A = A × C} (cnt (g.both a b)) h.last rest (Rd (g.both a b) d l c i)) (v ++ w) v w rest refl
          (halts_behind (cnt (g.both a b)) h.last rest (w ++ rest) (Rd a d l c (v ++ (w ++ rest))) x m0 (λ x m r. Rd b d l m r >>= (λ y e r. got (x, y) e r))
          (complete_part n a ok.0 d0 l0 c0 m0 v x d l c (w ++ rest) p fd fl fc (stops (cnt a) (fst b) false ok.2 w rest h.begins (λ n. cc)))
          (λ m fm. halts_map (cnt b) (cnt (g.both a b)) h.last rest (Rd b d l m (w ++ rest)) (λ y. (x, y)) (λ e. e) (or_if_left (nul b) (cnt b h.last.sight) (fst b h.last.sight || cnt a h.last.sight)) (h.halts d l m rest fd fl fm)));
    }

    -- the token begins no sentence of the second, which wants one
    pub halting_between : (n : ℕ) {A C : Type 0} (a : Part K V S Sort A) (b : Part K V S Sort C) → Ok (g.both a b) → (d0 l0 c0 m0 : ℕ) (v : List (Token K V)) (t : Token K V) (x : A) → Dv n a d0 l0 c0 m0 v x
        → nul a ≡ false → nul b ≡ false → cnt a t.sight ≡ false → fst b t.sight ≡ false → f t.sight ≡ true → Halting (g.both a b) d0 l0 c0 (v ++ t ∷ [])
    halting_between n {A} {C} a b ok d0 l0 c0 m0 v t x p na nb stop isnt is = record {
      prefix = v;
      last = t;
      shape = refl;
      passes = is;
      begins = starts_weak false false (fst a) (fst (g.both a b)) (λ e. e) (λ t. or_if_left (nul a) (fst a t) (fst b t)) (v ++ t ∷ []) (starts_prefix false (fst a) v (t ∷ []) (firm n a ok.0 na d0 l0 c0 m0 v x p));
      halts = λ d l c rest fd fl fc.
          regrouped (λ i. Halts {A = A × C} (cnt (g.both a b)) t rest (Rd (g.both a b) d l c i)) (v ++ t ∷ []) v (t ∷ []) rest refl
          (halts_behind (cnt (g.both a b)) t rest (t ∷ rest) (Rd a d l c (v ++ (t ∷ rest))) x m0 (λ x m r. Rd b d l m r >>= (λ y e r. got (x, y) e r))
          (complete_part n a ok.0 d0 l0 c0 m0 v x d l c (t ∷ rest) p fd fl fc stop)
          (λ m fm. none rest (Rd b d l m (t ∷ rest)) (idle_by b ok.1 d l m t rest isnt)));
    }
      where
        none : (rest : List (Token K V)) (o : Out (Token K V) C) → Idle (nul b) (t ∷ rest) o → Halts {A = A × C} (cnt (g.both a b)) t rest (o >>= (λ y e r. got (x, y) e r))
        none rest (got y e r) (er, eb) = absurd (clash (nul b) eb nb)
        none rest (rejected reason r) er = ([], er)
        none rest out_of_fuel p = p

    -- in one of two
    pub halting_left : {A : Type 0} (a b : Part K V S Sort A) → Ok (g.either a b) → (d0 l0 c0 : ℕ) (u : List (Token K V)) → Halting a d0 l0 c0 u → Halting (g.either a b) d0 l0 c0 u
    halting_left a b ok d0 l0 c0 u h = record {
      prefix = h.prefix;
      last = h.last;
      shape = h.shape;
      passes = h.passes;
      begins = starts_weak false false (fst a) (fst (g.either a b)) (λ e. e) (λ t. or_left (fst a t) (fst b t)) u h.begins;
      halts = λ d l c rest fd fl fc. on_true (λ o. Halts (cnt (g.either a b)) h.last rest o) (at_first (fst a) (u ++ rest)) (Rd a d l c (u ++ rest)) (Rd b d l c (u ++ rest)) (at_first_app (fst a) u rest h.begins)
          (halts_weak (cnt a) (cnt (g.either a b)) h.last rest (Rd a d l c (u ++ rest)) (or_left (cnt a h.last.sight) (cnt b h.last.sight)) (h.halts d l c rest fd fl fc));
    }

    pub halting_right : {A : Type 0} (a b : Part K V S Sort A) → Ok (g.either a b) → (d0 l0 c0 : ℕ) (u : List (Token K V)) → Halting b d0 l0 c0 u → Halting (g.either a b) d0 l0 c0 u
    halting_right a b ok d0 l0 c0 u h = record {
      prefix = h.prefix;
      last = h.last;
      shape = h.shape;
      passes = h.passes;
      begins = starts_weak false false (fst b) (fst (g.either a b)) (λ e. e) (λ t. or_right (fst a t) (fst b t)) u h.begins;
      halts = λ d l c rest fd fl fc. on_false (λ o. Halts (cnt (g.either a b)) h.last rest o) (at_first (fst a) (u ++ rest)) (Rd a d l c (u ++ rest)) (Rd b d l c (u ++ rest)) (stops (fst a) (fst b) false ok.2 u rest h.begins (λ n. cc))
          (halts_weak (cnt b) (cnt (g.either a b)) h.last rest (Rd b d l c (u ++ rest)) (or_right (cnt a h.last.sight) (cnt b h.last.sight)) (h.halts d l c rest fd fl fc));
    }

    pub halting_maybe : {A : Type 0} (a : Part K V S Sort A) (d0 l0 c0 : ℕ) (u : List (Token K V)) → Halting a d0 l0 c0 u → Halting (g.maybe a) d0 l0 c0 u
    halting_maybe {A} a d0 l0 c0 u h = record {
      prefix = h.prefix;
      last = h.last;
      shape = h.shape;
      passes = h.passes;
      begins = h.begins;
      halts = λ d l c rest fd fl fc.
          on_true (λ o. Halts {A = Option A} (cnt (g.maybe a)) h.last rest o) (at_first (fst a) (u ++ rest)) (Rd a d l c (u ++ rest) >>= (λ x e r. got (Some x) e r)) (got None c (u ++ rest)) (at_first_app (fst a) u rest h.begins)
          (halts_map (cnt a) (cnt (g.maybe a)) h.last rest (Rd a d l c (u ++ rest)) Some (λ e. e) (or_right (fst a h.last.sight) (cnt a h.last.sight)) (h.halts d l c rest fd fl fc));
    }

    -- after a sentence of a part that may be absent, where it ends before a token with which another would begin
    pub halting_behind : (n : ℕ) {A : Type 0} (a : Part K V S Sort A) → Ok (g.maybe a) → (d0 l0 c0 m0 : ℕ) (v : List (Token K V)) (t : Token K V) (x : A) → Dv n a d0 l0 c0 m0 v x
        → cnt a t.sight ≡ false → fst a t.sight ≡ true → f t.sight ≡ true → Halting (g.maybe a) d0 l0 c0 (v ++ t ∷ [])
    halting_behind n {A} a ok d0 l0 c0 m0 v t x p stop first is = record {
      prefix = v;
      last = t;
      shape = refl;
      passes = is;
      begins = starts_prefix false (fst a) v (t ∷ []) (firm n a ok.0 ok.1 d0 l0 c0 m0 v x p);
      halts = λ d l c rest fd fl fc.
          regrouped (λ i. Halts {A = Option A} (cnt (g.maybe a)) t rest (Rd (g.maybe a) d l c i)) (v ++ t ∷ []) v (t ∷ []) rest refl
          (on_true (λ o. Halts {A = Option A} (cnt (g.maybe a)) t rest o) (at_first (fst a) (v ++ (t ∷ rest))) (Rd a d l c (v ++ (t ∷ rest)) >>= (λ x e r. got (Some x) e r)) (got None c (v ++ (t ∷ rest)))
          (at_first_app (fst a) v (t ∷ rest) (firm n a ok.0 ok.1 d0 l0 c0 m0 v x p))
          (halts_behind (cnt (g.maybe a)) t rest (t ∷ rest) (Rd a d l c (v ++ (t ∷ rest))) x m0 (λ x e r. got (Some x) e r) (complete_part n a ok.0 d0 l0 c0 m0 v x d l c (t ∷ rest) p fd fl fc stop)
          (λ m fm. (refl, or_left (fst a t.sight) (cnt a t.sight) first))));
    }

    pub halting_many : (n : ℕ) {A : Type 0} (a : Part K V S Sort A) → Ok (g.many a) → (d0 l0 c0 m0 : ℕ) (v w : List (Token K V)) (xs : List A) → Each (Dv n a d0 l0) c0 m0 v xs → Halting a d0 l0 m0 w → Halting (g.many a) d0 l0 c0 (v ++ w)
    halting_many n {A} a ok d0 l0 c0 m0 v w xs each h = record {
      prefix = v ++ h.prefix;
      last = h.last;
      shape = longer_shape v w h.prefix h.last h.shape;
      passes = h.passes;
      begins = starts_more (fst a) v w (starts_each false (fst a) (Dv n a d0 l0) (firm n a ok.0 ok.1 d0 l0) xs c0 m0 v each) h.begins;
      halts = λ d l c rest fd fl fc.
          regrouped (λ i. Halts {A = List A} (cnt (g.many a)) h.last rest (Rd (g.many a) d l c i)) (v ++ w) v w rest refl
          (turns_halts (fst a) (cnt a) (Rd a d l) (Dv n a d0 l0) ok.2 (firm n a ok.0 ok.1 d0 l0) (λ c0 e0 u x c rest p le st. complete_part n a ok.0 d0 l0 c0 e0 u x d l c rest p fd fl le st)
          h.last rest (length (v ++ (w ++ rest))) xs c0 m0 v w c (omega arith) each h.begins (λ m fm. h.halts d l m rest fd fl fm) fc);
    }

    -- a second part that comes where the value of the first passes a test
    in_then : {A C : Type 0} (a : Part K V S Sort A) (goes : A → Bool) (b : Part K V S Sort C) → Ok (g.then_if a goes b) → (d l : ℕ) (t : Token K V) (rest : List (Token K V)) (o : Out (Token K V) A) → Halts (cnt a) t rest o
        → Halts {A = A × Option C} (cnt (g.then_if a goes b)) t rest (o >>= (λ x m r. if_goes (goes x && at_first (fst b) r) x m r (Rd b d l m r)))
    in_then {A} {C} a goes b ok d l t rest (got x c r) (er, is) =
        subst (λ r. Halts {A = A × Option C} (cnt (g.then_if a goes b)) t rest (if_goes (goes x && at_first (fst b) r) x c r (Rd b d l c r))) (sym er)
        (subst (λ z. Halts {A = A × Option C} (cnt (g.then_if a goes b)) t rest (if_goes z x c (t ∷ rest) (Rd b d l c (t ∷ rest)))) (sym (and_second (goes x) (fst b t.sight) (not_true (fst b t.sight) (ok.2 t.sight is))))
        (refl, or_left (cnt a t.sight) (fst b t.sight || cnt b t.sight) is))
    in_then a goes b ok d l t rest (rejected reason r) p = p
    in_then a goes b ok d l t rest out_of_fuel p = p

    pub halting_then : {A C : Type 0} (a : Part K V S Sort A) (goes : A → Bool) (b : Part K V S Sort C) → Ok (g.then_if a goes b) → (d0 l0 c0 : ℕ) (u : List (Token K V)) → Halting a d0 l0 c0 u → Halting (g.then_if a goes b) d0 l0 c0 u
    halting_then a goes b ok d0 l0 c0 u h = record {
      prefix = h.prefix;
      last = h.last;
      shape = h.shape;
      passes = h.passes;
      begins = h.begins;
      halts = λ d l c rest fd fl fc. in_then a goes b ok d l h.last rest (Rd a d l c (u ++ rest)) (h.halts d l c rest fd fl fc);
    }

    pub halting_goes : (n : ℕ) {A C : Type 0} (a : Part K V S Sort A) (goes : A → Bool) (b : Part K V S Sort C) → Ok (g.then_if a goes b) → (d0 l0 c0 m0 : ℕ) (v w : List (Token K V)) (x : A) → Dv n a d0 l0 c0 m0 v x → goes x ≡ true
        → Halting b d0 l0 m0 w → Halting (g.then_if a goes b) d0 l0 c0 (v ++ w)
    halting_goes n {A} {C} a goes b ok d0 l0 c0 m0 v w x p is h = record {
      prefix = v ++ h.prefix;
      last = h.last;
      shape = longer_shape v w h.prefix h.last h.shape;
      passes = h.passes;
      begins = starts_prefix false (fst a) v w (firm n a ok.0 ok.3 d0 l0 c0 m0 v x p);
      halts = λ d l c rest fd fl fc.
          regrouped (λ i. Halts {A = A × Option C} (cnt (g.then_if a goes b)) h.last rest (Rd (g.then_if a goes b) d l c i)) (v ++ w) v w rest refl
          (halts_behind (cnt (g.then_if a goes b)) h.last rest (w ++ rest) (Rd a d l c (v ++ (w ++ rest))) x m0 (λ x m r. if_goes (goes x && at_first (fst b) r) x m r (Rd b d l m r))
          (complete_part n a ok.0 d0 l0 c0 m0 v x d l c (w ++ rest) p fd fl fc (stops (cnt a) (fst b) false ok.2 w rest h.begins (λ n. cc)))
          (λ m fm. subst (λ z. Halts {A = A × Option C} (cnt (g.then_if a goes b)) h.last rest (if_goes z x m (w ++ rest) (Rd b d l m (w ++ rest)))) (sym (and_both (goes x) (at_first (fst b) (w ++ rest)) is (at_first_app (fst b) w rest h.begins)))
          (halts_map (cnt b) (cnt (g.then_if a goes b)) h.last rest (Rd b d l m (w ++ rest)) (λ y. (x, Some y)) (λ e. e)
          (λ e. or_right (cnt a h.last.sight) (fst b h.last.sight || cnt b h.last.sight) (or_right (fst b h.last.sight) (cnt b h.last.sight) e)) (h.halts d l m rest fd fl fm))));
    }

    pub halting_when : (q : K → Bool) {A : Type 0} (a : Part K V S Sort A) (d0 l0 c0 : ℕ) (u : List (Token K V)) → FirstPasses q u → Halting a d0 l0 c0 u → Halting (g.when q a) d0 l0 c0 u
    halting_when q a d0 l0 c0 u hd h = record {
      prefix = h.prefix;
      last = h.last;
      shape = h.shape;
      passes = h.passes;
      begins = starts_when q (fst a) u hd h.begins;
      halts = λ d l c rest fd fl fc. on_true (λ o. Halts (cnt a) h.last rest o) (at_first q (u ++ rest)) (Rd a d l c (u ++ rest)) (rejected unexpected (u ++ rest)) (head_first q (fst a) u rest hd h.begins) (h.halts d l c rest fd fl fc);
    }

    pub halting_nest : {A : Type 0} (a : Part K V S Sort A) (d0 l0 c0 : ℕ) (u : List (Token K V)) → Halting a d0 l0 c0 u → Halting (g.nest a) (suc d0) l0 c0 u
    halting_nest {A} a d0 l0 c0 u h = record { prefix = h.prefix; last = h.last; shape = h.shape; passes = h.passes; begins = h.begins; halts = inside }
      where
        inside : (d l c : ℕ) (rest : List (Token K V)) → suc d0 ≤ d → l0 ≤ l → c0 ≤ c → Halts (cnt (g.nest a)) h.last rest (Rd (g.nest a) d l c (u ++ rest))
        inside zero l c rest fd fl fc = absurd (omega (arith, fd))
        inside (suc d) l c rest fd fl fc = h.halts d l c rest (omega (arith, fd)) fl fc

    pub halting_counts : {A : Type 0} (a : Part K V S Sort A) (d0 l0 c0 : ℕ) (u : List (Token K V)) → Halting a d0 l0 c0 u → Halting (g.counts a) d0 l0 (suc c0) u
    halting_counts {A} a d0 l0 c0 u h = record { prefix = h.prefix; last = h.last; shape = h.shape; passes = h.passes; begins = h.begins; halts = inside }
      where
        inside : (d l c : ℕ) (rest : List (Token K V)) → d0 ≤ d → l0 ≤ l → suc c0 ≤ c → Halts (cnt (g.counts a)) h.last rest (Rd (g.counts a) d l c (u ++ rest))
        inside d l zero rest fd fl fc = absurd (omega (arith, fc))
        inside d l (suc c) rest fd fl fc = h.halts d l c rest fd fl (omega (arith, fc))

    pub halting_limited : {A : Type 0} (a : Part K V S Sort A) (d0 l0 c0 : ℕ) (u : List (Token K V)) → Halting a d0 l0 l0 u → Halting (g.limited a) d0 l0 c0 u
    halting_limited a d0 l0 c0 u h = record {
      prefix = h.prefix;
      last = h.last;
      shape = h.shape;
      passes = h.passes;
      begins = h.begins;
      halts = λ d l c rest fd fl fc. halts_map (cnt a) (cnt a) h.last rest (Rd a d l l (u ++ rest)) (λ x. x) (λ _. c) (λ e. e) (h.halts d l l rest fd fl fl);
    }

    pub halting_gives : {A C : Type 0} (q : A → C) (a : Part K V S Sort A) (d0 l0 c0 : ℕ) (u : List (Token K V)) → Halting a d0 l0 c0 u → Halting (g.gives q a) d0 l0 c0 u
    halting_gives q a d0 l0 c0 u h = record {
      prefix = h.prefix;
      last = h.last;
      shape = h.shape;
      passes = h.passes;
      begins = h.begins;
      halts = λ d l c rest fd fl fc. halts_map (cnt a) (cnt a) h.last rest (Rd a d l c (u ++ rest)) q (λ e. e) (λ e. e) (h.halts d l c rest fd fl fc);
    }

    -- what a production says of its nonterminal
    pub halting_symbol : (s : S) (d0 l0 c0 : ℕ) (u : List (Token K V)) → Halting (production s) d0 l0 c0 u → Halting (g.nonterminal s) d0 l0 c0 u
    halting_symbol s d0 l0 c0 u h = record {
      prefix = h.prefix;
      last = h.last;
      shape = h.shape;
      passes = h.passes;
      begins = starts_weak false false (fst (production s)) (first_table s) (λ e. e) (fine.table s).head u h.begins;
      halts = λ d l c rest fd fl fc. subst (Halts (follow_last_table s) h.last rest) (sym (step s d l c (u ++ rest)))
          (halts_weak (cnt (production s)) (follow_last_table s) h.last rest (Rd (production s) d l c (u ++ rest)) ((fine.table s).tail h.last.sight) (h.halts d l c rest fd fl fc));
    }

    -- ---- where tokens arrive

    abbrev Asks : Type 1
    Asks = arriving.Asked K V S Sort production

    module _ (n : ℕ) (Q : Asks) (at : (s : S) (d l c : ℕ) (u : List (Token K V)) → Q s d l c u → Halting (g.nonterminal s) d l c u) where
      halting_by : {A : Type 0} (a : Part K V S Sort A) → Ok a → (d l c : ℕ) (u : List (Token K V)) → arriving.Arrives_by K V S Sort production (Dn n) Q a d l c u → Halting a d l c u
      halting_by (g.terminal q) ok d l c u p = elim p [ ]
      halting_by (g.nonterminal s) ok d l c u p = at s d l c u p
      halting_by (g.both a b) ok d l c u (inl p) = halting_first a b ok d l c u (halting_by a ok.0 d l c u p)
      halting_by (g.both a b) ok d l c u (inr (v, w, x, e, eu, p, q)) = subst (Halting (g.both a b) d l c) (sym eu) (halting_second n a b ok d l c e v w x p (halting_by b ok.1 d l e w q))
      halting_by (g.either a b) ok d l c u (inl p) = halting_left a b ok d l c u (halting_by a ok.0 d l c u p)
      halting_by (g.either a b) ok d l c u (inr p) = halting_right a b ok d l c u (halting_by b ok.1 d l c u p)
      halting_by (g.maybe a) ok d l c u p = halting_maybe a d l c u (halting_by a ok.0 d l c u p)
      halting_by (g.many a) ok d l c u (v, w, xs, e, eu, each, q) = subst (Halting (g.many a) d l c) (sym eu) (halting_many n a ok d l c e v w xs each (halting_by a ok.0 d l e w q))
      halting_by (g.then_if a goes b) ok d l c u (inl p) = halting_then a goes b ok d l c u (halting_by a ok.0 d l c u p)
      halting_by (g.then_if a goes b) ok d l c u (inr (v, w, x, e, eu, p, is, q)) = subst (Halting (g.then_if a goes b) d l c) (sym eu) (halting_goes n a goes b ok d l c e v w x p is (halting_by b ok.1 d l e w q))
      halting_by (g.when h a) ok d l c u (hd, p) = halting_when h a d l c u hd (halting_by a ok.0 d l c u p)
      halting_by (g.nest a) ok zero l c u p = elim p [ ]
      halting_by (g.nest a) ok (suc d) l c u p = halting_nest a d l c u (halting_by a ok.0 d l c u p)
      halting_by (g.counts a) ok d l zero u p = elim p [ ]
      halting_by (g.counts a) ok d l (suc c) u p = halting_counts a d l c u (halting_by a ok.0 d l c u p)
      halting_by (g.limited a) ok d l c u p = halting_limited a d l c u (halting_by a ok d l l u p)
      halting_by (g.gives q a) ok d l c u p = halting_gives q a d l c u (halting_by a ok d l c u p)

    module _ (At : arriving.Deriving K V S Sort production → Asks) (at : (n : ℕ) (s : S) (d l c : ℕ) (u : List (Token K V)) → At (Dn n) s d l c u → Halting (production s) d l c u) where
      halting_n : (n : ℕ) (s : S) (d l c : ℕ) (u : List (Token K V)) → arriving.Arrives K V S Sort production At n s d l c u → Halting (g.nonterminal s) d l c u
      halting_n zero s d l c u p = elim p [ ]
      halting_n (suc n) s d l c u (inl p) = halting_symbol s d l c u (at n s d l c u p)
      halting_n (suc n) s d l c u (inr p) = halting_symbol s d l c u (halting_by n (arriving.Arrives K V S Sort production At n) (halting_n n) (production s) (fine.table s).decided d l c u p)

      -- The last of the tokens passes the test, and the others go on with it in no budget.
      pub arrived_ends : (s : S) (budget : Budget) (u : List (Token K V)) → arriving.Arrived K V S Sort production At s budget u
          → (v : List (Token K V)) × (t : Token K V) × (u ≡ v ++ t ∷ []) × (f t.sight ≡ true) × EndsAt K V S Sort production s v (t ∷ [])
      arrived_ends s budget u (n, p) = (h.prefix, h.last, h.shape, h.passes, never)
        where
          h : Halting (g.nonterminal s) budget.brackets budget.limit budget.left u
          h = halting_n n s budget.brackets budget.limit budget.left u p

          never : (other : Budget) → IsViablePrefix K V S Sort production s other (h.prefix ++ h.last ∷ []) → ⊥
          never other b = go (reads_in K V S Sort production first_table nullable_table follow_last_table rank width fine s larger (u ++ [])) refl (h.halts larger.brackets larger.limit larger.left [] (omega arith) (omega arith) (omega arith))
            where
              larger : Budget
              larger = record { brackets = budget.brackets + other.brackets; left = budget.left + other.left; limit = budget.limit + other.limit }

              refused : (y : Token K V) (r : List (Token K V)) → left_of (reads_in K V S Sort production first_table nullable_table follow_last_table rank width fine s larger (u ++ [])) ≡ y ∷ r → ⊥
              refused y r e = not_viable_where_left K V S Sort production first_table nullable_table follow_last_table rank width fine s larger (u ++ []) y r e
                  (subst (IsViablePrefix K V S Sort production s larger) (sym h.shape ∙ sym (append-nil u)) (viable_larger K V S Sort production s other larger (h.prefix ++ h.last ∷ []) (omega arith, omega arith, omega arith) b))

              ahead : (v : List (Token K V)) → left_of (reads_in K V S Sort production first_table nullable_table follow_last_table rank width fine s larger (u ++ [])) ≡ v ++ h.last ∷ [] → ⊥
              ahead [] e = refused h.last [] e
              ahead (y ∷ v) e = refused y (v ++ h.last ∷ []) e

              go : (o : Out (Token K V) (Sort s)) → reads_in K V S Sort production first_table nullable_table follow_last_table rank width fine s larger (u ++ []) ≡ o → Halts (follow_last_table s) h.last [] o → ⊥
              go (got x c r) e (er, is) = ahead [] (ap left_of e ∙ er)
              go (rejected reason r) e (v, er) = ahead v (ap left_of e ∙ er)
              go out_of_fuel e p = p
