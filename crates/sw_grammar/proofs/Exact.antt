-- The reader reads each sentence of the grammar, and refuses no token up to which the tokens begin one, where one token ahead decides.
use Rattle.std.proofs.Common.{◌≡◌, ℕ, zero, suc, ◌≤◌, Bool, true, false, cond, ◌||◌, ◌&&◌, ◌⊎◌, inl, inr, List, [], ◌∷◌, ◌++◌, length, Option, Some, None, refl, sym, ap, ◌∙◌, subst, append_assoc, arith, length-append}
use Rattle.sw_grammar.specs.Grammar as g
use Rattle.sw_grammar.specs.Grammar.{Token, Part, Counted, Each, Then, FirstPasses, Derives_by, ViablePrefix_by}
use Rattle.sw_grammar.specs.Reading.{over_budget, unexpected, Out, got, rejected, out_of_fuel, ◌>>=◌, at_first, or_if, if_goes, one, turns, nullable, first, read_by}
use Rattle.sw_grammar.specs.Deciding.{Apart, follow_last, Decided}
use Rattle.sw_grammar.proofs.Starts.{or_false, and_both, not_true, Starts, starts_append, starts_each, starts_D, starts_B, solid, sentence_viable}

-- ---- budgets

-- Two budgets are compared, or they are not: a number of the one is at most that of the other.
abbrev pub Fits : Bool → ℕ → ℕ → Type 0
Fits true m n = m ≤ n
Fits false m n = Unit {0}

-- budget may be lacking: only where they are not compared
abbrev pub MayLack : Bool → Type 0
MayLack true = ⊥
MayLack false = Unit {0}

pub fits_less : (b : Bool) (m n : ℕ) → Fits b (suc m) (suc n) → Fits b m n
fits_less true m n h = omega (arith, h)
fits_less false m n h = tt

pub fits_none : (b : Bool) (m : ℕ) → Fits b (suc m) zero → MayLack b
fits_none true m h = omega (arith, h)
fits_none false m h = tt

pub fits_same : (b : Bool) (m : ℕ) → Fits b m m
fits_same true m = omega arith
fits_same false m = tt

-- ---- tests of the next token

and_second : (a b : Bool) → b ≡ false → (a && b) ≡ false
and_second true b e = e
and_second false b e = refl

-- a choice
pub on_true : {A : Type 0} (P : A → Type 0) (z : Bool) (x y : A) → z ≡ true → P x → P (cond z x y)
on_true P z x y h p = subst (λ z. P (cond z x y)) (sym h) p

pub on_false : {A : Type 0} (P : A → Type 0) (z : Bool) (x y : A) → z ≡ false → P y → P (cond z x y)
on_false P z x y h p = subst (λ z. P (cond z x y)) (sym h) p

regroup : {T : Type 0} (u v w rest : List T) → u ≡ v ++ w → u ++ rest ≡ v ++ (w ++ rest)
regroup u v w rest e = ap (λ l. l ++ rest) e ∙ append_assoc v w rest

pub regrouped : {T : Type 0} (P : List T → Type 0) (u v w rest : List T) → u ≡ v ++ w → P (v ++ (w ++ rest)) → P (u ++ rest)
regrouped P u v w rest e p = subst P (sym (regroup u v w rest e)) p

head_first : {K V : Type 0} (f h : K → Bool) (u rest : List (Token K V)) → FirstPasses f u → Starts false h u → at_first f (u ++ rest) ≡ true
head_first f h [] rest hd s = cc
head_first f h (t ∷ u) rest hd s = hd

-- a nonempty run begins with its first token, whatever follows
pub at_first_app : {K V : Type 0} (f : K → Bool) (u rest : List (Token K V)) → Starts false f u → at_first f (u ++ rest) ≡ true
at_first_app f [] rest h = cc
at_first_app f (t ∷ u) rest h = h

-- what the next part begins with does not go on with this one
pub stops : {K V : Type 0} (f h : K → Bool) (nl : Bool) → Apart f h → (w rest : List (Token K V)) → Starts nl h w → (nl ≡ true → at_first f rest ≡ false) → at_first f (w ++ rest) ≡ false
stops f h nl apart [] rest s e = e s
stops f h nl apart (t ∷ w) rest s e = not_true (f t.sight) (λ k. apart t.sight k s)

pub at_first_or : {K V : Type 0} (f h : K → Bool) (rest : List (Token K V)) → at_first (λ t. f t || h t) rest ≡ false → (at_first f rest ≡ false) × (at_first h rest ≡ false)
at_first_or f h [] e = (refl, refl)
at_first_or f h (t ∷ rest) e = or_false (f t.sight) (h t.sight) e

-- an empty first run hands its first test on
at_first_or_if : {K V : Type 0} (b : Bool) (f h : K → Bool) (rest : List (Token K V)) → at_first (λ t. or_if b (f t) (h t)) rest ≡ false → (at_first f rest ≡ false) × (b ≡ true → at_first h rest ≡ false)
at_first_or_if b f h [] e = (refl, λ _. refl)
at_first_or_if true f h (t ∷ rest) e = let p = or_false (f t.sight) (h t.sight) e in (p.0, λ _. p.1)
at_first_or_if false f h (t ∷ rest) e = (e, λ p. cc)

shorter : {K V : Type 0} (f : K → Bool) (v w rest : List (Token K V)) (k : ℕ) → Starts false f v → length (v ++ (w ++ rest)) ≤ suc k → length (w ++ rest) ≤ k
shorter f [] w rest k s h = cc
shorter f (t ∷ v) w rest k s h = omega (arith, h, length-append v (w ++ rest))

longer : {K V : Type 0} (f : K → Bool) (v m : List (Token K V)) → Starts false f v → length (v ++ m) ≤ 0 → ⊥
longer f [] m s h = cc
longer f (t ∷ v) m s h = omega (arith, h)

-- ---- the value is read

-- the value and what is left, or the budget was exceeded
abbrev pub Reads : {T A : Type 0} → Bool → A → ℕ → List T → Out T A → Type 0
Reads b x e0 rest (got y e r) = (y ≡ x) × (r ≡ rest) × Fits b e0 e
Reads b x e0 rest (rejected over_budget r) = MayLack b
Reads b x e0 rest (rejected unexpected r) = ⊥
Reads b x e0 rest out_of_fuel = ⊥

pub reads_then : {T A C : Type 0} (b : Bool) (o : Out T A) (x : A) (m0 : ℕ) (mid : List T) (k : A → ℕ → List T → Out T C) (z : C) (e0 : ℕ) (rest : List T)
    → Reads b x m0 mid o → ((m : ℕ) → Fits b m0 m → Reads b z e0 rest (k x m mid)) → Reads b z e0 rest (o >>= k)
reads_then b (got y e r) x m0 mid k z e0 rest (ey, er, fe) h = subst (λ y. Reads b z e0 rest (k y e r)) (sym ey) (subst (λ r. Reads b z e0 rest (k x e r)) (sym er) (h e fe))
reads_then b (rejected over_budget r) x m0 mid k z e0 rest p h = p
reads_then b (rejected unexpected r) x m0 mid k z e0 rest p h = elim p [ ]
reads_then b out_of_fuel x m0 mid k z e0 rest p h = elim p [ ]

-- one part, and a second where it comes
complete_then : {K V A C : Type 0} (b : Bool) (ca fb cb : K → Bool) (p : ℕ → List (Token K V) → Out (Token K V) A) (q : ℕ → List (Token K V) → Out (Token K V) C) (D : Counted (Token K V) A) (E : Counted (Token K V) C) (goes : A → Bool) → Apart ca fb
    → ((c0 e0 : ℕ) (u : List (Token K V)) (x : A) (c : ℕ) (rest : List (Token K V)) → D c0 e0 u x → Fits b c0 c → at_first ca rest ≡ false → Reads b x e0 rest (p c (u ++ rest)))
    → ((c0 e0 : ℕ) (u : List (Token K V)) (y : C) (c : ℕ) (rest : List (Token K V)) → E c0 e0 u y → Fits b c0 c → at_first cb rest ≡ false → Reads b y e0 rest (q c (u ++ rest)))
    → ((c0 e0 : ℕ) (u : List (Token K V)) (y : C) → E c0 e0 u y → Starts false fb u)
    → (c0 e0 : ℕ) (u : List (Token K V)) (x : A) (y : Option C) (c : ℕ) (rest : List (Token K V)) → Then D E goes c0 e0 u x y → Fits b c0 c → at_first (λ t. ca t || (fb t || cb t)) rest ≡ false
    → Reads b (x, y) e0 rest (p c (u ++ rest) >>= (λ x m rest. if_goes (goes x && at_first fb rest) x m rest (q m rest)))
complete_then {K} {V} {A} {C} b ca fb cb p q D E goes apart hp hq hs c0 e0 u x None c rest d fc st =
    let s = at_first_or ca (λ t. fb t || cb t) rest st in
    let go : A → ℕ → List (Token K V) → Out (Token K V) (A × Option C) = λ x m rest. if_goes (goes x && at_first fb rest) x m rest (q m rest) in
    reads_then b (p c (u ++ rest)) x e0 rest go (x, None) e0 rest (hp c0 e0 u x c rest d fc s.0)
    (λ m fm. subst (λ z. Reads b (x, None) e0 rest (if_goes z x m rest (q m rest))) (sym (and_second (goes x) (at_first fb rest) (at_first_or fb cb rest s.1).0)) (refl, refl, fm))
complete_then {K} {V} {A} {C} b ca fb cb p q D E goes apart hp hq hs c0 e0 u x (Some y) c rest (v, w, m0, eu, d, is, d') fc st =
    let s = at_first_or ca (λ t. fb t || cb t) rest st in
    let go : A → ℕ → List (Token K V) → Out (Token K V) (A × Option C) = λ x m rest. if_goes (goes x && at_first fb rest) x m rest (q m rest) in
    let start = hs m0 e0 w y d' in
    regrouped (λ l. Reads b (x, Some y) e0 rest (p c l >>= go)) u v w rest eu
    (reads_then b (p c (v ++ (w ++ rest))) x m0 (w ++ rest) go (x, Some y) e0 rest (hp c0 m0 v x c (w ++ rest) d fc (stops ca fb false apart w rest start (λ n. cc)))
    (λ m fm. subst (λ z. Reads b (x, Some y) e0 rest (if_goes z x m (w ++ rest) (q m (w ++ rest)))) (sym (and_both (goes x) (at_first fb (w ++ rest)) is (at_first_app fb w rest start)))
    (reads_then b (q m (w ++ rest)) y e0 rest (λ y e r. got (x, Some y) e r) (x, Some y) e0 rest (hq m0 e0 w y m rest d' fm (at_first_or fb cb rest s.1).1) (λ e fe. (refl, refl, fe)))))

complete_turns : {K V A : Type 0} (b : Bool) (f ca : K → Bool) (p : ℕ → List (Token K V) → Out (Token K V) A) (D : Counted (Token K V) A) → Apart ca f
    → ((c0 e0 : ℕ) (u : List (Token K V)) (x : A) → D c0 e0 u x → Starts false f u)
    → ((c0 e0 : ℕ) (u : List (Token K V)) (x : A) (c : ℕ) (rest : List (Token K V)) → D c0 e0 u x → Fits b c0 c → at_first ca rest ≡ false → Reads b x e0 rest (p c (u ++ rest)))
    → (k : ℕ) (xs : List A) (c0 e0 : ℕ) (u : List (Token K V)) (c : ℕ) (rest : List (Token K V)) → length (u ++ rest) ≤ k → Each D c0 e0 u xs → Fits b c0 c → at_first f rest ≡ false → at_first ca rest ≡ false
    → Reads b xs e0 rest (turns f p k c (u ++ rest))
complete_turns b f ca p D apart hs hp zero [] c0 e0 u c rest l (eu, ec) fc sf sc = (refl, ap (λ l. l ++ rest) eu, subst (λ e. Fits b e c) (sym ec) fc)
complete_turns b f ca p D apart hs hp (suc k) [] c0 e0 u c rest l (eu, ec) fc sf sc =
    subst (λ u. Reads b [] e0 rest (turns f p (suc k) c (u ++ rest))) (sym eu) (on_false (λ o. Reads b [] e0 rest o) (at_first f rest) _ _ sf (refl, refl, subst (λ e. Fits b e c) (sym ec) fc))
complete_turns b f ca p D apart hs hp zero (x ∷ xs) c0 e0 u c rest l (v, w, m0, eu, d, each) fc sf sc =
    absurd (longer f v (w ++ rest) (hs c0 m0 v x d) (subst (λ l. length l ≤ 0) (regroup u v w rest eu) l))
complete_turns {K} {V} {A} b f ca p D apart hs hp (suc k) (x ∷ xs) c0 e0 u c rest l (v, w, m0, eu, d, each) fc sf sc =
    let start = hs c0 m0 v x d in
    let tail : at_first ca (w ++ rest) ≡ false = stops ca f true apart w rest (starts_each false f D hs xs m0 e0 w each) (λ _. sc) in
    let l' = shorter f v w rest k start (subst (λ l. length l ≤ suc k) (regroup u v w rest eu) l) in
    let more : A → ℕ → List (Token K V) → Out (Token K V) (List A) = λ x m rest. turns f p k m rest >>= (λ xs e r. got (x ∷ xs) e r) in
    regrouped (λ l. Reads b (x ∷ xs) e0 rest (turns f p (suc k) c l)) u v w rest eu
    (on_true (λ o. Reads b (x ∷ xs) e0 rest o) (at_first f (v ++ (w ++ rest))) _ _ (at_first_app f v (w ++ rest) start)
    (reads_then b (p c (v ++ (w ++ rest))) x m0 (w ++ rest) more (x ∷ xs) e0 rest (hp c0 m0 v x c (w ++ rest) d fc tail)
    (λ m fm. reads_then b (turns f p k m (w ++ rest)) xs e0 rest (λ xs e r. got (x ∷ xs) e r) (x ∷ xs) e0 rest
    (complete_turns b f ca p D apart hs hp k xs m0 e0 w m rest l' each fm sf sc) (λ e fe. (refl, refl, fe)))))

-- ---- what is left lies in the given tokens

abbrev pub Lies : {T A : Type 0} → List T → Out T A → Type 0
Lies rest (got x c r) = (v : _) × (rest ≡ v ++ r)
Lies rest (rejected reason r) = (v : _) × (rest ≡ v ++ r)
Lies rest out_of_fuel = Unit {0}

-- or the budget was exceeded
abbrev pub Within : {T A : Type 0} → Bool → List T → Out T A → Type 0
Within b rest (got x c r) = (v : _) × (rest ≡ v ++ r)
Within b rest (rejected over_budget r) = MayLack b ⊎ ((v : _) × (rest ≡ v ++ r))
Within b rest (rejected unexpected r) = (v : _) × (rest ≡ v ++ r)
Within b rest out_of_fuel = Unit {0}

pub within_lies : {T A : Type 0} (b : Bool) (rest : List T) (o : Out T A) → Lies rest o → Within b rest o
within_lies b rest (got x c r) h = h
within_lies b rest (rejected over_budget r) h = inr h
within_lies b rest (rejected unexpected r) h = h
within_lies b rest out_of_fuel h = tt

further : {T : Type 0} (rest v r w q : List T) → rest ≡ v ++ r → r ≡ w ++ q → rest ≡ (v ++ w) ++ q
further rest v r w q e e' = e ∙ ap (λ l. v ++ l) e' ∙ sym (append_assoc v w q)

lies_more : {T A : Type 0} (rest r v : List T) → rest ≡ v ++ r → (o : Out T A) → Lies r o → Lies rest o
lies_more rest r v e (got x c q) (w, e') = (v ++ w, further rest v r w q e e')
lies_more rest r v e (rejected reason q) (w, e') = (v ++ w, further rest v r w q e e')
lies_more rest r v e out_of_fuel h = tt

pub lies_then : {T A C : Type 0} (rest : List T) (o : Out T A) (k : A → ℕ → List T → Out T C) → Lies rest o → ((x : A) (c : ℕ) (r : List T) → Lies r (k x c r)) → Lies rest (o >>= k)
lies_then rest (got x c r) k (v, e) h = lies_more rest r v e (k x c r) (h x c r)
lies_then rest (rejected reason r) k h h' = h
lies_then rest out_of_fuel k h h' = tt

lies_here : {T A : Type 0} (x : A) (c : ℕ) (r : List T) → Lies r (got x c r)
lies_here x c r = ([], refl)

lies_cond : {T A : Type 0} (z : Bool) (rest : List T) (o o' : Out T A) → Lies rest o → Lies rest o' → Lies rest (cond z o o')
lies_cond true rest o o' h k = h
lies_cond false rest o o' h k = k

lies_goes : {T A C : Type 0} (z : Bool) (x : A) (c : ℕ) (r : List T) (o : Out T C) → Lies r o → Lies {A = A × Option C} r (if_goes z x c r o)
lies_goes true x c r o h = lies_then r o _ h (λ y c r. ([], refl))
lies_goes false x c r o h = ([], refl)

pub lies_turns : {K V A : Type 0} (f : K → Bool) (p : ℕ → List (Token K V) → Out (Token K V) A) → ((c : ℕ) (ts : List (Token K V)) → Lies ts (p c ts)) → (k c : ℕ) (ts : List (Token K V)) → Lies ts (turns f p k c ts)
lies_turns f p h zero c ts = ([], refl)
lies_turns f p h (suc k) c ts = lies_cond (at_first f ts) ts _ _
    (lies_then ts (p c ts) _ (h c ts) (λ x m r. lies_then r (turns f p k m r) _ (lies_turns f p h k m r) (λ xs e r. ([], refl)))) ([], refl)

lies_one : {K V : Type 0} (f : K → Bool) (c : ℕ) (ts : List (Token K V)) → Lies ts (one f c ts)
lies_one f c [] = ([], refl)
lies_one f c (t ∷ ts) = lies_cond (f t.sight) (t ∷ ts) (got t.face c ts) (rejected unexpected (t ∷ ts)) (t ∷ [], refl) ([], refl)

within_more : {T A : Type 0} (b : Bool) (rest r v : List T) → rest ≡ v ++ r → (o : Out T A) → Within b r o → Within b rest o
within_more b rest r v e (got x c q) (w, e') = (v ++ w, further rest v r w q e e')
within_more b rest r v e (rejected over_budget q) (inl h) = inl h
within_more b rest r v e (rejected over_budget q) (inr (w, e')) = inr (v ++ w, further rest v r w q e e')
within_more b rest r v e (rejected unexpected q) (w, e') = (v ++ w, further rest v r w q e e')
within_more b rest r v e out_of_fuel h = tt

pub within_then : {T A C : Type 0} (b : Bool) (rest : List T) (o : Out T A) (k : A → ℕ → List T → Out T C) → Within b rest o → ((x : A) (c : ℕ) (r : List T) → Lies r (k x c r)) → Within b rest (o >>= k)
within_then b rest (got x c r) k (v, e) h = within_more b rest r v e (k x c r) (within_lies b r (k x c r) (h x c r))
within_then b rest (rejected over_budget r) k h h' = h
within_then b rest (rejected unexpected r) k h h' = h
within_then b rest out_of_fuel k h h' = tt

-- after a sentence that is read
within_after : {T A C : Type 0} (b : Bool) (rest mid : List T) (o : Out T A) (x : A) (m0 : ℕ) (k : A → ℕ → List T → Out T C)
    → Reads b x m0 mid o → ((m : ℕ) → Fits b m0 m → Within b rest (k x m mid)) → Within b rest (o >>= k)
within_after b rest mid (got y e r) x m0 k (ey, er, fe) h = subst (λ y. Within b rest (k y e r)) (sym ey) (subst (λ r. Within b rest (k x e r)) (sym er) (h e fe))
within_after b rest mid (rejected over_budget r) x m0 k p h = inl p
within_after b rest mid (rejected unexpected r) x m0 k p h = elim p [ ]
within_after b rest mid out_of_fuel x m0 k p h = elim p [ ]

-- a sentence, and the beginning of one after it
within_second : {K V A C : Type 0} (b : Bool) (ca fb : K → Bool) (p : List (Token K V) → Out (Token K V) A) (k : A → ℕ → List (Token K V) → Out (Token K V) C) → Apart ca fb → (v w rest : List (Token K V)) (x : A) (m0 : ℕ)
    → Within b rest (p (v ++ rest)) → (at_first ca (w ++ rest) ≡ false → Reads b x m0 (w ++ rest) (p (v ++ (w ++ rest)))) → Starts true fb w
    → ((x : A) (c : ℕ) (r : List (Token K V)) → Lies r (k x c r)) → (Starts false fb w → (m : ℕ) → Fits b m0 m → Within b rest (k x m (w ++ rest)))
    → Within b rest (p (v ++ (w ++ rest)) >>= k)
within_second b ca fb p k apart v [] rest x m0 hv hp s any h = within_then b rest (p (v ++ rest)) k hv any
within_second b ca fb p k apart v (t ∷ w) rest x m0 hv hp s any h =
    within_after b rest ((t ∷ w) ++ rest) (p (v ++ ((t ∷ w) ++ rest))) x m0 k (hp (not_true (ca t.sight) (λ e. apart t.sight e s))) (h s)

within_turns : {K V A : Type 0} (b : Bool) (f ca : K → Bool) (p : ℕ → List (Token K V) → Out (Token K V) A) (D : Counted (Token K V) A) (B : ℕ → List (Token K V) → Type 0) → Apart ca f
    → ((c0 e0 : ℕ) (u : List (Token K V)) (x : A) → D c0 e0 u x → Starts false f u) → ((c0 : ℕ) (u : List (Token K V)) → B c0 u → Starts true f u)
    → ((c0 e0 : ℕ) (u : List (Token K V)) (x : A) → D c0 e0 u x → B c0 u)
    → ((c0 e0 : ℕ) (u : List (Token K V)) (x : A) (c : ℕ) (rest : List (Token K V)) → D c0 e0 u x → Fits b c0 c → at_first ca rest ≡ false → Reads b x e0 rest (p c (u ++ rest)))
    → ((c0 : ℕ) (u : List (Token K V)) (c : ℕ) (rest : List (Token K V)) → B c0 u → Fits b c0 c → Within b rest (p c (u ++ rest)))
    → ((c : ℕ) (ts : List (Token K V)) → Lies ts (p c ts))
    → (k : ℕ) (xs : List A) (c0 m0 : ℕ) (v w : List (Token K V)) (c : ℕ) (rest : List (Token K V)) → length (v ++ (w ++ rest)) ≤ k → Each D c0 m0 v xs → B m0 w → Fits b c0 c → Within b rest (turns f p k c (v ++ (w ++ rest)))
within_turns {K} {V} {A} b f ca p D B apart hd hb db hp hw any k [] c0 m0 v w c rest l (ev, ec) q fc =
    subst (λ v. Within b rest (turns f p k c (v ++ (w ++ rest)))) (sym ev) (go k w (subst (λ v. length (v ++ (w ++ rest)) ≤ k) ev l) q)
  where
    go : (k : ℕ) (w : List (Token K V)) → length (w ++ rest) ≤ k → B m0 w → Within b rest (turns f p k c (w ++ rest))
    go k [] l q = within_lies b rest (turns f p k c rest) (lies_turns f p any k c rest)
    go zero (t ∷ w) l q = absurd (omega (arith, l))
    go (suc k) (t ∷ w) l q =
        on_true (λ o. Within b rest o) (f t.sight) _ (got [] c ((t ∷ w) ++ rest)) (hb m0 (t ∷ w) q)
        (within_then b rest (p c ((t ∷ w) ++ rest)) _ (hw m0 (t ∷ w) c rest q (subst (λ m. Fits b m c) (sym ec) fc))
        (λ x m r. lies_then r (turns f p k m r) _ (lies_turns f p any k m r) (λ xs e r. ([], refl))))
within_turns b f ca p D B apart hd hb db hp hw any zero (x ∷ xs) c0 m0 v w c rest l (v1, v2, m1, ev, d, each) q fc =
    absurd (longer f v1 (v2 ++ (w ++ rest)) (hd c0 m1 v1 x d) (subst (λ l. length l ≤ 0) (regroup v v1 v2 (w ++ rest) ev) l))
within_turns {K} {V} {A} b f ca p D B apart hd hb db hp hw any (suc k) (x ∷ xs) c0 m0 v w c rest l (v1, v2, m1, ev, d, each) q fc =
    let shape = regroup v v1 v2 (w ++ rest) ev in
    let start = hd c0 m1 v1 x d in
    let rest_of = append_assoc v2 w rest in
    let l' = shorter f v1 v2 (w ++ rest) k start (subst (λ l. length l ≤ suc k) shape l) in
    let more : A → ℕ → List (Token K V) → Out (Token K V) (List A) = λ x m rest. turns f p k m rest >>= (λ xs e r. got (x ∷ xs) e r) in
    let read = within_second b ca f (p c) more apart v1 (v2 ++ w) rest x m1 (hw c0 v1 c rest (db c0 m1 v1 x d) fc) (hp c0 m1 v1 x c ((v2 ++ w) ++ rest) d fc)
    (starts_append true f v2 w (starts_each false f D hd xs m1 m0 v2 each) (hb m0 w q))
    (λ x m r. lies_then r (turns f p k m r) _ (lies_turns f p any k m r) (λ xs e r. ([], refl)))
    (λ _ m fm. within_then b rest (turns f p k m ((v2 ++ w) ++ rest)) _
    (subst (λ l. Within b rest (turns f p k m l)) (sym rest_of) (within_turns b f ca p D B apart hd hb db hp hw any k xs m1 m0 v2 w m rest l' each q fm)) (λ xs e r. ([], refl))) in
    let read' = subst (λ l. Within b rest (p c l >>= more)) (ap (λ l. v1 ++ l) rest_of ∙ sym shape) read in
    on_true (λ o. Within b rest o) (at_first f (v ++ (w ++ rest))) _ (got [] c (v ++ (w ++ rest))) (ap (at_first f) shape ∙ at_first_app f v1 (v2 ++ (w ++ rest)) start) read'

module _ (K V S : Type 0) (Sort : S → Type 0) (production : (s : S) → Part K V S Sort (Sort s)) (first_table : S → K → Bool) (nullable_table : S → Bool) (follow_last_table : S → K → Bool) where
  abbrev nul : {A : Type 0} → Part K V S Sort A → Bool
  nul a = nullable K V S Sort production first_table nullable_table a

  abbrev fst : {A : Type 0} → Part K V S Sort A → K → Bool
  fst a = first K V S Sort production first_table nullable_table a

  abbrev cnt : {A : Type 0} → Part K V S Sort A → K → Bool
  cnt a = follow_last K V S Sort production first_table nullable_table follow_last_table a

  abbrev Ok : {A : Type 0} → Part K V S Sort A → Type 0
  Ok a = Decided K V S Sort production first_table nullable_table follow_last_table a

  module _ (R : (s : S) → ℕ → ℕ → ℕ → List (Token K V) → Out (Token K V) (Sort s)) (rest_lies : (s : S) (d l c : ℕ) (ts : List (Token K V)) → Lies ts (R s d l c ts)) where
    abbrev Rd : {A : Type 0} → Part K V S Sort A → ℕ → ℕ → ℕ → List (Token K V) → Out (Token K V) A
    Rd a d l c ts = read_by K V S Sort production first_table nullable_table R a d l c ts

    pub lies_by : {A : Type 0} (a : Part K V S Sort A) (d l c : ℕ) (ts : List (Token K V)) → Lies ts (Rd a d l c ts)
    lies_by (g.terminal f) d l c ts = lies_one f c ts
    lies_by (g.nonterminal s) d l c ts = rest_lies s d l c ts
    lies_by (g.both a b) d l c ts = lies_then ts (Rd a d l c ts) _ (lies_by a d l c ts) (λ x m r. lies_then r (Rd b d l m r) _ (lies_by b d l m r) (λ y e r. ([], refl)))
    lies_by (g.either a b) d l c ts = lies_cond (at_first (fst a) ts) ts _ _ (lies_by a d l c ts) (lies_by b d l c ts)
    lies_by (g.maybe a) d l c ts = lies_cond (at_first (fst a) ts) ts _ _ (lies_then ts (Rd a d l c ts) _ (lies_by a d l c ts) (λ x e r. ([], refl))) ([], refl)
    lies_by (g.many a) d l c ts = lies_turns (fst a) (Rd a d l) (lies_by a d l) (length ts) c ts
    lies_by (g.then_if a goes b) d l c ts = lies_then ts (Rd a d l c ts) _ (lies_by a d l c ts) (λ x m r. lies_goes (goes x && at_first (fst b) r) x m r (Rd b d l m r) (lies_by b d l m r))
    lies_by (g.when f a) d l c ts = lies_cond (at_first f ts) ts _ _ (lies_by a d l c ts) ([], refl)
    lies_by (g.nest a) zero l c ts = lies_cond (at_first (fst a) ts) ts (rejected over_budget ts) (rejected unexpected ts) ([], refl) ([], refl)
    lies_by (g.nest a) (suc d) l c ts = lies_by a d l c ts
    lies_by (g.counts a) d l zero ts = lies_cond (at_first (fst a) ts) ts (rejected over_budget ts) (rejected unexpected ts) ([], refl) ([], refl)
    lies_by (g.counts a) d l (suc c) ts = lies_by a d l c ts
    lies_by (g.limited a) d l c ts = lies_then ts (Rd a d l l ts) _ (lies_by a d l l ts) (λ x e r. ([], refl))
    lies_by (g.gives f a) d l c ts = lies_then ts (Rd a d l c ts) _ (lies_by a d l c ts) (λ x e r. ([], refl))

    module _ (b : Bool) (D : (s : S) → ℕ → ℕ → ℕ → ℕ → List (Token K V) → Sort s → Type 0) (B : (s : S) → ℕ → ℕ → ℕ → List (Token K V) → Type 0)
        (hs : (s : S) (d l c e : ℕ) (u : List (Token K V)) (x : Sort s) → D s d l c e u x → Starts (nullable_table s) (first_table s) u) where
      abbrev Dv : {A : Type 0} → Part K V S Sort A → ℕ → ℕ → ℕ → ℕ → List (Token K V) → A → Type 0
      Dv a d l c e u x = Derives_by K V S Sort production D a d l c e u x

      abbrev Bv : {A : Type 0} → Part K V S Sort A → ℕ → ℕ → ℕ → List (Token K V) → Type 0
      Bv a d l c u = ViablePrefix_by K V S Sort production D B a d l c u

      start : {A : Type 0} (a : Part K V S Sort A) → Ok a → (d l c e : ℕ) (u : List (Token K V)) (x : A) → Dv a d l c e u x → Starts (nul a) (fst a) u
      start a ok = starts_D K V S Sort production first_table nullable_table follow_last_table D B hs a ok

      firm : {A : Type 0} (a : Part K V S Sort A) → Ok a → nul a ≡ false → (d l c e : ℕ) (u : List (Token K V)) (x : A) → Dv a d l c e u x → Starts false (fst a) u
      firm a ok = solid K V S Sort production first_table nullable_table follow_last_table D B hs a ok

      -- ---- each sentence is read

      module _ (h : (s : S) (d0 l0 c0 e0 : ℕ) (u : List (Token K V)) (x : Sort s) (d l c : ℕ) (rest : List (Token K V)) → D s d0 l0 c0 e0 u x → Fits b d0 d → Fits b l0 l → Fits b c0 c → at_first (follow_last_table s) rest ≡ false
          → Reads b x e0 rest (R s d l c (u ++ rest))) where
        pub complete_by : {A : Type 0} (a : Part K V S Sort A) → Ok a → (d0 l0 c0 e0 : ℕ) (u : List (Token K V)) (x : A) (d l c : ℕ) (rest : List (Token K V)) → Dv a d0 l0 c0 e0 u x
            → Fits b d0 d → Fits b l0 l → Fits b c0 c → at_first (cnt a) rest ≡ false → Reads b x e0 rest (Rd a d l c (u ++ rest))
        complete_by (g.terminal f) ok d0 l0 c0 e0 u x d l c rest (t, eu, is, ex, ec) fd fl fc st =
            subst (λ u. Reads b x e0 rest (one f c (u ++ rest))) (sym eu)
            (on_true (λ o. Reads b x e0 rest o) (f t.sight) (got t.face c rest) (rejected unexpected (t ∷ rest)) is (sym ex, refl, subst (λ e. Fits b e c) (sym ec) fc))
        complete_by (g.nonterminal s) ok d0 l0 c0 e0 u x d l c rest p fd fl fc st = h s d0 l0 c0 e0 u x d l c rest p fd fl fc st
        complete_by (g.both a z) ok d0 l0 c0 e0 u x d l c rest (v, w, m0, eu, p, q) fd fl fc st =
            let halves = at_first_or_if (nul z) (cnt z) (λ t. fst z t || cnt a t) rest st in
            let tail : at_first (cnt a) (w ++ rest) ≡ false = stops (cnt a) (fst z) (nul z) ok.2 w rest (start z ok.1 d0 l0 m0 e0 w x.1 q) (λ n. (at_first_or (fst z) (cnt a) rest (halves.1 n)).1) in
            regrouped (λ i. Reads b x e0 rest (Rd (g.both a z) d l c i)) u v w rest eu
            (reads_then b (Rd a d l c (v ++ (w ++ rest))) x.0 m0 (w ++ rest) _ x e0 rest (complete_by a ok.0 d0 l0 c0 m0 v x.0 d l c (w ++ rest) p fd fl fc tail)
            (λ m fm. reads_then b (Rd z d l m (w ++ rest)) x.1 e0 rest _ x e0 rest (complete_by z ok.1 d0 l0 m0 e0 w x.1 d l m rest q fd fl fm halves.0) (λ e fe. (refl, refl, fe))))
        complete_by (g.either a z) ok d0 l0 c0 e0 u x d l c rest (inl p) fd fl fc st =
            on_true (λ o. Reads b x e0 rest o) (at_first (fst a) (u ++ rest)) _ _ (at_first_app (fst a) u rest (firm a ok.0 ok.3 d0 l0 c0 e0 u x p))
            (complete_by a ok.0 d0 l0 c0 e0 u x d l c rest p fd fl fc (at_first_or (cnt a) (cnt z) rest st).0)
        complete_by (g.either a z) ok d0 l0 c0 e0 u x d l c rest (inr p) fd fl fc st =
            on_false (λ o. Reads b x e0 rest o) (at_first (fst a) (u ++ rest)) _ _ (stops (fst a) (fst z) false ok.2 u rest (firm z ok.1 ok.4 d0 l0 c0 e0 u x p) (λ n. cc))
            (complete_by z ok.1 d0 l0 c0 e0 u x d l c rest p fd fl fc (at_first_or (cnt a) (cnt z) rest st).1)
        complete_by (g.maybe a) ok d0 l0 c0 e0 u None d l c rest (eu, ec) fd fl fc st =
            subst (λ u. Reads b None e0 rest (Rd (g.maybe a) d l c (u ++ rest))) (sym eu)
            (on_false (λ o. Reads b None e0 rest o) (at_first (fst a) rest) _ _ (at_first_or (fst a) (cnt a) rest st).0 (refl, refl, subst (λ e. Fits b e c) (sym ec) fc))
        complete_by (g.maybe a) ok d0 l0 c0 e0 u (Some x) d l c rest p fd fl fc st =
            on_true (λ o. Reads b (Some x) e0 rest o) (at_first (fst a) (u ++ rest)) _ _ (at_first_app (fst a) u rest (firm a ok.0 ok.1 d0 l0 c0 e0 u x p))
            (reads_then b (Rd a d l c (u ++ rest)) x e0 rest _ (Some x) e0 rest (complete_by a ok.0 d0 l0 c0 e0 u x d l c rest p fd fl fc (at_first_or (fst a) (cnt a) rest st).1) (λ e fe. (refl, refl, fe)))
        complete_by (g.many a) ok d0 l0 c0 e0 u xs d l c rest p fd fl fc st =
            let halves = at_first_or (fst a) (cnt a) rest st in
            complete_turns b (fst a) (cnt a) (Rd a d l) (Dv a d0 l0) ok.2 (firm a ok.0 ok.1 d0 l0)
            (λ c0 e0 u x c rest p fc st. complete_by a ok.0 d0 l0 c0 e0 u x d l c rest p fd fl fc st) (length (u ++ rest)) xs c0 e0 u c rest (omega arith) p fc halves.0 halves.1
        complete_by (g.then_if a goes z) ok d0 l0 c0 e0 u x d l c rest p fd fl fc st =
            complete_then b (cnt a) (fst z) (cnt z) (Rd a d l) (Rd z d l) (Dv a d0 l0) (Dv z d0 l0) goes ok.2
            (λ c0 e0 u x c rest p fc st. complete_by a ok.0 d0 l0 c0 e0 u x d l c rest p fd fl fc st) (λ c0 e0 u x c rest p fc st. complete_by z ok.1 d0 l0 c0 e0 u x d l c rest p fd fl fc st)
            (firm z ok.1 ok.4 d0 l0) c0 e0 u x.0 x.1 c rest p fc st
        complete_by (g.when f a) ok d0 l0 c0 e0 u x d l c rest (hd, p) fd fl fc st =
            on_true (λ o. Reads b x e0 rest o) (at_first f (u ++ rest)) _ _ (head_first f (fst a) u rest hd (firm a ok.0 ok.1 d0 l0 c0 e0 u x p)) (complete_by a ok.0 d0 l0 c0 e0 u x d l c rest p fd fl fc st)
        complete_by (g.nest a) ok zero l0 c0 e0 u x d l c rest p fd fl fc st = elim p [ ]
        complete_by (g.nest a) ok (suc d0) l0 c0 e0 u x zero l c rest p fd fl fc st =
            on_true (λ o. Reads b x e0 rest o) (at_first (fst a) (u ++ rest)) _ _ (at_first_app (fst a) u rest (firm a ok.0 ok.1 d0 l0 c0 e0 u x p)) (fits_none b d0 fd)
        complete_by (g.nest a) ok (suc d0) l0 c0 e0 u x (suc d) l c rest p fd fl fc st = complete_by a ok.0 d0 l0 c0 e0 u x d l c rest p (fits_less b d0 d fd) fl fc st
        complete_by (g.counts a) ok d0 l0 zero e0 u x d l c rest p fd fl fc st = elim p [ ]
        complete_by (g.counts a) ok d0 l0 (suc c0) e0 u x d l zero rest p fd fl fc st =
            on_true (λ o. Reads b x e0 rest o) (at_first (fst a) (u ++ rest)) _ _ (at_first_app (fst a) u rest (firm a ok.0 ok.1 d0 l0 c0 e0 u x p)) (fits_none b c0 fc)
        complete_by (g.counts a) ok d0 l0 (suc c0) e0 u x d l (suc c) rest p fd fl fc st = complete_by a ok.0 d0 l0 c0 e0 u x d l c rest p fd fl (fits_less b c0 c fc) st
        complete_by (g.limited a) ok d0 l0 c0 e0 u x d l c rest (m0, p, ec) fd fl fc st =
            reads_then b (Rd a d l l (u ++ rest)) x m0 rest _ x e0 rest (complete_by a ok d0 l0 l0 m0 u x d l l rest p fd fl fl st) (λ e fe. (refl, refl, subst (λ e. Fits b e c) (sym ec) fc))
        complete_by (g.gives f a) ok d0 l0 c0 e0 u y d l c rest (x, p, ey) fd fl fc st =
            reads_then b (Rd a d l c (u ++ rest)) x e0 rest _ y e0 rest (complete_by a ok d0 l0 c0 e0 u x d l c rest p fd fl fc st) (λ e fe. (sym ey, refl, fe))

        -- ---- no token up to which a sentence is begun is refused

        module _ (nil : (s : S) (d l c : ℕ) → B s d l c []) (db : (s : S) (d l c e : ℕ) (u : List (Token K V)) (x : Sort s) → D s d l c e u x → B s d l c u)
            (hb : (s : S) (d l c : ℕ) (u : List (Token K V)) → B s d l c u → Starts true (first_table s) u)
            (k : (s : S) (d0 l0 c0 : ℕ) (u : List (Token K V)) (d l c : ℕ) (rest : List (Token K V)) → B s d0 l0 c0 u → Fits b d0 d → Fits b l0 l → Fits b c0 c → Within b rest (R s d l c (u ++ rest))) where
          lead : {A : Type 0} (a : Part K V S Sort A) → Ok a → (d l c : ℕ) (u : List (Token K V)) → Bv a d l c u → Starts true (fst a) u
          lead a ok = starts_B K V S Sort production first_table nullable_table follow_last_table D B hs hb a ok

          begun : {A : Type 0} (a : Part K V S Sort A) (d l c e : ℕ) (u : List (Token K V)) (x : A) → Dv a d l c e u x → Bv a d l c u
          begun a = sentence_viable K V S Sort production first_table nullable_table follow_last_table D B nil db a

          anyhow : {A : Type 0} (a : Part K V S Sort A) (d l c : ℕ) (ts : List (Token K V)) → Within b ts (Rd a d l c ts)
          anyhow a d l c ts = within_lies b ts (Rd a d l c ts) (lies_by a d l c ts)

          pub within_by : {A : Type 0} (a : Part K V S Sort A) → Ok a → (d0 l0 c0 : ℕ) (u : List (Token K V)) (d l c : ℕ) (rest : List (Token K V)) → Bv a d0 l0 c0 u
              → Fits b d0 d → Fits b l0 l → Fits b c0 c → Within b rest (Rd a d l c (u ++ rest))
          within_by (g.terminal f) ok d0 l0 c0 [] d l c rest p fd fl fc = anyhow (g.terminal f) d l c rest
          within_by (g.terminal f) ok d0 l0 c0 (t ∷ u) d l c rest (eu, is) fd fl fc =
              subst (λ u. Within b rest (one f c (t ∷ (u ++ rest)))) (sym eu) (on_true (λ o. Within b rest o) (f t.sight) (got t.face c rest) (rejected unexpected (t ∷ rest)) is ([], refl))
          within_by (g.nonterminal s) ok d0 l0 c0 u d l c rest p fd fl fc = k s d0 l0 c0 u d l c rest p fd fl fc
          within_by (g.both a z) ok d0 l0 c0 u d l c rest (inl p) fd fl fc =
              within_then b rest (Rd a d l c (u ++ rest)) _ (within_by a ok.0 d0 l0 c0 u d l c rest p fd fl fc) (λ x m r. lies_then r (Rd z d l m r) _ (lies_by z d l m r) (λ y e r. ([], refl)))
          within_by (g.both a z) ok d0 l0 c0 u d l c rest (inr (v, w, x, m0, eu, p, q)) fd fl fc =
              regrouped (λ i. Within b rest (Rd (g.both a z) d l c i)) u v w rest eu
              (within_second b (cnt a) (fst z) (Rd a d l c) _ ok.2 v w rest x m0
              (within_by a ok.0 d0 l0 c0 v d l c rest (begun a d0 l0 c0 m0 v x p) fd fl fc)
              (complete_by a ok.0 d0 l0 c0 m0 v x d l c (w ++ rest) p fd fl fc)
              (lead z ok.1 d0 l0 m0 w q)
              (λ x m r. lies_then r (Rd z d l m r) _ (lies_by z d l m r) (λ y e r. ([], refl)))
              (λ _ m fm. within_then b rest (Rd z d l m (w ++ rest)) _ (within_by z ok.1 d0 l0 m0 w d l m rest q fd fl fm) (λ y e r. ([], refl))))
          within_by (g.either a z) ok d0 l0 c0 [] d l c rest p fd fl fc = anyhow (g.either a z) d l c rest
          within_by (g.either a z) ok d0 l0 c0 (t ∷ u) d l c rest (inl p) fd fl fc =
              on_true (λ o. Within b rest o) (fst a t.sight) _ _ (lead a ok.0 d0 l0 c0 (t ∷ u) p) (within_by a ok.0 d0 l0 c0 (t ∷ u) d l c rest p fd fl fc)
          within_by (g.either a z) ok d0 l0 c0 (t ∷ u) d l c rest (inr p) fd fl fc =
              on_false (λ o. Within b rest o) (fst a t.sight) _ _ (not_true (fst a t.sight) (λ e. ok.2 t.sight e (lead z ok.1 d0 l0 c0 (t ∷ u) p))) (within_by z ok.1 d0 l0 c0 (t ∷ u) d l c rest p fd fl fc)
          within_by (g.maybe a) ok d0 l0 c0 [] d l c rest p fd fl fc = anyhow (g.maybe a) d l c rest
          within_by (g.maybe a) ok d0 l0 c0 (t ∷ u) d l c rest (inl e) fd fl fc = cc
          within_by (g.maybe a) ok d0 l0 c0 (t ∷ u) d l c rest (inr p) fd fl fc =
              on_true (λ o. Within b rest o) (fst a t.sight) _ (got None c (t ∷ (u ++ rest))) (lead a ok.0 d0 l0 c0 (t ∷ u) p)
              (within_then b rest (Rd a d l c (t ∷ (u ++ rest))) _ (within_by a ok.0 d0 l0 c0 (t ∷ u) d l c rest p fd fl fc) (λ x e r. ([], refl)))
          within_by (g.many a) ok d0 l0 c0 u d l c rest (inl eu) fd fl fc = subst (λ u. Within b rest (Rd (g.many a) d l c (u ++ rest))) (sym eu) (anyhow (g.many a) d l c rest)
          within_by (g.many a) ok d0 l0 c0 u d l c rest (inr (v, w, xs, m0, eu, each, q)) fd fl fc =
              regrouped (λ i. Within b rest (Rd (g.many a) d l c i)) u v w rest eu
              (within_turns b (fst a) (cnt a) (Rd a d l) (Dv a d0 l0) (Bv a d0 l0) ok.2 (firm a ok.0 ok.1 d0 l0) (lead a ok.0 d0 l0) (begun a d0 l0)
              (λ c0 e0 u x c rest p fc st. complete_by a ok.0 d0 l0 c0 e0 u x d l c rest p fd fl fc st) (λ c0 u c rest p fc. within_by a ok.0 d0 l0 c0 u d l c rest p fd fl fc)
              (lies_by a d l) (length (v ++ (w ++ rest))) xs c0 m0 v w c rest (omega arith) each q fc)
          within_by (g.then_if a goes z) ok d0 l0 c0 u d l c rest (inl p) fd fl fc =
              within_then b rest (Rd a d l c (u ++ rest)) _ (within_by a ok.0 d0 l0 c0 u d l c rest p fd fl fc) (λ x m r. lies_goes (goes x && at_first (fst z) r) x m r (Rd z d l m r) (lies_by z d l m r))
          within_by (g.then_if {A} {B = C} a goes z) ok d0 l0 c0 u d l c rest (inr (v, w, x, m0, eu, p, is, q)) fd fl fc =
              let go : A → ℕ → List (Token K V) → Out (Token K V) (A × Option C) = λ x m r. if_goes (goes x && at_first (fst z) r) x m r (Rd z d l m r) in
              regrouped (λ i. Within b rest (Rd (g.then_if a goes z) d l c i)) u v w rest eu
              (within_second b (cnt a) (fst z) (Rd a d l c) go ok.2 v w rest x m0
              (within_by a ok.0 d0 l0 c0 v d l c rest (begun a d0 l0 c0 m0 v x p) fd fl fc)
              (complete_by a ok.0 d0 l0 c0 m0 v x d l c (w ++ rest) p fd fl fc)
              (lead z ok.1 d0 l0 m0 w q)
              (λ x m r. lies_goes (goes x && at_first (fst z) r) x m r (Rd z d l m r) (lies_by z d l m r))
              (λ s m fm. subst (λ j. Within b rest (if_goes j x m (w ++ rest) (Rd z d l m (w ++ rest)))) (sym (and_both (goes x) (at_first (fst z) (w ++ rest)) is (at_first_app (fst z) w rest s)))
              (within_then b rest (Rd z d l m (w ++ rest)) _ (within_by z ok.1 d0 l0 m0 w d l m rest q fd fl fm) (λ y e r. ([], refl)))))
          within_by (g.when f a) ok d0 l0 c0 [] d l c rest p fd fl fc = anyhow (g.when f a) d l c rest
          within_by (g.when f a) ok d0 l0 c0 (t ∷ u) d l c rest (hd, p) fd fl fc = on_true (λ o. Within b rest o) (f t.sight) _ _ hd (within_by a ok.0 d0 l0 c0 (t ∷ u) d l c rest p fd fl fc)
          within_by (g.nest a) ok d0 l0 c0 [] d l c rest p fd fl fc = anyhow (g.nest a) d l c rest
          within_by (g.nest a) ok zero l0 c0 (t ∷ u) d l c rest p fd fl fc = cc
          within_by (g.nest a) ok (suc d0) l0 c0 (t ∷ u) zero l c rest p fd fl fc =
              on_true (λ o. Within b rest o) (fst a t.sight) (rejected over_budget (t ∷ (u ++ rest))) (rejected unexpected (t ∷ (u ++ rest))) (lead a ok.0 d0 l0 c0 (t ∷ u) p) (inl (fits_none b d0 fd))
          within_by (g.nest a) ok (suc d0) l0 c0 (t ∷ u) (suc d) l c rest p fd fl fc = within_by a ok.0 d0 l0 c0 (t ∷ u) d l c rest p (fits_less b d0 d fd) fl fc
          within_by (g.counts a) ok d0 l0 c0 [] d l c rest p fd fl fc = anyhow (g.counts a) d l c rest
          within_by (g.counts a) ok d0 l0 zero (t ∷ u) d l c rest p fd fl fc = cc
          within_by (g.counts a) ok d0 l0 (suc c0) (t ∷ u) d l zero rest p fd fl fc =
              on_true (λ o. Within b rest o) (fst a t.sight) (rejected over_budget (t ∷ (u ++ rest))) (rejected unexpected (t ∷ (u ++ rest))) (lead a ok.0 d0 l0 c0 (t ∷ u) p) (inl (fits_none b c0 fc))
          within_by (g.counts a) ok d0 l0 (suc c0) (t ∷ u) d l (suc c) rest p fd fl fc = within_by a ok.0 d0 l0 c0 (t ∷ u) d l c rest p fd fl (fits_less b c0 c fc)
          within_by (g.limited a) ok d0 l0 c0 u d l c rest p fd fl fc = within_then b rest (Rd a d l l (u ++ rest)) _ (within_by a ok d0 l0 l0 u d l l rest p fd fl fl) (λ x e r. ([], refl))
          within_by (g.gives f a) ok d0 l0 c0 u d l c rest p fd fl fc = within_then b rest (Rd a d l c (u ++ rest)) _ (within_by a ok d0 l0 c0 u d l c rest p fd fl fc) (λ x e r. ([], refl))
