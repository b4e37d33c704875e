-- What a reader answers is so: the tokens that it took derive the value, or begin a sentence up to the refused one.
use Rattle.std.proofs.Common.{◌≡◌, ◌≤◌, ◌+◌, ◌⊎◌, inl, inr, ℕ, zero, suc, Bool, true, false, cond, ◌&&◌, List, [], ◌∷◌, ◌++◌, length, Option, Some, None, refl, sym, ap, ◌∙◌, subst, append_assoc, append-nil, arith}
use Rattle.sw_grammar.specs.Grammar as g
use Rattle.sw_grammar.specs.Grammar.{Token, Part, Counted, Each, Then, FirstPasses, Derives_by, Derives, ViablePrefix_by, ViablePrefix}
use Rattle.sw_grammar.specs.Reading.{over_budget, unexpected, Out, got, rejected, out_of_fuel, ◌>>=◌, at_first, if_goes, one, without_budget, turns, first, read_by, read}
use Rattle.sw_grammar.specs.Deciding.{Decided, IsDecided}
use Rattle.sw_grammar.proofs.Grow.{viable_nil, viable_nil_by, grow_part, grow_viable_part}
use Rattle.sw_grammar.proofs.Leading.{Large, lead_part}

-- D: what is derived, with what is left after it. B: what is begun. F: what would be begun within a larger budget.
abbrev pub Sound : {T A : Type 0} → (ℕ → List T → A → Type 0) → (List T → Type 0) → (List T → Type 0) → List T → Out T A → Type 0
Sound D B F ts (got x c rest) = (u : _) × (ts ≡ u ++ rest) × D c u x
Sound D B F ts (rejected over_budget rest) = (u : _) × (t : _) × (r : _) × (rest ≡ t ∷ r) × (ts ≡ u ++ rest) × B u × F (u ++ t ∷ [])
Sound D B F ts (rejected unexpected rest) = (u : _) × (ts ≡ u ++ rest) × B u
Sound D B F ts out_of_fuel = Unit {0}

sound_map : {T A C : Type 0} (D : ℕ → List T → A → Type 0) (B F : List T → Type 0) (D' : ℕ → List T → C → Type 0) (B' F' : List T → Type 0) (f : A → C) (k : ℕ → ℕ)
    → ((c : ℕ) (u : List T) (x : A) → D c u x → D' (k c) u (f x)) → ((u : List T) → B u → B' u) → ((u : List T) → F u → F' u)
    → (ts : List T) (o : Out T A) → Sound D B F ts o → Sound D' B' F' ts (o >>= (λ x c rest. got (f x) (k c) rest))
sound_map D B F D' B' F' f k hd hb hf ts (got x c rest) (u, e, h) = (u, e, hd c u x h)
sound_map D B F D' B' F' f k hd hb hf ts (rejected over_budget rest) (u, t, r, er, e, h, l) = (u, t, r, er, e, hb u h, hf (u ++ t ∷ []) l)
sound_map D B F D' B' F' f k hd hb hf ts (rejected unexpected rest) (u, e, h) = (u, e, hb u h)
sound_map D B F D' B' F' f k hd hb hf ts out_of_fuel h = tt

sound_weak : {T A : Type 0} (D : ℕ → List T → A → Type 0) (B F : List T → Type 0) (D' : ℕ → List T → A → Type 0) (B' F' : List T → Type 0)
    → ((c : ℕ) (u : List T) (x : A) → D c u x → D' c u x) → ((u : List T) → B u → B' u) → ((u : List T) → F u → F' u) → (ts : List T) (o : Out T A) → Sound D B F ts o → Sound D' B' F' ts o
sound_weak D B F D' B' F' hd hb hf ts (got x c rest) (u, e, h) = (u, e, hd c u x h)
sound_weak D B F D' B' F' hd hb hf ts (rejected over_budget rest) (u, t, r, er, e, h, l) = (u, t, r, er, e, hb u h, hf (u ++ t ∷ []) l)
sound_weak D B F D' B' F' hd hb hf ts (rejected unexpected rest) (u, e, h) = (u, e, hb u h)
sound_weak D B F D' B' F' hd hb hf ts out_of_fuel h = tt

joined : {T : Type 0} (ts u w rest r : List T) → ts ≡ u ++ rest → rest ≡ w ++ r → ts ≡ (u ++ w) ++ r
joined ts u w rest r e e' = e ∙ ap (λ l. u ++ l) e' ∙ sym (append_assoc u w r)

-- ---- one after the other

abbrev Pair : {T A C : Type 0} → (ℕ → List T → A → Type 0) → (ℕ → ℕ → List T → C → Type 0) → ℕ → List T → A × C → Type 0
Pair D E c u z = (v : _) × (w : _) × (e : ℕ) × (u ≡ v ++ w) × D e v z.0 × E e c w z.1

abbrev Pair_b : {T A : Type 0} → (List T → Type 0) → (ℕ → List T → A → Type 0) → (ℕ → List T → Type 0) → List T → Type 0
Pair_b {T} {A} B D B' u = B u ⊎ ((v : List T) × (w : List T) × (x : A) × (e : ℕ) × (u ≡ v ++ w) × D e v x × B' e w)

sound_both : {T A C : Type 0} (D : ℕ → List T → A → Type 0) (B F : List T → Type 0) (E : ℕ → ℕ → List T → C → Type 0) (B' : ℕ → List T → Type 0) (F' F'' : List T → Type 0)
    → ((u : List T) → F u → F'' u) → ((e : ℕ) (v : List T) (x : A) → D e v x → (w : List T) → F' w → F'' (v ++ w))
    → (ts : List T) (o : Out T A) (q : ℕ → List T → Out T C) → Sound D B F ts o → ((e : ℕ) (rest : List T) → Sound (E e) (B' e) F' rest (q e rest))
    → Sound (Pair D E) (Pair_b B D B') F'' ts (o >>= (λ x e rest. q e rest >>= (λ y c r. got (x, y) c r)))
sound_both {T} {A} {C} D B F E B' F' F'' fa fb ts (got x e rest) q (u, eu, h) hq = go (q e rest) (hq e rest)
  where
    go : (o : Out T C) → Sound (E e) (B' e) F' rest o → Sound (Pair D E) (Pair_b B D B') F'' ts (o >>= (λ y c r. got (x, y) c r))
    go (got y c r) (w, e', h') = (u ++ w, joined ts u w rest r eu e', (u, w, e, refl, h, h'))
    go (rejected over_budget r) (w, t, r', er, e', h', l) = (u ++ w, t, r', er, joined ts u w rest r eu e', inr (u, w, x, e, refl, h, h'), subst F'' (sym (append_assoc u w (t ∷ []))) (fb e u x h (w ++ t ∷ []) l))
    go (rejected unexpected r) (w, e', h') = (u ++ w, joined ts u w rest r eu e', inr (u, w, x, e, refl, h, h'))
    go out_of_fuel h' = tt
sound_both D B F E B' F' F'' fa fb ts (rejected over_budget rest) q (u, t, r, er, e, h, l) hq = (u, t, r, er, e, inl h, fa (u ++ t ∷ []) l)
sound_both D B F E B' F' F'' fa fb ts (rejected unexpected rest) q (u, e, h) hq = (u, e, inl h)
sound_both D B F E B' F' F'' fa fb ts out_of_fuel q h hq = tt

-- ---- repetitions

abbrev pub Many : {T A : Type 0} → Counted T A → (ℕ → List T → Type 0) → ℕ → List T → Type 0
Many {T} {A} D B c u = (u ≡ []) ⊎ ((v : List T) × (w : List T) × (xs : List A) × (e : ℕ) × (u ≡ v ++ w) × Each D c e v xs × B e w)

-- one item before the others
pub many_more : {T A : Type 0} (D : Counted T A) (B : ℕ → List T → Type 0) → ((c : ℕ) → B c []) → (c e : ℕ) (v w : List T) (x : A) → D c e v x → Many D B e w → Many D B c (v ++ w)
many_more D B nil c e v w x h (inl ew) = inr (v, [], x ∷ [], e, ap (λ l. v ++ l) ew, (v, [], e, sym (append-nil v), h, (refl, refl)), nil e)
many_more D B nil c e v w x h (inr (a, b, xs, m, ew, each, q)) = inr (v ++ a, b, x ∷ xs, m, ap (λ l. v ++ l) ew ∙ sym (append_assoc v a b), (v, a, e, refl, h, each), q)

module _ {K V A : Type 0} (D : Counted (Token K V) A) (B : ℕ → List (Token K V) → Type 0) (F F'' : List (Token K V) → Type 0) (nil : (c : ℕ) → B c [])
    (fa : (u : List (Token K V)) → F u → F'' u) (fb : (c e : ℕ) (v : List (Token K V)) (x : A) → D c e v x → (w : List (Token K V)) → F'' w → F'' (v ++ w)) where
  sound_more : (c e : ℕ) (ts u rest : List (Token K V)) (x : A) → ts ≡ u ++ rest → D c e u x
      → (o : Out (Token K V) (List A)) → Sound (Each D e) (Many D B e) F'' rest o → Sound (Each D c) (Many D B c) F'' ts (o >>= (λ xs m r. got (x ∷ xs) m r))
  sound_more c e ts u rest x eu h (got xs m r) (w, e', h') = (u ++ w, joined ts u w rest r eu e', (u, w, e, refl, h, h'))
  sound_more c e ts u rest x eu h (rejected over_budget r) (w, t, r', er, e', b, l) =
      (u ++ w, t, r', er, joined ts u w rest r eu e', many_more D B nil c e u w x h b, subst F'' (sym (append_assoc u w (t ∷ []))) (fb c e u x h (w ++ t ∷ []) l))
  sound_more c e ts u rest x eu h (rejected unexpected r) (w, e', b) = (u ++ w, joined ts u w rest r eu e', many_more D B nil c e u w x h b)
  sound_more c e ts u rest x eu h out_of_fuel h' = tt

  sound_item : (q : ℕ → List (Token K V) → Out (Token K V) (List A)) → ((e : ℕ) (rest : List (Token K V)) → Sound (Each D e) (Many D B e) F'' rest (q e rest))
      → (c : ℕ) (ts : List (Token K V)) (o : Out (Token K V) A) → Sound (D c) (B c) F ts o → Sound (Each D c) (Many D B c) F'' ts (o >>= (λ x e rest. q e rest >>= (λ xs m r. got (x ∷ xs) m r)))
  sound_item q again c ts (got x e rest) (u, eu, d) = sound_more c e ts u rest x eu d (q e rest) (again e rest)
  sound_item q again c ts (rejected over_budget rest) (u, t, r, er, e, b, l) = (u, t, r, er, e, inr ([], u, [], c, refl, (refl, refl), b), fa (u ++ t ∷ []) l)
  sound_item q again c ts (rejected unexpected rest) (u, e, b) = (u, e, inr ([], u, [], c, refl, (refl, refl), b))
  sound_item q again c ts out_of_fuel s = tt

  pub sound_turns : (f : K → Bool) (p : ℕ → List (Token K V) → Out (Token K V) A) → ((c : ℕ) (ts : List (Token K V)) → Sound (D c) (B c) F ts (p c ts)) → (k c : ℕ) (ts : List (Token K V)) → Sound (Each D c) (Many D B c) F'' ts (turns f p k c ts)
  sound_turns f p h zero c ts = ([], refl, (refl, refl))
  sound_turns f p h (suc k) c ts =
      elim (at_first f ts) as (λ b. Sound (Each D c) (Many D B c) F'' ts (cond b (p c ts >>= (λ x e rest. turns f p k e rest >>= (λ xs m r. got (x ∷ xs) m r))) (got [] c ts)))
      [ true ↦ sound_item (turns f p k) (sound_turns f p h k) c ts (p c ts) (h c ts) | false ↦ ([], refl, (refl, refl)) ]

-- ---- a second part, where it comes

abbrev Then_b : {T A : Type 0} → (List T → Type 0) → (ℕ → List T → A → Type 0) → (A → Bool) → (ℕ → List T → Type 0) → List T → Type 0
Then_b {T} {A} B D goes B' u = B u ⊎ ((v : List T) × (w : List T) × (x : A) × (e : ℕ) × (u ≡ v ++ w) × D e v x × (goes x ≡ true) × B' e w)

sound_then : {K V A C : Type 0} (c : ℕ) (D : Counted (Token K V) A) (B F : List (Token K V) → Type 0) (E : Counted (Token K V) C) (B' : ℕ → List (Token K V) → Type 0) (F' F'' : List (Token K V) → Type 0) (goes : A → Bool) (f : K → Bool)
    → ((u : List (Token K V)) → F u → F'' u) → ((e : ℕ) (v : List (Token K V)) (x : A) → D c e v x → goes x ≡ true → (w : List (Token K V)) → F' w → F'' (v ++ w))
    → (ts : List (Token K V)) (o : Out (Token K V) A) (q : ℕ → List (Token K V) → Out (Token K V) C) → Sound (D c) B F ts o → ((e : ℕ) (rest : List (Token K V)) → Sound (E e) (B' e) F' rest (q e rest))
    → Sound (λ c' u (z : A × Option C). Then D E goes c c' u z.0 z.1) (Then_b B (D c) goes B') F'' ts (o >>= (λ x e rest. if_goes (goes x && at_first f rest) x e rest (q e rest)))
sound_then {K} {V} {A} {C} c D B F E B' F' F'' goes f fa fb ts (got x e rest) q (u, eu, h) hq = go (goes x) refl (at_first f rest)
  where
    second : goes x ≡ true → (o : Out (Token K V) C) → Sound (E e) (B' e) F' rest o
        → Sound (λ c' u (z : A × Option C). Then D E goes c c' u z.0 z.1) (Then_b B (D c) goes B') F'' ts (if_goes true x e rest o)
    second is (got y c' r) (w, e', h') = (u ++ w, joined ts u w rest r eu e', (u, w, e, refl, h, is, h'))
    second is (rejected over_budget r) (w, t, r', er, e', h', l) =
        (u ++ w, t, r', er, joined ts u w rest r eu e', inr (u, w, x, e, refl, h, is, h'), subst F'' (sym (append_assoc u w (t ∷ []))) (fb e u x h is (w ++ t ∷ []) l))
    second is (rejected unexpected r) (w, e', h') = (u ++ w, joined ts u w rest r eu e', inr (u, w, x, e, refl, h, is, h'))
    second is out_of_fuel h' = tt

    go : (b : Bool) → goes x ≡ b → (b' : Bool)
        → Sound (λ c' u (z : A × Option C). Then D E goes c c' u z.0 z.1) (Then_b B (D c) goes B') F'' ts (if_goes (b && b') x e rest (q e rest))
    go true is true = second is (q e rest) (hq e rest)
    go true is false = (u, eu, h)
    go false is b' = (u, eu, h)
sound_then c D B F E B' F' F'' goes f fa fb ts (rejected over_budget rest) q (u, t, r, er, e, h, l) hq = (u, t, r, er, e, inl h, fa (u ++ t ∷ []) l)
sound_then c D B F E B' F' F'' goes f fa fb ts (rejected unexpected rest) q (u, e, h) hq = (u, e, inl h)
sound_then c D B F E B' F' F'' goes f fa fb ts out_of_fuel q h hq = tt

-- ---- a first token that passes a test

heads_of : {K V : Type 0} (f : K → Bool) (ts u rest : List (Token K V)) → at_first f ts ≡ true → ts ≡ u ++ rest → FirstPasses f u
heads_of f ts [] rest h e = tt
heads_of f ts (t ∷ u) rest h e = sym (ap (at_first f) e) ∙ h

heads_next : {K V : Type 0} (f : K → Bool) (ts u rest r : List (Token K V)) (t : (Token K V)) → at_first f ts ≡ true → ts ≡ u ++ rest → rest ≡ t ∷ r → FirstPasses f (u ++ t ∷ [])
heads_next f ts [] rest r t h e er = sym (ap (at_first f) (e ∙ er)) ∙ h
heads_next f ts (t' ∷ u) rest r t h e er = sym (ap (at_first f) e) ∙ h

sound_when : {K V A : Type 0} (f : K → Bool) (D : ℕ → List (Token K V) → A → Type 0) (B F F'' : List (Token K V) → Type 0) → B [] → ((u : List (Token K V)) → FirstPasses f u → F u → F'' u) → (ts : List (Token K V)) (o : Out (Token K V) A) → Sound D B F ts o
    → Sound (λ c u x. FirstPasses f u × D c u x) (λ u. FirstPasses f u × B u) F'' ts (cond (at_first f ts) o (rejected unexpected ts))
sound_when {K} {V} {A} f D B F F'' nil hf ts o h = go (at_first f ts) refl
  where
    kept : (o : Out (Token K V) A) → at_first f ts ≡ true → Sound D B F ts o → Sound (λ c u x. FirstPasses f u × D c u x) (λ u. FirstPasses f u × B u) F'' ts o
    kept (got x c rest) e (u, eu, p) = (u, eu, (heads_of f ts u rest e eu, p))
    kept (rejected over_budget rest) e (u, t, r, er, eu, p, l) = (u, t, r, er, eu, (heads_of f ts u rest e eu, p), hf (u ++ t ∷ []) (heads_next f ts u rest r t e eu er) l)
    kept (rejected unexpected rest) e (u, eu, p) = (u, eu, (heads_of f ts u rest e eu, p))
    kept out_of_fuel e h = tt

    go : (b : Bool) → at_first f ts ≡ b → Sound (λ c u x. FirstPasses f u × D c u x) (λ u. FirstPasses f u × B u) F'' ts (cond b o (rejected unexpected ts))
    go true e = kept o e h
    go false e = ([], refl, (tt, nil))

-- ---- no budget

sound_without_budget : {K V A : Type 0} (f : K → Bool) (D : ℕ → List (Token K V) → A → Type 0) (B F : List (Token K V) → Type 0) → B [] → ((t : (Token K V)) → f t.sight ≡ true → F (t ∷ [])) → (ts : List (Token K V)) → Sound D B F ts (without_budget f ts)
sound_without_budget f D B F nil h [] = ([], refl, nil)
sound_without_budget {K} {V} {A} f D B F nil h (t ∷ ts) = go (f t.sight) refl
  where
    go : (b : Bool) → f t.sight ≡ b → Sound D B F (t ∷ ts) (cond b (rejected over_budget (t ∷ ts)) (rejected unexpected (t ∷ ts)))
    go true e = ([], t, ts, refl, refl, nil, h t e)
    go false e = ([], refl, nil)

module _ (K V S : Type 0) (Sort : S → Type 0) (production : (s : S) → Part K V S Sort (Sort s)) (first_table : S → K → Bool) (nullable_table : S → Bool) (follow_last_table : S → K → Bool) where
  abbrev fst : {A : Type 0} → Part K V S Sort A → K → Bool
  fst a = first K V S Sort production first_table nullable_table a

  abbrev Ok : {A : Type 0} → Part K V S Sort A → Type 0
  Ok a = Decided K V S Sort production first_table nullable_table follow_last_table a

  abbrev Dn : ℕ → {A : Type 0} → Part K V S Sort A → ℕ → ℕ → ℕ → ℕ → List (Token K V) → A → Type 0
  Dn n a d l c e u x = Derives_by K V S Sort production (Derives K V S Sort production n) a d l c e u x

  abbrev Bn : ℕ → {A : Type 0} → Part K V S Sort A → ℕ → ℕ → ℕ → List (Token K V) → Type 0
  Bn n a d l c u = ViablePrefix_by K V S Sort production (Derives K V S Sort production n) (ViablePrefix K V S Sort production n) a d l c u

  abbrev Lg : {A : Type 0} → Part K V S Sort A → List (Token K V) → Type 0
  Lg a u = Large K V S Sort production first_table nullable_table follow_last_table a u

  -- ---- what begins in large budgets goes on doing so

  large_map : {A C : Type 0} (a : Part K V S Sort A) (b : Part K V S Sort C) (u u' : List (Token K V)) → ((n d l c : ℕ) → Bn n a d l c u → Bn n b d l c u') → Lg a u → Lg b u'
  large_map a b u u' h (n, (m, p)) = (n, (m, λ d l c hd hl hc. h n d l c (p d l c hd hl hc)))

  large_nest : {A : Type 0} (a : Part K V S Sort A) (u : List (Token K V)) → Lg a u → Lg (g.nest a) u
  large_nest {A} a u (n, (m, p)) = (n, (suc m, go))
    where
      go : (d l c : ℕ) → suc m ≤ d → suc m ≤ l → suc m ≤ c → Bn n (g.nest a) d l c u
      go zero l c hd hl hc = absurd (omega (arith, hd))
      go (suc d) l c hd hl hc = p d l c (omega (arith, hd)) (omega (arith, hl)) (omega (arith, hc))

  large_counts : {A : Type 0} (a : Part K V S Sort A) (u : List (Token K V)) → Lg a u → Lg (g.counts a) u
  large_counts {A} a u (n, (m, p)) = (n, (suc m, go))
    where
      go : (d l c : ℕ) → suc m ≤ d → suc m ≤ l → suc m ≤ c → Bn n (g.counts a) d l c u
      go d l zero hd hl hc = absurd (omega (arith, hc))
      go d l (suc c) hd hl hc = p d l c (omega (arith, hd)) (omega (arith, hl)) (omega (arith, hc))

  large_limited : {A : Type 0} (a : Part K V S Sort A) (u : List (Token K V)) → Lg a u → Lg (g.limited a) u
  large_limited a u (n, (m, p)) = (n, (m, λ d l c hd hl hc. p d l l hd hl hl))

  -- after a sentence of the part before
  large_after : {A C Z : Type 0} (k : ℕ) (a : Part K V S Sort A) (b : Part K V S Sort C) (z : Part K V S Sort Z) (d0 l0 c0 e0 : ℕ) (v : List (Token K V)) (x : A) → Dn k a d0 l0 c0 e0 v x → (w : List (Token K V))
      → ((n d l c e : ℕ) → Dn n a d l c e v x → Bn n b d l e w → Bn n z d l c (v ++ w)) → Lg b w → Lg z (v ++ w)
  large_after k a b z d0 l0 c0 e0 v x h w join (n, (m, p)) = (
    k + n,
    (
      m + (d0 + (l0 + c0)),
      λ d l c hd hl hc.
          let (e, ge, h') = grow_part K V S Sort production k (k + n) (omega arith) a d0 l0 c0 e0 v x h d l c (omega (arith, hd)) (omega (arith, hl)) (omega (arith, hc)) in
          join (k + n) d l c e h' (grow_viable_part K V S Sort production n (k + n) (omega arith) b d l e w (p d l e (omega (arith, hd)) (omega (arith, hl)) (omega (arith, ge, hc))) d l e (omega arith) (omega arith) (omega arith)),
    ),
  )

  module _ (rank : S → ℕ) (width : ℕ) (fine : IsDecided K V S Sort production first_table nullable_table follow_last_table rank width) where
    abbrev Fine : ℕ → {A : Type 0} → Part K V S Sort A → ℕ → ℕ → ℕ → List (Token K V) → Out (Token K V) A → Type 0
    Fine n a d l c ts o = Sound (Dn n a d l c) (Bn n a d l c) (Lg a) ts o

    nil_n : (n : ℕ) {A : Type 0} (a : Part K V S Sort A) (d l c : ℕ) → Bn n a d l c []
    nil_n n a d l c = viable_nil_by K V S Sort production (Derives K V S Sort production n) (ViablePrefix K V S Sort production n) (viable_nil K V S Sort production n) a d l c

    lead : {A : Type 0} (a : Part K V S Sort A) → Ok a → (t : (Token K V)) → fst a t.sight ≡ true → Lg a (t ∷ [])
    lead a ok t is = lead_part K V S Sort production first_table nullable_table follow_last_table rank width fine a ok t is

    sound_one : (n d l c : ℕ) (f : K → Bool) (ts : List (Token K V)) → Fine n (g.terminal f) d l c ts (one f c ts)
    sound_one n d l c f [] = ([], refl, tt)
    sound_one n d l c f (t ∷ ts) = go (f t.sight) refl
      where
        go : (b : Bool) → f t.sight ≡ b → Fine n (g.terminal f) d l c (t ∷ ts) (cond b (got t.face c ts) (rejected unexpected (t ∷ ts)))
        go true e = (t ∷ [], refl, (t, refl, e, refl, refl))
        go false e = ([], refl, tt)

    module _ (n : ℕ) (R : (s : S) → ℕ → ℕ → ℕ → List (Token K V) → Out (Token K V) (Sort s)) (h : (s : S) (d l c : ℕ) (ts : List (Token K V)) → Fine n (g.nonterminal s) d l c ts (R s d l c ts)) where
      abbrev Rd : {A : Type 0} → Part K V S Sort A → ℕ → ℕ → ℕ → List (Token K V) → Out (Token K V) A
      Rd a d l c ts = read_by K V S Sort production first_table nullable_table R a d l c ts

      pub sound_by : {A : Type 0} (a : Part K V S Sort A) → Ok a → (d l c : ℕ) (ts : List (Token K V)) → Fine n a d l c ts (Rd a d l c ts)
      sound_by (g.terminal f) ok d l c ts = sound_one n d l c f ts
      sound_by (g.nonterminal s) ok d l c ts = h s d l c ts
      sound_by (g.both a b) ok d l c ts =
          sound_both (Dn n a d l c) (Bn n a d l c) (Lg a) (Dn n b d l) (Bn n b d l) (Lg b) (Lg (g.both a b)) (λ u. large_map a (g.both a b) u u (λ n d l c p. inl p))
          (λ e v x p w. large_after n a b (g.both a b) d l c e v x p w (λ n d l c e p q. inr (v, w, x, e, refl, p, q)))
          ts (Rd a d l c ts) (Rd b d l) (sound_by a ok.0 d l c ts) (sound_by b ok.1 d l)
      sound_by (g.either a b) ok d l c ts =
          elim (at_first (fst a) ts) as (λ z. Fine n (g.either a b) d l c ts (cond z (Rd a d l c ts) (Rd b d l c ts))) [
            | true ↦ sound_weak _ _ _ _ _ _ (λ c u x p. inl p) (λ u p. inl p) (λ u. large_map a (g.either a b) u u (λ n d l c p. inl p)) ts (Rd a d l c ts) (sound_by a ok.0 d l c ts)
            | false ↦ sound_weak _ _ _ _ _ _ (λ c u x p. inr p) (λ u p. inr p) (λ u. large_map b (g.either a b) u u (λ n d l c p. inr p)) ts (Rd b d l c ts) (sound_by b ok.1 d l c ts)
          ]
      sound_by (g.maybe a) ok d l c ts =
          elim (at_first (fst a) ts) as (λ z. Fine n (g.maybe a) d l c ts (cond z (Rd a d l c ts >>= (λ x e rest. got (Some x) e rest)) (got None c ts))) [
            | true ↦ sound_map _ _ _ _ _ _ Some (λ e. e) (λ c u x p. p) (λ u p. inr p) (λ u. large_map a (g.maybe a) u u (λ n d l c p. inr p)) ts (Rd a d l c ts) (sound_by a ok.0 d l c ts)
            | false ↦ ([], refl, (refl, refl))
          ]
      sound_by (g.many a) ok d l c ts =
          sound_turns (Dn n a d l) (Bn n a d l) (Lg a) (Lg (g.many a)) (nil_n n a d l)
          (λ u. large_map a (g.many a) u u (λ n d l c p. inr ([], u, [], c, refl, (refl, refl), p)))
          (λ c e v x p w. large_after n a (g.many a) (g.many a) d l c e v x p w (λ n d l c e p q. many_more (Dn n a d l) (Bn n a d l) (nil_n n a d l) c e v w x p q))
          (fst a) (Rd a d l) (sound_by a ok.0 d l) (length ts) c ts
      sound_by (g.then_if a goes b) ok d l c ts =
          sound_then c (Dn n a d l) (Bn n a d l c) (Lg a) (Dn n b d l) (Bn n b d l) (Lg b) (Lg (g.then_if a goes b)) goes (fst b) (λ u. large_map a (g.then_if a goes b) u u (λ n d l c p. inl p))
          (λ e v x p is w. large_after n a b (g.then_if a goes b) d l c e v x p w (λ n d l c e p q. inr (v, w, x, e, refl, p, is, q)))
          ts (Rd a d l c ts) (Rd b d l) (sound_by a ok.0 d l c ts) (sound_by b ok.1 d l)
      sound_by (g.when f a) ok d l c ts =
          sound_when f (Dn n a d l c) (Bn n a d l c) (Lg a) (Lg (g.when f a)) (nil_n n a d l c) (λ u hd. large_map a (g.when f a) u u (λ n d l c p. (hd, p))) ts (Rd a d l c ts) (sound_by a ok.0 d l c ts)
      sound_by (g.nest a) ok zero l c ts = sound_without_budget (fst a) _ _ (Lg (g.nest a)) refl (λ t is. large_nest a (t ∷ []) (lead a ok.0 t is)) ts
      sound_by (g.nest a) ok (suc d) l c ts = sound_weak _ _ _ _ _ _ (λ c u x p. p) (λ u p. p) (large_nest a) ts (Rd a d l c ts) (sound_by a ok.0 d l c ts)
      sound_by (g.counts a) ok d l zero ts = sound_without_budget (fst a) _ _ (Lg (g.counts a)) refl (λ t is. large_counts a (t ∷ []) (lead a ok.0 t is)) ts
      sound_by (g.counts a) ok d l (suc c) ts = sound_weak _ _ _ _ _ _ (λ c u x p. p) (λ u p. p) (large_counts a) ts (Rd a d l c ts) (sound_by a ok.0 d l c ts)
      sound_by (g.limited a) ok d l c ts = sound_map _ _ _ _ _ _ (λ x. x) (λ _. c) (λ e u x p. (e, p, refl)) (λ u p. p) (large_limited a) ts (Rd a d l l ts) (sound_by a ok d l l ts)
      sound_by (g.gives f a) ok d l c ts = sound_map _ _ _ _ _ _ f (λ e. e) (λ e u x p. (x, p, refl)) (λ u p. p) (λ u. large_map a (g.gives f a) u u (λ n d l c p. p)) ts (Rd a d l c ts) (sound_by a ok d l c ts)

    pub sound : (n : ℕ) (s : S) (d l c : ℕ) (ts : List (Token K V)) → Fine n (g.nonterminal s) d l c ts (read K V S Sort production first_table nullable_table n s d l c ts)
    sound zero s d l c ts = tt
    sound (suc n) s d l c ts =
        sound_weak _ _ (Lg (production s)) _ _ (Lg (g.nonterminal s)) (λ c u x p. p) (λ u p. p) (λ u p. (suc p.0, p.1)) ts _ (sound_by n (read K V S Sort production first_table nullable_table n) (sound n) (production s) (fine.table s).decided d l c ts)
