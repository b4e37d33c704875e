-- How a nonterminal is read, by its production: what is common to all.
use Rattle.std.proofs.Common.{◌≡◌, ℕ, zero, suc, ◌-◌, Bool, true, false, ◌||◌, cond, List, [], ◌∷◌, refl, sym, ap, ◌∙◌, arith}
use Rattle.sw_grammar.specs.Grammar as g
use Rattle.sw_grammar.specs.Reading.{Out, got, rejected, out_of_fuel, over_budget, unexpected, ◌>>=◌, at_first, one, first, nullable}
use Rattle.sw_grammar.specs.Deciding.{Decided}
use Rattle.sw_grammar.proofs.Equations.{reads_step, many_step}
use Rattle.sw_syntax.specs.declared.class.Sight.{Sight}
use Rattle.sw_syntax.specs.Tokens.{Sighted, Face}
use Rattle.sw_syntax.specs.Nonterminals.{Nonterminal, Sort}
use Rattle.sw_syntax.specs.Parts.{P}
use Rattle.sw_syntax.specs.Grammar.{production}
use Rattle.sw_syntax.specs.Tables.{first_table, follow_last_table, nullable_table, rank, width}
use Rattle.sw_syntax.specs.Answering.{read, read_part}
use Rattle.sw_syntax.proofs.Decides.{is_decided}

-- the reader's equation
pub step : (lenient : Bool) → (s : Nonterminal) (d l c : ℕ) (ts : List Sighted) → read lenient s d l c ts ≡ read_part lenient (production lenient s) d l c ts
unfolding read
step lenient = reads_step Sight Face Nonterminal Sort (production lenient) first_table nullable_table follow_last_table rank width (is_decided lenient)

abbrev pub starts : (lenient : Bool) → {A : Type 0} → P A → Sight → Bool
starts lenient a = first Sight Face Nonterminal Sort (production lenient) first_table nullable_table a

abbrev pub IsOk : (lenient : Bool) → {A : Type 0} → P A → Type 0
IsOk lenient a = Decided Sight Face Nonterminal Sort (production lenient) first_table nullable_table follow_last_table a

abbrev pub is_solid : (lenient : Bool) → {A : Type 0} → P A → Type 0
is_solid lenient a = nullable Sight Face Nonterminal Sort (production lenient) first_table nullable_table a ≡ false

-- one turn of a repetition
pub turn : (lenient : Bool) → {A : Type 0} (a : P A) → IsOk lenient a → is_solid lenient a → (d l c : ℕ) (ts : List Sighted)
    → read_part lenient (g.many a) d l c ts ≡ cond (at_first (starts lenient a) ts) (read_part lenient a d l c ts >>= (λ x c' rest. read_part lenient (g.many a) d l c' rest >>= (λ xs c'' r. got (x ∷ xs) c'' r))) (got [] c ts)
unfolding read
turn lenient a ok solid d l c ts = many_step Sight Face Nonterminal Sort (production lenient) first_table nullable_table follow_last_table rank width (is_decided lenient) a ok solid d l c ts

-- ---- binds

pub bind_assoc : {A B C : Type 0} (o : Out Sighted A) (f : A → ℕ → List Sighted → Out Sighted B) (h : B → ℕ → List Sighted → Out Sighted C) → ((o >>= f) >>= h) ≡ (o >>= (λ x c r. f x c r >>= h))
bind_assoc (got x c r) f h = refl
bind_assoc (rejected reason r) f h = refl
bind_assoc out_of_fuel f h = refl

pub bind_same : {A B : Type 0} (o : Out Sighted A) (f h : A → ℕ → List Sighted → Out Sighted B) → ((x : A) (c : ℕ) (r : List Sighted) → f x c r ≡ h x c r) → (o >>= f) ≡ (o >>= h)
bind_same (got x c r) f h e = e x c r
bind_same (rejected reason r) f h e = refl
bind_same out_of_fuel f h e = refl

pub chosen : {A : Type 0} (b b' : Bool) (x y : A) → b ≡ b' → cond b x y ≡ cond b' x y
chosen b b' x y e = ap (λ b. cond b x y) e

-- a part and then a function of it
pub bind_then : {A B C : Type 0} (o : Out Sighted A) (q : ℕ → List Sighted → Out Sighted B) (f : A × B → C)
    → ((o >>= (λ x c r. q c r >>= (λ y c' r'. got (x, y) c' r'))) >>= (λ z c r. got (f z) c r)) ≡ (o >>= (λ x c r. q c r >>= (λ y c' r'. got (f (x, y)) c' r')))
bind_then o q f = bind_assoc o _ _ ∙ bind_same o _ _ (λ x c r. bind_assoc (q c r) _ _)

-- three parts, the last two in one
pub bracketed : {A B C E : Type 0} (o : Out Sighted A) (q : ℕ → List Sighted → Out Sighted B) (s : ℕ → List Sighted → Out Sighted C) (f : A × (B × C) → E)
    → ((o >>= (λ x c r. (q c r >>= (λ y c' r'. s c' r' >>= (λ z c'' r''. got (y, z) c'' r''))) >>= (λ w c' r'. got (x, w) c' r'))) >>= (λ v c r. got (f v) c r))
    ≡ (o >>= (λ x c r. q c r >>= (λ y c' r'. s c' r' >>= (λ z c'' r''. got (f (x, (y, z))) c'' r''))))
bracketed {A} {B} {C} (got x c r) q s f = go (q c r)
  where
    last : (o : Out Sighted C) (y : B) → (((o >>= (λ z c r. got (y, z) c r)) >>= (λ w c r. got (x, w) c r)) >>= (λ v c r. got (f v) c r)) ≡ (o >>= (λ z c r. got (f (x, (y, z))) c r))
    last (got z c r) y = refl
    last (rejected reason r) y = refl
    last out_of_fuel y = refl

    go : (o : Out Sighted B) → (((o >>= (λ y c r. s c r >>= (λ z c' r'. got (y, z) c' r'))) >>= (λ w c r. got (x, w) c r)) >>= (λ v c r. got (f v) c r)) ≡ (o >>= (λ y c r. s c r >>= (λ z c' r'. got (f (x, (y, z))) c' r')))
    go (got y c r) = last (s c r) y
    go (rejected reason r) = refl
    go out_of_fuel = refl
bracketed (rejected reason r) q s f = refl
bracketed out_of_fuel q s f = refl

pub less_one : (n : ℕ) → suc n - 1 ≡ n
less_one n = omega arith

-- ---- single tokens

pub one_none : (f : Sight → Bool) (c : ℕ) (ts : List Sighted) → at_first f ts ≡ false → one f c ts ≡ rejected unexpected ts
one_none f c [] h = refl
one_none f c (t ∷ ts) h = chosen (f t.sight) false (got t.face c ts) (rejected unexpected (t ∷ ts)) h

-- a token that is counted, where there is room; and where there is none
pub counted : (lenient : Bool) → (f : Sight → Bool) (d l c : ℕ) (ts : List Sighted) → (c ≡ 0 → ⊥) → read_part lenient (g.counts (g.terminal f)) d l c ts ≡ one f (c - 1) ts
counted lenient f d l zero ts z = absurd (z refl)
counted lenient f d l (suc c) ts z = ap (λ n. one f n ts) (sym (less_one c))

pub counted_over_budget : (lenient : Bool) → (f : Sight → Bool) (d l c : ℕ) (ts : List Sighted) → c ≡ 0 → at_first f ts ≡ true → read_part lenient (g.counts (g.terminal f)) d l c ts ≡ rejected over_budget ts
counted_over_budget lenient f d l zero ts z h = chosen (at_first f ts) true (rejected over_budget ts) (rejected unexpected ts) h
counted_over_budget lenient f d l (suc c) ts z h = absurd (omega (arith, z))

-- ---- brackets

pub opened : (lenient : Bool) → {A : Type 0} (a : P A) (d l c : ℕ) (ts : List Sighted) → (d ≡ 0 → ⊥) → read_part lenient (g.nest a) d l c ts ≡ read_part lenient a (d - 1) l c ts
opened lenient a zero l c ts z = absurd (z refl)
opened lenient a (suc d) l c ts z = ap (λ n. read_part lenient a n l c ts) (sym (less_one d))

pub opened_over_budget : (lenient : Bool) → {A : Type 0} (a : P A) (d l c : ℕ) (ts : List Sighted) → d ≡ 0 → at_first (starts lenient a) ts ≡ true → read_part lenient (g.nest a) d l c ts ≡ rejected over_budget ts
opened_over_budget lenient a zero l c ts z h = chosen (at_first (starts lenient a) ts) true (rejected over_budget ts) (rejected unexpected ts) h
opened_over_budget lenient a (suc d) l c ts z h = absurd (omega (arith, z))

-- ---- tests that stand in others

or_left : (a b : Bool) → a ≡ true → (a || b) ≡ true
or_left true b e = refl
or_left false b e = cc

or_right : (a b : Bool) → b ≡ true → (a || b) ≡ true
or_right true b e = refl
or_right false b e = e

pub first_left : (f h : Sight → Bool) (ts : List Sighted) → at_first f ts ≡ true → at_first (λ t. f t || h t) ts ≡ true
first_left f h [] e = e
first_left f h (t ∷ ts) e = or_left (f t.sight) (h t.sight) e

pub first_right : (f h : Sight → Bool) (ts : List Sighted) → at_first h ts ≡ true → at_first (λ t. f t || h t) ts ≡ true
first_right f h [] e = e
first_right f h (t ∷ ts) e = or_right (f t.sight) (h t.sight) e

-- ---- repetitions, folded from the left: at their end, and one item on
module _ (lenient : Bool) {X E : Type 0} (a : P X) (ok : IsOk lenient a) (solid : is_solid lenient a)
    (all : E → List X → E) (more : E → X → E) (cons : (left : E) (x : X) (xs : List X) → all left (x ∷ xs) ≡ all (more left x) xs) where
  pub fold_end : (d l c : ℕ) (left : E) (ts : List Sighted) → at_first (starts lenient a) ts ≡ false → (read_part lenient (g.many a) d l c ts >>= (λ xs c' r. got (all left xs) c' r)) ≡ got (all left []) c ts
  fold_end d l c left ts e = ap (λ o. o >>= (λ xs c' r. got (all left xs) c' r)) (turn lenient a ok solid d l c ts ∙ chosen (at_first (starts lenient a) ts) false _ (got [] c ts) e)

  pub fold_more : (d l c : ℕ) (left : E) (ts : List Sighted) → at_first (starts lenient a) ts ≡ true
      → (read_part lenient (g.many a) d l c ts >>= (λ xs c' r. got (all left xs) c' r)) ≡ (read_part lenient a d l c ts >>= (λ x c' r. read_part lenient (g.many a) d l c' r >>= (λ xs c'' r'. got (all (more left x) xs) c'' r')))
  fold_more d l c left ts e =
      let items : X → ℕ → List Sighted → Out Sighted (List X) = λ x c' rest. read_part lenient (g.many a) d l c' rest >>= (λ xs c'' r. got (x ∷ xs) c'' r) in
      let fin : List X → ℕ → List Sighted → Out Sighted E = λ xs c' r. got (all left xs) c' r in
      ap (λ o. o >>= fin) (turn lenient a ok solid d l c ts ∙ chosen (at_first (starts lenient a) ts) true (read_part lenient a d l c ts >>= items) (got [] c ts) e)
      ∙ bind_assoc (read_part lenient a d l c ts) items fin
      ∙ bind_same (read_part lenient a d l c ts) _ _ (λ x c' r. bind_assoc (read_part lenient (g.many a) d l c' r) (λ xs c'' r'. got (x ∷ xs) c'' r') fin
      ∙ bind_same (read_part lenient (g.many a) d l c' r) _ _ (λ xs c'' r'. ap (λ y. got y c'' r') (cons left x xs)))
