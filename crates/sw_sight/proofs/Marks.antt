-- What the level of a name tells of a sight.
use Rattle.std.proofs.Common.{◌≡◌, ◌≤◌, ◌<◌, ℕ, zero, suc, ◌+◌, arith, List, [], ◌∷◌, map, Bool, true, false, ◌||◌, cond, refl, sym, ap, ◌∙◌, Option, Some, None, nat_lt}
use Rattle.std.proofs.lemmas.Bool.Decides.{nat_tests}
use Rattle.sw_sight.specs.InSight.{Text, Sight, same, closed, in_sight, in_scope}
use Rattle.sw_sight.specs.Levels.{Entries, level, IsKnown}
use Rattle.sw_sight.specs.Linked.{Marks, word_of, words_of, scopes, level_of, AreLinked}
use Rattle.sw_sight.specs.declared.sight.Local.{Local}
use Rattle.sw_sight.proofs.Words.{same_sym, same_true}

pub level_within : (x : Text) (marks : Marks) → level_of x marks ≤ suc (scopes marks)
unfolding level_of scopes
level_within x [] = omega arith
level_within x (None ∷ marks) = let h : level_of x marks ≤ suc (scopes marks) = level_within x marks in omega arith
level_within x (Some l ∷ marks) = go (level_within x marks) (same x l.name)
  where
    go : level_of x marks ≤ suc (scopes marks) → (t : Bool) → cond t (suc (scopes marks)) (level_of x marks) ≤ suc (scopes marks)
    go i true = omega arith
    go i false = i

pub in_sight_by : (x : Text) (marks : Marks) → in_sight x (words_of marks) ≡ nat_lt 0 (level_of x marks)
unfolding in_sight level_of
in_sight_by x [] = refl
in_sight_by x (None ∷ marks) = in_sight_by x marks
in_sight_by x (Some l ∷ marks) = ap (λ t. t || in_sight x (words_of marks)) (same_sym l.name x) ∙ go (in_sight_by x marks) (same x l.name)
  where
    go : in_sight x (words_of marks) ≡ nat_lt 0 (level_of x marks) → (t : Bool) → (t || in_sight x (words_of marks)) ≡ nat_lt 0 (cond t (suc (scopes marks)) (level_of x marks))
    go i true = let n : ℕ = scopes marks in grind (arith, nat_tests)
    go i false = i

pub in_scope_by : (x : Text) (marks : Marks) → in_scope x (words_of marks) ≡ nat_lt (scopes marks) (level_of x marks)
unfolding in_scope level_of scopes
in_scope_by x [] = refl
in_scope_by x (None ∷ marks) = let h = level_within x marks in grind (arith, nat_tests, h)
in_scope_by x (Some l ∷ marks) = ap (λ t. t || in_scope x (words_of marks)) (same_sym l.name x) ∙ go (in_scope_by x marks) (same x l.name)
  where
    go : in_scope x (words_of marks) ≡ nat_lt (scopes marks) (level_of x marks) → (t : Bool) → (t || in_scope x (words_of marks)) ≡ nat_lt (scopes marks) (cond t (suc (scopes marks)) (level_of x marks))
    go i true = let n : ℕ = scopes marks in grind (arith, nat_tests)
    go i false = i

-- tables that keep no fewer names serve the same marks
pub still_linked : (old new : Entries) (marks : Marks) → ((x : Text) → IsKnown x old → IsKnown x new) → AreLinked old marks → AreLinked new marks
unfolding AreLinked
still_linked old new [] keeps h = tt
still_linked old new (None ∷ marks) keeps h = still_linked old new marks keeps h
still_linked old new (Some l ∷ marks) keeps h = (h.0, keeps l.name h.1, still_linked old new marks keeps h.2)

-- ---- the marks of a sight, as they are changed

pub level_bound : (x : Text) (l : Local) (marks : Marks) → level_of x (Some l ∷ marks) ≡ cond (same x l.name) (suc (scopes marks)) (level_of x marks)
unfolding level_of
level_bound x l marks = refl

-- a name is bound
pub bound : (old new : Entries) (l : Local) (marks : Marks) (depth deeper : ℕ) → depth ≡ scopes marks → deeper ≡ depth + 1 → l.hidden ≡ level l.name old → ((x : Text) → level x old ≡ level_of x marks)
    → ((x : Text) → level x new ≡ cond (same x l.name) deeper (level x old)) → (x : Text) → level x new ≡ level_of x (Some l ∷ marks)
unfolding level_of
bound old new l marks depth deeper d e h levels set x =
    let n : deeper ≡ suc (scopes marks) = omega arith in
    set x ∙ ap (λ v. cond (same x l.name) v (level x old)) n ∙ ap (cond (same x l.name) (suc (scopes marks))) (levels x)

-- the last name is taken off
pub unbound : (old new : Entries) (l : Local) (marks : Marks) → l.hidden ≡ level_of l.name marks → ((x : Text) → level x old ≡ level_of x (Some l ∷ marks))
    → ((x : Text) → level x new ≡ cond (same x l.name) l.hidden (level x old)) → (x : Text) → level x new ≡ level_of x marks
unfolding level_of
unbound old new l marks h levels set x = set x ∙ go (same x l.name) refl (levels x)
  where
    go : (t : Bool) → same x l.name ≡ t → level x old ≡ cond t (suc (scopes marks)) (level_of x marks) → cond t l.hidden (level x old) ≡ level_of x marks
    go true p k = h ∙ ap (λ y. level_of y marks) (sym (same_true x l.name p))
    go false p k = k

-- ---- a sight as it is changed

pub none_linked : (entries : Entries) → entries ≡ [] → (x : Text) → level x entries ≡ level_of x []
unfolding level level_of
none_linked entries e x = ap (level x) e

pub opened : (x : Text) (marks : Marks) → level_of x (None ∷ marks) ≡ level_of x marks
unfolding level_of
opened x marks = refl
