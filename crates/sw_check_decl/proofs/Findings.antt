-- What is kept of refusals that are reported one after another.
use Rattle.std.proofs.Common.{◌≡◌, ℕ, ◌+◌, ◌<◌, ◌≤◌, Option, List, [], ◌∷◌, ◌++◌, ◌∙◌, take, length, get_or, refl, sym, ap, append-nil}
use Rattle.std.specs.List.{flat_map}
use Rattle.std.proofs.lemmas.List.{take_more, take_all, flat_map_more}
use Rattle.sw_rules.specs.declared.Refusal.{Refusal}
use Rattle.sw_findings.specs.Found.{keep, keep_all}

pub keep_append : (kept : Option Refusal) (xs ys : List Refusal) → keep_all kept (xs ++ ys) ≡ keep_all (keep_all kept xs) ys
unfolding keep_all
keep_append kept [] ys = refl
keep_append kept (x ∷ xs) ys = keep_append (keep kept x) xs ys

pub keep_none : (kept : Option Refusal) → keep_all kept [] ≡ kept
unfolding keep_all
keep_none kept = refl

pub each_start : {A : Type 0} (f : A → List Refusal) (xs : List A) (kept : Option Refusal) → kept ≡ keep_all kept (flat_map f (take 0 xs))
each_start f [] kept = sym (keep_none kept)
each_start f (x ∷ xs) kept = sym (keep_none kept)

-- what one more item breaks is reported
pub each_step : {A : Type 0} (f : A → List Refusal) (start mid end : Option Refusal) (xs : List A) (i : ℕ) (y : A) → i < length xs → y ≡ get_or xs i y
    → mid ≡ keep_all start (flat_map f (take i xs)) → end ≡ keep_all mid (f y) → end ≡ keep_all start (flat_map f (take (i + 1) xs))
each_step f start mid end xs i y h e p q =
    q ∙ ap (λ k. keep_all k (f y)) p ∙ sym (keep_append start (flat_map f (take i xs)) (f y))
    ∙ ap (keep_all start) (flat_map_more f [] (take i xs) y ∙ ap (λ z. flat_map f (take i xs ++ z ∷ [])) e ∙ ap (flat_map f) (sym (take_more xs i y h)))

-- what all items break is
pub each_end : {A : Type 0} (f : A → List Refusal) (start end : Option Refusal) (xs : List A) (i : ℕ) → end ≡ keep_all start (flat_map f (take i xs)) → length xs ≤ i → end ≡ keep_all start (flat_map f xs)
each_end f start end xs i p h = p ∙ ap (λ l. keep_all start (flat_map f l)) (take_all i xs h)

-- for functions that report what one thing breaks after another
pub ruleset keep_rules = (keep_append, keep_none, append-nil)
