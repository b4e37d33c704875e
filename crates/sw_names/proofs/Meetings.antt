-- Scopes in which one declaration is met after another.
use Rattle.std.proofs.Common.{◌≡◌, ℕ, ◌+◌, ◌<◌, ◌≤◌, Bool, true, false, ◌||◌, ◌&&◌, List, [], ◌∷◌, ◌++◌, ◌∙◌, take, length, get_or, refl, sym, ap, subst, append_assoc, append-nil}
use Rattle.std.specs.List.{list_any, flat_map}
use Rattle.std.proofs.lemmas.List.{take_more, take_all, flat_map_more}
use Rattle.sw_rules.specs.declared.Rule.TheVariants.{N1}
use Rattle.sw_findings.specs.Found.{when, keep_all}
use Rattle.sw_sight.specs.InSight.{Text, same}
use Rattle.sw_sight.specs.Levels.{Entries, level}
use Rattle.sw_declared.specs.Members.{Label, same_labels}
use Rattle.sw_declared.specs.Spelling.{spelled}
use Rattle.sw_names.specs.Keys.{Key, same_key}
use Rattle.sw_names.specs.Meeting.{repeats, is_met, spelling, AreMet, Meets}
use Rattle.sw_names.specs.declared.meeting.Scope.{Scope}
use Rattle.sw_names.proofs.Findings.{keep_append}

-- what the law of spellings says
abbrev pub SpellingsTell : Type 0
SpellingsTell = (a b : List ℕ) (xs ys : List Label) → same (spelled a xs) (spelled b ys) ≡ (same a b && same_labels xs ys)

abbrev is_spelled : Text → List Key → Bool
is_spelled x = list_any (λ key. same x (spelling key))

told : SpellingsTell → (key : Key) (keys : List Key) → is_spelled (spelling key) keys ≡ list_any (same_key key) keys
told tell key [] = refl
told tell key (k ∷ keys) =
    ap (λ t. t || is_spelled (spelling key) keys) (tell key.name k.name key.labels k.labels) ∙ ap (λ t. same_key key k || t) (told tell key keys)

swapped : (a b c : Bool) → (a || (b || c)) ≡ (b || (a || c))
swapped true true c = refl
swapped true false c = refl
swapped false true c = refl
swapped false false c = refl

spelled_more : (x : Text) (keys : List Key) (key : Key) → is_spelled x (keys ++ key ∷ []) ≡ (same x (spelling key) || is_spelled x keys)
spelled_more x [] key = refl
spelled_more x (k ∷ keys) key =
    ap (λ t. same x (spelling k) || t) (spelled_more x keys key) ∙ swapped (same x (spelling k)) (same x (spelling key)) (is_spelled x keys)

repeats_append : (before xs ys : List Key) → repeats before (xs ++ ys) ≡ repeats before xs ++ repeats (before ++ xs) ys
unfolding repeats
repeats_append before [] ys = ap (λ l. repeats l ys) (sym (append-nil before))
repeats_append before (x ∷ xs) ys =
    ap (λ l. when (list_any (same_key x) before) N1 x.at ++ l) (repeats_append (before ++ x ∷ []) xs ys ∙ ap (λ l. repeats (before ++ x ∷ []) xs ++ repeats l ys) (append_assoc before (x ∷ []) xs))
    ∙ sym (append_assoc (when (list_any (same_key x) before) N1 x.at) (repeats (before ++ x ∷ []) xs) (repeats (before ++ x ∷ xs) ys))

pub meets_one : SpellingsTell → (key : Key) (old new : Scope)
    → ((x : Text) → is_met x new.met ≡ (same x (spelling key) || is_met x old.met))
    → new.found ≡ keep_all old.found (when (is_met (spelling key) old.met) N1 key.at) → Meets (key ∷ []) old new
unfolding AreMet repeats
meets_one tell key old new m f = record {
  met = λ before h x. m x ∙ ap (λ t. same x (spelling key) || t) (h x) ∙ sym (spelled_more x before key);
  found = λ before h. f ∙ ap (λ t. keep_all old.found (when t N1 key.at)) (h (spelling key) ∙ told tell key before)
      ∙ ap (keep_all old.found) (sym (append-nil (when (list_any (same_key key) before) N1 key.at)));
}

pub meets_none : (scope : Scope) → Meets [] scope scope
unfolding repeats keep_all
meets_none scope = record {
  met = λ before h. subst (λ l. AreMet l scope.met) (sym (append-nil before)) h;
  found = λ before h. refl;
}

pub meets_append : (xs ys : List Key) (a b c : Scope) → Meets xs a b → Meets ys b c → Meets (xs ++ ys) a c
meets_append xs ys a b c p q = record {
  met = λ before h. subst (λ l. AreMet l c.met) (append_assoc before xs ys) (q.met (before ++ xs) (p.met before h));
  found = λ before h. q.found (before ++ xs) (p.met before h) ∙ ap (λ k. keep_all k (repeats (before ++ xs) ys)) (p.found before h)
      ∙ sym (keep_append a.found (repeats before xs) (repeats (before ++ xs) ys)) ∙ ap (keep_all a.found) (sym (repeats_append before xs ys));
}

pub each_start : {A : Type 0} (f : A → List Key) (xs : List A) (scope : Scope) → Meets (flat_map f (take 0 xs)) scope scope
each_start f [] scope = meets_none scope
each_start f (x ∷ xs) scope = meets_none scope

-- one more item is met
pub each_step : {A : Type 0} (f : A → List Key) (start mid end : Scope) (xs : List A) (i : ℕ) (y : A) → i < length xs → y ≡ get_or xs i y
    → Meets (flat_map f (take i xs)) start mid → Meets (f y) mid end → Meets (flat_map f (take (i + 1) xs)) start end
each_step f start mid end xs i y h e p q =
    subst (λ l. Meets l start end)
    (flat_map_more f [] (take i xs) y ∙ ap (λ z. flat_map f (take i xs ++ z ∷ [])) e ∙ ap (flat_map f) (sym (take_more xs i y h)))
    (meets_append (flat_map f (take i xs)) (f y) start mid end p q)

-- all items are
pub each_end : {A : Type 0} (f : A → List Key) (start end : Scope) (xs : List A) (i : ℕ) → Meets (flat_map f (take i xs)) start end → length xs ≤ i → Meets (flat_map f xs) start end
each_end f start end xs i p h = subst (λ l. Meets (flat_map f l) start end) (take_all i xs h) p

pub nothing_met : AreMet [] []
unfolding AreMet is_met level
nothing_met x = refl

-- one more spelling is met, of what is declared before all others
pub met_more : (key : Key) (keys : List Key) (old new : Entries) → ((x : Text) → is_met x new ≡ (same x (spelling key) || is_met x old)) → AreMet keys old → AreMet (key ∷ keys) new
unfolding AreMet
met_more key keys old new m h = λ x. m x ∙ ap (λ t. same x (spelling key) || t) (h x)
