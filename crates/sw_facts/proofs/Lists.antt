-- Numbered lists, as loops make them.
use Rattle.std.proofs.Common.{arith, ◌≡◌, ℕ, ◌+◌, ◌<◌, ◌≤◌, List, [], ◌∷◌, ◌++◌, drop, length, get_or, refl, sym, ap, ◌∙◌, append_assoc}
use Rattle.std.specs.List.{flat_map}
use Rattle.std.proofs.lemmas.List.{drop_more, drop_all, length-append}
use Rattle.sw_facts.specs.Numbers.{numbered, counted}

pub append_nil : {A : Type 0} (xs : List A) → xs ++ [] ≡ xs
append_nil [] = refl
append_nil (x ∷ xs) = ap (λ ys. x ∷ ys) (append_nil xs)

pub numbered_step : {A B : Type 0} (make : ℕ → A → B) (n n1 : ℕ) (out out1 all : List B) (xs : List A) (i : ℕ) (x : A) → i < length xs → x ≡ get_or xs i x → n1 ≡ n + 1
    → out ++ numbered make n (drop i xs) ≡ all → out1 ≡ out ++ make n x ∷ [] → out1 ++ numbered make n1 (drop (i + 1) xs) ≡ all
unfolding numbered
numbered_step make n n1 out out1 all xs i x h e p k q =
    let rest = drop (i + 1) xs in
    ap (λ o. o ++ numbered make n1 rest) q ∙ ap (λ m. (out ++ make n x ∷ []) ++ numbered make m rest) p
    ∙ append_assoc out (make n x ∷ []) (numbered make (n + 1) rest)
    ∙ ap (λ l. out ++ numbered make n l) (ap (λ z. z ∷ rest) e ∙ sym (drop_more xs i x h)) ∙ k

pub numbered_end : {A B : Type 0} (make : ℕ → A → B) (n : ℕ) (out all : List B) (xs : List A) (i : ℕ) → length xs ≤ i → out ++ numbered make n (drop i xs) ≡ all → out ≡ all
unfolding numbered
numbered_end make n out all xs i h k = sym (append_nil out) ∙ sym (ap (λ l. out ++ numbered make n l) (drop_all i xs h)) ∙ k

pub counted_step : {A B C : Type 0} (takes : A → List C) (make : ℕ → A → List B) (n n1 : ℕ) (out out1 all : List B) (xs : List A) (i : ℕ) (x : A) → i < length xs → x ≡ get_or xs i x → n1 ≡ n + length (takes x)
    → out ++ counted takes make n (drop i xs) ≡ all → out1 ≡ out ++ make n x → out1 ++ counted takes make n1 (drop (i + 1) xs) ≡ all
unfolding counted
counted_step takes make n n1 out out1 all xs i x h e p k q =
    let rest = drop (i + 1) xs in
    ap (λ o. o ++ counted takes make n1 rest) q ∙ ap (λ m. (out ++ make n x) ++ counted takes make m rest) p
    ∙ append_assoc out (make n x) (counted takes make (n + length (takes x)) rest)
    ∙ ap (λ l. out ++ counted takes make n l) (ap (λ z. z ∷ rest) e ∙ sym (drop_more xs i x h)) ∙ k

pub counted_end : {A B C : Type 0} (takes : A → List C) (make : ℕ → A → List B) (n : ℕ) (out all : List B) (xs : List A) (i : ℕ) → length xs ≤ i → out ++ counted takes make n (drop i xs) ≡ all → out ≡ all
unfolding counted
counted_end takes make n out all xs i h k = sym (append_nil out) ∙ sym (ap (λ l. out ++ counted takes make n l) (drop_all i xs h)) ∙ k

-- how much all have of something
pub sum_step : {A C : Type 0} (f : A → List C) (n n1 all : ℕ) (xs : List A) (i : ℕ) (x : A) → i < length xs → x ≡ get_or xs i x
    → n + length (flat_map f (drop i xs)) ≡ all → n1 ≡ n + length (f x) → n1 + length (flat_map f (drop (i + 1) xs)) ≡ all
sum_step f n n1 all xs i x h e p q =
    let rest = drop (i + 1) xs in
    let split : flat_map f (drop i xs) ≡ f x ++ flat_map f rest = ap (flat_map f) (sym (ap (λ z. z ∷ rest) e ∙ sym (drop_more xs i x h))) in
    let long : length (flat_map f (drop i xs)) ≡ length (f x) + length (flat_map f rest) = ap length split ∙ length-append (f x) (flat_map f rest) in
    omega (arith, long, p, q)

pub sum_end : {A C : Type 0} (f : A → List C) (n all : ℕ) (xs : List A) (i : ℕ) → length xs ≤ i → n + length (flat_map f (drop i xs)) ≡ all → n ≡ all
sum_end f n all xs i h p =
    let ended : flat_map f (drop i xs) ≡ [] = ap (flat_map f) (drop_all i xs h) in
    let none_left : length (flat_map f (drop i xs)) ≡ 0 = ap length ended in
    omega (arith, none_left, p)

pub length_both : {A : Type 0} (xs ys : List A) → length (xs ++ ys) ≡ length xs + length ys
length_both xs ys = length-append xs ys

pub three : {A : Type 0} (old one two all : List A) (a b c : A) → one ≡ old ++ a ∷ [] → two ≡ one ++ b ∷ [] → all ≡ two ++ c ∷ [] → all ≡ old ++ a ∷ b ∷ c ∷ []
three old one two all a b c p q r =
    r ∙ ap (λ l. l ++ c ∷ []) q ∙ ap (λ l. (l ++ b ∷ []) ++ c ∷ []) p
    ∙ ap (λ l. l ++ c ∷ []) (append_assoc old (a ∷ []) (b ∷ []))
    ∙ append_assoc old (a ∷ b ∷ []) (c ∷ [])
