-- Digits and the numbers that they write.
use Rattle.std.proofs.Common.{◌≡◌, ℕ, ◌+◌, ◌*◌, ◌-◌, ◌<◌, ◌≤◌, List, [], ◌∷◌, ◌++◌, length, drop, get_or, Bool, refl, sym, ◌∙◌, arith, subst, rules}
use Rattle.std.proofs.lemmas.Bool.{false≢true}
use Rattle.std.proofs.lemmas.List.{at_drop_more}
use Rattle.std.proofs.lemmas.Str.Parse.{IsNumeralModel, numerals_by_fold, digits_value_short}
use Rattle.sw_thin.specs.TreeReading.{AllAre, Stops, IsDigits, number_from}

-- std's words for digits and their number
pub own : IsNumeralModel IsDigits (number_from 0)
own = numerals_by_fold IsDigits (search rules) number_from (search rules)

-- the prefix of a text whose characters pass a test is one
pub one_cut : (test : ℕ → Bool) (n m a b : List ℕ) → AllAre test n → AllAre test m → Stops test a → Stops test b → n ++ a ≡ m ++ b → (n ≡ m) × (a ≡ b)
one_cut test [] [] a b pn pm sa sb e = (refl, e)
one_cut test [] (y ∷ m) a b pn pm sa sb e = absurd (false≢true (sym (subst (Stops test) e sa) ∙ pm.0))
one_cut test (x ∷ n) [] a b pn pm sa sb e = absurd (false≢true (sym (subst (Stops test) (sym e) sb) ∙ pn.0))
one_cut test (x ∷ n) (y ∷ m) a b pn pm sa sb e =
    let head : x ≡ y = cc in
    let rest : n ++ a ≡ m ++ b = cc in
    let r = one_cut test n m a b pn.1 pm.1 sa sb rest in
    let same : n ≡ m = r.0 in
    ((λ i. head i ∷ same i), r.1)

-- the number so far is at most the number
number_grows : (n : ℕ) (text : List ℕ) → n ≤ number_from n text
number_grows n [] = omega arith
number_grows n (c ∷ text) = let more = number_grows (10 * n + (c - 48)) text in omega (arith, more)

-- one more digit fits
pub number_step : (ds : List ℕ) (i n : ℕ) → IsDigits ds → length ds ≤ 9 → i < length ds → number_from n (drop i ds) ≡ number_from 0 ds → (10 * n + (get_or ds i 0 - 48) < 1000000000) × (number_from (10 * n + (get_or ds i 0 - 48)) (drop (i + 1) ds) ≡ number_from 0 ds)
number_step ds i n is few lt so_far =
    let next : number_from n (drop i ds) ≡ number_from (10 * n + (get_or ds i 0 - 48)) (drop (i + 1) ds) = at_drop_more (number_from n) ds i 0 lt in
    let same : number_from (10 * n + (get_or ds i 0 - 48)) (drop (i + 1) ds) ≡ number_from 0 ds = sym next ∙ so_far in
    let grows = number_grows (10 * n + (get_or ds i 0 - 48)) (drop (i + 1) ds) in
    let bound = digits_value_short own ds 9 is few in
    (omega (arith, grows, same, bound), same)
