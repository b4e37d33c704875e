-- The words of a command line, one after the other.
use Rattle.std.proofs.Common.{◌≡◌, ℕ, ◌+◌, List, [], ◌∷◌, ◌++◌, drop, take, refl, sym, ap, ◌∙◌, arith, Option, Some, None, IfSome, Result, Ok, Err, zero, suc, subst}
use Rattle.std.specs.Prelude.{slice_get}
use Rattle.std.specs.declared.env.FillError.{FillError}
use Rattle.std.specs.declared.env.FillError.TheVariants.{NotPresent, TooLong}
use Rattle.std.proofs.lemmas.Option.{none-some}
use Rattle.sw_outside.specs.Words.{Fills}
use Rattle.std.proofs.lemmas.List.{append_assoc, append-nil}

-- the element at an index is the first of those from there on
from_here : {A : Type 0} (xs : List A) (i : ℕ) (x : A) → slice_get xs i ≡ Some x → drop i xs ≡ x ∷ drop (i + 1) xs
from_here [] i x e = absurd (none-some x e)
from_here (y ∷ ys) zero x e = cc
from_here (y ∷ ys) (suc i) x e = from_here ys i x e ∙ ap (λ k. x ∷ drop k (y ∷ ys)) (let e : suc (i + 1) ≡ suc i + 1 = omega arith in e)

-- past the last element there are no more
none_left : {A : Type 0} (xs : List A) (i : ℕ) → slice_get xs i ≡ None → drop i xs ≡ []
none_left [] zero e = refl
none_left [] (suc i) e = refl
none_left (y ∷ ys) zero e = absurd (none-some y (sym e))
none_left (y ∷ ys) (suc i) e = none_left ys i e

-- one word more, of those from a number on
pub word_more : (known : Option (List (List ℕ))) (before after : List (List ℕ)) (number : ℕ) (found : Option (List ℕ)) (word : List ℕ)
    → IfSome known (λ all. before ++ drop number all ≡ drop 1 all) → IfSome known (λ all. found ≡ slice_get all number) → found ≡ Some word
    → after ≡ before ++ word ∷ [] → IfSome known (λ all. after ++ drop (number + 1) all ≡ drop 1 all)
word_more None before after number found word so is some more = tt
word_more (Some all) before after number found word so is some more =
    ap (λ l. l ++ drop (number + 1) all) more ∙ (append_assoc before (word ∷ []) (drop (number + 1) all)
    ∙ (ap (λ l. before ++ l) (sym (from_here all number word (sym is ∙ some))) ∙ so))

-- no word more: those so far are all
pub words_whole : (known : Option (List (List ℕ))) (given : List (List ℕ)) (number : ℕ) (found : Option (List ℕ))
    → IfSome known (λ all. given ++ drop number all ≡ drop 1 all) → IfSome known (λ all. found ≡ slice_get all number) → found ≡ None
    → IfSome known (λ all. given ≡ drop 1 all)
words_whole None given number found so is none = tt
words_whole (Some all) given number found so is none = sym (append-nil given) ∙ (ap (λ l. given ++ l) (sym (none_left all number (sym is ∙ none))) ∙ so)

-- the word that the buffer holds
pub word_filled : (known : Option (List (List ℕ))) (number count : ℕ) (buffer shown text : List ℕ)
    → IfSome known (λ all. slice_get all number ≡ Some (take count buffer)) → text ≡ take count shown → shown ≡ buffer
    → IfSome known (λ all. Some text ≡ slice_get all number)
word_filled None number count buffer shown text fills copied same = tt
word_filled (Some all) number count buffer shown text fills copied same = ap Some (copied ∙ ap (take count) same) ∙ sym fills

-- where there is no word of that number
pub word_absent : (known : Option (List (List ℕ))) (number : ℕ) (buffer : List ℕ) (error : FillError)
    → IfSome known (λ all. Fills all number buffer (Err error)) → error ≡ NotPresent → IfSome known (λ all. None ≡ slice_get all number)
word_absent None number buffer error fills is = tt
word_absent (Some all) number buffer error fills is =
    let P : FillError → Type 0 = λ e. Fills all number buffer (Err e) in
    let none : slice_get all number ≡ None = subst P is fills in
    sym none
