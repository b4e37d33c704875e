-- A reader that was read up to a byte more than may be there.
use Rattle.std.proofs.Common.{◌≡◌, ℕ, ◌+◌, ◌≤◌, List, [], ◌++◌, length, take, Option, None, Some, IfSome, refl, sym, ap, ◌∙◌, arith, subst}
use Rattle.std.specs.Option.{option_map}
use Rattle.std.proofs.lemmas.List.{take_all, length-take}

-- what is short was not cut
not_cut : (n : ℕ) (left : List ℕ) → length (take (n + 1) left) ≤ n → take (n + 1) left ≡ left
not_cut n left short = take_all (n + 1) left (omega (arith, short, length-take (n + 1) left))

-- so a read that is short has all that was left
pub whole : {Reader : Type 0} (remaining : Reader → Option (List ℕ)) (reader inner : Reader) (limit n : ℕ) (start bytes : List ℕ)
    → inner ≡ reader → limit ≡ n + 1 → start ≡ [] → IfSome (option_map (take limit) (remaining inner)) (λ read. bytes ≡ start ++ read) → length bytes ≤ n
    → IfSome (remaining reader) (λ left. bytes ≡ left)
whole remaining reader inner limit n start bytes same above none read short = at (remaining reader) now
  where
    now : IfSome (option_map (take (n + 1)) (remaining reader)) (λ xs. bytes ≡ xs)
    now =
        subst (λ s. IfSome (option_map (take (n + 1)) (remaining reader)) (λ xs. bytes ≡ s ++ xs)) none
        (subst (λ l. IfSome (option_map (take l) (remaining reader)) (λ xs. bytes ≡ start ++ xs)) above
        (subst (λ r. IfSome (option_map (take limit) (remaining r)) (λ xs. bytes ≡ start ++ xs)) same read))

    at : (known : Option (List ℕ)) → IfSome (option_map (take (n + 1)) known) (λ xs. bytes ≡ xs) → IfSome known (λ left. bytes ≡ left)
    at None h = h
    at (Some left) h = h ∙ not_cut n left (subst (λ xs. length xs ≤ n) h short)
