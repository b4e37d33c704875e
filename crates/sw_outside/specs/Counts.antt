-- Counters of 64 bits, which stay at their greatest value, and lists of numbers.
use Rattle.std.specs.Prelude.{ℕ, ◌+◌, ◌-◌, ◌^◌, min, max, List, Bool, nat_eq}
use Rattle.std.specs.List.{list_any}

-- the count after one more. The `max` makes it no smaller at any number
abbrev pub next_of : ℕ → ℕ
next_of n = max n (min (n + 1) (2 ^ 64 - 1))

-- the number is in the list
abbrev pub is_in : ℕ → List ℕ → Bool
is_in n numbers = list_any (λ k. nat_eq k n) numbers
