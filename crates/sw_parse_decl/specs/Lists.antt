-- How a list whose items `;` or line breaks separate goes on after an item.
use Rattle.std.specs.Prelude.{◌≡◌, ℕ, Bool, List, [], ◌∷◌, ◌++◌, drop, Option, Some, None}
use Rattle.sw_grammar.specs.Reading.{got}
use Rattle.sw_syntax.specs.Tokens.{Sighted}
use Rattle.sw_syntax.specs.Nonterminals.{ItemKind, ItemTree}
use Rattle.sw_syntax.specs.Lists.{items_from, items_after}

-- After an item that ends at a place, the list goes on from this place, or it ends there.
abbrev pub GoesOnAfter : List Sighted → ℕ → Option ℕ → Type 0
GoesOnAfter ts at (Some next) = (lenient : Bool) (kind : ItemKind) (d l c : ℕ) (xs : List (ItemTree kind)) (x : ItemTree kind) → items_after lenient kind d l c xs x (drop at ts) ≡ items_from lenient kind d l c (xs ++ x ∷ []) (drop next ts)
GoesOnAfter ts at None = (lenient : Bool) (kind : ItemKind) (d l c : ℕ) (xs : List (ItemTree kind)) (x : ItemTree kind) → items_after lenient kind d l c xs x (drop at ts) ≡ got (xs ++ x ∷ []) c (drop at ts)
