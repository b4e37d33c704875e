-- What is read of a list after its first items, for a reader that goes on from there.
use Rattle.std.specs.Prelude.{ℕ, Bool, List, ◌∷◌, ◌++◌}
use Rattle.sw_lex.specs.declared.token.TokenKind.TheVariants as k
use Rattle.sw_grammar.specs.Grammar.{many}
use Rattle.sw_grammar.specs.Reading.{Out, got, ◌>>=◌}
use Rattle.sw_syntax.specs.Tokens.{Sighted}
use Rattle.sw_syntax.specs.Nonterminals.{ItemKind, AfterItem, ItemTree}
use Rattle.sw_syntax.specs.Parts.{P, tok, after}
use Rattle.sw_syntax.specs.Grammar.{list_of}
use Rattle.sw_syntax.specs.Answering.{read, read_part}

-- items with commas between, after the first ones
unfoldable pub more : (lenient : Bool) → {A : Type 0} → P A → ℕ → ℕ → ℕ → List A → List Sighted → Out Sighted (List A)
more lenient a d l c xs ts = read_part lenient (many (after (tok k.Comma) a)) d l c ts >>= (λ ys c' rest. got (xs ++ ys) c' rest)

-- items that `;` or line breaks separate, after the first ones
unfoldable pub items_from : (lenient : Bool) → (kind : ItemKind) → ℕ → ℕ → ℕ → List (ItemTree kind) → List Sighted → Out Sighted (List (ItemTree kind))
items_from lenient kind d l c xs ts = read_part lenient (list_of kind) d l c ts >>= (λ ys c' rest. got (xs ++ ys) c' rest)

-- the same from after an item on
unfoldable pub items_after : (lenient : Bool) → (kind : ItemKind) → ℕ → ℕ → ℕ → List (ItemTree kind) → ItemTree kind → List Sighted → Out Sighted (List (ItemTree kind))
items_after lenient kind d l c xs x ts = read lenient (AfterItem kind) d l c ts >>= (λ ys c' rest. got (xs ++ x ∷ ys) c' rest)
