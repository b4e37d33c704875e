-- What is read after the first part of an expression, for a reader that goes on from there.
use Rattle.std.specs.Prelude.{◌≡◌, ℕ, zero, suc, Bool, true, false, not, List, ◌++◌, Option}
use Rattle.sw_base.specs.declared.ids.Span.{Span}
use Rattle.sw_lex.specs.declared.token.TokenKind.TheVariants as k
use Rattle.sw_grammar.specs.Grammar.{nonterminal, maybe, many, counts, terminal}
use Rattle.sw_grammar.specs.Reading.{Out, got, ◌>>=◌, at_first, one}
use Rattle.sw_tree.specs.declared.expr.Expr.{Expr as ExprTree}
use Rattle.sw_tree.specs.declared.expr.Argument.{Argument as ArgumentTree}
use Rattle.sw_syntax.specs.Tokens.{Sighted}
use Rattle.sw_syntax.specs.Tests.{is, is_name, is_ternary, starts_literal}
use Rattle.sw_tree.specs.declared.expr.Expr.TheVariants as e
use Rattle.sw_tree.specs.declared.expr.Literal.TheVariants as literal
use Rattle.sw_tree.specs.declared.expr.StringPiece.{StringPiece}
use Rattle.sw_lex.specs.Bytes.{Text}
use Rattle.sw_syntax.specs.Values.{or_none, pieces_of, to_left, to_right, ternary_of, with_forms}
use Rattle.sw_syntax.specs.Nonterminals.{Expr, PostfixForm, Argument, Elements}
use Rattle.sw_syntax.specs.Parts.{◌·◌, tok, place, after, any}
use Rattle.sw_syntax.specs.Grammar.{operand, right, try_mark}
use Rattle.sw_syntax.specs.Answering.{read_part}

-- `try` or `try?`, if one stands there
unfoldable pub try_part : (lenient : Bool) → ℕ → ℕ → ℕ → List Sighted → Out Sighted (Option (Span × Bool))
try_part lenient = read_part lenient (maybe try_mark)

-- `await`, if one stands there
abbrev pub await_part : Bool → ℕ → ℕ → ℕ → List Sighted → Out Sighted (Option Span)
await_part lenient d l c ts = read_part lenient (maybe (place k.Await)) d l c ts

-- none of the operands that a literal, `nil`, a name or `self` is stands first
abbrev pub IsLater : List Sighted → Type 0
IsLater ts = (at_first starts_literal ts ≡ false) × (at_first (is k.Nil) ts ≡ false) × (at_first is_name ts ≡ false) × (at_first (is k.Self_) ts ≡ false)

-- the branches of a ternary after its condition, if there are some
unfoldable pub branches : (lenient : Bool) → ℕ → ℕ → ℕ → ExprTree → List Sighted → Out Sighted ExprTree
branches lenient d l c condition ts =
    read_part lenient (maybe (after (counts (terminal is_ternary)) (nonterminal Expr · after (tok k.Colon) (nonterminal Expr)))) d l c ts >>= (λ x c' rest. got (ternary_of condition x) c' rest)

-- one mark of this strength at most is taken in a row: of comparisons where the grammar is not lenient, and of `??`
abbrev pub takes_one : Bool → ℕ → Bool
takes_one lenient (suc (suc zero)) = not lenient
takes_one lenient (suc (suc (suc zero))) = true
takes_one lenient n = false

-- marks of this strength with their operands, taken to the left
unfoldable pub chain : (lenient : Bool) → ℕ → ℕ → ℕ → ℕ → ExprTree → List Sighted → Out Sighted ExprTree
chain lenient n d l c left ts = read_part lenient (many (operand n (right lenient (suc n)))) d l c ts >>= (λ xs c' rest. got (to_left left xs) c' rest)

-- one such mark at most, whose operand is of the other strength
unfoldable pub once : (lenient : Bool) → ℕ → ℕ → ℕ → ℕ → ℕ → ExprTree → List Sighted → Out Sighted ExprTree
once lenient n m d l c left ts = read_part lenient (maybe (operand n (right lenient m))) d l c ts >>= (λ x c' rest. got (to_right left x) c' rest)

-- members, calls, indices and `!`
unfoldable pub forms : (lenient : Bool) → ℕ → ℕ → ℕ → ExprTree → List Sighted → Out Sighted ExprTree
forms lenient d l c base ts = read_part lenient (many (nonterminal PostfixForm)) d l c ts >>= (λ xs c' rest. got (with_forms base xs) c' rest)

-- arguments with commas between, perhaps none; and those after the first ones
unfoldable pub arg_list : (lenient : Bool) → ℕ → ℕ → ℕ → List Sighted → Out Sighted (List ArgumentTree)
arg_list lenient = read_part lenient (any (nonterminal Argument))

unfoldable pub more_args : (lenient : Bool) → ℕ → ℕ → ℕ → List ArgumentTree → List Sighted → Out Sighted (List ArgumentTree)
more_args lenient d l c xs ts = read_part lenient (many (after (tok k.Comma) (nonterminal Argument))) d l c ts >>= (λ ys c' rest. got (xs ++ ys) c' rest)

-- elements, perhaps none; and those after the first ones
unfoldable pub element_list : (lenient : Bool) → ℕ → ℕ → ℕ → List Sighted → Out Sighted (List ExprTree)
element_list lenient d l c ts = read_part lenient (maybe (nonterminal Elements)) d l c ts >>= (λ xs c' rest. got (or_none xs) c' rest)

unfoldable pub more_elements : (lenient : Bool) → ℕ → ℕ → ℕ → List ExprTree → List Sighted → Out Sighted (List ExprTree)
more_elements lenient d l c xs ts = element_list lenient d l c ts >>= (λ ys c' rest. got (xs ++ ys) c' rest)

-- the rest of a string that begins at this place with this text and these expressions, and has come to this one
unfoldable pub string_rest : (lenient : Bool) → ℕ → ℕ → ℕ → Span → Text → List StringPiece → ExprTree → List Sighted → Out Sighted ExprTree
string_rest lenient d l c at text pieces x ts =
    read_part lenient (many (tok k.StringMiddle · nonterminal Expr)) d l c ts >>= (λ xs c1 r1. one (is k.StringLast) c1 r1 >>= (λ last c2 r2.
    got (e.Literal at (literal.String text (pieces ++ pieces_of x xs last))) c2 r2))
