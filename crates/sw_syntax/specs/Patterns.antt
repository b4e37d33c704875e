-- What is read of a pattern after its first parts, for a reader that goes on from there.
use Rattle.std.specs.Prelude.{ℕ, Bool, List, ◌++◌, Option}
use Rattle.sw_base.specs.declared.ids.Span.{Span}
use Rattle.sw_lex.specs.declared.token.TokenKind.TheVariants as k
use Rattle.sw_lex.specs.Bytes.{Text}
use Rattle.sw_grammar.specs.Grammar.{maybe, many}
use Rattle.sw_grammar.specs.Reading.{Out, got, ◌>>=◌, one}
use Rattle.sw_tree.specs.declared.expr.Name.{Name}
use Rattle.sw_tree.specs.declared.expr.Expr.{Expr as ExprTree}
use Rattle.sw_tree.specs.declared.expr.Literal.{Literal}
use Rattle.sw_tree.specs.declared.expr.Literal.TheVariants as literal
use Rattle.sw_tree.specs.declared.expr.StringPiece.{StringPiece}
use Rattle.sw_tree.specs.declared.stmt.Pattern.{Pattern}
use Rattle.sw_tree.specs.declared.stmt.Pattern.TheVariants as p
use Rattle.sw_tree.specs.declared.stmt.Bind.{Bind}
use Rattle.sw_syntax.specs.Tokens.{Sighted}
use Rattle.sw_syntax.specs.Tests.{is, is_name}
use Rattle.sw_syntax.specs.Values.{name_of, pieces_of}
use Rattle.sw_syntax.specs.Parts.{◌·◌, tok, name, any, whole_expr}
use Rattle.sw_syntax.specs.Grammar.{literal_with, bind, binds}
use Rattle.sw_syntax.specs.Answering.{read_part}
use Rattle.sw_syntax.specs.Lists.{more}

unfoldable pub bind_part : (lenient : Bool) → ℕ → ℕ → ℕ → List Sighted → Out Sighted Bind
bind_part lenient = read_part lenient bind

unfoldable pub bind_list : (lenient : Bool) → ℕ → ℕ → ℕ → List Sighted → Out Sighted (List Bind)
bind_list lenient = read_part lenient (any bind)

abbrev pub more_binds : (lenient : Bool) → ℕ → ℕ → ℕ → List Bind → List Sighted → Out Sighted (List Bind)
more_binds lenient = more lenient bind

-- the binds of a case between `(` and `)`, if they come
unfoldable pub binds_part : (lenient : Bool) → ℕ → ℕ → ℕ → List Sighted → Out Sighted (Option (List Bind))
binds_part lenient = read_part lenient (maybe binds)

-- the type before the `.` of a case, if one stands there
unfoldable pub type_part : (lenient : Bool) → ℕ → ℕ → ℕ → List Sighted → Out Sighted (Option Name)
type_part lenient = read_part lenient (maybe name)

-- a case of this type, from its `.` on
unfoldable pub case_part : (lenient : Bool) → ℕ → ℕ → ℕ → Option Name → List Sighted → Out Sighted Pattern
case_part lenient d l c outer ts =
    one (is k.Dot) c ts >>= (λ f c1 r1. one is_name c1 r1 >>= (λ n c2 r2. binds_part lenient d l c2 r2 >>= (λ xs c3 r3. got (p.Case outer f.span (name_of n) xs) c3 r3)))

-- a literal whose expressions stand in no other
unfoldable pub literal_part : (lenient : Bool) → ℕ → ℕ → ℕ → List Sighted → Out Sighted (Span × Literal)
literal_part lenient = read_part lenient (literal_with whole_expr)

-- the rest of such a string that begins at this place with this text and these expressions, and has come to this one
unfoldable pub pieces_rest : (lenient : Bool) → ℕ → ℕ → ℕ → Span → Text → List StringPiece → ExprTree → List Sighted → Out Sighted (Span × Literal)
pieces_rest lenient d l c at text pieces x ts =
    read_part lenient (many (tok k.StringMiddle · whole_expr)) d l c ts >>= (λ xs c1 r1. one (is k.StringLast) c1 r1 >>= (λ last c2 r2.
    got (at, literal.String text (pieces ++ pieces_of x xs last)) c2 r2))
