-- Patterns of a `switch` as the reader gives them.
use Rattle.std.proofs.Common.{◌≡◌, ℕ, Bool, Option, Some, List, [], ◌∷◌, ◌++◌, refl, sym, ap, ◌∙◌}
use Rattle.sw_base.specs.declared.ids.Span.{Span}
use Rattle.sw_lex.specs.declared.token.TokenKind.TheVariants as k
use Rattle.sw_lex.specs.Bytes.{Text}
use Rattle.sw_grammar.specs.Reading.{Out, got, ◌>>=◌, one}
use Rattle.sw_syntax.specs.Patterns.{binds_part, case_part}
use Rattle.sw_syntax.specs.Tests.{is, is_name}
use Rattle.sw_syntax.specs.Tokens.{Sighted}
use Rattle.sw_syntax.specs.Values.{name_of}
use Rattle.sw_tree.specs.declared.expr.Expr.{Expr}
use Rattle.sw_tree.specs.declared.expr.Literal.{Literal}
use Rattle.sw_tree.specs.declared.expr.Literal.TheVariants as literal
use Rattle.sw_tree.specs.declared.expr.Name.{Name}
use Rattle.sw_tree.specs.declared.expr.StringPiece.{StringPiece}
use Rattle.sw_tree.specs.declared.stmt.Pattern.TheVariants as p

pub told_literal : (at : Span) (x y : Literal) (c : ℕ) (r : List Sighted) → y ≡ x → ◌≡◌ {A = Out Sighted (Span × Literal)} (got (at, x) c r) (got (at, y) c r)
told_literal at x y c r e = cc

pub told_string : (at : Span) (text : Text) (done pieces : List StringPiece) (x : Expr) (last : Text) (piece : StringPiece) (left : ℕ) (r : List Sighted)
    → pieces ≡ done ++ piece ∷ [] → piece ≡ record { value = x; text = last }
    → ◌≡◌ {A = Out Sighted (Span × Literal)} (got (at, literal.String text (done ++ record { value = x; text = last } ∷ [])) left r) (got (at, literal.String text pieces) left r)
told_string at text done pieces x last piece left r all e =
    told_literal at (literal.String text (done ++ record { value = x; text = last } ∷ [])) (literal.String text pieces) left r
    (ap (λ z. literal.String text z) (all ∙ ap (λ q. done ++ q ∷ []) e))

pub some_name : (x y : Name) (c : ℕ) (r : List Sighted) → y ≡ x → ◌≡◌ {A = Out Sighted (Option Name)} (got (Some x) c r) (got (Some y) c r)
some_name x y c r e = ap (λ n. got (Some n) c r) (sym e)

pub case_step : (lenient : Bool) (d l c : ℕ) (outer : Option Name) (ts : List Sighted)
    → case_part lenient d l c outer ts ≡ (one (is k.Dot) c ts >>= (λ f c1 r1. one is_name c1 r1 >>= (λ n c2 r2. binds_part lenient d l c2 r2 >>= (λ xs c3 r3. got (p.Case outer f.span (name_of n) xs) c3 r3))))
unfolding case_part
case_step lenient d l c outer ts = refl
