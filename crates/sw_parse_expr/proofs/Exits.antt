-- Nodes as the reader gives them, and types that are none.
use Rattle.std.proofs.Common.{◌≡◌, ℕ, zero, suc, Bool, false, Option, List, [], ◌∷◌, ◌++◌, refl, sym, ap, ◌∙◌, arith}
use Rattle.sw_base.specs.declared.ids.Span.{Span}
use Rattle.sw_lex.specs.Bytes.{Text}
use Rattle.sw_lex.specs.declared.token.TokenKind.TheVariants as k
use Rattle.sw_grammar.specs.Reading.{Out, got, rejected, unexpected, ◌>>=◌, at_first, one}
use Rattle.sw_syntax.specs.Answering.{read}
use Rattle.sw_syntax.specs.Nonterminals.{BaseType}
use Rattle.sw_syntax.specs.Tests.{is, is_name}
use Rattle.sw_syntax.specs.Tokens.{Sighted}
use Rattle.sw_syntax.proofs.Equations.{one_none}
use Rattle.sw_syntax.proofs.TypeEquations.{base_none_deep, base_void}
use Rattle.sw_tree.specs.declared.expr.Name.{Name}
use Rattle.sw_tree.specs.declared.types.«Type».{«Type» as TypeTree}
use Rattle.sw_tree.specs.declared.types.«Type».TheVariants as tree
use Rattle.sw_tree.specs.declared.expr.Expr.{Expr}
use Rattle.sw_tree.specs.declared.expr.Binding.{Binding}
use Rattle.sw_tree.specs.declared.stmt.Condition.{Condition}
use Rattle.sw_tree.specs.declared.stmt.Condition.TheVariants as condition
use Rattle.sw_tree.specs.declared.expr.Expr.TheVariants as e
use Rattle.sw_tree.specs.declared.expr.Literal.TheVariants as literal
use Rattle.sw_tree.specs.declared.expr.StringPiece.{StringPiece}

pub string_node : (at : Span) (text : Text) (done pieces : List StringPiece) (x : Expr) (last : Text) (p : StringPiece) (left : ℕ) (r : List Sighted)
    → pieces ≡ done ++ p ∷ [] → p ≡ record { value = x; text = last }
    → ◌≡◌ {A = Out Sighted Expr} (got (e.Literal at (literal.String text (done ++ record { value = x; text = last } ∷ []))) left r) (got (e.Literal at (literal.String text pieces)) left r)
string_node at text done pieces x last p left r all piece =
    ap (λ z. got (e.Literal at (literal.String text z)) left r) (ap (λ q. done ++ q ∷ []) (sym piece) ∙ sym all)

-- nothing that a type begins with
pub base_none : (lenient : Bool) (d l c : ℕ) (ts : List Sighted) → at_first is_name ts ≡ false → at_first (is k.LeftBracket) ts ≡ false → at_first (is k.Any) ts ≡ false → at_first (is k.LeftParen) ts ≡ false → read lenient BaseType d l c ts ≡ rejected unexpected ts
base_none lenient zero l c ts h0 h1 h2 h = base_none_deep lenient 0 l c ts h0 h1 h2 h refl
base_none lenient (suc d) l c ts h0 h1 h2 h = base_void lenient (suc d) l c ts h0 h1 h2 (λ e. absurd (omega (arith, e)))
    ∙ ap (λ o. o >>= (λ f c1 r1. one (is k.RightParen) c1 r1 >>= (λ _ c2 r2. got (tree.Void f.span) c2 r2))) (one_none (is k.LeftParen) c ts h)

-- a type in a type, by its names
pub two_names : (a a' b b' : Name) (c : ℕ) (r : List Sighted) → a' ≡ a → b' ≡ b → ◌≡◌ {A = Out Sighted TypeTree} (got (tree.Member a b) c r) (got (tree.Member a' b') c r)
two_names a a' b b' c r e h = ap (λ n. got (tree.Member n b) c r) (sym e) ∙ ap (λ n. got (tree.Member a' n) c r) (sym h)

-- a new name of a condition, by how it is bound and what it is called
pub bound_node : (b b' : Binding) (n n' : Name) (x : Option Expr) (c : ℕ) (r : List Sighted) → b' ≡ b → n' ≡ n → ◌≡◌ {A = Out Sighted Condition} (got (condition.Bind b n x) c r) (got (condition.Bind b' n' x) c r)
bound_node b b' n n' x c r e h = ap (λ z. got (condition.Bind z n x) c r) (sym e) ∙ ap (λ z. got (condition.Bind b' z x) c r) (sym h)
