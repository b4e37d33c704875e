-- Parts of productions that recur: single tokens, lists with commas, brackets.
use Rattle.std.specs.Prelude.{Bool, List, ◌∷◌}
use Rattle.sw_base.specs.declared.ids.Span.{Span}
use Rattle.sw_lex.specs.declared.token.TokenKind.{TokenKind}
use Rattle.sw_lex.specs.declared.token.TokenKind.TheVariants as k
use Rattle.sw_grammar.specs.Grammar.{Part, terminal, nonterminal, both, either, maybe, many, nest, gives, limited}
use Rattle.sw_tree.specs.declared.expr.Name.{Name}
use Rattle.sw_tree.specs.declared.expr.Expr.{Expr as ExprTree}
use Rattle.sw_tree.specs.declared.types.«Type».{«Type» as TypeTree}
use Rattle.sw_syntax.specs.declared.class.Sight.{Sight}
use Rattle.sw_syntax.specs.Tokens.{Face}
use Rattle.sw_syntax.specs.Tests.{is, is_name}
use Rattle.sw_syntax.specs.Values.{or_none, is_some, name_of}
use Rattle.sw_syntax.specs.Nonterminals.{Nonterminal, Sort, Expr, TypeExpr}

abbrev pub P : Type 0 → Type 1
P A = Part Sight Face Nonterminal Sort A

infixr 6 ◌·◌
abbrev pub ◌·◌ : {A B : Type 0} → P A → P B → P (A × B)
a · b = both a b

infixr 5 ◌∣◌
abbrev pub ◌∣◌ : {A : Type 0} → P A → P A → P A
a ∣ b = either a b

-- a token of the kind, and the place of one
abbrev pub tok : TokenKind → P Face
tok kind = terminal (is kind)

abbrev pub place : TokenKind → P Span
place kind = gives (λ f. f.span) (tok kind)

abbrev pub name : P Name
name = gives name_of (terminal is_name)

-- whether the part is there
abbrev pub present : {A : Type 0} → P A → P Bool
present a = gives is_some (maybe a)

-- a part after a mark, whose own value counts for nothing
abbrev pub after : {A B : Type 0} → P A → P B → P B
after a b = gives (λ (_, value). value) (a · b)

-- at least one, with commas between; and any number
abbrev pub some : {A : Type 0} → P A → P (List A)
some a = gives (λ (first, others). first ∷ others) (a · many (after (tok k.Comma) a))

abbrev pub any : {A : Type 0} → P A → P (List A)
any a = gives or_none (maybe (some a))

abbrev pub in_parens : {A : Type 0} → P A → P A
in_parens a = gives (λ (_, (value, _)). value) (nest (tok k.LeftParen · a · tok k.RightParen))

abbrev pub in_braces : {A : Type 0} → P A → P A
in_braces a = gives (λ (_, (value, _)). value) (nest (tok k.LeftBrace · a · tok k.RightBrace))

-- an expression, or a type, that stands in no other
abbrev pub whole_expr : P ExprTree
whole_expr = limited (nonterminal Expr)

abbrev pub whole_type : P TypeTree
whole_type = limited (nonterminal TypeExpr)
