-- Getters as the reader gives them.
use Rattle.std.proofs.Common.{◌≡◌, ℕ, Bool, false, List, [], sym, ◌∙◌}
use Rattle.sw_grammar.specs.Reading.{got, ◌>>=◌, at_first}
use Rattle.sw_syntax.specs.Bodies.{body_from}
use Rattle.sw_syntax.specs.Members.{accessor_part}
use Rattle.sw_syntax.specs.Nonterminals.{InBlock}
use Rattle.sw_syntax.specs.Tests.{is_getter}
use Rattle.sw_syntax.specs.Tokens.{Sighted}
use Rattle.sw_syntax.proofs.MemberEquations.{accessor_body}
use Rattle.sw_syntax.proofs.Equations.{bind_assoc}
use Rattle.sw_tree.specs.declared.decl.Accessor.TheVariants as accessor
use Rattle.sw_parse_stmt.specs.Statements.{statement_list}

-- statements alone between the braces
pub accessor_statements : (lenient : Bool) (d l c : ℕ) (ts : List Sighted) → at_first is_getter ts ≡ false → accessor_part lenient d l c ts ≡ (statement_list lenient d l c ts >>= (λ xs c' r. got (accessor.Body xs) c' r))
unfolding statement_list
accessor_statements lenient d l c ts h = accessor_body lenient d l c ts h ∙ sym (bind_assoc (body_from lenient InBlock d l c [] ts) _ _)
