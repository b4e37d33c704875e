-- What the code sees of a token, and the tests that it makes of it.
use Rattle.std.specs.Prelude.{Bool, ◌||◌, List, [], ◌∷◌}
use Rattle.sw_lex.specs.declared.token.TokenKind.TheVariants as k
use Rattle.sw_lex.specs.declared.token.Token.{Token}
use Rattle.sw_lex.specs.declared.tokens.TokenRef.{TokenRef}
use Rattle.sw_lex.specs.Tokens.{token_of}
use Rattle.sw_syntax.specs.declared.class.Class.{Class}
use Rattle.sw_syntax.specs.declared.class.Class.TheVariants as class
use Rattle.sw_syntax.specs.declared.class.Sight.{Sight}
use Rattle.sw_syntax.specs.declared.class.Test.{Test}
use Rattle.sw_syntax.specs.declared.class.Test.TheVariants as test
use Rattle.sw_syntax.specs.Tokens.{Face, class_in}
use Rattle.sw_syntax.specs.Tests.{is, is_name, is_bool, is_let_or_var, is_effect, is_sign, is_call, is_index, is_force, is_joined_question, is_ternary, is_binary, is_label, is_unlabelled, starts_literal, starts_operand, starts_expr}
use Rattle.sw_syntax.specs.Tables.{is_form}

abbrev pub starts_argument : Sight → Bool
starts_argument t = is_label t || starts_expr t

-- which tokens pass a test
abbrev pub passes : Test → Sight → Bool
passes (test.Is kind) = is kind
passes test.Name = is_name
passes test.Bool = is_bool
passes test.LetOrVar = is_let_or_var
passes test.Effect = is_effect
passes test.Sign = is_sign
passes test.Call = is_call
passes test.Index = is_index
passes test.Force = is_force
passes test.PostfixForm = is_form
passes test.JoinedQuestion = is_joined_question
passes test.Ternary = is_ternary
passes (test.Binary strength) = is_binary strength
passes test.Label = is_label
passes test.Unlabelled = is_unlabelled
passes test.Literal = starts_literal
passes test.Operand = starts_operand
passes test.Expr = starts_expr
passes test.Argument = starts_argument

-- the face of a token
abbrev pub token_face : Token → Face
token_face token = record { kind = token.kind; text = token.text; span = token.span }

-- the face of a token of a list
abbrev pub lent_face : TokenRef → Face
lent_face token = token_face (token_of token)

-- the class of the first of these tokens
abbrev pub first_class : List Token → Class
first_class [] = class.Is k.End
first_class (token ∷ tokens) = class_in token.kind token tokens
