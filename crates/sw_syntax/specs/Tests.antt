-- The tests of a token: which tokens a terminal takes.
use Rattle.std.specs.Prelude.{Bool, true, false, not, ◌||◌, ◌&&◌, ℕ, zero, suc}
use Rattle.sw_lex.specs.declared.token.TokenKind.{TokenKind}
use Rattle.sw_lex.specs.declared.token.TokenKind.TheVariants as k
pub use Rattle.sw_lex.specs.Tables.{is_reserved_kind}
use Rattle.sw_syntax.specs.declared.class.Sight.{Sight}
use Rattle.sw_syntax.specs.declared.class.Class.{Class}
use Rattle.sw_syntax.specs.declared.class.Class.TheVariants.{Is, Actor, Distributed, Nonisolated, Mutating, Final, Get, GetBlock, ElseIf, TouchingBang, TouchingQuestion, SpacedQuestion, LooseMinus}
use Rattle.sw_syntax.specs.Tokens.{same_kind}

-- ---- tests of a class

abbrev pub is_of : TokenKind → Class → Bool
is_of kind (Is x) = same_kind x kind
is_of kind class = false

abbrev pub is_name_class : Class → Bool
is_name_class (Is kind) = same_kind kind k.Name
is_name_class Actor = true
is_name_class Distributed = true
is_name_class Nonisolated = true
is_name_class Mutating = true
is_name_class Final = true
is_name_class Get = true
is_name_class GetBlock = true
is_name_class class = false

abbrev pub is_actor_class : Class → Bool
is_actor_class Actor = true
is_actor_class class = false

abbrev pub is_get_class : Class → Bool
is_get_class Get = true
is_get_class GetBlock = true
is_get_class class = false

abbrev pub is_get_block_class : Class → Bool
is_get_block_class GetBlock = true
is_get_block_class class = false

abbrev pub is_modifier_class : Class → Bool
is_modifier_class (Is k.Public) = true
is_modifier_class (Is k.Internal) = true
is_modifier_class (Is k.Private) = true
is_modifier_class (Is k.Fileprivate) = true
is_modifier_class (Is k.Static) = true
is_modifier_class Final = true
is_modifier_class Distributed = true
is_modifier_class Nonisolated = true
is_modifier_class Mutating = true
is_modifier_class class = false

abbrev pub is_reserved_class : Class → Bool
is_reserved_class (Is kind) = is_reserved_kind kind
is_reserved_class ElseIf = true
is_reserved_class class = false

abbrev pub is_else_class : Class → Bool
is_else_class (Is kind) = same_kind kind k.Else
is_else_class ElseIf = true
is_else_class class = false

abbrev pub is_else_if_class : Class → Bool
is_else_if_class ElseIf = true
is_else_if_class class = false

abbrev pub is_bang_class : Class → Bool
is_bang_class (Is kind) = same_kind kind k.Bang
is_bang_class TouchingBang = true
is_bang_class class = false

abbrev pub is_touching_bang_class : Class → Bool
is_touching_bang_class TouchingBang = true
is_touching_bang_class class = false

abbrev pub is_minus_class : Class → Bool
is_minus_class (Is kind) = same_kind kind k.Minus
is_minus_class LooseMinus = true
is_minus_class class = false

abbrev pub is_loose_minus_class : Class → Bool
is_loose_minus_class LooseMinus = true
is_loose_minus_class class = false

abbrev pub is_touching_question_class : Class → Bool
is_touching_question_class TouchingQuestion = true
is_touching_question_class class = false

abbrev pub is_spaced_question_class : Class → Bool
is_spaced_question_class SpacedQuestion = true
is_spaced_question_class class = false

-- ---- tests of a token

abbrev pub is : TokenKind → Sight → Bool
is kind t = is_of kind t.class

abbrev pub is_name : Sight → Bool
is_name t = is_name_class t.class

abbrev pub is_reserved : Sight → Bool
is_reserved t = is_reserved_class t.class

abbrev pub is_modifier : Sight → Bool
is_modifier t = is_modifier_class t.class

abbrev pub is_actor : Sight → Bool
is_actor t = is_actor_class t.class

abbrev pub is_get : Sight → Bool
is_get t = is_get_class t.class

-- `get` before its block
abbrev pub is_getter : Sight → Bool
is_getter t = is_get_block_class t.class

abbrev pub is_no_getter : Sight → Bool
is_no_getter t = not (is_getter t)

abbrev pub is_let_or_var : Sight → Bool
is_let_or_var t = is k.Let t || is k.Var t

abbrev pub is_bool : Sight → Bool
is_bool t = is k.True t || is k.False t

-- an `else` before anything but `if`, and one before `if`
abbrev pub is_else : Sight → Bool
is_else t = is k.Else t

abbrev pub is_else_if : Sight → Bool
is_else_if t = is_else_if_class t.class

abbrev pub is_any_else : Sight → Bool
is_any_else t = is_else_class t.class

-- ---- line rules

abbrev pub is_first : Sight → Bool
is_first t = t.is_first

-- what stands on the line of the token before it
abbrev pub goes_on_line : Sight → Bool
goes_on_line t = not t.is_first

-- a call's `(` and an index's `[` stand on the line of what precedes
abbrev pub is_call : Sight → Bool
is_call t = is k.LeftParen t && not t.is_first

abbrev pub is_index : Sight → Bool
is_index t = is k.LeftBracket t && not t.is_first

-- a postfix `!` touches what precedes, and never goes on at the start of a line
abbrev pub is_force : Sight → Bool
is_force t = is_touching_bang_class t.class && not t.is_first

-- a type's `?`, and the `?` of `try?`, touch what precedes
abbrev pub is_joined_question : Sight → Bool
is_joined_question t = is_touching_question_class t.class

-- a ternary's `?` follows white space
abbrev pub is_ternary : Sight → Bool
is_ternary t = is_spaced_question_class t.class

-- a prefix `-` or `!`
abbrev pub is_sign : Sight → Bool
is_sign t = is_minus_class t.class || is_bang_class t.class

-- `try` or `await`
abbrev pub is_effect : Sight → Bool
is_effect t = is k.Try t || is k.Await t

-- at the start of a line a binary `-` has white space or a comment after it
abbrev pub is_binary_minus : Sight → Bool
is_binary_minus t = is_minus_class t.class && (not t.is_first || is_loose_minus_class t.class)

-- what goes on with an expression at the start of a line, and would begin one elsewhere
abbrev pub goes_on_below : Sight → Bool
goes_on_below t = is k.Dot t || is_loose_minus_class t.class

-- ---- binary operators, from weak to strong: strength 0 is `||`, 1 `&&`, 2 the comparisons, 3 `??`, 4 `+` and `-`, 5 the rest

abbrev pub is_comparison : Sight → Bool
is_comparison t = is k.EqualEqual t || (is k.NotEqual t || (is k.Less t || (is k.LessEqual t || (is k.Greater t || is k.GreaterEqual t))))

abbrev pub is_binary : ℕ → Sight → Bool
is_binary zero t = is k.Or t
is_binary (suc zero) t = is k.And t
is_binary (suc (suc zero)) t = is_comparison t
is_binary (suc (suc (suc zero))) t = is k.Coalesce t
is_binary (suc (suc (suc (suc zero)))) t = is k.Plus t || is_binary_minus t
is_binary n t = is k.Star t || (is k.Slash t || is k.Percent t)

-- the marks of assignments, and of ranges
abbrev pub is_assignment : Sight → Bool
is_assignment t = is k.Assign t || (is k.PlusAssign t || (is k.MinusAssign t || (is k.StarAssign t || (is k.SlashAssign t || is k.PercentAssign t))))

abbrev pub is_range : Sight → Bool
is_range t = is k.HalfOpenRange t || is k.Ellipsis t

-- ---- what stands first

abbrev pub starts_literal : Sight → Bool
starts_literal t = is k.Integer t || (is_bool t || (is k.StringWhole t || is k.StringStart t))

abbrev pub starts_primary : Sight → Bool
starts_primary t = starts_literal t || (is k.Nil t || (is_name t || (is k.Self_ t || (is k.Dot t || (is k.LeftParen t || is k.LeftBracket t)))))

abbrev pub starts_operand : Sight → Bool
starts_operand t = is_sign t || starts_primary t

abbrev pub starts_expr : Sight → Bool
starts_expr t = is k.Try t || (is k.Await t || starts_operand t)

abbrev pub starts_type : Sight → Bool
starts_type t = is_name t || (is k.LeftBracket t || (is k.Any t || is k.LeftParen t))

-- A word is a label before `:`, and also where it can be nothing else.
abbrev pub is_label : Sight → Bool
is_label t = (is_name t && t.before_colon) || (is_reserved t && (t.before_colon || not (starts_expr t)))

abbrev pub is_payload_label : Sight → Bool
is_payload_label t = (is_name t && t.before_colon) || (is_reserved t && (t.before_colon || not (starts_type t)))

abbrev pub is_unlabelled : Sight → Bool
is_unlabelled t = not (is_label t)

abbrev pub is_bare_type : Sight → Bool
is_bare_type t = not (is_payload_label t)

-- the first of two names of a parameter, where it is none itself
abbrev pub is_other_label : Sight → Bool
is_other_label t = is k.Underscore t || is_reserved t
