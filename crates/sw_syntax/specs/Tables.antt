-- The tables of the grammar: first, follow-last and nullable of each nonterminal, and their order.
use Rattle.std.specs.Prelude.{Bool, true, false, not, ◌||◌, ◌&&◌, ℕ, zero, suc, ◌+◌, ◌-◌}
use Rattle.sw_lex.specs.declared.token.TokenKind.TheVariants as k
use Rattle.sw_syntax.specs.declared.class.Sight.{Sight}
use Rattle.sw_syntax.specs.Tests.{is, is_name, is_modifier, is_actor, is_let_or_var, is_any_else, is_first, goes_on_line, is_call, is_index, is_force, is_joined_question, is_ternary, is_binary, is_assignment, is_other_label, is_label, is_payload_label, starts_literal, starts_primary, starts_operand, starts_expr, starts_type}
use Rattle.sw_syntax.specs.Nonterminals.{ItemKind, Decls, Members, EnumItems, Requirements, Context, InBlock, InArm, Ending, Open, Closed, Nonterminal, File, ItemList, AfterItem, Item, Param, Case, Payload, TypeExpr, BaseType, Block, Statements, SomeStatements, AfterStatement, AfterReturn, Statement, If, Arms, Condition, Pattern, Caught, Expr, Ternary, Binary, Prefix, Postfix, PostfixForm, Argument, Primary, Elements}
use Rattle.sw_syntax.specs.Grammar.{begins_below}

-- ---- first: what a nonterminal begins with

abbrev pub starts_member : Sight → Bool
starts_member t = is k.Typealias t || (is_modifier t || (is k.Let t || (is k.Var t || (is k.Func t || is k.Init t))))

abbrev pub starts_item : ItemKind → Sight → Bool
starts_item Decls t = is k.Import t || (is k.Typealias t || (is_modifier t || (is k.Struct t || (is k.Enum t || (is k.Protocol t || (is_actor t || is k.Func t))))))
starts_item Members t = starts_member t
starts_item EnumItems t = is k.Case t || starts_member t
starts_item Requirements t = is k.Var t || (is_modifier t || is k.Func t)

abbrev pub starts_stmt_of : Ending → Sight → Bool
starts_stmt_of Open t = is_let_or_var t || (starts_expr t || (is k.Underscore t || is k.Throw t))
starts_stmt_of Closed t = is k.If t || (is k.Guard t || (is k.While t || (is k.For t || (is k.Switch t || (is k.Do t || (is k.Break t || is k.Continue t))))))

abbrev pub starts_stmt : Sight → Bool
starts_stmt t = starts_stmt_of Open t || (starts_stmt_of Closed t || is k.Return t)

abbrev pub starts_arm : Sight → Bool
starts_arm t = is k.Case t || is k.Default t

abbrev pub starts_next : Context → Ending → Sight → Bool
starts_next InBlock ending t = is k.Semicolon t || (begins_below ending t && starts_stmt t)
starts_next InArm ending t = is k.Semicolon t || ((begins_below ending t && starts_stmt t) || (is_first t && starts_arm t))

abbrev pub is_form : Sight → Bool
is_form t = is k.Dot t || (is_call t || (is_index t || is_force t))

abbrev pub first_table : Nonterminal → Sight → Bool
first_table File t = starts_item Decls t || is k.End t
first_table (ItemList l) t = starts_item l t
first_table (AfterItem l) t = is k.Semicolon t || (is_first t && starts_item l t)
first_table (Item l) t = starts_item l t
first_table Param t = is_name t || is_other_label t
first_table Case t = is_name t
first_table Payload t = is_payload_label t || starts_type t
first_table TypeExpr t = starts_type t
first_table BaseType t = starts_type t
first_table Block t = is k.LeftBrace t
first_table (Statements InBlock) t = starts_stmt t
first_table (Statements InArm) t = starts_stmt t || starts_arm t
first_table (SomeStatements at) t = starts_stmt t
first_table (AfterStatement at ending) t = starts_next at ending t
first_table (AfterReturn at) t = (goes_on_line t && starts_expr t) || starts_next at Closed t
first_table (Statement ending) t = starts_stmt_of ending t
first_table If t = is k.If t
first_table Arms t = starts_arm t
first_table Condition t = starts_expr t || is_let_or_var t
first_table Pattern t = is k.Underscore t || (starts_literal t || (is k.Nil t || (is_name t || is k.Dot t)))
first_table Caught t = is k.Let t || is_name t
first_table Expr t = starts_expr t
first_table Ternary t = starts_operand t
first_table (Binary n) t = starts_operand t
first_table Prefix t = starts_operand t
first_table Postfix t = starts_primary t
first_table PostfixForm t = is_form t
first_table Argument t = is_label t || starts_expr t
first_table Primary t = starts_primary t
first_table Elements t = starts_expr t

-- ---- follow-last: what may follow a nonterminal within a longer one

-- a binary mark of this strength or more, or what follows a primary
abbrev pub goes_on : ℕ → Sight → Bool
goes_on zero t = is_binary 0 t || (is_binary 1 t || (is_binary 2 t || (is_binary 3 t || (is_binary 4 t || (is_binary 5 t || is_form t)))))
goes_on (suc zero) t = is_binary 1 t || (is_binary 2 t || (is_binary 3 t || (is_binary 4 t || (is_binary 5 t || is_form t))))
goes_on (suc (suc zero)) t = is_binary 2 t || (is_binary 3 t || (is_binary 4 t || (is_binary 5 t || is_form t)))
goes_on (suc (suc (suc zero))) t = is_binary 3 t || (is_binary 4 t || (is_binary 5 t || is_form t))
goes_on (suc (suc (suc (suc zero)))) t = is_binary 4 t || (is_binary 5 t || is_form t)
goes_on (suc (suc (suc (suc (suc zero))))) t = is_binary 5 t || is_form t
goes_on (suc (suc (suc (suc (suc (suc n)))))) t = is_form t

abbrev pub goes_on_expr : Sight → Bool
goes_on_expr t = is_ternary t || goes_on 0 t

abbrev pub goes_on_type : Sight → Bool
goes_on_type t = is_joined_question t || is k.Dot t

abbrev pub goes_on_member : Sight → Bool
goes_on_member t = goes_on_type t || (goes_on_expr t || (is k.Colon t || (is k.Assign t || is k.LeftBrace t)))

abbrev pub goes_on_item : ItemKind → Sight → Bool
goes_on_item Decls t = goes_on_type t
goes_on_item Members t = goes_on_member t
goes_on_item EnumItems t = goes_on_member t || (is k.LeftParen t || is k.Comma t)
goes_on_item Requirements t = is k.Async t || (is k.Throws t || (is k.Arrow t || goes_on_type t))

-- what may stand in a list before its end
abbrev pub is_inner : Sight → Bool
is_inner t = not (is k.RightBrace t || is k.End t)

abbrev pub follow_last_table : Nonterminal → Sight → Bool
follow_last_table File t = false
follow_last_table (ItemList l) t = is_inner t
follow_last_table (AfterItem l) t = is_inner t
follow_last_table (Item l) t = goes_on_item l t
follow_last_table Param t = goes_on_type t || is k.Ellipsis t
follow_last_table Case t = is k.LeftParen t
follow_last_table Payload t = goes_on_type t
follow_last_table TypeExpr t = goes_on_type t
follow_last_table BaseType t = is k.Dot t
follow_last_table Block t = false
follow_last_table (Statements at) t = is_inner t
follow_last_table (SomeStatements at) t = is_inner t
follow_last_table (AfterStatement at ending) t = is_inner t
follow_last_table (AfterReturn at) t = is_inner t
follow_last_table (Statement Open) t = goes_on_expr t || is_assignment t
follow_last_table (Statement Closed) t = is_any_else t || is k.Catch t
follow_last_table If t = is_any_else t
follow_last_table Arms t = is_inner t
follow_last_table Condition t = goes_on_expr t || is k.Assign t
follow_last_table Pattern t = is k.LeftParen t
follow_last_table Caught t = is k.LeftParen t
follow_last_table Expr t = goes_on_expr t
follow_last_table Ternary t = goes_on_expr t
follow_last_table (Binary n) t = goes_on n t
follow_last_table Prefix t = is_form t
follow_last_table Postfix t = is_form t
follow_last_table PostfixForm t = false
follow_last_table Argument t = goes_on_expr t
follow_last_table Primary t = false
follow_last_table Elements t = goes_on_expr t || (is k.Comma t || starts_expr t)

-- ---- nullable: which may be empty

abbrev pub nullable_table : Nonterminal → Bool
nullable_table (AfterItem l) = true
nullable_table (Statements at) = true
nullable_table (AfterStatement at ending) = true
nullable_table (AfterReturn at) = true
nullable_table nonterminal = false

-- ---- the order: before it takes a token, a nonterminal calls only nonterminals of lower rank

abbrev pub rank : Nonterminal → ℕ
rank File = 4
rank (ItemList l) = 3
rank (AfterItem l) = 4
rank (Item EnumItems) = 2
rank (Item l) = 1
rank Param = 0
rank Case = 0
rank Payload = 2
rank TypeExpr = 1
rank BaseType = 0
rank Block = 0
rank (Statements at) = 15
rank (SomeStatements at) = 14
rank (AfterStatement at ending) = 15
rank (AfterReturn at) = 15
rank (Statement ending) = 13
rank If = 0
rank Arms = 0
rank Condition = 12
rank Pattern = 0
rank Caught = 0
rank Expr = 11
rank Ternary = 10
rank (Binary n) = 3 + (6 - n)
rank Prefix = 2
rank Postfix = 1
rank PostfixForm = 0
rank Argument = 12
rank Primary = 0
rank Elements = 12

abbrev pub width : ℕ
width = 16
