-- The tests of a token that statements and declarations make, beside those of expressions.
use Rattle.std.specs.Prelude.{Bool, ◌||◌}
use Rattle.sw_lex.specs.declared.token.TokenKind.TheVariants as k
use Rattle.sw_syntax.specs.declared.class.Sight.{Sight}
use Rattle.sw_syntax.specs.declared.decl_tests.Opening.{Opening}
use Rattle.sw_syntax.specs.declared.decl_tests.Opening.TheVariants as opening
use Rattle.sw_syntax.specs.Tests.{is, is_modifier, is_actor, is_get, is_getter, is_else, is_else_if, is_any_else, is_first, is_assignment, is_range, is_other_label, is_payload_label, is_bare_type}
use Rattle.sw_syntax.specs.Nonterminals.{Decls, Members, EnumItems, Requirements, Open, Closed, Param, Payload, Pattern, Caught}
use Rattle.sw_syntax.specs.Grammar.{begins_below}
use Rattle.sw_syntax.specs.Tables.{first_table, starts_item, starts_stmt_of, starts_stmt, starts_arm}
use Rattle.sw_syntax.specs.Bodies.{is_returned}

abbrev pub starts_bind : Sight → Bool
starts_bind t = is k.Let t || is k.Underscore t

-- which tokens pass a test
abbrev pub stands : Opening → Sight → Bool
stands opening.Modifier = is_modifier
stands opening.Actor = is_actor
stands opening.Get = is_get
stands opening.GetBlock = is_getter
stands opening.Else = is_else
stands opening.ElseIf = is_else_if
stands opening.AnyElse = is_any_else
stands opening.NewLine = is_first
stands opening.Assignment = is_assignment
stands opening.Range = is_range
stands opening.OtherLabel = is_other_label
stands opening.PayloadLabel = is_payload_label
stands opening.BareType = is_bare_type
stands opening.Decl = starts_item Decls
stands opening.Member = starts_item Members
stands opening.EnumItem = starts_item EnumItems
stands opening.Requirement = starts_item Requirements
stands opening.OpenStatement = starts_stmt_of Open
stands opening.ClosedStatement = starts_stmt_of Closed
stands opening.Statement = starts_stmt
stands opening.Arm = starts_arm
stands opening.Returned = is_returned
stands opening.BelowOpen = begins_below Open
stands opening.BelowClosed = begins_below Closed
stands opening.Parameter = first_table Param
stands opening.Payload = first_table Payload
stands opening.Pattern = first_table Pattern
stands opening.CatchPattern = first_table Caught
stands opening.Bind = starts_bind
