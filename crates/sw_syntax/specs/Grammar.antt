-- The grammar: the production of each nonterminal. Above each stands its text.
use Rattle.std.specs.Prelude.{Bool, true, false, not, ◌&&◌, ℕ, zero, suc, List, [], ◌∷◌, Some, None}
use Rattle.sw_base.specs.declared.ids.Span.{Span}
use Rattle.sw_lex.specs.declared.token.TokenKind.TheVariants as k
use Rattle.sw_grammar.specs.Grammar.{terminal, nonterminal, maybe, many, then_if, when, nest, counts, limited, gives}
use Rattle.sw_tree.specs.declared.expr.Expr.{Expr as ExprTree}
use Rattle.sw_tree.specs.declared.expr.Expr.TheVariants as e
use Rattle.sw_tree.specs.declared.expr.Literal.{Literal}
use Rattle.sw_tree.specs.declared.expr.Literal.TheVariants as literal
use Rattle.sw_tree.specs.declared.expr.Binding.TheVariants as binding
use Rattle.sw_tree.specs.declared.types.«Type».{«Type» as TypeTree}
use Rattle.sw_tree.specs.declared.types.«Type».TheVariants as t
use Rattle.sw_tree.specs.declared.stmt.Stmt.{Stmt}
use Rattle.sw_tree.specs.declared.stmt.Stmt.TheVariants as s
use Rattle.sw_tree.specs.declared.stmt.Branch.{Branch}
use Rattle.sw_tree.specs.declared.stmt.Catch.{Catch}
use Rattle.sw_tree.specs.declared.stmt.Condition.{Condition as ConditionTree}
use Rattle.sw_tree.specs.declared.stmt.Condition.TheVariants as c
use Rattle.sw_tree.specs.declared.stmt.ArmLabel.{ArmLabel}
use Rattle.sw_tree.specs.declared.stmt.ArmLabel.TheVariants as arm
use Rattle.sw_tree.specs.declared.stmt.Pattern.TheVariants as p
use Rattle.sw_tree.specs.declared.stmt.Bind.{Bind}
use Rattle.sw_tree.specs.declared.stmt.Bind.TheVariants as b
use Rattle.sw_tree.specs.declared.stmt.CatchPattern.TheVariants as cp
use Rattle.sw_tree.specs.declared.decl.Decl.{Decl}
use Rattle.sw_tree.specs.declared.decl.Decl.TheVariants as d
use Rattle.sw_tree.specs.declared.decl.Typealias.{Typealias}
use Rattle.sw_tree.specs.declared.decl.Heading.{Heading}
use Rattle.sw_tree.specs.declared.decl.Modifier.{Modifier}
use Rattle.sw_tree.specs.declared.decl.Parameter.{Parameter}
use Rattle.sw_tree.specs.declared.decl.Member.{Member}
use Rattle.sw_tree.specs.declared.decl.Member.TheVariants as m
use Rattle.sw_tree.specs.declared.decl.Accessor.{Accessor}
use Rattle.sw_tree.specs.declared.decl.Accessor.TheVariants as accessor
use Rattle.sw_tree.specs.declared.decl.Signature.{Signature}
use Rattle.sw_tree.specs.declared.decl.EnumItem.TheVariants as item
use Rattle.sw_tree.specs.declared.decl.Requirement.TheVariants as r
use Rattle.sw_syntax.specs.declared.class.Sight.{Sight}
use Rattle.sw_syntax.specs.Tokens.{Face}
use Rattle.sw_syntax.specs.Tests.{is_modifier, is_actor, is_get, is_getter, is_let_or_var, is_bool, is_else, is_any_else, is_else_if, is_first, goes_on_line, is_call, is_index, is_force, is_joined_question, is_ternary, is_sign, is_effect, is_binary, is_assignment, is_range, is_label, is_unlabelled, is_payload_label, is_bare_type, is_other_label, is_no_getter, goes_on_below}
use Rattle.sw_syntax.specs.Values.{or_none, or_some, name_of, binding_of, prefix_of, bool_of, pieces_of, integer_of, to_left, to_right, ternary_of, with_forms, awaited, tried, is_target, optional_of, named}
use Rattle.sw_syntax.specs.Forms.{range_end, or_empty, ahead, only_arms, or_bare, assigned, else_if, else_block, branches_of, modifier_of, stored_var, initial_var, computed_var, typed_var, or_untyped, or_no_statement, own_or_other, other_label}
use Rattle.sw_syntax.specs.Nonterminals.{ItemKind, Decls, Members, EnumItems, Requirements, Context, InBlock, InArm, Ending, Open, Closed, Nonterminal, File, ItemList, AfterItem, Item, Param, Case, Payload, TypeExpr, BaseType, Block, Statements, SomeStatements, AfterStatement, AfterReturn, Statement, If, Arms, Condition, Pattern, Caught, Expr, Ternary, Binary, Prefix, Postfix, PostfixForm, Argument, Primary, Elements, ItemTree, Body, Sort}
use Rattle.sw_syntax.specs.Parts.{P, ◌·◌, ◌∣◌, tok, place, name, present, after, some, any, in_parens, in_braces, whole_expr, whole_type}

-- ---- expressions

-- literal = integer | true | false | string
-- A string with `\( )` is told here with what stands in it: an expression in a larger one, or one by itself.
abbrev pub literal_with : P ExprTree → P (Span × Literal)
literal_with inner =
    gives (λ f. (f.span, integer_of f)) (tok k.Integer)
    ∣ gives (λ f. (f.span, literal.Bool (bool_of f.kind))) (terminal is_bool)
    ∣ gives (λ f. (f.span, literal.String f.text [])) (tok k.StringWhole)
    ∣ gives (λ (start, (first, (others, last))). (start.span, literal.String start.text (pieces_of first others last)))
    (nest (tok k.StringStart · inner · many (tok k.StringMiddle · inner) · tok k.StringLast))

-- try, and perhaps a `?` that touches it
abbrev pub try_mark : P (Span × Bool)
try_mark = place k.Try · present (terminal is_joined_question)

-- op prefix: a binary operator of this strength, and its right operand
abbrev pub operand : ℕ → P ExprTree → P (Face × ExprTree)
operand n x = counts (terminal (is_binary n)) · x

-- what stands right of a binary operator
-- The lenient grammar also has a `try` or an `await` there, in place of the operand.
abbrev pub right : Bool → ℕ → P ExprTree
right false n = nonterminal (Binary n)
right true n = nonterminal (Binary n) ∣ gives (λ f. e.Nil f.span) (terminal is_effect)

-- binary = prefix (op prefix)*, by the strength of the operators, as `is_binary` numbers them: those of most strengths
-- group to the left, comparisons are not chained, and `??` groups to the right
abbrev pub leftward : Bool → ℕ → P ExprTree
leftward lenient n = gives (λ (left, others). to_left left others) (nonterminal (Binary (suc n)) · many (operand n (right lenient (suc n))))

-- The lenient grammar chains comparisons.
abbrev pub comparing : Bool → P ExprTree
comparing false = gives (λ (left, right). to_right left right) (nonterminal (Binary 3) · maybe (operand 2 (right false 3)))
comparing true = leftward true 2

abbrev pub binary : Bool → ℕ → P ExprTree
binary lenient zero = leftward lenient 0
binary lenient (suc zero) = leftward lenient 1
binary lenient (suc (suc zero)) = comparing lenient
binary lenient (suc (suc (suc zero))) = gives (λ (left, right). to_right left right) (nonterminal (Binary 4) · maybe (operand 3 (right lenient 3)))
binary lenient (suc (suc (suc (suc zero)))) = leftward lenient 4
binary lenient (suc (suc (suc (suc (suc zero))))) = leftward lenient 5
binary lenient (suc (suc (suc (suc (suc (suc n)))))) = nonterminal Prefix

-- ---- patterns

-- bind = let name | _
abbrev pub bind : P Bind
bind = gives b.Let (after (tok k.Let) name) ∣ gives (λ _. b.Any) (tok k.Underscore)

-- ( bind,* )
abbrev pub binds : P (List Bind)
binds = in_parens (any bind)

-- ---- statements

-- : type
abbrev pub annotation : P TypeTree
annotation = after (tok k.Colon) whole_type

-- = expr
abbrev pub initial : P ExprTree
initial = after (tok k.Assign) whole_expr

-- conditions = condition,+
abbrev pub conds : P (List ConditionTree)
conds = some (nonterminal Condition)

-- if conditions block
abbrev pub branch : P Branch
branch = gives (λ (span, (conditions, body)). record { span = span; conditions = conditions; body = body }) (place k.If · conds · nonterminal Block)

-- case pattern,* | default, where there may be no pattern
abbrev pub arm_label : P ArmLabel
arm_label = gives arm.Case (after (tok k.Case) (any (nonterminal Pattern))) ∣ gives (λ _. arm.Default) (tok k.Default)

-- catch caught? block
abbrev pub catch : P Catch
catch = gives (λ (span, (pattern, body)). record { span = span; pattern = pattern; body = body }) (place k.Catch · maybe (nonterminal Caught) · nonterminal Block)

-- the token may begin a statement after one with this ending, at the start of a line
abbrev pub begins_below : Ending → Sight → Bool
begins_below Open t = is_first t && not (goes_on_below t)
begins_below Closed t = is_first t

-- sep, and what follows it: other statements, and in an arm of a `switch` other arms
abbrev pub next_stmts : Context → Ending → P Body
next_stmts InBlock ending =
    after (tok k.Semicolon) (nonterminal (Statements InBlock))
    ∣ when (begins_below ending) (nonterminal (SomeStatements InBlock))
next_stmts InArm ending =
    after (tok k.Semicolon) (nonterminal (Statements InArm))
    ∣ when (begins_below ending) (nonterminal (SomeStatements InArm))
    ∣ gives only_arms (when is_first (nonterminal Arms))

-- a statement that is no `return`
abbrev pub statement : Ending → P Stmt
statement Open =
    gives (λ (word, (name, (declared, value))). s.Local word.span (binding_of word.kind) name declared value) (terminal is_let_or_var · name · maybe annotation · initial)
    ∣ gives (λ (place, value). assigned place value) (then_if whole_expr is_target (terminal is_assignment · whole_expr))
    ∣ gives (λ (span, value). s.Discard span value) (place k.Underscore · initial)
    ∣ gives (λ (span, value). s.Throw span value) (place k.Throw · whole_expr)
statement Closed =
    gives (λ (first, (others, block)). s.If first others block) (limited (nonterminal If))
    ∣ gives (λ (span, (conditions, body)). s.Guard span conditions body) (place k.Guard · conds · after (terminal is_any_else) (nonterminal Block))
    ∣ gives (λ (span, (conditions, body)). s.While span conditions body) (place k.While · conds · nonterminal Block)
    ∣ gives (λ (span, (name, (_, (first, (last, body))))). s.For span name first last body)
    (place k.For · (gives Some name ∣ gives (λ _. None) (tok k.Underscore)) · tok k.In · whole_expr
    · maybe (gives (λ (sign, value). range_end sign value) (terminal is_range · whole_expr)) · nonterminal Block)
    ∣ gives (λ (span, (value, arms)). s.Switch span value arms) (place k.Switch · whole_expr · in_braces (gives or_none (maybe (nonterminal Arms))))
    ∣ gives (λ (span, (body, catches)). s.Do span body catches) (place k.Do · nonterminal Block · many catch)
    ∣ gives s.Break (place k.Break)
    ∣ gives s.Continue (place k.Continue)

-- ---- declarations

-- (item sep)*
abbrev pub list_of : (l : ItemKind) → P (List (ItemTree l))
list_of l = gives or_none (maybe (nonterminal (ItemList l)))

-- mods = (public | internal | private | fileprivate | final | distributed | nonisolated | static | mutating)*
abbrev pub mods : P (List Modifier)
mods = many (gives modifier_of (terminal is_modifier))

-- name conf?, where conf = : name,*  (at least one)
abbrev pub heading : P (List Modifier → Heading)
heading = gives (λ (name, conformances) modifiers. record { modifiers = modifiers; name = name; conformances = or_none conformances }) (name · maybe (after (tok k.Colon) (some name)))

-- typealias name = type
abbrev pub typealias : P Typealias
typealias = gives (λ (span, (name, target)). record { span = span; name = name; target = target }) (place k.Typealias · name · after (tok k.Assign) whole_type)

-- ( param,* )
abbrev pub params : P (List Parameter)
params = in_parens (any (nonterminal Param))

-- func name ( param,* ) async? throws? (-> type)?
abbrev pub signature : P (List Modifier → Signature)
signature =
    gives (λ (name, (parameters, (is_async, (throws, result)))) modifiers. record { modifiers = modifiers; name = name; type_parameters = []; parameters = parameters; is_async = is_async; throws = throws; result = result })
    (after (tok k.Func) (name · params · present (tok k.Async) · present (tok k.Throws) · maybe (after (tok k.Arrow) whole_type)))

-- struct name conf? { (member sep)* } | enum .. | protocol .. | actor .. | func, after mods
abbrev pub modified_decl : P (List Modifier → Decl)
modified_decl =
    gives (λ (heading, members) modifiers. d.Struct (heading modifiers) members) (after (tok k.Struct) (heading · in_braces (list_of Members)))
    ∣ gives (λ (heading, items) modifiers. d.Enum (heading modifiers) items) (after (tok k.Enum) (heading · in_braces (list_of EnumItems)))
    ∣ gives (λ (heading, requirements) modifiers. d.Protocol (heading modifiers) requirements) (after (tok k.Protocol) (heading · in_braces (list_of Requirements)))
    ∣ gives (λ (heading, members) modifiers. d.Actor (heading modifiers) members) (after (terminal is_actor) (heading · in_braces (list_of Members)))
    ∣ gives (λ (signature, body) modifiers. d.Func (record { signature = signature modifiers; body = body })) (signature · nonterminal Block)

-- { (statements | get block) }
abbrev pub getter : P Accessor
getter = gives or_no_statement (in_braces (maybe (
    gives accessor.Get (after (terminal is_getter) (nonterminal Block))
    ∣ gives (λ body. accessor.Body body.0) (when is_no_getter (nonterminal (SomeStatements InBlock))))))

-- let name (: type)? (= expr)?, after mods
abbrev pub let_property : P (List Modifier → Member)
let_property =
    gives (λ (name, (declared, initial)) modifiers. m.Stored (record { modifiers = modifiers; binding = binding.Let; name = name; declared = declared; initial = initial }))
    (after (tok k.Let) (name · maybe annotation · maybe initial))

-- var name (: type)? (= expr)? | var name : type { (statements | get block) }, after mods
abbrev pub var_property : P (List Modifier → Member)
var_property =
    gives (λ (name, rest) modifiers. or_untyped rest modifiers name)
    (after (tok k.Var) (name · maybe (
    gives (λ (declared, rest). typed_var declared rest) (annotation · maybe (gives initial_var initial ∣ gives computed_var getter))
    ∣ gives (λ x. stored_var None (Some x)) initial)))

-- init ( param,* ) throws? block, after mods
abbrev pub initializer : P (List Modifier → Member)
initializer =
    gives (λ (span, (parameters, (throws, body))) modifiers. m.Initializer (record { modifiers = modifiers; span = span; parameters = parameters; throws = throws; body = body }))
    (place k.Init · params · present (tok k.Throws) · nonterminal Block)

abbrev pub modified_member : P (List Modifier → Member)
modified_member =
    let_property
    ∣ var_property
    ∣ gives (λ (signature, body) modifiers. m.Func (record { signature = signature modifiers; body = body })) (signature · nonterminal Block)
    ∣ initializer

abbrev pub item_of : (l : ItemKind) → P (ItemTree l)
-- decl = import name | typealias name = type | nominal | func
item_of Decls =
    gives (λ (span, name). d.Import span name) (place k.Import · name)
    ∣ gives d.Typealias typealias
    ∣ gives (λ (modifiers, decl). decl modifiers) (mods · modified_decl)
-- member = typealias name = type | mods (let .. | var .. | func .. | init ..)
item_of Members =
    gives m.Typealias typealias
    ∣ gives (λ (modifiers, member). member modifiers) (mods · modified_member)
-- case | member, where case = case (name (( (name :)? type ,* ))?),*  (at least one)
item_of EnumItems =
    gives item.Cases (after (tok k.Case) (some (nonterminal Case)))
    ∣ gives item.Member (nonterminal (Item Members))
-- req = mods func name ( param,* ) async? throws? (-> type)? | var name : type { get }
item_of Requirements =
    gives (λ (name, (declared, _)). r.Property name declared) (after (tok k.Var) (name · annotation · in_braces (terminal is_get)))
    ∣ gives (λ (modifiers, signature). r.Func (signature modifiers)) (mods · signature)

-- ---- the productions

-- The grammar, and a lenient one, in which more stands at two places: what begins a sentence of that one alone is refused
-- by a rule of its own.

abbrev pub production : Bool → (x : Nonterminal) → P (Sort x)
-- file = (decl sep)*
production lenient File = gives (λ (decls, _). record { decls = decls }) (list_of Decls · tok k.End)
-- (item sep)*, with at least one item: sep is `;` or a line break, and may be absent at the end
production lenient (ItemList l) = gives (λ (item, others). item ∷ others) (nonterminal (Item l) · nonterminal (AfterItem l))
production lenient (AfterItem l) = gives or_none (maybe (after (tok k.Semicolon) (list_of l) ∣ when is_first (nonterminal (ItemList l))))
production lenient (Item l) = item_of l
-- param = (name | _)? name : inout? type ...?
production lenient Param =
    gives (λ ((label, name), (inout, (declared, variadic))). record { label = label; name = name; inout = inout; declared = declared; variadic = variadic })
    ((gives (λ (first, second). own_or_other first second) (name · maybe name) ∣ gives (λ (label, name). other_label label name) (terminal is_other_label · name))
    · after (tok k.Colon) (maybe (place k.Inout) · whole_type · maybe (place k.Ellipsis)))
-- name (( (name :)? type ,* ))?
production lenient Case = gives (λ (name, payload). record { name = name; payload = payload }) (name · maybe (in_parens (any (nonterminal Payload))))
-- (name :)? type
production lenient Payload =
    gives (λ (label, declared). record { label = Some (name_of label); declared = declared }) (terminal is_payload_label · annotation)
    ∣ gives (λ declared. record { label = None; declared = declared }) (when is_bare_type whole_type)
-- type = base ?*
production lenient TypeExpr = gives (λ (base, marks). optional_of base marks) (nonterminal BaseType · many (counts (terminal is_joined_question)))
-- base = name | name . name | [ type ] | any name | ( )
production lenient BaseType =
    gives (λ (name, member). named name member) (name · maybe (after (tok k.Dot) name))
    ∣ gives (λ (span, (element, _)). t.Array span element) (nest (counts (place k.LeftBracket) · nonterminal TypeExpr · tok k.RightBracket))
    ∣ gives (λ (span, name). t.Any span name) (place k.Any · name)
    ∣ gives (λ (span, _). t.Void span) (nest (place k.LeftParen · tok k.RightParen))
-- block = { statements }
production lenient Block = gives (λ (statements, _). statements) (in_braces (nonterminal (Statements InBlock)))
-- statements = (statement sep)*
production lenient (Statements InBlock) = gives or_empty (maybe (nonterminal (SomeStatements InBlock)))
production lenient (Statements InArm) = gives or_empty (maybe (nonterminal (SomeStatements InArm) ∣ gives only_arms (nonterminal Arms)))
-- statement = .. | return expr? | ..
production lenient (SomeStatements at) =
    gives (λ (statement, body). ahead statement body) (nonterminal (Statement Open) · nonterminal (AfterStatement at Open))
    ∣ gives (λ (statement, body). ahead statement body) (nonterminal (Statement Closed) · nonterminal (AfterStatement at Closed))
    ∣ gives (λ (span, (value, body)). ahead (s.Return span value) body) (place k.Return · nonterminal (AfterReturn at))
production lenient (AfterStatement at ending) = gives or_empty (maybe (next_stmts at ending))
production lenient (AfterReturn at) = gives or_bare (maybe (
    gives (λ (value, body). (Some value, body)) (when goes_on_line whole_expr · nonterminal (AfterStatement at Open))
    ∣ gives (λ body. (None, body)) (next_stmts at Closed)))
production lenient (Statement ending) = statement ending
-- if conditions block (else (block | if-stmt))?
production lenient If =
    gives (λ (first, rest). branches_of first rest)
    (branch · maybe (
    gives else_block (after (terminal is_else) (nonterminal Block))
    ∣ gives else_if (after (counts (terminal is_else_if)) (nonterminal If))))
-- (arm_label : statements)*, with at least one
production lenient Arms = gives (λ (label, (body, arms)). record { label = label; body = body } ∷ arms) (arm_label · after (tok k.Colon) (nonterminal (Statements InArm)))
-- condition = expr | (let | var) name (= expr)?
production lenient Condition =
    gives c.Expr whole_expr
    ∣ gives (λ (word, (name, value)). c.Bind (binding_of word.kind) name value) (terminal is_let_or_var · name · maybe initial)
-- pattern = _ | literal | nil | name? . name (( bind,* ))?
production lenient Pattern =
    gives p.Any (place k.Underscore)
    ∣ gives (λ (span, value). p.Literal span value) (literal_with whole_expr)
    ∣ gives p.Nil (place k.Nil)
    ∣ gives (λ (outer, (span, (name, binds))). p.Case outer span name binds) (maybe name · place k.Dot · name · maybe binds)
-- caught = let name as name | name . name (( bind,* ))?
production lenient Caught =
    gives (λ (name, target). cp.As name target) (after (tok k.Let) (name · after (tok k.As) name))
    ∣ gives (λ (outer, (name, binds)). cp.Case outer name binds) (name · after (tok k.Dot) (name · maybe binds))
-- expr = try_mark? await? ternary
production lenient Expr = gives (λ (try_at, (await_at, value)). tried try_at (awaited await_at value)) (maybe try_mark · maybe (place k.Await) · nonterminal Ternary)
-- ternary = binary (? expr : expr)?
production lenient Ternary = gives (λ (condition, branches). ternary_of condition branches) (nonterminal (Binary 0) · maybe (after (counts (terminal is_ternary)) (nonterminal Expr · after (tok k.Colon) (nonterminal Expr))))
production lenient (Binary n) = binary lenient n
-- prefix = (- | !)* postfix
production lenient Prefix = gives (λ (sign, value). e.Prefix (prefix_of sign.kind) sign.span value) (counts (terminal is_sign) · nonterminal Prefix) ∣ nonterminal Postfix
-- postfix = primary (. name | ( arg,* ) | [ expr ] | !)*
production lenient Postfix = gives (λ (base, forms). with_forms base forms) (nonterminal Primary · many (nonterminal PostfixForm))
production lenient PostfixForm =
    gives (λ member base. e.Member base member) (after (counts (tok k.Dot)) name)
    ∣ gives (λ (opening, (arguments, _)) base. e.Call base (opening.span, arguments)) (nest (counts (terminal is_call) · any (nonterminal Argument) · tok k.RightParen))
    ∣ gives (λ (opening, (index, _)) base. e.Index base (opening.span, index)) (nest (counts (terminal is_index) · nonterminal Expr · tok k.RightBracket))
    ∣ gives (λ sign base. e.Force base sign.span) (counts (terminal is_force))
-- arg = (name :)? expr
production lenient Argument =
    gives (λ (label, value). record { label = Some (name_of label); value = value }) (terminal is_label · after (tok k.Colon) (nonterminal Expr))
    ∣ gives (λ value. record { label = None; value = value }) (when is_unlabelled (nonterminal Expr))
-- primary = literal | nil | name | self | . name | ( expr ) | [ elements? ]
production lenient Primary =
    gives (λ (span, value). e.Literal span value) (literal_with (nonterminal Expr))
    ∣ gives e.Nil (place k.Nil)
    ∣ gives e.Name name
    ∣ gives e.SelfValue (place k.Self_)
    ∣ gives (λ (span, name). e.Implicit span name) (place k.Dot · name)
    ∣ gives (λ (span, (value, _)). e.Paren span value) (nest (place k.LeftParen · nonterminal Expr · tok k.RightParen))
    ∣ gives (λ (span, (elements, _)). e.Array span (or_none elements)) (nest (place k.LeftBracket · maybe (nonterminal Elements) · tok k.RightBracket))
-- elements = expr,* with at least one: a comma may follow the last
production lenient Elements = gives (λ (first, others). first ∷ or_none (or_some others)) (nonterminal Expr · maybe (after (tok k.Comma) (maybe (nonterminal Elements))))
