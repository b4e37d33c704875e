-- The values of statements and declarations: how a tree is made of the values of a production's parts.
use Rattle.std.specs.Prelude.{if◌then◌else◌, List, [], ◌∷◌, Option, Some, None, codes}
use Rattle.sw_lex.specs.declared.token.TokenKind.{TokenKind}
use Rattle.sw_lex.specs.declared.token.TokenKind.TheVariants as k
use Rattle.sw_lex.specs.Bytes.{Text}
use Rattle.sw_lex.specs.Tables.{is_same_text}
use Rattle.sw_syntax.specs.Tokens.{Face}
use Rattle.sw_syntax.specs.Values.{name_of, assign_of, range_of}
use Rattle.sw_syntax.specs.Nonterminals.{Body, Branches}
use Rattle.sw_tree.specs.declared.expr.Name.{Name}
use Rattle.sw_tree.specs.declared.expr.Binding.TheVariants as binding
use Rattle.sw_tree.specs.declared.expr.Expr.{Expr}
use Rattle.sw_tree.specs.declared.types.«Type».{«Type» as TypeTree}
use Rattle.sw_tree.specs.declared.stmt.Stmt.{Stmt}
use Rattle.sw_tree.specs.declared.stmt.Stmt.TheVariants as s
use Rattle.sw_tree.specs.declared.stmt.RangeEnd.{RangeEnd}
use Rattle.sw_tree.specs.declared.stmt.Branch.{Branch}
use Rattle.sw_tree.specs.declared.stmt.SwitchArm.{SwitchArm}
use Rattle.sw_tree.specs.declared.decl.ModifierKind.{ModifierKind}
use Rattle.sw_tree.specs.declared.decl.ModifierKind.TheVariants as modifier
use Rattle.sw_tree.specs.declared.decl.Modifier.{Modifier}
use Rattle.sw_tree.specs.declared.decl.Member.{Member}
use Rattle.sw_tree.specs.declared.decl.Member.TheVariants as m
use Rattle.sw_tree.specs.declared.decl.Accessor.{Accessor}
use Rattle.sw_tree.specs.declared.decl.Accessor.TheVariants as accessor
use Rattle.sw_tree.specs.declared.decl.ParameterLabel.{ParameterLabel}
use Rattle.sw_tree.specs.declared.decl.ParameterLabel.TheVariants as label

-- ---- statements

-- no statement, and no arm
abbrev pub empty_body : Body
empty_body = ([], [])

abbrev pub or_empty : Option Body → Body
or_empty None = empty_body
or_empty (Some body) = body

-- a body with a statement before it
abbrev pub ahead : Stmt → Body → Body
ahead statement body = (statement ∷ body.0, body.1)

abbrev pub only_arms : List SwitchArm → Body
only_arms arms = ([], arms)

abbrev pub or_bare : Option (Option Expr × Body) → Option Expr × Body
or_bare None = (None, empty_body)
or_bare (Some x) = x

abbrev pub assigned : Expr → Option (Face × Expr) → Stmt
assigned x None = s.Expr x
assigned place (Some x) = s.Assign place (assign_of x.0.kind) x.0.span x.1

-- the second end of a range, after its mark
abbrev pub range_end : Face → Expr → RangeEnd
range_end mark value = record { span = mark.span; operator = range_of mark.kind; value = value }

-- what follows an `else`: another `if`, or a block
abbrev pub else_if : Branches → Branch → Branches
else_if rest first = (first, (rest.0 ∷ rest.1.0, rest.1.1))

abbrev pub else_block : List Stmt → Branch → Branches
else_block body first = (first, ([], Some body))

abbrev pub branches_of : Branch → Option (Branch → Branches) → Branches
branches_of first None = (first, ([], None))
branches_of first (Some rest) = rest first

-- ---- declarations

-- the words that are no reserved words are told by their text
abbrev pub modifier_word : Text → ModifierKind
modifier_word text =
    if is_same_text text (codes "final") then modifier.Final else
    if is_same_text text (codes "distributed") then modifier.Distributed else
    if is_same_text text (codes "nonisolated") then modifier.Nonisolated else
    modifier.Mutating

abbrev pub modifier_in : TokenKind → Text → ModifierKind
modifier_in k.Public text = modifier.Public
modifier_in k.Internal text = modifier.Internal
modifier_in k.Private text = modifier.Private
modifier_in k.Fileprivate text = modifier.Fileprivate
modifier_in k.Static text = modifier.Static
modifier_in kind text = modifier_word text

abbrev pub modifier_of : Face → Modifier
modifier_of f = record { kind = modifier_in f.kind f.text; span = f.span }

-- a part of a declaration whose modifiers and whose name are still to come
abbrev pub Named : Type 0 → Type 0
Named A = List Modifier → Name → A

abbrev pub stored_var : Option TypeTree → Option Expr → Named Member
stored_var declared initial modifiers name = m.Stored (record { modifiers = modifiers; binding = binding.Var; name = name; declared = declared; initial = initial })

abbrev pub initial_var : Expr → TypeTree → Named Member
initial_var initial declared = stored_var (Some declared) (Some initial)

abbrev pub computed_var : Accessor → TypeTree → Named Member
computed_var getter declared modifiers name = m.Computed (record { modifiers = modifiers; name = name; declared = declared; accessor = getter })

-- a `var` with a type, and what follows the type
abbrev pub typed_var : TypeTree → Option (TypeTree → Named Member) → Named Member
typed_var declared None = stored_var (Some declared) None
typed_var declared (Some rest) = rest declared

abbrev pub or_untyped : Option (Named Member) → Named Member
or_untyped None = stored_var None None
or_untyped (Some rest) = rest

abbrev pub or_no_statement : Option Accessor → Accessor
or_no_statement None = accessor.Body []
or_no_statement (Some getter) = getter

-- a parameter's label and name
abbrev pub own_or_other : Name → Option Name → ParameterLabel × Name
own_or_other name None = (label.Own, name)
own_or_other other (Some name) = (label.Other other, name)

abbrev pub label_in : TokenKind → Name → ParameterLabel
label_in k.Underscore other = label.Nothing
label_in kind other = label.Other other

abbrev pub other_label : Face → Name → ParameterLabel × Name
other_label f name = (label_in f.kind (name_of f), name)
