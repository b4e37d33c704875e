-- Tokens and trees that are alike but for their places.
use Rattle.std.specs.Prelude.{◌≡◌, map}
use Rattle.sw_tree.specs.Erased as erased
use Rattle.sw_tree.specs.Erased.{nowhere, option_map, erase_expr, erase_type, erase_stmt, erase_condition, erase_pattern, erase_catch_pattern, erase_parameter, erase_case, erase_payload, erase_decl, erase_member, erase_item, erase_requirement, erase}
use Rattle.sw_tree.specs.declared.expr.Expr.{Expr as ExprTree}
use Rattle.sw_tree.specs.declared.expr.Argument.{Argument as ArgumentTree}
use Rattle.sw_tree.specs.declared.stmt.Branch.{Branch}
use Rattle.sw_tree.specs.declared.stmt.SwitchArm.{SwitchArm}
use Rattle.sw_syntax.specs.Tokens.{Sighted}
use Rattle.sw_syntax.specs.Nonterminals.{ItemKind, Decls, Members, EnumItems, Requirements, Nonterminal, File, ItemList, AfterItem, Item, Param, Case, Payload, TypeExpr, BaseType, Block, Statements, SomeStatements, AfterStatement, AfterReturn, Statement, If, Arms, Condition, Pattern, Caught, Expr, Ternary, Binary, Prefix, Postfix, PostfixForm, Argument, Primary, Elements, ItemTree, Body, Sort}

-- a token without its place
abbrev pub unplaced : Sighted → Sighted
unplaced t = record { sight = t.sight; face = record { kind = t.face.kind; text = t.face.text; span = nowhere } }

-- ---- trees

abbrev pub erase_argument : ArgumentTree → ArgumentTree
erase_argument x = record { label = option_map erased.erase_name x.label; value = erase_expr x.value }

abbrev pub erase_branch : Branch → Branch
erase_branch x = record { span = nowhere; conditions = map erase_condition x.conditions; body = map erase_stmt x.body }

abbrev pub erase_arm : SwitchArm → SwitchArm
erase_arm x = record { label = erased.erase_arm_label x.label; body = map erase_stmt x.body }

abbrev pub erase_listed : (l : ItemKind) → ItemTree l → ItemTree l
erase_listed Decls = erase_decl
erase_listed Members = erase_member
erase_listed EnumItems = erase_item
erase_listed Requirements = erase_requirement

-- statements, and the arms after them, are alike
abbrev pub AreAlike : Body → Body → Type 0
AreAlike x y = (map erase_stmt x.0 ≡ map erase_stmt y.0) × (map erase_arm x.1 ≡ map erase_arm y.1)

-- The values of a nonterminal's sentences are alike but for their places. What a form makes of expressions that are alike is
-- alike.
abbrev pub Alike : (s : Nonterminal) → Sort s → Sort s → Type 0
Alike File x y = erase x ≡ erase y
Alike (ItemList l) xs ys = map (erase_listed l) xs ≡ map (erase_listed l) ys
Alike (AfterItem l) xs ys = map (erase_listed l) xs ≡ map (erase_listed l) ys
Alike (Item l) x y = erase_listed l x ≡ erase_listed l y
Alike Param x y = erase_parameter x ≡ erase_parameter y
Alike Case x y = erase_case x ≡ erase_case y
Alike Payload x y = erase_payload x ≡ erase_payload y
Alike TypeExpr x y = erase_type x ≡ erase_type y
Alike BaseType x y = erase_type x ≡ erase_type y
Alike Block xs ys = map erase_stmt xs ≡ map erase_stmt ys
Alike (Statements at) x y = AreAlike x y
Alike (SomeStatements at) x y = AreAlike x y
Alike (AfterStatement at ending) x y = AreAlike x y
Alike (AfterReturn at) x y = (option_map erase_expr x.0 ≡ option_map erase_expr y.0) × AreAlike x.1 y.1
Alike (Statement ending) x y = erase_stmt x ≡ erase_stmt y
Alike If x y = (erase_branch x.0 ≡ erase_branch y.0) × (map erase_branch x.1.0 ≡ map erase_branch y.1.0) × (option_map (map erase_stmt) x.1.1 ≡ option_map (map erase_stmt) y.1.1)
Alike Arms xs ys = map erase_arm xs ≡ map erase_arm ys
Alike Condition x y = erase_condition x ≡ erase_condition y
Alike Pattern x y = erase_pattern x ≡ erase_pattern y
Alike Caught x y = erase_catch_pattern x ≡ erase_catch_pattern y
Alike Expr x y = erase_expr x ≡ erase_expr y
Alike Ternary x y = erase_expr x ≡ erase_expr y
Alike (Binary n) x y = erase_expr x ≡ erase_expr y
Alike Prefix x y = erase_expr x ≡ erase_expr y
Alike Postfix x y = erase_expr x ≡ erase_expr y
Alike PostfixForm f g = (x y : ExprTree) → erase_expr x ≡ erase_expr y → erase_expr (f x) ≡ erase_expr (g y)
Alike Argument x y = erase_argument x ≡ erase_argument y
Alike Primary x y = erase_expr x ≡ erase_expr y
Alike Elements xs ys = map erase_expr xs ≡ map erase_expr ys
