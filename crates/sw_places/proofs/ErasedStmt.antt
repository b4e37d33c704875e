-- The equations of the erasure of types and of statements, one for each of their variants.
use Rattle.std.proofs.Common.{◌≡◌, List, map, Option, Some, None, sym, ap, ◌∙◌}
use Rattle.sw_base.specs.declared.ids.Span.{Span}
use Rattle.sw_tree.specs.Erased.{nowhere, option_map, erase_name, erase_expr, erase_type, erase_condition, erase_catch_pattern, erase_range_end, erase_stmt}
use Rattle.sw_tree.specs.declared.expr.Name.{Name}
use Rattle.sw_tree.specs.declared.expr.Expr.{Expr}
use Rattle.sw_tree.specs.declared.expr.Binding.{Binding}
use Rattle.sw_tree.specs.declared.types.«Type».{«Type» as TypeTree, fold-roll-Type}
use Rattle.sw_tree.specs.declared.types.«Type».TheOpen.{Type-F}
use Rattle.sw_tree.specs.declared.types.«Type».TheVariants as t
use Rattle.sw_tree.specs.declared.stmt.AssignOperator.{AssignOperator}
use Rattle.sw_tree.specs.declared.stmt.Branch.{Branch, fold-roll-Branch}
use Rattle.sw_tree.specs.declared.stmt.Catch.{Catch, fold-roll-Catch}
use Rattle.sw_tree.specs.declared.stmt.Condition.{Condition}
use Rattle.sw_tree.specs.declared.stmt.RangeEnd.{RangeEnd}
use Rattle.sw_tree.specs.declared.stmt.SwitchArm.{SwitchArm, fold-roll-SwitchArm}
use Rattle.sw_tree.specs.declared.stmt.Stmt.{Stmt, fold-roll-Stmt}
use Rattle.sw_tree.specs.declared.stmt.Stmt.TheOpen.{Stmt-F}
use Rattle.sw_tree.specs.declared.stmt.Stmt.TheVariants as s
use Rattle.sw_places.specs.Places.{erase_arm, erase_branch}
use Rattle.sw_places.proofs.ErasedExpr.{map_same}

-- ---- types

pub erased-Name-type : (name : Name) → erase_type (t.Name name) ≡ t.Name (erase_name name)
erased-Name-type name = ap erase_type (sym (t.rolls-Name name)) ∙ fold-roll-Type _ _ (Type-F.Name name)

pub erased-Member-type : (outer name : Name) → erase_type (t.Member outer name) ≡ t.Member (erase_name outer) (erase_name name)
erased-Member-type outer name = ap erase_type (sym (t.rolls-Member outer name)) ∙ fold-roll-Type _ _ (Type-F.Member outer name)

pub erased-Array-type : (at : Span) (x : TypeTree) → erase_type (t.Array at x) ≡ t.Array nowhere (erase_type x)
erased-Array-type at x = ap erase_type (sym (t.rolls-Array at x)) ∙ fold-roll-Type _ _ (Type-F.Array at x)

pub erased-Any-type : (at : Span) (name : Name) → erase_type (t.Any at name) ≡ t.Any nowhere (erase_name name)
erased-Any-type at name = ap erase_type (sym (t.rolls-Any at name)) ∙ fold-roll-Type _ _ (Type-F.Any at name)

pub erased-Void-type : (at : Span) → erase_type (t.Void at) ≡ t.Void nowhere
erased-Void-type at = ap erase_type (sym (t.rolls-Void at)) ∙ fold-roll-Type _ _ (Type-F.Void at)

pub erased-Optional-type : (x : TypeTree) → erase_type (t.Optional x) ≡ t.Optional (erase_type x)
erased-Optional-type x = ap erase_type (sym (t.rolls-Optional x)) ∙ fold-roll-Type _ _ (Type-F.Optional x)

-- ---- statements

abbrev pub erase_catch : Catch → Catch
erase_catch x = record { span = nowhere; pattern = option_map erase_catch_pattern x.pattern; body = map erase_stmt x.body }

pub erased-Local : (at : Span) (binding : Binding) (name : Name) (declared : Option TypeTree) (value : Expr) → erase_stmt (s.Local at binding name declared value) ≡ s.Local nowhere binding (erase_name name) (option_map erase_type declared) (erase_expr value)
erased-Local at binding name declared value = ap erase_stmt (sym (s.rolls-Local at binding name declared value)) ∙ fold-roll-Stmt _ _ _ _ _ _ _ _ (Stmt-F.Local at binding name declared value)

pub erased-Assign : (to : Expr) (operator : AssignOperator) (at : Span) (value : Expr) → erase_stmt (s.Assign to operator at value) ≡ s.Assign (erase_expr to) operator nowhere (erase_expr value)
erased-Assign to operator at value = ap erase_stmt (sym (s.rolls-Assign to operator at value)) ∙ fold-roll-Stmt _ _ _ _ _ _ _ _ (Stmt-F.Assign to operator at value)

pub erased-Discard : (at : Span) (value : Expr) → erase_stmt (s.Discard at value) ≡ s.Discard nowhere (erase_expr value)
erased-Discard at value = ap erase_stmt (sym (s.rolls-Discard at value)) ∙ fold-roll-Stmt _ _ _ _ _ _ _ _ (Stmt-F.Discard at value)

pub erased-Expr : (x : Expr) → erase_stmt (s.Expr x) ≡ s.Expr (erase_expr x)
erased-Expr x = ap erase_stmt (sym (s.rolls-Expr x)) ∙ fold-roll-Stmt _ _ _ _ _ _ _ _ (Stmt-F.Expr x)

pub erased-Guard : (at : Span) (conditions : List Condition) (body : List Stmt) → erase_stmt (s.Guard at conditions body) ≡ s.Guard nowhere (map erase_condition conditions) (map erase_stmt body)
erased-Guard at conditions body = ap erase_stmt (sym (s.rolls-Guard at conditions body)) ∙ fold-roll-Stmt _ _ _ _ _ _ _ _ (Stmt-F.Guard at conditions body)

pub erased-While : (at : Span) (conditions : List Condition) (body : List Stmt) → erase_stmt (s.While at conditions body) ≡ s.While nowhere (map erase_condition conditions) (map erase_stmt body)
erased-While at conditions body = ap erase_stmt (sym (s.rolls-While at conditions body)) ∙ fold-roll-Stmt _ _ _ _ _ _ _ _ (Stmt-F.While at conditions body)

pub erased-For : (at : Span) (name : Option Name) (first : Expr) (last : Option RangeEnd) (body : List Stmt) → erase_stmt (s.For at name first last body) ≡ s.For nowhere (option_map erase_name name) (erase_expr first) (option_map erase_range_end last) (map erase_stmt body)
erased-For at name first last body = ap erase_stmt (sym (s.rolls-For at name first last body)) ∙ fold-roll-Stmt _ _ _ _ _ _ _ _ (Stmt-F.For at name first last body)

pub erased-Switch : (at : Span) (subject : Expr) (arms : List SwitchArm) → erase_stmt (s.Switch at subject arms) ≡ s.Switch nowhere (erase_expr subject) (map erase_arm arms)
erased-Switch at subject arms =
    ap erase_stmt (sym (s.rolls-Switch at subject arms)) ∙ (fold-roll-Stmt _ _ _ _ _ _ _ _ (Stmt-F.Switch at subject arms)
    ∙ ap (λ ys. s.Switch nowhere (erase_expr subject) ys) (map_same _ erase_arm (λ x. fold-roll-SwitchArm _ _ _ _ _ _ _ _ (record { label = x.label; body = x.body })) arms))

pub erased-Do : (at : Span) (body : List Stmt) (catches : List Catch) → erase_stmt (s.Do at body catches) ≡ s.Do nowhere (map erase_stmt body) (map erase_catch catches)
erased-Do at body catches =
    ap erase_stmt (sym (s.rolls-Do at body catches)) ∙ (fold-roll-Stmt _ _ _ _ _ _ _ _ (Stmt-F.Do at body catches)
    ∙ ap (λ ys. s.Do nowhere (map erase_stmt body) ys) (map_same _ erase_catch (λ x. fold-roll-Catch _ _ _ _ _ _ _ _ (record { span = x.span; pattern = x.pattern; body = x.body })) catches))

pub erased-Return : (at : Span) (value : Option Expr) → erase_stmt (s.Return at value) ≡ s.Return nowhere (option_map erase_expr value)
erased-Return at value = ap erase_stmt (sym (s.rolls-Return at value)) ∙ fold-roll-Stmt _ _ _ _ _ _ _ _ (Stmt-F.Return at value)

pub erased-Throw : (at : Span) (value : Expr) → erase_stmt (s.Throw at value) ≡ s.Throw nowhere (erase_expr value)
erased-Throw at value = ap erase_stmt (sym (s.rolls-Throw at value)) ∙ fold-roll-Stmt _ _ _ _ _ _ _ _ (Stmt-F.Throw at value)

pub erased-Break : (at : Span) → erase_stmt (s.Break at) ≡ s.Break nowhere
erased-Break at = ap erase_stmt (sym (s.rolls-Break at)) ∙ fold-roll-Stmt _ _ _ _ _ _ _ _ (Stmt-F.Break at)

pub erased-Continue : (at : Span) → erase_stmt (s.Continue at) ≡ s.Continue nowhere
erased-Continue at = ap erase_stmt (sym (s.rolls-Continue at)) ∙ fold-roll-Stmt _ _ _ _ _ _ _ _ (Stmt-F.Continue at)

if_first : (x y : Branch) (others : List Branch) (otherwise : Option (List Stmt)) → x ≡ y → s.If x others otherwise ≡ s.If y others otherwise
if_first x y others otherwise p = ap (λ x. s.If x others otherwise) p

if_others : (first : Branch) (xs ys : List Branch) (otherwise : Option (List Stmt)) → xs ≡ ys → s.If first xs otherwise ≡ s.If first ys otherwise
if_others first xs ys otherwise p = ap (λ xs. s.If first xs otherwise) p

pub erased-If : (first : Branch) (others : List Branch) (otherwise : Option (List Stmt)) → erase_stmt (s.If first others otherwise) ≡ s.If (erase_branch first) (map erase_branch others) (option_map (map erase_stmt) otherwise)
erased-If first others None =
    ap erase_stmt (sym (s.rolls-If first others None)) ∙ (fold-roll-Stmt _ _ _ _ _ _ _ _ (Stmt-F.If first others None)
    ∙ (if_others _ _ _ None (map_same _ erase_branch (λ x. (fold-roll-Branch _ _ _ _ _ _ _ _ (record { span = x.span; conditions = x.conditions; body = x.body }))) others)
    ∙ if_first _ _ _ None (fold-roll-Branch _ _ _ _ _ _ _ _ (record { span = first.span; conditions = first.conditions; body = first.body }))))
erased-If first others (Some body) =
    ap erase_stmt (sym (s.rolls-If first others (Some body))) ∙ (fold-roll-Stmt _ _ _ _ _ _ _ _ (Stmt-F.If first others (Some body))
    ∙ (if_others _ _ _ (Some (map erase_stmt body)) (map_same _ erase_branch (λ x. (fold-roll-Branch _ _ _ _ _ _ _ _ (record { span = x.span; conditions = x.conditions; body = x.body }))) others)
    ∙ if_first _ _ _ (Some (map erase_stmt body)) (fold-roll-Branch _ _ _ _ _ _ _ _ (record { span = first.span; conditions = first.conditions; body = first.body }))))
