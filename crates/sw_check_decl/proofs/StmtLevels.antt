-- What each form of statement breaks.
use Rattle.std.proofs.Common.{◌≡◌, List, [], ◌∷◌, ◌++◌, map, refl, sym, ap, ◌∙◌, append-nil, Option, Some, None}
use Rattle.std.specs.List.{flat_map}
use Rattle.std.proofs.lemmas.List.Folds.{flat_map-map}
use Rattle.sw_base.specs.declared.ids.Span.{Span}
use Rattle.sw_rules.specs.declared.Refusal.{Refusal}
use Rattle.sw_tree.specs.declared.expr.Name.{Name}
use Rattle.sw_tree.specs.declared.expr.Binding.{Binding}
use Rattle.sw_tree.specs.declared.expr.Expr.{Expr}
use Rattle.sw_tree.specs.declared.types.«Type».{«Type» as TypeTree}
use Rattle.sw_tree.specs.declared.stmt.AssignOperator.{AssignOperator}
use Rattle.sw_tree.specs.declared.stmt.Condition.{Condition}
use Rattle.sw_tree.specs.declared.stmt.RangeEnd.{RangeEnd}
use Rattle.sw_tree.specs.declared.stmt.Branch.{Branch}
use Rattle.sw_tree.specs.declared.stmt.Catch.{Catch}
use Rattle.sw_tree.specs.declared.stmt.SwitchArm.{SwitchArm}
use Rattle.sw_tree.specs.declared.stmt.Stmt.{Stmt, roll-Stmt, map-Stmt}
use Rattle.sw_tree.specs.declared.stmt.Stmt.TheFolds.{fold-Branch, fold-Catch, fold-SwitchArm, fold-roll-Stmt, fold_out-Branch, fold_out-Catch, fold_out-SwitchArm}
use Rattle.sw_tree.specs.declared.stmt.Stmt.TheOpen.{Stmt-F}
use Rattle.sw_tree.specs.declared.stmt.Stmt.TheVariants as s
use Rattle.sw_declared.specs.declared.names.Member.{Member}
use Rattle.sw_declared.specs.declared.names.Names.{Names}
use Rattle.sw_check_decl.specs.TypesInSource.{perhaps, of_all, type_broken, caught_broken, stmt_level, branch_level, catch_level, arm_level, stmt_broken, block_broken}
use Rattle.sw_check_decl.proofs.Findings.{keep_append, keep_none}

abbrev Rs : Type 0
Rs = List Refusal

branch_fold : Names → List Member → Branch → Rs
branch_fold names own = fold-Branch Rs Rs Rs Rs (stmt_level names own) branch_level (catch_level names own) arm_level

catch_fold : Names → List Member → Catch → Rs
catch_fold names own = fold-Catch Rs Rs Rs Rs (stmt_level names own) branch_level (catch_level names own) arm_level

arm_fold : Names → List Member → SwitchArm → Rs
arm_fold names own = fold-SwitchArm Rs Rs Rs Rs (stmt_level names own) branch_level (catch_level names own) arm_level

-- the statements of a block, one after another
of_statements : (names : Names) (own : List Member) (body : List Stmt) → of_all (map (stmt_broken names own) body) ≡ block_broken names own body
of_statements names own body = flat_map-map (λ x. x) (stmt_broken names own) body

branch_same : (names : Names) (own : List Member) (x : Branch) → branch_fold names own x ≡ block_broken names own x.body
unfolding stmt_broken branch_fold
branch_same names own x = fold_out-Branch Rs Rs Rs Rs (stmt_level names own) branch_level (catch_level names own) arm_level x ∙ of_statements names own x.body

catch_same : (names : Names) (own : List Member) (x : Catch) → catch_fold names own x ≡ perhaps (caught_broken names own) x.pattern ++ block_broken names own x.body
unfolding stmt_broken catch_fold
catch_same names own x =
    fold_out-Catch Rs Rs Rs Rs (stmt_level names own) branch_level (catch_level names own) arm_level x
    ∙ ap (λ w. perhaps (caught_broken names own) x.pattern ++ w) (of_statements names own x.body)

arm_same : (names : Names) (own : List Member) (x : SwitchArm) → arm_fold names own x ≡ block_broken names own x.body
unfolding stmt_broken arm_fold
arm_same names own x = fold_out-SwitchArm Rs Rs Rs Rs (stmt_level names own) branch_level (catch_level names own) arm_level x ∙ of_statements names own x.body

-- what each item breaks, by two functions that say the same
all_alike : {A : Type 0} (f g : A → Rs) → ((x : A) → f x ≡ g x) → (xs : List A) → of_all (map f xs) ≡ flat_map g xs
all_alike f g h [] = refl
all_alike f g h (x ∷ xs) = ap (λ w. w ++ of_all (map f xs)) (h x) ∙ ap (λ w. g x ++ w) (all_alike f g h xs)

rolled : (names : Names) (own : List Member) (layer : Stmt-F Stmt Branch Catch SwitchArm) {x : Stmt} → roll-Stmt layer ≡ x
    → stmt_broken names own x ≡ stmt_level names own (map-Stmt Stmt Branch Catch SwitchArm Rs Rs Rs Rs (stmt_broken names own) (branch_fold names own) (catch_fold names own) (arm_fold names own) layer)
unfolding stmt_broken branch_fold catch_fold arm_fold
rolled names own layer h = ap (stmt_broken names own) (sym h) ∙ fold-roll-Stmt Rs Rs Rs Rs (stmt_level names own) branch_level (catch_level names own) arm_level layer

pub of_local : (names : Names) (own : List Member) (span : Span) (binding : Binding) (name : Name) (declared : Option TypeTree) (value : Expr) → stmt_broken names own (s.Local span binding name declared value) ≡ perhaps (type_broken names own) declared
of_local names own span binding name declared value = rolled names own _ (s.rolls-Local span binding name declared value)

pub of_assign : (names : Names) (own : List Member) (to : Expr) (operator : AssignOperator) (span : Span) (value : Expr) → stmt_broken names own (s.Assign to operator span value) ≡ []
of_assign names own to operator span value = rolled names own _ (s.rolls-Assign to operator span value)

pub of_discard : (names : Names) (own : List Member) (span : Span) (value : Expr) → stmt_broken names own (s.Discard span value) ≡ []
of_discard names own span value = rolled names own _ (s.rolls-Discard span value)

pub of_expr : (names : Names) (own : List Member) (x : Expr) → stmt_broken names own (s.Expr x) ≡ []
of_expr names own x = rolled names own _ (s.rolls-Expr x)

of_if_fold : (names : Names) (own : List Member) (first : Branch) (others : List Branch) (otherwise : Option (List Stmt))
    → stmt_broken names own (s.If first others otherwise) ≡ branch_fold names own first ++ (of_all (map (branch_fold names own) others) ++ perhaps (block_broken names own) otherwise)
of_if_fold names own first others None = rolled names own _ (s.rolls-If first others None)
of_if_fold names own first others (Some body) =
    rolled names own _ (s.rolls-If first others (Some body))
    ∙ ap (λ w. branch_fold names own first ++ (of_all (map (branch_fold names own) others) ++ w)) (of_statements names own body)

of_if : (names : Names) (own : List Member) (first : Branch) (others : List Branch) (otherwise : Option (List Stmt))
    → stmt_broken names own (s.If first others otherwise) ≡ block_broken names own first.body ++ (flat_map (λ x. block_broken names own x.body) others ++ perhaps (block_broken names own) otherwise)
of_if names own first others otherwise =
    of_if_fold names own first others otherwise
    ∙ ap (λ w. w ++ (of_all (map (branch_fold names own) others) ++ perhaps (block_broken names own) otherwise)) (branch_same names own first)
    ∙ ap (λ w. block_broken names own first.body ++ (w ++ perhaps (block_broken names own) otherwise)) (all_alike (branch_fold names own) (λ x. block_broken names own x.body) (branch_same names own) others)

pub of_if_else : (names : Names) (own : List Member) (first : Branch) (others : List Branch) (body : List Stmt)
    → stmt_broken names own (s.If first others (Some body)) ≡ block_broken names own first.body ++ (flat_map (λ x. block_broken names own x.body) others ++ block_broken names own body)
of_if_else names own first others body = of_if names own first others (Some body)

pub of_if_alone : (names : Names) (own : List Member) (first : Branch) (others : List Branch)
    → stmt_broken names own (s.If first others None) ≡ block_broken names own first.body ++ flat_map (λ x. block_broken names own x.body) others
of_if_alone names own first others =
    of_if names own first others None ∙ ap (λ w. block_broken names own first.body ++ w) (append-nil (flat_map (λ x. block_broken names own x.body) others))

pub of_guard : (names : Names) (own : List Member) (span : Span) (conditions : List Condition) (body : List Stmt) → stmt_broken names own (s.Guard span conditions body) ≡ block_broken names own body
of_guard names own span conditions body = rolled names own _ (s.rolls-Guard span conditions body) ∙ of_statements names own body

pub of_while : (names : Names) (own : List Member) (span : Span) (conditions : List Condition) (body : List Stmt) → stmt_broken names own (s.While span conditions body) ≡ block_broken names own body
of_while names own span conditions body = rolled names own _ (s.rolls-While span conditions body) ∙ of_statements names own body

pub of_for : (names : Names) (own : List Member) (span : Span) (name : Option Name) (first : Expr) (last : Option RangeEnd) (body : List Stmt) → stmt_broken names own (s.For span name first last body) ≡ block_broken names own body
of_for names own span name first last body = rolled names own _ (s.rolls-For span name first last body) ∙ of_statements names own body

of_switch_fold : (names : Names) (own : List Member) (span : Span) (subject : Expr) (arms : List SwitchArm) → stmt_broken names own (s.Switch span subject arms) ≡ of_all (map (arm_fold names own) arms)
of_switch_fold names own span subject arms = rolled names own _ (s.rolls-Switch span subject arms)

pub of_switch : (names : Names) (own : List Member) (span : Span) (subject : Expr) (arms : List SwitchArm) → stmt_broken names own (s.Switch span subject arms) ≡ flat_map (λ x. block_broken names own x.body) arms
of_switch names own span subject arms =
    of_switch_fold names own span subject arms ∙ all_alike (arm_fold names own) (λ x. block_broken names own x.body) (arm_same names own) arms

of_do_fold : (names : Names) (own : List Member) (span : Span) (body : List Stmt) (catches : List Catch)
    → stmt_broken names own (s.Do span body catches) ≡ of_all (map (stmt_broken names own) body) ++ of_all (map (catch_fold names own) catches)
of_do_fold names own span body catches = rolled names own _ (s.rolls-Do span body catches)

pub of_do : (names : Names) (own : List Member) (span : Span) (body : List Stmt) (catches : List Catch)
    → stmt_broken names own (s.Do span body catches) ≡ block_broken names own body ++ flat_map (λ x. perhaps (caught_broken names own) x.pattern ++ block_broken names own x.body) catches
of_do names own span body catches =
    of_do_fold names own span body catches
    ∙ ap (λ w. w ++ of_all (map (catch_fold names own) catches)) (of_statements names own body)
    ∙ ap (λ w. block_broken names own body ++ w) (all_alike (catch_fold names own) (λ x. perhaps (caught_broken names own) x.pattern ++ block_broken names own x.body) (catch_same names own) catches)

pub of_return : (names : Names) (own : List Member) (span : Span) (value : Option Expr) → stmt_broken names own (s.Return span value) ≡ []
of_return names own span value = rolled names own _ (s.rolls-Return span value)

pub of_throw : (names : Names) (own : List Member) (span : Span) (value : Expr) → stmt_broken names own (s.Throw span value) ≡ []
of_throw names own span value = rolled names own _ (s.rolls-Throw span value)

pub of_break : (names : Names) (own : List Member) (span : Span) → stmt_broken names own (s.Break span) ≡ []
of_break names own span = rolled names own _ (s.rolls-Break span)

pub of_continue : (names : Names) (own : List Member) (span : Span) → stmt_broken names own (s.Continue span) ≡ []
of_continue names own span = rolled names own _ (s.rolls-Continue span)

-- for the functions that report what statements break
pub ruleset stmt_rules = (keep_append, keep_none, of_local, of_assign, of_discard, of_expr, of_if_else, of_if_alone, of_guard, of_while, of_for, of_switch, of_do, of_return, of_throw, of_break, of_continue)
