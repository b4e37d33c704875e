-- What is told of an expression of each form, from what is told of its parts in turn.
use Rattle.std.proofs.Common.{◌≡◌, ◌∙◌, ◌++◌, ◌∷◌, [], List, ℕ, Bool, Option, None, Some, ap, refl, sym, subst, map, append_assoc}
use Rattle.sw_base.specs.declared.ids.Span.{Span}
use Rattle.sw_rules.specs.declared.Refusal.{Refusal}
use Rattle.sw_findings.specs.Found.{keep_all}
use Rattle.sw_value.specs.declared.ty.Ty.{Ty}
use Rattle.sw_tree.specs.declared.expr.Name.{Name}
use Rattle.sw_tree.specs.declared.expr.PrefixOperator.{PrefixOperator}
use Rattle.sw_tree.specs.declared.expr.Expr.{Expr, fold-roll-Expr}
use Rattle.sw_tree.specs.declared.expr.Expr.TheVariants as e
use Rattle.sw_tree.specs.declared.expr.Expr.TheOpen.{Expr-F}
use Rattle.sw_tree.specs.declared.expr.Expr.TheFolds.{fold_out-Argument}
use Rattle.sw_tree.specs.declared.expr.Argument.{Argument}
use Rattle.sw_declared.specs.Members.{Label}
use Rattle.sw_declared.specs.Declarations.{argument_labels, label_text}
use Rattle.sw_typed.specs.declared.expr.Typed.{Typed}
use Rattle.sw_typed.specs.Syntax as x
use Rattle.sw_typed.specs.SyntaxOf.{arg_of, args_of, argument_level, expr_level, expr_of, literal_level, piece_level}
use Rattle.sw_typing.specs.declared.need.Need.{Need}
use Rattle.sw_typing.specs.declared.need.Need.TheVariants.{Free, Needed}
use Rattle.sw_typing.specs.Conversions.{e1, fitted}
use Rattle.sw_typing.specs.Operators.{bool}
use Rattle.sw_resolve.specs.declared.scope.Scope.{Scope}
use Rattle.sw_resolve.specs.declared.standing.Standing.{Standing}
use Rattle.sw_resolve.specs.declared.callee.Called.{Called}
use Rattle.sw_resolve.specs.Standings.{member, member_broken}
use Rattle.sw_check_expr.specs.Syntax.{first, labels}
use Rattle.sw_check_expr.specs.Forms.{force_broken, needs_of, of_force, of_sign, sign_broken}
use Rattle.sw_check_expr.specs.Typing.{check, check_args, implicit_told, told_arguments, told_branches, told_call, told_callee, told_index, told_member, told_standing, ToldStanding}
use Rattle.sw_check_expr.proofs.Callees.{of_implicit, of_member, then_kept}

kept_within : (b b1 : Option Refusal) (f p q : List Refusal) → b1 ≡ keep_all b f → keep_all b1 (p ++ q) ≡ keep_all b ((f ++ p) ++ q)
kept_within b b1 f p q h = then_kept b b1 (keep_all b1 (p ++ q)) f (p ++ q) h refl ∙ ap (keep_all b) (sym (append_assoc f p q))

of_ternary : (a : Expr) (bs : Expr × Expr) → expr_of (e.Ternary a bs) ≡ x.Ternary (expr_of a) (expr_of bs.0) (expr_of bs.1)
of_ternary a bs = ap expr_of (sym (e.rolls-Ternary a bs)) ∙ fold-roll-Expr x.Expr x.Constant (Option Name × x.Expr) (x.Expr × List ℕ) expr_level literal_level argument_level piece_level (Expr-F.Ternary a bs)

of_prefix : (o : PrefixOperator) (at : Span) (a : Expr) → expr_of (e.Prefix o at a) ≡ x.Prefix o at (expr_of a)
of_prefix o at a = ap expr_of (sym (e.rolls-Prefix o at a)) ∙ fold-roll-Expr x.Expr x.Constant (Option Name × x.Expr) (x.Expr × List ℕ) expr_level literal_level argument_level piece_level (Expr-F.Prefix o at a)

of_force_of : (a : Expr) (at : Span) → expr_of (e.Force a at) ≡ x.Force (expr_of a) at
of_force_of a at = ap expr_of (sym (e.rolls-Force a at)) ∙ fold-roll-Expr x.Expr x.Constant (Option Name × x.Expr) (x.Expr × List ℕ) expr_level literal_level argument_level piece_level (Expr-F.Force a at)

of_index_of : (a : Expr) (i : Span × Expr) → expr_of (e.Index a i) ≡ x.Index (expr_of a) i.0 (expr_of i.1)
of_index_of a i = ap expr_of (sym (e.rolls-Index a i)) ∙ fold-roll-Expr x.Expr x.Constant (Option Name × x.Expr) (x.Expr × List ℕ) expr_level literal_level argument_level piece_level (Expr-F.Index a i)

of_call_of : (a : Expr) (l : Span × List Argument) → expr_of (e.Call a l) ≡ x.Call (expr_of a) l.0 (args_of (map arg_of l.1))
of_call_of a l = ap expr_of (sym (e.rolls-Call a l)) ∙ fold-roll-Expr x.Expr x.Constant (Option Name × x.Expr) (x.Expr × List ℕ) expr_level literal_level argument_level piece_level (Expr-F.Call a l)

-- what is told of an operand, in a place without a need
abbrev typed_of : Expr → Scope → Typed
typed_of a scope = (check (expr_of a) scope Free (first (expr_of a))).typed

abbrev faults_of : Expr → Scope → List Refusal
faults_of a scope = (check (expr_of a) scope Free (first (expr_of a))).faults

pub ternary_kept : (whole a a1 : Expr) (bs bs1 : Expr × Expr) (scope : Scope) (n : Need) (at : Span) (t : Ty) (condition : Typed) (b b1 : Option Refusal)
    → whole ≡ e.Ternary a bs → a1 ≡ a → bs1 ≡ bs → t ≡ bool → b1 ≡ keep_all b (check (expr_of a1) scope (Needed t) (first (expr_of a1))).faults
    → keep_all b1 (told_branches scope n condition (expr_of bs1.0) (expr_of bs1.1)).faults ≡ keep_all b (check (expr_of whole) scope n at).faults
unfolding check
ternary_kept whole a a1 bs bs1 scope n at t condition b b1 is ia ib it k =
    then_kept b b1 _ _ _ k refl
    ∙ ap (λ u. keep_all b ((check (expr_of a1) scope (Needed u) (first (expr_of a1))).faults ++ (told_branches scope n condition (expr_of bs1.0) (expr_of bs1.1)).faults)) it
    ∙ ap (λ y. keep_all b ((check (expr_of y) scope (Needed bool) (first (expr_of y))).faults ++ (told_branches scope n condition (expr_of bs1.0) (expr_of bs1.1)).faults)) ia
    ∙ ap (λ (ys : Expr × Expr). keep_all b ((check (expr_of a) scope (Needed bool) (first (expr_of a))).faults ++ (told_branches scope n condition (expr_of ys.0) (expr_of ys.1)).faults)) ib
    ∙ ap (λ y. keep_all b (check y scope n at).faults) (sym (ap expr_of is ∙ of_ternary a bs))

pub prefix_kept : (whole a a1 : Expr) (o : PrefixOperator) (here : Span) (scope : Scope) (n : Need) (at : Span) (t : Typed) (b b1 : Option Refusal)
    → whole ≡ e.Prefix o here a → a1 ≡ a → t ≡ typed_of a1 scope → b1 ≡ keep_all b (faults_of a1 scope)
    → keep_all b1 (sign_broken o here t ++ e1 scope.known.now n at (of_sign o here t)) ≡ keep_all b (check (expr_of whole) scope n at).faults
unfolding check
prefix_kept whole a a1 o here scope n at t b b1 is ia it k =
    ap (λ u. keep_all b1 (sign_broken o here u ++ e1 scope.known.now n at (of_sign o here u))) it
    ∙ kept_within b b1 _ _ _ k
    ∙ ap (λ y. keep_all b ((faults_of y scope ++ sign_broken o here (typed_of y scope)) ++ e1 scope.known.now n at (of_sign o here (typed_of y scope)))) ia
    ∙ ap (λ y. keep_all b (check y scope n at).faults) (sym (ap expr_of is ∙ of_prefix o here a))

pub force_kept : (whole a a1 : Expr) (here : Span) (scope : Scope) (n : Need) (at : Span) (t : Typed) (b b1 : Option Refusal)
    → whole ≡ e.Force a here → a1 ≡ a → t ≡ typed_of a1 scope → b1 ≡ keep_all b (faults_of a1 scope)
    → keep_all b1 (force_broken here t ++ e1 scope.known.now n at (of_force here t)) ≡ keep_all b (check (expr_of whole) scope n at).faults
unfolding check
force_kept whole a a1 here scope n at t b b1 is ia it k =
    ap (λ u. keep_all b1 (force_broken here u ++ e1 scope.known.now n at (of_force here u))) it
    ∙ kept_within b b1 _ _ _ k
    ∙ ap (λ y. keep_all b ((faults_of y scope ++ force_broken here (typed_of y scope)) ++ e1 scope.known.now n at (of_force here (typed_of y scope)))) ia
    ∙ ap (λ y. keep_all b (check y scope n at).faults) (sym (ap expr_of is ∙ of_force_of a here))

pub index_kept : (whole a a1 : Expr) (i i1 : Span × Expr) (scope : Scope) (n : Need) (at : Span) (t : Typed) (b b1 : Option Refusal)
    → whole ≡ e.Index a i → a1 ≡ a → i1 ≡ i → t ≡ typed_of a1 scope → b1 ≡ keep_all b (faults_of a1 scope)
    → keep_all b1 (told_index scope n at t i1.0 (expr_of i1.1)).faults ≡ keep_all b (check (expr_of whole) scope n at).faults
unfolding check
index_kept whole a a1 i i1 scope n at t b b1 is ia ii it k =
    ap (λ (j : Span × Expr). keep_all b1 (told_index scope n at t j.0 (expr_of j.1)).faults) ii
    ∙ ap (λ u. keep_all b1 (told_index scope n at u i.0 (expr_of i.1)).faults) it
    ∙ kept_within b b1 _ _ _ k
    ∙ ap (λ y. keep_all b (check (x.Index (expr_of y) i.0 (expr_of i.1)) scope n at).faults) ia
    ∙ ap (λ y. keep_all b (check y scope n at).faults) (sym (ap expr_of is ∙ of_index_of a i))

-- ---- members

told_kept : (scope : Scope) (n : Need) (at : Span) (s : Standing) (st : ToldStanding) (name name1 : Name) (made : Typed) (b b1 b2 : Option Refusal)
    → s ≡ st.standing → b1 ≡ keep_all b st.faults → name1 ≡ name → made ≡ member scope s name1 → b2 ≡ keep_all b1 (member_broken scope s name1)
    → keep_all b2 (e1 scope.known.now n at made) ≡ keep_all b (told_member scope n at st name).faults
told_kept scope n at s st name name1 made b b1 b2 hs k1 hn hm k2 =
    ap (λ m. keep_all b2 (e1 scope.known.now n at m)) hm
    ∙ then_kept b b2 _ _ _ (then_kept b b1 b2 _ _ k1 k2) refl
    ∙ ap (λ r. keep_all b ((st.faults ++ member_broken scope r name1) ++ e1 scope.known.now n at (member scope r name1))) hs
    ∙ ap (λ m. keep_all b ((st.faults ++ member_broken scope st.standing m) ++ e1 scope.known.now n at (member scope st.standing m))) hn

abbrev standing_at : Scope → Expr → ToldStanding
standing_at scope a = told_standing scope (expr_of a) (check (expr_of a) scope Free (first (expr_of a)))

pub member_kept : (whole a a1 : Expr) (name name1 : Name) (scope : Scope) (n : Need) (at : Span) (s : Standing) (made : Typed) (b b1 b2 : Option Refusal)
    → whole ≡ e.Member a name → a1 ≡ a → s ≡ (standing_at scope a1).standing → b1 ≡ keep_all b (standing_at scope a1).faults → name1 ≡ name
    → made ≡ member scope s name1 → b2 ≡ keep_all b1 (member_broken scope s name1)
    → keep_all b2 (e1 scope.known.now n at made) ≡ keep_all b (check (expr_of whole) scope n at).faults
unfolding check
member_kept whole a a1 name name1 scope n at s made b b1 b2 is ia hs k1 hn hm k2 =
    told_kept scope n at s (standing_at scope a1) name name1 made b b1 b2 hs k1 hn hm k2
    ∙ ap (λ y. keep_all b (told_member scope n at (standing_at scope y) name).faults) ia
    ∙ ap (λ y. keep_all b (check y scope n at).faults) (sym (ap expr_of is ∙ of_member a name))

pub implicit_kept : (whole : Expr) (dot : Span) (name name1 : Name) (scope : Scope) (n : Need) (at : Span) (s : Standing) (made : Typed) (b b1 b2 : Option Refusal)
    → whole ≡ e.Implicit dot name → s ≡ (implicit_told n dot).standing → b1 ≡ keep_all b (implicit_told n dot).faults → name1 ≡ name
    → made ≡ member scope s name1 → b2 ≡ keep_all b1 (member_broken scope s name1)
    → keep_all b2 (e1 scope.known.now n at made) ≡ keep_all b (check (expr_of whole) scope n at).faults
unfolding check
implicit_kept whole dot name name1 scope n at s made b b1 b2 is hs k1 hn hm k2 =
    told_kept scope n at s (implicit_told n dot) name name1 made b b1 b2 hs k1 hn hm k2
    ∙ ap (λ y. keep_all b (check y scope n at).faults) (sym (ap expr_of is ∙ of_implicit dot name))

-- ---- calls

labels_are : (es : List Argument) → labels (args_of (map arg_of es)) ≡ argument_labels es
labels_are [] = refl
labels_are (a ∷ es) =
    ap (λ (p : Option Name × x.Expr). labels (args_of (p ∷ map arg_of es))) (fold_out-Argument x.Expr x.Constant (Option Name × x.Expr) (x.Expr × List ℕ) expr_level literal_level argument_level piece_level a)
    ∙ ap (λ ls. label_text a.label ∷ ls) (labels_are es)

abbrev IsCall : x.Expr → Type 0
IsCall callee = (here : Span) (args : x.Args) (scope : Scope) (n : Need) (at : Span)
    → check (x.Call callee here args) scope n at
    ≡ told_call scope n at (told_callee callee scope n (labels args) here) (check_args args scope (needs_of (told_callee callee scope n (labels args) here).called))

call_step : (callee : x.Expr) → IsCall callee
unfolding check
call_step (x.Try f at a) = λ here args scope n at0. refl
call_step (x.Await at a) = λ here args scope n at0. refl
call_step (x.Ternary c a b) = λ here args scope n at0. refl
call_step (x.Binary o at a b) = λ here args scope n at0. refl
call_step (x.Prefix o at a) = λ here args scope n at0. refl
call_step (x.Member a name) = λ here args scope n at0. refl
call_step (x.Call a at args) = λ here args scope n at0. refl
call_step (x.Index a at i) = λ here args scope n at0. refl
call_step (x.Force a at) = λ here args scope n at0. refl
call_step (x.Literal at v) = λ here args scope n at0. refl
call_step (x.Nil at) = λ here args scope n at0. refl
call_step (x.Named name) = λ here args scope n at0. refl
call_step (x.SelfValue at) = λ here args scope n at0. refl
call_step (x.Implicit at name) = λ here args scope n at0. refl
call_step (x.Paren at a) = λ here args scope n at0. refl
call_step (x.Array at es) = λ here args scope n at0. refl
call_step (x.Issue at a) = λ here args scope n at0. refl
call_step (x.Wait name) = λ here args scope n at0. refl

call_at : (whole a : Expr) (l : Span × List Argument) (scope : Scope) (n : Need) (at : Span) → whole ≡ e.Call a l
    → check (expr_of whole) scope n at ≡ told_call scope n at (told_callee (expr_of a) scope n (argument_labels l.1) l.0)
    (check_args (args_of (map arg_of l.1)) scope (needs_of (told_callee (expr_of a) scope n (argument_labels l.1) l.0).called))
call_at whole a l scope n at is =
    ap (λ y. check y scope n at) (ap expr_of is ∙ of_call_of a l)
    ∙ call_step (expr_of a) l.0 (args_of (map arg_of l.1)) scope n at
    ∙ ap (λ ls. told_call scope n at (told_callee (expr_of a) scope n ls l.0) (check_args (args_of (map arg_of l.1)) scope (needs_of (told_callee (expr_of a) scope n ls l.0).called))) (labels_are l.1)

pub call_typed : (whole a a1 : Expr) (l l1 l2 : Span × List Argument) (scope : Scope) (n : Need) (at : Span) (called : Called)
    → whole ≡ e.Call a l → a1 ≡ a → l1 ≡ l → l2 ≡ l → called ≡ (told_callee (expr_of a1) scope n (argument_labels l1.1) l1.0).called
    → (told_arguments scope n at called (args_of (map arg_of l2.1))).typed ≡ (check (expr_of whole) scope n at).typed
call_typed whole a a1 l l1 l2 scope n at called is ia i1 i2 ic =
    ap (λ (m : Span × List Argument). (told_arguments scope n at called (args_of (map arg_of m.1))).typed) i2
    ∙ ap (λ c. (told_arguments scope n at c (args_of (map arg_of l.1))).typed) ic
    ∙ ap (λ y. (told_arguments scope n at (told_callee (expr_of y) scope n (argument_labels l1.1) l1.0).called (args_of (map arg_of l.1))).typed) ia
    ∙ ap (λ (m : Span × List Argument). (told_arguments scope n at (told_callee (expr_of a) scope n (argument_labels m.1) m.0).called (args_of (map arg_of l.1))).typed) i1
    ∙ ap (λ t. t.typed) (sym (call_at whole a l scope n at is))

pub call_kept : (whole a a1 : Expr) (l l1 l2 : Span × List Argument) (scope : Scope) (n : Need) (at : Span) (called : Called) (b b1 : Option Refusal)
    → whole ≡ e.Call a l → a1 ≡ a → l1 ≡ l → l2 ≡ l → called ≡ (told_callee (expr_of a1) scope n (argument_labels l1.1) l1.0).called
    → b1 ≡ keep_all b (told_callee (expr_of a1) scope n (argument_labels l1.1) l1.0).faults
    → keep_all b1 (told_arguments scope n at called (args_of (map arg_of l2.1))).faults ≡ keep_all b (check (expr_of whole) scope n at).faults
call_kept whole a a1 l l1 l2 scope n at called b b1 is ia i1 i2 ic k =
    ap (λ (m : Span × List Argument). keep_all b1 (told_arguments scope n at called (args_of (map arg_of m.1))).faults) i2
    ∙ ap (λ c. keep_all b1 (told_arguments scope n at c (args_of (map arg_of l.1))).faults) ic
    ∙ kept_within b b1 (told_callee (expr_of a1) scope n (argument_labels l1.1) l1.0).faults _ _ k
    ∙ ap (λ y. keep_all b (told_call scope n at (told_callee (expr_of y) scope n (argument_labels l1.1) l1.0) (check_args (args_of (map arg_of l.1)) scope (needs_of (told_callee (expr_of y) scope n (argument_labels l1.1) l1.0).called))).faults) ia
    ∙ ap (λ (m : Span × List Argument). keep_all b (told_call scope n at (told_callee (expr_of a) scope n (argument_labels m.1) m.0) (check_args (args_of (map arg_of l.1)) scope (needs_of (told_callee (expr_of a) scope n (argument_labels m.1) m.0).called))).faults) i1
    ∙ ap (λ t. keep_all b t.faults) (sym (call_at whole a l scope n at is))
