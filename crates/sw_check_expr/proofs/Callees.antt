-- What is told of a call, by what stands before its `(`.
use Rattle.std.proofs.Common.{◌≡◌, ◌∙◌, ◌++◌, ap, refl, sym, subst, List, ℕ, Option}
use Rattle.sw_base.specs.declared.ids.Span.{Span}
use Rattle.sw_rules.specs.declared.Refusal.{Refusal}
use Rattle.sw_findings.specs.Found.{keep_all}
use Rattle.sw_tree.specs.declared.expr.Name.{Name}
use Rattle.sw_tree.specs.declared.expr.Expr.{Expr, out-Expr, fold-roll-Expr}
use Rattle.sw_tree.specs.declared.expr.Expr.TheVariants as e
use Rattle.sw_tree.specs.declared.expr.Expr.TheOpen.{Expr-F}
use Rattle.sw_tree.specs.declared.expr.Expr.TheViews.{roll-Expr, roll-out-Expr}
use Rattle.sw_tree.specs.declared.expr.Argument.{Argument}
use Rattle.sw_tree.specs.declared.expr.StringPiece.{StringPiece}
use Rattle.sw_tree.specs.declared.expr.Literal.{Literal}
use Rattle.sw_typed.specs.Syntax as x
use Rattle.sw_typed.specs.SyntaxOf.{argument_level, expr_level, expr_of, literal_level, piece_level}
use Rattle.sw_typing.specs.declared.need.Need.{Need}
use Rattle.sw_typing.specs.declared.need.Need.TheVariants.{Free}
use Rattle.sw_declared.specs.Members.{Label}
use Rattle.sw_declared.specs.Declarations.{argument_labels}
use Rattle.sw_resolve.specs.declared.scope.Scope.{Scope}
use Rattle.sw_resolve.specs.declared.standing.Standing.{Standing}
use Rattle.sw_resolve.specs.Callees as callees
use Rattle.sw_check_expr.specs.Syntax.{first}
use Rattle.sw_check_expr.specs.Typing.{check, told_callee, told_on, told_on_value, ToldStanding}
use Rattle.sw_check_expr.proofs.Findings.{keep_append}

pub then_kept : (b b1 b2 : Option Refusal) (xs ys : List Refusal) → b1 ≡ keep_all b xs → b2 ≡ keep_all b1 ys → b2 ≡ keep_all b (xs ++ ys)
then_kept b b1 b2 xs ys p q = q ∙ ap (λ k. keep_all k ys) p ∙ sym (keep_append b xs ys)

-- a call on what stands before a name: what is reported of both
pub on_kept : (scope : Scope) (s : Standing) (st : ToldStanding) (name name1 : Name) (args args1 : List Argument) (here : Span) (b b1 : Option Refusal)
    → s ≡ st.standing → b1 ≡ keep_all b st.faults → name1 ≡ name → args1 ≡ args
    → keep_all b1 (callees.call_broken scope s name1 (argument_labels args1) here) ≡ keep_all b (told_on scope st name (argument_labels args) here).faults
on_kept scope s st name name1 args args1 here b b1 hs hb hn ha =
    ap (λ s. keep_all b1 (callees.call_broken scope s name1 (argument_labels args1) here)) hs
    ∙ ap (λ n. keep_all b1 (callees.call_broken scope st.standing n (argument_labels args1) here)) hn
    ∙ ap (λ es. keep_all b1 (callees.call_broken scope st.standing name (argument_labels es) here)) ha
    ∙ then_kept b b1 _ st.faults _ hb refl

-- ---- the layers of an expression

pub of_implicit : (dot : Span) (name : Name) → expr_of (e.Implicit dot name) ≡ x.Implicit dot name
of_implicit dot name = ap expr_of (sym (e.rolls-Implicit dot name)) ∙ fold-roll-Expr x.Expr x.Constant (Option Name × x.Expr) (x.Expr × List ℕ) expr_level literal_level argument_level piece_level (Expr-F.Implicit dot name)

pub of_member : (base : Expr) (name : Name) → expr_of (e.Member base name) ≡ x.Member (expr_of base) name
of_member base name = ap expr_of (sym (e.rolls-Member base name)) ∙ fold-roll-Expr x.Expr x.Constant (Option Name × x.Expr) (x.Expr × List ℕ) expr_level literal_level argument_level piece_level (Expr-F.Member base name)

-- what is called is a value, and no name of what can be called
abbrev pub IsValue : x.Expr → Type 0
IsValue callee = (scope : Scope) (n : Need) (labels : List Label) (here : Span)
    → told_callee callee scope n labels here ≡ told_on_value (check callee scope Free (first callee)) here

abbrev NamesNothing : Expr → Type 0
NamesNothing callee = ((name : Name) → callee ≡ e.Name name → ⊥) × ((dot : Span) (name : Name) → callee ≡ e.Implicit dot name → ⊥) × ((base : Expr) (name : Name) → callee ≡ e.Member base name → ⊥)

of_layer : (layer : Expr-F Expr Literal Argument StringPiece) → NamesNothing (roll-Expr layer) → IsValue (expr_of (roll-Expr layer))
of_layer (Expr-F.Try f at a) h = subst IsValue (sym (fold-roll-Expr x.Expr x.Constant (Option Name × x.Expr) (x.Expr × List ℕ) expr_level literal_level argument_level piece_level (Expr-F.Try f at a))) (λ scope n labels here. refl)
of_layer (Expr-F.Await at a) h = subst IsValue (sym (fold-roll-Expr x.Expr x.Constant (Option Name × x.Expr) (x.Expr × List ℕ) expr_level literal_level argument_level piece_level (Expr-F.Await at a))) (λ scope n labels here. refl)
of_layer (Expr-F.Ternary a b) h = subst IsValue (sym (fold-roll-Expr x.Expr x.Constant (Option Name × x.Expr) (x.Expr × List ℕ) expr_level literal_level argument_level piece_level (Expr-F.Ternary a b))) (λ scope n labels here. refl)
of_layer (Expr-F.Binary o at a) h = subst IsValue (sym (fold-roll-Expr x.Expr x.Constant (Option Name × x.Expr) (x.Expr × List ℕ) expr_level literal_level argument_level piece_level (Expr-F.Binary o at a))) (λ scope n labels here. refl)
of_layer (Expr-F.Prefix o at a) h = subst IsValue (sym (fold-roll-Expr x.Expr x.Constant (Option Name × x.Expr) (x.Expr × List ℕ) expr_level literal_level argument_level piece_level (Expr-F.Prefix o at a))) (λ scope n labels here. refl)
of_layer (Expr-F.Member a name) h = absurd (h.2 a name (e.rolls-Member a name))
of_layer (Expr-F.Call a args) h = subst IsValue (sym (fold-roll-Expr x.Expr x.Constant (Option Name × x.Expr) (x.Expr × List ℕ) expr_level literal_level argument_level piece_level (Expr-F.Call a args))) (λ scope n labels here. refl)
of_layer (Expr-F.Index a i) h = subst IsValue (sym (fold-roll-Expr x.Expr x.Constant (Option Name × x.Expr) (x.Expr × List ℕ) expr_level literal_level argument_level piece_level (Expr-F.Index a i))) (λ scope n labels here. refl)
of_layer (Expr-F.Force a at) h = subst IsValue (sym (fold-roll-Expr x.Expr x.Constant (Option Name × x.Expr) (x.Expr × List ℕ) expr_level literal_level argument_level piece_level (Expr-F.Force a at))) (λ scope n labels here. refl)
of_layer (Expr-F.Literal at v) h = subst IsValue (sym (fold-roll-Expr x.Expr x.Constant (Option Name × x.Expr) (x.Expr × List ℕ) expr_level literal_level argument_level piece_level (Expr-F.Literal at v))) (λ scope n labels here. refl)
of_layer (Expr-F.Nil at) h = subst IsValue (sym (fold-roll-Expr x.Expr x.Constant (Option Name × x.Expr) (x.Expr × List ℕ) expr_level literal_level argument_level piece_level (Expr-F.Nil at))) (λ scope n labels here. refl)
of_layer (Expr-F.Name name) h = absurd (h.0 name (e.rolls-Name name))
of_layer (Expr-F.SelfValue at) h = subst IsValue (sym (fold-roll-Expr x.Expr x.Constant (Option Name × x.Expr) (x.Expr × List ℕ) expr_level literal_level argument_level piece_level (Expr-F.SelfValue at))) (λ scope n labels here. refl)
of_layer (Expr-F.Implicit at name) h = absurd (h.1 at name (e.rolls-Implicit at name))
of_layer (Expr-F.Paren at a) h = subst IsValue (sym (fold-roll-Expr x.Expr x.Constant (Option Name × x.Expr) (x.Expr × List ℕ) expr_level literal_level argument_level piece_level (Expr-F.Paren at a))) (λ scope n labels here. refl)
of_layer (Expr-F.Array at es) h = subst IsValue (sym (fold-roll-Expr x.Expr x.Constant (Option Name × x.Expr) (x.Expr × List ℕ) expr_level literal_level argument_level piece_level (Expr-F.Array at es))) (λ scope n labels here. refl)
of_layer (Expr-F.Issue at a) h = subst IsValue (sym (fold-roll-Expr x.Expr x.Constant (Option Name × x.Expr) (x.Expr × List ℕ) expr_level literal_level argument_level piece_level (Expr-F.Issue at a))) (λ scope n labels here. refl)
of_layer (Expr-F.Wait name) h = subst IsValue (sym (fold-roll-Expr x.Expr x.Constant (Option Name × x.Expr) (x.Expr × List ℕ) expr_level literal_level argument_level piece_level (Expr-F.Wait name))) (λ scope n labels here. refl)

pub is_value : (callee : Expr) → ((name : Name) → callee ≡ e.Name name → ⊥) → ((dot : Span) (name : Name) → callee ≡ e.Implicit dot name → ⊥)
    → ((base : Expr) (name : Name) → callee ≡ e.Member base name → ⊥) → IsValue (expr_of callee)
is_value callee no_name no_implicit no_member =
    subst (λ y. NamesNothing y → IsValue (expr_of y)) (roll-out-Expr callee) (of_layer (out-Expr callee)) (no_name, no_implicit, no_member)
