-- The events of each form of expression.
use Rattle.std.proofs.Common.{◌≡◌, ℕ, ℤ, Bool, List, [], ◌∷◌, ◌++◌, map, refl, sym, ap, ◌∙◌, append_assoc, Option, Some, None}
use Rattle.sw_base.specs.declared.ids.Span.{Span}
use Rattle.sw_tree.specs.declared.expr.Name.{Name}
use Rattle.sw_tree.specs.declared.expr.TryForm.{TryForm}
use Rattle.sw_tree.specs.declared.expr.PrefixOperator.{PrefixOperator}
use Rattle.sw_tree.specs.declared.expr.BinaryOperator.{BinaryOperator}
use Rattle.sw_tree.specs.declared.expr.Argument.{Argument}
use Rattle.sw_tree.specs.declared.expr.StringPiece.{StringPiece}
use Rattle.sw_tree.specs.declared.expr.Literal.{Literal, roll-Literal, map-Literal}
use Rattle.sw_tree.specs.declared.expr.Literal.TheVariants as l
use Rattle.sw_tree.specs.declared.expr.Expr.{Expr, roll-Expr, map-Expr}
use Rattle.sw_tree.specs.declared.expr.Expr.TheFolds.{fold-roll-Expr, fold-Argument, fold-StringPiece, fold-roll-Literal, fold_out-Argument, fold_out-StringPiece}
use Rattle.sw_tree.specs.declared.expr.Expr.TheOpen.{Expr-F, Literal-F}
use Rattle.sw_tree.specs.declared.expr.Expr.TheVariants as e
use Rattle.sw_scope.specs.Events.{Event, reads, instance, each}
use Rattle.sw_declared.specs.Members.{Called}
use Rattle.sw_declared.specs.Declarations.{argument_labels, label_text}
use Rattle.sw_events.proofs.Runs.{run_append, run_none, map_alike, turn_alike}
use Rattle.sw_events.specs.Bodies.{ByCall, Labelled, expr_level, literal_level, argument_level, piece_level, called_events, expr_events, argument_events, piece_events, literal_events}

abbrev Es : Type 0
Es = List Event

argument_fold : Argument → Labelled
argument_fold = fold-Argument ByCall Es Labelled Es expr_level literal_level argument_level piece_level

piece_fold : StringPiece → Es
piece_fold = fold-StringPiece ByCall Es Labelled Es expr_level literal_level argument_level piece_level

abbrev argument_pair : Argument → Labelled
argument_pair x = (label_text x.label, expr_events x.value)

argument_same : (x : Argument) → argument_fold x ≡ argument_pair x
unfolding argument_fold
argument_same x = fold_out-Argument ByCall Es Labelled Es expr_level literal_level argument_level piece_level x

piece_same : (x : StringPiece) → piece_fold x ≡ piece_events x
unfolding piece_fold
piece_same x = fold_out-StringPiece ByCall Es Labelled Es expr_level literal_level argument_level piece_level x

-- ---- expressions

rolled : (layer : Expr-F Expr Literal Argument StringPiece) {x : Expr} → roll-Expr layer ≡ x → (c : Called)
    → called_events x c ≡ expr_level (map-Expr Expr Literal Argument StringPiece ByCall Es Labelled Es called_events literal_events argument_fold piece_fold layer) c
unfolding argument_fold piece_fold
rolled layer h c = ap (λ (f : ByCall). f c) (ap called_events (sym h) ∙ fold-roll-Expr ByCall Es Labelled Es expr_level literal_level argument_level piece_level layer)

pub of_try : (form : TryForm) (span : Span) (x : Expr) (c : Called) → called_events (e.Try form span x) c ≡ expr_events x
of_try form span x c = rolled _ (e.rolls-Try form span x) c

pub of_await : (span : Span) (x : Expr) (c : Called) → called_events (e.Await span x) c ≡ expr_events x
of_await span x c = rolled _ (e.rolls-Await span x) c

pub of_ternary : (x y z : Expr) (c : Called) → called_events (e.Ternary x (y, z)) c ≡ expr_events x ++ (expr_events y ++ expr_events z)
of_ternary x y z c = rolled _ (e.rolls-Ternary x (y, z)) c

pub of_binary : (operator : BinaryOperator) (span : Span) (x y : Expr) (c : Called) → called_events (e.Binary operator span (x, y)) c ≡ expr_events x ++ expr_events y
of_binary operator span x y c = rolled _ (e.rolls-Binary operator span (x, y)) c

pub of_prefix : (operator : PrefixOperator) (span : Span) (x : Expr) (c : Called) → called_events (e.Prefix operator span x) c ≡ expr_events x
of_prefix operator span x c = rolled _ (e.rolls-Prefix operator span x) c

pub of_member : (x : Expr) (name : Name) (c : Called) → called_events (e.Member x name) c ≡ expr_events x
of_member x name c = rolled _ (e.rolls-Member x name) c

of_call_fold : (x : Expr) (span : Span) (xs : List Argument) (c : Called) → called_events (e.Call x (span, xs)) c ≡ called_events x (Some (map (λ a. a.0) (map argument_fold xs))) ++ each (λ a. a.1) (map argument_fold xs)
of_call_fold x span xs c = rolled _ (e.rolls-Call x (span, xs)) c

labels_pair : (xs : List Argument) → map (λ (a : Labelled). a.0) (map argument_pair xs) ≡ argument_labels xs
labels_pair [] = refl
labels_pair (x ∷ xs) = ap (λ ys. label_text x.label ∷ ys) (labels_pair xs)

each_pair : (xs : List Argument) → each (λ (a : Labelled). a.1) (map argument_pair xs) ≡ each argument_events xs
each_pair [] = refl
each_pair (x ∷ xs) = ap (λ ys. argument_events x ++ ys) (each_pair xs)

pub of_call : (x : Expr) (span : Span) (xs : List Argument) (c : Called) → called_events (e.Call x (span, xs)) c ≡ called_events x (Some (argument_labels xs)) ++ each argument_events xs
of_call x span xs c =
    of_call_fold x span xs c
    ∙ ap (λ (gs : List Labelled). called_events x (Some (map (λ a. a.0) gs)) ++ each (λ a. a.1) gs) (map_alike argument_fold argument_pair argument_same xs)
    ∙ ap (λ ls. called_events x (Some ls) ++ each (λ (a : Labelled). a.1) (map argument_pair xs)) (labels_pair xs)
    ∙ ap (λ es. called_events x (Some (argument_labels xs)) ++ es) (each_pair xs)

pub of_index : (x : Expr) (span : Span) (y : Expr) (c : Called) → called_events (e.Index x (span, y)) c ≡ expr_events x ++ expr_events y
of_index x span y c = rolled _ (e.rolls-Index x (span, y)) c

pub of_force : (x : Expr) (span : Span) (c : Called) → called_events (e.Force x span) c ≡ expr_events x
of_force x span c = rolled _ (e.rolls-Force x span) c

pub of_literal : (span : Span) (value : Literal) (c : Called) → called_events (e.Literal span value) c ≡ literal_events value
of_literal span value c = rolled _ (e.rolls-Literal span value) c

pub of_nil : (span : Span) (c : Called) → called_events (e.Nil span) c ≡ []
of_nil span c = rolled _ (e.rolls-Nil span) c

pub of_name : (name : Name) (c : Called) → called_events (e.Name name) c ≡ reads name c ∷ []
of_name name c = rolled _ (e.rolls-Name name) c

pub of_self : (span : Span) (c : Called) → called_events (e.SelfValue span) c ≡ instance span ∷ []
of_self span c = rolled _ (e.rolls-SelfValue span) c

pub of_implicit : (span : Span) (name : Name) (c : Called) → called_events (e.Implicit span name) c ≡ []
of_implicit span name c = rolled _ (e.rolls-Implicit span name) c

pub of_paren : (span : Span) (x : Expr) (c : Called) → called_events (e.Paren span x) c ≡ expr_events x
of_paren span x c = rolled _ (e.rolls-Paren span x) c

of_array_fold : (span : Span) (xs : List Expr) (c : Called) → called_events (e.Array span xs) c ≡ each (λ f. f None) (map called_events xs)
of_array_fold span xs c = rolled _ (e.rolls-Array span xs) c

each_called : (xs : List Expr) → each (λ (f : ByCall). f None) (map called_events xs) ≡ each expr_events xs
each_called [] = refl
each_called (x ∷ xs) = ap (λ ys. expr_events x ++ ys) (each_called xs)

pub of_array : (span : Span) (xs : List Expr) (c : Called) → called_events (e.Array span xs) c ≡ each expr_events xs
of_array span xs c = of_array_fold span xs c ∙ each_called xs

pub of_issue : (span : Span) (x : Expr) (c : Called) → called_events (e.Issue span x) c ≡ expr_events x
of_issue span x c = rolled _ (e.rolls-Issue span x) c

pub of_wait : (name : Name) (c : Called) → called_events (e.Wait name) c ≡ reads name None ∷ []
of_wait name c = rolled _ (e.rolls-Wait name) c

-- ---- literals

literal_rolled : (layer : Literal-F Expr Literal Argument StringPiece) {value : Literal} → roll-Literal layer ≡ value
    → literal_events value ≡ literal_level (map-Literal Expr Literal Argument StringPiece ByCall Es Labelled Es called_events literal_events argument_fold piece_fold layer)
unfolding argument_fold piece_fold
literal_rolled layer h = ap literal_events (sym h) ∙ fold-roll-Literal ByCall Es Labelled Es expr_level literal_level argument_level piece_level layer

pub of_integer : (n : ℤ) → literal_events (l.Integer n) ≡ []
of_integer n = literal_rolled _ (l.rolls-Integer n)

pub of_bool : (value : Bool) → literal_events (l.Bool value) ≡ []
of_bool value = literal_rolled _ (l.rolls-Bool value)

pub of_string : (text : List ℕ) (pieces : List StringPiece) → literal_events (l.String text pieces) ≡ each piece_events pieces
of_string text pieces =
    literal_rolled _ (l.rolls-String text pieces)
    ∙ turn_alike piece_fold piece_events piece_same pieces

-- for the functions that walk over expressions, and literals
pub ruleset expr_rules = (append_assoc, run_append, run_none, of_try, of_await, of_ternary, of_binary, of_prefix, of_member, of_call, of_index, of_force, of_literal, of_nil, of_name, of_self, of_implicit, of_paren, of_array, of_issue, of_wait)

pub ruleset literal_rules = (append_assoc, run_append, run_none, of_integer, of_bool, of_string)
