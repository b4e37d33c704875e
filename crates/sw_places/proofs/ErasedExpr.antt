-- The equations of the erasure of expressions and literals, one for each of their variants; and what ends in a place.
use Rattle.std.proofs.Common.{◌≡◌, ℤ, Bool, List, [], ◌∷◌, map, refl, sym, ap, ◌∙◌}
use Rattle.sw_base.specs.declared.ids.Span.{Span}
use Rattle.sw_lex.specs.Bytes.{Text}
use Rattle.sw_tree.specs.Erased.{nowhere, erase_name, erase_expr, erase_literal}
use Rattle.sw_tree.specs.declared.expr.Name.{Name}
use Rattle.sw_tree.specs.declared.expr.Argument.{Argument, fold-roll-Argument}
use Rattle.sw_tree.specs.declared.expr.StringPiece.{StringPiece, fold-roll-StringPiece}
use Rattle.sw_tree.specs.declared.expr.Literal.{Literal, fold-roll-Literal}
use Rattle.sw_tree.specs.declared.expr.Literal.TheVariants as literal
use Rattle.sw_tree.specs.declared.expr.TryForm.{TryForm}
use Rattle.sw_tree.specs.declared.expr.BinaryOperator.{BinaryOperator}
use Rattle.sw_tree.specs.declared.expr.PrefixOperator.{PrefixOperator}
use Rattle.sw_tree.specs.declared.expr.Expr.{Expr, out-Expr, fold-roll-Expr}
use Rattle.sw_tree.specs.declared.expr.Expr.TheViews.{roll-Expr, out-roll-Expr, roll-out-Expr}
use Rattle.sw_tree.specs.declared.expr.Expr.TheOpen.{Expr-F, Literal-F}
use Rattle.sw_tree.specs.declared.expr.Expr.TheVariants as e
use Rattle.sw_places.specs.Places.{erase_argument}
use Rattle.sw_syntax.specs.Values.{is_target, is_target_layer}

-- ---- lists

pub map_same : {A B : Type 0} (f g : A → B) → ((x : A) → f x ≡ g x) → (xs : List A) → map f xs ≡ map g xs
map_same f g k [] = refl
map_same f g k (x ∷ xs) = let a = k x in let b = map_same f g k xs in cc

-- ---- expressions

pub erased-Try : (form : TryForm) (at : Span) (x : Expr) → erase_expr (e.Try form at x) ≡ e.Try form nowhere (erase_expr x)
erased-Try form at x = ap erase_expr (sym (e.rolls-Try form at x)) ∙ fold-roll-Expr _ _ _ _ _ _ _ _ (Expr-F.Try form at x)

pub erased-Await : (at : Span) (x : Expr) → erase_expr (e.Await at x) ≡ e.Await nowhere (erase_expr x)
erased-Await at x = ap erase_expr (sym (e.rolls-Await at x)) ∙ fold-roll-Expr _ _ _ _ _ _ _ _ (Expr-F.Await at x)

pub erased-Ternary : (x y z : Expr) → erase_expr (e.Ternary x (y, z)) ≡ e.Ternary (erase_expr x) (erase_expr y, erase_expr z)
erased-Ternary x y z = ap erase_expr (sym (e.rolls-Ternary x (y, z))) ∙ fold-roll-Expr _ _ _ _ _ _ _ _ (Expr-F.Ternary x (y, z))

pub erased-Binary : (operator : BinaryOperator) (at : Span) (x y : Expr) → erase_expr (e.Binary operator at (x, y)) ≡ e.Binary operator nowhere (erase_expr x, erase_expr y)
erased-Binary operator at x y = ap erase_expr (sym (e.rolls-Binary operator at (x, y))) ∙ fold-roll-Expr _ _ _ _ _ _ _ _ (Expr-F.Binary operator at (x, y))

pub erased-Prefix : (operator : PrefixOperator) (at : Span) (x : Expr) → erase_expr (e.Prefix operator at x) ≡ e.Prefix operator nowhere (erase_expr x)
erased-Prefix operator at x = ap erase_expr (sym (e.rolls-Prefix operator at x)) ∙ fold-roll-Expr _ _ _ _ _ _ _ _ (Expr-F.Prefix operator at x)

pub erased-Member : (x : Expr) (name : Name) → erase_expr (e.Member x name) ≡ e.Member (erase_expr x) (erase_name name)
erased-Member x name = ap erase_expr (sym (e.rolls-Member x name)) ∙ fold-roll-Expr _ _ _ _ _ _ _ _ (Expr-F.Member x name)

pub erased-Index : (x : Expr) (at : Span) (y : Expr) → erase_expr (e.Index x (at, y)) ≡ e.Index (erase_expr x) (nowhere, erase_expr y)
erased-Index x at y = ap erase_expr (sym (e.rolls-Index x (at, y))) ∙ fold-roll-Expr _ _ _ _ _ _ _ _ (Expr-F.Index x (at, y))

pub erased-Force : (x : Expr) (at : Span) → erase_expr (e.Force x at) ≡ e.Force (erase_expr x) nowhere
erased-Force x at = ap erase_expr (sym (e.rolls-Force x at)) ∙ fold-roll-Expr _ _ _ _ _ _ _ _ (Expr-F.Force x at)

pub erased-Nil : (at : Span) → erase_expr (e.Nil at) ≡ e.Nil nowhere
erased-Nil at = ap erase_expr (sym (e.rolls-Nil at)) ∙ fold-roll-Expr _ _ _ _ _ _ _ _ (Expr-F.Nil at)

pub erased-Name : (name : Name) → erase_expr (e.Name name) ≡ e.Name (erase_name name)
erased-Name name = ap erase_expr (sym (e.rolls-Name name)) ∙ fold-roll-Expr _ _ _ _ _ _ _ _ (Expr-F.Name name)

pub erased-SelfValue : (at : Span) → erase_expr (e.SelfValue at) ≡ e.SelfValue nowhere
erased-SelfValue at = ap erase_expr (sym (e.rolls-SelfValue at)) ∙ fold-roll-Expr _ _ _ _ _ _ _ _ (Expr-F.SelfValue at)

pub erased-Implicit : (at : Span) (name : Name) → erase_expr (e.Implicit at name) ≡ e.Implicit nowhere (erase_name name)
erased-Implicit at name = ap erase_expr (sym (e.rolls-Implicit at name)) ∙ fold-roll-Expr _ _ _ _ _ _ _ _ (Expr-F.Implicit at name)

pub erased-Paren : (at : Span) (x : Expr) → erase_expr (e.Paren at x) ≡ e.Paren nowhere (erase_expr x)
erased-Paren at x = ap erase_expr (sym (e.rolls-Paren at x)) ∙ fold-roll-Expr _ _ _ _ _ _ _ _ (Expr-F.Paren at x)

pub erased-Array : (at : Span) (xs : List Expr) → erase_expr (e.Array at xs) ≡ e.Array nowhere (map erase_expr xs)
erased-Array at xs = ap erase_expr (sym (e.rolls-Array at xs)) ∙ fold-roll-Expr _ _ _ _ _ _ _ _ (Expr-F.Array at xs)

pub erased-Call : (x : Expr) (at : Span) (xs : List Argument) → erase_expr (e.Call x (at, xs)) ≡ e.Call (erase_expr x) (nowhere, map erase_argument xs)
erased-Call x at xs =
    ap erase_expr (sym (e.rolls-Call x (at, xs))) ∙ (fold-roll-Expr _ _ _ _ _ _ _ _ (Expr-F.Call x (at, xs))
    ∙ ap (λ ys. e.Call (erase_expr x) (nowhere, ys)) (map_same _ erase_argument (λ x. fold-roll-Argument _ _ _ _ _ _ _ _ (record { label = x.label; value = x.value })) xs))

-- ---- literals

pub erased-Literal : (at : Span) (x : Literal) → erase_expr (e.Literal at x) ≡ e.Literal nowhere (erase_literal x)
erased-Literal at x = ap erase_expr (sym (e.rolls-Literal at x)) ∙ fold-roll-Expr _ _ _ _ _ _ _ _ (Expr-F.Literal at x)

abbrev pub erase_piece : StringPiece → StringPiece
erase_piece x = record { value = erase_expr x.value; text = x.text }

pub erased-Integer : (n : ℤ) → erase_literal (literal.Integer n) ≡ literal.Integer n
erased-Integer n = ap erase_literal (sym (literal.rolls-Integer n)) ∙ fold-roll-Literal _ _ _ _ _ _ _ _ (Literal-F.Integer n)

pub erased-Bool : (value : Bool) → erase_literal (literal.Bool value) ≡ literal.Bool value
erased-Bool value = ap erase_literal (sym (literal.rolls-Bool value)) ∙ fold-roll-Literal _ _ _ _ _ _ _ _ (Literal-F.Bool value)

pub erased-String : (text : Text) (pieces : List StringPiece) → erase_literal (literal.String text pieces) ≡ literal.String text (map erase_piece pieces)
erased-String text pieces =
    ap erase_literal (sym (literal.rolls-String text pieces)) ∙ fold-roll-Literal _ _ _ _ _ _ _ _ (Literal-F.String text pieces)
    ∙ ap (λ ys. literal.String text ys) (map_same _ erase_piece (λ x. fold-roll-StringPiece _ _ _ _ _ _ _ _ (record { value = x.value; text = x.text })) pieces)

-- ---- what ends in a name, a member or an index

rolled : (layer : Expr-F Expr Literal Argument StringPiece) → is_target (roll-Expr layer) ≡ is_target_layer layer
rolled layer = ap is_target_layer (out-roll-Expr layer)

layer_kept : (layer : Expr-F Expr Literal Argument StringPiece) → is_target (erase_expr (roll-Expr layer)) ≡ is_target_layer layer
layer_kept (Expr-F.Try form at x) = ap is_target (fold-roll-Expr _ _ _ _ _ _ _ _ (Expr-F.Try form at x) ∙ sym (e.rolls-Try form nowhere (erase_expr x))) ∙ rolled (Expr-F.Try form nowhere (erase_expr x))
layer_kept (Expr-F.Await at x) = ap is_target (fold-roll-Expr _ _ _ _ _ _ _ _ (Expr-F.Await at x) ∙ sym (e.rolls-Await nowhere (erase_expr x))) ∙ rolled (Expr-F.Await nowhere (erase_expr x))
layer_kept (Expr-F.Ternary x (y, z)) = ap is_target (fold-roll-Expr _ _ _ _ _ _ _ _ (Expr-F.Ternary x (y, z)) ∙ sym (e.rolls-Ternary (erase_expr x) (erase_expr y, erase_expr z))) ∙ rolled (Expr-F.Ternary (erase_expr x) (erase_expr y, erase_expr z))
layer_kept (Expr-F.Binary operator at (x, y)) = ap is_target (fold-roll-Expr _ _ _ _ _ _ _ _ (Expr-F.Binary operator at (x, y)) ∙ sym (e.rolls-Binary operator nowhere (erase_expr x, erase_expr y))) ∙ rolled (Expr-F.Binary operator nowhere (erase_expr x, erase_expr y))
layer_kept (Expr-F.Prefix operator at x) = ap is_target (fold-roll-Expr _ _ _ _ _ _ _ _ (Expr-F.Prefix operator at x) ∙ sym (e.rolls-Prefix operator nowhere (erase_expr x))) ∙ rolled (Expr-F.Prefix operator nowhere (erase_expr x))
layer_kept (Expr-F.Member x name) = ap is_target (fold-roll-Expr _ _ _ _ _ _ _ _ (Expr-F.Member x name) ∙ sym (e.rolls-Member (erase_expr x) (erase_name name))) ∙ rolled (Expr-F.Member (erase_expr x) (erase_name name))
layer_kept (Expr-F.Index x (at, y)) = ap is_target (fold-roll-Expr _ _ _ _ _ _ _ _ (Expr-F.Index x (at, y)) ∙ sym (e.rolls-Index (erase_expr x) (nowhere, erase_expr y))) ∙ rolled (Expr-F.Index (erase_expr x) (nowhere, erase_expr y))
layer_kept (Expr-F.Force x at) = ap is_target (fold-roll-Expr _ _ _ _ _ _ _ _ (Expr-F.Force x at) ∙ sym (e.rolls-Force (erase_expr x) nowhere)) ∙ rolled (Expr-F.Force (erase_expr x) nowhere)
layer_kept (Expr-F.Nil at) = ap is_target (fold-roll-Expr _ _ _ _ _ _ _ _ (Expr-F.Nil at) ∙ sym (e.rolls-Nil nowhere)) ∙ rolled (Expr-F.Nil nowhere)
layer_kept (Expr-F.Name name) = ap is_target (fold-roll-Expr _ _ _ _ _ _ _ _ (Expr-F.Name name) ∙ sym (e.rolls-Name (erase_name name))) ∙ rolled (Expr-F.Name (erase_name name))
layer_kept (Expr-F.SelfValue at) = ap is_target (fold-roll-Expr _ _ _ _ _ _ _ _ (Expr-F.SelfValue at) ∙ sym (e.rolls-SelfValue nowhere)) ∙ rolled (Expr-F.SelfValue nowhere)
layer_kept (Expr-F.Implicit at name) = ap is_target (fold-roll-Expr _ _ _ _ _ _ _ _ (Expr-F.Implicit at name) ∙ sym (e.rolls-Implicit nowhere (erase_name name))) ∙ rolled (Expr-F.Implicit nowhere (erase_name name))
layer_kept (Expr-F.Paren at x) = ap is_target (fold-roll-Expr _ _ _ _ _ _ _ _ (Expr-F.Paren at x) ∙ sym (e.rolls-Paren nowhere (erase_expr x))) ∙ rolled (Expr-F.Paren nowhere (erase_expr x))
layer_kept (Expr-F.Array at xs) = ap is_target (fold-roll-Expr _ _ _ _ _ _ _ _ (Expr-F.Array at xs) ∙ sym (e.rolls-Array nowhere (map erase_expr xs))) ∙ rolled (Expr-F.Array nowhere (map erase_expr xs))
layer_kept (Expr-F.Call x (at, xs)) = ap is_target (fold-roll-Expr _ _ _ _ _ _ _ _ (Expr-F.Call x (at, xs)) ∙ sym (e.rolls-Call (erase_expr x) (nowhere, _))) ∙ rolled (Expr-F.Call (erase_expr x) (nowhere, _))
layer_kept (Expr-F.Literal at x) = ap is_target (fold-roll-Expr _ _ _ _ _ _ _ _ (Expr-F.Literal at x) ∙ sym (e.rolls-Literal nowhere _)) ∙ rolled (Expr-F.Literal nowhere _)
layer_kept (Expr-F.Issue at x) = ap is_target (fold-roll-Expr _ _ _ _ _ _ _ _ (Expr-F.Issue at x) ∙ sym (e.rolls-Issue nowhere (erase_expr x))) ∙ rolled (Expr-F.Issue nowhere (erase_expr x))
layer_kept (Expr-F.Wait name) = ap is_target (fold-roll-Expr _ _ _ _ _ _ _ _ (Expr-F.Wait name) ∙ sym (e.rolls-Wait (erase_name name))) ∙ rolled (Expr-F.Wait (erase_name name))

place_kept : (x : Expr) → is_target (erase_expr x) ≡ is_target x
place_kept x = ap (λ x. is_target (erase_expr x)) (sym (roll-out-Expr x)) ∙ layer_kept (out-Expr x)

pub is_place_same : (x y : Expr) → erase_expr x ≡ erase_expr y → is_target x ≡ is_target y
is_place_same x y p = sym (place_kept x) ∙ ap is_target p ∙ place_kept y
