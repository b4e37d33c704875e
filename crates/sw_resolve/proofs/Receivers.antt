-- What may be changed that stands before a name, where it is a value.
use Rattle.std.proofs.Common.{◌≡◌, ◌∙◌, ◌||◌, Bool, false, ap, refl, sym, subst, List, ℕ}
use Rattle.sw_typed.specs.declared.expr.Typed.{Typed}
use Rattle.sw_typed.specs.declared.expr.Receiver.{Receiver}
use Rattle.sw_typed.specs.declared.expr.Receiver.TheVariants as on
use Rattle.sw_typed.specs.declared.expr.Form.TheOpen.{Receiver-F}
use Rattle.sw_typed.specs.declared.expr.Form.TheFolds.{fold_out-Typed, fold-roll-Receiver}
use Rattle.sw_typed.specs.Elaborated as e
use Rattle.sw_typed.specs.ElaboratedOf.{elaborated_of, form_of, receiver_of, form_level, receiver_level, typed_level, piece_level}
use Rattle.sw_resolve.specs.declared.scope.Scope.{Scope}
use Rattle.sw_resolve.specs.Changes.{is_reference, is_variable, may_change}

parts : (x : Typed) → elaborated_of x ≡ e.expr x.ty x.first (form_of x.form)
parts x = fold_out-Typed e.Form e.Receiver e.Expr (e.Expr × List ℕ) form_level receiver_level typed_level piece_level x

pub of_value : (scope : Scope) (x : Typed) → may_change scope (e.Value (elaborated_of x)) ≡ (is_reference x.ty || is_variable scope (elaborated_of x))
of_value scope x = subst (λ y. may_change scope (e.Value y) ≡ (is_reference x.ty || is_variable scope y)) (sym (parts x)) refl

value_of : (x : Typed) → receiver_of (on.Value x) ≡ e.Value (elaborated_of x)
value_of x = ap receiver_of (sym (on.rolls-Value x)) ∙ fold-roll-Receiver e.Form e.Receiver e.Expr (e.Expr × List ℕ) form_level receiver_level typed_level piece_level (Receiver-F.Value x)

pub as_value : (scope : Scope) (r : Receiver) (x : Typed) (b : Bool) → r ≡ on.Value x → is_reference x.ty ≡ false → b ≡ is_variable scope (elaborated_of x) → b ≡ may_change scope (receiver_of r)
as_value scope r x b h f p = p ∙ ap (λ c. c || is_variable scope (elaborated_of x)) (sym f) ∙ sym (of_value scope x) ∙ ap (may_change scope) (sym (value_of x)) ∙ ap (λ r. may_change scope (receiver_of r)) (sym h)
