-- Which expressions are variables, so that they may be assigned, and changed by a mutating func.
use Rattle.std.specs.Prelude.{Bool, true, false, ◌||◌, cond, Option, Some, None, List, [], ◌∷◌}
use Rattle.sw_tree.specs.declared.expr.Binding.TheVariants as binding
use Rattle.sw_value.specs.declared.ty.Mark.{Mark}
use Rattle.sw_value.specs.declared.ty.Base.{Base}
use Rattle.sw_value.specs.declared.ty.Base.TheVariants as base
use Rattle.sw_value.specs.declared.ty.Ty.{Ty}
use Rattle.sw_typed.specs.declared.entity.Entity.{Entity}
use Rattle.sw_typed.specs.declared.entity.Entity.TheVariants as entity
use Rattle.sw_typed.specs.Elaborated as e
use Rattle.sw_resolve.specs.declared.scope.Scope.{Scope}

-- a stored property that is not bound for good
unfoldable pub is_var : Entity → Bool
is_var (entity.Stored owner number binding.Var) = true
is_var entity = false

abbrev pub is_actor : Base → Bool
is_actor (base.Plain number) = true
is_actor (base.Distributed number) = true
is_actor b = false

abbrev pub is_marked_reference : List Mark → Base → Bool
is_marked_reference [] b = is_actor b
is_marked_reference (m ∷ ms) b = false

-- a reference to an actor, whose properties are variables whatever it is itself
unfoldable pub is_reference : Option Ty → Bool
is_reference None = false
is_reference (Some t) = is_marked_reference t.marks t.base

unfoldable pub is_own_actor : Option Base → Bool
is_own_actor None = false
is_own_actor (Some b) = is_actor b

-- the properties of `self` are variables
unfoldable pub own_may_change : Scope → Bool
own_may_change scope = is_own_actor scope.own || scope.self_is_variable

abbrev mutual
  -- A variable that is no constant; `self` where it is one; a `var` property of what may be changed itself; an element of
  -- such an array. Of what names nothing nothing is said.
  pub is_variable : Scope → e.Expr → Bool
  is_variable scope (e.expr t at f) = is_variable_form scope f

  pub is_variable_form : Scope → e.Form → Bool
  is_variable_form scope (e.Variable v) = v.is_var
  is_variable_form scope e.SelfValue = scope.self_is_variable
  is_variable_form scope (e.Member entity on at) = cond (is_var entity) (may_change scope on) false
  is_variable_form scope (e.Index at a i) = is_variable scope a
  is_variable_form scope (e.Unresolved es) = true
  is_variable_form scope f = false

  -- what stands before the name of a property or a mutating func may be changed
  pub may_change : Scope → e.Receiver → Bool
  may_change scope e.Nothing = false
  may_change scope e.Own = own_may_change scope
  may_change scope (e.Value (e.expr t at f)) = is_reference t || is_variable_form scope f
