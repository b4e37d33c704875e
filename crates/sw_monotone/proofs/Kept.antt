-- An expression that has a type keeps it, with its whole tree, when more is known.
use Rattle.std.proofs.Common.{◌≡◌, refl, true, ◌&&◌, not, Some, List}
use Rattle.sw_base.specs.declared.ids.Span.{Span}
use Rattle.sw_tree.specs.declared.expr.TryForm.TheVariants as tries
use Rattle.sw_value.specs.declared.ty.Ty.{Ty}
use Rattle.sw_typed.specs.Syntax as x
use Rattle.sw_typing.specs.declared.need.Need.{Need}
use Rattle.sw_typing.specs.declared.need.Need.TheVariants.{Free, Needed}
use Rattle.sw_typing.specs.Needs.{element_wanted, first_branch, first_element, index_need, like, other_element, second_branch, within_try}
use Rattle.sw_typing.specs.Operators.{bool}
use Rattle.sw_resolve.specs.declared.scope.Scope.{Scope}
use Rattle.sw_check_expr.specs.Syntax.{asks, first, is_nil, labels}
use Rattle.sw_check_expr.specs.Forms.{all_typed, implicit_at, needs_of, of_await, of_force, of_issue, of_paren, of_sign, of_try, rest_needs, first_need, right_need}
use Rattle.sw_check_expr.specs.Typing.{check, check_all, check_args, check_constant, check_pieces}
use Rattle.sw_monotone.specs.Growth.{GrowsTo, all_values_typed}
use Rattle.sw_monotone.proofs.Declarations.{there}
use Rattle.sw_monotone.proofs.Seen.{IsKept, member_kept, named_kept}
use Rattle.sw_monotone.proofs.Called.{called_there_kept, name_called_kept}
use Rattle.sw_monotone.proofs.Forms.{AllKept, AllPiecesKept, all_behind_kept, all_pieces_there, all_there, behind_kept, branches_kept, call_kept, called_of_kept, chosen_kept, elements_kept, fitted_kept, force_there, index_kept, list_kept, member_of_kept, operands_kept, pieces_kept as piece_kept, round_kept, self_kept, sign_there, string_kept, try_there, value_called_kept, waited_kept}

module _ (s s' : Scope) (grows : GrowsTo s s') where
  mutual
    unfolding check

    kept : (e : x.Expr) (n : Need) (at : Span) → IsKept (check e s n at).typed (check e s' n at).typed
    kept (x.Try tries.Plain here e) n at = round_kept (of_try tries.Plain here) (λ e. try_there tries.Plain e.ty) _ _ (kept e n at)
    kept (x.Try tries.Optional here e) n at =
        fitted_kept s s' grows n _ _ (round_kept (of_try tries.Optional here) (λ e. try_there tries.Optional e.ty) _ _ (kept e (within_try n) (first e)))
    kept (x.Await here e) n at = round_kept (of_await here) (λ e h. h) _ _ (kept e n at)
    kept (x.Paren here e) n at = round_kept (of_paren here) (λ e h. h) _ _ (kept e n at)
    kept (x.Issue here e) n at = round_kept (of_issue here) (λ e h. h) _ _ (kept e n at)
    kept (x.Ternary c a b) n at =
        branches_kept _ _ _ _ _ _ (kept c (Needed bool) (first c)) (kept a (first_branch n) (first a))
        (behind_kept (λ t. (check b s (second_branch n t) (first b)).typed) (λ t. (check b s' (second_branch n t) (first b)).typed) _ _ (kept a (first_branch n) (first a))
        (λ t. kept b (second_branch n t) (first b)))
    kept (x.Binary operator here a b) n at =
        chosen_kept (asks a && not (asks b)) _ _ _ _
        (fitted_kept s s' grows n _ _ (operands_kept s s' grows operator here _ _ _ _
        (behind_kept (λ t. (check a s (like t) (first a)).typed) (λ t. (check a s' (like t) (first a)).typed) _ _ (kept b Free (first b)) (λ t. kept a (like t) (first a)))
        (λ there. kept b Free (first b))))
        (fitted_kept s s' grows n _ _ (operands_kept s s' grows operator here _ _ _ _
        (λ there. kept a Free (first a))
        (behind_kept (λ t. (check b s (right_need operator (is_nil b) (asks b) t) (first b)).typed) (λ t. (check b s' (right_need operator (is_nil b) (asks b) t) (first b)).typed) _ _
        (kept a Free (first a)) (λ t. kept b (right_need operator (is_nil b) (asks b) t) (first b)))))
    kept (x.Prefix operator here e) n at = fitted_kept s s' grows n _ _ (round_kept (of_sign operator here) (λ e. sign_there operator e.ty) _ _ (kept e Free (first e)))
    kept (x.Member e name) n at = fitted_kept s s' grows n _ _ (member_of_kept s s' grows e _ _ (kept e Free (first e)) name)
    kept (x.Call (x.Named name) here args) n at =
        fitted_kept s s' grows n _ _ (call_kept s s' grows (λ c. (check_args args s (needs_of c)).all) (λ c. (check_args args s' (needs_of c)).all) (λ c. args_kept args (needs_of c))
        _ _ (name_called_kept s s' grows name (labels args)))
    kept (x.Call (x.Implicit dot name) here args) n at =
        fitted_kept s s' grows n _ _ (call_kept s s' grows (λ c. (check_args args s (needs_of c)).all) (λ c. (check_args args s' (needs_of c)).all) (λ c. args_kept args (needs_of c))
        _ _ (called_there_kept s s' grows (implicit_at n dot) name (labels args)))
    kept (x.Call (x.Member e name) here args) n at =
        fitted_kept s s' grows n _ _ (call_kept s s' grows (λ c. (check_args args s (needs_of c)).all) (λ c. (check_args args s' (needs_of c)).all) (λ c. args_kept args (needs_of c))
        _ _ (called_of_kept s s' grows e _ _ (kept e Free (first e)) name (labels args)))
    kept (x.Call e here args) n at =
        fitted_kept s s' grows n _ _ (call_kept s s' grows (λ c. (check_args args s (needs_of c)).all) (λ c. (check_args args s' (needs_of c)).all) (λ c. args_kept args (needs_of c))
        _ _ (value_called_kept (check e s Free (first e)).typed (check e s' Free (first e)).typed))
    kept (x.Index e here i) n at =
        fitted_kept s s' grows n _ _ (index_kept here _ _ _ _ (kept e Free (first e))
        (behind_kept (λ t. (check i s (index_need t) (first i)).typed) (λ t. (check i s' (index_need t) (first i)).typed) _ _ (kept e Free (first e)) (λ t. kept i (index_need t) (first i))))
    kept (x.Force e here) n at = fitted_kept s s' grows n _ _ (round_kept (of_force here) (λ e. force_there e.ty) _ _ (kept e Free (first e)))
    kept (x.Literal here c) n at = constant_kept c n at here
    kept (x.Nil here) n at = fitted_kept s s' grows n _ _ (λ there. refl)
    kept (x.Named name) n at = fitted_kept s s' grows n _ _ (named_kept s s' grows name)
    kept (x.SelfValue here) n at = fitted_kept s s' grows n _ _ (λ there. self_kept s s' grows here)
    kept (x.Implicit dot name) n at = fitted_kept s s' grows n _ _ (member_kept s s' grows (implicit_at n dot) name)
    kept (x.Array here x.no_expr) n at = fitted_kept s s' grows n _ _ (λ there. refl)
    kept (x.Array here (x.expr e es)) n at =
        fitted_kept s s' grows n _ _ (elements_kept here _ _ _ _ (kept e (first_element n (element_wanted n)) (first e))
        (all_behind_kept (λ t. (check_all es s (other_element (element_wanted n) t)).all) (λ t. (check_all es s' (other_element (element_wanted n) t)).all) _ _
        (kept e (first_element n (element_wanted n)) (first e)) (λ t. all_kept es (other_element (element_wanted n) t))))
    kept (x.Wait name) n at = fitted_kept s s' grows n _ _ (λ there. waited_kept s s' grows name.span name.text)

    constant_kept : (c : x.Constant) (n : Need) (at here : Span) → IsKept (check_constant c s n at here).typed (check_constant c s' n at here).typed
    constant_kept (x.Integer i) n at here = fitted_kept s s' grows n _ _ (λ there. refl)
    constant_kept (x.Truth b) n at here = fitted_kept s s' grows n _ _ (λ there. refl)
    constant_kept (x.String text ps) n at here = fitted_kept s s' grows n _ _ (string_kept s s' grows here text _ _ (pieces_kept ps))

    all_kept : (es : x.Exprs) (n : Need) → AllKept (check_all es s n).all (check_all es s' n).all
    all_kept x.no_expr n = λ there. refl
    all_kept (x.expr e es) n = list_kept _ _ _ _ (kept e n (first e)) (all_kept es n)

    args_kept : (args : x.Args) (ns : List Need) → AllKept (check_args args s ns).all (check_args args s' ns).all
    args_kept x.no_arg ns = λ there. refl
    args_kept (x.arg label e args) ns = list_kept _ _ _ _ (kept e (first_need ns) (first e)) (args_kept args (rest_needs ns))

    pieces_kept : (ps : x.Pieces) → AllPiecesKept (check_pieces ps s).all (check_pieces ps s').all
    pieces_kept x.no_piece = λ there. refl
    pieces_kept (x.piece e text ps) = piece_kept _ _ text _ _ (kept e Free (first e)) (pieces_kept ps)

  -- ---- as the law says it

  pub expression_kept : (e : x.Expr) (n : Need) (at : Span) (t : Ty) → (check e s n at).typed.ty ≡ Some t → (check e s' n at).typed ≡ (check e s n at).typed
  expression_kept e n at t h = kept e n at (there (check e s n at).typed.ty t h)

  pub elements_kept_typed : (es : x.Exprs) (n : Need) → all_typed (check_all es s n).all ≡ true → (check_all es s' n).all ≡ (check_all es s n).all
  elements_kept_typed es n h = all_kept es n (all_there (check_all es s n).all h)

  pub arguments_kept_typed : (args : x.Args) (ns : List Need) → all_typed (check_args args s ns).all ≡ true → (check_args args s' ns).all ≡ (check_args args s ns).all
  arguments_kept_typed args ns h = args_kept args ns (all_there (check_args args s ns).all h)

  pub pieces_kept_typed : (ps : x.Pieces) → all_values_typed (check_pieces ps s).all ≡ true → (check_pieces ps s').all ≡ (check_pieces ps s).all
  pieces_kept_typed ps h = pieces_kept ps (all_pieces_there (check_pieces ps s).all h)
