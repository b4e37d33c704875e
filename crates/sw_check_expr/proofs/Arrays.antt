-- What is told of arrays and strings, from what is told of their parts in turn.
use Rattle.std.proofs.Common.{◌≡◌, ◌∙◌, ◌+◌, ◌++◌, ◌∷◌, [], List, ℕ, Option, Some, None, ap, refl, sym, subst, map, drop, slice_get}
use Rattle.sw_base.specs.declared.ids.Span.{Span}
use Rattle.sw_rules.specs.declared.Refusal.{Refusal}
use Rattle.sw_findings.specs.Found.{keep_all}
use Rattle.sw_value.specs.declared.ty.Ty.{Ty}
use Rattle.sw_tree.specs.declared.expr.Name.{Name}
use Rattle.sw_tree.specs.declared.expr.Expr.{Expr}
use Rattle.sw_tree.specs.declared.expr.Literal.{Literal}
use Rattle.sw_tree.specs.declared.expr.Literal.TheVariants as l
use Rattle.sw_tree.specs.declared.expr.StringPiece.{StringPiece}
use Rattle.sw_tree.specs.declared.expr.Expr.TheOpen.{Literal-F}
use Rattle.sw_tree.specs.declared.expr.Expr.TheFolds.{fold-roll-Literal}
use Rattle.sw_typed.specs.declared.expr.Typed.{Typed}
use Rattle.sw_typed.specs.declared.expr.TypedPiece.{TypedPiece}
use Rattle.sw_typed.specs.Syntax as x
use Rattle.sw_typed.specs.SyntaxOf.{argument_level, constant_of, expr_level, expr_of, exprs_of, literal_level, piece_level, piece_of, pieces_of}
use Rattle.sw_typing.specs.declared.need.Need.{Need}
use Rattle.sw_typing.specs.Needs.{element_wanted, first_element, other_element}
use Rattle.sw_typing.specs.Conversions.{e1, fitted}
use Rattle.sw_resolve.specs.declared.scope.Scope.{Scope}
use Rattle.sw_check_expr.specs.Syntax.{first}
use Rattle.sw_check_expr.specs.Forms.{of_elements, of_string}
use Rattle.sw_check_expr.specs.Typing.{check, check_constant, check_pieces}
use Rattle.sw_check_expr.proofs.Walks.{rest_of}
use Rattle.sw_check_expr.proofs.Callees.{then_kept}

-- ---- arrays

pub no_elements : (es : List Expr) → slice_get es 0 ≡ None → exprs_of (map expr_of es) ≡ x.no_expr
no_elements [] h = refl
no_elements (e ∷ es) h = absurd (cc)

some_elements : (es : List Expr) (e : Expr) → slice_get es 0 ≡ Some e → exprs_of (map expr_of es) ≡ x.expr (expr_of e) (exprs_of (map expr_of (drop 1 es)))
some_elements [] e h = absurd (cc)
some_elements (d ∷ es) e h = let same : d ≡ e = cc in ap (λ y. x.expr (expr_of y) (exprs_of (map expr_of es))) same

-- the first element, in a place with this need
abbrev head_of : Expr → Scope → Need → Typed
head_of e scope n = (check (expr_of e) scope n (first (expr_of e))).typed

-- what depends on the needs of the elements, and on the first of them
shifted : {T : Type 0} (f : Need → Typed → Need → T) (e : Expr) (scope : Scope) (n : Need) (wanted : Option Ty) (n1 n2 : Need) (t : Typed)
    → wanted ≡ element_wanted n → n1 ≡ first_element n wanted → t ≡ head_of e scope n1 → n2 ≡ other_element wanted t.ty
    → f n1 t n2 ≡ f (first_element n (element_wanted n)) (head_of e scope (first_element n (element_wanted n)))
    (other_element (element_wanted n) (head_of e scope (first_element n (element_wanted n))).ty)
shifted f e scope n wanted n1 n2 t ew e1 et e2 =
    ap (λ m. f n1 t m) e2
    ∙ ap (λ u. f n1 u (other_element wanted u.ty)) et
    ∙ ap (λ m. f m (head_of e scope m) (other_element wanted (head_of e scope m).ty)) e1
    ∙ ap (λ w. f (first_element n w) (head_of e scope (first_element n w)) (other_element w (head_of e scope (first_element n w)).ty)) ew

pub array_typed : (es : List Expr) (e : Expr) (scope : Scope) (n : Need) (at here : Span) (wanted : Option Ty) (n1 n2 : Need) (t : Typed) (all : List Typed)
    → Some e ≡ slice_get es 0 → wanted ≡ element_wanted n → n1 ≡ first_element n wanted → t ≡ head_of e scope n1 → n2 ≡ other_element wanted t.ty
    → all ≡ t ∷ (rest_of es 1 scope n2).all
    → fitted scope.known.now n (of_elements here all) ≡ (check (x.Array here (exprs_of (map expr_of es))) scope n at).typed
unfolding check
array_typed es e scope n at here wanted n1 n2 t all is ew en1 et en2 ea =
    ap (λ ts. fitted scope.known.now n (of_elements here ts)) ea
    ∙ shifted (λ m1 u m2. fitted scope.known.now n (of_elements here (u ∷ (rest_of es 1 scope m2).all))) e scope n wanted n1 n2 t ew en1 et en2
    ∙ ap (λ y. (check (x.Array here y) scope n at).typed) (sym (some_elements es e (sym is)))

pub array_kept : (es : List Expr) (e : Expr) (scope : Scope) (n : Need) (at here : Span) (wanted : Option Ty) (n1 n2 : Need) (t : Typed) (all : List Typed) (b b1 b2 : Option Refusal)
    → Some e ≡ slice_get es 0 → wanted ≡ element_wanted n → n1 ≡ first_element n wanted → t ≡ head_of e scope n1 → n2 ≡ other_element wanted t.ty
    → all ≡ t ∷ (rest_of es 1 scope n2).all
    → b1 ≡ keep_all b (check (expr_of e) scope n1 (first (expr_of e))).faults → b2 ≡ keep_all b1 (rest_of es 1 scope n2).faults
    → keep_all b2 (e1 scope.known.now n at (of_elements here all)) ≡ keep_all b (check (x.Array here (exprs_of (map expr_of es))) scope n at).faults
unfolding check
array_kept es e scope n at here wanted n1 n2 t all b b1 b2 is ew en1 et en2 ea k1 k2 =
    ap (λ ts. keep_all b2 (e1 scope.known.now n at (of_elements here ts))) ea
    ∙ then_kept b b2 _ _ _ (then_kept b b1 b2 _ _ k1 k2) refl
    ∙ shifted (λ m1 u m2. keep_all b (((check (expr_of e) scope m1 (first (expr_of e))).faults ++ (rest_of es 1 scope m2).faults)
    ++ e1 scope.known.now n at (of_elements here (u ∷ (rest_of es 1 scope m2).all)))) e scope n wanted n1 n2 t ew en1 et en2
    ∙ ap (λ y. keep_all b (check (x.Array here y) scope n at).faults) (sym (some_elements es e (sym is)))

-- ---- strings

of_text : (text : List ℕ) (ps : List StringPiece) → constant_of (l.String text ps) ≡ x.String text (pieces_of (map piece_of ps))
of_text text ps = ap constant_of (sym (l.rolls-String text ps))
    ∙ fold-roll-Literal x.Expr x.Constant (Option Name × x.Expr) (x.Expr × List ℕ) expr_level literal_level argument_level piece_level (Literal-F.String text ps)

pub string_kept : (value : Literal) (text text1 : List ℕ) (ps ps1 : List StringPiece) (made : List TypedPiece) (scope : Scope) (n : Need) (at here : Span) (b b1 : Option Refusal)
    → value ≡ l.String text ps → text1 ≡ text → ps1 ≡ ps → made ≡ (check_pieces (pieces_of (map piece_of ps1)) scope).all
    → b1 ≡ keep_all b (check_pieces (pieces_of (map piece_of ps1)) scope).faults
    → keep_all b1 (e1 scope.known.now n at (of_string scope here text1 made)) ≡ keep_all b (check_constant (constant_of value) scope n at here).faults
unfolding check_constant
string_kept value text text1 ps ps1 made scope n at here b b1 iv it ip im ib =
    ap (λ s. keep_all b1 (e1 scope.known.now n at (of_string scope here s made))) it
    ∙ ap (λ m. keep_all b1 (e1 scope.known.now n at (of_string scope here text m))) im
    ∙ then_kept b b1 _ _ _ ib refl
    ∙ ap (λ qs. keep_all b ((check_pieces (pieces_of (map piece_of qs)) scope).faults ++ e1 scope.known.now n at (of_string scope here text (check_pieces (pieces_of (map piece_of qs)) scope).all))) ip
    ∙ ap (λ y. keep_all b (check_constant y scope n at here).faults) (sym (ap constant_of iv ∙ of_text text ps))
