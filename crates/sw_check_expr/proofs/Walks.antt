-- What is left of a list of expressions that is walked, one item more at a time.
use Rattle.std.proofs.Common.{◌≡◌, ◌<◌, ◌≤◌, ◌+◌, suc, zero, ℕ, List, [], ◌∷◌, ◌++◌, Bool, map, drop, get_or, length, Option, Some, None, is_none, slice_get, unwrap_or, refl, sym, ap, subst, ◌∙◌, append_assoc, append-nil, arith}
use Rattle.std.proofs.Math.Seq.{drop-cons}
use Rattle.sw_rules.specs.declared.Refusal.{Refusal}
use Rattle.sw_rules.specs.declared.Rule.TheVariants as rule
use Rattle.sw_findings.specs.Found.{keep_all, when}
use Rattle.sw_tree.specs.declared.expr.Name.{Name}
use Rattle.sw_tree.specs.declared.expr.Argument.{Argument}
use Rattle.sw_tree.specs.declared.expr.StringPiece.{StringPiece}
use Rattle.sw_tree.specs.declared.expr.Expr.{Expr}
use Rattle.sw_tree.specs.declared.expr.Expr.TheFolds.{fold_out-Argument, fold_out-StringPiece}
use Rattle.sw_typed.specs.declared.expr.Typed.{Typed}
use Rattle.sw_typed.specs.declared.expr.TypedPiece.{TypedPiece}
use Rattle.sw_typed.specs.Syntax as x
use Rattle.sw_typed.specs.SyntaxOf.{arg_of, args_of, argument_level, expr_level, expr_of, exprs_of, literal_level, piece_level, piece_of, pieces_of}
use Rattle.sw_typing.specs.declared.need.Need.{Need}
use Rattle.sw_typing.specs.declared.need.Need.TheVariants.{Free, Lost}
use Rattle.sw_resolve.specs.declared.scope.Scope.{Scope}
use Rattle.sw_check_expr.specs.Syntax.{first, is_empty}
use Rattle.sw_check_expr.specs.Forms.{first_need, is_unprintable, piece, rest_needs}
use Rattle.sw_check_expr.specs.Typing.{AllTold, all_told, check, check_all, check_args, check_pieces}
use Rattle.sw_check_expr.proofs.Findings.{keep_append, keep_none}

-- ---- lists

pub none_first : (es : List Expr) → is_empty (exprs_of (map expr_of es)) ≡ is_none (slice_get es 0)
none_first [] = refl
none_first (e ∷ es) = refl

from_here : {A : Type 0} (xs : List A) (i : ℕ) (x : A) → i < length xs → x ≡ get_or xs i x → drop i xs ≡ x ∷ drop (i + 1) xs
from_here xs i x h is = let n : suc i ≡ i + 1 = omega arith in drop-cons xs i x h ∙ ap (λ y. y ∷ drop (suc i) xs) (sym is) ∙ ap (λ k. x ∷ drop k xs) n

over : {A : Type 0} (xs : List A) (i : ℕ) → length xs ≤ i → drop i xs ≡ []
over [] zero h = refl
over [] (suc i) h = refl
over (x ∷ xs) zero h = absurd (omega (arith, h))
over (x ∷ xs) (suc i) h = over xs i (omega (arith, h))

more : {A : Type 0} (made made1 : List A) (e : A) (rest left total : List A) → left ≡ e ∷ rest → made1 ≡ made ++ e ∷ [] → made ++ left ≡ total → made1 ++ rest ≡ total
more made made1 e rest left total l m p = ap (λ xs. xs ++ rest) m ∙ append_assoc made (e ∷ []) rest ∙ ap (λ xs. made ++ xs) (sym l) ∙ p

last : {A : Type 0} (made left total : List A) → left ≡ [] → made ++ left ≡ total → made ≡ total
last made left total l p = sym (append-nil made) ∙ ap (λ xs. made ++ xs) (sym l) ∙ p

kept_more : (b b1 : Option Refusal) (e rest left : List Refusal) (total : Option Refusal) → left ≡ e ++ rest → b1 ≡ keep_all b e → keep_all b left ≡ total → keep_all b1 rest ≡ total
kept_more b b1 e rest left total l m p = ap (λ k. keep_all k rest) m ∙ sym (keep_append b e rest) ∙ ap (keep_all b) (sym l) ∙ p

kept_last : (b : Option Refusal) (left : List Refusal) (total : Option Refusal) → left ≡ [] → keep_all b left ≡ total → b ≡ total
kept_last b left total l p = sym (keep_none b) ∙ ap (keep_all b) (sym l) ∙ p

-- ---- elements

abbrev pub rest_of : List Expr → ℕ → Scope → Need → AllTold Typed
rest_of es i scope n = check_all (exprs_of (map expr_of (drop i es))) scope n

rest_step : (es : List Expr) (i : ℕ) (e : Expr) (scope : Scope) (n : Need) → i < length es → e ≡ get_or es i e
    → rest_of es i scope n ≡ all_told ((check (expr_of e) scope n (first (expr_of e))).typed ∷ (rest_of es (i + 1) scope n).all)
    ((check (expr_of e) scope n (first (expr_of e))).faults ++ (rest_of es (i + 1) scope n).faults)
unfolding check_all
rest_step es i e scope n h is = ap (λ xs. check_all (exprs_of (map expr_of xs)) scope n) (from_here es i e h is)

rest_end : (es : List Expr) (i : ℕ) (scope : Scope) (n : Need) → length es ≤ i → rest_of es i scope n ≡ all_told [] []
unfolding check_all
rest_end es i scope n h = ap (λ xs. check_all (exprs_of (map expr_of xs)) scope n) (over es i h)

pub element_more : (es : List Expr) (i : ℕ) (e : Expr) (scope : Scope) (n : Need) (made made1 total : List Typed) (t : Typed)
    → i < length es → e ≡ get_or es i e → t ≡ (check (expr_of e) scope n (first (expr_of e))).typed → made1 ≡ made ++ t ∷ []
    → made ++ (rest_of es i scope n).all ≡ total → made1 ++ (rest_of es (i + 1) scope n).all ≡ total
element_more es i e scope n made made1 total t h is it m p =
    more made made1 _ _ _ total (ap (λ (r : AllTold Typed). r.all) (rest_step es i e scope n h is)) (m ∙ ap (λ t. made ++ t ∷ []) it) p

pub element_kept : (es : List Expr) (i : ℕ) (e : Expr) (scope : Scope) (n : Need) (b b1 total : Option Refusal)
    → i < length es → e ≡ get_or es i e → b1 ≡ keep_all b (check (expr_of e) scope n (first (expr_of e))).faults
    → keep_all b (rest_of es i scope n).faults ≡ total → keep_all b1 (rest_of es (i + 1) scope n).faults ≡ total
element_kept es i e scope n b b1 total h is m p =
    kept_more b b1 _ _ _ total (ap (λ (r : AllTold Typed). r.faults) (rest_step es i e scope n h is)) m p

pub elements_end : (es : List Expr) (i : ℕ) (scope : Scope) (n : Need) (made total : List Typed) → length es ≤ i
    → made ++ (rest_of es i scope n).all ≡ total → made ≡ total
elements_end es i scope n made total h p = last made _ total (ap (λ (r : AllTold Typed). r.all) (rest_end es i scope n h)) p

pub elements_kept : (es : List Expr) (i : ℕ) (scope : Scope) (n : Need) (b total : Option Refusal) → length es ≤ i
    → keep_all b (rest_of es i scope n).faults ≡ total → b ≡ total
elements_kept es i scope n b total h p = kept_last b _ total (ap (λ (r : AllTold Typed). r.faults) (rest_end es i scope n h)) p

-- ---- arguments

arg_same : (a : Argument) → arg_of a ≡ (a.label, expr_of a.value)
arg_same a = fold_out-Argument x.Expr x.Constant (Option Name × x.Expr) (x.Expr × List ℕ) expr_level literal_level argument_level piece_level a

rest_suc : (ns : List Need) (i : ℕ) → rest_needs (drop i ns) ≡ drop (suc i) ns
rest_suc [] zero = refl
rest_suc [] (suc i) = refl
rest_suc (n ∷ ns) zero = refl
rest_suc (n ∷ ns) (suc i) = rest_suc ns i

rest_dropped : (ns : List Need) (i : ℕ) → rest_needs (drop i ns) ≡ drop (i + 1) ns
rest_dropped ns i = let n : suc i ≡ i + 1 = omega arith in rest_suc ns i ∙ ap (λ k. drop k ns) n

first_dropped : (ns : List Need) (i : ℕ) → unwrap_or (slice_get ns i) Lost ≡ first_need (drop i ns)
unfolding first_need
first_dropped [] zero = refl
first_dropped [] (suc i) = refl
first_dropped (n ∷ ns) zero = refl
first_dropped (n ∷ ns) (suc i) = first_dropped ns i

abbrev pub args_from : List Argument → ℕ → Scope → List Need → AllTold Typed
args_from es i scope ns = check_args (args_of (map arg_of (drop i es))) scope (drop i ns)

abbrev pub with_rest : Argument → Scope → Need → AllTold Typed → AllTold Typed
with_rest a scope n r = all_told ((check (expr_of a.value) scope n (first (expr_of a.value))).typed ∷ r.all)
    ((check (expr_of a.value) scope n (first (expr_of a.value))).faults ++ r.faults)

arg_step : (a : Argument) (es : List Argument) (scope : Scope) (ns : List Need)
    → check_args (args_of (map arg_of (a ∷ es))) scope ns ≡ with_rest a scope (first_need ns) (check_args (args_of (map arg_of es)) scope (rest_needs ns))
unfolding check_args
arg_step a es scope ns = ap (λ (p : Option Name × x.Expr). check_args (args_of (p ∷ map arg_of es)) scope ns) (arg_same a)

args_step : (es : List Argument) (i : ℕ) (a : Argument) (scope : Scope) (ns : List Need) (n : Need) → i < length es → a ≡ get_or es i a → n ≡ unwrap_or (slice_get ns i) Lost
    → args_from es i scope ns ≡ with_rest a scope n (args_from es (i + 1) scope ns)
args_step es i a scope ns n h is en =
    ap (λ xs. check_args (args_of (map arg_of xs)) scope (drop i ns)) (from_here es i a h is)
    ∙ arg_step a (drop (i + 1) es) scope (drop i ns)
    ∙ ap (λ m. with_rest a scope m (check_args (args_of (map arg_of (drop (i + 1) es))) scope (rest_needs (drop i ns)))) (sym (en ∙ first_dropped ns i))
    ∙ ap (λ ms. with_rest a scope n (check_args (args_of (map arg_of (drop (i + 1) es))) scope ms)) (rest_dropped ns i)

args_last : (es : List Argument) (i : ℕ) (scope : Scope) (ns : List Need) → length es ≤ i → args_from es i scope ns ≡ all_told [] []
unfolding check_args
args_last es i scope ns h = ap (λ xs. check_args (args_of (map arg_of xs)) scope (drop i ns)) (over es i h)

pub arg_more : (es : List Argument) (i : ℕ) (a : Argument) (scope : Scope) (ns : List Need) (n : Need) (made made1 total : List Typed) (t : Typed)
    → i < length es → a ≡ get_or es i a → n ≡ unwrap_or (slice_get ns i) Lost → t ≡ (check (expr_of a.value) scope n (first (expr_of a.value))).typed → made1 ≡ made ++ t ∷ []
    → made ++ (args_from es i scope ns).all ≡ total → made1 ++ (args_from es (i + 1) scope ns).all ≡ total
arg_more es i a scope ns n made made1 total t h is en it m p =
    more made made1 _ _ _ total (ap (λ (r : AllTold Typed). r.all) (args_step es i a scope ns n h is en)) (m ∙ ap (λ t. made ++ t ∷ []) it) p

pub arg_kept : (es : List Argument) (i : ℕ) (a : Argument) (scope : Scope) (ns : List Need) (n : Need) (b b1 total : Option Refusal)
    → i < length es → a ≡ get_or es i a → n ≡ unwrap_or (slice_get ns i) Lost → b1 ≡ keep_all b (check (expr_of a.value) scope n (first (expr_of a.value))).faults
    → keep_all b (args_from es i scope ns).faults ≡ total → keep_all b1 (args_from es (i + 1) scope ns).faults ≡ total
arg_kept es i a scope ns n b b1 total h is en m p =
    kept_more b b1 _ _ _ total (ap (λ (r : AllTold Typed). r.faults) (args_step es i a scope ns n h is en)) m p

pub args_end : (es : List Argument) (i : ℕ) (scope : Scope) (ns : List Need) (made total : List Typed) → length es ≤ i
    → made ++ (args_from es i scope ns).all ≡ total → made ≡ total
args_end es i scope ns made total h p = last made _ total (ap (λ (r : AllTold Typed). r.all) (args_last es i scope ns h)) p

pub args_kept : (es : List Argument) (i : ℕ) (scope : Scope) (ns : List Need) (b total : Option Refusal) → length es ≤ i
    → keep_all b (args_from es i scope ns).faults ≡ total → b ≡ total
args_kept es i scope ns b total h p = kept_last b _ total (ap (λ (r : AllTold Typed). r.faults) (args_last es i scope ns h)) p

-- ---- what stands in a string

piece_same : (p : StringPiece) → piece_of p ≡ (expr_of p.value, p.text)
piece_same p = fold_out-StringPiece x.Expr x.Constant (Option Name × x.Expr) (x.Expr × List ℕ) expr_level literal_level argument_level piece_level p

abbrev pub pieces_from : List StringPiece → ℕ → Scope → AllTold TypedPiece
pieces_from ps i scope = check_pieces (pieces_of (map piece_of (drop i ps))) scope

abbrev pub piece_faults : StringPiece → Scope → List Refusal
piece_faults p scope = (check (expr_of p.value) scope Free (first (expr_of p.value))).faults

abbrev pub piece_value : StringPiece → Scope → Typed
piece_value p scope = (check (expr_of p.value) scope Free (first (expr_of p.value))).typed

pieces_step : (ps : List StringPiece) (i : ℕ) (p : StringPiece) (scope : Scope) → i < length ps → p ≡ get_or ps i p
    → pieces_from ps i scope ≡ all_told (piece (piece_value p scope) p.text ∷ (pieces_from ps (i + 1) scope).all)
    (piece_faults p scope ++ (when (is_unprintable scope.known.now (piece_value p scope).ty) rule.E10 (piece_value p scope).first ++ (pieces_from ps (i + 1) scope).faults))
unfolding check_pieces
pieces_step ps i p scope h is =
    ap (λ ys. check_pieces (pieces_of (map piece_of ys)) scope) (from_here ps i p h is)
    ∙ ap (λ (q : x.Expr × List ℕ). check_pieces (pieces_of (q ∷ map piece_of (drop (i + 1) ps))) scope) (piece_same p)

pieces_last : (ps : List StringPiece) (i : ℕ) (scope : Scope) → length ps ≤ i → pieces_from ps i scope ≡ all_told [] []
unfolding check_pieces
pieces_last ps i scope h = ap (λ ys. check_pieces (pieces_of (map piece_of ys)) scope) (over ps i h)

pub piece_more : (ps : List StringPiece) (i : ℕ) (p : StringPiece) (scope : Scope) (made made1 total : List TypedPiece) (t : Typed)
    → i < length ps → p ≡ get_or ps i p → t ≡ piece_value p scope → made1 ≡ made ++ piece t p.text ∷ []
    → made ++ (pieces_from ps i scope).all ≡ total → made1 ++ (pieces_from ps (i + 1) scope).all ≡ total
piece_more ps i p scope made made1 total t h is it m q =
    more made made1 _ _ _ total (ap (λ (r : AllTold TypedPiece). r.all) (pieces_step ps i p scope h is)) (m ∙ ap (λ t. made ++ piece t p.text ∷ []) it) q

pub piece_kept : (ps : List StringPiece) (i : ℕ) (p : StringPiece) (scope : Scope) (t : Typed) (b b1 b2 total : Option Refusal)
    → i < length ps → p ≡ get_or ps i p → t ≡ piece_value p scope → b1 ≡ keep_all b (piece_faults p scope)
    → b2 ≡ keep_all b1 (when (is_unprintable scope.known.now t.ty) rule.E10 t.first)
    → keep_all b (pieces_from ps i scope).faults ≡ total → keep_all b2 (pieces_from ps (i + 1) scope).faults ≡ total
piece_kept ps i p scope t b b1 b2 total h is it m n q =
    let w = when (is_unprintable scope.known.now (piece_value p scope).ty) rule.E10 (piece_value p scope).first in
    let rest = (pieces_from ps (i + 1) scope).faults in
    kept_more b1 b2 w rest (w ++ rest) total refl (n ∙ ap (λ t. keep_all b1 (when (is_unprintable scope.known.now t.ty) rule.E10 t.first)) it)
    (kept_more b b1 _ _ _ total (ap (λ (r : AllTold TypedPiece). r.faults) (pieces_step ps i p scope h is)) m q)

pub pieces_end : (ps : List StringPiece) (i : ℕ) (scope : Scope) (made total : List TypedPiece) → length ps ≤ i
    → made ++ (pieces_from ps i scope).all ≡ total → made ≡ total
pieces_end ps i scope made total h q = last made _ total (ap (λ (r : AllTold TypedPiece). r.all) (pieces_last ps i scope h)) q

pub pieces_kept : (ps : List StringPiece) (i : ℕ) (scope : Scope) (b total : Option Refusal) → length ps ≤ i
    → keep_all b (pieces_from ps i scope).faults ≡ total → b ≡ total
pieces_kept ps i scope b total h q = kept_last b _ total (ap (λ (r : AllTold TypedPiece). r.faults) (pieces_last ps i scope h)) q
