-- Bodies of thin trees: each tree has one.
use Rattle.std.proofs.Common.{◌≡◌, ◌↔◌, IsTrue, Bool, true, false, ℕ, zero, suc, ◌+◌, ◌-◌, ◌<◌, ◌≤◌, ℤ, Option, Some, None, MatchOption, drop, drop-cons, length, get_or, List, [], ◌∷◌, ◌++◌, refl, sym, ap, ◌∙◌, subst, arith, append_assoc, append-nil}
use Rattle.sw_base.specs.declared.ids.Span.{Span}
use Rattle.sw_tree.specs.declared.expr.Name.{Name}
use Rattle.sw_tree.specs.declared.expr.Expr.{Expr as Tree, out-Expr}
use Rattle.sw_tree.specs.declared.expr.Expr.TheOpen.{Expr-F}
use Rattle.sw_tree.specs.declared.expr.Expr.TheViews.{out-roll-Expr}
use Rattle.sw_tree.specs.declared.expr.Argument.{Argument}
use Rattle.sw_tree.specs.declared.expr.StringPiece.{StringPiece}
use Rattle.sw_tree.specs.declared.expr.Expr.TheVariants as x
use Rattle.sw_tree.specs.declared.expr.Literal.{Literal}
use Rattle.sw_tree.specs.declared.expr.Literal.TheVariants as literal
use Rattle.sw_tree.specs.declared.expr.BinaryOperator.{BinaryOperator}
use Rattle.std.proofs.lemmas.List.{map_push}
use Rattle.sw_thin.specs.ProgramView.{stmt_of, body_of}
use Rattle.sw_thin.specs.declared.program.Stmt as c
use Rattle.sw_thin.specs.Program.{Expr, Int, Str, Var, Add, Stmt, Let, Print}
use Rattle.sw_tree.specs.declared.stmt.Stmt.{Stmt as StmtTree}
use Rattle.sw_tree.specs.declared.stmt.Stmt.TheVariants as s
use Rattle.sw_tree.specs.declared.expr.Binding.{Binding}
use Rattle.sw_tree.specs.declared.types.«Type».{«Type»}
use Rattle.sw_tree.specs.declared.decl.Parameter.{Parameter}
use Rattle.sw_tree.specs.declared.decl.Func.{Func}
use Rattle.sw_tree.specs.declared.decl.Decl.TheVariants as d
use Rattle.sw_tree.specs.declared.decl.Tree.{Tree as File}
use Rattle.sw_thin.specs.Thin.{IsTerm, IsSum, terms, IsThinStmt, IsExprOf, IsStmtOf, IsPrintOf, IsSystem, TakesSystem, IsMain, HasMain}
use Rattle.sw_thin.specs.TreeReading.{lets_after, AreThin}

pub none_of : {A N : Type 0} (S : A → Type 0) (o : Option A) → MatchOption o N S → o ≡ None → N
none_of {A} {N} S o h e = subst (λ (o : Option A). MatchOption o N S) e h

abbrev Layer : Type 0
Layer = Expr-F Tree Literal Argument StringPiece

-- ---- sums

pub terms_some : (e : Expr) → terms e ≤ 0 → ⊥
terms_some (Int n) h = absurd (omega (arith, h))
terms_some (Str t) h = absurd (omega (arith, h))
terms_some (Var n) h = absurd (omega (arith, h))
terms_some (Add a b) h = terms_some a (omega (arith, h))

term_one : (e : Expr) → IsTerm e → terms e ≡ 1
term_one (Int n) h = refl
term_one (Str t) h = absurd h
term_one (Var n) h = absurd h
term_one (Add a b) h = absurd h

same_layer : (o o' : BinaryOperator) (s s' : Span) (p p' : Tree × Tree) → ◌≡◌ {A = Layer} (Expr-F.Binary o s p) (Expr-F.Binary o' s' p') → p ≡ p'
same_layer o o' s s' p p' e = cc

out_binary : (o : BinaryOperator) (s : Span) (l r : Tree) → out-Expr (x.Binary o s (l, r)) ≡ Expr-F.Binary o s (l, r)
out_binary o s l r = ap out-Expr (sym (x.rolls-Binary o s (l, r))) ∙ out-roll-Expr (Expr-F.Binary o s (l, r))

same_operands : (o o' : BinaryOperator) (s s' : Span) (l l' r r' : Tree) → x.Binary o s (l, r) ≡ x.Binary o' s' (l', r') → ◌≡◌ {A = Tree × Tree} (l, r) (l', r')
same_operands o o' s s' l l' r r' e = same_layer o o' s s' (l, r) (l', r') (sym (out_binary o s l r) ∙ (ap out-Expr e ∙ out_binary o' s' l' r'))

same_left : (o o' : BinaryOperator) (s s' : Span) (l l' r r' : Tree) → x.Binary o s (l, r) ≡ x.Binary o' s' (l', r') → l ≡ l'
same_left o o' s s' l l' r r' e = ap (λ (p : Tree × Tree). p.0) (same_operands o o' s s' l l' r r' e)

no_literal : (o : BinaryOperator) (s s' : Span) (l r tree : Tree) (t : Literal) → tree ≡ x.Binary o s (l, r) → tree ≡ x.Literal s' t → ⊥
no_literal o s s' l r tree t e h = cc

-- no sum is on the left of the mark
pub no_left : (tree : Tree) (operands : Tree × Tree) (o : BinaryOperator) (span : Span) (most : ℕ) → tree ≡ x.Binary o span operands
    → ((e : Expr) → IsSum e → terms e ≤ most - 1 → IsExprOf e operands.0 → ⊥)
    → (e : Expr) → IsSum e → terms e ≤ most → IsExprOf e tree → ⊥
no_left tree (left, right) o span most is none (Int n) sum few of = no_literal o span of.0 left right tree (literal.Integer n) is of.1
no_left tree (left, right) o span most is none (Str t) sum few of = absurd sum
no_left tree (left, right) o span most is none (Var n) sum few of = absurd sum
no_left tree (left, right) o span most is none (Add a b) sum few (s, l, r, e, left_of, right_of) =
    let one = term_one b sum.1 in
    none a sum.0 (omega (arith, few, one)) (subst (λ t. IsExprOf a t) (same_left _ o s span l left r right (sym e ∙ is)) left_of)

-- ---- a tree is that of one expression

same_literal_layer : (s s' : Span) (t t' : Literal) → ◌≡◌ {A = Layer} (Expr-F.Literal s t) (Expr-F.Literal s' t') → t ≡ t'
same_literal_layer s s' t t' e = cc

out_literal : (s : Span) (t : Literal) → out-Expr (x.Literal s t) ≡ Expr-F.Literal s t
out_literal s t = ap out-Expr (sym (x.rolls-Literal s t)) ∙ out-roll-Expr (Expr-F.Literal s t)

same_literal : (s s' : Span) (t t' : Literal) → x.Literal s t ≡ x.Literal s' t' → t ≡ t'
same_literal s s' t t' e = same_literal_layer s s' t t' (sym (out_literal s t) ∙ (ap out-Expr e ∙ out_literal s' t'))

same_integer : (n n' : ℤ) → literal.Integer n ≡ literal.Integer n' → n ≡ n'
same_integer n n' e = cc

same_string : (t t' : List ℕ) → literal.String t [] ≡ literal.String t' [] → t ≡ t'
same_string t t' e = cc

no_string : (n : ℤ) (t : List ℕ) → literal.Integer n ≡ literal.String t [] → ⊥
no_string n t e = cc

same_name : (n n' : Name) → x.Name n ≡ x.Name n' → n ≡ n'
same_name n n' e = cc

name_literal : (n : Name) (s : Span) (t : Literal) → x.Name n ≡ x.Literal s t → ⊥
name_literal n s t e = cc

name_binary : (n : Name) (o : BinaryOperator) (s : Span) (l r : Tree) → x.Name n ≡ x.Binary o s (l, r) → ⊥
name_binary n o s l r e = cc

same_right : (o o' : BinaryOperator) (s s' : Span) (l l' r r' : Tree) → x.Binary o s (l, r) ≡ x.Binary o' s' (l', r') → r ≡ r'
same_right o o' s s' l l' r r' e = ap (λ (p : Tree × Tree). p.1) (same_operands o o' s s' l l' r r' e)

pub one_expr : (e e' : Expr) (tree : Tree) → IsExprOf e tree → IsExprOf e' tree → e ≡ e'
one_expr (Int n) (Int n') tree (s, p) (s', q) = ap Int (same_integer n n' (same_literal s s' _ _ (sym p ∙ q)))
one_expr (Int n) (Str t) tree (s, p) (s', q) = absurd (no_string n t (same_literal s s' _ _ (sym p ∙ q)))
one_expr (Int n) (Var v) tree (s, p) (f, q, _) = absurd (name_literal f s (literal.Integer n) (sym q ∙ p))
one_expr (Int n) (Add a b) tree (s, p) (s', l, r, q, _, _) = absurd (no_literal _ s' s l r tree (literal.Integer n) q p)
one_expr (Str t) (Int n) tree (s, p) (s', q) = absurd (no_string n t (same_literal s' s _ _ (sym q ∙ p)))
one_expr (Str t) (Str t') tree (s, p) (s', q) = ap Str (same_string t t' (same_literal s s' _ _ (sym p ∙ q)))
one_expr (Str t) (Var v) tree (s, p) (f, q, _) = absurd (name_literal f s (literal.String t []) (sym q ∙ p))
one_expr (Str t) (Add a b) tree (s, p) (s', l, r, q, _, _) = absurd (no_literal _ s' s l r tree (literal.String t []) q p)
one_expr (Var v) (Int n) tree (f, p, _) (s, q) = absurd (name_literal f s (literal.Integer n) (sym p ∙ q))
one_expr (Var v) (Str t) tree (f, p, _) (s, q) = absurd (name_literal f s (literal.String t []) (sym p ∙ q))
one_expr (Var v) (Var v') tree (f, p, h) (f', q, h') = ap Var (sym h ∙ ap (λ n. n.text) (same_name f f' (sym p ∙ q)) ∙ h')
one_expr (Var v) (Add a b) tree (f, p, _) (s, l, r, q, _, _) = absurd (name_binary f _ s l r (sym p ∙ q))
one_expr (Add a b) (Int n) tree (s, l, r, p, _, _) (s', q) = absurd (no_literal _ s s' l r tree (literal.Integer n) p q)
one_expr (Add a b) (Str t) tree (s, l, r, p, _, _) (s', q) = absurd (no_literal _ s s' l r tree (literal.String t []) p q)
one_expr (Add a b) (Var v) tree (s, l, r, p, _, _) (f, q, _) = absurd (name_binary f _ s l r (sym q ∙ p))
one_expr (Add a b) (Add c d) tree (s, l, r, p, left, right) (s', l', r', q, left', right') =
    let same = sym p ∙ q in
    ap (λ z. Add z b) (one_expr a c l left (subst (λ t. IsExprOf c t) (sym (same_left _ _ s s' l l' r r' same)) left'))
    ∙ ap (λ z. Add c z) (one_expr b d r right (subst (λ t. IsExprOf d t) (sym (same_right _ _ s s' l l' r r' same)) right'))

-- ---- and of one statement

same_list : (f f' : Tree) (p p' : Span × List Argument) → ◌≡◌ {A = Layer} (Expr-F.Call f p) (Expr-F.Call f' p') → p ≡ p'
same_list f f' p p' e = cc

same_call_layer : (f f' : Tree) (s s' : Span) (xs xs' : List Argument) → ◌≡◌ {A = Layer} (Expr-F.Call f (s, xs)) (Expr-F.Call f' (s', xs')) → xs ≡ xs'
same_call_layer f f' s s' xs xs' e = ap (λ (p : Span × List Argument). p.1) (same_list f f' (s, xs) (s', xs') e)

out_call : (f : Tree) (s : Span) (xs : List Argument) → out-Expr (x.Call f (s, xs)) ≡ Expr-F.Call f (s, xs)
out_call f s xs = ap out-Expr (sym (x.rolls-Call f (s, xs))) ∙ out-roll-Expr (Expr-F.Call f (s, xs))

same_first : (a b : Argument) → (a ∷ []) ≡ (b ∷ []) → a ≡ b
same_first a b e = cc

one_printed : (v v' tree : Tree) → IsPrintOf v tree → IsPrintOf v' tree → v ≡ v'
one_printed v v' tree (f, s, p, _) (f', s', q, _) =
    ap (λ a. a.value) (same_first _ _ (same_call_layer f f' s s' _ _ (sym (out_call f s _) ∙ (ap out-Expr (sym p ∙ q) ∙ out_call f' s' _))))

same_expr : (t t' : Tree) → s.Expr t ≡ s.Expr t' → t ≡ t'
same_expr t t' e = cc

local_name : (a a' : Span) (b b' : Binding) (n n' : Name) (t t' : Option «Type») (v v' : Tree) → s.Local a b n t v ≡ s.Local a' b' n' t' v' → n ≡ n'
local_name a a' b b' n n' t t' v v' e = cc

local_value : (a a' : Span) (b b' : Binding) (n n' : Name) (t t' : Option «Type») (v v' : Tree) → s.Local a b n t v ≡ s.Local a' b' n' t' v' → v ≡ v'
local_value a a' b b' n n' t t' v v' e = cc

local_expr : (a : Span) (b : Binding) (n : Name) (t : Option «Type») (v : Tree) (c : Tree) → s.Local a b n t v ≡ s.Expr c → ⊥
local_expr a b n t v c e = cc

pub one_stmt : (x y : Stmt) (tree : StmtTree) → IsStmtOf x tree → IsStmtOf y tree → x ≡ y
one_stmt (Let n e) (Let m d) tree (a, f, v, p, h, of) (a', f', v', q, h', of') =
    let same = sym p ∙ q in
    ap (λ z. Let z e) (sym h ∙ ap (λ z. z.text) (local_name a a' _ _ f f' _ _ v v' same) ∙ h')
    ∙ ap (λ z. Let m z) (one_expr e d v of (subst (λ t. IsExprOf d t) (sym (local_value a a' _ _ f f' _ _ v v' same)) of'))
one_stmt (Let n e) (Print d) tree (a, f, v, p, _, _) (c, w, q, _, _) = absurd (local_expr a _ f _ v c (sym p ∙ q))
one_stmt (Print d) (Let n e) tree (c, w, q, _, _) (a, f, v, p, _, _) = absurd (local_expr a _ f _ v c (sym p ∙ q))
one_stmt (Print e) (Print d) tree (c, v, p, is, of) (c', v', q, is', of') =
    let same = same_expr c c' (sym p ∙ q) in
    ap Print (one_expr e d v of (subst (λ t. IsExprOf d t) (sym (one_printed v v' c is (subst (λ t. IsPrintOf v' t) (sym same) is'))) of'))

-- no argument of a `print` stands there
pub no_print : (tree : StmtTree) (call : Tree) → tree ≡ s.Expr call → ((value : Tree) → IsPrintOf value call → ⊥) → (stmt : Stmt) → IsStmtOf stmt tree → ⊥
no_print tree call is none (Let n e) (a, f, v, p, _, _) = local_expr a _ f _ v call (sym p ∙ is)
no_print tree call is none (Print e) (c, v, p, print, _) = none v (subst (λ t. IsPrintOf v t) (same_expr c call (sym p ∙ is)) print)

-- ---- the statements of a body

-- these statements are those of the trees up to `rest`, after which `k` variables are declared
pub record ReadSoFar (trees rest : List StmtTree) (at k : ℕ) (body : List Stmt) : Type 0 where
  pub few : k ≤ at
  pub goes : (more : List Stmt) → AreThin k more rest → AreThin 0 (body ++ more) trees
  pub only : (whole : List Stmt) → AreThin 0 whole trees → (more : List Stmt) × (whole ≡ body ++ more) × AreThin k more rest

pub read_none : (trees : List StmtTree) → ReadSoFar trees trees 0 0 []
read_none trees = record { few = omega arith; goes = λ more p. p; only = λ whole p. (whole, refl, p) }

lets_few : (k at : ℕ) (stmt : Stmt) → k ≤ at → lets_after k stmt ≤ at + 1
lets_few k at (Let n e) h = omega (arith, h)
lets_few k at (Print e) h = omega (arith, h)

pub read_more : (trees rest : List StmtTree) (tree : StmtTree) (at k : ℕ) (body : List Stmt) (stmt : Stmt) → ReadSoFar trees (tree ∷ rest) at k body → IsStmtOf stmt tree → IsThinStmt k stmt
    → ReadSoFar trees rest (at + 1) (lets_after k stmt) (body ++ stmt ∷ [])
read_more trees rest tree at k body stmt so_far of thin = record {
  few = lets_few k at stmt so_far.few;
  goes = λ more p. subst (λ b. AreThin 0 b trees) (sym (append_assoc body (stmt ∷ []) more)) (so_far.goes (stmt ∷ more) ((of, thin), p));
  only = λ whole p. split whole (so_far.only whole p);
}
  where
    split : (whole : List Stmt) → (more : List Stmt) × (whole ≡ body ++ more) × AreThin k more (tree ∷ rest)
        → (more : List Stmt) × (whole ≡ (body ++ stmt ∷ []) ++ more) × AreThin (lets_after k stmt) more rest
    split whole ([], e, p) = absurd p
    split whole (other ∷ more, e, p) =
        let same = one_stmt other stmt tree p.0.0 of in
        (more, e ∙ ap (λ z. body ++ z ∷ more) same ∙ sym (append_assoc body (stmt ∷ []) more), subst (λ z. AreThin (lets_after k z) more rest) same p.1)

pub read_stops : (trees rest : List StmtTree) (tree : StmtTree) (at k : ℕ) (body : List Stmt) → ReadSoFar trees (tree ∷ rest) at k body → ((stmt : Stmt) → IsStmtOf stmt tree → IsThinStmt k stmt → ⊥)
    → (whole : List Stmt) → AreThin 0 whole trees → ⊥
read_stops trees rest tree at k body so_far none whole p = stop (so_far.only whole p)
  where
    stop : (more : List Stmt) × (whole ≡ body ++ more) × AreThin k more (tree ∷ rest) → ⊥
    stop ([], e, p) = p
    stop (other ∷ more, e, p) = none other p.0.0 p.0.1

pub read_all : (trees : List StmtTree) (at k : ℕ) (body : List Stmt) → ReadSoFar trees [] at k body → AreThin 0 body trees
read_all trees at k body so_far = subst (λ b. AreThin 0 b trees) (append-nil body) (so_far.goes [] tt)

-- what is left from an index on, where there is something
pub left_at : (trees : List StmtTree) (at : ℕ) (tree : StmtTree) → at < length trees → tree ≡ get_or trees at tree → drop at trees ≡ tree ∷ drop (at + 1) trees
left_at trees at tree lt is =
    let next : suc at ≡ at + 1 = omega arith in
    drop-cons trees at tree lt ∙ ap (λ t. t ∷ drop (suc at) trees) (sym is) ∙ ap (λ n. tree ∷ drop n trees) next

left_none : (trees : List StmtTree) (at : ℕ) → length trees ≤ at → drop at trees ≡ []
left_none [] zero h = refl
left_none [] (suc at) h = refl
left_none (t ∷ trees) zero h = absurd (omega (arith, h))
left_none (t ∷ trees) (suc at) h = left_none trees at (omega (arith, h))

-- the same, as the loop over the trees has it
abbrev pub ReadUpTo : List StmtTree → ℕ → ℕ → List Stmt → Type 0
ReadUpTo trees at k body = ReadSoFar trees (drop at trees) at k body

read_here : (trees rest rest' : List StmtTree) (at k : ℕ) (body : List Stmt) → rest ≡ rest' → ReadSoFar trees rest at k body → ReadSoFar trees rest' at k body
read_here trees rest rest' at k body e so_far = subst (λ r. ReadSoFar trees r at k body) e so_far

pub at_more : (trees : List StmtTree) (at k k' : ℕ) (tree : StmtTree) (body body' : List Stmt) (stmt : Stmt) → ReadUpTo trees at k body → at < length trees → tree ≡ get_or trees at tree
    → IsStmtOf stmt tree → IsThinStmt k stmt → k' ≡ lets_after k stmt → body' ≡ body ++ stmt ∷ [] → ReadUpTo trees (at + 1) k' body'
at_more trees at k k' tree body body' stmt so_far lt is of thin ek eb =
    subst (λ n. ReadUpTo trees (at + 1) n body') (sym ek) (subst (λ b. ReadUpTo trees (at + 1) (lets_after k stmt) b) (sym eb)
    (read_more trees (drop (at + 1) trees) tree at k body stmt (read_here trees _ _ at k body (left_at trees at tree lt is) so_far) of thin))

pub at_stop : (trees : List StmtTree) (at k : ℕ) (tree : StmtTree) (body : List Stmt) → ReadUpTo trees at k body → at < length trees → tree ≡ get_or trees at tree
    → ((stmt : Stmt) → IsStmtOf stmt tree → IsThinStmt k stmt → ⊥) → (whole : List Stmt) → AreThin 0 whole trees → ⊥
at_stop trees at k tree body so_far lt is none = read_stops trees (drop (at + 1) trees) tree at k body (read_here trees _ _ at k body (left_at trees at tree lt is) so_far) none

pub at_end : (trees : List StmtTree) (at k : ℕ) (body : List Stmt) → ReadUpTo trees at k body → length trees ≤ at → AreThin 0 body trees
at_end trees at k body so_far h = read_all trees at k body (read_here trees _ _ at k body (left_none trees at h) so_far)

pub some_of : {A : Type 0} (N : Type 0) (S : A → Type 0) (o : Option A) (x : A) → MatchOption o N S → o ≡ Some x → S x
some_of {A} N S o x h e = subst (λ (o : Option A). MatchOption o N S) e h

pub body_push : (body body' : List c.Stmt) (stmt : c.Stmt) → body' ≡ body ++ stmt ∷ [] → body_of body' ≡ body_of body ++ stmt_of stmt ∷ []
body_push body body' stmt e = ap body_of e ∙ map_push stmt_of body stmt

-- ---- the main

one_of : (ps : List Parameter) (p : Parameter) → 1 ≤ length ps → length ps < 2 → p ≡ get_or ps 0 p → ps ≡ p ∷ []
one_of [] p some few is = absurd (omega (arith, some))
one_of (q ∷ []) p some few is = ap (λ z. z ∷ []) (sym is)
one_of (q ∷ r ∷ ps) p some few is = absurd (omega (arith, few))

head_of : (p q : Parameter) → (p ∷ []) ≡ (q ∷ []) → p ≡ q
head_of p q e = cc

pub takes_one : (ps : List Parameter) (p : Parameter) (b : Bool) → 1 ≤ length ps → length ps < 2 → p ≡ get_or ps 0 p → (IsTrue b ↔ IsSystem p) → (IsTrue b ↔ TakesSystem ps)
takes_one ps p b some few is iff =
    let e = one_of ps p some few is in
    (λ t. (p, e, iff.0 t), λ (q, same, system). iff.1 (subst IsSystem (head_of q p (sym same ∙ e)) system))

pub same_func : (f g : Func) → (d.Func f ∷ []) ≡ (d.Func g ∷ []) → f ≡ g
same_func f g e = cc

no_truth : (b : Bool) → b ≡ false → b ≡ true → ⊥
no_truth b p q = cc

abbrev pub Tells : Bool → List Parameter → Type 0
Tells b parameters = IsTrue b ↔ TakesSystem parameters

pub tells : (b : Bool) (ps ps' : List Parameter) → ps ≡ ps' → Tells b ps → Tells b ps'
tells b ps ps' e h = subst (λ ps. Tells b ps) e h

pub no_system : (tree : File) (func : Func) (b : Bool) → tree.decls ≡ d.Func func ∷ [] → b ≡ false → Tells b func.signature.parameters → (body : List StmtTree) → HasMain body tree → ⊥
no_system tree func b only e iff body (main, is, form, system, rest) =
    no_truth b e (iff.1 (subst (λ (f : Func). TakesSystem f.signature.parameters) (same_func main func (sym is ∙ only)) system))

pub has_main : (tree : File) (func : Func) (b c : Bool) (body : List StmtTree) → tree.decls ≡ d.Func func ∷ [] → b ≡ true → (IsTrue b ↔ IsMain func.signature) → c ≡ true → Tells c func.signature.parameters → body ≡ func.body → HasMain body tree
has_main tree func b c body only e iff e' iff' same = (func, only, iff.0 e, iff'.0 e', sym same)
