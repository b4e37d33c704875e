-- Types and expressions of alike texts are alike.
use Rattle.std.proofs.Common.{◌≡◌, ℕ, zero, suc, Bool, true, false, inl, inr, List, [], ◌∷◌, map, Option, Some, None, refl, sym, ap, ◌∙◌}
use Rattle.sw_base.specs.declared.ids.Span.{Span}
use Rattle.sw_lex.specs.declared.token.TokenKind.TheVariants as k
use Rattle.sw_grammar.specs.Grammar.{terminal, maybe, many, counts}
use Rattle.sw_grammar.specs.Grammar as g
use Rattle.sw_grammar.proofs.Near.{LikeOption, LikeList}
use Rattle.sw_tree.specs.Erased.{option_map, erase_name, erase_expr, erase_type, erase_literal}
use Rattle.sw_tree.specs.declared.expr.Name.{Name}
use Rattle.sw_tree.specs.declared.expr.Literal.{Literal}
use Rattle.sw_tree.specs.declared.expr.Literal.TheVariants as literal
use Rattle.sw_tree.specs.declared.expr.TryForm.TheVariants as try_form
use Rattle.sw_tree.specs.declared.expr.Expr.{Expr as ExprTree}
use Rattle.sw_tree.specs.declared.expr.Expr.TheVariants as e
use Rattle.sw_tree.specs.declared.types.«Type».{«Type» as TypeTree}
use Rattle.sw_tree.specs.declared.types.«Type».TheVariants as t
use Rattle.sw_syntax.specs.Tokens.{Face}
use Rattle.sw_syntax.specs.Tests.{is_joined_question, is_ternary}
use Rattle.sw_syntax.specs.Values.{or_none, or_some, prefix_of, binary_of, bool_of, pieces_of, integer_of, to_left, to_right, ternary_of, with_forms, awaited, tried, optional_of, named}
use Rattle.sw_syntax.specs.Nonterminals.{TypeExpr, BaseType, Expr, Ternary, Binary, Prefix, Postfix, PostfixForm, Argument, Primary, Elements}
use Rattle.sw_syntax.specs.Parts.{P, ◌·◌, tok, name, after}
use Rattle.sw_syntax.specs.Grammar.{production, leftward, literal_with, try_mark}
use Rattle.sw_places.specs.Places.{Alike, erase_argument}
use Rattle.sw_places.proofs.ErasedExpr
use Rattle.sw_places.proofs.ErasedExpr.{erase_piece}
use Rattle.sw_places.proofs.ErasedStmt
use Rattle.sw_places.proofs.NearParts.{NearFace, Near, Keeps, put, meet, names, options, presents, behinds, anys}

-- ---- types

optional_same : (fs gs : List Face) (x y : TypeTree) → LikeList NearFace fs gs → erase_type x ≡ erase_type y → erase_type (optional_of x fs) ≡ erase_type (optional_of y gs)
optional_same [] [] x y p h = h
optional_same [] (g ∷ gs) x y p h = elim p [ ]
optional_same (f ∷ fs) [] x y p h = elim p [ ]
optional_same (f ∷ fs) (g ∷ gs) x y p h = optional_same fs gs (t.Optional x) (t.Optional y) p.1 (ErasedStmt.erased-Optional-type x ∙ ap t.Optional h ∙ sym (ErasedStmt.erased-Optional-type y))

pub near_type : Keeps (production false TypeExpr) erase_type
near_type x y ((v, fs), (w, gs), (p, q), ex, ey) = meet erase_type ex ey (optional_same fs gs v w q p)

named_same : (x y : Name) (v w : Option Name) → erase_name x ≡ erase_name y → option_map erase_name v ≡ option_map erase_name w → erase_type (named x v) ≡ erase_type (named y w)
named_same x y None None p q = ErasedStmt.erased-Name-type x ∙ ap t.Name p ∙ sym (ErasedStmt.erased-Name-type y)
named_same x y None (Some w) p q = cc
named_same x y (Some v) None p q = cc
named_same x y (Some v) (Some w) p q = let a = ErasedStmt.erased-Member-type x v in let b = ErasedStmt.erased-Member-type y w in cc

pub near_base : Keeps (production false BaseType) erase_type
near_base x y (inl ((n, o), (m, r), (p, q), ex, ey)) = meet erase_type ex ey (named_same n m o r (names n m p) (options (after (tok k.Dot) name) erase_name (behinds (tok k.Dot) name erase_name names) o r q))
near_base x y (inr (inl (v, w, p, ex, ey))) = meet erase_type ex ey (let a = ErasedStmt.erased-Array-type v.0 v.1.0 in let b = ErasedStmt.erased-Array-type w.0 w.1.0 in let q = p.1.0 in cc)
near_base x y (inr (inr (inl (v, w, p, ex, ey)))) = meet erase_type ex ey (let a = ErasedStmt.erased-Any-type v.0 v.1 in let b = ErasedStmt.erased-Any-type w.0 w.1 in let q = names v.1 w.1 p.1 in cc)
near_base x y (inr (inr (inr (v, w, p, ex, ey)))) = meet erase_type ex ey (ErasedStmt.erased-Void-type v.0 ∙ sym (ErasedStmt.erased-Void-type w.0))

-- ---- literals

pieces_same : (inner : P ExprTree) → Keeps inner erase_expr → (xs ys : List (Face × ExprTree)) (x y : ExprTree) (f g : Face)
    → Near (many (tok k.StringMiddle · inner)) xs ys → erase_expr x ≡ erase_expr y → f.text ≡ g.text → map erase_piece (pieces_of x xs f) ≡ map erase_piece (pieces_of y ys g)
pieces_same inner keeps [] [] x y f g p e h = cc
pieces_same inner keeps [] (w ∷ ys) x y f g p e h = elim p [ ]
pieces_same inner keeps (v ∷ xs) [] x y f g p e h = elim p [ ]
pieces_same inner keeps (v ∷ xs) (w ∷ ys) x y f g (p, q) e h =
    let a = p.0.1 in let b = pieces_same inner keeps xs ys v.1 w.1 f g q (keeps v.1 w.1 p.1) h in cc

pub near_literal : (inner : P ExprTree) → Keeps inner erase_expr → Keeps (literal_with inner) (λ x. erase_literal x.1)
near_literal inner keeps x y (inl (f, g, p, ex, ey)) = meet (λ (x : Span × Literal). erase_literal x.1) ex ey (let h = p.1 in ap (λ text. erase_literal (integer_of (record { kind = f.kind; text = text; span = f.span }))) h)
near_literal inner keeps x y (inr (inl (f, g, p, ex, ey))) = meet (λ (x : Span × Literal). erase_literal x.1) ex ey (ap (λ kind. erase_literal (literal.Bool (bool_of kind))) p.0)
near_literal inner keeps x y (inr (inr (inl (f, g, p, ex, ey)))) = meet (λ (x : Span × Literal). erase_literal x.1) ex ey (ap (λ text. erase_literal (literal.String text [])) p.1)
near_literal inner keeps x y (inr (inr (inr ((f, (v, (vs, f'))), (g, (w, (ws, g'))), (p, (q, (r, s))), ex, ey)))) =
    meet (λ (x : Span × Literal). erase_literal x.1) ex ey
    (let a = ErasedExpr.erased-String f.text (pieces_of v vs f') in let b = ErasedExpr.erased-String g.text (pieces_of w ws g') in
    let c = pieces_same inner keeps vs ws v w f' g' r (keeps v w q) s.1 in let d = p.1 in cc)

-- ---- expressions

awaited_same : (L : Span → Span → Type 0) (v w : Option Span) (x y : ExprTree) → LikeOption L v w → erase_expr x ≡ erase_expr y → erase_expr (awaited v x) ≡ erase_expr (awaited w y)
awaited_same L None None x y p h = h
awaited_same L None (Some w) x y p h = elim p [ ]
awaited_same L (Some v) None x y p h = elim p [ ]
awaited_same L (Some v) (Some w) x y p h = let a = ErasedExpr.erased-Await v x in let b = ErasedExpr.erased-Await w y in cc

tried_same : (v w : Option (Span × Bool)) (x y : ExprTree) → Near (maybe try_mark) v w → erase_expr x ≡ erase_expr y → erase_expr (tried v x) ≡ erase_expr (tried w y)
tried_same None None x y p h = h
tried_same None (Some w) x y p h = elim p [ ]
tried_same (Some v) None x y p h = elim p [ ]
tried_same (Some (at, v)) (Some (at', w)) x y p h = go v w (presents (terminal is_joined_question) v w p.1)
  where
    go : (v w : Bool) → v ≡ w → erase_expr (tried (Some (at, v)) x) ≡ erase_expr (tried (Some (at', w)) y)
    go false false q = let a = ErasedExpr.erased-Try try_form.Plain at x in let b = ErasedExpr.erased-Try try_form.Plain at' y in cc
    go false true q = cc
    go true false q = cc
    go true true q = let a = ErasedExpr.erased-Try try_form.Optional at x in let b = ErasedExpr.erased-Try try_form.Optional at' y in cc

pub near_expr : Keeps (production false Expr) erase_expr
near_expr x y ((v, (o, a)), (w, (r, b)), (p, (q, s)), ex, ey) = meet erase_expr ex ey (tried_same v w (awaited o a) (awaited r b) p (awaited_same _ o r a b q s))

-- the two branches of a ternary
abbrev erase_both : ExprTree × ExprTree → ExprTree × ExprTree
erase_both x = (erase_expr x.0, erase_expr x.1)

near_branches : Keeps (g.nonterminal Expr · after (tok k.Colon) (g.nonterminal Expr)) erase_both
near_branches x y (p, q) = let r = behinds (tok k.Colon) (g.nonterminal Expr) erase_expr (λ x y p. p) x.1 y.1 q in cc

ternary_same : (x y : ExprTree) (v w : Option (ExprTree × ExprTree)) → erase_expr x ≡ erase_expr y → option_map erase_both v ≡ option_map erase_both w → erase_expr (ternary_of x v) ≡ erase_expr (ternary_of y w)
ternary_same x y None None p q = p
ternary_same x y None (Some w) p q = cc
ternary_same x y (Some v) None p q = cc
ternary_same x y (Some v) (Some w) p q =
    let a = ErasedExpr.erased-Ternary x v.0 v.1 in let b = ErasedExpr.erased-Ternary y w.0 w.1 in
    let c = some_first _ _ q in let d = ap (λ (z : ExprTree × ExprTree). z.0) c in let f = ap (λ (z : ExprTree × ExprTree). z.1) c in cc
  where
    some_first : (a b : ExprTree × ExprTree) → Some a ≡ Some b → a ≡ b
    some_first a b h = cc

pub near_tern : Keeps (production false Ternary) erase_expr
near_tern x y ((v, a), (w, b), (p, q), ex, ey) =
    meet erase_expr ex ey (ternary_same v w a b p
    (options (after (counts (terminal is_ternary)) (g.nonterminal Expr · after (tok k.Colon) (g.nonterminal Expr))) erase_both
    (behinds (counts (terminal is_ternary)) (g.nonterminal Expr · after (tok k.Colon) (g.nonterminal Expr)) erase_both near_branches) a b q))

-- ---- binary marks

-- a mark and its operand
abbrev Operands : Face × ExprTree → Face × ExprTree → Type 0
Operands v w = NearFace v.0 w.0 × (erase_expr v.1 ≡ erase_expr w.1)

binary_same : (v w : Face × ExprTree) (x y : ExprTree) → Operands v w → erase_expr x ≡ erase_expr y
    → erase_expr (e.Binary (binary_of v.0.kind) v.0.span (x, v.1)) ≡ erase_expr (e.Binary (binary_of w.0.kind) w.0.span (y, w.1))
binary_same v w x y p h =
    let a = ErasedExpr.erased-Binary (binary_of v.0.kind) v.0.span x v.1 in let b = ErasedExpr.erased-Binary (binary_of w.0.kind) w.0.span y w.1 in
    let c = ap binary_of p.0.0 in let d = p.1 in cc

left_same : (vs ws : List (Face × ExprTree)) (x y : ExprTree) → LikeList Operands vs ws → erase_expr x ≡ erase_expr y → erase_expr (to_left x vs) ≡ erase_expr (to_left y ws)
left_same [] [] x y p h = h
left_same [] (w ∷ ws) x y p h = elim p [ ]
left_same (v ∷ vs) [] x y p h = elim p [ ]
left_same (v ∷ vs) (w ∷ ws) x y (p, q) h =
    left_same vs ws (e.Binary (binary_of v.0.kind) v.0.span (x, v.1)) (e.Binary (binary_of w.0.kind) w.0.span (y, w.1)) q (binary_same v w x y p h)

right_same : (v w : Option (Face × ExprTree)) (x y : ExprTree) → LikeOption Operands v w → erase_expr x ≡ erase_expr y → erase_expr (to_right x v) ≡ erase_expr (to_right y w)
right_same None None x y p h = h
right_same None (Some w) x y p h = elim p [ ]
right_same (Some v) None x y p h = elim p [ ]
right_same (Some v) (Some w) x y p h = binary_same v w x y p h

near_left : (n : ℕ) → Keeps (leftward false n) erase_expr
near_left n x y ((v, vs), (w, ws), (p, q), ex, ey) = meet erase_expr ex ey (left_same vs ws v w q p)

pub near_bin : (n : ℕ) → Keeps (production false (Binary n)) erase_expr
near_bin zero x y p = near_left 0 x y p
near_bin (suc zero) x y p = near_left 1 x y p
near_bin (suc (suc zero)) x y ((v, vs), (w, ws), (p, q), ex, ey) = meet erase_expr ex ey (right_same vs ws v w q p)
near_bin (suc (suc (suc zero))) x y ((v, vs), (w, ws), (p, q), ex, ey) = meet erase_expr ex ey (right_same vs ws v w q p)
near_bin (suc (suc (suc (suc zero)))) x y p = near_left 4 x y p
near_bin (suc (suc (suc (suc (suc zero))))) x y p = near_left 5 x y p
near_bin (suc (suc (suc (suc (suc (suc n)))))) x y p = p

-- ---- operands

pub near_prefix : Keeps (production false Prefix) erase_expr
near_prefix x y (inl (v, w, p, ex, ey)) =
    meet erase_expr ex ey (let a = ErasedExpr.erased-Prefix (prefix_of v.0.kind) v.0.span v.1 in let b = ErasedExpr.erased-Prefix (prefix_of w.0.kind) w.0.span w.1 in
    let c = ap prefix_of p.0.0 in let d = p.1 in cc)
near_prefix x y (inr p) = p

forms_same : (vs ws : List (ExprTree → ExprTree)) (x y : ExprTree) → LikeList (Alike PostfixForm) vs ws → erase_expr x ≡ erase_expr y → erase_expr (with_forms x vs) ≡ erase_expr (with_forms y ws)
forms_same [] [] x y p h = h
forms_same [] (w ∷ ws) x y p h = elim p [ ]
forms_same (v ∷ vs) [] x y p h = elim p [ ]
forms_same (v ∷ vs) (w ∷ ws) x y (p, q) h = forms_same vs ws (v x) (w y) q (p x y h)

pub near_post : Keeps (production false Postfix) erase_expr
near_post x y ((v, vs), (w, ws), (p, q), ex, ey) = meet erase_expr ex ey (forms_same vs ws v w q p)

pub near_form : (x y : ExprTree → ExprTree) → Near (production false PostfixForm) x y → Alike PostfixForm x y
near_form x y (inl (v, w, p, ex, ey)) = put (Alike PostfixForm) ex ey (λ base other h.
    let a = ErasedExpr.erased-Member base v in let b = ErasedExpr.erased-Member other w in let c = behinds (counts (tok k.Dot)) name erase_name names v w p in cc)
near_form x y (inr (inl (v, w, p, ex, ey))) = put (Alike PostfixForm) ex ey (λ base other h.
    let a = ErasedExpr.erased-Call base v.0.span v.1.0 in let b = ErasedExpr.erased-Call other w.0.span w.1.0 in let c = anys (g.nonterminal Argument) erase_argument (λ x y p. p) v.1.0 w.1.0 p.1.0 in cc)
near_form x y (inr (inr (inl (v, w, p, ex, ey)))) = put (Alike PostfixForm) ex ey (λ base other h.
    let a = ErasedExpr.erased-Index base v.0.span v.1.0 in let b = ErasedExpr.erased-Index other w.0.span w.1.0 in let c = p.1.0 in cc)
near_form x y (inr (inr (inr (f, g, p, ex, ey)))) = put (Alike PostfixForm) ex ey (λ base other h.
    let a = ErasedExpr.erased-Force base f.span in let b = ErasedExpr.erased-Force other g.span in cc)

pub near_arg : Keeps (production false Argument) erase_argument
near_arg x y (inl (v, w, p, ex, ey)) = meet erase_argument ex ey (let a = behinds (tok k.Colon) (g.nonterminal Expr) erase_expr (λ x y p. p) v.1 w.1 p.1 in let b = p.0.1 in cc)
near_arg x y (inr (v, w, p, ex, ey)) = meet erase_argument ex ey (let h : erase_expr v ≡ erase_expr w = p in cc)

none_same : (v w : Option (List ExprTree)) → Near (maybe (g.nonterminal Elements)) v w → map erase_expr (or_none v) ≡ map erase_expr (or_none w)
none_same None None p = refl
none_same None (Some w) p = elim p [ ]
none_same (Some v) None p = elim p [ ]
none_same (Some v) (Some w) p = p

pub near_prim : Keeps (production false Primary) erase_expr
near_prim x y (inl (v, w, p, ex, ey)) = meet erase_expr ex ey (let a = ErasedExpr.erased-Literal v.0 v.1 in let b = ErasedExpr.erased-Literal w.0 w.1 in let c = near_literal (g.nonterminal Expr) (λ x y p. p) v w p in cc)
near_prim x y (inr (inl (v, w, p, ex, ey))) = meet erase_expr ex ey (ErasedExpr.erased-Nil v ∙ sym (ErasedExpr.erased-Nil w))
near_prim x y (inr (inr (inl (v, w, p, ex, ey)))) = meet erase_expr ex ey (let a = ErasedExpr.erased-Name v in let b = ErasedExpr.erased-Name w in let c = names v w p in cc)
near_prim x y (inr (inr (inr (inl (v, w, p, ex, ey))))) = meet erase_expr ex ey (ErasedExpr.erased-SelfValue v ∙ sym (ErasedExpr.erased-SelfValue w))
near_prim x y (inr (inr (inr (inr (inl (v, w, p, ex, ey)))))) = meet erase_expr ex ey (let a = ErasedExpr.erased-Implicit v.0 v.1 in let b = ErasedExpr.erased-Implicit w.0 w.1 in let c = names v.1 w.1 p.1 in cc)
near_prim x y (inr (inr (inr (inr (inr (inl (v, w, p, ex, ey))))))) = meet erase_expr ex ey (let a = ErasedExpr.erased-Paren v.0 v.1.0 in let b = ErasedExpr.erased-Paren w.0 w.1.0 in let c = p.1.0 in cc)
near_prim x y (inr (inr (inr (inr (inr (inr (v, w, p, ex, ey))))))) =
    meet erase_expr ex ey (let a = ErasedExpr.erased-Array v.0 (or_none v.1.0) in let b = ErasedExpr.erased-Array w.0 (or_none w.1.0) in let c = none_same v.1.0 w.1.0 p.1.0 in cc)

pub near_elements : Keeps (production false Elements) (map erase_expr)
near_elements x y ((v, vs), (w, ws), (p, q), ex, ey) = meet (map erase_expr) ex ey (let c = none_same (or_some vs) (or_some ws) (more vs ws q) in cc)
  where
    more : (vs ws : Option (Option (List ExprTree))) → Near (maybe (after (tok k.Comma) (maybe (g.nonterminal Elements)))) vs ws → Near (maybe (g.nonterminal Elements)) (or_some vs) (or_some ws)
    more None None q = tt
    more None (Some w) q = elim q [ ]
    more (Some v) None q = elim q [ ]
    more (Some v) (Some w) (a, b, p, ex, ey) = put (λ v w. Near (maybe (g.nonterminal Elements)) v w) ex ey p.1
