-- Patterns and conditions of alike texts are alike.
use Rattle.std.proofs.Common.{false, inl, inr, map, refl, ap}
use Rattle.sw_lex.specs.declared.token.TokenKind.TheVariants as k
use Rattle.sw_grammar.specs.Grammar.{maybe}
use Rattle.sw_grammar.specs.Grammar as g
use Rattle.sw_tree.specs.Erased.{erase_name, erase_expr, erase_type, erase_bind, erase_pattern, erase_catch_pattern, erase_condition}
use Rattle.sw_tree.specs.declared.stmt.Condition.TheVariants as c
use Rattle.sw_syntax.specs.Values.{binding_of}
use Rattle.sw_syntax.specs.Nonterminals.{Condition, Pattern, Caught}
use Rattle.sw_syntax.specs.Parts.{◌·◌, tok, name, after, any, whole_expr, whole_type}
use Rattle.sw_syntax.specs.Grammar.{production, bind, binds, annotation, initial, conds}
use Rattle.sw_places.proofs.NearParts.{Keeps, meet, names, options, behinds, somes, anys, parens, behind_near}
use Rattle.sw_places.proofs.NearExpr.{near_literal}

pub near_annotation : Keeps annotation erase_type
near_annotation = behinds (tok k.Colon) whole_type erase_type (λ x y p. p)

pub near_initial : Keeps initial erase_expr
near_initial = behinds (tok k.Assign) whole_expr erase_expr (λ x y p. p)

-- ---- conditions

pub near_cond : Keeps (production false Condition) erase_condition
near_cond x y (inl (v, w, p, ex, ey)) = meet erase_condition ex ey (ap c.Expr p)
near_cond x y (inr ((f, (n, v)), (g, (m, w)), (p, (q, r)), ex, ey)) =
    meet erase_condition ex ey (let a = ap binding_of p.0 in let b = names n m q in let d = options initial erase_expr near_initial v w r in cc)

pub near_conds : Keeps conds (map erase_condition)
near_conds = somes (g.nonterminal Condition) erase_condition (λ x y p. p)

-- ---- patterns

near_bind : Keeps bind erase_bind
near_bind x y (inl (v, w, p, ex, ey)) = meet erase_bind ex ey (let a = behinds (tok k.Let) name erase_name names v w p in cc)
near_bind x y (inr (v, w, p, ex, ey)) = meet erase_bind ex ey refl

near_binds : Keeps binds (map erase_bind)
near_binds = parens (any bind) (map erase_bind) (anys bind erase_bind near_bind)

pub near_pattern : Keeps (production false Pattern) erase_pattern
near_pattern x y (inl (v, w, p, ex, ey)) = meet erase_pattern ex ey refl
near_pattern x y (inr (inl (v, w, p, ex, ey))) = meet erase_pattern ex ey (let a = near_literal whole_expr (λ x y p. p) v w p in cc)
near_pattern x y (inr (inr (inl (v, w, p, ex, ey)))) = meet erase_pattern ex ey refl
near_pattern x y (inr (inr (inr ((of, (at, (n, v))), (of', (at', (m, w))), (p, (q, (r, s))), ex, ey)))) =
    meet erase_pattern ex ey (let a = options name erase_name names of of' p in let b = names n m r in let d = options binds (map erase_bind) near_binds v w s in cc)

pub near_catch_pattern : Keeps (production false Caught) erase_catch_pattern
near_catch_pattern x y (inl (v, w, p, ex, ey)) =
    meet erase_catch_pattern ex ey (let q = behind_near (tok k.Let) (name · after (tok k.As) name) v w p in
    let a = names v.0 w.0 q.0 in let b = behinds (tok k.As) name erase_name names v.1 w.1 q.1 in cc)
near_catch_pattern x y (inr ((n, v), (m, w), (p, q), ex, ey)) =
    meet erase_catch_pattern ex ey (let r = behind_near (tok k.Dot) (name · maybe binds) v w q in
    let a = names n m p in let b = names v.0 w.0 r.0 in let d = options binds (map erase_bind) near_binds v.1 w.1 r.1 in cc)
