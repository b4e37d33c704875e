-- Statements of alike texts are alike.
use Rattle.std.proofs.Common.{◌≡◌, false, inl, inr, map, Option, Some, None, refl, sym, ap, ◌∙◌}
use Rattle.sw_lex.specs.declared.token.TokenKind.TheVariants as k
use Rattle.sw_grammar.specs.Grammar.{terminal, maybe, counts, gives}
use Rattle.sw_grammar.specs.Grammar as g
use Rattle.sw_tree.specs.Erased.{nowhere, option_map, erase_name, erase_expr, erase_type, erase_pattern, erase_catch_pattern, erase_arm_label, erase_range_end, erase_stmt}
use Rattle.sw_tree.specs.declared.expr.Expr.{Expr as ExprTree}
use Rattle.sw_tree.specs.declared.stmt.ArmLabel.TheVariants as arm
use Rattle.sw_tree.specs.declared.stmt.Branch.{Branch}
use Rattle.sw_tree.specs.declared.stmt.RangeEnd.{RangeEnd}
use Rattle.sw_tree.specs.declared.stmt.Stmt.{Stmt}
use Rattle.sw_tree.specs.declared.stmt.Stmt.TheVariants as s
use Rattle.sw_syntax.specs.Tokens.{Face}
use Rattle.sw_syntax.specs.Tests.{is_else, is_any_else, is_else_if, is_assignment, is_range}
use Rattle.sw_syntax.specs.Values.{or_none, assign_of, binding_of, range_of}
use Rattle.sw_syntax.specs.Forms.{range_end, or_empty, ahead, only_arms, assigned, else_if, else_block}
use Rattle.sw_syntax.specs.Nonterminals.{Context, InBlock, InArm, Ending, Open, Closed, Block, Statements, SomeStatements, AfterStatement, AfterReturn, Statement, If, Arms, Pattern, Caught, Body, Branches}
use Rattle.sw_syntax.specs.Parts.{P, ◌·◌, ◌∣◌, tok, name, after, any, whole_expr}
use Rattle.sw_syntax.specs.Grammar.{production, annotation, branch, arm_label, catch, next_stmts}
use Rattle.sw_places.specs.Places.{Alike, AreAlike, erase_arm, erase_branch}
use Rattle.sw_places.proofs.ErasedStmt
use Rattle.sw_places.proofs.ErasedStmt.{erase_catch}
use Rattle.sw_places.proofs.NearParts.{Near, Keeps, put, meet, names, options, lists, behinds, behind_near, braces_near, braces, anys, or_none_lists}
use Rattle.sw_places.proofs.NearPattern.{near_annotation, near_initial, near_conds}

-- ---- bodies

or_empty_alike : (a : P Body) → ((x y : Body) → Near a x y → AreAlike x y) → (x y : Body) → Near (gives or_empty (maybe a)) x y → AreAlike x y
or_empty_alike a keeps x y (None, None, p, ex, ey) = put AreAlike ex ey (refl, refl)
or_empty_alike a keeps x y (None, Some w, p, ex, ey) = elim p [ ]
or_empty_alike a keeps x y (Some v, None, p, ex, ey) = elim p [ ]
or_empty_alike a keeps x y (Some v, Some w, p, ex, ey) = put AreAlike ex ey (keeps v w p)

only_arms_alike : (x y : Body) → Near (gives only_arms (g.nonterminal Arms)) x y → AreAlike x y
only_arms_alike x y (v, w, p, ex, ey) = put AreAlike ex ey (refl, p)

near_next : (at : Context) (ending : Ending) (x y : Body) → Near (next_stmts at ending) x y → AreAlike x y
near_next InBlock ending x y (inl p) = behind_near (tok k.Semicolon) (g.nonterminal (Statements InBlock)) x y p
near_next InBlock ending x y (inr p) = p
near_next InArm ending x y (inl p) = behind_near (tok k.Semicolon) (g.nonterminal (Statements InArm)) x y p
near_next InArm ending x y (inr (inl p)) = p
near_next InArm ending x y (inr (inr p)) = only_arms_alike x y p

ahead_alike : (v w : Stmt) (x y : Body) → erase_stmt v ≡ erase_stmt w → AreAlike x y → AreAlike (ahead v x) (ahead w y)
ahead_alike v w x y e (p, q) = (cc, q)

pub near_block : Keeps (production false Block) (map erase_stmt)
near_block x y (v, w, p, ex, ey) = meet (map erase_stmt) ex ey ((braces_near (g.nonterminal (Statements InBlock)) v w p).0)

pub near_sbody : (at : Context) (x y : Body) → Near (production false (Statements at)) x y → AreAlike x y
near_sbody InBlock x y p = or_empty_alike (g.nonterminal (SomeStatements InBlock)) (λ x y p. p) x y p
near_sbody InArm x y p = or_empty_alike (g.nonterminal (SomeStatements InArm) ∣ gives only_arms (g.nonterminal Arms)) go x y p
  where
    go : (x y : Body) → Near (g.nonterminal (SomeStatements InArm) ∣ gives only_arms (g.nonterminal Arms)) x y → AreAlike x y
    go x y (inl p) = p
    go x y (inr p) = only_arms_alike x y p

pub near_stmts : (at : Context) (x y : Body) → Near (production false (SomeStatements at)) x y → AreAlike x y
near_stmts at x y (inl (v, w, (p, q), ex, ey)) = put AreAlike ex ey (ahead_alike v.0 w.0 v.1 w.1 p q)
near_stmts at x y (inr (inl (v, w, (p, q), ex, ey))) = put AreAlike ex ey (ahead_alike v.0 w.0 v.1 w.1 p q)
near_stmts at x y (inr (inr (v, w, (p, q), ex, ey))) =
    put AreAlike ex ey (ahead_alike (s.Return v.0 v.1.0) (s.Return w.0 w.1.0) v.1.1 w.1.1
    (ErasedStmt.erased-Return v.0 v.1.0 ∙ ap (s.Return nowhere) q.0 ∙ sym (ErasedStmt.erased-Return w.0 w.1.0)) q.1)

pub near_after_stmt : (at : Context) (ending : Ending) (x y : Body) → Near (production false (AfterStatement at ending)) x y → AreAlike x y
near_after_stmt at ending = or_empty_alike (next_stmts at ending) (near_next at ending)

pub near_after_return : (at : Context) (x y : Option ExprTree × Body) → Near (production false (AfterReturn at)) x y → Alike (AfterReturn at) x y
near_after_return at x y (None, None, p, ex, ey) = put (Alike (AfterReturn at)) ex ey (refl, (refl, refl))
near_after_return at x y (None, Some w, p, ex, ey) = elim p [ ]
near_after_return at x y (Some v, None, p, ex, ey) = elim p [ ]
near_after_return at x y (Some v, Some w, inl (a, b, (p, q), ev, ew), ex, ey) = put (Alike (AfterReturn at)) ex ey (put (Alike (AfterReturn at)) ev ew (ap Some p, q))
near_after_return at x y (Some v, Some w, inr (a, b, p, ev, ew), ex, ey) = put (Alike (AfterReturn at)) ex ey (put (Alike (AfterReturn at)) ev ew (refl, near_next at Closed a b p))

-- ---- branches and arms

near_branch : Keeps branch erase_branch
near_branch x y (v, w, p, ex, ey) = meet erase_branch ex ey (let a = near_conds v.1.0 w.1.0 p.1.0 in let b = p.1.1 in cc)

near_else : (v w : Branch) (f h : Branch → Branches) → erase_branch v ≡ erase_branch w
    → Near (gives else_block (after (terminal is_else) (g.nonterminal Block)) ∣ gives else_if (after (counts (terminal is_else_if)) (g.nonterminal If))) f h → Alike If (f v) (h w)
near_else v w f h e (inl (a, b, p, ef, eh)) = put (λ f h. Alike If (f v) (h w)) ef eh (e, refl, ap Some (behind_near (terminal is_else) (g.nonterminal Block) a b p))
near_else v w f h e (inr (a, b, p, ef, eh)) =
    let q = behind_near (counts (terminal is_else_if)) (g.nonterminal If) a b p in let first = q.0 in let others = q.1 in
    put (λ f h. Alike If (f v) (h w)) ef eh (e, cc, q.2)

pub near_if : (x y : Branches) → Near (production false If) x y → Alike If x y
near_if x y ((v, None), (w, None), (p, q), ex, ey) = put (Alike If) ex ey (near_branch v w p, refl, refl)
near_if x y ((v, None), (w, Some h), (p, q), ex, ey) = elim q [ ]
near_if x y ((v, Some f), (w, None), (p, q), ex, ey) = elim q [ ]
near_if x y ((v, Some f), (w, Some h), (p, q), ex, ey) = put (Alike If) ex ey (near_else v w f h (near_branch v w p) q)

near_arm_label : Keeps arm_label erase_arm_label
near_arm_label x y (inl (v, w, p, ex, ey)) = meet erase_arm_label ex ey (ap arm.Case (behinds (tok k.Case) (any (g.nonterminal Pattern)) (map erase_pattern) (anys (g.nonterminal Pattern) erase_pattern (λ x y p. p)) v w p))
near_arm_label x y (inr (v, w, p, ex, ey)) = meet erase_arm_label ex ey refl

pub near_arms : Keeps (production false Arms) (map erase_arm)
near_arms x y (v, w, p, ex, ey) =
    meet (map erase_arm) ex ey (let a = near_arm_label v.0 w.0 p.0 in let q = behind_near (tok k.Colon) (g.nonterminal (Statements InArm)) v.1 w.1 p.1 in let b = q.0 in let c = q.1 in cc)

near_catch : Keeps catch erase_catch
near_catch x y (v, w, p, ex, ey) = meet erase_catch ex ey (let a = options (g.nonterminal Caught) erase_catch_pattern (λ x y p. p) v.1.0 w.1.0 p.1.0 in let b = p.1.1 in cc)

-- ---- statements

assigned_same : (v w : ExprTree) (o r : Option (Face × ExprTree)) → erase_expr v ≡ erase_expr w → Near (maybe (terminal is_assignment · whole_expr)) o r → erase_stmt (assigned v o) ≡ erase_stmt (assigned w r)
assigned_same v w None None e p = ErasedStmt.erased-Expr v ∙ ap s.Expr e ∙ sym (ErasedStmt.erased-Expr w)
assigned_same v w None (Some b) e p = elim p [ ]
assigned_same v w (Some a) None e p = elim p [ ]
assigned_same v w (Some a) (Some b) e (p, q) =
    let c = ErasedStmt.erased-Assign v (assign_of a.0.kind) a.0.span a.1 in let d = ErasedStmt.erased-Assign w (assign_of b.0.kind) b.0.span b.1 in
    let f = ap assign_of p.0 in let h : erase_expr a.1 ≡ erase_expr b.1 = q in cc

near_variable : Keeps (gives Some name ∣ gives (λ _. None) (tok k.Underscore)) (option_map erase_name)
near_variable x y (inl (v, w, p, ex, ey)) = meet (option_map erase_name) ex ey (ap Some (names v w p))
near_variable x y (inr (v, w, p, ex, ey)) = meet (option_map erase_name) ex ey refl

abbrev range_part : P RangeEnd
range_part = gives (λ x. range_end x.0 x.1) (terminal is_range · whole_expr)

near_range_end : Keeps range_part erase_range_end
near_range_end x y (v, w, (p, q), ex, ey) = meet erase_range_end ex ey (let a = ap range_of p.0 in let h : erase_expr v.1 ≡ erase_expr w.1 = q in cc)

pub near_open : Keeps (production false (Statement Open)) erase_stmt
near_open x y (inl ((f, (n, (o, v))), (f', (m, (r, w))), (p, (q, (t, u))), ex, ey)) =
    meet erase_stmt ex ey (let a = ErasedStmt.erased-Local f.span (binding_of f.kind) n o v in let b = ErasedStmt.erased-Local f'.span (binding_of f'.kind) m r w in
    let c = ap binding_of p.0 in let d = names n m q in let h = options annotation erase_type near_annotation o r t in let i = near_initial v w u in cc)
near_open x y (inr (inl (v, w, (p, q), ex, ey))) = meet erase_stmt ex ey (assigned_same v.0 w.0 v.1 w.1 p q)
near_open x y (inr (inr (inl (v, w, p, ex, ey)))) =
    meet erase_stmt ex ey (let a = ErasedStmt.erased-Discard v.0 v.1 in let b = ErasedStmt.erased-Discard w.0 w.1 in let c = near_initial v.1 w.1 p.1 in cc)
near_open x y (inr (inr (inr (v, w, p, ex, ey)))) =
    meet erase_stmt ex ey (let a = ErasedStmt.erased-Throw v.0 v.1 in let b = ErasedStmt.erased-Throw w.0 w.1 in let c : erase_expr v.1 ≡ erase_expr w.1 = p.1 in cc)

pub near_closed : Keeps (production false (Statement Closed)) erase_stmt
near_closed x y (inl (v, w, p, ex, ey)) =
    meet erase_stmt ex ey (let a = ErasedStmt.erased-If v.0 v.1.0 v.1.1 in let b = ErasedStmt.erased-If w.0 w.1.0 w.1.1 in let c = p.0 in let d = p.1 in let f = p.2 in cc)
near_closed x y (inr (inl ((at, (v, vs)), (at', (w, ws)), (p, (q, r)), ex, ey))) =
    meet erase_stmt ex ey (let a = ErasedStmt.erased-Guard at v vs in let b = ErasedStmt.erased-Guard at' w ws in let c = near_conds v w q in
    let d = behind_near (terminal is_any_else) (g.nonterminal Block) vs ws r in cc)
near_closed x y (inr (inr (inl ((at, (v, vs)), (at', (w, ws)), (p, (q, r)), ex, ey)))) =
    meet erase_stmt ex ey (let a = ErasedStmt.erased-While at v vs in let b = ErasedStmt.erased-While at' w ws in let c = near_conds v w q in cc)
near_closed x y (inr (inr (inr (inl ((at, (n, (i, (v, (o, vs))))), (at', (m, (j, (w, (r, ws))))), (_, (pn, (_, (pv, (po, pb))))), ex, ey))))) =
    meet erase_stmt ex ey (let a = ErasedStmt.erased-For at n v o vs in let b = ErasedStmt.erased-For at' m w r ws in let c = near_variable n m pn in
    let d = options range_part erase_range_end near_range_end o r po in let f : erase_expr v ≡ erase_expr w = pv in let h : map erase_stmt vs ≡ map erase_stmt ws = pb in cc)
near_closed x y (inr (inr (inr (inr (inl ((at, (v, vs)), (at', (w, ws)), (_, (p, q)), ex, ey)))))) =
    meet erase_stmt ex ey (let a = ErasedStmt.erased-Switch at v vs in let b = ErasedStmt.erased-Switch at' w ws in let c : erase_expr v ≡ erase_expr w = p in
    let d = braces (gives or_none (maybe (g.nonterminal Arms))) (map erase_arm) (or_none_lists (g.nonterminal Arms) erase_arm (λ x y p. p)) vs ws q in cc)
near_closed x y (inr (inr (inr (inr (inr (inl ((at, (v, vs)), (at', (w, ws)), (_, (p, q)), ex, ey))))))) =
    meet erase_stmt ex ey (let a = ErasedStmt.erased-Do at v vs in let b = ErasedStmt.erased-Do at' w ws in let c : map erase_stmt v ≡ map erase_stmt w = p in
    let d = lists catch erase_catch near_catch vs ws q in cc)
near_closed x y (inr (inr (inr (inr (inr (inr (inl (v, w, p, ex, ey)))))))) = meet erase_stmt ex ey (ErasedStmt.erased-Break v ∙ sym (ErasedStmt.erased-Break w))
near_closed x y (inr (inr (inr (inr (inr (inr (inr (v, w, p, ex, ey)))))))) = meet erase_stmt ex ey (ErasedStmt.erased-Continue v ∙ sym (ErasedStmt.erased-Continue w))
