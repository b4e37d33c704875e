-- How lists of items and bodies are read, one item or statement after the other.
use Rattle.std.proofs.Common.{◌≡◌, ℕ, Bool, true, false, not, ◌||◌, ◌&&◌, cond, Option, Some, None, List, [], ◌∷◌, ◌++◌, refl, sym, ap, ◌∙◌, append_assoc, append-nil}
use Rattle.sw_base.specs.declared.ids.Span.{Span}
use Rattle.sw_lex.specs.declared.token.TokenKind.TheVariants as k
use Rattle.sw_grammar.specs.Grammar as g
use Rattle.sw_grammar.specs.Reading.{Out, got, rejected, out_of_fuel, unexpected, ◌>>=◌, at_first}
use Rattle.sw_tree.specs.declared.expr.Expr.{Expr as ExprTree}
use Rattle.sw_tree.specs.declared.stmt.Stmt.{Stmt}
use Rattle.sw_tree.specs.declared.stmt.Stmt.TheVariants as s
use Rattle.sw_tree.specs.declared.stmt.SwitchArm.{SwitchArm}
use Rattle.sw_syntax.specs.declared.class.Sight.{Sight}
use Rattle.sw_syntax.specs.Tokens.{same_kind, Sighted, Face}
use Rattle.sw_syntax.specs.Tests.{is, is_first, goes_on_line, goes_on_below, starts_expr}
use Rattle.sw_syntax.specs.Values.{or_none}
use Rattle.sw_syntax.specs.Forms.{empty_body, or_empty, ahead, only_arms, or_bare}
use Rattle.sw_syntax.specs.Nonterminals.{ItemKind, Context, InBlock, InArm, Ending, Open, Closed, ItemList, AfterItem, Item, Statements, SomeStatements, AfterStatement, AfterReturn, Statement, Arms, Expr, ItemTree, Body}
use Rattle.sw_syntax.specs.Parts.{P, ◌·◌, ◌∣◌, tok, place, after, whole_expr}
use Rattle.sw_syntax.specs.Grammar.{list_of, next_stmts, begins_below}
use Rattle.sw_syntax.specs.Tables.{starts_item, starts_stmt_of, starts_stmt, starts_arm}
use Rattle.sw_syntax.specs.Answering.{read, read_part, Takes}
use Rattle.sw_syntax.specs.Lists.{items_from, items_after}
use Rattle.sw_syntax.specs.Bodies.{put, body_from, after_stmt, after_return, after_body, is_returned, arms_from}
use Rattle.sw_syntax.proofs.Classes.{apart}
use Rattle.sw_syntax.proofs.Equations.{step, starts, bind_same, first_left, first_right}
use Rattle.sw_syntax.proofs.PartEquations.{both_on, gives_on, limited_on, placed_on, past_on, there_on, absent_on, first_on, second_on, when_on}

pub same_out : {A : Type 0} (o : Out Sighted A) → (o >>= (λ x c r. got x c r)) ≡ o
same_out (got x c r) = refl
same_out (rejected reason r) = refl
same_out out_of_fuel = refl

-- ---- items

abbrev or_list : {A : Type 0} → Option (List A) → ℕ → List Sighted → Out Sighted (List A)
or_list xs c r = got (or_none xs) c r

list_some : (lenient : Bool) (kind : ItemKind) (d l c : ℕ) (ts : List Sighted) → at_first (starts_item kind) ts ≡ true → read_part lenient (list_of kind) d l c ts ≡ read lenient (ItemList kind) d l c ts
list_some lenient kind d l c ts h = there_on lenient (g.nonterminal (ItemList kind)) d l c ts or_list h ∙ same_out (read lenient (ItemList kind) d l c ts)

list_none : (lenient : Bool) (kind : ItemKind) (d l c : ℕ) (ts : List Sighted) → at_first (starts_item kind) ts ≡ false → read_part lenient (list_of kind) d l c ts ≡ got [] c ts
list_none lenient kind d l c ts h = absent_on lenient (g.nonterminal (ItemList kind)) d l c ts or_list h

pub items_start : (lenient : Bool) (kind : ItemKind) (d l c : ℕ) (ts : List Sighted) → read_part lenient (list_of kind) d l c ts ≡ items_from lenient kind d l c [] ts
unfolding items_from
items_start lenient kind d l c ts = sym (same_out (read_part lenient (list_of kind) d l c ts))

pub items_end : (lenient : Bool) (kind : ItemKind) (d l c : ℕ) (xs : List (ItemTree kind)) (ts : List Sighted) → at_first (starts_item kind) ts ≡ false → items_from lenient kind d l c xs ts ≡ got xs c ts
unfolding items_from
items_end lenient kind d l c xs ts h = ap (λ o. o >>= (λ ys c' r. got (xs ++ ys) c' r)) (list_none lenient kind d l c ts h) ∙ ap (λ l. got l c ts) (append-nil xs)

pub items_item : (lenient : Bool) (kind : ItemKind) (d l c : ℕ) (xs : List (ItemTree kind)) (ts : List Sighted) → at_first (starts_item kind) ts ≡ true
    → items_from lenient kind d l c xs ts ≡ (read lenient (Item kind) d l c ts >>= (λ x c' r. items_after lenient kind d l c' xs x r))
unfolding items_from items_after
items_item lenient kind d l c xs ts h = ap (λ o. o >>= (λ ys c' r. got (xs ++ ys) c' r)) (list_some lenient kind d l c ts h ∙ step lenient (ItemList kind) d l c ts)
    ∙ gives_on lenient (λ x. x.0 ∷ x.1) (g.nonterminal (Item kind) · g.nonterminal (AfterItem kind)) d l c ts _
    ∙ both_on lenient (g.nonterminal (Item kind)) (g.nonterminal (AfterItem kind)) d l c ts _

-- what follows an item, put after it
after_item : (lenient : Bool) (kind : ItemKind) (d l c : ℕ) (xs : List (ItemTree kind)) (x : ItemTree kind) (ts : List Sighted)
    → items_after lenient kind d l c xs x ts ≡ (read lenient (AfterItem kind) d l c ts >>= (λ ys c' r. got ((xs ++ x ∷ []) ++ ys) c' r))
unfolding items_after
after_item lenient kind d l c xs x ts = bind_same (read lenient (AfterItem kind) d l c ts) _ _ (λ ys c' r. ap (λ l. got l c' r) (sym (append_assoc xs (x ∷ []) ys)))

abbrev below : ItemKind → Sight → Bool
below kind t = is_first t && starts_item kind t

pub items_semicolon : (lenient : Bool) (kind : ItemKind) (d l c : ℕ) (xs : List (ItemTree kind)) (x : ItemTree kind) (ts : List Sighted) (f : Face) (r : List Sighted) → at_first (is k.Semicolon) ts ≡ true → Takes (is k.Semicolon) ts f r
    → items_after lenient kind d l c xs x ts ≡ items_from lenient kind d l c (xs ++ x ∷ []) r
unfolding items_from
items_semicolon lenient kind d l c xs x ts f r h takes = after_item lenient kind d l c xs x ts ∙ ap (λ o. o >>= (λ ys c' r. got ((xs ++ x ∷ []) ++ ys) c' r)) (step lenient (AfterItem kind) d l c ts
    ∙ there_on lenient (after (tok k.Semicolon) (list_of kind) ∣ g.when is_first (g.nonterminal (ItemList kind))) d l c ts or_list (first_left (is k.Semicolon) (below kind) ts h)
    ∙ first_on lenient (after (tok k.Semicolon) (list_of kind)) (g.when is_first (g.nonterminal (ItemList kind))) d l c ts _ h
    ∙ past_on lenient (is k.Semicolon) (list_of kind) d l c ts f r _ takes
    ∙ same_out (read_part lenient (list_of kind) d l c r))

line_list : {A : Type 0} (a b i : Bool) (semicolon items off : Out Sighted (List A)) (none : Out Sighted (Option (List A))) → a ≡ false → b ≡ true
    → (cond (a || (b && i)) (cond a semicolon (cond b items off) >>= (λ x c r. got (Some x) c r)) none >>= or_list) ≡ (cond i (items >>= (λ x c r. got (Some x) c r)) none >>= or_list)
line_list true b i semicolon items off none h h' = absurd cc
line_list false true i semicolon items off none h h' = refl
line_list false false i semicolon items off none h h' = absurd cc

end_list : {A : Type 0} (a b i : Bool) (semicolon items off : Out Sighted (List A)) (none : Out Sighted (Option (List A))) → a ≡ false → b ≡ false
    → (cond (a || (b && i)) (cond a semicolon (cond b items off) >>= (λ x c r. got (Some x) c r)) none >>= or_list) ≡ (none >>= or_list)
end_list true b i semicolon items off none h h' = absurd cc
end_list false true i semicolon items off none h h' = absurd cc
end_list false false i semicolon items off none h h' = refl

rest_line : (lenient : Bool) (kind : ItemKind) (d l c : ℕ) (ts : List Sighted) → at_first (is k.Semicolon) ts ≡ false → at_first is_first ts ≡ true → read lenient (AfterItem kind) d l c ts ≡ read_part lenient (list_of kind) d l c ts
rest_line lenient kind d l c [] h h' = absurd cc
rest_line lenient kind d l c (t ∷ ts) h h' = step lenient (AfterItem kind) d l c (t ∷ ts)
    ∙ line_list (is k.Semicolon t.sight) (is_first t.sight) (starts_item kind t.sight) (read_part lenient (after (tok k.Semicolon) (list_of kind)) d l c (t ∷ ts)) (read lenient (ItemList kind) d l c (t ∷ ts)) (rejected unexpected (t ∷ ts)) (got None c (t ∷ ts)) h h'

rest_end : (lenient : Bool) (kind : ItemKind) (d l c : ℕ) (ts : List Sighted) → at_first (is k.Semicolon) ts ≡ false → at_first is_first ts ≡ false → read lenient (AfterItem kind) d l c ts ≡ got [] c ts
rest_end lenient kind d l c [] h h' = step lenient (AfterItem kind) d l c []
rest_end lenient kind d l c (t ∷ ts) h h' = step lenient (AfterItem kind) d l c (t ∷ ts)
    ∙ end_list (is k.Semicolon t.sight) (is_first t.sight) (starts_item kind t.sight) (read_part lenient (after (tok k.Semicolon) (list_of kind)) d l c (t ∷ ts)) (read lenient (ItemList kind) d l c (t ∷ ts)) (rejected unexpected (t ∷ ts)) (got None c (t ∷ ts)) h h'

pub items_line : (lenient : Bool) (kind : ItemKind) (d l c : ℕ) (xs : List (ItemTree kind)) (x : ItemTree kind) (ts : List Sighted) → at_first (is k.Semicolon) ts ≡ false → at_first is_first ts ≡ true
    → items_after lenient kind d l c xs x ts ≡ items_from lenient kind d l c (xs ++ x ∷ []) ts
unfolding items_from
items_line lenient kind d l c xs x ts h h' = after_item lenient kind d l c xs x ts ∙ ap (λ o. o >>= (λ ys c' r. got ((xs ++ x ∷ []) ++ ys) c' r)) (rest_line lenient kind d l c ts h h')

pub items_last : (lenient : Bool) (kind : ItemKind) (d l c : ℕ) (xs : List (ItemTree kind)) (x : ItemTree kind) (ts : List Sighted) → at_first (is k.Semicolon) ts ≡ false → at_first is_first ts ≡ false
    → items_after lenient kind d l c xs x ts ≡ got (xs ++ x ∷ []) c ts
items_last lenient kind d l c xs x ts h h' = after_item lenient kind d l c xs x ts ∙ ap (λ o. o >>= (λ ys c' r. got ((xs ++ x ∷ []) ++ ys) c' r)) (rest_end lenient kind d l c ts h h') ∙ ap (λ l. got l c ts) (append-nil (xs ++ x ∷ []))

-- ---- statements

abbrev some_body : Body → ℕ → List Sighted → Out Sighted (Option Body)
some_body body c r = got (Some body) c r

abbrev or_body : Option Body → ℕ → List Sighted → Out Sighted Body
or_body body c r = got (or_empty body) c r

put_ahead : (xs : List Stmt) (x : Stmt) (body : Body) → put xs (ahead x body) ≡ put (xs ++ x ∷ []) body
put_ahead xs x body = ap (λ l. (l, body.1)) (sym (append_assoc xs (x ∷ []) body.0))

put_empty : (xs : List Stmt) → put xs empty_body ≡ (xs, [])
put_empty xs = ap (λ l. (l, [])) (append-nil xs)

pub body_start : (lenient : Bool) (at : Context) (d l c : ℕ) (ts : List Sighted) → read lenient (Statements at) d l c ts ≡ body_from lenient at d l c [] ts
unfolding body_from
body_start lenient at d l c ts = sym (same_out (read lenient (Statements at) d l c ts))

body_stmts : (lenient : Bool) (at : Context) (d l c : ℕ) (ts : List Sighted) → at_first starts_stmt ts ≡ true → read lenient (Statements at) d l c ts ≡ read lenient (SomeStatements at) d l c ts
body_stmts lenient InBlock d l c ts h = step lenient (Statements InBlock) d l c ts ∙ there_on lenient (g.nonterminal (SomeStatements InBlock)) d l c ts or_body h ∙ same_out (read lenient (SomeStatements InBlock) d l c ts)
body_stmts lenient InArm d l c ts h = step lenient (Statements InArm) d l c ts
    ∙ there_on lenient (g.nonterminal (SomeStatements InArm) ∣ g.gives only_arms (g.nonterminal Arms)) d l c ts or_body (first_left starts_stmt starts_arm ts h)
    ∙ first_on lenient (g.nonterminal (SomeStatements InArm)) (g.gives only_arms (g.nonterminal Arms)) d l c ts _ h
    ∙ same_out (read lenient (SomeStatements InArm) d l c ts)

abbrev puts : List Stmt → Body → ℕ → List Sighted → Out Sighted Body
puts xs body c r = got (put xs body) c r

pub block_end : (lenient : Bool) (d l c : ℕ) (xs : List Stmt) (ts : List Sighted) → at_first starts_stmt ts ≡ false → body_from lenient InBlock d l c xs ts ≡ got (xs, []) c ts
unfolding body_from
block_end lenient d l c xs ts h = ap (λ o. o >>= puts xs) (step lenient (Statements InBlock) d l c ts ∙ absent_on lenient (g.nonterminal (SomeStatements InBlock)) d l c ts or_body h) ∙ ap (λ body. got body c ts) (put_empty xs)

no_statement : {A : Type 0} (a b : Bool) (x : Out Sighted A) (none : Out Sighted (Option A)) (y : Out Sighted A) → a ≡ false → b ≡ false → cond (a || b) (cond a x y >>= (λ x c r. got (Some x) c r)) none ≡ none
no_statement true b x none y h h' = absurd cc
no_statement false true x none y h h' = absurd cc
no_statement false false x none y h h' = refl

pub arm_end : (lenient : Bool) (d l c : ℕ) (xs : List Stmt) (ts : List Sighted) → at_first starts_stmt ts ≡ false → at_first starts_arm ts ≡ false → body_from lenient InArm d l c xs ts ≡ after_body lenient d l c xs false ts
unfolding body_from
arm_end lenient d l c xs [] h h' = ap (λ o. o >>= puts xs) (step lenient (Statements InArm) d l c []) ∙ ap (λ body. got body c []) (put_empty xs)
arm_end lenient d l c xs (t ∷ ts) h h' = ap (λ o. o >>= puts xs) (step lenient (Statements InArm) d l c (t ∷ ts)
    ∙ ap (λ o. o >>= or_body) (no_statement (starts_stmt t.sight) (starts_arm t.sight) (read lenient (SomeStatements InArm) d l c (t ∷ ts)) (got None c (t ∷ ts)) (read_part lenient (g.gives only_arms (g.nonterminal Arms)) d l c (t ∷ ts)) h h'))
    ∙ ap (λ body. got body c (t ∷ ts)) (put_empty xs)

put_arms : (xs : List Stmt) (o : Out Sighted (List SwitchArm)) → (((o >>= (λ arms c r. got (only_arms arms) c r)) >>= (λ body c r. got (or_empty (Some body)) c r)) >>= puts xs) ≡ (o >>= (λ arms c r. got (xs, arms) c r))
put_arms xs (got arms c r) = ap (λ l. got (l, arms) c r) (append-nil xs)
put_arms xs (rejected reason r) = refl
put_arms xs out_of_fuel = refl

pub arm_next : (lenient : Bool) (d l c : ℕ) (xs : List Stmt) (ts : List Sighted) → at_first starts_stmt ts ≡ false → at_first starts_arm ts ≡ true → body_from lenient InArm d l c xs ts ≡ after_body lenient d l c xs true ts
unfolding body_from
arm_next lenient d l c xs ts h h' = ap (λ o. o >>= puts xs) (step lenient (Statements InArm) d l c ts
    ∙ there_on lenient (g.nonterminal (SomeStatements InArm) ∣ g.gives only_arms (g.nonterminal Arms)) d l c ts or_body (first_right starts_stmt starts_arm ts h')
    ∙ second_on lenient (g.nonterminal (SomeStatements InArm)) (g.gives only_arms (g.nonterminal Arms)) d l c ts _ h)
    ∙ put_arms xs (read lenient Arms d l c ts)

abbrev open_part : Context → P Body
open_part at = g.gives (λ x. ahead x.0 x.1) (g.nonterminal (Statement Open) · g.nonterminal (AfterStatement at Open))

abbrev closed_part : Context → P Body
closed_part at = g.gives (λ x. ahead x.0 x.1) (g.nonterminal (Statement Closed) · g.nonterminal (AfterStatement at Closed))

abbrev return_part : Context → P Body
return_part at = g.gives (λ x. ahead (s.Return x.0 x.1.0) x.1.1) (place k.Return · g.nonterminal (AfterReturn at))

body_as : (lenient : Bool) (at : Context) (d l c : ℕ) (xs : List Stmt) (ts : List Sighted) → at_first starts_stmt ts ≡ true → body_from lenient at d l c xs ts ≡ (read_part lenient (open_part at ∣ (closed_part at ∣ return_part at)) d l c ts >>= puts xs)
unfolding body_from
body_as lenient at d l c xs ts h = ap (λ o. o >>= puts xs) (body_stmts lenient at d l c ts h ∙ step lenient (SomeStatements at) d l c ts)

pub body_open : (lenient : Bool) (at : Context) (d l c : ℕ) (xs : List Stmt) (ts : List Sighted) → at_first (starts_stmt_of Open) ts ≡ true
    → body_from lenient at d l c xs ts ≡ (read lenient (Statement Open) d l c ts >>= (λ x c' r. after_stmt lenient at Open d l c' xs x r))
unfolding after_stmt
body_open lenient at d l c xs ts h = body_as lenient at d l c xs ts (first_left (starts_stmt_of Open) (λ t. starts_stmt_of Closed t || is k.Return t) ts h)
    ∙ first_on lenient (open_part at) (closed_part at ∣ return_part at) d l c ts (puts xs) h
    ∙ gives_on lenient (λ x. ahead x.0 x.1) (g.nonterminal (Statement Open) · g.nonterminal (AfterStatement at Open)) d l c ts (puts xs)
    ∙ both_on lenient (g.nonterminal (Statement Open)) (g.nonterminal (AfterStatement at Open)) d l c ts _

pub body_closed : (lenient : Bool) (at : Context) (d l c : ℕ) (xs : List Stmt) (ts : List Sighted) → at_first (starts_stmt_of Open) ts ≡ false → at_first (starts_stmt_of Closed) ts ≡ true
    → body_from lenient at d l c xs ts ≡ (read lenient (Statement Closed) d l c ts >>= (λ x c' r. after_stmt lenient at Closed d l c' xs x r))
unfolding after_stmt
body_closed lenient at d l c xs ts h0 h = body_as lenient at d l c xs ts (first_right (starts_stmt_of Open) (λ t. starts_stmt_of Closed t || is k.Return t) ts (first_left (starts_stmt_of Closed) (is k.Return) ts h))
    ∙ second_on lenient (open_part at) (closed_part at ∣ return_part at) d l c ts (puts xs) h0
    ∙ first_on lenient (closed_part at) (return_part at) d l c ts (puts xs) h
    ∙ gives_on lenient (λ x. ahead x.0 x.1) (g.nonterminal (Statement Closed) · g.nonterminal (AfterStatement at Closed)) d l c ts (puts xs)
    ∙ both_on lenient (g.nonterminal (Statement Closed)) (g.nonterminal (AfterStatement at Closed)) d l c ts _

pub body_return : (lenient : Bool) (at : Context) (d l c : ℕ) (xs : List Stmt) (ts : List Sighted) (f : Face) (r : List Sighted) → at_first (starts_stmt_of Open) ts ≡ false → at_first (starts_stmt_of Closed) ts ≡ false → at_first (is k.Return) ts ≡ true → Takes (is k.Return) ts f r
    → body_from lenient at d l c xs ts ≡ after_return lenient at d l c xs f.span r
unfolding after_return
body_return lenient at d l c xs ts f r h0 h1 h takes = body_as lenient at d l c xs ts (first_right (starts_stmt_of Open) (λ t. starts_stmt_of Closed t || is k.Return t) ts (first_right (starts_stmt_of Closed) (is k.Return) ts h))
    ∙ second_on lenient (open_part at) (closed_part at ∣ return_part at) d l c ts (puts xs) h0
    ∙ second_on lenient (closed_part at) (return_part at) d l c ts (puts xs) h1
    ∙ gives_on lenient (λ x. ahead (s.Return x.0 x.1.0) x.1.1) (place k.Return · g.nonterminal (AfterReturn at)) d l c ts (puts xs)
    ∙ placed_on lenient k.Return (g.nonterminal (AfterReturn at)) d l c ts f r _ takes

-- ---- what follows a statement

after_one : (lenient : Bool) (at : Context) (ending : Ending) (d l c : ℕ) (xs : List Stmt) (x : Stmt) (ts : List Sighted)
    → after_stmt lenient at ending d l c xs x ts ≡ (read lenient (AfterStatement at ending) d l c ts >>= puts (xs ++ x ∷ []))
unfolding after_stmt
after_one lenient at ending d l c xs x ts = bind_same (read lenient (AfterStatement at ending) d l c ts) _ _ (λ body c' r. ap (λ b. got b c' r) (put_ahead xs x body))

abbrev semicolon_part : Context → P Body
semicolon_part at = after (tok k.Semicolon) (g.nonterminal (Statements at))

after_semicolon : (lenient : Bool) (at : Context) (ending : Ending) (d l c : ℕ) (ts : List Sighted) (f : Face) (r : List Sighted) → at_first (is k.Semicolon) ts ≡ true → Takes (is k.Semicolon) ts f r → read lenient (AfterStatement at ending) d l c ts ≡ read lenient (Statements at) d l c r
after_semicolon lenient InBlock ending d l c ts f r h takes = step lenient (AfterStatement InBlock ending) d l c ts
    ∙ there_on lenient (next_stmts InBlock ending) d l c ts or_body (first_left (is k.Semicolon) (λ t. begins_below ending t && starts_stmt t) ts h)
    ∙ first_on lenient (semicolon_part InBlock) (g.when (begins_below ending) (g.nonterminal (SomeStatements InBlock))) d l c ts _ h
    ∙ past_on lenient (is k.Semicolon) (g.nonterminal (Statements InBlock)) d l c ts f r _ takes
    ∙ same_out (read lenient (Statements InBlock) d l c r)
after_semicolon lenient InArm ending d l c ts f r h takes = step lenient (AfterStatement InArm ending) d l c ts
    ∙ there_on lenient (next_stmts InArm ending) d l c ts or_body (first_left (is k.Semicolon) (λ t. (begins_below ending t && starts_stmt t) || (is_first t && starts_arm t)) ts h)
    ∙ first_on lenient (semicolon_part InArm) (g.when (begins_below ending) (g.nonterminal (SomeStatements InArm)) ∣ g.gives only_arms (g.when is_first (g.nonterminal Arms))) d l c ts _ h
    ∙ past_on lenient (is k.Semicolon) (g.nonterminal (Statements InArm)) d l c ts f r _ takes
    ∙ same_out (read lenient (Statements InArm) d l c r)

line_block : (a b i : Bool) (semicolon items off : Out Sighted Body) (none : Out Sighted (Option Body)) → a ≡ false → b ≡ true
    → (cond (a || (b && i)) (cond a semicolon (cond b items off) >>= some_body) none >>= or_body) ≡ (cond i (items >>= some_body) none >>= or_body)
line_block true b i semicolon items off none h h' = absurd cc
line_block false true i semicolon items off none h h' = refl
line_block false false i semicolon items off none h h' = absurd cc

abbrev arms_body : List SwitchArm → ℕ → List Sighted → Out Sighted Body
arms_body arms c r = got (only_arms arms) c r

line_arm : (a b i first arm : Bool) (semicolon items off : Out Sighted Body) (arms off' : Out Sighted (List SwitchArm)) (none : Out Sighted (Option Body)) → a ≡ false → b ≡ true → first ≡ true
    → (cond (a || ((b && i) || (first && arm))) (cond a semicolon (cond (b && i) (cond b items off) (cond first arms off' >>= arms_body)) >>= some_body) none >>= or_body)
    ≡ (cond (i || arm) (cond i items (arms >>= arms_body) >>= some_body) none >>= or_body)
line_arm true b i first arm semicolon items off arms off' none h h' h'' = absurd cc
line_arm false true i true arm semicolon items off arms off' none h h' h'' = refl
line_arm false true i false arm semicolon items off arms off' none h h' h'' = absurd cc
line_arm false false i first arm semicolon items off arms off' none h h' h'' = absurd cc

and_left : (a b : Bool) → (a && b) ≡ true → a ≡ true
and_left true b h = refl
and_left false b h = absurd cc

viable_first : (ending : Ending) (t : Sight) → begins_below ending t ≡ true → t.is_first ≡ true
viable_first Open t h = and_left t.is_first (not (goes_on_below t)) h
viable_first Closed t h = h

after_line : (lenient : Bool) (at : Context) (ending : Ending) (d l c : ℕ) (ts : List Sighted) → at_first (is k.Semicolon) ts ≡ false → at_first (begins_below ending) ts ≡ true → read lenient (AfterStatement at ending) d l c ts ≡ read lenient (Statements at) d l c ts
after_line lenient at ending d l c [] h h' = absurd cc
after_line lenient InBlock ending d l c (t ∷ ts) h h' = step lenient (AfterStatement InBlock ending) d l c (t ∷ ts)
    ∙ line_block (is k.Semicolon t.sight) (begins_below ending t.sight) (starts_stmt t.sight) (read_part lenient (semicolon_part InBlock) d l c (t ∷ ts)) (read lenient (SomeStatements InBlock) d l c (t ∷ ts)) (rejected unexpected (t ∷ ts)) (got None c (t ∷ ts)) h h'
    ∙ sym (step lenient (Statements InBlock) d l c (t ∷ ts))
after_line lenient InArm ending d l c (t ∷ ts) h h' = step lenient (AfterStatement InArm ending) d l c (t ∷ ts)
    ∙ line_arm (is k.Semicolon t.sight) (begins_below ending t.sight) (starts_stmt t.sight) t.sight.is_first (starts_arm t.sight) (read_part lenient (semicolon_part InArm) d l c (t ∷ ts)) (read lenient (SomeStatements InArm) d l c (t ∷ ts)) (rejected unexpected (t ∷ ts)) (read lenient Arms d l c (t ∷ ts)) (rejected unexpected (t ∷ ts)) (got None c (t ∷ ts)) h h' (viable_first ending t.sight h')
    ∙ sym (step lenient (Statements InArm) d l c (t ∷ ts))

end_block : (a b i : Bool) (semicolon items off : Out Sighted Body) (none : Out Sighted (Option Body)) → a ≡ false → b ≡ false
    → (cond (a || (b && i)) (cond a semicolon (cond b items off) >>= some_body) none >>= or_body) ≡ (none >>= or_body)
end_block true b i semicolon items off none h h' = absurd cc
end_block false true i semicolon items off none h h' = absurd cc
end_block false false i semicolon items off none h h' = refl

end_arm : (a b i arm : Bool) (semicolon items arms : Out Sighted Body) (none : Out Sighted (Option Body)) → a ≡ false → b ≡ false → arm ≡ false
    → (cond (a || ((b && i) || arm)) (cond a semicolon (cond (b && i) items arms) >>= some_body) none >>= or_body) ≡ (none >>= or_body)
end_arm true b i arm semicolon items arms none h h' h'' = absurd cc
end_arm false true i arm semicolon items arms none h h' h'' = absurd cc
end_arm false false i true semicolon items arms none h h' h'' = absurd cc
end_arm false false i false semicolon items arms none h h' h'' = refl

no_arm_of : (first below arm : Bool) → (first && not below) ≡ false → (below ≡ true → arm ≡ true → ⊥) → (first && arm) ≡ false
no_arm_of false below arm h apart = refl
no_arm_of true false arm h apart = absurd cc
no_arm_of true true true h apart = absurd (apart refl refl)
no_arm_of true true false h apart = refl

no_arm : (ending : Ending) (t : Sight) → begins_below ending t ≡ false → (t.is_first && starts_arm t) ≡ false
unfolding same_kind
no_arm Open t h = no_arm_of t.is_first (goes_on_below t) (starts_arm t) h (apart goes_on_below starts_arm refl t)
no_arm Closed t h = ap (λ b. b && starts_arm t) h

after_end : (lenient : Bool) (at : Context) (ending : Ending) (d l c : ℕ) (ts : List Sighted) → at_first (is k.Semicolon) ts ≡ false → at_first (begins_below ending) ts ≡ false → read lenient (AfterStatement at ending) d l c ts ≡ got empty_body c ts
after_end lenient InBlock ending d l c [] h h' = step lenient (AfterStatement InBlock ending) d l c []
after_end lenient InArm ending d l c [] h h' = step lenient (AfterStatement InArm ending) d l c []
after_end lenient InBlock ending d l c (t ∷ ts) h h' = step lenient (AfterStatement InBlock ending) d l c (t ∷ ts)
    ∙ end_block (is k.Semicolon t.sight) (begins_below ending t.sight) (starts_stmt t.sight) (read_part lenient (semicolon_part InBlock) d l c (t ∷ ts)) (read lenient (SomeStatements InBlock) d l c (t ∷ ts)) (rejected unexpected (t ∷ ts)) (got None c (t ∷ ts)) h h'
after_end lenient InArm ending d l c (t ∷ ts) h h' = step lenient (AfterStatement InArm ending) d l c (t ∷ ts)
    ∙ end_arm (is k.Semicolon t.sight) (begins_below ending t.sight) (starts_stmt t.sight) (t.sight.is_first && starts_arm t.sight) (read_part lenient (semicolon_part InArm) d l c (t ∷ ts)) (read_part lenient (g.when (begins_below ending) (g.nonterminal (SomeStatements InArm))) d l c (t ∷ ts)) (read_part lenient (g.gives only_arms (g.when is_first (g.nonterminal Arms))) d l c (t ∷ ts)) (got None c (t ∷ ts)) h h' (no_arm ending t.sight h')

pub semicolon_after : (lenient : Bool) (at : Context) (ending : Ending) (d l c : ℕ) (xs : List Stmt) (x : Stmt) (ts : List Sighted) (f : Face) (r : List Sighted) → at_first (is k.Semicolon) ts ≡ true → Takes (is k.Semicolon) ts f r
    → after_stmt lenient at ending d l c xs x ts ≡ body_from lenient at d l c (xs ++ x ∷ []) r
unfolding body_from
semicolon_after lenient at ending d l c xs x ts f r h takes = after_one lenient at ending d l c xs x ts ∙ ap (λ o. o >>= puts (xs ++ x ∷ [])) (after_semicolon lenient at ending d l c ts f r h takes)

pub line_after : (lenient : Bool) (at : Context) (ending : Ending) (d l c : ℕ) (xs : List Stmt) (x : Stmt) (ts : List Sighted) → at_first (is k.Semicolon) ts ≡ false → at_first (begins_below ending) ts ≡ true
    → after_stmt lenient at ending d l c xs x ts ≡ body_from lenient at d l c (xs ++ x ∷ []) ts
unfolding body_from
line_after lenient at ending d l c xs x ts h h' = after_one lenient at ending d l c xs x ts ∙ ap (λ o. o >>= puts (xs ++ x ∷ [])) (after_line lenient at ending d l c ts h h')

pub after_last : (lenient : Bool) (at : Context) (ending : Ending) (d l c : ℕ) (xs : List Stmt) (x : Stmt) (ts : List Sighted) → at_first (is k.Semicolon) ts ≡ false → at_first (begins_below ending) ts ≡ false
    → after_stmt lenient at ending d l c xs x ts ≡ got (xs ++ x ∷ [], []) c ts
after_last lenient at ending d l c xs x ts h h' = after_one lenient at ending d l c xs x ts ∙ ap (λ o. o >>= puts (xs ++ x ∷ [])) (after_end lenient at ending d l c ts h h') ∙ ap (λ body. got body c ts) (put_empty (xs ++ x ∷ []))

-- ---- what follows `return`

abbrev value_part : Context → P (Option ExprTree × Body)
value_part at = g.gives (λ x. (Some x.0, x.1)) (g.when goes_on_line whole_expr · g.nonterminal (AfterStatement at Open))

abbrev bare_part : Context → P (Option ExprTree × Body)
bare_part at = g.gives (λ body. (None, body)) (next_stmts at Closed)

abbrev returns : List Stmt → Span → Option ExprTree × Body → ℕ → List Sighted → Out Sighted Body
returns xs span x c r = got (put xs (ahead (s.Return span x.0) x.1)) c r

return_as : (lenient : Bool) (at : Context) (d l c : ℕ) (xs : List Stmt) (span : Span) (ts : List Sighted)
    → after_return lenient at d l c xs span ts ≡ (read_part lenient (g.maybe (value_part at ∣ bare_part at)) d l c ts >>= (λ x c' r. returns xs span (or_bare x) c' r))
unfolding after_return
return_as lenient at d l c xs span ts = ap (λ o. o >>= returns xs span) (step lenient (AfterReturn at) d l c ts) ∙ gives_on lenient or_bare (g.maybe (value_part at ∣ bare_part at)) d l c ts (returns xs span)

goes_first : (ts : List Sighted) → at_first is_returned ts ≡ true → at_first goes_on_line ts ≡ true
goes_first [] h = h
goes_first (t ∷ ts) h = and_left (goes_on_line t.sight) (starts_expr t.sight) h

pub return_value : (lenient : Bool) (at : Context) (d l c : ℕ) (xs : List Stmt) (span : Span) (ts : List Sighted) → at_first is_returned ts ≡ true
    → after_return lenient at d l c xs span ts ≡ (read lenient Expr d l l ts >>= (λ x _ r. after_stmt lenient at Open d l c xs (s.Return span (Some x)) r))
unfolding after_stmt
return_value lenient at d l c xs span ts h = return_as lenient at d l c xs span ts
    ∙ there_on lenient (value_part at ∣ bare_part at) d l c ts _ (first_left is_returned (starts lenient (bare_part at)) ts h)
    ∙ first_on lenient (value_part at) (bare_part at) d l c ts _ h
    ∙ gives_on lenient (λ x. (Some x.0, x.1)) (g.when goes_on_line whole_expr · g.nonterminal (AfterStatement at Open)) d l c ts _
    ∙ both_on lenient (g.when goes_on_line whole_expr) (g.nonterminal (AfterStatement at Open)) d l c ts _
    ∙ when_on lenient goes_on_line whole_expr d l c ts _ (goes_first ts h)
    ∙ limited_on lenient (g.nonterminal Expr) d l c ts _

bare_body : (xs : List Stmt) (span : Span) (c : ℕ) (ts : List Sighted) (a n : Bool) (value : Out Sighted (Option ExprTree × Body)) (bare : Out Sighted Body) → a ≡ false
    → (cond (a || n) (cond a value (bare >>= (λ body c r. got (None, body) c r)) >>= (λ x c r. got (Some x) c r)) (got None c ts) >>= (λ x c' r. returns xs span (or_bare x) c' r))
    ≡ ((cond n (bare >>= some_body) (got None c ts) >>= or_body) >>= (λ body c' r. got (put xs (ahead (s.Return span None) body)) c' r))
bare_body xs span c ts true n value bare h = absurd cc
bare_body xs span c ts false false value bare h = refl
bare_body xs span c ts false true value (got body c' r) h = refl
bare_body xs span c ts false true value (rejected reason r) h = refl
bare_body xs span c ts false true value out_of_fuel h = refl

pub return_bare : (lenient : Bool) (at : Context) (d l c : ℕ) (xs : List Stmt) (span : Span) (ts : List Sighted) → at_first is_returned ts ≡ false
    → after_return lenient at d l c xs span ts ≡ after_stmt lenient at Closed d l c xs (s.Return span None) ts
unfolding after_stmt
return_bare lenient at d l c xs span [] h = return_as lenient at d l c xs span [] ∙ ap (λ o. o >>= (λ body c' r. got (put xs (ahead (s.Return span None) body)) c' r)) (sym (step lenient (AfterStatement at Closed) d l c []))
return_bare lenient at d l c xs span (t ∷ ts) h = return_as lenient at d l c xs span (t ∷ ts)
    ∙ bare_body xs span c (t ∷ ts) (is_returned t.sight) (starts lenient (next_stmts at Closed) t.sight) (read_part lenient (value_part at) d l c (t ∷ ts)) (read_part lenient (next_stmts at Closed) d l c (t ∷ ts)) h
    ∙ ap (λ o. o >>= (λ body c' r. got (put xs (ahead (s.Return span None) body)) c' r)) (sym (step lenient (AfterStatement at Closed) d l c (t ∷ ts)))

-- ---- arms

pub arms_start : (lenient : Bool) (d l c : ℕ) (ts : List Sighted) → read lenient Arms d l c ts ≡ arms_from lenient d l c [] ts
unfolding arms_from
arms_start lenient d l c ts = sym (same_out (read lenient Arms d l c ts))
