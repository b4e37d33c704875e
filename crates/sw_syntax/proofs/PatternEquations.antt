-- How patterns are read.
use Rattle.std.proofs.Common.{◌≡◌, ℕ, ◌-◌, Bool, true, false, ◌||◌, Option, Some, None, List, [], ◌∷◌, ◌++◌, refl, sym, ap, ◌∙◌, append_assoc}
use Rattle.sw_base.specs.declared.ids.Span.{Span}
use Rattle.sw_lex.specs.declared.token.TokenKind.TheVariants as k
use Rattle.sw_lex.specs.Bytes.{Text}
use Rattle.sw_grammar.specs.Grammar as g
use Rattle.sw_grammar.specs.Reading.{Out, got, rejected, over_budget, ◌>>=◌, at_first, one}
use Rattle.sw_tree.specs.declared.expr.Name.{Name}
use Rattle.sw_tree.specs.declared.expr.Expr.{Expr as ExprTree}
use Rattle.sw_tree.specs.declared.expr.Literal.{Literal}
use Rattle.sw_tree.specs.declared.expr.Literal.TheVariants as literal
use Rattle.sw_tree.specs.declared.expr.StringPiece.{StringPiece}
use Rattle.sw_tree.specs.declared.stmt.Pattern.{Pattern as PatternTree}
use Rattle.sw_tree.specs.declared.stmt.Pattern.TheVariants as p
use Rattle.sw_tree.specs.declared.stmt.Bind.{Bind}
use Rattle.sw_tree.specs.declared.stmt.Bind.TheVariants as b
use Rattle.sw_tree.specs.declared.stmt.CatchPattern.TheVariants as cp
use Rattle.sw_syntax.specs.Tokens.{same_kind, Sighted, Face}
use Rattle.sw_syntax.specs.Tests.{is, is_name, is_bool, starts_literal}
use Rattle.sw_syntax.specs.Values.{name_of, integer_of, bool_of, pieces_of}
use Rattle.sw_syntax.specs.Nonterminals.{Pattern, Caught, Expr}
use Rattle.sw_syntax.specs.Parts.{P, ◌·◌, tok, place, name, after, any, whole_expr}
use Rattle.sw_syntax.specs.Grammar.{bind, binds}
use Rattle.sw_syntax.specs.Answering.{read, read_part, Takes}
use Rattle.sw_syntax.specs.Patterns.{literal_part, pieces_rest, bind_part, bind_list, more_binds, binds_part, type_part, case_part}
use Rattle.sw_syntax.proofs.Classes.{apart}
use Rattle.sw_syntax.proofs.Equations.{step, IsOk, bind_assoc, bind_same, chosen, turn, opened, opened_over_budget}
use Rattle.sw_syntax.proofs.PartEquations.{both_on, gives_on, limited_on, mark_on, led_on, after_on, past_on, name_on, parens_deep, parens_on, any_none, any_first, more_end, more_more, maybe_none, maybe_some}

-- ---- binds

pub bind_let : (lenient : Bool) → (d l c : ℕ) (ts : List Sighted) (f : Face) (r : List Sighted) → at_first (is k.Let) ts ≡ true → Takes (is k.Let) ts f r → bind_part lenient d l c ts ≡ (one is_name c r >>= (λ n c' r'. got (b.Let (name_of n)) c' r'))
unfolding bind_part
bind_let lenient d l c ts f r h takes = chosen (at_first (is k.Let) ts) true _ _ h ∙ past_on lenient (is k.Let) name d l c ts f r _ takes ∙ name_on lenient d l c r _

pub bind_any : (lenient : Bool) → (d l c : ℕ) (ts : List Sighted) → at_first (is k.Let) ts ≡ false → bind_part lenient d l c ts ≡ (one (is k.Underscore) c ts >>= (λ _ c' r. got b.Any c' r))
unfolding bind_part
bind_any lenient d l c ts h = chosen (at_first (is k.Let) ts) false _ _ h

pub bind_list_none : (lenient : Bool) → (d l c : ℕ) (ts : List Sighted) → at_first (λ t. is k.Let t || is k.Underscore t) ts ≡ false → bind_list lenient d l c ts ≡ got [] c ts
unfolding bind_list
bind_list_none lenient d l c ts h = any_none lenient bind d l c ts h

pub bind_list_first : (lenient : Bool) → (d l c : ℕ) (ts : List Sighted) → at_first (λ t. is k.Let t || is k.Underscore t) ts ≡ true → bind_list lenient d l c ts ≡ (bind_part lenient d l c ts >>= (λ x c' r. more_binds lenient d l c' (x ∷ []) r))
unfolding bind_list bind_part
bind_list_first lenient d l c ts h = any_first lenient bind d l c ts h

decided_bind : (lenient : Bool) → IsOk lenient bind
unfolding same_kind
decided_bind lenient = ((tt, tt, apart _ _ refl), tt, apart _ _ refl, refl, refl)

pub binds_end : (lenient : Bool) → (d l c : ℕ) (xs : List Bind) (ts : List Sighted) → at_first (is k.Comma) ts ≡ false → more_binds lenient d l c xs ts ≡ got xs c ts
binds_end lenient d l c xs ts h = more_end lenient bind (decided_bind lenient) d l c xs ts h

pub binds_more : (lenient : Bool) → (d l c : ℕ) (xs : List Bind) (ts : List Sighted) (f : Face) (r : List Sighted) → at_first (is k.Comma) ts ≡ true → Takes (is k.Comma) ts f r
    → more_binds lenient d l c xs ts ≡ (bind_part lenient d l c r >>= (λ x c' r'. more_binds lenient d l c' (xs ++ x ∷ []) r'))
unfolding bind_part
binds_more lenient d l c xs ts f r h takes = more_more lenient bind (decided_bind lenient) d l c xs ts f r h takes

pub binds_none : (lenient : Bool) → (d l c : ℕ) (ts : List Sighted) → at_first (is k.LeftParen) ts ≡ false → binds_part lenient d l c ts ≡ got None c ts
unfolding binds_part
binds_none lenient d l c ts h = maybe_none lenient binds d l c ts h

pub binds_deep : (lenient : Bool) → (d l c : ℕ) (ts : List Sighted) → at_first (is k.LeftParen) ts ≡ true → d ≡ 0 → binds_part lenient d l c ts ≡ rejected over_budget ts
unfolding binds_part
binds_deep lenient d l c ts h z = maybe_some lenient binds d l c ts h ∙ ap (λ o. o >>= (λ xs c' r. got (Some xs) c' r)) (parens_deep lenient (any bind) d l c ts h z)

pub binds_open : (lenient : Bool) → (d l c : ℕ) (ts : List Sighted) (f : Face) (r : List Sighted) → at_first (is k.LeftParen) ts ≡ true → (d ≡ 0 → ⊥) → Takes (is k.LeftParen) ts f r
    → binds_part lenient d l c ts ≡ (bind_list lenient (d - 1) l c r >>= (λ xs c1 r1. one (is k.RightParen) c1 r1 >>= (λ _ c2 r2. got (Some xs) c2 r2)))
unfolding binds_part bind_list
binds_open lenient d l c ts f r h z takes = maybe_some lenient binds d l c ts h ∙ parens_on lenient (any bind) d l c ts f r _ z takes

-- ---- patterns of a `catch`

pub cpat_as : (lenient : Bool) → (d l c : ℕ) (ts : List Sighted) (f : Face) (r : List Sighted) → at_first (is k.Let) ts ≡ true → Takes (is k.Let) ts f r
    → read lenient Caught d l c ts ≡ (one is_name c r >>= (λ n c1 r1. one (is k.As) c1 r1 >>= (λ _ c2 r2. one is_name c2 r2 >>= (λ m c3 r3. got (cp.As (name_of n) (name_of m)) c3 r3))))
cpat_as lenient d l c ts f r h takes = step lenient Caught d l c ts ∙ chosen (at_first (is k.Let) ts) true _ _ h
    ∙ past_on lenient (is k.Let) (name · after (tok k.As) name) d l c ts f r _ takes
    ∙ both_on lenient name (after (tok k.As) name) d l c r _
    ∙ name_on lenient d l c r _
    ∙ bind_same (one is_name c r) _ _ (λ n c1 r1. after_on lenient (tok k.As) name d l c1 r1 _
    ∙ bind_same (one (is k.As) c1 r1) _ _ (λ m c2 r2. name_on lenient d l c2 r2 _))

pub cpat_case : (lenient : Bool) → (d l c : ℕ) (ts : List Sighted) → at_first (is k.Let) ts ≡ false
    → read lenient Caught d l c ts ≡ (one is_name c ts >>= (λ n c1 r1. one (is k.Dot) c1 r1 >>= (λ _ c2 r2. one is_name c2 r2 >>= (λ m c3 r3. binds_part lenient d l c3 r3 >>= (λ xs c4 r4. got (cp.Case (name_of n) (name_of m) xs) c4 r4)))))
unfolding binds_part
cpat_case lenient d l c ts h = step lenient Caught d l c ts ∙ chosen (at_first (is k.Let) ts) false _ _ h
    ∙ both_on lenient name (after (tok k.Dot) (name · g.maybe binds)) d l c ts _
    ∙ name_on lenient d l c ts _
    ∙ bind_same (one is_name c ts) _ _ (λ n c1 r1. after_on lenient (tok k.Dot) (name · g.maybe binds) d l c1 r1 _
    ∙ bind_same (one (is k.Dot) c1 r1) _ _ (λ x c2 r2. both_on lenient name (g.maybe binds) d l c2 r2 _ ∙ name_on lenient d l c2 r2 _))

-- ---- patterns of a `case`

pub pat_any : (lenient : Bool) → (d l c : ℕ) (ts : List Sighted) (f : Face) (r : List Sighted) → at_first (is k.Underscore) ts ≡ true → Takes (is k.Underscore) ts f r → read lenient Pattern d l c ts ≡ got (p.Any f.span) c r
pat_any lenient d l c ts f r h takes = step lenient Pattern d l c ts ∙ chosen (at_first (is k.Underscore) ts) true _ _ h
    ∙ gives_on lenient (λ f. f.span) (tok k.Underscore) d l c ts _ ∙ mark_on lenient (is k.Underscore) d l c ts f r _ takes

pub pat_literal : (lenient : Bool) → (d l c : ℕ) (ts : List Sighted) → at_first (is k.Underscore) ts ≡ false → at_first starts_literal ts ≡ true → read lenient Pattern d l c ts ≡ (literal_part lenient d l c ts >>= (λ x c' r. got (p.Literal x.0 x.1) c' r))
unfolding literal_part
pat_literal lenient d l c ts h0 h = step lenient Pattern d l c ts ∙ chosen (at_first (is k.Underscore) ts) false _ _ h0 ∙ chosen (at_first starts_literal ts) true _ _ h

pub pat_nil : (lenient : Bool) → (d l c : ℕ) (ts : List Sighted) (f : Face) (r : List Sighted) → at_first (is k.Underscore) ts ≡ false → at_first starts_literal ts ≡ false → at_first (is k.Nil) ts ≡ true → Takes (is k.Nil) ts f r → read lenient Pattern d l c ts ≡ got (p.Nil f.span) c r
pat_nil lenient d l c ts f r h0 h1 h takes = step lenient Pattern d l c ts ∙ chosen (at_first (is k.Underscore) ts) false _ _ h0 ∙ chosen (at_first starts_literal ts) false _ _ h1 ∙ chosen (at_first (is k.Nil) ts) true _ _ h
    ∙ gives_on lenient (λ f. f.span) (tok k.Nil) d l c ts _ ∙ mark_on lenient (is k.Nil) d l c ts f r _ takes

abbrev cased : P PatternTree
cased = g.gives (λ x. p.Case x.0 x.1.0 x.1.1.0 x.1.1.1) (g.maybe name · place k.Dot · name · g.maybe binds)

-- from the `.` of a case on
case_rest : (lenient : Bool) → (outer : Option Name) (d l c : ℕ) (ts : List Sighted) → (read_part lenient (place k.Dot · name · g.maybe binds) d l c ts >>= (λ x c' r. got (p.Case outer x.0 x.1.0 x.1.1) c' r)) ≡ case_part lenient d l c outer ts
unfolding case_part binds_part
case_rest lenient outer d l c ts = both_on lenient (place k.Dot) (name · g.maybe binds) d l c ts _
    ∙ gives_on lenient (λ f. f.span) (tok k.Dot) d l c ts _
    ∙ bind_same (one (is k.Dot) c ts) _ _ (λ f c1 r1. both_on lenient name (g.maybe binds) d l c1 r1 _ ∙ name_on lenient d l c1 r1 _)

pub pat_case : (lenient : Bool) → (d l c : ℕ) (ts : List Sighted) → at_first (is k.Underscore) ts ≡ false → at_first starts_literal ts ≡ false → at_first (is k.Nil) ts ≡ false
    → read lenient Pattern d l c ts ≡ (type_part lenient d l c ts >>= (λ outer c' r. case_part lenient d l c' outer r))
unfolding type_part
pat_case lenient d l c ts h0 h1 h2 = step lenient Pattern d l c ts ∙ chosen (at_first (is k.Underscore) ts) false _ _ h0 ∙ chosen (at_first starts_literal ts) false _ _ h1 ∙ chosen (at_first (is k.Nil) ts) false _ _ h2
    ∙ both_on lenient (g.maybe name) (place k.Dot · name · g.maybe binds) d l c ts _
    ∙ bind_same (type_part lenient d l c ts) _ _ (λ outer c' r. case_rest lenient outer d l c' r)

pub type_none : (lenient : Bool) → (d l c : ℕ) (ts : List Sighted) → at_first is_name ts ≡ false → type_part lenient d l c ts ≡ got None c ts
unfolding type_part
type_none lenient d l c ts h = maybe_none lenient name d l c ts h

pub type_some : (lenient : Bool) → (d l c : ℕ) (ts : List Sighted) (f : Face) (r : List Sighted) → at_first is_name ts ≡ true → Takes is_name ts f r → type_part lenient d l c ts ≡ got (Some (name_of f)) c r
unfolding type_part
type_some lenient d l c ts f r h takes = maybe_some lenient name d l c ts h ∙ name_on lenient d l c ts _ ∙ mark_on lenient is_name d l c ts f r _ takes

-- ---- literals, whose expressions stand in no other

pub literal_integer : (lenient : Bool) → (d l c : ℕ) (ts : List Sighted) (f : Face) (r : List Sighted) → at_first (is k.Integer) ts ≡ true → Takes (is k.Integer) ts f r → literal_part lenient d l c ts ≡ got (f.span, integer_of f) c r
unfolding literal_part
literal_integer lenient d l c ts f r h takes = chosen (at_first (is k.Integer) ts) true _ _ h ∙ mark_on lenient (is k.Integer) d l c ts f r _ takes

pub literal_bool : (lenient : Bool) → (d l c : ℕ) (ts : List Sighted) (f : Face) (r : List Sighted) → at_first (is k.Integer) ts ≡ false → at_first is_bool ts ≡ true → Takes is_bool ts f r → literal_part lenient d l c ts ≡ got (f.span, literal.Bool (bool_of f.kind)) c r
unfolding literal_part
literal_bool lenient d l c ts f r h0 h takes = chosen (at_first (is k.Integer) ts) false _ _ h0 ∙ chosen (at_first is_bool ts) true _ _ h ∙ mark_on lenient is_bool d l c ts f r _ takes

pub literal_string : (lenient : Bool) → (d l c : ℕ) (ts : List Sighted) (f : Face) (r : List Sighted) → at_first (is k.Integer) ts ≡ false → at_first is_bool ts ≡ false → at_first (is k.StringWhole) ts ≡ true → Takes (is k.StringWhole) ts f r
    → literal_part lenient d l c ts ≡ got (f.span, literal.String f.text []) c r
unfolding literal_part
literal_string lenient d l c ts f r h0 h1 h takes = chosen (at_first (is k.Integer) ts) false _ _ h0 ∙ chosen (at_first is_bool ts) false _ _ h1 ∙ chosen (at_first (is k.StringWhole) ts) true _ _ h ∙ mark_on lenient (is k.StringWhole) d l c ts f r _ takes

abbrev piece : P (Face × ExprTree)
piece = tok k.StringMiddle · whole_expr

abbrev with_pieces : P (Face × (ExprTree × (List (Face × ExprTree) × Face)))
with_pieces = tok k.StringStart · whole_expr · g.many piece · tok k.StringLast

abbrev string_of : Face × (ExprTree × (List (Face × ExprTree) × Face)) → Span × Literal
string_of x = (x.0.span, literal.String x.0.text (pieces_of x.1.0 x.1.1.0 x.1.1.1))

string_step : (lenient : Bool) → (d l c : ℕ) (ts : List Sighted) → at_first (is k.Integer) ts ≡ false → at_first is_bool ts ≡ false → at_first (is k.StringWhole) ts ≡ false → literal_part lenient d l c ts ≡ (read_part lenient (g.nest with_pieces) d l c ts >>= (λ x c' r. got (string_of x) c' r))
unfolding literal_part
string_step lenient d l c ts h0 h1 h2 = chosen (at_first (is k.Integer) ts) false _ _ h0 ∙ chosen (at_first is_bool ts) false _ _ h1 ∙ chosen (at_first (is k.StringWhole) ts) false _ _ h2

pub string_deep : (lenient : Bool) → (d l c : ℕ) (ts : List Sighted) → at_first (is k.Integer) ts ≡ false → at_first is_bool ts ≡ false → at_first (is k.StringWhole) ts ≡ false → at_first (is k.StringStart) ts ≡ true → d ≡ 0 → literal_part lenient d l c ts ≡ rejected over_budget ts
string_deep lenient d l c ts h0 h1 h2 h z = string_step lenient d l c ts h0 h1 h2 ∙ ap (λ o. o >>= (λ x c' r. got (string_of x) c' r)) (opened_over_budget lenient with_pieces d l c ts z h)

pub string_open : (lenient : Bool) → (d l c : ℕ) (ts : List Sighted) (f : Face) (r : List Sighted) → at_first (is k.Integer) ts ≡ false → at_first is_bool ts ≡ false → at_first (is k.StringWhole) ts ≡ false → (d ≡ 0 → ⊥) → Takes (is k.StringStart) ts f r
    → literal_part lenient d l c ts ≡ (read lenient Expr (d - 1) l l r >>= (λ x _ r'. pieces_rest lenient (d - 1) l c f.span f.text [] x r'))
unfolding pieces_rest
string_open lenient d l c ts f r h0 h1 h2 z takes = string_step lenient d l c ts h0 h1 h2
    ∙ ap (λ o. o >>= (λ x c' r. got (string_of x) c' r)) (opened lenient with_pieces d l c ts z)
    ∙ led_on lenient (is k.StringStart) (whole_expr · g.many piece · tok k.StringLast) (d - 1) l c ts f r _ takes
    ∙ both_on lenient whole_expr (g.many piece · tok k.StringLast) (d - 1) l c r _
    ∙ limited_on lenient (g.nonterminal Expr) (d - 1) l c r _
    ∙ bind_same (read lenient Expr (d - 1) l l r) _ _ (λ x _ r'. both_on lenient (g.many piece) (tok k.StringLast) (d - 1) l c r' _)

-- the rest of a string
pieces_more_of : (done : List StringPiece) (x : ExprTree) (m : Face) (y : ExprTree) (xs : List (Face × ExprTree)) (last : Face)
    → done ++ pieces_of x ((m, y) ∷ xs) last ≡ (done ++ record { value = x; text = m.text } ∷ []) ++ pieces_of y xs last
pieces_more_of done x m y xs last = sym (append_assoc done (record { value = x; text = m.text } ∷ []) (pieces_of y xs last))

abbrev ended : Span → Text → (List (Face × ExprTree) → Face → List StringPiece) → List (Face × ExprTree) → ℕ → List Sighted → Out Sighted (Span × Literal)
ended at text pieces xs c r = one (is k.StringLast) c r >>= (λ last c' r'. got (at, literal.String text (pieces xs last)) c' r')

pub pieces_last : (lenient : Bool) → (d l c : ℕ) (at : Span) (text : Text) (done : List StringPiece) (x : ExprTree) (ts : List Sighted) → at_first (is k.StringMiddle) ts ≡ false
    → pieces_rest lenient d l c at text done x ts ≡ (one (is k.StringLast) c ts >>= (λ last c' r. got (at, literal.String text (done ++ record { value = x; text = last.text } ∷ [])) c' r))
unfolding pieces_rest
pieces_last lenient d l c at text done x ts h = ap (λ o. o >>= ended at text (λ xs last. done ++ pieces_of x xs last)) (turn lenient piece (tt, tt, λ t e h. cc) refl d l c ts ∙ chosen (at_first (is k.StringMiddle) ts) false _ (got [] c ts) h)

pub pieces_more : (lenient : Bool) → (d l c : ℕ) (at : Span) (text : Text) (done : List StringPiece) (x : ExprTree) (ts : List Sighted) (m : Face) (r : List Sighted) → at_first (is k.StringMiddle) ts ≡ true → Takes (is k.StringMiddle) ts m r
    → pieces_rest lenient d l c at text done x ts ≡ (read lenient Expr d l l r >>= (λ y _ r'. pieces_rest lenient d l c at text (done ++ record { value = x; text = m.text } ∷ []) y r'))
unfolding pieces_rest
pieces_more lenient d l c at text done x ts m r h takes =
    ap (λ o. o >>= ended at text (λ xs last. done ++ pieces_of x xs last)) (turn lenient piece (tt, tt, λ t e h. cc) refl d l c ts ∙ chosen (at_first (is k.StringMiddle) ts) true _ (got [] c ts) h)
    ∙ bind_assoc (read_part lenient piece d l c ts) _ _
    ∙ led_on lenient (is k.StringMiddle) whole_expr d l c ts m r _ takes
    ∙ limited_on lenient (g.nonterminal Expr) d l c r _
    ∙ bind_same (read lenient Expr d l l r) _ _ (λ y _ r'. bind_assoc (read_part lenient (g.many piece) d l c r') _ _
    ∙ bind_same (read_part lenient (g.many piece) d l c r') _ _ (λ ys c1 r1. bind_same (one (is k.StringLast) c1 r1) _ _ (λ last c2 r2. ap (λ pieces. got (at, literal.String text pieces) c2 r2) (pieces_more_of done x m y ys last))))
