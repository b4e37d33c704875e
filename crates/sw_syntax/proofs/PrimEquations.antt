-- How operands are read: literals, names, brackets and arrays.
use Rattle.std.proofs.Common.{◌≡◌, ℕ, zero, suc, ◌-◌, Bool, true, false, ◌||◌, Option, Some, None, List, [], ◌∷◌, ◌++◌, refl, sym, ap, ◌∙◌, append_assoc, append-nil, arith}
use Rattle.sw_base.specs.declared.ids.Span.{Span}
use Rattle.sw_lex.specs.declared.token.TokenKind.TheVariants as k
use Rattle.sw_lex.specs.Bytes.{Text}
use Rattle.sw_grammar.specs.Grammar as g
use Rattle.sw_grammar.specs.Reading.{Out, got, rejected, out_of_fuel, over_budget, unexpected, ◌>>=◌, at_first, one}
use Rattle.sw_tree.specs.declared.expr.Name.{Name}
use Rattle.sw_tree.specs.declared.expr.Expr.{Expr as ExprTree}
use Rattle.sw_tree.specs.declared.expr.Expr.TheVariants as e
use Rattle.sw_tree.specs.declared.expr.Literal.{Literal}
use Rattle.sw_tree.specs.declared.expr.Literal.TheVariants as literal
use Rattle.sw_tree.specs.declared.expr.StringPiece.{StringPiece}
use Rattle.sw_syntax.specs.Tokens.{Sighted, Face}
use Rattle.sw_syntax.specs.Tests.{is, is_name, is_bool, starts_literal, starts_expr}
use Rattle.sw_syntax.specs.Values.{or_none, or_some, name_of, integer_of, bool_of, pieces_of}
use Rattle.sw_syntax.specs.Nonterminals.{Expr, Primary, Elements}
use Rattle.sw_syntax.specs.Parts.{P, ◌·◌, tok, place, name, after}
use Rattle.sw_syntax.specs.Grammar.{literal_with}
use Rattle.sw_syntax.specs.Answering.{read, read_part, Takes}
use Rattle.sw_syntax.specs.Chains.{IsLater, string_rest, element_list, more_elements}
use Rattle.sw_syntax.proofs.Equations.{step, bind_assoc, bind_same, bind_then, bracketed, chosen, turn, one_none, opened, opened_over_budget, first_left, first_right}

-- ---- literals

abbrev literal_part : P (Span × Literal)
literal_part = literal_with (g.nonterminal Expr)

abbrev told : Out Sighted (Span × Literal) → Out Sighted ExprTree
told o = o >>= (λ x c r. got (e.Literal x.0 x.1) c r)

primary_literal : (lenient : Bool) → (d l c : ℕ) (ts : List Sighted) → at_first starts_literal ts ≡ true → read lenient Primary d l c ts ≡ told (read_part lenient literal_part d l c ts)
primary_literal lenient d l c ts h = step lenient Primary d l c ts ∙ chosen (at_first starts_literal ts) true _ _ h

pub primary_integer : (lenient : Bool) → (d l c : ℕ) (ts : List Sighted) (f : Face) (r : List Sighted) → at_first (is k.Integer) ts ≡ true → Takes (is k.Integer) ts f r
    → read lenient Primary d l c ts ≡ got (e.Literal f.span (integer_of f)) c r
primary_integer lenient d l c ts f r h takes =
    primary_literal lenient d l c ts (first_left (is k.Integer) (λ t. is_bool t || (is k.StringWhole t || is k.StringStart t)) ts h)
    ∙ ap told (chosen (at_first (is k.Integer) ts) true _ _ h)
    ∙ ap (λ o. told (o >>= (λ f c r. got (f.span, integer_of f) c r))) (takes c)

abbrev not_integer : List Sighted → Type 0
not_integer ts = at_first (is k.Integer) ts ≡ false

pub primary_bool : (lenient : Bool) → (d l c : ℕ) (ts : List Sighted) (f : Face) (r : List Sighted) → at_first (is k.Integer) ts ≡ false → at_first is_bool ts ≡ true → Takes is_bool ts f r
    → read lenient Primary d l c ts ≡ got (e.Literal f.span (literal.Bool (bool_of f.kind))) c r
primary_bool lenient d l c ts f r h0 h takes =
    primary_literal lenient d l c ts (first_right (is k.Integer) (λ t. is_bool t || (is k.StringWhole t || is k.StringStart t)) ts (first_left is_bool (λ t. is k.StringWhole t || is k.StringStart t) ts h))
    ∙ ap told (chosen (at_first (is k.Integer) ts) false _ _ h0 ∙ chosen (at_first is_bool ts) true _ _ h)
    ∙ ap (λ o. told (o >>= (λ f c r. got (f.span, literal.Bool (bool_of f.kind)) c r))) (takes c)

pub primary_string : (lenient : Bool) → (d l c : ℕ) (ts : List Sighted) (f : Face) (r : List Sighted) → at_first (is k.Integer) ts ≡ false → at_first is_bool ts ≡ false → at_first (is k.StringWhole) ts ≡ true → Takes (is k.StringWhole) ts f r
    → read lenient Primary d l c ts ≡ got (e.Literal f.span (literal.String f.text [])) c r
primary_string lenient d l c ts f r h0 h1 h takes =
    primary_literal lenient d l c ts (first_right (is k.Integer) (λ t. is_bool t || (is k.StringWhole t || is k.StringStart t)) ts (first_right is_bool (λ t. is k.StringWhole t || is k.StringStart t) ts (first_left (is k.StringWhole) (is k.StringStart) ts h)))
    ∙ ap told (chosen (at_first (is k.Integer) ts) false _ _ h0 ∙ chosen (at_first is_bool ts) false _ _ h1 ∙ chosen (at_first (is k.StringWhole) ts) true _ _ h)
    ∙ ap (λ o. told (o >>= (λ f c r. got (f.span, literal.String f.text []) c r))) (takes c)

-- ---- strings with expressions

abbrev piece : P (Face × ExprTree)
piece = tok k.StringMiddle · g.nonterminal Expr

abbrev Parts : Type 0
Parts = Face × (ExprTree × (List (Face × ExprTree) × Face))

abbrev with_pieces : P Parts
with_pieces = tok k.StringStart · g.nonterminal Expr · g.many piece · tok k.StringLast

abbrev string_told : Out Sighted Parts → Out Sighted ExprTree
string_told o = told (o >>= (λ x c r. got (x.0.span, literal.String x.0.text (pieces_of x.1.0 x.1.1.0 x.1.1.1)) c r))

string_step : (lenient : Bool) → (d l c : ℕ) (ts : List Sighted) → at_first (is k.Integer) ts ≡ false → at_first is_bool ts ≡ false → at_first (is k.StringWhole) ts ≡ false → at_first (is k.StringStart) ts ≡ true
    → read lenient Primary d l c ts ≡ string_told (read_part lenient (g.nest with_pieces) d l c ts)
string_step lenient d l c ts h0 h1 h2 h =
    primary_literal lenient d l c ts (first_right (is k.Integer) (λ t. is_bool t || (is k.StringWhole t || is k.StringStart t)) ts (first_right is_bool (λ t. is k.StringWhole t || is k.StringStart t) ts (first_right (is k.StringWhole) (is k.StringStart) ts h)))
    ∙ ap told (chosen (at_first (is k.Integer) ts) false _ _ h0 ∙ chosen (at_first is_bool ts) false _ _ h1 ∙ chosen (at_first (is k.StringWhole) ts) false _ _ h2)

pub string_deep : (lenient : Bool) → (d l c : ℕ) (ts : List Sighted) → at_first (is k.Integer) ts ≡ false → at_first is_bool ts ≡ false → at_first (is k.StringWhole) ts ≡ false → at_first (is k.StringStart) ts ≡ true → d ≡ 0
    → read lenient Primary d l c ts ≡ rejected over_budget ts
string_deep lenient d l c ts h0 h1 h2 h z = string_step lenient d l c ts h0 h1 h2 h ∙ ap string_told (opened_over_budget lenient with_pieces d l c ts z h)

string_shape : (f : Face) (o : Out Sighted ExprTree) (q : ℕ → List Sighted → Out Sighted (List (Face × ExprTree))) (s : ℕ → List Sighted → Out Sighted Face)
    → string_told ((o >>= (λ x c r. (q c r >>= (λ xs c' r'. s c' r' >>= (λ last c'' r''. got (xs, last) c'' r''))) >>= (λ y c' r'. got (x, y) c' r'))) >>= (λ y c' r'. got (f, y) c' r'))
    ≡ (o >>= (λ x c r. q c r >>= (λ xs c' r'. s c' r' >>= (λ last c'' r''. got (e.Literal f.span (literal.String f.text ([] ++ pieces_of x xs last))) c'' r''))))
string_shape f (got x c r) q s = go (q c r)
  where
    last_of : (xs : List (Face × ExprTree)) (o : Out Sighted Face) → string_told (((o >>= (λ last c'' r''. got (xs, last) c'' r'')) >>= (λ y c' r'. got (x, y) c' r')) >>= (λ y c' r'. got (f, y) c' r')) ≡ (o >>= (λ last c'' r''. got (e.Literal f.span (literal.String f.text ([] ++ pieces_of x xs last))) c'' r''))
    last_of xs (got last c r) = refl
    last_of xs (rejected reason r) = refl
    last_of xs out_of_fuel = refl

    go : (o : Out Sighted (List (Face × ExprTree))) → string_told (((o >>= (λ xs c' r'. s c' r' >>= (λ last c'' r''. got (xs, last) c'' r''))) >>= (λ y c' r'. got (x, y) c' r')) >>= (λ y c' r'. got (f, y) c' r')) ≡ (o >>= (λ xs c' r'. s c' r' >>= (λ last c'' r''. got (e.Literal f.span (literal.String f.text ([] ++ pieces_of x xs last))) c'' r'')))
    go (got xs c r) = last_of xs (s c r)
    go (rejected reason r) = refl
    go out_of_fuel = refl
string_shape f (rejected reason r) q s = refl
string_shape f out_of_fuel q s = refl

pub string_open : (lenient : Bool) → (d l c : ℕ) (ts : List Sighted) (f : Face) (r : List Sighted) → at_first (is k.Integer) ts ≡ false → at_first is_bool ts ≡ false → at_first (is k.StringWhole) ts ≡ false → at_first (is k.StringStart) ts ≡ true → (d ≡ 0 → ⊥) → Takes (is k.StringStart) ts f r
    → read lenient Primary d l c ts ≡ (read lenient Expr (d - 1) l c r >>= (λ x c' r'. string_rest lenient (d - 1) l c' f.span f.text [] x r'))
unfolding string_rest
string_open lenient d l c ts f r h0 h1 h2 h z takes = string_step lenient d l c ts h0 h1 h2 h
    ∙ ap string_told (opened lenient with_pieces d l c ts z)
    ∙ ap (λ o. string_told (o >>= (λ f c1 r1. (read lenient Expr (d - 1) l c1 r1 >>= (λ x c r. (read_part lenient (g.many piece) (d - 1) l c r >>= (λ xs c' r'. one (is k.StringLast) c' r' >>= (λ last c'' r''. got (xs, last) c'' r''))) >>= (λ y c' r'. got (x, y) c' r'))) >>= (λ y c' r'. got (f, y) c' r')))) (takes c)
    ∙ string_shape f (read lenient Expr (d - 1) l c r) (λ c r. read_part lenient (g.many piece) (d - 1) l c r) (λ c r. one (is k.StringLast) c r)

-- ---- names and marks

pub primary_nil : (lenient : Bool) → (d l c : ℕ) (ts : List Sighted) (f : Face) (r : List Sighted) → at_first starts_literal ts ≡ false → at_first (is k.Nil) ts ≡ true → Takes (is k.Nil) ts f r → read lenient Primary d l c ts ≡ got (e.Nil f.span) c r
primary_nil lenient d l c ts f r h0 h takes = step lenient Primary d l c ts ∙ chosen (at_first starts_literal ts) false _ _ h0 ∙ chosen (at_first (is k.Nil) ts) true _ _ h
    ∙ ap (λ o. (o >>= (λ f c r. got f.span c r)) >>= (λ x c r. got (e.Nil x) c r)) (takes c)

pub primary_name : (lenient : Bool) → (d l c : ℕ) (ts : List Sighted) (f : Face) (r : List Sighted) → at_first starts_literal ts ≡ false → at_first (is k.Nil) ts ≡ false → at_first is_name ts ≡ true → Takes is_name ts f r → read lenient Primary d l c ts ≡ got (e.Name (name_of f)) c r
primary_name lenient d l c ts f r h0 h1 h takes = step lenient Primary d l c ts ∙ chosen (at_first starts_literal ts) false _ _ h0 ∙ chosen (at_first (is k.Nil) ts) false _ _ h1 ∙ chosen (at_first is_name ts) true _ _ h
    ∙ ap (λ o. (o >>= (λ f c r. got (name_of f) c r)) >>= (λ x c r. got (e.Name x) c r)) (takes c)

pub primary_self : (lenient : Bool) → (d l c : ℕ) (ts : List Sighted) (f : Face) (r : List Sighted) → at_first starts_literal ts ≡ false → at_first (is k.Nil) ts ≡ false → at_first is_name ts ≡ false → at_first (is k.Self_) ts ≡ true → Takes (is k.Self_) ts f r
    → read lenient Primary d l c ts ≡ got (e.SelfValue f.span) c r
primary_self lenient d l c ts f r h0 h1 h2 h takes = step lenient Primary d l c ts ∙ chosen (at_first starts_literal ts) false _ _ h0 ∙ chosen (at_first (is k.Nil) ts) false _ _ h1 ∙ chosen (at_first is_name ts) false _ _ h2 ∙ chosen (at_first (is k.Self_) ts) true _ _ h
    ∙ ap (λ o. (o >>= (λ f c r. got f.span c r)) >>= (λ x c r. got (e.SelfValue x) c r)) (takes c)

abbrev later_parts : P ExprTree
later_parts = g.either (g.gives (λ x. e.Implicit x.0 x.1) (place k.Dot · name)) (g.either (g.gives (λ x. e.Paren x.0 x.1.0) (g.nest (place k.LeftParen · g.nonterminal Expr · tok k.RightParen)))
    (g.gives (λ x. e.Array x.0 (or_none x.1.0)) (g.nest (place k.LeftBracket · g.maybe (g.nonterminal Elements) · tok k.RightBracket))))

later : (lenient : Bool) → (d l c : ℕ) (ts : List Sighted) → IsLater ts → read lenient Primary d l c ts ≡ read_part lenient later_parts d l c ts
later lenient d l c ts (h0, h1, h2, h3) = step lenient Primary d l c ts ∙ chosen (at_first starts_literal ts) false _ _ h0 ∙ chosen (at_first (is k.Nil) ts) false _ _ h1 ∙ chosen (at_first is_name ts) false _ _ h2 ∙ chosen (at_first (is k.Self_) ts) false _ _ h3

implied_member : (at : Span) (o : Out Sighted Face) → (((o >>= (λ n c r. got (name_of n) c r)) >>= (λ n c r. got (at, n) c r)) >>= (λ (x : Span × Name) c r. got (e.Implicit x.0 x.1) c r)) ≡ (o >>= (λ n c r. got (e.Implicit at (name_of n)) c r))
implied_member at (got n c r) = refl
implied_member at (rejected reason r) = refl
implied_member at out_of_fuel = refl

pub primary_implicit : (lenient : Bool) → (d l c : ℕ) (ts : List Sighted) (f : Face) (r : List Sighted) → IsLater ts → at_first (is k.Dot) ts ≡ true → Takes (is k.Dot) ts f r
    → read lenient Primary d l c ts ≡ (one is_name c r >>= (λ n c' r'. got (e.Implicit f.span (name_of n)) c' r'))
primary_implicit lenient d l c ts f r others h takes = later lenient d l c ts others ∙ chosen (at_first (is k.Dot) ts) true _ _ h
    ∙ ap (λ o. ((o >>= (λ f c r. got f.span c r)) >>= (λ at c r. read_part lenient name d l c r >>= (λ n c' r'. got (at, n) c' r'))) >>= (λ (x : Span × Name) c r. got (e.Implicit x.0 x.1) c r)) (takes c)
    ∙ implied_member f.span (one is_name c r)

-- ---- brackets

abbrev paren : P (Span × (ExprTree × Face))
paren = place k.LeftParen · g.nonterminal Expr · tok k.RightParen

abbrev paren_told : Out Sighted (Span × (ExprTree × Face)) → Out Sighted ExprTree
paren_told o = o >>= (λ x c r. got (e.Paren x.0 x.1.0) c r)

paren_step : (lenient : Bool) → (d l c : ℕ) (ts : List Sighted) → IsLater ts → at_first (is k.Dot) ts ≡ false → at_first (is k.LeftParen) ts ≡ true → read lenient Primary d l c ts ≡ paren_told (read_part lenient (g.nest paren) d l c ts)
paren_step lenient d l c ts others h0 h = later lenient d l c ts others ∙ chosen (at_first (is k.Dot) ts) false _ _ h0 ∙ chosen (at_first (is k.LeftParen) ts) true _ _ h

pub paren_deep : (lenient : Bool) → (d l c : ℕ) (ts : List Sighted) → IsLater ts → at_first (is k.Dot) ts ≡ false → at_first (is k.LeftParen) ts ≡ true → d ≡ 0 → read lenient Primary d l c ts ≡ rejected over_budget ts
paren_deep lenient d l c ts others h0 h z = paren_step lenient d l c ts others h0 h ∙ ap paren_told (opened_over_budget lenient paren d l c ts z h)

pub primary_paren : (lenient : Bool) → (d l c : ℕ) (ts : List Sighted) (f : Face) (r : List Sighted) → IsLater ts → at_first (is k.Dot) ts ≡ false → at_first (is k.LeftParen) ts ≡ true → (d ≡ 0 → ⊥) → Takes (is k.LeftParen) ts f r
    → read lenient Primary d l c ts ≡ (read lenient Expr (d - 1) l c r >>= (λ x c' r'. one (is k.RightParen) c' r' >>= (λ _ c'' r''. got (e.Paren f.span x) c'' r'')))
primary_paren lenient d l c ts f r others h0 h z takes = paren_step lenient d l c ts others h0 h ∙ ap paren_told (opened lenient paren d l c ts z)
    ∙ bracketed (read_part lenient (place k.LeftParen) (d - 1) l c ts) (λ c r. read lenient Expr (d - 1) l c r) (λ c r. one (is k.RightParen) c r) (λ x. e.Paren x.0 x.1.0)
    ∙ ap (λ o. (o >>= (λ f c r. got f.span c r)) >>= (λ at c r. read lenient Expr (d - 1) l c r >>= (λ x c' r'. one (is k.RightParen) c' r' >>= (λ _ c'' r''. got (e.Paren at x) c'' r'')))) (takes c)

-- ---- arrays

abbrev array : P (Span × (Option (List ExprTree) × Face))
array = place k.LeftBracket · g.maybe (g.nonterminal Elements) · tok k.RightBracket

abbrev array_told : Out Sighted (Span × (Option (List ExprTree) × Face)) → Out Sighted ExprTree
array_told o = o >>= (λ x c r. got (e.Array x.0 (or_none x.1.0)) c r)

array_step : (lenient : Bool) → (d l c : ℕ) (ts : List Sighted) → IsLater ts → at_first (is k.Dot) ts ≡ false → at_first (is k.LeftParen) ts ≡ false → read lenient Primary d l c ts ≡ array_told (read_part lenient (g.nest array) d l c ts)
array_step lenient d l c ts others h0 h1 = later lenient d l c ts others ∙ chosen (at_first (is k.Dot) ts) false _ _ h0 ∙ chosen (at_first (is k.LeftParen) ts) false _ _ h1

pub array_deep : (lenient : Bool) → (d l c : ℕ) (ts : List Sighted) → IsLater ts → at_first (is k.Dot) ts ≡ false → at_first (is k.LeftParen) ts ≡ false → at_first (is k.LeftBracket) ts ≡ true → d ≡ 0 → read lenient Primary d l c ts ≡ rejected over_budget ts
array_deep lenient d l c ts others h0 h1 h z = array_step lenient d l c ts others h0 h1 ∙ ap array_told (opened_over_budget lenient array d l c ts z h)

abbrev with_elements : (lenient : Bool) → ℕ → ℕ → ℕ → Span → List Sighted → Out Sighted ExprTree
with_elements lenient d l c at r = element_list lenient d l c r >>= (λ xs c' r'. one (is k.RightBracket) c' r' >>= (λ _ c'' r''. got (e.Array at xs) c'' r''))

elements_of : (at : Span) (o : Out Sighted (Option (List ExprTree))) (q : ℕ → List Sighted → Out Sighted Face)
    → (o >>= (λ xs c r. q c r >>= (λ z c' r'. got (e.Array at (or_none xs)) c' r'))) ≡ ((o >>= (λ xs c r. got (or_none xs) c r)) >>= (λ xs c r. q c r >>= (λ _ c' r'. got (e.Array at xs) c' r')))
elements_of at (got xs c r) q = refl
elements_of at (rejected reason r) q = refl
elements_of at out_of_fuel q = refl

pub primary_array : (lenient : Bool) → (d l c : ℕ) (ts : List Sighted) (f : Face) (r : List Sighted) → IsLater ts → at_first (is k.Dot) ts ≡ false → at_first (is k.LeftParen) ts ≡ false → (d ≡ 0 → ⊥) → Takes (is k.LeftBracket) ts f r
    → read lenient Primary d l c ts ≡ (element_list lenient (d - 1) l c r >>= (λ xs c' r'. one (is k.RightBracket) c' r' >>= (λ _ c'' r''. got (e.Array f.span xs) c'' r'')))
unfolding element_list
primary_array lenient d l c ts f r others h0 h1 z takes = array_step lenient d l c ts others h0 h1 ∙ ap array_told (opened lenient array d l c ts z)
    ∙ bracketed (read_part lenient (place k.LeftBracket) (d - 1) l c ts) (λ c r. read_part lenient (g.maybe (g.nonterminal Elements)) (d - 1) l c r) (λ c r. one (is k.RightBracket) c r) (λ x. e.Array x.0 (or_none x.1.0))
    ∙ ap (λ o. (o >>= (λ f c r. got f.span c r)) >>= (λ at c r. read_part lenient (g.maybe (g.nonterminal Elements)) (d - 1) l c r >>= (λ xs c' r'. one (is k.RightBracket) c' r' >>= (λ z c'' r''. got (e.Array at (or_none xs)) c'' r'')))) (takes c)
    ∙ elements_of f.span (read_part lenient (g.maybe (g.nonterminal Elements)) (d - 1) l c r) (λ c r. one (is k.RightBracket) c r)

-- no operand begins with the token
pub primary_none : (lenient : Bool) → (d l c : ℕ) (ts : List Sighted) → IsLater ts → at_first (is k.Dot) ts ≡ false → at_first (is k.LeftParen) ts ≡ false → (d ≡ 0 → ⊥) → at_first (is k.LeftBracket) ts ≡ false → read lenient Primary d l c ts ≡ rejected unexpected ts
primary_none lenient d l c ts others h0 h1 z h = array_step lenient d l c ts others h0 h1 ∙ ap array_told (opened lenient array d l c ts z)
    ∙ ap (λ o. array_told ((o >>= (λ f c r. got f.span c r)) >>= (λ at c r. (read_part lenient (g.maybe (g.nonterminal Elements)) (d - 1) l c r >>= (λ xs c' r'. one (is k.RightBracket) c' r' >>= (λ z c'' r''. got (xs, z) c'' r''))) >>= (λ y c' r'. got (at, y) c' r')))) (one_none (is k.LeftBracket) c ts h)

pub primary_none_deep : (lenient : Bool) → (d l c : ℕ) (ts : List Sighted) → IsLater ts → at_first (is k.Dot) ts ≡ false → at_first (is k.LeftParen) ts ≡ false → d ≡ 0 → at_first (is k.LeftBracket) ts ≡ false → read lenient Primary d l c ts ≡ rejected unexpected ts
primary_none_deep lenient zero l c ts others h0 h1 z h = array_step lenient zero l c ts others h0 h1 ∙ ap array_told (chosen (at_first (is k.LeftBracket) ts) false (rejected over_budget ts) (rejected unexpected ts) h)
primary_none_deep lenient (suc d) l c ts others h0 h1 z h = absurd (omega (arith, z))

pub array_none : (lenient : Bool) (d l c : ℕ) (ts : List Sighted) → IsLater ts → at_first (is k.Dot) ts ≡ false → at_first (is k.LeftParen) ts ≡ false → at_first (is k.LeftBracket) ts ≡ false → read lenient Primary d l c ts ≡ rejected unexpected ts
array_none lenient zero l c ts others h0 h1 h = primary_none_deep lenient 0 l c ts others h0 h1 refl h
array_none lenient (suc d) l c ts others h0 h1 h = primary_none lenient (suc d) l c ts others h0 h1 (λ e. absurd (omega (arith, e))) h

-- ---- the rest of a string

pieces_more : (done : List StringPiece) (x : ExprTree) (m : Face) (y : ExprTree) (xs : List (Face × ExprTree)) (last : Face)
    → done ++ pieces_of x ((m, y) ∷ xs) last ≡ (done ++ record { value = x; text = m.text } ∷ []) ++ pieces_of y xs last
pieces_more done x m y xs last = sym (append_assoc done (record { value = x; text = m.text } ∷ []) (pieces_of y xs last))

abbrev piece_list : (lenient : Bool) → ℕ → ℕ → ℕ → List Sighted → Out Sighted (List (Face × ExprTree))
piece_list lenient d l c ts = read_part lenient (g.many piece) d l c ts

abbrev ended : Span → Text → (List (Face × ExprTree) → Face → List StringPiece) → Out Sighted (List (Face × ExprTree)) → Out Sighted ExprTree
ended at text pieces o = o >>= (λ xs c1 r1. one (is k.StringLast) c1 r1 >>= (λ last c2 r2. got (e.Literal at (literal.String text (pieces xs last))) c2 r2))

pub string_last : (lenient : Bool) → (d l c : ℕ) (at : Span) (text : Text) (done : List StringPiece) (x : ExprTree) (ts : List Sighted) → at_first (is k.StringMiddle) ts ≡ false
    → string_rest lenient d l c at text done x ts ≡ (one (is k.StringLast) c ts >>= (λ last c' r. got (e.Literal at (literal.String text (done ++ record { value = x; text = last.text } ∷ []))) c' r))
unfolding string_rest
string_last lenient d l c at text done x ts h = ap (ended at text (λ xs last. done ++ pieces_of x xs last)) (turn lenient piece (tt, tt, λ t e h. cc) refl d l c ts ∙ chosen (at_first (is k.StringMiddle) ts) false _ (got [] c ts) h)

middle_shape : (at : Span) (text : Text) (done : List StringPiece) (x : ExprTree) (m : Face) (o : Out Sighted ExprTree) (q : ℕ → List Sighted → Out Sighted (List (Face × ExprTree)))
    → ended at text (λ xs last. done ++ pieces_of x xs last) ((o >>= (λ y c r. got (m, y) c r)) >>= (λ y c r. q c r >>= (λ ys c' r'. got (y ∷ ys) c' r')))
    ≡ (o >>= (λ y c r. ended at text (λ xs last. (done ++ record { value = x; text = m.text } ∷ []) ++ pieces_of y xs last) (q c r)))
middle_shape at text done x m (got y c r) q = go (q c r)
  where
    last_of : (xs : List (Face × ExprTree)) (o : Out Sighted Face) → (o >>= (λ last c2 r2. got (e.Literal at (literal.String text (done ++ pieces_of x ((m, y) ∷ xs) last))) c2 r2))
        ≡ (o >>= (λ last c2 r2. got (e.Literal at (literal.String text ((done ++ record { value = x; text = m.text } ∷ []) ++ pieces_of y xs last))) c2 r2))
    last_of xs (got last c r) = ap (λ p. got (e.Literal at (literal.String text p)) c r) (pieces_more done x m y xs last)
    last_of xs (rejected reason r) = refl
    last_of xs out_of_fuel = refl

    go : (o : Out Sighted (List (Face × ExprTree))) → ended at text (λ xs last. done ++ pieces_of x xs last) (o >>= (λ ys c' r'. got ((m, y) ∷ ys) c' r'))
        ≡ ended at text (λ xs last. (done ++ record { value = x; text = m.text } ∷ []) ++ pieces_of y xs last) o
    go (got xs c r) = last_of xs (one (is k.StringLast) c r)
    go (rejected reason r) = refl
    go out_of_fuel = refl
middle_shape at text done x m (rejected reason r) q = refl
middle_shape at text done x m out_of_fuel q = refl

pub string_more : (lenient : Bool) → (d l c : ℕ) (at : Span) (text : Text) (done : List StringPiece) (x : ExprTree) (ts : List Sighted) (m : Face) (r : List Sighted) → at_first (is k.StringMiddle) ts ≡ true → Takes (is k.StringMiddle) ts m r
    → string_rest lenient d l c at text done x ts ≡ (read lenient Expr d l c r >>= (λ y c' r'. string_rest lenient d l c' at text (done ++ record { value = x; text = m.text } ∷ []) y r'))
unfolding string_rest
string_more lenient d l c at text done x ts m r h takes =
    ap (ended at text (λ xs last. done ++ pieces_of x xs last)) (turn lenient piece (tt, tt, λ t e h. cc) refl d l c ts ∙ chosen (at_first (is k.StringMiddle) ts) true _ (got [] c ts) h
    ∙ ap (λ o. (o >>= (λ m c1 r1. read lenient Expr d l c1 r1 >>= (λ y c2 r2. got (m, y) c2 r2))) >>= (λ y c r. piece_list lenient d l c r >>= (λ ys c' r'. got (y ∷ ys) c' r'))) (takes c))
    ∙ middle_shape at text done x m (read lenient Expr d l c r) (λ c r. piece_list lenient d l c r)

-- ---- elements

abbrev more_part : P (Option (List ExprTree))
more_part = after (tok k.Comma) (g.maybe (g.nonterminal Elements))

elements_step : (lenient : Bool) → (d l c : ℕ) (ts : List Sighted) → read lenient Elements d l c ts ≡ (read lenient Expr d l c ts >>= (λ x c' r. read_part lenient (g.maybe more_part) d l c' r >>= (λ y c'' r'. got (x ∷ or_none (or_some y)) c'' r')))
elements_step lenient d l c ts = step lenient Elements d l c ts ∙ bind_then (read lenient Expr d l c ts) (λ c r. read_part lenient (g.maybe more_part) d l c r) (λ x. x.0 ∷ or_none (or_some x.1))

element_list_some : (lenient : Bool) → (d l c : ℕ) (ts : List Sighted) → at_first starts_expr ts ≡ true → element_list lenient d l c ts ≡ read lenient Elements d l c ts
unfolding element_list
element_list_some lenient d l c ts h = ap (λ o. o >>= (λ xs c' r. got (or_none xs) c' r)) (chosen (at_first starts_expr ts) true (read lenient Elements d l c ts >>= (λ x c' r. got (Some x) c' r)) (got None c ts) h) ∙ same (read lenient Elements d l c ts)
  where
    same : (o : Out Sighted (List ExprTree)) → ((o >>= (λ x c r. got (Some x) c r)) >>= (λ xs c r. got (or_none xs) c r)) ≡ o
    same (got x c r) = refl
    same (rejected reason r) = refl
    same out_of_fuel = refl

element_list_none : (lenient : Bool) → (d l c : ℕ) (ts : List Sighted) → at_first starts_expr ts ≡ false → element_list lenient d l c ts ≡ got [] c ts
unfolding element_list
element_list_none lenient d l c ts h = ap (λ o. o >>= (λ xs c' r. got (or_none xs) c' r)) (chosen (at_first starts_expr ts) false (read lenient Elements d l c ts >>= (λ x c' r. got (Some x) c' r)) (got None c ts) h)

-- what follows an element: nothing more of the list, or a comma and the rest
tail_none : (lenient : Bool) → (d l c : ℕ) (x : ExprTree) (ts : List Sighted) → at_first (is k.Comma) ts ≡ false → (read_part lenient (g.maybe more_part) d l c ts >>= (λ y c'' r'. got (x ∷ or_none (or_some y)) c'' r')) ≡ got (x ∷ []) c ts
tail_none lenient d l c x ts h = ap (λ o. o >>= (λ y c'' r'. got (x ∷ or_none (or_some y)) c'' r')) (chosen (at_first (is k.Comma) ts) false _ (got None c ts) h)

tail_shape : (x : ExprTree) (f : Face) (o : Out Sighted (Option (List ExprTree)))
    → ((((o >>= (λ y c r. got (f, y) c r)) >>= (λ (z : Face × Option (List ExprTree)) c r. got z.1 c r)) >>= (λ y c r. got (Some y) c r)) >>= (λ y c r. got (x ∷ or_none (or_some y)) c r)) ≡ ((o >>= (λ xs c r. got (or_none xs) c r)) >>= (λ ys c r. got (x ∷ ys) c r))
tail_shape x f (got y c r) = refl
tail_shape x f (rejected reason r) = refl
tail_shape x f out_of_fuel = refl

tail_some : (lenient : Bool) → (d l c : ℕ) (x : ExprTree) (ts : List Sighted) (f : Face) (r : List Sighted) → at_first (is k.Comma) ts ≡ true → Takes (is k.Comma) ts f r
    → (read_part lenient (g.maybe more_part) d l c ts >>= (λ y c'' r'. got (x ∷ or_none (or_some y)) c'' r')) ≡ (element_list lenient d l c r >>= (λ ys c' r'. got (x ∷ ys) c' r'))
unfolding element_list
tail_some lenient d l c x ts f r h takes =
    ap (λ o. o >>= (λ y c'' r'. got (x ∷ or_none (or_some y)) c'' r')) (chosen (at_first (is k.Comma) ts) true (read_part lenient more_part d l c ts >>= (λ x c' r'. got (Some x) c' r')) (got None c ts) h
    ∙ ap (λ o. ((o >>= (λ f c1 r1. read_part lenient (g.maybe (g.nonterminal Elements)) d l c1 r1 >>= (λ y c2 r2. got (f, y) c2 r2))) >>= (λ (z : Face × Option (List ExprTree)) c2 r2. got z.1 c2 r2)) >>= (λ x c' r'. got (Some x) c' r')) (takes c))
    ∙ tail_shape x f (read_part lenient (g.maybe (g.nonterminal Elements)) d l c r)

pub more_elements_start : (lenient : Bool) (d l c : ℕ) (ts : List Sighted) → element_list lenient d l c ts ≡ more_elements lenient d l c [] ts
unfolding more_elements
more_elements_start lenient d l c ts = same (element_list lenient d l c ts)
  where
    same : (o : Out Sighted (List ExprTree)) → o ≡ (o >>= (λ ys c' r. got ([] ++ ys) c' r))
    same (got x c r) = refl
    same (rejected reason r) = refl
    same out_of_fuel = refl

pub more_elements_end : (lenient : Bool) → (d l c : ℕ) (xs : List ExprTree) (ts : List Sighted) → at_first starts_expr ts ≡ false → more_elements lenient d l c xs ts ≡ got xs c ts
unfolding more_elements
more_elements_end lenient d l c xs ts h = ap (λ o. o >>= (λ ys c' r. got (xs ++ ys) c' r)) (element_list_none lenient d l c ts h) ∙ ap (λ l. got l c ts) (append-nil xs)

-- an element, and what follows it
abbrev pub more_after : (lenient : Bool) → ℕ → ℕ → ℕ → List ExprTree → ExprTree → List Sighted → Out Sighted (List ExprTree)
more_after lenient d l c xs x ts = (read_part lenient (g.maybe more_part) d l c ts >>= (λ y c'' r'. got (x ∷ or_none (or_some y)) c'' r')) >>= (λ ys c' r. got (xs ++ ys) c' r)

pub more_elements_more : (lenient : Bool) → (d l c : ℕ) (xs : List ExprTree) (ts : List Sighted) → at_first starts_expr ts ≡ true → more_elements lenient d l c xs ts ≡ (read lenient Expr d l c ts >>= (λ x c' r. more_after lenient d l c' xs x r))
unfolding more_elements
more_elements_more lenient d l c xs ts h = ap (λ o. o >>= (λ ys c' r. got (xs ++ ys) c' r)) (element_list_some lenient d l c ts h ∙ elements_step lenient d l c ts)
    ∙ bind_assoc (read lenient Expr d l c ts) (λ x c' r. read_part lenient (g.maybe more_part) d l c' r >>= (λ y c'' r'. got (x ∷ or_none (or_some y)) c'' r')) (λ ys c' r. got (xs ++ ys) c' r)

pub more_after_end : (lenient : Bool) → (d l c : ℕ) (xs : List ExprTree) (x : ExprTree) (ts : List Sighted) → at_first (is k.Comma) ts ≡ false → more_after lenient d l c xs x ts ≡ got (xs ++ x ∷ []) c ts
more_after_end lenient d l c xs x ts h = ap (λ o. o >>= (λ ys c' r. got (xs ++ ys) c' r)) (tail_none lenient d l c x ts h)

pub more_after_comma : (lenient : Bool) → (d l c : ℕ) (xs : List ExprTree) (x : ExprTree) (ts : List Sighted) (f : Face) (r : List Sighted) → at_first (is k.Comma) ts ≡ true → Takes (is k.Comma) ts f r
    → more_after lenient d l c xs x ts ≡ more_elements lenient d l c (xs ++ x ∷ []) r
unfolding more_elements
more_after_comma lenient d l c xs x ts f r h takes = ap (λ o. o >>= (λ ys c' r. got (xs ++ ys) c' r)) (tail_some lenient d l c x ts f r h takes)
    ∙ bind_assoc (element_list lenient d l c r) (λ ys c' r'. got (x ∷ ys) c' r') (λ ys c' r. got (xs ++ ys) c' r)
    ∙ bind_same (element_list lenient d l c r) _ _ (λ ys c' r'. ap (λ l. got l c' r') (sym (append_assoc xs (x ∷ []) ys)))
