-- The shape of a layout: its words stand apart, and the brackets within strings match. How it is made of parts.
use Rattle.std.proofs.Common.{◌≡◌, ◌≢◌, suc, Bool, true, false, cond, List, [], ◌∷◌, ◌++◌, drop, length, Option, Some, None, refl, ap, sym, subst, arith, append_assoc}
use mathlib.Core.Logic.{inl, inr}
use Rattle.sw_lex.specs.declared.token.TokenKind.{TokenKind}
use Rattle.sw_lex.specs.declared.token.TokenKind.TheVariants as k
use Rattle.sw_lex.specs.Bytes.{Text}
use Rattle.sw_lex.specs.Cut.{Opens, is_inside, closes, after_kind}
use Rattle.sw_layout.specs.declared.gap.Gap.{Gap}
use Rattle.sw_layout.specs.declared.gap.Gap.TheVariants as gap
use Rattle.sw_layout.specs.Words.{Word, plain, fixed}
use Rattle.sw_layout.specs.Layouts.{Fits, StandsApart, StandsWithin, Stand, may_touch, is_resumed}
use Rattle.sw_print.specs.Expressions.{W, word, around, others, listed}

-- a list of words without what each of them is
abbrev pub Shape : Opens → Option TokenKind → List Word → Type 0
Shape o l [] = o ≡ []
Shape o l (w ∷ ws) = StandsApart l w × StandsWithin o w × Shape (after_kind o w.kind) (Some w.kind) ws

abbrev pub AllFit : List Word → Type 0
AllFit [] = Unit {0}
AllFit (w ∷ ws) = Fits w.kind w.text × AllFit ws

pub laid_out : (o : Opens) (l : Option TokenKind) (ws : List Word) → AllFit ws → Shape o l ws → Stand o l ws
laid_out o l [] f s = s
laid_out o l (w ∷ ws) f s = (f.0, s.0, s.1, laid_out (after_kind o w.kind) (Some w.kind) ws f.1 s.2)

-- ---- what may stand next

abbrev pub is_dot : TokenKind → Bool
is_dot k.Dot = true
is_dot kind = false

-- a `.` may touch what ends in this
abbrev pub Ends : TokenKind → Type 0
Ends kind = is_dot kind ≡ false

-- what an expression may touch
abbrev pub leads : TokenKind → Bool
leads k.Minus = true
leads k.StringStart = true
leads k.StringMiddle = true
leads kind = false

-- an expression may begin here with this before it
abbrev pub Lead : Gap → Opens → Option TokenKind → Type 0
Lead gap.Start o l = l ≡ None
Lead gap.Line o l = (is_inside o ≡ false) × ((kind : TokenKind) × (l ≡ Some kind))
Lead gap.Space o l = (kind : TokenKind) × (l ≡ Some kind) × Ends kind
Lead gap.Joined o l = (kind : TokenKind) × (l ≡ Some kind) × (leads kind ≡ true)

-- what neither opens nor closes a bracket, nor goes on with a string
abbrev pub is_simple : TokenKind → Bool
is_simple k.StringStart = false
is_simple k.StringMiddle = false
is_simple k.StringLast = false
is_simple k.LeftParen = false
is_simple k.RightParen = false
is_simple kind = true

-- what may touch a `-` before it
abbrev pub is_free : TokenKind → Bool
is_free k.Greater = false
is_free k.GreaterEqual = false
is_free k.Assign = false
is_free k.EqualEqual = false
is_free kind = true

pub simple_after : (o : Opens) (kind : TokenKind) → is_simple kind ≡ true → after_kind o kind ≡ o
simple_after o k.StringStart h = absurd (cc)
simple_after o k.StringMiddle h = absurd (cc)
simple_after o k.StringLast h = absurd (cc)
simple_after o k.LeftParen h = absurd (cc)
simple_after o k.RightParen h = absurd (cc)
simple_after o kind h = refl

simple_resumed : (kind : TokenKind) → is_simple kind ≡ true → is_resumed kind ≡ false
simple_resumed k.StringMiddle h = absurd (cc)
simple_resumed k.StringLast h = absurd (cc)
simple_resumed kind h = refl

simple_paren : (kind : TokenKind) → is_simple kind ≡ true → kind ≢ k.RightParen
simple_paren kind h e = absurd (cc (h, ap is_simple e))

string_touched : (next : TokenKind) → (may_touch k.StringStart next ≡ true) × (may_touch k.StringMiddle next ≡ true)
string_touched k.Dot = (refl, refl)
string_touched next = (refl, refl)

sign_touched : (next : TokenKind) → is_free next ≡ true → may_touch k.Minus next ≡ true
sign_touched k.Greater h = absurd (cc)
sign_touched k.GreaterEqual h = absurd (cc)
sign_touched k.Assign h = absurd (cc)
sign_touched k.EqualEqual h = absurd (cc)
sign_touched next h = refl

pub touches : (first next : TokenKind) → leads first ≡ true → is_free next ≡ true → may_touch first next ≡ true
touches k.Minus next a b = sign_touched next b
touches k.StringStart next a b = (string_touched next).0
touches k.StringMiddle next a b = (string_touched next).1
touches first next a b = absurd (cc)

pub touch_dot : (first : TokenKind) → Ends first → may_touch first k.Dot ≡ true
touch_dot k.Dot e = absurd (cc)
touch_dot first e = refl

-- a bracket of a form, its `!`, and what goes on with a string may touch whatever precedes
pub touch_form : (first : TokenKind) → (may_touch first k.LeftParen ≡ true) × (may_touch first k.LeftBracket ≡ true) × (may_touch first k.Bang ≡ true) × (may_touch first k.StringMiddle ≡ true) × (may_touch first k.StringLast ≡ true)
touch_form k.Dot = (refl, refl, refl, refl, refl)
touch_form first = (refl, refl, refl, refl, refl)

-- ---- parts of layouts

-- words with these brackets open and this kind before them, whatever follows them
abbrev pub Held : W → Type 0
Held w = (g : Gap) (o : Opens) (l : Option TokenKind) (rest : List Word) → Lead g o l → ((e : TokenKind) → Ends e → Shape o (Some e) rest) → Shape o l (w g ++ rest)

abbrev pub Laid : List Word → Type 0
Laid ws = (o : Opens) (i : TokenKind) (rest : List Word) → Ends i → ((e : TokenKind) → Ends e → Shape o (Some e) rest) → Shape o (Some i) (ws ++ rest)

-- ---- first words

pub apart : (g : Gap) (o : Opens) (l : Option TokenKind) (kind : TokenKind) (text : Text) → is_free kind ≡ true → Lead g o l → StandsApart l (word kind text g)
apart gap.Start o l kind text f h = subst (λ l. StandsApart l (word kind text gap.Start)) (sym h) refl
apart gap.Line o l kind text f (i, (first, e)) = subst (λ l. StandsApart l (word kind text gap.Line)) (sym e) (inl refl)
apart gap.Space o l kind text f (first, e, d) = subst (λ l. StandsApart l (word kind text gap.Space)) (sym e) (inr (inl refl))
apart gap.Joined o l kind text f (first, e, d) = subst (λ l. StandsApart l (word kind text gap.Joined)) (sym e) (inr (inr (refl, touches first kind d f)))

-- no line ends within a string
pub no_line : (g : Gap) (o : Opens) (l : Option TokenKind) → Lead g o l → is_inside o ≡ true → g ≢ gap.Line
no_line gap.Line o l (i, rest) h e = absurd (cc (i, h))
no_line gap.Start o l lead h e = absurd (cc)
no_line gap.Space o l lead h e = absurd (cc)
no_line gap.Joined o l lead h e = absurd (cc)

within : (o : Opens) (w : Word) → (is_inside o ≡ true → w.gap ≢ gap.Line) → is_simple w.kind ≡ true → StandsWithin o w
within o w line h = (line, (λ r. absurd (cc (r, simple_resumed w.kind h))), λ e. absurd (simple_paren w.kind h e))

-- a word that opens no bracket, at the beginning of an expression or the like
pub begin : (kind : TokenKind) (text : Text) (g : Gap) (o : Opens) (l : Option TokenKind) (rest : List Word) → is_simple kind ≡ true → is_free kind ≡ true → Lead g o l → Shape o (Some kind) rest → Shape o l (word kind text g ∷ rest)
begin kind text g o l rest s f lead h =
    (apart g o l kind text f lead, within o (word kind text g) (no_line g o l lead) s, subst (λ o. Shape o (Some kind) rest) (sym (simple_after o kind s)) h)

-- the same after another word, a space before it
pub next : (kind : TokenKind) (text : Text) (o : Opens) (i : TokenKind) (rest : List Word) → is_simple kind ≡ true → Shape o (Some kind) rest → Shape o (Some i) (word kind text gap.Space ∷ rest)
next kind text o i rest s h =
    (inr (inl refl), within o (word kind text gap.Space) (λ a e. absurd (cc)) s, subst (λ o. Shape o (Some kind) rest) (sym (simple_after o kind s)) h)

-- and touching it
pub joined : (kind : TokenKind) (text : Text) (o : Opens) (i : TokenKind) (rest : List Word) → is_simple kind ≡ true → may_touch i kind ≡ true → Shape o (Some kind) rest → Shape o (Some i) (word kind text gap.Joined ∷ rest)
joined kind text o i rest s t h =
    (inr (inr (refl, t)), within o (word kind text gap.Joined) (λ a e. absurd (cc)) s, subst (λ o. Shape o (Some kind) rest) (sym (simple_after o kind s)) h)

-- on a line of its own, outside of strings
pub below : (kind : TokenKind) (text : Text) (i : TokenKind) (rest : List Word) → is_simple kind ≡ true → Shape [] (Some kind) rest → Shape [] (Some i) (word kind text gap.Line ∷ rest)
below kind text i rest s h =
    (inl refl, within [] (word kind text gap.Line) (λ a e. absurd (cc (a))) s, subst (λ o. Shape o (Some kind) rest) (sym (simple_after [] kind s)) h)

-- a `.`, around which no space stands
pub dot : (text : Text) (g : Gap) (o : Opens) (l : Option TokenKind) (rest : List Word) → Lead g o l → Shape o (Some k.Dot) rest → Shape o l (word k.Dot text (around g) ∷ rest)
dot text gap.Space o l rest (first, e, d) h =
    subst (λ l. Shape o l (word k.Dot text gap.Joined ∷ rest)) (sym e) (joined k.Dot text o first rest refl (touch_dot first d) h)
dot text gap.Start o l rest lead h = begin k.Dot text gap.Start o l rest refl refl lead h
dot text gap.Line o l rest lead h = begin k.Dot text gap.Line o l rest refl refl lead h
dot text gap.Joined o l rest lead h = begin k.Dot text gap.Joined o l rest refl refl lead h

-- ---- brackets

-- what is open after a `(`
abbrev pub opened : Opens → Opens
opened o = after_kind o k.LeftParen

closing : (o : Opens) → (closes (opened o) ≡ false) × (drop 1 (opened o) ≡ o)
closing [] = (refl, refl)
closing (bracket ∷ o) = go (is_inside (bracket ∷ o)) refl
  where
    go : (t : Bool) → is_inside (bracket ∷ o) ≡ t → (closes (cond t (false ∷ bracket ∷ o) (bracket ∷ o)) ≡ false) × (drop 1 (cond t (false ∷ bracket ∷ o) (bracket ∷ o)) ≡ bracket ∷ o)
    go true e = (refl, refl)
    go false e = absurd (inside e)
      where
        inside : is_inside (bracket ∷ o) ≡ false → ⊥
        inside e = let some : length (bracket ∷ o) ≡ suc (length o) = omega arith in grind (arith)

-- `)` after what stands in the bracket
pub close : (o : Opens) (i : TokenKind) (rest : List Word) → Shape o (Some k.RightParen) rest → Shape (opened o) (Some i) (plain k.RightParen gap.Space ∷ rest)
close o i rest h = (inr (inl refl), ((λ a e. absurd (cc)), (λ r. absurd (cc)), λ e. (closing o).0), subst (λ o. Shape o (Some k.RightParen) rest) (sym (closing o).1) h)

-- ---- layouts made of layouts

pub space : (w : W) → Held w → Laid (w gap.Space)
space w h o i rest e more = h gap.Space o (Some i) rest (i, refl, e) more

pub none : Laid []
none o i rest e more = more i e

pub cat : (u v : List Word) → Laid u → Laid v → Laid (u ++ v)
cat u v h h' o i rest e more = subst (Shape o (Some i)) (sym (append_assoc u v rest)) (h o i (v ++ rest) e (λ j f. h' o j rest f more))

pub cons : (kind : TokenKind) (text : Text) (v : List Word) → is_simple kind ≡ true → Ends kind → Laid v → Laid (word kind text gap.Space ∷ v)
cons kind text v s d h o i rest e more = next kind text o i (v ++ rest) s (h o kind rest d more)

-- a form's bracket or `!`, which touches what precedes
pub touching : (kind : TokenKind) (text : Text) (v : List Word) → is_simple kind ≡ true → Ends kind → ((first : TokenKind) → may_touch first kind ≡ true) → Laid v → Laid (word kind text gap.Joined ∷ v)
touching kind text v s d t h o i rest e more = joined kind text o i (v ++ rest) s (t i) (h o kind rest d more)

-- words between a `(`, which stands here, and its `)`
inner : (ws : List Word) → Laid ws → (o : Opens) (rest : List Word) → Shape o (Some k.RightParen) rest → Shape (opened o) (Some k.LeftParen) ((ws ++ plain k.RightParen gap.Space ∷ []) ++ rest)
inner ws h o rest more = subst (Shape (opened o) (Some k.LeftParen)) (sym (append_assoc ws (plain k.RightParen gap.Space ∷ []) rest))
    (h (opened o) k.LeftParen (plain k.RightParen gap.Space ∷ rest) refl (λ e f. close o e rest more))

open_within : (o : Opens) (w : Word) → (is_inside o ≡ true → w.gap ≢ gap.Line) → w.kind ≡ k.LeftParen → StandsWithin o w
open_within o w line h = (line, (λ r. absurd (cc (r, h))), λ e. absurd (cc (h, e)))

pub parens : (ws : List Word) → Laid ws → Laid (plain k.LeftParen gap.Space ∷ (ws ++ plain k.RightParen gap.Space ∷ []))
parens ws h o i rest e more = (inr (inl refl), open_within o (plain k.LeftParen gap.Space) (λ a e. absurd (cc)) refl, inner ws h o rest (more k.RightParen refl))

-- those of a call
pub call : (ws : List Word) → Laid ws → Laid (plain k.LeftParen gap.Joined ∷ (ws ++ plain k.RightParen gap.Space ∷ []))
call ws h o i rest e more = (inr (inr (refl, (touch_form i).0)), open_within o (plain k.LeftParen gap.Joined) (λ a e. absurd (cc)) refl, inner ws h o rest (more k.RightParen refl))

-- those at the beginning
pub brackets : (ws : List Word) → Laid ws → (g : Gap) (o : Opens) (l : Option TokenKind) (rest : List Word) → Lead g o l → Shape o (Some k.RightParen) rest → Shape o l ((plain k.LeftParen g ∷ (ws ++ plain k.RightParen gap.Space ∷ [])) ++ rest)
brackets ws h g o l rest lead more =
    (apart g o l k.LeftParen (fixed k.LeftParen) refl lead, open_within o (plain k.LeftParen g) (no_line g o l lead) refl, inner ws h o rest more)

pub parens_held : (ws : List Word) → Laid ws → Held (λ g. plain k.LeftParen g ∷ (ws ++ plain k.RightParen gap.Space ∷ []))
parens_held ws h g o l rest lead more = brackets ws h g o l rest lead (more k.RightParen refl)

pub begins : (kind : TokenKind) (text : Text) (v : List Word) → is_simple kind ≡ true → is_free kind ≡ true → Ends kind → Laid v → Held (λ g. word kind text g ∷ v)
begins kind text v s f d h g o l rest lead more = begin kind text g o l (v ++ rest) s f lead (h o kind rest d more)

pub going_on : (w : W) (v : List Word) → Held w → Laid v → Held (λ g. w g ++ v)
going_on w v h h' g o l rest lead more = subst (Shape o l) (sym (append_assoc (w g) v rest)) (h g o l (v ++ rest) lead (λ e f. h' o e rest f more))

-- `.` and a name
pub member : (text name : Text) → Held (λ g. word k.Dot text (around g) ∷ word k.Name name gap.Joined ∷ [])
member text name g o l rest lead more = dot text g o l (word k.Name name gap.Joined ∷ rest) lead (joined k.Name name o k.Dot rest refl refl (more k.Name refl))

-- the same after an expression or a name
pub member_laid : (text name : Text) → Laid (word k.Dot text gap.Joined ∷ word k.Name name gap.Joined ∷ [])
member_laid text name o i rest e more = joined k.Dot text o i (word k.Name name gap.Joined ∷ rest) refl (touch_dot i e) (joined k.Name name o k.Dot rest refl refl (more k.Name refl))

-- ---- lists with commas

abbrev pub AllHeld : List W → Type 0
AllHeld [] = Unit {0}
AllHeld (w ∷ ws) = Held w × AllHeld ws

pub others_laid : (ws : List W) → AllHeld ws → Laid (others ws)
others_laid [] h = none
others_laid (w ∷ ws) h = cons k.Comma (fixed k.Comma) (w gap.Space ++ others ws) refl refl (cat (w gap.Space) (others ws) (space w h.0) (others_laid ws h.1))

pub listed_laid : (ws : List W) → AllHeld ws → Laid (listed ws)
listed_laid [] h = none
listed_laid (w ∷ ws) h = cat (w gap.Space) (others ws) (space w h.0) (others_laid ws h.1)
