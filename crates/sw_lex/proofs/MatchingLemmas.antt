-- The lexeme that begins some bytes, as the code matches it, is the one that the relation says.
use Rattle.std.proofs.Common.{◌≡◌, ◌<◌, ◌≤◌, ℕ, suc, ◌+◌, ◌-◌, ◌==◌, Bool, true, false, cond, not, ◌&&◌, ◌||◌, Option, Some, None, [], ◌∷◌, ◌++◌, length, take, drop, refl, ap, sym, ◌∙◌, subst, arith}
use Rattle.std.proofs.lemmas.Grind.{common_steps}
use mathlib.Core.Logic.{inl, inr}
use Rattle.std.specs.List.{prefix_len}
use Rattle.sw_lex.specs.declared.bytes.Class.{Class}
use Rattle.sw_lex.specs.declared.bytes.Class.TheVariants as class
use Rattle.sw_lex.specs.declared.token.TokenKind.{TokenKind}
use Rattle.sw_lex.specs.declared.token.TokenKind.TheVariants as k
use Rattle.sw_lex.specs.declared.strings.StringSegment.{StringSegment}
use Rattle.sw_lex.specs.declared.strings.StringSegment.TheVariants as segment
use Rattle.sw_lex.specs.declared.lexemes.Lexeme.{Lexeme}
use Rattle.sw_lex.specs.declared.lexemes.Lexeme.TheVariants.{End, Gap, Token, Malformed, Unterminated}
use Rattle.sw_lex.specs.Bytes.{Text, is_in, has_line_end}
use Rattle.sw_lex.specs.Tables.{marks, IsListed, is_prefix_of}
use Rattle.sw_lex.specs.Strings.{bytes_of}
use Rattle.sw_lex.specs.Lexemes.{first, second, is_line_comment, is_block_comment, has_three_quotes, opening, IsLineEnd, IsBlockComment, IsString, IsUnterminatedString, IsMark, HasForm, BeginsWith}
use Rattle.sw_lex.specs.Matching.{first_lexeme, block_comment, comment_len, mark, named, pieces, quoted, resumed}
use Rattle.sw_lex.proofs.PieceLemmas.{both, equal}
use Rattle.sw_lex.proofs.RunLemmas.{IsRun, pieces_read, run_of}
use Rattle.sw_lex.proofs.CommentLemmas.{CloseFact, closes_len, closes_within, comment_fact}
use Rattle.sw_lex.proofs.MarkLemmas.{MarkFact, mark_fact, mark_first, mark_read, starts_mark}

-- ---- the chain of tests, from each test on

abbrev from_resumed : Bool → ℕ → Text → Lexeme
from_resumed closing valid z = cond (first z == 41 && closing) (resumed (pieces 0 1 (valid - 1) (drop 1 z))) (mark z)

abbrev from_quote : Bool → ℕ → Text → Lexeme
from_quote closing valid z = cond (first z == 34) (cond (has_three_quotes z) Malformed (quoted (pieces 0 1 (valid - 1) (drop 1 z)))) (from_resumed closing valid z)

abbrev from_digit : Bool → ℕ → Text → Lexeme
from_digit closing valid z = cond (is_in class.Digit (first z)) (Token k.Integer (prefix_len (is_in class.Integer) z)) (from_quote closing valid z)

abbrev from_name : Bool → ℕ → Text → Lexeme
from_name closing valid z = cond (is_in class.NameStart (first z)) (named z (prefix_len (is_in class.Name) z)) (from_digit closing valid z)

abbrev from_block : Bool → Bool → ℕ → Text → Lexeme
from_block inside closing valid z = cond (is_block_comment z) (block_comment inside z (comment_len 0 1 2 (drop 2 z))) (from_name closing valid z)

abbrev from_line : Bool → Bool → ℕ → Text → Lexeme
from_line inside closing valid z = cond (is_line_comment z) (Gap (prefix_len (is_in class.Line) z)) (from_block inside closing valid z)

abbrev from_space : Bool → Bool → ℕ → Text → Lexeme
from_space inside closing valid z = cond (is_in class.Space (first z)) (Gap 1) (from_line inside closing valid z)

abbrev from_break : Bool → Bool → ℕ → Text → Lexeme
from_break inside closing valid z = cond (first z == 10 && inside) Unterminated (from_space inside closing valid z)

chain : (inside closing : Bool) (valid : ℕ) (z : Text) → first_lexeme inside closing valid z ≡ cond (length z == 0) (cond inside Unterminated End) (from_break inside closing valid z)
unfolding first_lexeme
chain inside closing valid z = refl

keep : (t : Bool) (a b x : Lexeme) → t ≡ true → a ≡ x → cond t a b ≡ x
keep true a b x h e = e
keep false a b x h e = absurd (cc)

skip : (t : Bool) (a b x : Lexeme) → t ≡ false → b ≡ x → cond t a b ≡ x
skip true a b x h e = absurd (cc)
skip false a b x h e = e

some_length : (b : ℕ) (z : Text) → (length (b ∷ z) == 0) ≡ false
some_length b z = let e : length (b ∷ z) ≡ suc (length z) = omega arith in grind (arith, common_steps)

no_length : (z : Text) → (length z == 0) ≡ true → z ≡ []
no_length [] h = refl
no_length (b ∷ z) h = let e = some_length b z in absurd (cc)

has_first : (its : Class) (z : Text) → is_in its 0 ≡ false → is_in its (first z) ≡ true → (length z == 0) ≡ false
has_first its [] e h = absurd (cc)
has_first its (b ∷ z) e h = some_length b z

long_some : (z : Text) → 0 < length z → (length z == 0) ≡ false
long_some [] h = absurd (omega arith)
long_some (b ∷ z) h = some_length b z

start : (inside closing : Bool) (valid : ℕ) (z : Text) (x : Lexeme) → (length z == 0) ≡ false → from_break inside closing valid z ≡ x → first_lexeme inside closing valid z ≡ x
start inside closing valid z x h e = chain inside closing valid z ∙ skip (length z == 0) (cond inside Unterminated End) (from_break inside closing valid z) x h e

-- ---- bytes of one class are of no other

other_in : (its : Class) (b v : ℕ) → is_in its v ≡ false → is_in its b ≡ true → (b == v) ≡ false
other_in its b v e h = go (b == v) refl
  where
    go : (t : Bool) → (b == v) ≡ t → (b == v) ≡ false
    go false f = f
    go true f = let same : is_in its b ≡ is_in its v = ap (is_in its) (equal b v f) in absurd (cc)

none_of_four : (a b c d : Bool) → a ≡ false → b ≡ false → c ≡ false → d ≡ false → (a || b || c || d) ≡ false
none_of_four a b c d e f g h = cc

no_space : (its : Class) (b : ℕ) → is_in its 32 ≡ false → is_in its 9 ≡ false → is_in its 13 ≡ false → is_in its 10 ≡ false → is_in its b ≡ true → is_in class.Space b ≡ false
no_space its b p q r s h = none_of_four (b == 32) (b == 9) (b == 13) (b == 10) (other_in its b 32 p h) (other_in its b 9 q h) (other_in its b 13 r h) (other_in its b 10 s h)

and_not : (s t : Bool) → s ≡ false → (s && t) ≡ false
and_not s t h = cc

-- past white space and comments
past_gaps : (its : Class) (inside closing : Bool) (valid : ℕ) (z : Text) (x : Lexeme) → is_in its 0 ≡ false → is_in its 32 ≡ false → is_in its 9 ≡ false → is_in its 13 ≡ false → is_in its 10 ≡ false → is_in its 47 ≡ false
    → is_in its (first z) ≡ true → from_name closing valid z ≡ x → first_lexeme inside closing valid z ≡ x
past_gaps its inside closing valid z x n p q r s t h e =
    start inside closing valid z x (has_first its z n h)
    (skip (first z == 10 && inside) _ _ x (and_not (first z == 10) inside (other_in its (first z) 10 s h))
    (skip (is_in class.Space (first z)) _ _ x (no_space its (first z) p q r s h)
    (skip (first z == 47 && second z == 47) _ _ x (and_not (first z == 47) (second z == 47) (other_in its (first z) 47 t h))
    (skip (first z == 47 && second z == 42) _ _ x (and_not (first z == 47) (second z == 42) (other_in its (first z) 47 t h)) e))))

no_name : (b : ℕ) → is_in class.Digit b ≡ true → is_in class.NameStart b ≡ false
no_name b h = grind (arith, common_steps)

-- ---- what has a form is read by the code

slash_first : (inside closing : Bool) (valid : ℕ) (z : Text) (x : Lexeme) → first z ≡ 47 → from_line inside closing valid z ≡ x → first_lexeme inside closing valid z ≡ x
slash_first inside closing valid [] x h e = absurd (cc)
slash_first inside closing valid (b ∷ z) x h e =
    start inside closing valid (b ∷ z) x (some_length b z)
    (skip (b == 10 && inside) _ _ x (ap (λ n. n == 10 && inside) h) (skip (is_in class.Space b) _ _ x (ap (is_in class.Space) h) e))

line_begins : (inside closing : Bool) (valid : ℕ) (z : Text) → is_line_comment z ≡ true → first_lexeme inside closing valid z ≡ Gap (prefix_len (is_in class.Line) z)
line_begins inside closing valid z h =
    let two = both (first z == 47) (second z == 47) h in
    slash_first inside closing valid z _ (equal (first z) 47 two.0) (keep (is_line_comment z) _ _ _ h refl)

block_after : (inside closing : Bool) (valid : ℕ) (w : Text) → first_lexeme inside closing valid (47 ∷ 42 ∷ w) ≡ block_comment inside (47 ∷ 42 ∷ w) (comment_len 0 1 2 w)
block_after inside closing valid w = start inside closing valid (47 ∷ 42 ∷ w) _ (some_length 47 (42 ∷ w)) refl

some_injective : (a b : ℕ) → Some a ≡ Some b → a ≡ b
some_injective a b e = cc

-- a comment's length is the one that the code reads
block_size : (inside : Bool) (z : Text) (size : ℕ) → IsBlockComment inside z size → comment_len 0 1 2 (drop 2 z) ≡ Some size
block_size inside z size h =
    let len : length z ≡ length (47 ∷ 42 ∷ h.0) = ap length h.2 in
    let size_is : 2 + (length h.0 - length h.1) ≡ size = omega (arith, closes_within h.3, h.4, len) in
    ap (λ (u : Text). comment_len 0 1 2 (drop 2 u)) h.2 ∙ closes_len h.3 ∙ ap Some size_is

block_begins : (inside closing : Bool) (valid : ℕ) (z : Text) (size : ℕ) → IsBlockComment inside z size → first_lexeme inside closing valid z ≡ Gap size
block_begins inside closing valid z size h =
    let sized = block_size inside z size h in
    ap (first_lexeme inside closing valid) h.2 ∙ block_after inside closing valid h.0
    ∙ ap (λ (u : Text). block_comment inside u (comment_len 0 1 2 (drop 2 u))) (sym h.2)
    ∙ ap (block_comment inside z) sized ∙ skip (inside && has_line_end (take size z)) Unterminated (Gap size) _ h.5 refl

two_first : (z : Text) → is_block_comment z ≡ true → z ≡ 47 ∷ 42 ∷ drop 2 z
two_first [] h = absurd (cc)
two_first (a ∷ []) h = absurd (let two = both (a == 47) false h in cc)
two_first (a ∷ b ∷ z) h = let two = both (a == 47) (b == 42) h in ap (λ (n : ℕ). n ∷ b ∷ z) (equal a 47 two.0) ∙ ap (λ (n : ℕ). 47 ∷ n ∷ z) (equal b 42 two.1)

block_is : (inside : Bool) (z : Text) (size : ℕ) → is_block_comment z ≡ true → comment_len 0 1 2 (drop 2 z) ≡ Some size → (inside && has_line_end (take size z)) ≡ false → IsBlockComment inside z size
block_is inside z size h e line =
    let two = two_first z h in
    let closed : CloseFact 0 0 2 (drop 2 z) (Some size) = subst (λ (r : Option ℕ). CloseFact 0 0 2 (drop 2 z) r) e (comment_fact (drop 2 z)) in
    let len : length z ≡ length (47 ∷ 42 ∷ drop 2 z) = ap length two in
    (drop 2 z, closed.0, two, closed.1, omega (arith, closed.2, len), line)

not_block : (inside : Bool) (z : Text) → is_block_comment z ≡ true → ((size : ℕ) → IsBlockComment inside z size → ⊥) → (r : Option ℕ) → comment_len 0 1 2 (drop 2 z) ≡ r → block_comment inside z r ≡ Unterminated
not_block inside z h none None e = refl
not_block inside z h none (Some size) e = go (inside && has_line_end (take size z)) refl
  where
    go : (t : Bool) → (inside && has_line_end (take size z)) ≡ t → cond t Unterminated (Gap size) ≡ Unterminated
    go true f = refl
    go false f = absurd (none size (block_is inside z size h e f))

block_read : (inside closing : Bool) (valid : ℕ) (z : Text) → is_block_comment z ≡ true → first_lexeme inside closing valid z ≡ block_comment inside z (comment_len 0 1 2 (drop 2 z))
block_read inside closing valid z h =
    let two = two_first z h in
    ap (first_lexeme inside closing valid) two ∙ block_after inside closing valid (drop 2 z) ∙ ap (λ (u : Text). block_comment inside u (comment_len 0 1 2 (drop 2 u))) (sym two)

quote_after : (inside closing : Bool) (valid : ℕ) (w : Text) → has_three_quotes (34 ∷ w) ≡ false → first_lexeme inside closing valid (34 ∷ w) ≡ quoted (pieces 0 1 (valid - 1) w)
quote_after inside closing valid w h = start inside closing valid (34 ∷ w) _ (some_length 34 w) (skip (has_three_quotes (34 ∷ w)) Malformed (quoted (pieces 0 1 (valid - 1) w)) _ h refl)

paren_after : (inside : Bool) (valid : ℕ) (w : Text) → first_lexeme inside true valid (41 ∷ w) ≡ resumed (pieces 0 1 (valid - 1) w)
paren_after inside valid w = start inside true valid (41 ∷ w) _ (some_length 41 w) refl

string_closed : (valid : ℕ) (z : Text) (size byte : ℕ) (h : IsString byte (34 ∷ []) valid z size) → pieces 0 1 (valid - 1) (drop 1 z) ≡ segment.Closed size
string_closed valid z size byte h =
    let size_is : 1 + length (bytes_of h.0) + 1 ≡ size = omega (arith, h.4) in
    ap (λ (u : Text). pieces 0 1 (valid - 1) (drop 1 u)) h.2 ∙ pieces_read 1 (valid - 1) h.0 (34 ∷ h.1) h.3 ∙ ap segment.Closed size_is

string_opened : (valid : ℕ) (z : Text) (size byte : ℕ) (h : IsString byte opening valid z size) → pieces 0 1 (valid - 1) (drop 1 z) ≡ segment.Opened size
string_opened valid z size byte h =
    let size_is : 1 + length (bytes_of h.0) + 2 ≡ size = omega (arith, h.4) in
    ap (λ (u : Text). pieces 0 1 (valid - 1) (drop 1 u)) h.2 ∙ pieces_read 1 (valid - 1) h.0 (92 ∷ 40 ∷ h.1) h.3 ∙ ap segment.Opened size_is

line_end_read : (n valid : ℕ) (rest : Text) → IsLineEnd rest → pieces 0 n valid rest ≡ segment.Unterminated
line_end_read n valid [] h = refl
line_end_read n valid (b ∷ z) h = ap (λ c. pieces 0 n valid (c ∷ z)) h

string_open : (valid : ℕ) (z : Text) (byte : ℕ) (h : IsUnterminatedString byte valid z) → pieces 0 1 (valid - 1) (drop 1 z) ≡ segment.Unterminated
string_open valid z byte h =
    ap (λ (u : Text). pieces 0 1 (valid - 1) (drop 1 u)) h.2 ∙ pieces_read 1 (valid - 1) h.0 h.1 h.3 ∙ line_end_read _ _ h.1 h.4

quote_begins : (inside closing : Bool) (valid : ℕ) (z w : Text) (s : StringSegment) → z ≡ 34 ∷ w → has_three_quotes z ≡ false → pieces 0 1 (valid - 1) (drop 1 z) ≡ s → first_lexeme inside closing valid z ≡ quoted s
quote_begins inside closing valid z w s e three h =
    let three' : has_three_quotes (34 ∷ w) ≡ false = ap has_three_quotes (sym e) ∙ three in
    ap (first_lexeme inside closing valid) e ∙ quote_after inside closing valid w three' ∙ ap (λ (u : Text). quoted (pieces 0 1 (valid - 1) (drop 1 u))) (sym e) ∙ ap quoted h

paren_begins : (inside closing : Bool) (valid : ℕ) (z w : Text) (s : StringSegment) → closing ≡ true → z ≡ 41 ∷ w → pieces 0 1 (valid - 1) (drop 1 z) ≡ s → first_lexeme inside closing valid z ≡ resumed s
paren_begins inside closing valid z w s c e h =
    ap (λ (t : Bool). first_lexeme inside t valid z) c ∙ ap (first_lexeme inside true valid) e ∙ paren_after inside valid w ∙ ap (λ (u : Text). resumed (pieces 0 1 (valid - 1) (drop 1 u))) (sym e) ∙ ap resumed h

start_tests : (b : ℕ) → starts_mark b ≡ true → (is_in class.Space b ≡ false) × (is_in class.NameStart b ≡ false) × (is_in class.Digit b ≡ false) × ((b == 34) ≡ false)
start_tests b h = go (is_in class.Space b) (is_in class.NameStart b) (is_in class.Digit b) (b == 34) h
  where
    go : (s n d q : Bool) → (not s && not n && not d && not q) ≡ true → (s ≡ false) × (n ≡ false) × (d ≡ false) × (q ≡ false)
    go s n d q h = (grind (arith, common_steps), grind (arith, common_steps), grind (arith, common_steps), grind (arith, common_steps))

no_break : (b : ℕ) (inside : Bool) → is_in class.Space b ≡ false → (b == 10 && inside) ≡ false
no_break b inside h = go (b == 10) refl
  where
    go : (t : Bool) → (b == 10) ≡ t → (b == 10 && inside) ≡ false
    go false e = and_not (b == 10) inside e
    go true e = let same : is_in class.Space b ≡ true = ap (is_in class.Space) (equal b 10 e) in absurd (cc)

mark_begins : (inside closing : Bool) (valid : ℕ) (z : Text) (kind : TokenKind) (size : ℕ) → IsMark closing z kind size → first_lexeme inside closing valid z ≡ Token kind size
mark_begins inside closing valid z kind size h =
    let found = mark_first z h.0 kind h.1 h.2 in
    let tests = start_tests (first z) found.0 in
    let longest = subst (λ n. (other : Text) (its : TokenKind) → IsListed marks other its → is_prefix_of other z ≡ true → length other ≤ n) h.3 h.4 in
    start inside closing valid z _ (long_some z found.1)
    (skip (first z == 10 && inside) _ _ _ (no_break (first z) inside tests.0)
    (skip (is_in class.Space (first z)) _ _ _ tests.0
    (skip (is_line_comment z) _ _ _ h.5
    (skip (is_block_comment z) _ _ _ h.6
    (skip (is_in class.NameStart (first z)) _ _ _ tests.1
    (skip (is_in class.Digit (first z)) _ _ _ tests.2
    (skip (first z == 34) _ _ _ tests.3
    (skip (first z == 41 && closing) _ _ _ h.7
    (mark_read z h.0 kind h.1 h.2 longest ∙ ap (λ n. Token kind n) (sym h.3))))))))))

token_of : (kind its : TokenKind) (size : ℕ) → kind ≡ its → Token its size ≡ Token kind size
token_of kind its size e = ap (λ t. Token t size) (sym e)

pub form_read : (inside closing : Bool) (valid : ℕ) (z : Text) (x : Lexeme) → HasForm inside closing valid z x → first_lexeme inside closing valid z ≡ x
form_read inside closing valid z End h = chain inside closing valid z ∙ ap (λ (u : Text). cond (length u == 0) (cond inside Unterminated End) (from_break inside closing valid u)) h.1 ∙ skip inside Unterminated End _ h.0 refl
form_read inside closing valid z (Gap size) (inl h) =
    start inside closing valid z _ (has_first class.Space z refl h.2) (skip (first z == 10 && inside) _ _ _ h.1 (keep (is_in class.Space (first z)) (Gap 1) _ _ h.2 (ap Gap (sym h.0))))
form_read inside closing valid z (Gap size) (inr (inl h)) = line_begins inside closing valid z h.0 ∙ ap Gap (sym h.1)
form_read inside closing valid z (Gap size) (inr (inr h)) = block_begins inside closing valid z size h
form_read inside closing valid z (Token kind size) (inl h) =
    past_gaps class.NameStart inside closing valid z _ refl refl refl refl refl refl h.0 (keep (is_in class.NameStart (first z)) _ _ _ h.0 refl)
    ∙ ap (named z) (sym h.1) ∙ token_of kind _ size h.2
form_read inside closing valid z (Token kind size) (inr (inl h)) =
    past_gaps class.Digit inside closing valid z _ refl refl refl refl refl refl h.0
    (skip (is_in class.NameStart (first z)) _ _ _ (no_name (first z) h.0) (keep (is_in class.Digit (first z)) _ _ _ h.0 refl))
    ∙ ap (λ n. Token k.Integer n) (sym h.1) ∙ token_of kind k.Integer size h.2
form_read inside closing valid z (Token kind size) (inr (inr (inl (h, inl s)))) = quote_begins inside closing valid z _ _ s.1.2 h (string_closed valid z size 34 s.1) ∙ token_of kind k.StringWhole size s.0
form_read inside closing valid z (Token kind size) (inr (inr (inl (h, inr s)))) = quote_begins inside closing valid z _ _ s.1.2 h (string_opened valid z size 34 s.1) ∙ token_of kind k.StringStart size s.0
form_read inside closing valid z (Token kind size) (inr (inr (inr (inl (c, inl s))))) = paren_begins inside closing valid z _ _ c s.1.2 (string_closed valid z size 41 s.1) ∙ token_of kind k.StringLast size s.0
form_read inside closing valid z (Token kind size) (inr (inr (inr (inl (c, inr s))))) = paren_begins inside closing valid z _ _ c s.1.2 (string_opened valid z size 41 s.1) ∙ token_of kind k.StringMiddle size s.0
form_read inside closing valid z (Token kind size) (inr (inr (inr (inr h)))) = mark_begins inside closing valid z kind size h
form_read inside closing valid z Unterminated (inl h) = open_begins z h.1
  where
    open_begins : (z : Text) → IsLineEnd z → first_lexeme inside closing valid z ≡ Unterminated
    open_begins [] e = chain inside closing valid [] ∙ keep inside Unterminated End _ h.0 refl
    open_begins (b ∷ z) e = start inside closing valid (b ∷ z) _ (some_length b z) (keep (b == 10 && inside) Unterminated _ _ (ap (λ n. n == 10 && inside) e ∙ h.0) refl)
form_read inside closing valid z Unterminated (inr (inl h)) = block_read inside closing valid z h.0 ∙ not_block inside z h.0 h.1 (comment_len 0 1 2 (drop 2 z)) refl
form_read inside closing valid z Unterminated (inr (inr (inl h))) = quote_begins inside closing valid z _ _ h.1.2 h.0 (string_open valid z 34 h.1)
form_read inside closing valid z Unterminated (inr (inr (inr h))) = paren_begins inside closing valid z _ _ h.0 h.1.2 (string_open valid z 41 h.1)
form_read inside closing valid z Malformed h = absurd h

-- ---- what the code reads has a form

pick : (P : Lexeme → Type 0) (t : Bool) (a b : Lexeme) → (t ≡ true → P a) → (t ≡ false → P b) → P (cond t a b)
pick P true a b f g = f refl
pick P false a b f g = g refl

abbrev Fact : Bool → Bool → ℕ → Text → Lexeme → Type 0
Fact inside closing valid z Malformed = Unit {0}
Fact inside closing valid z x = HasForm inside closing valid z x

line_end_of : (z : Text) → first z ≡ 10 → IsLineEnd z
line_end_of [] h = tt
line_end_of (b ∷ z) h = h

first_is : (z : Text) (b : ℕ) → (b ≡ 0 → ⊥) → first z ≡ b → z ≡ b ∷ drop 1 z
first_is [] b some h = absurd (some (sym h))
first_is (c ∷ z) b some h = ap (λ (n : ℕ). n ∷ z) h

quote_zero : ◌≡◌ {A = ℕ} 34 0 → ⊥
quote_zero e = omega arith

paren_zero : ◌≡◌ {A = ℕ} 41 0 → ⊥
paren_zero e = omega arith

block_fact : (inside closing : Bool) (valid : ℕ) (z : Text) → is_block_comment z ≡ true → (r : Option ℕ) → comment_len 0 1 2 (drop 2 z) ≡ r → Fact inside closing valid z (block_comment inside z r)
block_fact inside closing valid z h None e = inr (inl (h, λ size b. none (e) (block_size inside z size b)))
  where
    none : {size : ℕ} → comment_len 0 1 2 (drop 2 z) ≡ None → comment_len 0 1 2 (drop 2 z) ≡ Some size → ⊥
    none e f = cc
block_fact inside closing valid z h (Some size) e =
    pick (Fact inside closing valid z) (inside && has_line_end (take size z)) Unterminated (Gap size) (λ line. inr (inl (h, λ other b. long line other b)))
    (λ line. inr (inr (block_is inside z size h e line)))
  where
    long : (inside && has_line_end (take size z)) ≡ true → (other : ℕ) → IsBlockComment inside z other → ⊥
    long line other b =
        let same : other ≡ size = some_injective other size (sym (block_size inside z other b) ∙ e) in
        let short : (inside && has_line_end (take size z)) ≡ false = subst (λ n. (inside && has_line_end (take n z)) ≡ false) same b.5 in
        cc

-- a run after the first byte is a string
closed_is : (byte valid size : ℕ) (z w : Text) → z ≡ byte ∷ w → IsRun 1 (valid - 1) w (segment.Closed size) → IsString byte (34 ∷ []) valid z size
closed_is byte valid size z w e r = (r.0, r.4.0, e ∙ ap (λ (u : Text). byte ∷ u) (r.2 ∙ ap (λ (u : Text). bytes_of r.0 ++ u) r.4.1), r.3, omega (arith, r.4.2))

opened_is : (byte valid size : ℕ) (z w : Text) → z ≡ byte ∷ w → IsRun 1 (valid - 1) w (segment.Opened size) → IsString byte opening valid z size
opened_is byte valid size z w e r = (r.0, r.4.0, e ∙ ap (λ (u : Text). byte ∷ u) (r.2 ∙ ap (λ (u : Text). bytes_of r.0 ++ u) r.4.1), r.3, omega (arith, r.4.2))

open_is : (byte valid : ℕ) (z w : Text) → z ≡ byte ∷ w → IsRun 1 (valid - 1) w segment.Unterminated → IsUnterminatedString byte valid z
open_is byte valid z w e r = (r.0, r.1, e ∙ ap (λ (u : Text). byte ∷ u) r.2, r.3, r.4)

quoted_fact : (inside closing : Bool) (valid : ℕ) (z w : Text) (s : StringSegment) → z ≡ 34 ∷ w → has_three_quotes z ≡ false → IsRun 1 (valid - 1) w s → Fact inside closing valid z (quoted s)
quoted_fact inside closing valid z w (segment.Closed size) e three r = inr (inr (inl (three, inl (refl, closed_is 34 valid size z w e r))))
quoted_fact inside closing valid z w (segment.Opened size) e three r = inr (inr (inl (three, inr (refl, opened_is 34 valid size z w e r))))
quoted_fact inside closing valid z w segment.Malformed e three r = tt
quoted_fact inside closing valid z w segment.Unterminated e three r = inr (inr (inl (three, open_is 34 valid z w e r)))

resumed_fact : (inside closing : Bool) (valid : ℕ) (z w : Text) (s : StringSegment) → z ≡ 41 ∷ w → closing ≡ true → IsRun 1 (valid - 1) w s → Fact inside closing valid z (resumed s)
resumed_fact inside closing valid z w (segment.Closed size) e c r = inr (inr (inr (inl (c, inl (refl, closed_is 41 valid size z w e r)))))
resumed_fact inside closing valid z w (segment.Opened size) e c r = inr (inr (inr (inl (c, inr (refl, opened_is 41 valid size z w e r)))))
resumed_fact inside closing valid z w segment.Malformed e c r = tt
resumed_fact inside closing valid z w segment.Unterminated e c r = inr (inr (inr (c, open_is 41 valid z w e r)))

marked_fact : (inside closing : Bool) (valid : ℕ) (z : Text) (x : Lexeme) → is_line_comment z ≡ false → is_block_comment z ≡ false → (first z == 41 && closing) ≡ false → MarkFact marks z x → Fact inside closing valid z x
marked_fact inside closing valid z (Token kind size) line block_comment paren f = inr (inr (inr (inr (f.0, f.1, f.2, f.3, f.4, line, block_comment, paren))))
marked_fact inside closing valid z Malformed line block_comment paren f = tt
marked_fact inside closing valid z End line block_comment paren f = absurd f
marked_fact inside closing valid z (Gap size) line block_comment paren f = absurd f
marked_fact inside closing valid z Unterminated line block_comment paren f = absurd f

quote_fact : (inside closing : Bool) (valid : ℕ) (z : Text) → (first z == 34) ≡ true → Fact inside closing valid z (cond (has_three_quotes z) Malformed (quoted (pieces 0 1 (valid - 1) (drop 1 z))))
quote_fact inside closing valid z h =
    pick (Fact inside closing valid z) (has_three_quotes z) Malformed (quoted (pieces 0 1 (valid - 1) (drop 1 z))) (λ _. tt)
    (λ three. quoted_fact inside closing valid z (drop 1 z) (pieces 0 1 (valid - 1) (drop 1 z)) (first_is z 34 quote_zero (equal (first z) 34 h)) three (run_of (valid - 1) (drop 1 z)))

paren_fact : (inside closing : Bool) (valid : ℕ) (z : Text) → (first z == 41 && closing) ≡ true → Fact inside closing valid z (resumed (pieces 0 1 (valid - 1) (drop 1 z)))
paren_fact inside closing valid z h =
    let two = both (first z == 41) closing h in
    resumed_fact inside closing valid z (drop 1 z) (pieces 0 1 (valid - 1) (drop 1 z)) (first_is z 41 paren_zero (equal (first z) 41 two.0)) two.1 (run_of (valid - 1) (drop 1 z))

token_fact : (inside closing : Bool) (valid : ℕ) (z : Text) → is_line_comment z ≡ false → is_block_comment z ≡ false → Fact inside closing valid z (from_name closing valid z)
token_fact inside closing valid z line block_comment =
    pick (Fact inside closing valid z) (is_in class.NameStart (first z)) (named z (prefix_len (is_in class.Name) z)) (from_digit closing valid z) (λ name. inl (name, refl, refl)) (λ _.
    pick (Fact inside closing valid z) (is_in class.Digit (first z)) (Token k.Integer (prefix_len (is_in class.Integer) z)) (from_quote closing valid z) (λ digit. inr (inl (digit, refl, refl))) (λ _.
    pick (Fact inside closing valid z) (first z == 34) (cond (has_three_quotes z) Malformed (quoted (pieces 0 1 (valid - 1) (drop 1 z)))) (from_resumed closing valid z) (quote_fact inside closing valid z) (λ _.
    pick (Fact inside closing valid z) (first z == 41 && closing) (resumed (pieces 0 1 (valid - 1) (drop 1 z))) (mark z) (paren_fact inside closing valid z)
    (λ paren. marked_fact inside closing valid z (mark z) line block_comment paren (mark_fact z)))))

chain_fact : (inside closing : Bool) (valid : ℕ) (z : Text) → Fact inside closing valid z (cond (length z == 0) (cond inside Unterminated End) (from_break inside closing valid z))
chain_fact inside closing valid z =
    pick (Fact inside closing valid z) (length z == 0) (cond inside Unterminated End) (from_break inside closing valid z)
    (λ none. pick (Fact inside closing valid z) inside Unterminated End (λ within. inl (within, subst IsLineEnd (sym (no_length z none)) tt)) (λ outside. (outside, no_length z none))) (λ _.
    pick (Fact inside closing valid z) (first z == 10 && inside) Unterminated (from_space inside closing valid z)
    (λ line. let two = both (first z == 10) inside line in inl (two.1, line_end_of z (equal (first z) 10 two.0))) (λ no_line.
    pick (Fact inside closing valid z) (is_in class.Space (first z)) (Gap 1) (from_line inside closing valid z) (λ space. inl (refl, no_line, space)) (λ _.
    pick (Fact inside closing valid z) (is_line_comment z) (Gap (prefix_len (is_in class.Line) z)) (from_block inside closing valid z) (λ line. inr (inl (line, refl))) (λ line.
    pick (Fact inside closing valid z) (is_block_comment z) (block_comment inside z (comment_len 0 1 2 (drop 2 z))) (from_name closing valid z) (λ block_comment. block_fact inside closing valid z block_comment (comment_len 0 1 2 (drop 2 z)) refl)
    (token_fact inside closing valid z line)))))

-- ---- both

-- the bytes begin with the lexeme that the code matches
pub reads : (inside closing : Bool) (valid : ℕ) (z : Text) → BeginsWith inside closing valid z (first_lexeme inside closing valid z)
reads inside closing valid z = go (first_lexeme inside closing valid z) refl (subst (Fact inside closing valid z) (sym (chain inside closing valid z)) (chain_fact inside closing valid z))
  where
    go : (x : Lexeme) → first_lexeme inside closing valid z ≡ x → Fact inside closing valid z x → BeginsWith inside closing valid z x
    go Malformed e f = λ other h. subst (HasForm inside closing valid z) (sym (form_read inside closing valid z other h) ∙ e) h
    go End e f = f
    go (Gap size) e f = f
    go (Token kind size) e f = f
    go Unterminated e f = f

-- the lexeme that the bytes begin with is the one that the code matches
pub read : (inside closing : Bool) (valid : ℕ) (z : Text) (x : Lexeme) → BeginsWith inside closing valid z x → first_lexeme inside closing valid z ≡ x
read inside closing valid z End h = form_read inside closing valid z End h
read inside closing valid z (Gap size) h = form_read inside closing valid z (Gap size) h
read inside closing valid z (Token kind size) h = form_read inside closing valid z (Token kind size) h
read inside closing valid z Unterminated h = form_read inside closing valid z Unterminated h
read inside closing valid z Malformed h = go (first_lexeme inside closing valid z) refl (reads inside closing valid z)
  where
    go : (x : Lexeme) → first_lexeme inside closing valid z ≡ x → BeginsWith inside closing valid z x → first_lexeme inside closing valid z ≡ Malformed
    go Malformed e f = e
    go End e f = absurd (h End f)
    go (Gap size) e f = absurd (h (Gap size) f)
    go (Token kind size) e f = absurd (h (Token kind size) f)
    go Unterminated e f = absurd (h Unterminated f)
