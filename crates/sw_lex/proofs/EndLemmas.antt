-- Tokens end with one token for the end of the source.
use Rattle.std.proofs.Common.{◌≡◌, ◌≢◌, ℕ, ◌-◌, ◌==◌, Bool, true, false, cond, not, ◌&&◌, List, [], ◌∷◌, length, drop, take, refl, ap, sym, ◌∙◌}
use Rattle.std.specs.Prelude.{slice_index, Option, Some, None}
use Rattle.sw_base.specs.declared.ids.Span.{Span}
use Rattle.sw_lex.specs.declared.bytes.Class.TheVariants as class
use Rattle.sw_lex.specs.declared.token.TokenKind.{TokenKind}
use Rattle.sw_lex.specs.declared.token.TokenKind.TheVariants as k
use Rattle.sw_lex.specs.declared.token.Token.{Token as SourceToken}
use Rattle.sw_lex.specs.declared.strings.StringSegment.{StringSegment}
use Rattle.sw_lex.specs.declared.strings.StringSegment.TheVariants as segment
use Rattle.sw_lex.specs.declared.lexemes.Lexeme.{Lexeme}
use Rattle.sw_lex.specs.declared.lexemes.Lexeme.TheVariants.{End, Gap, Token, Malformed, Unterminated}
use Rattle.sw_lex.specs.declared.emit.Here.{Here}
use Rattle.sw_lex.specs.Bytes.{Text, is_in}
use Rattle.sw_lex.specs.Tables.{Table, words, marks, is_same_text, kind_in, is_prefix_of}
use Rattle.sw_lex.specs.Matching.{first_mark, mark, first_lexeme, block_comment, quoted, resumed, named}
use Rattle.sw_lex.specs.Lexemes.{has_three_quotes, size_of}
use Rattle.sw_lex.specs.Cut.{Opens, Cut, after, is_inside, closes}
use Rattle.sw_lex.specs.Tokens.{here_after, token_at, EndsOnce}
use Rattle.sw_lex.specs.Emitted.{emitted, token_text}
use Rattle.sw_lex.proofs.MatchingLemmas.{read}

abbrev is_end : TokenKind → Bool
is_end k.End = true
is_end kind = false

abbrev is_end_token : Lexeme → Bool
is_end_token (Token kind size) = is_end kind
is_end_token lexeme = false

either : (t : Bool) (a b : Lexeme) → is_end_token a ≡ false → is_end_token b ≡ false → is_end_token (cond t a b) ≡ false
either true a b p q = p
either false a b p q = q

either_kind : (t : Bool) (a b : TokenKind) → is_end a ≡ false → is_end b ≡ false → is_end (cond t a b) ≡ false
either_kind true a b p q = p
either_kind false a b p q = q

-- ---- the tables have no token for the end

abbrev has_no_end : Table → Bool
has_no_end [] = true
has_no_end (entry ∷ table) = not (is_end entry.1) && has_no_end table

head_of : (s t : Bool) → (not s && t) ≡ true → s ≡ false
head_of true t h = absurd (cc)
head_of false t h = refl

rest_of : (s t : Bool) → (not s && t) ≡ true → t ≡ true
rest_of true t h = absurd (cc)
rest_of false t h = h

kind_in_no_end : (table : Table) (text : Text) → has_no_end table ≡ true → is_end (kind_in table text) ≡ false
kind_in_no_end [] text h = refl
kind_in_no_end (entry ∷ table) text h =
    either_kind (is_same_text text entry.0) entry.1 (kind_in table text) (head_of (is_end entry.1) (has_no_end table) h)
    (kind_in_no_end table text (rest_of (is_end entry.1) (has_no_end table) h))

first_mark_no_end : (table : Table) (bytes : Text) → has_no_end table ≡ true → is_end_token (first_mark table bytes) ≡ false
first_mark_no_end [] bytes h = refl
first_mark_no_end (entry ∷ table) bytes h =
    either (is_prefix_of entry.0 bytes) (Token entry.1 (length entry.0)) (first_mark table bytes) (head_of (is_end entry.1) (has_no_end table) h)
    (first_mark_no_end table bytes (rest_of (is_end entry.1) (has_no_end table) h))

words_have_none : has_no_end words ≡ true
unfolding words
words_have_none = refl

marks_have_none : has_no_end marks ≡ true
unfolding marks
marks_have_none = refl

-- ---- no such token begins

block_no_end : (inside : Bool) (bytes : Text) (size : Option ℕ) → is_end_token (block_comment inside bytes size) ≡ false
block_no_end inside bytes None = refl
block_no_end inside bytes (Some size) = either _ Unterminated (Gap size) refl refl

quoted_no_end : (s : StringSegment) → is_end_token (quoted s) ≡ false
quoted_no_end (segment.Closed size) = refl
quoted_no_end (segment.Opened size) = refl
quoted_no_end segment.Malformed = refl
quoted_no_end segment.Unterminated = refl

resumed_no_end : (s : StringSegment) → is_end_token (resumed s) ≡ false
resumed_no_end (segment.Closed size) = refl
resumed_no_end (segment.Opened size) = refl
resumed_no_end segment.Malformed = refl
resumed_no_end segment.Unterminated = refl

begins_no_end : (inside closing : Bool) (valid : ℕ) (bytes : Text) → is_end_token (first_lexeme inside closing valid bytes) ≡ false
unfolding first_lexeme
begins_no_end inside closing valid bytes =
    either (length bytes == 0) (cond inside Unterminated End) _ (either inside Unterminated End refl refl)
    (either (slice_index bytes 0 == 10 && inside) Unterminated _ refl
    (either (is_in class.Space (slice_index bytes 0)) (Gap 1) _ refl
    (either (slice_index bytes 0 == 47 && slice_index bytes 1 == 47) (Gap _) _ refl
    (either (slice_index bytes 0 == 47 && slice_index bytes 1 == 42) (block_comment inside bytes _) _ (block_no_end inside bytes _)
    (either (is_in class.NameStart (slice_index bytes 0)) (named bytes _) _ (kind_in_no_end words _ words_have_none)
    (either (is_in class.Digit (slice_index bytes 0)) (Token k.Integer _) _ refl
    (either (slice_index bytes 0 == 34) (cond (has_three_quotes bytes) Malformed (quoted _)) _ (either (has_three_quotes bytes) Malformed (quoted _) refl (quoted_no_end _))
    (either (slice_index bytes 0 == 41 && closing) (resumed _) (mark bytes) (resumed_no_end _) (first_mark_no_end marks bytes marks_have_none)))))))))

-- ---- the tokens of a cut

not_end : (kind : TokenKind) → is_end kind ≡ false → kind ≢ k.End
not_end kind h e = let f : is_end kind ≡ is_end k.End = ap is_end e in cc

ends_more : (token : SourceToken) (tokens : List SourceToken) → token.kind ≢ k.End → EndsOnce tokens → EndsOnce (token ∷ tokens)
ends_more token [] other h = absurd h
ends_more token (next ∷ tokens) other h = (other, h)

pub emitted_ends_once : (end : Span) (here : Here) (opens : Opens) (valid : ℕ) (bytes : Text) (items : List Lexeme) (stop : Lexeme) → Cut opens valid bytes items stop → EndsOnce (emitted end here bytes items)
emitted_ends_once end here opens valid bytes [] stop h = (refl, refl)
emitted_ends_once end here opens valid bytes (item ∷ items) stop h =
    go item (ap is_end_token (sym (read (is_inside opens) (closes opens) valid bytes item h.0)) ∙ begins_no_end (is_inside opens) (closes opens) valid bytes)
    (emitted_ends_once end (here_after here bytes item) (after opens item) (valid - size_of item) (drop (size_of item) bytes) items stop h.2)
  where
    go : (x : Lexeme) → is_end_token x ≡ false → EndsOnce (emitted end (here_after here bytes x) (drop (size_of x) bytes) items) → EndsOnce (emitted end here bytes (x ∷ items))
    go (Token kind size) e later = ends_more (token_at here.place here kind (token_text kind (take size bytes))) (emitted end (here_after here bytes (Token kind size)) (drop size bytes) items) (not_end kind e) later
    go (Gap size) e later = later
    go End e later = later
    go Malformed e later = later
    go Unterminated e later = later
