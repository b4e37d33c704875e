-- The tokens that the code writes are those of the cut.
use Rattle.std.proofs.Common.{◌≡◌, ℕ, ◌-◌, Bool, true, false, cond, not, ◌&&◌, List, [], ◌∷◌, ◌++◌, length, take, drop, refl, ap, sym, ◌∙◌, subst, arith, append_assoc, length-append}
use Rattle.std.proofs.Math.Seq.{take-append_seam}
use mathlib.Core.Logic.{inl, inr}
use Rattle.sw_base.specs.declared.ids.Span.{Span}
use Rattle.sw_lex.specs.declared.token.TokenKind.{TokenKind}
use Rattle.sw_lex.specs.declared.token.TokenKind.TheVariants as k
use Rattle.sw_lex.specs.declared.token.Token.{Token as SourceToken}
use Rattle.sw_lex.specs.declared.lexemes.Lexeme.{Lexeme}
use Rattle.sw_lex.specs.declared.lexemes.Lexeme.TheVariants.{End, Gap, Token, Malformed, Unterminated}
use Rattle.sw_lex.specs.declared.emit.Here.{Here}
use Rattle.sw_lex.specs.Bytes.{Text}
use Rattle.sw_lex.specs.Tables.{Table, words, marks, is_same_text, kind_in, IsListed}
use Rattle.sw_lex.specs.Strings.{bytes_of}
use Rattle.sw_lex.specs.Lexemes.{opening, IsString, HasForm}
use Rattle.sw_lex.specs.Cut.{Opens, Cut, after, closes, is_inside}
use Rattle.sw_lex.specs.Tokens.{AreTokens, IsTextOf, StandFor, here_after, token_at}
use Rattle.sw_lex.specs.Matching.{decoded}
use Rattle.sw_lex.specs.Emitted.{emitted, token_text, within}
use Rattle.sw_lex.proofs.PieceLemmas.{both}
use Rattle.sw_lex.proofs.RunLemmas.{pieces_decoded}

-- ---- what the pieces stand for is what the code decodes

within_is : (mark : ℕ) (inner closing : Text) (n : ℕ) → length closing ≡ n → within n (mark ∷ (inner ++ closing)) ≡ inner
within_is mark inner closing n e =
    let len = length-append inner closing in
    let size : length (mark ∷ (inner ++ closing)) - n - 1 ≡ length inner = omega (arith, len, e) in
    ap (λ m. take m (inner ++ closing)) size ∙ take-append_seam inner closing

stands_decoded : (mark valid n : ℕ) (closing bytes text : Text) → length closing ≡ n → StandFor mark closing valid bytes text → text ≡ decoded 0 (within n bytes)
stands_decoded mark valid n closing bytes text e h =
    h.3 ∙ sym (ap (λ (u : Text). decoded 0 (within n u)) h.1 ∙ ap (λ (u : Text). decoded 0 u) (within_is mark (bytes_of h.0) closing n e) ∙ pieces_decoded (valid - 1) h.0 h.2)

text_emitted : (kind : TokenKind) (valid : ℕ) (bytes text : Text) → IsTextOf kind valid bytes text → text ≡ token_text kind bytes
text_emitted k.StringWhole valid bytes text h = stands_decoded 34 valid 1 (34 ∷ []) bytes text refl h
text_emitted k.StringStart valid bytes text h = stands_decoded 34 valid 2 opening bytes text refl h
text_emitted k.StringMiddle valid bytes text h = stands_decoded 41 valid 2 opening bytes text refl h
text_emitted k.StringLast valid bytes text h = stands_decoded 41 valid 1 (34 ∷ []) bytes text refl h
text_emitted kind valid bytes text h = h

-- tokens of the cut are those that the code writes
pub tokens_emitted : (end : Span) (here : Here) (valid : ℕ) (bytes : Text) (items : List Lexeme) (tokens : List SourceToken) → AreTokens end here valid bytes items tokens → tokens ≡ emitted end here bytes items
tokens_emitted end here valid bytes [] tokens h = h
tokens_emitted end here valid bytes (Token kind size ∷ items) tokens h =
    let text_is : h.0 ≡ token_text kind (take size bytes) = text_emitted kind valid (take size bytes) h.0 h.3 in
    let later_is : h.1 ≡ emitted end (here_after here bytes (Token kind size)) (drop size bytes) items = tokens_emitted end (here_after here bytes (Token kind size)) (valid - size) (drop size bytes) items h.1 h.4 in
    h.2 ∙ ap (λ (t : Text). token_at here.place here kind t ∷ h.1) text_is ∙ ap (λ (ts : List SourceToken). token_at here.place here kind (token_text kind (take size bytes)) ∷ ts) later_is
tokens_emitted end here valid bytes (Gap size ∷ items) tokens h = tokens_emitted end (here_after here bytes (Gap size)) (valid - size) (drop size bytes) items tokens h
tokens_emitted end here valid bytes (End ∷ items) tokens h = tokens_emitted end (here_after here bytes End) (valid - 0) (drop 0 bytes) items tokens h
tokens_emitted end here valid bytes (Malformed ∷ items) tokens h = tokens_emitted end (here_after here bytes Malformed) (valid - 0) (drop 0 bytes) items tokens h
tokens_emitted end here valid bytes (Unterminated ∷ items) tokens h = tokens_emitted end (here_after here bytes Unterminated) (valid - 0) (drop 0 bytes) items tokens h

-- ---- what the code writes are tokens of the cut

string_stands : (mark valid size n : ℕ) (closing bytes : Text) → length closing ≡ n → IsString mark closing valid bytes size → StandFor mark closing valid (take size bytes) (decoded 0 (within n (take size bytes)))
string_stands mark valid size n closing bytes e h =
    let prefix : Text = mark ∷ (bytes_of h.0 ++ closing) in
    let joined : mark ∷ (bytes_of h.0 ++ (closing ++ h.1)) ≡ (mark ∷ (bytes_of h.0 ++ closing)) ++ h.1 = ap (λ (u : Text). mark ∷ u) (sym (append_assoc (bytes_of h.0) closing h.1)) in
    let len : size ≡ length (mark ∷ (bytes_of h.0 ++ closing)) = omega (arith, h.4, length-append (bytes_of h.0) closing) in
    let taken : take size bytes ≡ mark ∷ (bytes_of h.0 ++ closing) = ap (λ (u : Text). take size u) (h.2 ∙ joined) ∙ ap (λ m. take m ((mark ∷ (bytes_of h.0 ++ closing)) ++ h.1)) len ∙ take-append_seam (mark ∷ (bytes_of h.0 ++ closing)) h.1 in (
      h.0,
      taken,
      h.3,
      ap (λ (u : Text). decoded 0 (within n u)) taken ∙ ap (λ (u : Text). decoded 0 u) (within_is mark (bytes_of h.0) closing n e) ∙ pieces_decoded (valid - 1) h.0 h.3,
    )

abbrev is_string : TokenKind → Bool
is_string k.StringWhole = true
is_string k.StringStart = true
is_string k.StringMiddle = true
is_string k.StringLast = true
is_string kind = false

plain_emits : (kind : TokenKind) (valid : ℕ) (bytes : Text) → is_string kind ≡ false → IsTextOf kind valid bytes (token_text kind bytes)
plain_emits k.StringWhole valid bytes h = absurd (cc)
plain_emits k.StringStart valid bytes h = absurd (cc)
plain_emits k.StringMiddle valid bytes h = absurd (cc)
plain_emits k.StringLast valid bytes h = absurd (cc)
plain_emits kind valid bytes h = refl

-- the tables have no kind of a string
abbrev has_no_string : Table → Bool
has_no_string [] = true
has_no_string (entry ∷ table) = not (is_string entry.1) && has_no_string table

words_have_none : has_no_string words ≡ true
unfolding words
words_have_none = refl

marks_have_none : has_no_string marks ≡ true
unfolding marks
marks_have_none = refl

no_string : (entry : Text × TokenKind) (table : Table) → has_no_string (entry ∷ table) ≡ true → (is_string entry.1 ≡ false) × (has_no_string table ≡ true)
no_string entry table h = go (is_string entry.1) refl (both (not (is_string entry.1)) (has_no_string table) h)
  where
    go : (t : Bool) → is_string entry.1 ≡ t → (not (is_string entry.1) ≡ true) × (has_no_string table ≡ true) → (is_string entry.1 ≡ false) × (has_no_string table ≡ true)
    go false e p = (e, p.1)
    go true e p = let other : not (is_string entry.1) ≡ false = ap not e in absurd (let same = p.0 in cc)

word_no_string : (table : Table) (text : Text) → has_no_string table ≡ true → is_string (kind_in table text) ≡ false
word_no_string [] text h = refl
word_no_string (entry ∷ table) text h = go (is_same_text text entry.0) (word_no_string table text (no_string entry table h).1)
  where
    go : (t : Bool) → is_string (kind_in table text) ≡ false → is_string (cond t entry.1 (kind_in table text)) ≡ false
    go true e = (no_string entry table h).0
    go false e = e

listed_no_string : (table : Table) (text : Text) (kind : TokenKind) → has_no_string table ≡ true → IsListed table text kind → is_string kind ≡ false
listed_no_string [] text kind h l = absurd l
listed_no_string (entry ∷ table) text kind h (inl l) = ap is_string (sym l.1) ∙ (no_string entry table h).0
listed_no_string (entry ∷ table) text kind h (inr l) = listed_no_string table text kind (no_string entry table h).1 l

abbrev TextEmitted : ℕ → Text → ℕ → TokenKind → Type 0
TextEmitted valid bytes size kind = IsTextOf kind valid (take size bytes) (token_text kind (take size bytes))

emitted_of : (valid size : ℕ) (bytes : Text) (kind its : TokenKind) → kind ≡ its → TextEmitted valid bytes size its → TextEmitted valid bytes size kind
emitted_of valid size bytes kind its e h = subst (λ (t : TokenKind). TextEmitted valid bytes size t) (sym e) h

text_emits : (inside closing : Bool) (valid : ℕ) (bytes : Text) (kind : TokenKind) (size : ℕ) → HasForm inside closing valid bytes (Token kind size) → TextEmitted valid bytes size kind
text_emits inside closing valid bytes kind size (inl h) = plain_emits kind valid (take size bytes) (ap is_string h.2 ∙ word_no_string words (take size bytes) words_have_none)
text_emits inside closing valid bytes kind size (inr (inl h)) = plain_emits kind valid (take size bytes) (ap is_string h.2)
text_emits inside closing valid bytes kind size (inr (inr (inl (h, inl s)))) = emitted_of valid size bytes kind k.StringWhole s.0 (string_stands 34 valid size 1 (34 ∷ []) bytes refl s.1)
text_emits inside closing valid bytes kind size (inr (inr (inl (h, inr s)))) = emitted_of valid size bytes kind k.StringStart s.0 (string_stands 34 valid size 2 opening bytes refl s.1)
text_emits inside closing valid bytes kind size (inr (inr (inr (inl (c, inl s))))) = emitted_of valid size bytes kind k.StringLast s.0 (string_stands 41 valid size 1 (34 ∷ []) bytes refl s.1)
text_emits inside closing valid bytes kind size (inr (inr (inr (inl (c, inr s))))) = emitted_of valid size bytes kind k.StringMiddle s.0 (string_stands 41 valid size 2 opening bytes refl s.1)
text_emits inside closing valid bytes kind size (inr (inr (inr (inr h)))) = plain_emits kind valid (take size bytes) (listed_no_string marks h.0 kind marks_have_none h.1)

pub emitted_tokens : (end : Span) (here : Here) (opens : Opens) (valid : ℕ) (bytes : Text) (items : List Lexeme) (stop : Lexeme) → Cut opens valid bytes items stop → AreTokens end here valid bytes items (emitted end here bytes items)
emitted_tokens end here opens valid bytes [] stop h = refl
emitted_tokens end here opens valid bytes (Token kind size ∷ items) stop h = (
  token_text kind (take size bytes),
  emitted end (here_after here bytes (Token kind size)) (drop size bytes) items,
  refl,
  text_emits (is_inside opens) (closes opens) valid bytes kind size h.0,
  emitted_tokens end (here_after here bytes (Token kind size)) (after opens (Token kind size)) (valid - size) (drop size bytes) items stop h.2,
)
emitted_tokens end here opens valid bytes (Gap size ∷ items) stop h = emitted_tokens end (here_after here bytes (Gap size)) (after opens (Gap size)) (valid - size) (drop size bytes) items stop h.2
emitted_tokens end here opens valid bytes (End ∷ items) stop h = absurd (omega (arith, h.1))
emitted_tokens end here opens valid bytes (Malformed ∷ items) stop h = absurd (omega (arith, h.1))
emitted_tokens end here opens valid bytes (Unterminated ∷ items) stop h = absurd (omega (arith, h.1))
