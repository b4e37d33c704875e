-- The text of each token of a source is one of its kind.
use Rattle.std.proofs.Common.{◌≡◌, ◌<◌, ℕ, suc, ◌+◌, ◌-◌, Bool, true, false, not, cond, ◌&&◌, nat_eq, List, [], ◌∷◌, ◌++◌, length, take, drop, refl, ap, sym, ◌∙◌, subst, arith, append_assoc}
use mathlib.Core.Logic.{◌⊎◌, inl, inr}
use Rattle.std.proofs.lemmas.Grind.{common_steps}
use Rattle.std.proofs.lemmas.List.{take-append-drop}
use Rattle.std.specs.Prelude.{slice_index}
use Rattle.std.specs.List.{list_all, prefix_len}
use Rattle.std.specs.Str.{IsUtf8}
use Rattle.sw_base.specs.declared.ids.Span.{Span}
use Rattle.sw_rules.specs.declared.Rule.TheVariants.{L1}
use Rattle.sw_lex.specs.declared.bytes.Class.TheVariants as class
use Rattle.sw_lex.specs.declared.token.TokenKind.{TokenKind}
use Rattle.sw_lex.specs.declared.token.TokenKind.TheVariants as k
use Rattle.sw_lex.specs.declared.token.Token.{Token as SourceToken}
use Rattle.sw_lex.specs.declared.lexemes.Lexeme.{Lexeme}
use Rattle.sw_lex.specs.declared.lexemes.Lexeme.TheVariants.{End, Gap, Token, Malformed, Unterminated}
use Rattle.sw_lex.specs.declared.emit.Here.{Here}
use Rattle.sw_lex.specs.Bytes.{Text, is_in}
use Rattle.sw_lex.specs.Tables.{Table, words, marks, kind_in, kind_of_word, is_same_text, IsListed}
use Rattle.sw_lex.specs.Strings.{bytes_of}
use Rattle.sw_lex.specs.Lexemes.{HasForm, IsWord as BeginsWord, IsMark}
use Rattle.sw_lex.specs.Cut.{Opens, Cut, after, closes, is_inside, IsValidPrefix}
use Rattle.sw_lex.specs.Rules.{BreaksNone}
use Rattle.sw_lex.specs.Tokens.{StandFor, IsTextOf, here_after, AreTokens, end_place, place_at, start, CutsInto}
use Rattle.sw_layout.specs.Layouts.{IsWord, IsDigits, Fits}
use Rattle.sw_layout.specs.Lexed.{AreFit}
use Rattle.sw_layout.proofs.Utf8.{rest_utf8, prefix_utf8, low_utf8, text_utf8}

-- ---- kinds

-- integers and strings: their texts are told apart from those of words and marks
abbrev is_other : TokenKind → Bool
is_other k.Integer = true
is_other k.StringWhole = true
is_other k.StringStart = true
is_other k.StringMiddle = true
is_other k.StringLast = true
is_other kind = false

plain_fits : (kind : TokenKind) (text : Text) → is_other kind ≡ false → IsWord kind text ⊎ IsListed marks text kind → Fits kind text
plain_fits k.Integer text e h = absurd (cc)
plain_fits k.StringWhole text e h = absurd (cc)
plain_fits k.StringStart text e h = absurd (cc)
plain_fits k.StringMiddle text e h = absurd (cc)
plain_fits k.StringLast text e h = absurd (cc)
plain_fits kind text e h = h

-- the text of what is no string is its bytes
plain_text : (kind : TokenKind) (valid : ℕ) (bytes text : Text) → is_other kind ≡ false → IsTextOf kind valid bytes text → text ≡ bytes
plain_text k.Integer valid bytes text e h = h
plain_text k.StringWhole valid bytes text e h = absurd (cc)
plain_text k.StringStart valid bytes text e h = absurd (cc)
plain_text k.StringMiddle valid bytes text e h = absurd (cc)
plain_text k.StringLast valid bytes text e h = absurd (cc)
plain_text kind valid bytes text e h = h

-- no entry of the table is one of these
abbrev ours : Table → Bool
ours [] = true
ours (entry ∷ table) = not (is_other entry.1) && ours table

pub both : (s t : Bool) → (s && t) ≡ true → (s ≡ true) × (t ≡ true)
both true true h = (refl, refl)
both true false h = absurd (cc)
both false t h = absurd (cc)

no : (t : Bool) → not t ≡ true → t ≡ false
no true h = absurd (cc)
no false h = refl

pub kind_ours : (table : Table) (text : Text) → ours table ≡ true → is_other (kind_in table text) ≡ false
kind_ours [] text h = refl
kind_ours (entry ∷ table) text h = let two = both (not (is_other entry.1)) (ours table) h in go (is_same_text text entry.0) (no (is_other entry.1) two.0) (kind_ours table text two.1)
  where
    go : (t : Bool) → is_other entry.1 ≡ false → is_other (kind_in table text) ≡ false → is_other (cond t entry.1 (kind_in table text)) ≡ false
    go true p q = p
    go false p q = q

pub listed_ours : (table : Table) (text : Text) (kind : TokenKind) → ours table ≡ true → IsListed table text kind → is_other kind ≡ false
listed_ours [] text kind h p = elim p [ ]
listed_ours (entry ∷ table) text kind h (inl p) = ap is_other (sym p.1) ∙ no (is_other entry.1) (both (not (is_other entry.1)) (ours table) h).0
listed_ours (entry ∷ table) text kind h (inr p) = listed_ours table text kind (both (not (is_other entry.1)) (ours table) h).1 p

words_ours : ours words ≡ true
unfolding words
words_ours = refl

marks_ours : ours marks ≡ true
unfolding marks
marks_ours = refl

-- ---- words, integers and marks

run_all : (p : ℕ → Bool) (z : Text) → list_all p (take (prefix_len p z) z) ≡ true
run_all p [] = refl
run_all p (b ∷ z) = go (p b) refl (run_all p z)
  where
    go : (t : Bool) → p b ≡ t → list_all p (take (prefix_len p z) z) ≡ true → list_all p (take (cond t (1 + prefix_len p z) 0) (b ∷ z)) ≡ true
    go true e again = let one : 1 + prefix_len p z ≡ suc (prefix_len p z) = omega arith in
        ap (λ n. list_all p (take n (b ∷ z))) one ∙ ap (λ s. s && list_all p (take (prefix_len p z) z)) e ∙ again
    go false e again = refl

-- the longest run of bytes that pass a test, where the first does
run_taken : (p : ℕ → Bool) (b size : ℕ) (z : Text) → p b ≡ true → size ≡ prefix_len p (b ∷ z) → take size (b ∷ z) ≡ b ∷ take (prefix_len p z) z
run_taken p b size z e s = let one : 1 + prefix_len p z ≡ suc (prefix_len p z) = omega arith in ap (λ n. take n (b ∷ z)) (s ∙ ap (λ t. cond t (1 + prefix_len p z) 0) e ∙ one)

name_goes_on : (b : ℕ) → is_in class.NameStart b ≡ true → is_in class.Name b ≡ true
name_goes_on b h = grind (arith, common_steps)

digit_goes_on : (b : ℕ) → is_in class.Digit b ≡ true → is_in class.Integer b ≡ true
digit_goes_on b h = grind (arith, common_steps)

word_fits : (bytes : Text) (kind : TokenKind) (size : ℕ) → BeginsWord bytes kind size → IsWord kind (take size bytes)
word_fits [] kind size h = absurd (cc (h.0))
word_fits (b ∷ z) kind size (first, s, e) =
    let same = run_taken (is_in class.Name) b size z (name_goes_on b first) s in
    subst (IsWord kind) (sym same) (first, run_all (is_in class.Name) z, e ∙ ap kind_of_word same)

digits_fit : (bytes : Text) (size : ℕ) → is_in class.Digit (slice_index bytes 0) ≡ true → size ≡ prefix_len (is_in class.Integer) bytes → IsDigits (take size bytes)
digits_fit [] size first s = absurd (cc (first))
digits_fit (b ∷ z) size first s =
    subst IsDigits (sym (run_taken (is_in class.Integer) b size z (digit_goes_on b first) s)) (first, run_all (is_in class.Integer) z)

pub same_text : (u v : Text) → is_same_text u v ≡ true → u ≡ v
same_text [] [] h = refl
same_text [] (b ∷ v) h = absurd (cc)
same_text (a ∷ u) [] h = absurd (cc)
same_text (a ∷ u) (b ∷ v) h = let two = both (nat_eq a b) (is_same_text u v) h in let head : a ≡ b = grind (arith, common_steps) in let tail = same_text u v two.1 in cc

mark_fits : (closing : Bool) (bytes : Text) (kind : TokenKind) (size : ℕ) → IsMark closing bytes kind size → IsListed marks (take size bytes) kind
mark_fits closing bytes kind size (text, listed, begins, e, _, _, _, _) =
    subst (λ (u : Text). IsListed marks u kind) (sym (ap (λ n. take n bytes) e ∙ same_text (take (length text) bytes) text begins)) listed

-- ---- strings

-- what stands between two bytes of ASCII in a text of characters is one
string_fits : (prefix bytes more text : Text) (mark close valid size : ℕ) → mark < 128 → close < 128 → IsUtf8 (prefix ++ bytes) → StandFor mark (close ∷ more) valid (take size bytes) text → IsUtf8 text
string_fits prefix bytes more text mark close valid size low low' u (parts, e, are, t) =
    let cut : bytes ≡ mark ∷ (bytes_of parts ++ (close ∷ (more ++ drop size bytes))) =
    sym (take-append-drop size bytes) ∙ ap (λ l. l ++ drop size bytes) e ∙ ap (λ l. mark ∷ l) (append_assoc (bytes_of parts) (close ∷ more) (drop size bytes)) in
    let whole : IsUtf8 (prefix ++ mark ∷ (bytes_of parts ++ (close ∷ (more ++ drop size bytes)))) = subst (λ (l : Text). IsUtf8 (prefix ++ l)) cut u in
    let here = rest_utf8 prefix (mark ∷ (bytes_of parts ++ (close ∷ (more ++ drop size bytes)))) (prefix_utf8 prefix (bytes_of parts ++ (close ∷ (more ++ drop size bytes))) mark low whole) whole in
    let inner = rest_utf8 (mark ∷ []) (bytes_of parts ++ (close ∷ (more ++ drop size bytes))) (low_utf8 (mark ∷ []) (low, tt)) here in
    subst IsUtf8 (sym t) (text_utf8 (valid - 1) [] parts are (prefix_utf8 (bytes_of parts) (more ++ drop size bytes) close low' inner))

-- ---- tokens

token_fits : (prefix bytes text : Text) (inside closing : Bool) (kind : TokenKind) (valid size : ℕ) → IsUtf8 (prefix ++ bytes) → HasForm inside closing valid bytes (Token kind size) → IsTextOf kind valid (take size bytes) text → Fits kind text
token_fits prefix bytes text inside closing kind valid size u (inl h) is =
    let kept : is_other kind ≡ false = ap is_other h.2 ∙ kind_ours words (take size bytes) words_ours in
    plain_fits kind text kept (inl (subst (IsWord kind) (sym (plain_text kind valid (take size bytes) text kept is)) (word_fits bytes kind size h)))
token_fits prefix bytes text inside closing kind valid size u (inr (inl (first, s, e))) is =
    subst (λ (k : TokenKind). IsTextOf k valid (take size bytes) text → Fits k text) (sym e) (λ is. subst IsDigits (sym is) (digits_fit bytes size first s)) is
token_fits prefix bytes text inside closing kind valid size u (inr (inr (inl (three, inl (e, h))))) is =
    subst (λ (k : TokenKind). IsTextOf k valid (take size bytes) text → Fits k text) (sym e) (string_fits prefix bytes [] text 34 34 valid size (omega arith) (omega arith) u) is
token_fits prefix bytes text inside closing kind valid size u (inr (inr (inl (three, inr (e, h))))) is =
    subst (λ (k : TokenKind). IsTextOf k valid (take size bytes) text → Fits k text) (sym e) (string_fits prefix bytes (40 ∷ []) text 34 92 valid size (omega arith) (omega arith) u) is
token_fits prefix bytes text inside closing kind valid size u (inr (inr (inr (inl (c, inl (e, h)))))) is =
    subst (λ (k : TokenKind). IsTextOf k valid (take size bytes) text → Fits k text) (sym e) (string_fits prefix bytes [] text 41 34 valid size (omega arith) (omega arith) u) is
token_fits prefix bytes text inside closing kind valid size u (inr (inr (inr (inl (c, inr (e, h)))))) is =
    subst (λ (k : TokenKind). IsTextOf k valid (take size bytes) text → Fits k text) (sym e) (string_fits prefix bytes (40 ∷ []) text 41 92 valid size (omega arith) (omega arith) u) is
token_fits prefix bytes text inside closing kind valid size u (inr (inr (inr (inr h)))) is =
    let found = mark_fits closing bytes kind size h in
    let kept : is_other kind ≡ false = listed_ours marks (take size bytes) kind marks_ours found in
    plain_fits kind text kept (inr (subst (λ (l : Text). IsListed marks l kind) (sym (plain_text kind valid (take size bytes) text kept is)) found))

tokens_fit : (end : Span) (here : Here) (opens : Opens) (valid : ℕ) (prefix bytes : Text) (items : List Lexeme) (stop : Lexeme) (tokens : List SourceToken) → IsUtf8 (prefix ++ bytes) → Cut opens valid bytes items stop → AreTokens end here valid bytes items tokens → AreFit tokens
tokens_fit end here opens valid prefix bytes [] stop tokens u h are = subst AreFit (sym are) ((λ n. absurd (n refl)), tt)
tokens_fit end here opens valid prefix bytes (Token kind size ∷ items) stop tokens u h (text, later, e, is, are) =
    subst AreFit (sym e) (
      (λ n. token_fits prefix bytes text (is_inside opens) (closes opens) kind valid size u h.0 is),
      tokens_fit end (here_after here bytes (Token kind size)) (after opens (Token kind size)) (valid - size) (prefix ++ take size bytes) (drop size bytes) items stop later (moved size u) h.2 are,
    )
  where
    moved : (n : ℕ) → IsUtf8 (prefix ++ bytes) → IsUtf8 ((prefix ++ take n bytes) ++ drop n bytes)
    moved n u = subst IsUtf8 (ap (λ l. prefix ++ l) (sym (take-append-drop n bytes)) ∙ sym (append_assoc prefix (take n bytes) (drop n bytes))) u
tokens_fit end here opens valid prefix bytes (Gap size ∷ items) stop tokens u h are =
    tokens_fit end (here_after here bytes (Gap size)) (after opens (Gap size)) (valid - size) (prefix ++ take size bytes) (drop size bytes) items stop tokens (moved size u) h.2 are
  where
    moved : (n : ℕ) → IsUtf8 (prefix ++ bytes) → IsUtf8 ((prefix ++ take n bytes) ++ drop n bytes)
    moved n u = subst IsUtf8 (ap (λ l. prefix ++ l) (sym (take-append-drop n bytes)) ∙ sym (append_assoc prefix (take n bytes) (drop n bytes))) u
tokens_fit end here opens valid prefix bytes (End ∷ items) stop tokens u h are = absurd (omega (arith, h.1))
tokens_fit end here opens valid prefix bytes (Malformed ∷ items) stop tokens u h are = absurd (omega (arith, h.1))
tokens_fit end here opens valid prefix bytes (Unterminated ∷ items) stop tokens u h are = absurd (omega (arith, h.1))

-- of a source that breaks no rule of tokens
pub lexed_fit : (source : Text) (tokens : List SourceToken) → CutsInto source tokens → BreaksNone source → AreFit tokens
lexed_fit source tokens cut none =
    tokens_fit (end_place source) start [] cut.whole.valid [] source cut.whole.items cut.whole.stop tokens (valid cut.whole.prefix) cut.whole.cut cut.same
  where
    valid : IsValidPrefix source cut.whole.valid → IsUtf8 source
    valid (inl g) = g.1
    valid (inr v) = absurd (none (record { rule = L1; span = place_at source cut.whole.valid }) (cut.whole.valid, v, refl))
