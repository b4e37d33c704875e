-- No `?` of a source touches another, since the two are one mark.
use Rattle.std.proofs.Common.{◌≡◌, ◌≤◌, ℕ, ◌-◌, Bool, true, false, not, cond, if◌then◌else◌, ◌&&◌, List, [], ◌∷◌, ◌++◌, length, take, drop, refl, ap, sym, ◌∙◌, subst, arith}
use mathlib.Core.Logic.{inl, inr}
use Rattle.std.specs.Prelude.{codes}
use Rattle.sw_base.specs.declared.ids.Span.{Span}
use Rattle.sw_lex.specs.declared.token.TokenKind.{TokenKind}
use Rattle.sw_lex.specs.declared.token.TokenKind.TheVariants as k
use Rattle.sw_lex.specs.declared.token.Token.{Token as SourceToken}
use Rattle.sw_lex.specs.declared.lexemes.Lexeme.{Lexeme}
use Rattle.sw_lex.specs.declared.lexemes.Lexeme.TheVariants.{End, Gap, Token, Malformed, Unterminated}
use Rattle.sw_lex.specs.declared.emit.Here.{Here}
use Rattle.sw_lex.specs.Bytes.{Text}
use Rattle.sw_lex.specs.Tables.{Table, words, marks, kind_in, is_same_text, is_prefix_of, IsListed}
use Rattle.sw_lex.specs.Lexemes.{HasForm, IsMark}
use Rattle.sw_lex.specs.Cut.{Opens, Cut, after, closes, is_inside}
use Rattle.sw_lex.specs.Tokens.{token_at, here_after, AreTokens, end_place, start, CutsInto}
use Rattle.sw_layout.specs.Apart.{AreApart}
use Rattle.sw_layout.proofs.Lexed.{same_text, both}

-- the one spelling of `?` in the table of marks
abbrev is_question : TokenKind → Bool
is_question k.Question = true
is_question kind = false

abbrev ours : Table → Bool
ours [] = true
ours (entry ∷ table) = (if is_question entry.1 then is_same_text entry.0 (codes "?") else true) && ours table

abbrev none : Table → Bool
none [] = true
none (entry ∷ table) = not (is_question entry.1) && none table

marks_ours : ours marks ≡ true
unfolding marks
marks_ours = refl

words_none : none words ≡ true
unfolding words
words_none = refl

listed_question : (table : Table) (text : Text) → ours table ≡ true → IsListed table text k.Question → text ≡ codes "?"
listed_question [] text h p = elim p [ ]
listed_question (entry ∷ table) text h (inl p) =
    let two = both (if is_question entry.1 then is_same_text entry.0 (codes "?") else true) (ours table) h in
    let here : is_same_text entry.0 (codes "?") ≡ true = ap (λ kind. if is_question kind then is_same_text entry.0 (codes "?") else true) (sym p.1) ∙ two.0 in
    sym p.0 ∙ same_text entry.0 (codes "?") here
listed_question (entry ∷ table) text h (inr p) = listed_question table text (both (if is_question entry.1 then is_same_text entry.0 (codes "?") else true) (ours table) h).1 p

no : (t : Bool) → not t ≡ true → t ≡ false
no true h = absurd (cc)
no false h = refl

no_word : (table : Table) (text : Text) → none table ≡ true → is_question (kind_in table text) ≡ false
no_word [] text h = refl
no_word (entry ∷ table) text h = let two = both (not (is_question entry.1)) (none table) h in go (is_same_text text entry.0) (no (is_question entry.1) two.0) (no_word table text two.1)
  where
    go : (t : Bool) → is_question entry.1 ≡ false → is_question (kind_in table text) ≡ false → is_question (cond t entry.1 (kind_in table text)) ≡ false
    go true p q = p
    go false p q = q

-- a `?` that begins here is a mark
question_mark : (inside closing : Bool) (valid size : ℕ) (bytes : Text) → HasForm inside closing valid bytes (Token k.Question size) → IsMark closing bytes k.Question size
question_mark inside closing valid size bytes (inl h) = absurd (cc (ap is_question h.2, no_word words (take size bytes) words_none))
question_mark inside closing valid size bytes (inr (inl h)) = absurd (cc (h.2))
question_mark inside closing valid size bytes (inr (inr (inl (three, inl h)))) = absurd (cc (h.0))
question_mark inside closing valid size bytes (inr (inr (inl (three, inr h)))) = absurd (cc (h.0))
question_mark inside closing valid size bytes (inr (inr (inr (inl (c, inl h))))) = absurd (cc (h.0))
question_mark inside closing valid size bytes (inr (inr (inr (inl (c, inr h))))) = absurd (cc (h.0))
question_mark inside closing valid size bytes (inr (inr (inr (inr h)))) = h

-- it has one byte, and no `?` follows it
first_byte : (bytes : Text) → is_prefix_of (codes "?") bytes ≡ true → (rest : Text) × (bytes ≡ 63 ∷ rest)
first_byte [] h = absurd (cc (h))
first_byte (b ∷ rest) h = (rest, ap (λ l. l ++ rest) (same_text (b ∷ []) (codes "?") h))

listed_coalesce : IsListed marks (codes "??") k.Coalesce
unfolding marks
listed_coalesce = inr (inr (inr (inr (inr (inr (inr (inr (inr (inl (refl, refl))))))))))

alone : (closing again : Bool) (size size' : ℕ) (bytes : Text) → IsMark closing bytes k.Question size → IsMark again (drop size bytes) k.Question size' → ⊥
alone closing again size size' bytes (text, listed, begins, n, longest, _, _, _) (text', listed', begins', n', _, _, _, _) =
    let here = listed_question marks text marks_ours listed in
    let there = listed_question marks text' marks_ours listed' in
    let one : size ≡ 1 = n ∙ ap length here in
    let (rest, e) = first_byte bytes (subst (λ (t : Text). is_prefix_of t bytes ≡ true) here begins) in
    let (rest', e') = first_byte (drop size bytes) (subst (λ (t : Text). is_prefix_of t (drop size bytes) ≡ true) there begins') in
    let following : rest ≡ 63 ∷ rest' = sym (ap (λ n. drop n bytes) one ∙ ap (drop 1) e) ∙ e' in
    let two : is_prefix_of (codes "??") bytes ≡ true = ap (is_prefix_of (codes "??")) (e ∙ ap (λ (l : Text). 63 ∷ l) following) in
    let big : 2 ≤ size = longest (codes "??") k.Coalesce listed_coalesce two in
    absurd (omega (arith, one, big))

-- ---- tokens

-- the first of the tokens, where nothing touches what begins here
untouched : (end : Span) (here : Here) (valid : ℕ) (bytes : Text) (items : List Lexeme) (tokens : List SourceToken) → here.touching ≡ false → AreTokens end here valid bytes items tokens
    → (first : SourceToken) × (later : List SourceToken) × (tokens ≡ first ∷ later) × (first.touches ≡ false)
untouched end here valid bytes [] tokens h are = (token_at end here k.End [], [], are, h)
untouched end here valid bytes (Token kind size ∷ items) tokens h (text, later, e, is, are) = (token_at here.place here kind text, later, e, h)
untouched end here valid bytes (Gap size ∷ items) tokens h are = untouched end (here_after here bytes (Gap size)) (valid - size) (drop size bytes) items tokens refl are
untouched end here valid bytes (End ∷ items) tokens h are = untouched end here (valid - 0) (drop 0 bytes) items tokens h are
untouched end here valid bytes (Malformed ∷ items) tokens h are = untouched end here (valid - 0) (drop 0 bytes) items tokens h are
untouched end here valid bytes (Unterminated ∷ items) tokens h are = untouched end here (valid - 0) (drop 0 bytes) items tokens h are

-- a token before others that stand apart
before : (t : SourceToken) (later : List SourceToken) (first : SourceToken) (rest : List SourceToken) → later ≡ first ∷ rest → (t.kind ≡ k.Question → first.kind ≡ k.Question → first.touches ≡ false) → AreApart later → AreApart (t ∷ later)
before t later first rest e h all = subst (λ l. AreApart (t ∷ l)) (sym e) (h, subst AreApart e all)

apart : (end : Span) (here : Here) (opens : Opens) (valid : ℕ) (bytes : Text) (items : List Lexeme) (stop : Lexeme) (tokens : List SourceToken) → Cut opens valid bytes items stop → AreTokens end here valid bytes items tokens → AreApart tokens
apart end here opens valid bytes [] stop tokens h are = subst AreApart (sym are) tt
apart end here opens valid bytes (Token kind size ∷ []) stop tokens h (text, later, e, is, are) =
    subst AreApart (sym e) (before (token_at here.place here kind text) later (token_at end (here_after here bytes (Token kind size)) k.End []) [] are (λ a b. absurd (cc (b))) (subst AreApart (sym are) tt))
apart end here opens valid bytes (Token kind size ∷ Token kind' size' ∷ items) stop tokens h (text, later, e, is, (text', later', e', is', are)) =
    subst AreApart (sym e) (before (token_at here.place here kind text) later (token_at (here_after here bytes (Token kind size)).place (here_after here bytes (Token kind size)) kind' text') later' e'
    (λ a b. absurd (alone (closes opens) (closes (after opens (Token kind size))) size size' bytes
    (question_mark (is_inside opens) (closes opens) valid size bytes (subst (λ (k : TokenKind). HasForm (is_inside opens) (closes opens) valid bytes (Token k size)) a h.0))
    (question_mark (is_inside (after opens (Token kind size))) (closes (after opens (Token kind size))) (valid - size) size' (drop size bytes)
    (subst (λ (k : TokenKind). HasForm (is_inside (after opens (Token kind size))) (closes (after opens (Token kind size))) (valid - size) (drop size bytes) (Token k size')) b h.2.0))))
    (apart end (here_after here bytes (Token kind size)) (after opens (Token kind size)) (valid - size) (drop size bytes) (Token kind' size' ∷ items) stop later h.2 (text', later', e', is', are)))
apart end here opens valid bytes (Token kind size ∷ Gap size' ∷ items) stop tokens h (text, later, e, is, are) =
    let (first, rest, e', free) = untouched end (here_after (here_after here bytes (Token kind size)) (drop size bytes) (Gap size')) (valid - size - size') (drop size' (drop size bytes)) items later refl are in
    subst AreApart (sym e) (before (token_at here.place here kind text) later first rest e' (λ a b. free)
    (apart end (here_after here bytes (Token kind size)) (after opens (Token kind size)) (valid - size) (drop size bytes) (Gap size' ∷ items) stop later h.2 are))
apart end here opens valid bytes (Token kind size ∷ End ∷ items) stop tokens h (text, later, e, is, are) = absurd (omega (arith, h.2.1))
apart end here opens valid bytes (Token kind size ∷ Malformed ∷ items) stop tokens h (text, later, e, is, are) = absurd (omega (arith, h.2.1))
apart end here opens valid bytes (Token kind size ∷ Unterminated ∷ items) stop tokens h (text, later, e, is, are) = absurd (omega (arith, h.2.1))
apart end here opens valid bytes (Gap size ∷ items) stop tokens h are = apart end (here_after here bytes (Gap size)) (after opens (Gap size)) (valid - size) (drop size bytes) items stop tokens h.2 are
apart end here opens valid bytes (End ∷ items) stop tokens h are = absurd (omega (arith, h.1))
apart end here opens valid bytes (Malformed ∷ items) stop tokens h are = absurd (omega (arith, h.1))
apart end here opens valid bytes (Unterminated ∷ items) stop tokens h are = absurd (omega (arith, h.1))

-- of a source
pub questions_apart : (source : Text) (tokens : List SourceToken) → CutsInto source tokens → AreApart tokens
questions_apart source tokens cut = apart (end_place source) start [] cut.whole.valid source cut.whole.items cut.whole.stop tokens cut.whole.cut cut.same
