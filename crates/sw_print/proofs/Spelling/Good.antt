-- Texts that are of their kind: of the tokens of a source, and of the words that are written.
use Rattle.std.proofs.Common.{◌≡◌, ◌≤◌, Bool, true, false, not, ◌&&◌, ◌⊎◌, inl, inr, if◌then◌else◌, List, [], ◌∷◌, ◌++◌, refl, sym, ap, ◌∙◌, subst}
use Rattle.std.specs.Cmp.Lexicographic.{same_text}
use Rattle.sw_base.specs.Limits.{greatest_integer}
use Rattle.sw_lex.specs.declared.token.TokenKind.{TokenKind}
use Rattle.sw_lex.specs.declared.token.TokenKind.TheVariants as k
use Rattle.sw_lex.specs.declared.token.Token.{Token}
use Rattle.sw_lex.specs.Bytes.{Text}
use Rattle.sw_lex.specs.Rules.{number}
use Rattle.sw_lex.specs.Tables.{Table, words, marks, is_same_text, kind_in, kind_of_word, IsListed, same_kind, fixed, is_reserved_kind}
use Rattle.sw_grammar.proofs.Starts.{and_halves}
use Rattle.sw_layout.specs.Words.{Word}
use Rattle.sw_layout.specs.Layouts.{Fits, IsWord}
use Rattle.sw_syntax.specs.Tokens.{Sighted, seen, sighted}
use Rattle.sw_print.proofs.Spelling.Built.{Every}

-- the text is of the kind, and an integer is one that a literal holds
abbrev pub IsOfKind : TokenKind → Text → Type 0
IsOfKind kind text = Fits kind text × (kind ≡ k.Integer → number 0 text ≤ greatest_integer)

-- what is seen of a token whose text is of its kind
abbrev pub IsGood : Sighted → Type 0
IsGood t = (token : Token) × (following : List Token) × (t ≡ seen token following) × IsOfKind token.kind token.text

abbrev pub IsGoodWord : Word → Type 0
IsGoodWord w = IsOfKind w.kind w.text

pub good_face : (t : Sighted) → IsGood t → IsOfKind t.face.kind t.face.text
good_face t (token, following, e, is) = subst (λ t. IsOfKind t.face.kind t.face.text) (sym e) is

-- ---- kinds that are spelt in one way

-- a name, an integer, a part of a string or the end
abbrev pub is_free : TokenKind → Bool
is_free k.Name = true
is_free k.Integer = true
is_free k.StringWhole = true
is_free k.StringStart = true
is_free k.StringMiddle = true
is_free k.StringLast = true
is_free k.End = true
is_free kind = false

abbrev pub all_fixed : Table → Bool
all_fixed [] = true
all_fixed (entry ∷ table) = is_same_text entry.0 (fixed entry.1) && all_fixed table

words_fixed : all_fixed words ≡ true
unfolding words
words_fixed = refl

marks_fixed : all_fixed marks ≡ true
unfolding marks
marks_fixed = refl

listed_fixed : (table : Table) (text : Text) (kind : TokenKind) → all_fixed table ≡ true → IsListed table text kind → text ≡ fixed kind
listed_fixed [] text kind h p = elim p [ ]
listed_fixed (entry ∷ table) text kind h (inl p) = sym p.0 ∙ same_text entry.0 (fixed entry.1) (sym (and_halves _ _ h).0) ∙ ap fixed p.1
listed_fixed (entry ∷ table) text kind h (inr p) = listed_fixed table text kind (and_halves _ _ h).1 p

-- the kind of a word is that of a name, or stands in the table
told : (table : Table) (text : Text) (kind : TokenKind) → kind ≡ kind_in table text → (kind ≡ k.Name) ⊎ IsListed table text kind
told [] text kind h = inl h
told (entry ∷ table) text kind h = go (λ h. told table text kind h) (is_same_text text entry.0) refl h
  where
    go : (kind ≡ kind_in table text → (kind ≡ k.Name) ⊎ IsListed table text kind) → (b : Bool) → is_same_text text entry.0 ≡ b
        → kind ≡ (if b then entry.1 else kind_in table text) → (kind ≡ k.Name) ⊎ IsListed (entry ∷ table) text kind
    go later true e h = inr (inl (sym (same_text text entry.0 (sym e)), sym h))
    go later false e h = elim (later h) [ inl p ↦ inl p | inr p ↦ inr (inr p) ]

word_kind : (text : Text) (kind : TokenKind) → IsWord kind text → kind ≡ kind_of_word text
word_kind [] kind p = elim p [ ]
word_kind (byte ∷ bytes) kind p = p.2

free_fits : (kind : TokenKind) (text : Text) → is_free kind ≡ false → Fits kind text → IsWord kind text ⊎ IsListed marks text kind
free_fits k.Integer text h p = absurd (cc)
free_fits k.StringWhole text h p = absurd (cc)
free_fits k.StringStart text h p = absurd (cc)
free_fits k.StringMiddle text h p = absurd (cc)
free_fits k.StringLast text h p = absurd (cc)
free_fits kind text h p = p

not_name : (kind : TokenKind) → is_free kind ≡ false → kind ≡ k.Name → ⊥
not_name kind h e = absurd (subst (λ kind. is_free kind ≡ false → ⊥) (sym e) (λ h. cc) h)

-- its text is the one that the kind has
pub fixed_text : (kind : TokenKind) (text : Text) → is_free kind ≡ false → Fits kind text → text ≡ fixed kind
fixed_text kind text h p = go (free_fits kind text h p)
  where
    go : IsWord kind text ⊎ IsListed marks text kind → text ≡ fixed kind
    go (inl p) = elim (told words text kind (word_kind text kind p)) [ inl e ↦ absurd (not_name kind h e) | inr p ↦ listed_fixed words text kind words_fixed p ]
    go (inr p) = listed_fixed marks text kind marks_fixed p

-- ---- names and reserved words

-- a name's kind, or a reserved word's
abbrev pub is_wordy : TokenKind → Bool
is_wordy k.Name = true
is_wordy kind = is_reserved_kind kind

abbrev none_wordy : Table → Bool
none_wordy [] = true
none_wordy (entry ∷ table) = not (is_wordy entry.1) && none_wordy table

marks_not_wordy : none_wordy marks ≡ true
unfolding marks same_kind is_reserved_kind
marks_not_wordy = refl

mark_not_wordy : (table : Table) (text : Text) (kind : TokenKind) → none_wordy table ≡ true → IsListed table text kind → is_wordy kind ≡ true → ⊥
mark_not_wordy [] text kind h p w = elim p [ ]
mark_not_wordy (entry ∷ table) text kind h (inl p) w = clash (is_wordy kind) w (ap (λ x. not (is_wordy x)) (sym p.1) ∙ (and_halves _ _ h).0)
  where
    clash : (b : Bool) → b ≡ true → not b ≡ true → ⊥
    clash true p q = cc
    clash false p q = cc
mark_not_wordy (entry ∷ table) text kind h (inr p) w = mark_not_wordy table text kind (and_halves _ _ h).1 p w

wordy_fits : (kind : TokenKind) (text : Text) → is_wordy kind ≡ true → Fits kind text → IsWord kind text ⊎ IsListed marks text kind
unfolding same_kind is_reserved_kind
wordy_fits k.Integer text h p = absurd (cc)
wordy_fits k.StringWhole text h p = absurd (cc)
wordy_fits k.StringStart text h p = absurd (cc)
wordy_fits k.StringMiddle text h p = absurd (cc)
wordy_fits k.StringLast text h p = absurd (cc)
wordy_fits kind text h p = p

-- its kind is the one that a word with this text has
pub wordy_kind : (kind : TokenKind) (text : Text) → is_wordy kind ≡ true → Fits kind text → kind_of_word text ≡ kind
wordy_kind kind text h p = go (wordy_fits kind text h p)
  where
    go : IsWord kind text ⊎ IsListed marks text kind → kind_of_word text ≡ kind
    go (inl p) = sym (word_kind text kind p)
    go (inr p) = absurd (mark_not_wordy marks text kind marks_not_wordy p h)

-- ---- the tokens of a source

-- what is seen of the first tokens of a source is good, where their texts are of their kinds
pub seen_good : (front back : List Token) → Every (λ token. IsOfKind token.kind token.text) front → (v : List Sighted) × (sighted (front ++ back) ≡ v ++ sighted back) × Every IsGood v
seen_good [] back all = ([], refl, tt)
seen_good (token ∷ front) back (is, all) =
    let (v, e, good) = seen_good front back all in
    (seen token (front ++ back) ∷ v, ap (λ l. seen token (front ++ back) ∷ l) e, ((token, front ++ back, refl, is), good))
