-- A label is spelt by its text, whether it is a name or a reserved word.
use Rattle.std.proofs.Common.{◌≡◌, Bool, true, false, [], ◌∷◌, if◌then◌else◌, refl}
use Rattle.sw_lex.specs.Bytes.{Text}
use Rattle.sw_lex.specs.declared.token.TokenKind.{TokenKind}
use Rattle.sw_lex.specs.declared.token.TokenKind.TheVariants as k
use Rattle.sw_lex.specs.Tables.{Table, words, is_same_text, kind_in, kind_of_word}
use Rattle.sw_layout.specs.Words.{spelling}

is_plain : TokenKind → Bool
is_plain k.StringWhole = false
is_plain k.StringStart = false
is_plain k.StringMiddle = false
is_plain k.StringLast = false
is_plain kind = true

plainly_spelt : (kind : TokenKind) (text : Text) → is_plain kind ≡ true → spelling kind text ≡ text
unfolding is_plain
plainly_spelt k.StringWhole text h = absurd (cc)
plainly_spelt k.StringStart text h = absurd (cc)
plainly_spelt k.StringMiddle text h = absurd (cc)
plainly_spelt k.StringLast text h = absurd (cc)
plainly_spelt kind text h = refl

all_plain : Table → Bool
all_plain [] = true
all_plain (entry ∷ table) = if is_plain entry.1 then all_plain table else false

one_of : (same plain : Bool) (kind other : TokenKind) (text : Text) (rest : Bool) → is_plain kind ≡ plain → (if plain then rest else false) ≡ true
    → (rest ≡ true → spelling other text ≡ text) → spelling (if same then kind else other) text ≡ text
one_of same false kind other text rest e h next = absurd (cc)
one_of true true kind other text rest e h next = plainly_spelt kind text e
one_of false true kind other text rest e h next = next h

kind_in_plain : (table : Table) (text : Text) → all_plain table ≡ true → spelling (kind_in table text) text ≡ text
unfolding all_plain
kind_in_plain [] text h = refl
kind_in_plain (entry ∷ table) text h = one_of (is_same_text text entry.0) (is_plain entry.1) entry.1 (kind_in table text) text (all_plain table) refl h (kind_in_plain table text)

words_plain : all_plain words ≡ true
unfolding words all_plain is_plain
words_plain = refl

pub label_spelt : (text : Text) → spelling (kind_of_word text) text ≡ text
label_spelt text = kind_in_plain words text words_plain
