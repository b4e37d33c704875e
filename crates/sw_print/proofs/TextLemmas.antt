-- The bytes of lists of words that follow one another.
use Rattle.std.proofs.Common.{◌≡◌, ℕ, ◌+◌, ◌<◌, ◌≤◌, List, [], ◌∷◌, ◌++◌, take, length, get_or, refl, sym, ap, ◌∙◌, append_assoc, append-nil}
use Rattle.std.proofs.lemmas.List.{take_more, take_all}
use Rattle.sw_lex.specs.Bytes.{Text}
use Rattle.sw_layout.specs.Words.{Word, gap_text, escape, escapes, spelling, words_text}

pub text_append : (u v : List Word) → words_text (u ++ v) ≡ words_text u ++ words_text v
text_append [] v = refl
text_append (word ∷ words) v =
    ap (λ l. gap_text word.gap ++ (spelling word.kind word.text ++ l)) (text_append words v)
    ∙ ap (λ l. gap_text word.gap ++ l) (sym (append_assoc (spelling word.kind word.text) (words_text words) (words_text v)))
    ∙ sym (append_assoc (gap_text word.gap) (spelling word.kind word.text ++ words_text words) (words_text v))

-- ---- loops that write, by what they have written so far

-- One more item: the bytes of some items and one more are those of the items, and those of the one.
pub grown : {A : Type 0} (F : List A → Text) (f : A → Text) → ((xs : List A) (y : A) → F (xs ++ y ∷ []) ≡ F xs ++ f y)
    → (old out out1 : Text) (xs : List A) (i : ℕ) (d : A) → i < length xs → out ≡ old ++ F (take i xs) → out1 ≡ out ++ f (get_or xs i d) → out1 ≡ old ++ F (take (i + 1) xs)
grown F f push old out out1 xs i d h p q =
    q ∙ ap (λ l. l ++ f (get_or xs i d)) p ∙ append_assoc old (F (take i xs)) (f (get_or xs i d)) ∙ ap (λ l. old ++ l) (sym (push (take i xs) (get_or xs i d)))
    ∙ ap (λ l. old ++ F l) (sym (take_more xs i d h))

-- the same, where the item is known to be the one at its index
pub grown_by : {A : Type 0} (F : List A → Text) (f : A → Text) → ((xs : List A) (y : A) → F (xs ++ y ∷ []) ≡ F xs ++ f y)
    → (old out out1 : Text) (xs : List A) (i : ℕ) (y : A) → i < length xs → y ≡ get_or xs i y → out ≡ old ++ F (take i xs) → out1 ≡ out ++ f y → out1 ≡ old ++ F (take (i + 1) xs)
grown_by F f push old out out1 xs i y h e p q = grown F f push old out out1 xs i y h p (q ∙ ap (λ z. out ++ f z) e)

-- all items are written
pub grown_all : {A : Type 0} (F : List A → Text) (old out : Text) (xs : List A) (i : ℕ) → out ≡ old ++ F (take i xs) → length xs ≤ i → out ≡ old ++ F xs
grown_all F old out xs i p l = p ∙ ap (λ l. old ++ F l) (take_all i xs l)

pub escapes_push : (xs : List ℕ) (y : ℕ) → escapes (xs ++ y ∷ []) ≡ escapes xs ++ escape y
escapes_push [] y = append-nil (escape y)
escapes_push (x ∷ xs) y = ap (λ l. escape x ++ l) (escapes_push xs y) ∙ sym (append_assoc (escape x) (escapes xs) (escape y))

-- for the functions that write one thing after another
pub ruleset text_rules = (append_assoc, text_append)
