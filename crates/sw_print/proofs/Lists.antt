-- Lists that are written item by item.
use Rattle.std.proofs.Common.{◌≡◌, ℕ, ◌+◌, ◌-◌, ◌<◌, ◌≤◌, arith, List, [], ◌∷◌, ◌++◌, map, take, drop, length, get_or, refl, sym, ap, ◌∙◌, append_assoc, append-nil}
use Rattle.std.proofs.lemmas.List.{take_all}
use Rattle.sw_lex.specs.Bytes.{Text}
use Rattle.sw_lex.specs.declared.token.TokenKind.TheVariants as k
use Rattle.sw_layout.specs.declared.gap.Gap.TheVariants as gap
use Rattle.sw_layout.specs.Words.{Word, plain, words_text}
use Rattle.sw_print.specs.Expressions.{W, others, listed}
use Rattle.sw_print.specs.Statements.{each_line}
use Rattle.sw_print.proofs.TextLemmas.{text_append, grown_by, grown_all}

-- ---- lists whose words are a concatenation

-- what each item gives, one after the other
abbrev pub joined : {A : Type 0} → (A → List Word) → List A → List Word
joined f [] = []
joined f (x ∷ xs) = f x ++ joined f xs

joined_push : {A : Type 0} (f : A → List Word) (xs : List A) (y : A) → words_text (joined f (xs ++ y ∷ [])) ≡ words_text (joined f xs) ++ words_text (f y)
joined_push f [] y = ap words_text (append-nil (f y))
joined_push f (x ∷ xs) y =
    text_append (f x) (joined f (xs ++ y ∷ [])) ∙ ap (λ l. words_text (f x) ++ l) (joined_push f xs y)
    ∙ sym (append_assoc (words_text (f x)) (words_text (joined f xs)) (words_text (f y))) ∙ ap (λ l. l ++ words_text (f y)) (sym (text_append (f x) (joined f xs)))

-- one more item is written
pub joined_step : {A : Type 0} (f : A → List Word) (old out out1 : Text) (xs : List A) (i : ℕ) (y : A) → i < length xs → y ≡ get_or xs i y
    → out ≡ old ++ words_text (joined f (take i xs)) → out1 ≡ out ++ words_text (f y) → out1 ≡ old ++ words_text (joined f (take (i + 1) xs))
joined_step f = grown_by (λ l. words_text (joined f l)) (λ y. words_text (f y)) (joined_push f)

-- one more item is written, in two steps
pub joined_step_2 : {A : Type 0} (f : A → List Word) (u v : A → List Word) → ((y : A) → f y ≡ u y ++ v y) → (old out mid out1 : Text) (xs : List A) (i : ℕ) (y : A) → i < length xs → y ≡ get_or xs i y
    → out ≡ old ++ words_text (joined f (take i xs)) → mid ≡ out ++ words_text (u y) → out1 ≡ mid ++ words_text (v y) → out1 ≡ old ++ words_text (joined f (take (i + 1) xs))
joined_step_2 f u v cut old out mid out1 xs i y h e p q r =
    joined_step f old out out1 xs i y h e p
    (r ∙ ap (λ l. l ++ words_text (v y)) q ∙ append_assoc out (words_text (u y)) (words_text (v y)) ∙ ap (λ l. out ++ l) (sym (ap words_text (cut y) ∙ text_append (u y) (v y))))

-- all items are written
pub joined_end : {A : Type 0} (f : A → List Word) (old out : Text) (xs : List A) (i : ℕ) → out ≡ old ++ words_text (joined f (take i xs)) → length xs ≤ i → out ≡ old ++ words_text (joined f xs)
joined_end f old out xs i = grown_all (λ l. words_text (joined f l)) old out xs i

pub lines_joined : {A : Type 0} (w : A → W) (xs : List A) → joined (λ x. w x gap.Line) xs ≡ each_line (map w xs)
lines_joined w [] = refl
lines_joined w (x ∷ xs) = ap (λ l. w x gap.Line ++ l) (lines_joined w xs)

-- ---- lists with commas between

abbrev pub other : {A : Type 0} → (A → W) → A → List Word
other w x = plain k.Comma gap.Space ∷ w x gap.Space

others_joined : {A : Type 0} (w : A → W) (xs : List A) → joined (other w) xs ≡ others (map w xs)
others_joined w [] = refl
others_joined w (x ∷ xs) = ap (λ l. plain k.Comma gap.Space ∷ (w x gap.Space ++ l)) (others_joined w xs)

pub others_step : {A : Type 0} (w : A → W) (old out mid out1 : Text) (xs : List A) (i : ℕ) (y : A) → i < length xs → y ≡ get_or xs i y
    → out ≡ old ++ words_text (joined (other w) (take i xs)) → mid ≡ out ++ words_text (plain k.Comma gap.Space ∷ []) → out1 ≡ mid ++ words_text (w y gap.Space)
    → out1 ≡ old ++ words_text (joined (other w) (take (i + 1) xs))
others_step w = joined_step_2 (other w) (λ y. plain k.Comma gap.Space ∷ []) (λ y. w y gap.Space) (λ y. refl)

-- the first item is written, and so are the others
pub others_end : {A : Type 0} (w : A → W) (xs : List A) (x : A) (i : ℕ) (start mid out : Text) → 1 ≤ length xs → x ≡ get_or xs 0 x → mid ≡ start ++ words_text (w x gap.Space)
    → out ≡ mid ++ words_text (joined (other w) (take i (take (length xs - 1) (drop 1 xs)))) → length (take (length xs - 1) (drop 1 xs)) ≤ i → out ≡ start ++ words_text (listed (map w xs))
others_end w [] x i start mid out h e p q l = absurd (omega arith)
others_end w (z ∷ zs) x i start mid out h e p q l =
    let n : ℕ = length (z ∷ zs) - 1 in
    let r : take n zs ≡ zs = take_all n zs (omega arith) in
    q ∙ ap (λ l. mid ++ words_text (joined (other w) l)) (take_all i (take n zs) l ∙ r) ∙ ap (λ l. mid ++ words_text l) (others_joined w zs)
    ∙ ap (λ m. m ++ words_text (others (map w zs))) (p ∙ ap (λ y. start ++ words_text (w y gap.Space)) e)
    ∙ append_assoc start (words_text (w z gap.Space)) (words_text (others (map w zs))) ∙ ap (λ l. start ++ l) (sym (text_append (w z gap.Space) (others (map w zs))))
