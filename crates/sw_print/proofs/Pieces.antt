-- The pieces of a string.
use Rattle.std.proofs.Common.{◌≡◌, ℕ, ◌+◌, ◌-◌, ◌<◌, ◌≤◌, arith, take, length, get_or, List, [], ◌∷◌, ◌++◌, map, refl, sym, ap, ◌∙◌, append_assoc}
use Rattle.std.proofs.lemmas.List.{take_more, take_all}
use Rattle.sw_lex.specs.Bytes.{Text}
use Rattle.sw_lex.specs.declared.token.TokenKind.TheVariants as k
use Rattle.sw_layout.specs.declared.gap.Gap.{Gap}
use Rattle.sw_layout.specs.declared.gap.Gap.TheVariants as gap
use Rattle.sw_layout.specs.Words.{Word, words_text}
use Rattle.sw_tree.specs.declared.expr.Literal.TheVariants as l
use Rattle.sw_tree.specs.declared.expr.StringPiece.{StringPiece}
use Rattle.sw_print.specs.Expressions.{word, pieces_words, string_words, expr_words, literal_words}
use Rattle.sw_print.proofs.ExprWords.{piece_pair, of_string}
use Rattle.sw_print.proofs.Lists.{joined}
use Rattle.sw_print.proofs.TextLemmas.{text_append}

-- a piece with another one after it
abbrev pub middle : StringPiece → List Word
middle piece = expr_words piece.value gap.Joined ++ word k.StringMiddle piece.text gap.Joined ∷ []

-- the last piece
abbrev pub final : StringPiece → List Word
final piece = expr_words piece.value gap.Joined ++ word k.StringLast piece.text gap.Joined ∷ []

cut : (x : List Word) (m : Word) (j f : List Word) → ((x ++ m ∷ []) ++ j) ++ f ≡ x ++ (m ∷ (j ++ f))
cut x m j f = append_assoc (x ++ m ∷ []) j f ∙ append_assoc x (m ∷ []) (j ++ f)

pieces_cut : (first : StringPiece) (pieces : List StringPiece) (last : StringPiece)
    → pieces_words (piece_pair first) (map piece_pair (pieces ++ last ∷ [])) ≡ joined middle (first ∷ pieces) ++ final last
pieces_cut first [] last = sym (cut (expr_words first.value gap.Joined) (word k.StringMiddle first.text gap.Joined) [] (final last))
pieces_cut first (next ∷ pieces) last =
    ap (λ l. expr_words first.value gap.Joined ++ (word k.StringMiddle first.text gap.Joined ∷ l)) (pieces_cut next pieces last)
    ∙ sym (cut (expr_words first.value gap.Joined) (word k.StringMiddle first.text gap.Joined) (joined middle (next ∷ pieces)) (final last))

string_cut : (text : Text) (pieces : List StringPiece) (last : StringPiece) (g : Gap)
    → string_words text (map piece_pair (pieces ++ last ∷ [])) g ≡ word k.StringStart text g ∷ (joined middle pieces ++ final last)
string_cut text [] last g = refl
string_cut text (first ∷ pieces) last g = ap (λ l. word k.StringStart text g ∷ l) (pieces_cut first pieces last)

-- a string in which no expression stands
pub string_whole : (text : Text) (pieces : List StringPiece) (g : Gap) (start : Text) → length pieces < 1
    → start ++ words_text (word k.StringWhole text g ∷ []) ≡ start ++ words_text (literal_words (l.String text pieces) g)
string_whole text [] g start h = ap (λ l. start ++ words_text l) (sym (of_string text [] g))
string_whole text (first ∷ pieces) g start h = absurd (omega arith)

all_but_one : (pieces : List StringPiece) (last : StringPiece) → 1 ≤ length pieces → last ≡ get_or pieces (length pieces - 1) last
    → pieces ≡ take (length pieces - 1) pieces ++ last ∷ []
all_but_one pieces last h e =
    let n : ℕ = length pieces - 1 in
    let s : n + 1 ≡ length pieces = omega arith in
    let lt : n < length pieces = omega arith in
    sym (take_all (length pieces) pieces (omega arith)) ∙ ap (λ m. take m pieces) (sym s) ∙ take_more pieces n last lt
    ∙ ap (λ z. take n pieces ++ z ∷ []) (sym e)

texts : (start a b c d : Text) → (((start ++ a) ++ b) ++ c) ++ d ≡ start ++ (a ++ (b ++ (c ++ d)))
texts start a b c d = simp append_assoc

-- a string that is written from its first piece to its last
pub string_pieces : (text : Text) (pieces : List StringPiece) (last : StringPiece) (i : ℕ) (g : Gap) (start begun mid near : Text) → 1 ≤ length pieces → last ≡ get_or pieces (length pieces - 1) last
    → begun ≡ start ++ words_text (word k.StringStart text g ∷ [])
    → mid ≡ begun ++ words_text (joined middle (take i (take (length pieces - 1) pieces))) → length (take (length pieces - 1) pieces) ≤ i
    → near ≡ mid ++ words_text (expr_words last.value gap.Joined)
    → near ++ words_text (word k.StringLast last.text gap.Joined ∷ []) ≡ start ++ words_text (literal_words (l.String text pieces) g)
string_pieces text pieces last i g start begun mid near h e p q l r =
    let front : List StringPiece = take (length pieces - 1) pieces in
    let a : Text = words_text (word k.StringStart text g ∷ []) in
    let x : List Word = expr_words last.value gap.Joined in
    let d : List Word = word k.StringLast last.text gap.Joined ∷ [] in
    ap (λ t. t ++ words_text d) (r ∙ ap (λ t. t ++ words_text x) (q ∙ ap (λ t. t ++ words_text (joined middle (take i front))) p ∙ ap (λ t. (start ++ a) ++ words_text (joined middle t)) (take_all i front l)))
    ∙ texts start a (words_text (joined middle front)) (words_text x) (words_text d)
    ∙ ap (λ t. start ++ (a ++ (words_text (joined middle front) ++ t))) (sym (text_append x d))
    ∙ ap (λ t. start ++ (a ++ t)) (sym (text_append (joined middle front) (final last)))
    ∙ ap (λ t. start ++ t) (sym (text_append (word k.StringStart text g ∷ []) (joined middle front ++ final last)))
    ∙ ap (λ t. start ++ words_text t) (sym (string_cut text front last g) ∙ ap (λ ps. string_words text (map piece_pair ps) g) (sym (all_but_one pieces last h e)) ∙ sym (of_string text pieces g))
