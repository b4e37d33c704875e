-- Modifiers, and what is written after them.
use Rattle.std.proofs.Common.{◌≡◌, ℕ, ◌+◌, ◌<◌, List, [], ◌∷◌, ◌++◌, take, length, get_or, refl, sym, ap, ◌∙◌, append_assoc}
use Rattle.std.proofs.lemmas.List.{take_more}
use Rattle.sw_lex.specs.Bytes.{Text}
use Rattle.sw_layout.specs.declared.gap.Gap.{Gap}
use Rattle.sw_layout.specs.declared.gap.Gap.TheVariants as gap
use Rattle.sw_layout.specs.Words.{Word, words_text}
use Rattle.sw_tree.specs.declared.decl.Modifier.{Modifier}
use Rattle.sw_print.specs.Expressions.{W}
use Rattle.sw_print.specs.Declarations.{modified, modifier_word, modifiers_words, after_modifiers}
use Rattle.sw_print.proofs.TextLemmas.{text_append}

pub modified_cut : (ms : List Modifier) (rest : W) (g : Gap) → modified ms rest g ≡ modifiers_words ms g ++ rest (after_modifiers ms g)
modified_cut [] rest g = refl
modified_cut (m ∷ []) rest g = refl
modified_cut (m ∷ (n ∷ ms)) rest g = ap (λ l. modifier_word m.kind g ∷ l) (modified_cut (n ∷ ms) rest gap.Space)

modifiers_push : (ms : List Modifier) (m : Modifier) (g : Gap) → modifiers_words (ms ++ m ∷ []) g ≡ modifiers_words ms g ++ modifier_word m.kind (after_modifiers ms g) ∷ []
modifiers_push [] m g = refl
modifiers_push (x ∷ []) m g = refl
modifiers_push (x ∷ (y ∷ ms)) m g = ap (λ l. modifier_word x.kind g ∷ l) (modifiers_push (y ∷ ms) m gap.Space)

after_push : (ms : List Modifier) (m : Modifier) (g : Gap) → gap.Space ≡ after_modifiers (ms ++ m ∷ []) g
after_push [] m g = refl
after_push (x ∷ ms) m g = refl

pub modifiers_step : (start out out1 : Text) (ms : List Modifier) (i : ℕ) (d : Modifier) (g before : Gap) → i < length ms → g ≡ after_modifiers (take i ms) before
    → out ≡ start ++ words_text (modifiers_words (take i ms) before) → out1 ≡ out ++ words_text (modifier_word (get_or ms i d).kind g ∷ []) → out1 ≡ start ++ words_text (modifiers_words (take (i + 1) ms) before)
modifiers_step start out out1 ms i d g before h b p q =
    let m : Modifier = get_or ms i d in
    let last : List Word = modifier_word m.kind (after_modifiers (take i ms) before) ∷ [] in
    let words : List Word = modifiers_words (take i ms) before in
    q ∙ ap (λ g. out ++ words_text (modifier_word m.kind g ∷ [])) b ∙ ap (λ t. t ++ words_text last) p
    ∙ append_assoc start (words_text words) (words_text last) ∙ ap (λ t. start ++ t) (sym (text_append words last))
    ∙ ap (λ ws. start ++ words_text ws) (sym (modifiers_push (take i ms) m before) ∙ ap (λ l. modifiers_words l before) (sym (take_more ms i d h)))

pub after_step : (ms : List Modifier) (i : ℕ) (d : Modifier) (before : Gap) → i < length ms → gap.Space ≡ after_modifiers (take (i + 1) ms) before
after_step ms i d before h = after_push (take i ms) (get_or ms i d) before ∙ ap (λ l. after_modifiers l before) (sym (take_more ms i d h))

-- for the functions that write what follows modifiers
pub ruleset modified_rules = (append_assoc, text_append, modified_cut)
