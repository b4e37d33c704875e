-- The text of a whole layout is cut into its words.
use Rattle.std.proofs.Common.{◌≡◌, ◌+◌, ◌-◌, ◌==◌, Bool, true, false, cond, Option, Some, None, List, [], ◌∷◌, ◌++◌, length, map, refl, ap, sym, ◌∙◌, subst, arith, append_assoc, length-append}
use Rattle.std.proofs.Math.Seq.{take-append_seam}
use Rattle.std.proofs.lemmas.Grind.{common_steps}
use Rattle.std.proofs.lemmas.Str.{IsUtf8-append, IsUtf8-nil}
use Rattle.std.specs.Str.{IsUtf8}
use mathlib.Core.Logic.{inl}
use Rattle.sw_base.specs.declared.ids.Span.{Span}
use Rattle.sw_lex.specs.declared.lexemes.Lexeme.{Lexeme}
use Rattle.sw_lex.specs.declared.lexemes.Lexeme.TheVariants.{End}
use Rattle.sw_lex.specs.declared.token.Token.{Token}
use Rattle.sw_lex.specs.declared.token.TokenKind.{TokenKind}
use Rattle.sw_lex.specs.declared.token.TokenKind.TheVariants as k
use Rattle.sw_lex.specs.Bytes.{Text}
use Rattle.sw_lex.specs.Cut.{Opens, after_kind}
use Rattle.sw_lex.specs.Tokens.{CutsInto, end_place, moved, origin, place_at, start, token_at}
use Rattle.sw_layout.specs.declared.gap.Gap.{Gap}
use Rattle.sw_layout.specs.declared.gap.Gap.TheVariants as gap
use Rattle.sw_layout.specs.Words.{Word, gap_text, page_text, page_tokens, words_text, spelling, unplaced}
use Rattle.sw_layout.specs.Layouts.{IsLaidOut, Stand}
use Rattle.sw_layout.proofs.Escaping.{low_utf8}
use Rattle.sw_layout.proofs.WordForms.{spelling_utf8}
use Rattle.sw_layout.proofs.LayoutCut.{Laid, laid, rest_items, rest_text, rest_tokens}
use Rattle.sw_layout.proofs.LayoutFlags.{flags}

-- ---- the text

pub rest_is : (words : List Word) → rest_text words ≡ words_text words ++ 10 ∷ []
rest_is [] = refl
rest_is (word ∷ words) =
    ap (λ (u : Text). gap_text word.gap ++ (spelling word.kind word.text ++ u)) (rest_is words)
    ∙ ap (λ (u : Text). gap_text word.gap ++ u) (sym (append_assoc (spelling word.kind word.text) (words_text words) (10 ∷ [])))
    ∙ sym (append_assoc (gap_text word.gap) (spelling word.kind word.text ++ words_text words) (10 ∷ []))

gap_utf8 : (g : Gap) → IsUtf8 (gap_text g)
gap_utf8 gap.Start = IsUtf8-nil
gap_utf8 gap.Line = low_utf8 (10 ∷ []) refl
gap_utf8 gap.Space = low_utf8 (32 ∷ []) refl
gap_utf8 gap.Joined = IsUtf8-nil

rest_utf8 : (opens : Opens) (last : Option TokenKind) (words : List Word) → Stand opens last words → IsUtf8 (rest_text words)
rest_utf8 opens last [] s = low_utf8 (10 ∷ []) refl
rest_utf8 opens last (word ∷ words) s =
    IsUtf8-append (gap_text word.gap) (spelling word.kind word.text ++ rest_text words) (gap_utf8 word.gap)
    (IsUtf8-append (spelling word.kind word.text) (rest_text words) (spelling_utf8 word.kind word.text s.0) (rest_utf8 (after_kind opens word.kind) (Some word.kind) words s.3))

pub page_utf8 : (words : List Word) → IsLaidOut words → IsUtf8 (page_text words)
page_utf8 [] s = IsUtf8-nil
page_utf8 (word ∷ words) s = subst IsUtf8 (rest_is (word ∷ words)) (rest_utf8 [] None (word ∷ words) s)

-- ---- the cut

abbrev pub page_items : List Word → List Lexeme
page_items [] = []
page_items (word ∷ words) = rest_items (word ∷ words)

-- the tokens with their places
abbrev placed_tokens : List Word → List Token
placed_tokens [] = token_at origin start k.End [] ∷ []
placed_tokens (word ∷ words) = rest_tokens (end_place (page_text (word ∷ words))) start (word ∷ words)

pub page_laid : (words : List Word) → IsLaidOut words → Laid (end_place (page_text words)) [] start (page_text words) (page_items words) (placed_tokens words)
page_laid [] s = (((refl, refl), tt), refl)
page_laid (word ∷ words) s =
    subst (λ (u : Text). Laid (end_place (page_text (word ∷ words))) [] start u (rest_items (word ∷ words)) (rest_tokens (end_place (page_text (word ∷ words))) start (word ∷ words))) (rest_is (word ∷ words))
    (laid (end_place (page_text (word ∷ words))) [] start None (word ∷ words) s)

-- the end stands on the line that the last byte ends
page_end : (layout : Text) → (end_place (layout ++ 10 ∷ [])).line ≡ (moved origin layout).line
page_end layout = go (length (layout ++ 10 ∷ []) == 0) refl
  where
    go : (t : Bool) → (length (layout ++ 10 ∷ []) == 0) ≡ t
        → (cond {A = Span} t origin (record { line = (place_at (layout ++ 10 ∷ []) (length (layout ++ 10 ∷ []) - 1)).line; column = (place_at (layout ++ 10 ∷ []) (length (layout ++ 10 ∷ []) - 1)).column + 1 })).line ≡ (moved origin layout).line
    go true e = let len = length-append layout (10 ∷ []) in let none : length (layout ++ 10 ∷ []) ≡ 0 = grind (arith, common_steps) in absurd (omega (arith, len, none))
    go false e =
        let last : length (layout ++ 10 ∷ []) - 1 ≡ length layout = omega (arith, length-append layout (10 ∷ [])) in
        ap (λ n. (place_at (layout ++ 10 ∷ []) n).line) last ∙ ap (λ (u : Text). (moved origin u).line) (take-append_seam layout (10 ∷ []))

page_flags : (words : List Word) → IsLaidOut words → map unplaced (placed_tokens words) ≡ page_tokens words
page_flags [] s = refl
page_flags (word ∷ words) s = flags (end_place (page_text (word ∷ words))) [] word words s (page_end (words_text (word ∷ words)))

pub page_cut : (words : List Word) → IsLaidOut words → (tokens : List Token) × CutsInto (page_text words) tokens × (map unplaced tokens ≡ page_tokens words)
page_cut words s = (
  placed_tokens words,
  record {
    whole = record { valid = length (page_text words); items = page_items words; stop = End; prefix = inl (refl, page_utf8 words s); cut = (page_laid words s).0 };
    to_end = refl;
    same = (page_laid words s).1;
  },
  page_flags words s,
)
