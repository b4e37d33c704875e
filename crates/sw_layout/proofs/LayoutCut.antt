-- The bytes from a word of a layout on are cut into the gaps and tokens of its words.
use Rattle.std.proofs.Common.{◌≡◌, ◌≢◌, ◌≤◌, ℕ, ◌-◌, Bool, true, false, Option, Some, List, [], ◌∷◌, ◌++◌, length, take, drop, refl, ap, sym, subst, arith, length-append}
use Rattle.std.proofs.Math.Seq.{take-append_seam, drop-append_seam}
use mathlib.Core.Logic.{inl, inr}
use Rattle.sw_base.specs.declared.ids.Span.{Span}
use Rattle.sw_lex.specs.declared.lexemes.Lexeme.{Lexeme}
use Rattle.sw_lex.specs.declared.lexemes.Lexeme.TheVariants as begin
use Rattle.sw_lex.specs.declared.emit.Here.{Here}
use Rattle.sw_lex.specs.declared.token.Token.{Token}
use Rattle.sw_lex.specs.declared.token.TokenKind.{TokenKind}
use Rattle.sw_lex.specs.declared.token.TokenKind.TheVariants as k
use Rattle.sw_lex.specs.Bytes.{Text}
use Rattle.sw_lex.specs.Lexemes.{HasForm}
use Rattle.sw_lex.specs.Cut.{Opens, Cut, after_kind, closes, is_inside}
use Rattle.sw_lex.specs.Tokens.{AreTokens, IsTextOf, moved, token_at}
use Rattle.sw_layout.specs.declared.gap.Gap.{Gap}
use Rattle.sw_layout.specs.declared.gap.Gap.TheVariants as gap
use Rattle.sw_layout.specs.Words.{Word, gap_text, spelling}
use Rattle.sw_layout.specs.Layouts.{Fits, Stand, is_resumed, may_touch}
use Rattle.sw_layout.proofs.Starts.{line_follows, may_follow, space_follows, touch_follows}
use Rattle.sw_layout.proofs.WordForms.{begun, has_form, has_text, some_bytes}

-- ---- from a word on

-- the bytes, with the end of the last line
abbrev pub rest_text : List Word → Text
rest_text [] = 10 ∷ []
rest_text (word ∷ words) = gap_text word.gap ++ (spelling word.kind word.text ++ rest_text words)

abbrev pub gap_items : Gap → List Lexeme
gap_items gap.Start = []
gap_items gap.Line = begin.Gap 1 ∷ []
gap_items gap.Space = begin.Gap 1 ∷ []
gap_items gap.Joined = []

-- the gaps and tokens
abbrev pub rest_items : List Word → List Lexeme
rest_items [] = begin.Gap 1 ∷ []
rest_items (word ∷ words) = gap_items word.gap ++ (begin.Token word.kind (length (spelling word.kind word.text)) ∷ rest_items words)

-- after what stands before a word, and after these bytes of a word
abbrev pub past : Here → Gap → Here
past here gap.Start = here
past here gap.Line = record { place = moved here.place (10 ∷ []); last_line = here.last_line; touching = false; spaced = true }
past here gap.Space = record { place = moved here.place (32 ∷ []); last_line = here.last_line; touching = false; spaced = true }
past here gap.Joined = here

abbrev pub over : Here → Text → Here
over here bytes = record { place = moved here.place bytes; last_line = here.place.line; touching = true; spaced = false }

-- the tokens
abbrev pub rest_tokens : Span → Here → List Word → List Token
rest_tokens end here [] = token_at end (past here gap.Line) k.End [] ∷ []
rest_tokens end here (word ∷ words) =
    token_at (past here word.gap).place (past here word.gap) word.kind word.text ∷ rest_tokens end (over (past here word.gap) (spelling word.kind word.text)) words

-- the bytes are cut so, and the tokens are these
abbrev pub Laid : Span → Opens → Here → Text → List Lexeme → List Token → Type 0
Laid end opens here bytes items tokens = Cut opens (length bytes) bytes items begin.End × AreTokens end here (length bytes) bytes items tokens

-- ---- what follows a word

-- the bytes begin with one that may follow it
abbrev Ahead : TokenKind → Text → Type 0
Ahead last bytes = (byte : ℕ) × (more : Text) × (bytes ≡ byte ∷ more) × (may_follow last byte ≡ true)

touched : (last kind : TokenKind) (text rest : Text) → Fits kind text → may_touch last kind ≡ true → Ahead last (spelling kind text ++ rest)
touched last kind text rest fits m = let b = begun kind text fits in (b.0, b.1 ++ rest, ap (λ (u : Text). u ++ rest) b.2, touch_follows last kind b.0 m b.3)

ahead : (opens : Opens) (last : TokenKind) (words : List Word) → Stand opens (Some last) words → Ahead last (rest_text words)
ahead opens last [] s = (10, [], refl, line_follows last)
ahead opens last (word ∷ words) s = elim (s.1) [
  | inl e ↦ subst (λ (g : Gap). Ahead last (gap_text g ++ (spelling word.kind word.text ++ rest_text words))) (sym e) (10, spelling word.kind word.text ++ rest_text words, refl, line_follows last)
  | inr (inl e) ↦ subst (λ (g : Gap). Ahead last (gap_text g ++ (spelling word.kind word.text ++ rest_text words))) (sym e) (32, spelling word.kind word.text ++ rest_text words, refl, space_follows last)
  | inr (inr p) ↦ subst (λ (g : Gap). Ahead last (gap_text g ++ (spelling word.kind word.text ++ rest_text words))) (sym p.0) (touched last word.kind word.text (rest_text words) s.0 p.1)
]

-- ---- a gap, and a token

not_true : (t : Bool) → (t ≡ true → ⊥) → t ≡ false
not_true true h = absurd (h refl)
not_true false h = refl

gap_laid : (end : Span) (opens : Opens) (here : Here) (g : Gap) (bytes : Text) (items : List Lexeme) (tokens : List Token) → (is_inside opens ≡ true → g ≢ gap.Line)
    → Laid end opens (past here g) bytes items tokens → Laid end opens here (gap_text g ++ bytes) (gap_items g ++ items) tokens
gap_laid end opens here gap.Start bytes items tokens h l = l
gap_laid end opens here gap.Joined bytes items tokens h l = l
gap_laid end opens here gap.Line bytes items tokens h l =
    let less : length bytes ≡ length (10 ∷ bytes) - 1 = omega arith in
    let outside : is_inside opens ≡ false = not_true (is_inside opens) (λ e. h e refl) in (
      (inl (refl, outside, refl), omega arith, subst (λ n. Cut opens n bytes items begin.End) less l.0),
      subst (λ n. AreTokens end (past here gap.Line) n bytes items tokens) less l.1,
    )
gap_laid end opens here gap.Space bytes items tokens h l =
    let less : length bytes ≡ length (32 ∷ bytes) - 1 = omega arith in (
      (inl (refl, refl, refl), omega arith, subst (λ n. Cut opens n bytes items begin.End) less l.0),
      subst (λ n. AreTokens end (past here gap.Space) n bytes items tokens) less l.1,
    )

token_laid : (end : Span) (opens : Opens) (here : Here) (kind : TokenKind) (text bytes : Text) (items : List Lexeme) (tokens : List Token) → Fits kind text → Ahead kind bytes
    → (is_resumed kind ≡ true → closes opens ≡ true) → (kind ≡ k.RightParen → closes opens ≡ false)
    → Laid end (after_kind opens kind) (over here (spelling kind text)) bytes items tokens
    → Laid end opens here (spelling kind text ++ bytes) (begin.Token kind (length (spelling kind text)) ∷ items) (token_at here.place here kind text ∷ tokens)
token_laid end opens here kind text bytes items tokens fits a resumed closed l =
    let len = length-append (spelling kind text) bytes in
    let enough : length (spelling kind text) ≤ length (spelling kind text ++ bytes) = omega (arith, len) in
    let valid : length bytes ≡ length (spelling kind text ++ bytes) - length (spelling kind text) = omega (arith, len) in
    let left : bytes ≡ drop (length (spelling kind text)) (spelling kind text ++ bytes) = sym (drop-append_seam (spelling kind text) bytes) in
    let taken : spelling kind text ≡ take (length (spelling kind text)) (spelling kind text ++ bytes) = sym (take-append_seam (spelling kind text) bytes) in
    let form : HasForm (is_inside opens) (closes opens) (length (spelling kind text ++ bytes)) (spelling kind text ++ bytes) (begin.Token kind (length (spelling kind text))) =
    subst (λ (u : Text). HasForm (is_inside opens) (closes opens) (length (spelling kind text ++ bytes)) (spelling kind text ++ u) (begin.Token kind (length (spelling kind text)))) (sym a.2)
    (has_form (is_inside opens) (closes opens) (length (spelling kind text ++ bytes)) kind text a.1 a.0 fits a.3 resumed closed enough) in
    let cut : Cut (after_kind opens kind) (length (spelling kind text ++ bytes) - length (spelling kind text)) (drop (length (spelling kind text)) (spelling kind text ++ bytes)) items begin.End =
    subst (λ (u : Text). Cut (after_kind opens kind) (length (spelling kind text ++ bytes) - length (spelling kind text)) u items begin.End) left
    (subst (λ n. Cut (after_kind opens kind) n bytes items begin.End) valid l.0) in
    let emitted = subst (λ (u : Text). AreTokens end (over here (spelling kind text)) (length (spelling kind text ++ bytes) - length (spelling kind text)) u items tokens) left
    (subst (λ n. AreTokens end (over here (spelling kind text)) n bytes items tokens) valid l.1) in (
      (form, some_bytes kind text fits, cut),
      (
        text,
        tokens,
        refl,
        subst (λ (u : Text). IsTextOf kind (length (spelling kind text ++ bytes)) u text) taken (has_text (length (spelling kind text ++ bytes)) kind text fits enough),
        subst (λ (u : Text). AreTokens end (over here u) (length (spelling kind text ++ bytes) - length (spelling kind text)) (drop (length (spelling kind text)) (spelling kind text ++ bytes)) items tokens) taken emitted,
      ),
    )

-- ---- the layout

pub laid : (end : Span) (opens : Opens) (here : Here) (last : Option TokenKind) (words : List Word) → Stand opens last words → Laid end opens here (rest_text words) (rest_items words) (rest_tokens end here words)
laid end opens here last [] s = subst (λ (o : Opens). Laid end o here (10 ∷ []) (begin.Gap 1 ∷ []) (rest_tokens end here [])) (sym s) (
  (inl (refl, refl, refl), omega arith, ((refl, refl), tt)),
  refl,
)
laid end opens here last (word ∷ words) s =
    let within = s.2 in
    let more = laid end (after_kind opens word.kind) (over (past here word.gap) (spelling word.kind word.text)) (Some word.kind) words s.3 in
    let next = ahead (after_kind opens word.kind) word.kind words s.3 in
    gap_laid end opens here word.gap (spelling word.kind word.text ++ rest_text words) (begin.Token word.kind (length (spelling word.kind word.text)) ∷ rest_items words) (rest_tokens end here (word ∷ words)) within.0
    (token_laid end opens (past here word.gap) word.kind word.text (rest_text words) (rest_items words) (rest_tokens end (over (past here word.gap) (spelling word.kind word.text)) words) s.0 next within.1 within.2 more)
