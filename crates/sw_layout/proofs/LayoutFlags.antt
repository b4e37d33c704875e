-- The tokens of a layout say of what stands before them what its words say.
use Rattle.std.proofs.Common.{◌≡◌, ℕ, ◌+◌, ◌==◌, Bool, true, false, cond, not, Option, Some, None, List, [], ◌∷◌, ◌++◌, map, refl, ap, sym, ◌∙◌, subst, arith}
use Rattle.std.proofs.lemmas.Grind.{common_steps}
use mathlib.Core.Logic.{inl, inr}
use Rattle.sw_base.specs.declared.ids.Span.{Span}
use Rattle.sw_lex.specs.declared.emit.Here.{Here}
use Rattle.sw_lex.specs.declared.token.Token.{Token}
use Rattle.sw_lex.specs.declared.token.TokenKind.{TokenKind}
use Rattle.sw_lex.specs.declared.token.TokenKind.TheVariants as k
use Rattle.sw_lex.specs.Bytes.{Text}
use Rattle.sw_lex.specs.Cut.{Opens, after_kind}
use Rattle.sw_lex.specs.Tokens.{after_byte, moved, start, token_at}
use Rattle.sw_layout.specs.declared.gap.Gap.{Gap}
use Rattle.sw_layout.specs.declared.gap.Gap.TheVariants as gap
use Rattle.sw_layout.specs.Words.{Word, gap_text, is_first, is_joined, is_spaced, nowhere, page_tokens, words_text, spelling, token_of, unplaced}
use Rattle.sw_layout.specs.Layouts.{Fits, Stand, StandsApart}
use Rattle.sw_layout.proofs.MarkTable.{both}
use Rattle.sw_layout.proofs.Escaping.{has_no_line}
use Rattle.sw_layout.proofs.WordForms.{spelling_no_line}
use Rattle.sw_layout.proofs.LayoutCut.{over, past, rest_tokens}

-- ---- places

pub moved_append : (place : Span) (prefix back : Text) → moved place (prefix ++ back) ≡ moved (moved place prefix) back
moved_append place [] back = refl
moved_append place (byte ∷ prefix) back = moved_append (after_byte place byte) prefix back

-- bytes with no line's end stay on the line
same_line : (place : Span) (text : Text) → has_no_line text ≡ true → (moved place text).line ≡ place.line
same_line place [] h = refl
same_line place (byte ∷ text) h =
    let two = both (not (byte == 10)) (has_no_line text) h in
    same_line (after_byte place byte) text two.1 ∙ one (byte == 10) two.0
  where
    one : (t : Bool) → not t ≡ true → (cond {A = Span} t (record { line = place.line + 1; column = 1 }) (record { line = place.line; column = place.column + 1 })).line ≡ place.line
    one true h = absurd (cc)
    one false h = refl

past_place : (here : Here) (g : Gap) → (past here g).place ≡ moved here.place (gap_text g)
past_place here gap.Start = refl
past_place here gap.Line = refl
past_place here gap.Space = refl
past_place here gap.Joined = refl

-- ---- the flags of one word

-- what is known before a word: a layout begins, or a word ends here
abbrev Ready : Option TokenKind → Here → Type 0
Ready None here = here ≡ start
Ready (Some kind) here = (here.last_line ≡ here.place.line) × (here.touching ≡ true) × (here.spaced ≡ false)

abbrev Flagged : Here → Gap → Type 0
Flagged here g = (not ((past here g).last_line == (past here g).place.line) ≡ is_first g) × ((past here g).touching ≡ is_joined g) × ((past here g).spaced ≡ is_spaced g)

other_line : (a b : ℕ) → a ≡ b → not (a == b + 1) ≡ true
other_line a b e = grind (arith, common_steps)

no_other_line : (a b : ℕ) → a ≡ b → not (a == b) ≡ false
no_other_line a b e = grind (arith, common_steps)

flagged : (last : Option TokenKind) (here : Here) (word : Word) → StandsApart last word → Ready last here → Flagged here word.gap
flagged None here word apart ready = subst (λ (g : Gap). Flagged here g) (sym apart) (subst (λ (h : Here). Flagged h gap.Start) (sym ready) (refl, refl, refl))
flagged (Some kind) here word (inl e) ready = subst (λ (g : Gap). Flagged here g) (sym e) (other_line here.last_line here.place.line ready.0, refl, refl)
flagged (Some kind) here word (inr (inl e)) ready = subst (λ (g : Gap). Flagged here g) (sym e) (no_other_line here.last_line here.place.line ready.0, refl, refl)
flagged (Some kind) here word (inr (inr p)) ready = subst (λ (g : Gap). Flagged here g) (sym p.0) (no_other_line here.last_line here.place.line ready.0, ready.1, ready.2)

-- a token with these flags and no place
abbrev bare : TokenKind → Text → Bool → Bool → Bool → Token
bare kind text first touches spaced = record { kind = kind; text = text; span = nowhere; first_on_line = first; touches = touches; after_space = spaced }

same_flags : (kind : TokenKind) (text : Text) (a b c a' b' c' : Bool) → a ≡ a' → b ≡ b' → c ≡ c' → bare kind text a b c ≡ bare kind text a' b' c'
same_flags kind text a b c a' b' c' p q r = ap (λ t. bare kind text t b c) p ∙ ap (λ t. bare kind text a' t c) q ∙ ap (λ t. bare kind text a' b' t) r

one_token : (here : Here) (word : Word) → Flagged here word.gap → unplaced (token_at (past here word.gap).place (past here word.gap) word.kind word.text) ≡ token_of word
one_token here word f =
    same_flags word.kind word.text (not ((past here word.gap).last_line == (past here word.gap).place.line)) (past here word.gap).touching (past here word.gap).spaced (is_first word.gap) (is_joined word.gap) (is_spaced word.gap) f.0 f.1 f.2

-- a word ends here
ready_after : (here : Here) (word : Word) → Fits word.kind word.text → Ready (Some word.kind) (over (past here word.gap) (spelling word.kind word.text))
ready_after here word fits = (sym (same_line (past here word.gap).place (spelling word.kind word.text) (spelling_no_line word.kind word.text fits)), refl, refl)

-- ---- the flags of a layout

-- the end stands on the line of the last of these bytes
abbrev pub IsEndLine : Span → Here → Text → Type 0
IsEndLine end here bytes = end.line ≡ (moved here.place bytes).line

end_line : (end : Span) (here : Here) (word : Word) (words : List Word) → IsEndLine end here (words_text (word ∷ words)) → IsEndLine end (over (past here word.gap) (spelling word.kind word.text)) (words_text words)
end_line end here word words h =
    h ∙ ap (λ (p : Span). p.line) (
    moved_append here.place (gap_text word.gap) (spelling word.kind word.text ++ words_text words)
    ∙ ap (λ (p : Span). moved p (spelling word.kind word.text ++ words_text words)) (sym (past_place here word.gap))
    ∙ moved_append (past here word.gap).place (spelling word.kind word.text) (words_text words)
    )

-- the token for the end, after some word
abbrev ended : Token
ended = bare k.End [] false false true

flags_after : (end : Span) (here : Here) (opens : Opens) (kind : TokenKind) (words : List Word) → Stand opens (Some kind) words → Ready (Some kind) here → IsEndLine end here (words_text words)
    → map unplaced (rest_tokens end here words) ≡ map token_of words ++ ended ∷ []
flags_after end here opens kind [] s ready h = ap (λ t. bare k.End [] t false true ∷ []) (no_other_line here.last_line end.line (ready.0 ∙ sym h))
flags_after end here opens kind (word ∷ words) s ready h =
    let first = one_token here word (flagged (Some kind) here word s.1 ready) in
    let later = flags_after end (over (past here word.gap) (spelling word.kind word.text)) (after_kind opens word.kind) word.kind words s.3 (ready_after here word s.0) (end_line end here word words h) in
    ap (λ (t : Token). t ∷ map unplaced (rest_tokens end (over (past here word.gap) (spelling word.kind word.text)) words)) first ∙ ap (λ (ts : List Token). token_of word ∷ ts) later

pub flags : (end : Span) (opens : Opens) (word : Word) (words : List Word) → Stand opens None (word ∷ words) → IsEndLine end start (words_text (word ∷ words))
    → map unplaced (rest_tokens end start (word ∷ words)) ≡ page_tokens (word ∷ words)
flags end opens word words s h =
    let first = one_token start word (flagged None start word s.1 refl) in
    let later = flags_after end (over (past start word.gap) (spelling word.kind word.text)) (after_kind opens word.kind) word.kind words s.3 (ready_after start word s.0) (end_line end start word words h) in
    ap (λ (t : Token). t ∷ map unplaced (rest_tokens end (over (past start word.gap) (spelling word.kind word.text)) words)) first ∙ ap (λ (ts : List Token). token_of word ∷ ts) later
