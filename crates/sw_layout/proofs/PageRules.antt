-- The text of a whole layout is cut in no other way, and breaks no rule of tokens.
use Rattle.std.proofs.Common.{◌≡◌, ◌<◌, ◌≤◌, ℕ, suc, ◌-◌, ◌==◌, Bool, true, false, ◌&&◌, List, [], ◌∷◌, ◌++◌, length, take, drop, refl, ap, sym, ◌∙◌, subst, arith}
use Rattle.std.proofs.Math.Seq.{take-append_seam, drop-append_seam}
use Rattle.std.proofs.lemmas.List.{drop-drop}
use Rattle.std.specs.Str.{IsUtf8, IsValidUpTo}
use mathlib.Core.Logic.{inl, inr}
use Rattle.sw_base.specs.Limits.{greatest_integer, longest_source}
use Rattle.sw_rules.specs.declared.Rule.{Rule}
use Rattle.sw_rules.specs.declared.Rule.TheVariants.{L1, L2, L3, L4, L5}
use Rattle.sw_lex.specs.declared.bytes.Class.TheVariants as class
use Rattle.sw_lex.specs.declared.lexemes.Lexeme.{Lexeme}
use Rattle.sw_lex.specs.declared.lexemes.Lexeme.TheVariants.{End, Gap, Token, Malformed, Unterminated}
use Rattle.sw_lex.specs.declared.token.TokenKind.{TokenKind}
use Rattle.sw_lex.specs.declared.token.TokenKind.TheVariants as k
use Rattle.sw_lex.specs.Bytes.{Text, is_in}
use Rattle.sw_lex.specs.Lexemes.{first, second, BeginsWith, HasForm, IsSpace, IsStop, size_of}
use Rattle.sw_lex.specs.Cut.{Opens, Cut, CutOf, IsValidPrefix, after, closes, is_inside, total}
use Rattle.sw_lex.specs.Rules.{Breaks, number}
use Rattle.sw_layout.specs.declared.gap.Gap.{Gap as GapKind}
use Rattle.sw_layout.specs.declared.gap.Gap.TheVariants as gap
use Rattle.sw_layout.specs.Words.{Word, gap_text, page_text, spelling}
use Rattle.sw_layout.specs.Layouts.{AreIntegersFit, IsLaidOut}
use Rattle.sw_layout.proofs.Starts.{equal}
use Rattle.sw_layout.proofs.MarkTable.{both}
use Rattle.sw_layout.proofs.LayoutCut.{gap_items, rest_items, rest_text}
use Rattle.sw_layout.proofs.PageLemmas.{page_items, page_laid, page_utf8, rest_is}
use Rattle.sw_layout.proofs.OneForm.{IsOnly, only_end, only_space, only_token}

-- ---- what holds of each gap and token where it begins

abbrev Each : (Text → Lexeme → Type 0) → Text → List Lexeme → Type 0
Each P bytes [] = Unit {0}
Each P bytes (item ∷ items) = P bytes item × Each P (drop (size_of item) bytes) items

-- of each word's token, whatever follows it
abbrev EachWord : (Text → Lexeme → Type 0) → List Word → Type 0
EachWord P [] = Unit {0}
EachWord P (word ∷ words) = ((rest : Text) → P (spelling word.kind word.text ++ rest) (Token word.kind (length (spelling word.kind word.text)))) × EachWord P words

each_gap : (P : Text → Lexeme → Type 0) (g : GapKind) (bytes : Text) (items : List Lexeme) → ((rest : Text) → P (10 ∷ rest) (Gap 1)) → ((rest : Text) → P (32 ∷ rest) (Gap 1))
    → Each P bytes items → Each P (gap_text g ++ bytes) (gap_items g ++ items)
each_gap P gap.Start bytes items line space h = h
each_gap P gap.Line bytes items line space h = (line bytes, h)
each_gap P gap.Space bytes items line space h = (space bytes, h)
each_gap P gap.Joined bytes items line space h = h

each_rest : (P : Text → Lexeme → Type 0) (words : List Word) → ((rest : Text) → P (10 ∷ rest) (Gap 1)) → ((rest : Text) → P (32 ∷ rest) (Gap 1)) → EachWord P words → Each P (rest_text words) (rest_items words)
each_rest P [] line space h = (line [], tt)
each_rest P (word ∷ words) line space h =
    let more : Each P (rest_text words) (rest_items words) = each_rest P words line space h.1 in
    let left : rest_text words ≡ drop (length (spelling word.kind word.text)) (spelling word.kind word.text ++ rest_text words) = sym (drop-append_seam (spelling word.kind word.text) (rest_text words)) in
    each_gap P word.gap (spelling word.kind word.text ++ rest_text words) (Token word.kind (length (spelling word.kind word.text)) ∷ rest_items words) line space
    (h.0 (rest_text words), subst (λ (u : Text). Each P u (rest_items words)) left more)

each_page : (P : Text → Lexeme → Type 0) (words : List Word) → ((rest : Text) → P (10 ∷ rest) (Gap 1)) → ((rest : Text) → P (32 ∷ rest) (Gap 1)) → EachWord P words → Each P (page_text words) (page_items words)
each_page P [] line space h = tt
each_page P (word ∷ words) line space h = subst (λ (u : Text). Each P u (rest_items (word ∷ words))) (rest_is (word ∷ words)) (each_rest P (word ∷ words) line space h)

-- ---- each gap is white space

abbrev IsSpaced : Text → Lexeme → Type 0
IsSpaced bytes (Gap size) = is_in class.Space (first bytes) ≡ true
IsSpaced bytes item = Unit {0}

words_spaced : (words : List Word) → EachWord IsSpaced words
words_spaced [] = tt
words_spaced (word ∷ words) = (λ rest. tt, words_spaced words)

page_spaced : (words : List Word) → Each IsSpaced (page_text words) (page_items words)
page_spaced words = each_page IsSpaced words (λ rest. refl) (λ rest. refl) (words_spaced words)

no_slash : (byte : ℕ) → is_in class.Space byte ≡ true → byte ≡ 47 → ⊥
no_slash byte h e = let other : is_in class.Space byte ≡ false = ap (is_in class.Space) e in cc

no_slash_first : (byte : ℕ) (t : Bool) → is_in class.Space byte ≡ true → (byte == 47 && t) ≡ true → ⊥
no_slash_first byte t h e = no_slash byte h (equal byte 47 (both (byte == 47) t e).0)

spaced_gap : (inside closing : Bool) (valid : ℕ) (bytes : Text) (size : ℕ) → is_in class.Space (first bytes) ≡ true → HasForm inside closing valid bytes (Gap size) → IsSpace inside bytes size
spaced_gap inside closing valid bytes size h (inl s) = s
spaced_gap inside closing valid bytes size h (inr (inl c)) = absurd (no_slash_first (first bytes) (second bytes == 47) h c.0)
spaced_gap inside closing valid bytes size h (inr (inr c)) = absurd (no_slash (first bytes) h (ap first c.2))

-- ---- the cut is the only one

item_only : (inside closing : Bool) (valid : ℕ) (bytes : Text) (item : Lexeme) → BeginsWith inside closing valid bytes item → IsSpaced bytes item → 0 < size_of item → IsOnly inside closing valid bytes item
item_only inside closing valid bytes (Gap size) b s some = only_space inside closing valid bytes size (spaced_gap inside closing valid bytes size s b)
item_only inside closing valid bytes (Token kind size) b s some = only_token inside closing valid bytes kind size b
item_only inside closing valid bytes item b s some = absurd (omega (arith, some))

-- what stops a cut has no bytes
stop_empty : (stop : Lexeme) → IsStop stop → size_of stop ≡ 0
stop_empty End h = refl
stop_empty (Gap size) h = absurd h
stop_empty (Token kind size) h = absurd h
stop_empty Malformed h = refl
stop_empty Unterminated h = refl

one_cut : (opens : Opens) (valid : ℕ) (bytes : Text) (items others : List Lexeme) (stop : Lexeme) → Cut opens valid bytes items End → Each IsSpaced bytes items → Cut opens valid bytes others stop → (others ≡ items) × (stop ≡ End)
one_cut opens valid bytes [] [] stop c s d = (refl, only_end (is_inside opens) (closes opens) valid bytes c.0.0 c.0.1 stop d.0)
one_cut opens valid bytes [] (other ∷ others) stop c s d =
    let same : other ≡ End = only_end (is_inside opens) (closes opens) valid bytes c.0.0 c.0.1 other d.0 in
    let some : 0 < size_of other = d.1 in
    absurd (omega (arith, some, ap size_of same))
one_cut opens valid bytes (item ∷ items) [] stop c s d =
    let same : stop ≡ item = item_only (is_inside opens) (closes opens) valid bytes item c.0 s.0 c.1 stop d.0 in
    let none : size_of stop ≡ 0 = stop_empty stop d.1 in
    let some : 0 < size_of item = c.1 in
    absurd (omega (arith, some, none, ap size_of same))
one_cut opens valid bytes (item ∷ items) (other ∷ others) stop c s d =
    let same : other ≡ item = item_only (is_inside opens) (closes opens) valid bytes item c.0 s.0 c.1 other d.0 in
    let following : Cut (after opens item) (valid - size_of item) (drop (size_of item) bytes) others stop =
    subst (λ (it : Lexeme). Cut (after opens it) (valid - size_of it) (drop (size_of it) bytes) others stop) same d.2 in
    let more = one_cut (after opens item) (valid - size_of item) (drop (size_of item) bytes) items others stop c.2 s.1 following in
    (ap (λ (it : Lexeme). it ∷ others) same ∙ ap (λ (its : List Lexeme). item ∷ its) more.0, more.1)

take_length : (text : Text) → take (length text) text ≡ text
take_length [] = refl
take_length (byte ∷ text) = let e : length (byte ∷ text) ≡ suc (length text) = omega arith in ap (λ n. take n (byte ∷ text)) e ∙ ap (λ u. byte ∷ u) (take_length text)

-- a text that is UTF-8 has no byte that is not
no_bad_byte : (source : Text) (at : ℕ) → IsUtf8 source → IsValidUpTo source at → ⊥
no_bad_byte source at u v = v.longest (length source) v.short (subst IsUtf8 (sym (take_length source)) u)

all_valid : (source : Text) (valid : ℕ) → IsUtf8 source → IsValidPrefix source valid → valid ≡ length source
all_valid source valid u (inl g) = g.0
all_valid source valid u (inr v) = absurd (no_bad_byte source valid u v)

only_page : (words : List Word) → IsLaidOut words → (whole : CutOf (page_text words)) → (whole.items ≡ page_items words) × (whole.stop ≡ End)
only_page words s whole =
    let same : whole.valid ≡ length (page_text words) = all_valid (page_text words) whole.valid (page_utf8 words s) whole.prefix in
    let cut : Cut [] (length (page_text words)) (page_text words) whole.items whole.stop = subst (λ n. Cut [] n (page_text words) whole.items whole.stop) same whole.cut in
    one_cut [] (length (page_text words)) (page_text words) (page_items words) whole.items whole.stop (page_laid words s).0 (page_spaced words) cut

-- ---- each integer is one that a literal holds

abbrev IsSmall : Text → Lexeme → Type 0
IsSmall bytes (Token k.Integer size) = number 0 (take size bytes) ≤ greatest_integer
IsSmall bytes item = Unit {0}

small_word : (kind : TokenKind) (text rest : Text) → (kind ≡ k.Integer → number 0 text ≤ greatest_integer) → IsSmall (spelling kind text ++ rest) (Token kind (length (spelling kind text)))
small_word k.Integer text rest h = subst (λ (u : Text). number 0 u ≤ greatest_integer) (sym (take-append_seam text rest)) (h refl)
small_word kind text rest h = tt

words_small : (words : List Word) → AreIntegersFit words → EachWord IsSmall words
words_small [] h = tt
words_small (word ∷ words) h = (λ rest. small_word word.kind word.text rest h.0, words_small words h.1)

page_small : (words : List Word) → AreIntegersFit words → Each IsSmall (page_text words) (page_items words)
page_small words h = each_page IsSmall words (λ rest. tt) (λ rest. tt) (words_small words h)

small_at : (bytes : Text) (before following : List Lexeme) (size : ℕ) → Each IsSmall bytes (before ++ Token k.Integer size ∷ following) → number 0 (take size (drop (total before) bytes)) ≤ greatest_integer
small_at bytes [] following size h = h.0
small_at bytes (item ∷ before) following size h =
    let more = small_at (drop (size_of item) bytes) before following size h.1 in
    subst (λ (u : Text). number 0 (take size u) ≤ greatest_integer) (drop-drop (total before) (size_of item) bytes) more

-- ---- no rule is broken

pub page_unbroken : (words : List Word) → IsLaidOut words → AreIntegersFit words → length (page_text words) ≤ longest_source → (rule : Rule) (at : ℕ) → Breaks (page_text words) rule at → ⊥
page_unbroken words s fit short L1 at h = no_bad_byte (page_text words) at (page_utf8 words s) h
page_unbroken words s fit short L2 at h = let ended = (only_page words s h.0).1 in let stopped = h.1 in cc
page_unbroken words s fit short L3 at h = let ended = (only_page words s h.0).1 in let stopped = h.1 in cc
page_unbroken words s fit short L4 at h =
    let here = h.2 in
    let same : page_items words ≡ here.before ++ Token k.Integer h.1 ∷ here.following = sym (only_page words s h.0).0 ∙ here.split in
    let small : number 0 (take h.1 (drop (total here.before) (page_text words))) ≤ greatest_integer =
    small_at (page_text words) here.before here.following h.1 (subst (λ (its : List Lexeme). Each IsSmall (page_text words) its) same (page_small words fit)) in
    let there : number 0 (take h.1 (drop at (page_text words))) ≤ greatest_integer = subst (λ n. number 0 (take h.1 (drop n (page_text words))) ≤ greatest_integer) here.ends small in
    let large : greatest_integer < number 0 (take h.1 (drop at (page_text words))) = h.3 in
    omega (arith, there, large)
page_unbroken words s fit short L5 at h = omega (arith, short, h.1)
page_unbroken words s fit short rule at h = h
