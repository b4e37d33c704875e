-- The first rule that a source breaks which is too long.
use Rattle.std.proofs.Common.{◌≡◌, ◌<◌, ◌≤◌, ℕ, zero, suc, ◌+◌, ◌-◌, Bool, true, false, cond, ◌==◌, List, [], ◌∷◌, ◌++◌, length, take, drop, refl, ap, sym, ◌∙◌, subst, arith, length-append, length-drop}
use Rattle.std.proofs.lemmas.Grind.{common_steps}
use Rattle.std.proofs.lemmas.List.{length-take-le, take-take}
use Rattle.std.proofs.lemmas.Str.{IsUtf8-encode, IsUtf8-nil, length-encode, len_utf8_bounds}
use Rattle.std.specs.Char.{encode_utf8, IsScalar}
use Rattle.std.specs.Str.{IsUtf8, IsValidUpTo, encode_utf8_all, all_scalars}
use Rattle.std.specs.Str.Lossy.{utf8_valid_len}
use mathlib.Core.Logic.{inl, inr}
use lib.Utf8.{scalar}
use Rattle.sw_base.specs.Limits.{longest_source}
use Rattle.sw_rules.specs.declared.Rule.{Rule}
use Rattle.sw_rules.specs.declared.Rule.TheVariants.{L1, L2, L3, L4, L5}
use Rattle.sw_rules.specs.Rule.{rule_order}
use Rattle.sw_lex.specs.declared.token.TokenKind.TheVariants as k
use Rattle.sw_lex.specs.declared.lexemes.Lexeme.{Lexeme}
use Rattle.sw_lex.specs.declared.lexemes.Lexeme.TheVariants.{End, Gap, Token, Malformed, Unterminated}
use Rattle.sw_lex.specs.declared.long.Prefix.{Prefix}
use Rattle.sw_lex.specs.Bytes.{Text}
use Rattle.sw_lex.specs.Lexemes.{BeginsWith, size_of, IsStop}
use Rattle.sw_lex.specs.Characters.{IsBoundary, valid_ahead}
use Rattle.sw_lex.specs.Cut.{Opens, Cut, CutOf, IsValidPrefix, after, closes, is_inside}
use Rattle.sw_lex.specs.Matching.{IsWithin, first_lexeme}
use Rattle.sw_lex.specs.Rules.{Breaks, HasTooLarge, IsStopOffset, StopsAt}
use Rattle.sw_lex.specs.FirstBroken.{FindsTooLarge, IsBefore, is_too_large, stop_at}
use Rattle.sw_lex.specs.Long.{AreCharacters, StopsAtStart, IsFirstAtStart, Known, next, empty_prefix, rule_of_stop}
use Rattle.sw_lex.proofs.CharacterLemmas.{bad_ahead, bad_before_boundary, prefix_more, valid_len_is, valid_is, part_bad, part_valid, valid_len_more, valid_len_of}
use Rattle.sw_lex.proofs.CutLemmas.{cut_more, stop_of as stop_is}
use Rattle.sw_lex.proofs.LargeLemmas.{has_large, large_found_at}
use Rattle.sw_lex.proofs.OneCut.{one_whole}
use Rattle.sw_lex.proofs.PieceLemmas.{both, equal}
use Rattle.sw_lex.proofs.MatchingLemmas.{read, reads}
use Rattle.sw_lex.proofs.RuleLemmas.{large_after}
use Rattle.sw_lex.proofs.ScanLemmas.{stop_more}
use Rattle.sw_lex.proofs.BoundaryLemmas.{item_boundary}
use Rattle.sw_lex.proofs.SomeCut.{SomeCut, some_cut}
use Rattle.sw_lex.proofs.StopLemmas.{one_place, stop_place}

-- ---- the first character

-- a text whose first bytes are characters begins with one, of at most four bytes
abbrev FirstCharacter : Text → Type 0
FirstCharacter z = (size : ℕ) × (0 < size) × (size ≤ 4) × IsUtf8 (take size z)

first_character : (z : Text) (m : ℕ) → 0 < m → m ≤ length z → IsUtf8 (take m z) → FirstCharacter z
first_character z m some l u = go u.0 u.1.0 u.1.1
  where
    len : length (take m z) ≡ m
    len = length-take-le m z l

    go : (cs : List ℕ) → all_scalars cs ≡ true → encode_utf8_all cs ≡ take m z → FirstCharacter z
    go [] s e = absurd (omega (arith, len, some, ap length e))
    go (c ∷ cs) s e =
        let size = length-encode c in
        let bounds = len_utf8_bounds c in
        let total : length (encode_utf8 c ++ encode_utf8_all cs) ≡ length (encode_utf8 c) + length (encode_utf8_all cs) = length-append (encode_utf8 c) (encode_utf8_all cs) in
        let within : length (encode_utf8 c) ≤ m = omega (arith, len, ap length e, total) in
        let prefix : take (length (encode_utf8 c)) z ≡ encode_utf8 c =
        sym (take-take (length (encode_utf8 c)) m z within) ∙ sym (ap (take (length (encode_utf8 c))) e) ∙ take_prefix (encode_utf8 c) (encode_utf8_all cs) in
        (length (encode_utf8 c), omega (arith, size, bounds.0), omega (arith, size, bounds.1), subst IsUtf8 (sym prefix) (IsUtf8-encode c (scalar_first c cs s)))
      where
        take_prefix : (xs ys : Text) → take (length xs) (xs ++ ys) ≡ xs
        take_prefix [] ys = refl
        take_prefix (x ∷ xs) ys = ap (λ (u : Text). x ∷ u) (take_prefix xs ys)

        scalar_first : (c : ℕ) (cs : List ℕ) → all_scalars (c ∷ cs) ≡ true → IsScalar c
        scalar_first c cs s = (both (scalar c) (all_scalars cs) s).0

-- the first four bytes tell whether the first is part of a character
pub bad_start : (z : Text) (n : ℕ) → 4 ≤ length z → IsValidPrefix (take 4 z) n → n ≡ 0 → IsValidUpTo z 0
bad_start z n l g none = go (utf8_valid_len z) (valid_is z)
  where
    len : length (take 4 z) ≡ 4
    len = length-take-le 4 z l

    no_more : IsValidPrefix (take 4 z) n → FirstCharacter z → ⊥
    no_more (inl g) f = omega (arith, g.0, none, len)
    no_more (inr v) f = v.longest f.0 (omega (arith, none, f.1)) (subst IsUtf8 (sym (take-take f.0 4 z f.2)) f.3)

    go : (m : ℕ) → IsValidPrefix z m → IsValidUpTo z 0
    go zero (inl w) = absurd (omega (arith, w.0, l))
    go zero (inr v) = v
    go (suc m) w = let prefix = valid_len_is z (suc m) w in absurd (no_more g (first_character z (suc m) (omega arith) prefix.1 prefix.0))

pub no_valid_start : (z : Text) (n : ℕ) → IsValidPrefix (take 4 z) n → IsValidUpTo z 0 → n ≡ 0
no_valid_start z zero g v = refl
no_valid_start z (suc n) g v =
    let prefix = valid_len_is (take 4 z) (suc n) g in
    let few : suc n ≤ 4 = omega (arith, prefix.1, length-take-most 4 z) in
    absurd (v.longest (suc n) (omega arith) (subst IsUtf8 (take-take (suc n) 4 z few) prefix.0))
  where
    length-take-most : (m : ℕ) (z : Text) → length (take m z) ≤ m
    length-take-most zero z = omega arith
    length-take-most (suc m) [] = omega arith
    length-take-most (suc m) (b ∷ z) = omega (arith, length-take-most m z)

-- ---- the characters so far

pub not_characters : (source : Text) (at end : ℕ) (valid_so_far : Bool) → valid_so_far ≡ false → at ≤ end → AreCharacters source at valid_so_far → AreCharacters source end false
not_characters source at end false e l h = omega (arith, h, l)
not_characters source at end true e l h = absurd (cc)

pub characters_to : (source : Text) (at end valid : ℕ) (valid_so_far : Bool) → valid_so_far ≡ true → at ≤ end → end ≤ length source → IsBoundary (drop at source) (end - at)
    → IsValidPrefix (take (end - at) (drop at source)) valid → AreCharacters source at valid_so_far → AreCharacters source end (valid == end - at)
characters_to source at end valid false e l w boundary g u = absurd (cc)
characters_to source at end valid true e l w boundary g u = go (valid == end - at) refl
  where
    size : at + (end - at) ≡ end
    size = omega (arith, l)

    within : end - at ≤ length (drop at source)
    within = omega (arith, w, length-drop at source)

    go : (t : Bool) → (valid == end - at) ≡ t → AreCharacters source end t
    go true f = subst (λ n. IsUtf8 (take n source)) size (prefix_more source at (end - at) u (part_valid (drop at source) (end - at) valid g (equal valid (end - at) f)))
    go false f =
        let bad = part_bad (drop at source) (end - at) valid within g (other valid (end - at) f) in
        let ahead : IsValidUpTo source (at + valid) = bad_ahead source at valid u (omega (arith, l, w)) (bad_before_boundary (drop at source) (end - at) valid within boundary bad.0) in
        omega (arith, valid_len_of source (at + valid) (inr ahead), bad.1, l)
      where
        other : (n m : ℕ) → (n == m) ≡ false → n ≡ m → ⊥
        other n m f e = grind (arith, common_steps)

pub valid_from : (source : Text) (at : ℕ) (valid_so_far : Bool) → AreCharacters source at valid_so_far → at ≤ length source → valid_ahead valid_so_far (drop at source) ≡ utf8_valid_len source - at
valid_from source at true u l = omega (arith, valid_len_more source at u l)
valid_from source at false h l = omega (arith, h)

-- ---- what is cut so far

pub known_start : (source : Text) → Known source empty_prefix
known_start source =
    let all : utf8_valid_len source - 0 ≡ utf8_valid_len source = omega arith in
    record {
      items = [];
      cut = λ later stop h. subst (λ n. Cut [] n source later stop) all h;
      stop = λ later. refl;
      inside = omega arith;
      characters = IsUtf8-nil;
    }

next_begins : (source : Text) (prefix : Prefix) (item : Lexeme) → item ≡ next prefix source
    → BeginsWith (is_inside prefix.opens) (closes prefix.opens) (utf8_valid_len source - prefix.at) (drop prefix.at source) item
next_begins source prefix item e =
    subst (λ (x : Lexeme). BeginsWith (is_inside prefix.opens) (closes prefix.opens) (utf8_valid_len source - prefix.at) (drop prefix.at source) x) (sym e)
    (reads (is_inside prefix.opens) (closes prefix.opens) (utf8_valid_len source - prefix.at) (drop prefix.at source))

pub next_boundary : (source : Text) (prefix : Prefix) (item : Lexeme) → item ≡ next prefix source → 1 ≤ size_of item → IsBoundary (drop prefix.at source) (size_of item)
next_boundary source prefix item e some =
    item_boundary (is_inside prefix.opens) (closes prefix.opens) (utf8_valid_len source - prefix.at) (drop prefix.at source) item (next_begins source prefix item e) some

at_start_is : (prefix : Prefix) → StopsAtStart prefix → cond (is_inside prefix.opens) 0 prefix.at ≡ 0
at_start_is prefix start = go (is_inside prefix.opens) refl
  where
    go : (t : Bool) → is_inside prefix.opens ≡ t → cond t 0 prefix.at ≡ 0
    go true e = refl
    go false e = start e

pub known_more :
    (source : Text) (prefix : Prefix) (item : Lexeme) (at : ℕ) (opens : Opens) (valid_so_far : Bool)
    → Known source prefix → StopsAtStart prefix → item ≡ next prefix source → 1 ≤ size_of item → prefix.at + size_of item ≤ length source
    → at ≡ prefix.at + size_of item → opens ≡ after prefix.opens item → AreCharacters source at valid_so_far
    → Known source (record { at = at; opens = opens; valid_so_far = valid_so_far })
known_more source prefix item at opens valid_so_far known start begun some within a o characters =
    subst (λ (n : ℕ). Known source (record { at = n; opens = opens; valid_so_far = valid_so_far })) (sym a)
    (subst (λ (w : Opens). Known source (record { at = prefix.at + size_of item; opens = w; valid_so_far = valid_so_far })) (sym o) (record {
      items = known.items ++ item ∷ [];
      cut = λ later stop h. cut_more prefix.opens (after prefix.opens item) (utf8_valid_len source) prefix.at (size_of item) source known.items (known.items ++ item ∷ []) later item stop
          (sym begun) refl (omega (arith, some)) refl refl known.cut h;
      stop = λ later. stop_more prefix.at 0 prefix.opens known.items later item 0 (sym (at_start_is prefix start)) (known.stop (item ∷ later));
      inside = within;
      characters = subst (λ n. AreCharacters source n valid_so_far) a characters;
    }))

-- ---- where a cut stops that leaves no string open

at_least : (m x y : ℕ) (t : Bool) → m ≤ x → m ≤ y → m ≤ cond t x y
at_least m x y true h k = h
at_least m x y false h k = k

stop_from : (m at outer : ℕ) (opens : Opens) (later : List Lexeme) → m ≤ at → m ≤ cond (is_inside opens) outer at → m ≤ stop_at at outer opens later
stop_from m at outer opens [] l h = h
stop_from m at outer opens (item ∷ later) l h =
    stop_from m (at + size_of item) (cond (is_inside opens) outer at) (after opens item) later (omega (arith, l)) (at_least m (cond (is_inside opens) outer at) (at + size_of item) (is_inside (after opens item)) h (omega (arith, l)))

stop_outside : (at : ℕ) (opens : Opens) (later : List Lexeme) → is_inside opens ≡ false → at ≤ stop_at at 0 opens later
stop_outside at opens later e = stop_from at at 0 opens later (omega arith) (subst (λ (t : Bool). at ≤ cond t 0 at) (sym e) (omega arith))

-- it stops at its start no more
no_stop_in : (source : Text) (items : List Lexeme) (end stop : Lexeme) → Cut [] (utf8_valid_len source) source items end → 0 < stop_at 0 0 [] items → StopsAt source stop 0 → ⊥
no_stop_in source items end stop cut far h =
    let place : IsStopOffset items 0 = subst (λ (xs : List Lexeme). IsStopOffset xs 0) (one_whole source (utf8_valid_len source) items end (valid_is source) cut h.0).0 h.2 in
    omega (arith, far, one_place items 0 (stop_at 0 0 [] items) place (stop_place items))

no_stop : (source : Text) (prefix : Prefix) → Known source prefix → 0 < prefix.at → is_inside prefix.opens ≡ false → (stop : Lexeme) → StopsAt source stop 0 → ⊥
no_stop source prefix known some out stop h =
    let rest = some_cut prefix.opens (utf8_valid_len source - prefix.at) (drop prefix.at source) in
    no_stop_in source (known.items ++ rest.items) rest.stop stop (known.cut rest.items rest.stop rest.cut)
    (omega (arith, some, known.stop rest.items, stop_outside prefix.at prefix.opens rest.items out)) h

-- ---- an integer that is too large, at the first byte

first_begins : (source : Text) (item : Lexeme) → BeginsWith false false (utf8_valid_len source) source item → item ≡ next empty_prefix source
first_begins source item h =
    let all : utf8_valid_len source - 0 ≡ utf8_valid_len source = omega arith in
    sym (read false false (utf8_valid_len source) source item h) ∙ ap (λ n. first_lexeme false false n source) (sym all)

stop_small : (bytes : Text) (stop : Lexeme) → IsStop stop → is_too_large bytes stop ≡ false
stop_small bytes End s = refl
stop_small bytes Malformed s = refl
stop_small bytes Unterminated s = refl
stop_small bytes (Gap n) s = absurd s
stop_small bytes (Token kind n) s = absurd s

large_outside : (bytes : Text) (item : Lexeme) → is_too_large bytes item ≡ true → after [] item ≡ []
large_outside bytes (Token k.Integer size) h = refl
large_outside bytes item h = absurd (cc)

large_first : (source : Text) (items : List Lexeme) (stop : Lexeme) → Cut [] (utf8_valid_len source) source items stop → is_too_large source (next empty_prefix source) ≡ true
    → FindsTooLarge 0 source items 0 × (0 < stop_at 0 0 [] items)
large_first source [] stop cut large =
    let same : is_too_large source stop ≡ true = ap (is_too_large source) (first_begins source stop cut.0) ∙ large in
    absurd (let small = stop_small source stop cut.1 in cc)
large_first source (item ∷ items) stop cut large =
    let same : is_too_large source item ≡ true = ap (is_too_large source) (first_begins source item cut.0) ∙ large in
    let some : 0 < size_of item = cut.1 in (
      inl (refl, same),
      omega (arith, some, stop_outside (0 + size_of item) (after [] item) items (ap is_inside (large_outside source item same))),
    )

no_large_in : (source : Text) (items : List Lexeme) (stop : Lexeme) → Cut [] (utf8_valid_len source) source items stop → is_too_large source (next empty_prefix source) ≡ false
    → FindsTooLarge 0 source items 0 → ⊥
no_large_in source [] stop cut small h = h
no_large_in source (item ∷ items) stop cut small (inl h) =
    let same : is_too_large source item ≡ false = ap (is_too_large source) (first_begins source item cut.0) ∙ small in absurd (cc (h.1))
no_large_in source (item ∷ items) stop cut small (inr h) =
    let some : 0 < size_of item = cut.1 in omega (arith, some, large_after (0 + size_of item) 0 (drop (size_of item) source) items h)

no_large : (source : Text) → is_too_large source (next empty_prefix source) ≡ false → HasTooLarge source 0 → ⊥
no_large source small h =
    let whole = some_cut [] (utf8_valid_len source) source in
    let found = large_found_at source 0 h in
    let same : found.0.items ≡ whole.items = (one_whole source (utf8_valid_len source) whole.items whole.stop (valid_is source) whole.cut found.0).0 in
    no_large_in source whole.items whole.stop whole.cut small (subst (λ (xs : List Lexeme). FindsTooLarge 0 source xs 0) same found.1)

-- ---- the first broken rule

by_start : (source : Text) (rule : Rule) → Breaks source rule 0 → ((other : Rule) → Breaks source other 0 → rule_order rule ≤ rule_order other) → IsFirstAtStart source rule
by_start source rule h least = (h, λ other at b. before other at b)
  where
    before : (other : Rule) (at : ℕ) → Breaks source other at → IsBefore rule 0 other at
    before other zero b = inr (refl, least other b)
    before other (suc n) b = inl (omega arith)

pub first_bad : (source : Text) → IsValidUpTo source 0 → IsFirstAtStart source L1
first_bad source bad = by_start source L1 bad (λ other b. omega arith)

pub first_large : (source : Text) → (IsValidUpTo source 0 → ⊥) → is_too_large source (next empty_prefix source) ≡ true → IsFirstAtStart source L4
first_large source valid large = by_start source L4 (has_large source whole 0 found.0) least
  where
    some : SomeCut [] (utf8_valid_len source) source
    some = some_cut [] (utf8_valid_len source) source

    whole : CutOf source
    whole = record { valid = utf8_valid_len source; items = some.items; stop = some.stop; prefix = valid_is source; cut = some.cut }

    found : FindsTooLarge 0 source some.items 0 × (0 < stop_at 0 0 [] some.items)
    found = large_first source some.items some.stop some.cut large

    least : (other : Rule) → Breaks source other 0 → 3 ≤ rule_order other
    least L1 b = absurd (valid b)
    least L2 b = absurd (no_stop_in source some.items some.stop Malformed some.cut found.1 b)
    least L3 b = absurd (no_stop_in source some.items some.stop Unterminated some.cut found.1 b)
    least L4 b = omega arith
    least L5 b = omega arith
    least rule b = absurd b

stopped_first : (source : Text) (whole : CutOf source) → (IsValidUpTo source 0 → ⊥) → (whole.stop ≡ End → ⊥) → IsStopOffset whole.items 0 → (stop : Lexeme) → whole.stop ≡ stop → IsStop stop
    → IsFirstAtStart source (rule_of_stop stop)
stopped_first source whole valid some place End e s = absurd (some e)
stopped_first source whole valid some place Malformed e s = by_start source L2 (whole, e, place) least
  where
    least : (other : Rule) → Breaks source other 0 → 1 ≤ rule_order other
    least L1 b = absurd (valid b)
    least L2 b = omega arith
    least L3 b = omega arith
    least L4 b = omega arith
    least L5 b = omega arith
    least rule b = absurd b
stopped_first source whole valid some place Unterminated e s = by_start source L3 (whole, e, place) least
  where
    form : StopsAt source Malformed 0 → ⊥
    form b = let same : Malformed ≡ Unterminated = sym b.1 ∙ (one_whole source whole.valid whole.items whole.stop whole.prefix whole.cut b.0).1 ∙ e in cc

    least : (other : Rule) → Breaks source other 0 → 2 ≤ rule_order other
    least L1 b = absurd (valid b)
    least L2 b = absurd (form b)
    least L3 b = omega arith
    least L4 b = omega arith
    least L5 b = omega arith
    least rule b = absurd b
stopped_first source whole valid some place (Gap n) e s = absurd s
stopped_first source whole valid some place (Token kind n) e s = absurd s

pub first_stop : (source : Text) (prefix : Prefix) (stop : Lexeme) (len : ℕ) → (IsValidUpTo source 0 → ⊥) → 0 < length source → Known source prefix → StopsAtStart prefix → stop ≡ next prefix source
    → IsWithin stop len → size_of stop ≡ 0 → IsFirstAtStart source (rule_of_stop stop)
first_stop source prefix stop len valid some known start begun within none = stopped_first source whole valid no_end place stop refl is_stop
  where
    is_stop : IsStop stop
    is_stop = stop_is stop len within none

    whole : CutOf source
    whole = record { valid = utf8_valid_len source; items = known.items ++ []; stop = stop; prefix = valid_is source; cut = known.cut [] stop (next_begins source prefix stop begun, is_stop) }

    place : IsStopOffset whole.items 0
    place = subst (λ n. IsStopOffset whole.items n) (sym (known.stop []) ∙ at_start_is prefix start) (stop_place whole.items)

    no_end : stop ≡ End → ⊥
    no_end e = let end = next_begins source prefix End (sym e ∙ begun) in omega (arith, ap length end.1, start end.0, length-drop prefix.at source, some)

pub first_long : (source : Text) (prefix : Prefix) → (IsValidUpTo source 0 → ⊥) → longest_source < length source → Known source prefix → 0 < prefix.at → is_inside prefix.opens ≡ false
    → is_too_large source (next empty_prefix source) ≡ false → IsFirstAtStart source L5
first_long source prefix valid long known some out small = by_start source L5 (refl, long) least
  where
    least : (other : Rule) → Breaks source other 0 → 4 ≤ rule_order other
    least L1 b = absurd (valid b)
    least L2 b = absurd (no_stop source prefix known some out Malformed b)
    least L3 b = absurd (no_stop source prefix known some out Unterminated b)
    least L4 b = absurd (no_large source small b)
    least L5 b = omega arith
    least rule b = absurd b
