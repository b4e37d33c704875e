-- What is known after one more gap or token, and after all of them.
use Rattle.std.proofs.Common.{◌≡◌, ◌≤◌, ℕ, ◌+◌, ◌-◌, Bool, true, false, not, cond, Option, Some, None, List, [], ◌∷◌, ◌++◌, length, take, drop, refl, ap, sym, ◌∙◌, subst, arith, append_assoc, append-nil}
use Rattle.std.proofs.lemmas.List.{drop-drop}
use Rattle.std.specs.Prelude.{IfSome}
use Rattle.sw_base.specs.declared.ids.Span.{Span}
use Rattle.sw_lex.specs.declared.token.Token.{Token as SourceToken}
use Rattle.sw_lex.specs.declared.lexemes.Lexeme.{Lexeme}
use Rattle.sw_lex.specs.declared.lexemes.Lexeme.TheVariants.{End, Gap, Token, Malformed, Unterminated}
use Rattle.sw_lex.specs.declared.places.Spot.{Spot}
use Rattle.sw_lex.specs.declared.emit.Here.{Here}
use Rattle.sw_lex.specs.declared.emit.TokenWriter.{TokenWriter}
use Rattle.sw_lex.specs.declared.scan.Scan.{Scan}
use Rattle.sw_lex.specs.Bytes.{Text}
use Rattle.sw_lex.specs.Lexemes.{BeginsWith, size_of}
use Rattle.sw_lex.specs.Cut.{Opens, Cut, after, closes, is_inside}
use Rattle.sw_lex.specs.Tokens.{here_after, moved, place_at, start}
use Rattle.sw_lex.specs.Emitted.{emission, emitted}
use Rattle.sw_lex.specs.FirstBroken.{is_too_large, large_at, stop_at}
use Rattle.std.specs.Str.Lossy.{utf8_valid_len}
use Rattle.sw_lex.specs.Characters.{IsFirstBad, IsBoundary, valid_ahead}
use Rattle.sw_lex.specs.Scanning.{ArePlaces, IsNear, IsSpot, Known, Scanned, first_large, here, next, nothing_cut, or_later, outermost, writer_after}
use Rattle.sw_lex.proofs.CutLemmas.{cut_more, total_more, stop_of as stop_is}
use Rattle.sw_lex.specs.Matching.{IsWithin}
use Rattle.sw_lex.proofs.MatchingLemmas.{reads}
use Rattle.sw_lex.proofs.PlaceLemmas.{place_more, place_near}
use Rattle.sw_lex.proofs.CharacterLemmas.{valid_len_more, valid_len_of}
use Rattle.sw_lex.proofs.BoundaryLemmas.{item_boundary}
use Rattle.std.proofs.lemmas.Str.{IsUtf8-nil}
use Rattle.std.specs.Option.{is_none, is_some}
use mathlib.Core.Logic.{inr}

pub spot_near : (source : Text) (at : ℕ) (place : Span) → place ≡ place_at source at → IsNear at place
spot_near source at place h = subst (λ (p : Span). IsNear at p) (sym h) (place_near source at)

-- ---- nothing is cut

pub known_start : (source : Text) → Known source nothing_cut
known_start source =
    let valid : ℕ = utf8_valid_len source in
    let all : utf8_valid_len source - 0 ≡ utf8_valid_len source = omega arith in
    record {
      items = [];
      cut = λ later stop h. subst (λ n. Cut [] n source later stop) all h;
      ends = refl;
      inside = omega arith;
      prefix = IsUtf8-nil;
      stop = λ later. refl;
      large = λ later. refl;
      emitted = λ end later. refl;
      places = record {
        here = refl;
        last = λ some. absurd (omega (arith, some));
        outer = refl;
        bad = tt;
        large = tt;
      };
    }

-- ---- one more gap or token

more_items : (items later : List Lexeme) (item : Lexeme) → (items ++ item ∷ []) ++ later ≡ items ++ item ∷ later
more_items items later item = append_assoc items (item ∷ []) later

-- where the cut stops
pub stop_more : (at outer : ℕ) (opens : Opens) (items later : List Lexeme) (item : Lexeme) (t : ℕ) → t ≡ cond (is_inside opens) outer at
    → stop_at at outer opens (item ∷ later) ≡ stop_at 0 0 [] (items ++ item ∷ later)
    → stop_at (at + size_of item) t (after opens item) later ≡ stop_at 0 0 [] ((items ++ item ∷ []) ++ later)
stop_more at outer opens items later item t e h =
    ap (λ n. stop_at (at + size_of item) n (after opens item) later) e ∙ h ∙ ap (λ (xs : List Lexeme). stop_at 0 0 [] xs) (sym (more_items items later item))

outer_at : (opens : Opens) (outer here : Spot) → (outermost opens outer here).at ≡ cond (is_inside opens) outer.at here.at
outer_at opens outer here = go (is_inside opens)
  where
    go : (t : Bool) → (cond t outer here).at ≡ cond t outer.at here.at
    go true = refl
    go false = refl

-- the first integer that is too large
or_first : (found : Option Spot) (here : Spot) (bytes rest : Text) (later : List Lexeme) (item : Lexeme) → rest ≡ drop (size_of item) bytes
    → or_later (first_large found bytes item here) (large_at (here.at + size_of item) rest later) ≡ or_later found (large_at here.at bytes (item ∷ later))
or_first (Some spot) here bytes rest later item e = refl
or_first None here bytes rest later item e = go (is_too_large bytes item)
  where
    go : (t : Bool) → or_later (cond t (Some here) None) (large_at (here.at + size_of item) rest later) ≡ cond t (Some here.at) (large_at (here.at + size_of item) (drop (size_of item) bytes) later)
    go true = refl
    go false = ap (λ (z : Text). large_at (here.at + size_of item) z later) e

-- places
here_after_place : (here : Here) (bytes : Text) (item : Lexeme) → 1 ≤ size_of item → (here_after here bytes item).place ≡ moved here.place (take (size_of item) bytes)
here_after_place here bytes End h = absurd (omega arith)
here_after_place here bytes (Gap size) h = refl
here_after_place here bytes (Token kind size) h = refl
here_after_place here bytes Malformed h = absurd (omega arith)
here_after_place here bytes Unterminated h = absurd (omega arith)

-- the place so many bytes after what is cut so far
place_after : (source : Text) (at n m : ℕ) (place : Span) → place ≡ place_at source at → at + n ≡ m → moved place (take n (drop at source)) ≡ place_at source m
place_after source at n m place h e = ap (λ p. moved p (take n (drop at source))) h ∙ place_more source at n ∙ ap (place_at source) e

outer_spot : (source : Text) (opens : Opens) (outer here : Spot) → IsSpot source outer → IsSpot source here → IsSpot source (outermost opens outer here)
outer_spot source opens outer here p q = go (is_inside opens)
  where
    go : (t : Bool) → IsSpot source (cond t outer here)
    go true = p
    go false = q

large_spot : (source : Text) (found : Option Spot) (bytes : Text) (item : Lexeme) (here : Spot) → IfSome found (IsSpot source) → IsSpot source here → IfSome (first_large found bytes item here) (IsSpot source)
large_spot source (Some spot) bytes item here p q = p
large_spot source None bytes item here p q = go (is_too_large bytes item)
  where
    go : (t : Bool) → IfSome (cond t (Some here) None) (IsSpot source)
    go true = q
    go false = tt

-- after a gap or a token
abbrev scan_after : Text → Scan → Lexeme → Option Spot → TokenWriter → Scan
scan_after source scan item bad so_far = record {
  at = scan.at + size_of item;
  opens = after scan.opens item;
  outer = outermost scan.opens scan.outer (here scan);
  bad = bad;
  large = first_large scan.large (drop scan.at source) item (here scan);
  emitted = so_far;
}

places_more :
    (source : Text) (scan : Scan) (item : Lexeme) (bad : Option Spot) (so_far : TokenWriter)
    → ArePlaces source scan → 1 ≤ size_of item → IfSome bad (IsSpot source)
    → so_far ≡ writer_after scan.emitted (drop scan.at source) item
    → ArePlaces source (scan_after source scan item bad so_far)
places_more source scan item bad so_far known some placed same =
    let rest : Text = drop scan.at source in
    let now = scan.emitted.here in record {
      here = ap (λ (t : TokenWriter). t.here.place) same ∙ here_after_place now rest item some ∙ place_after source scan.at (size_of item) (scan.at + size_of item) now.place known.here refl;
      last = λ following. ap (λ (t : TokenWriter). t.last) same ∙ place_after source scan.at (size_of item - 1) (scan.at + size_of item - 1) now.place known.here (omega (arith, some));
      outer = outer_spot source scan.opens scan.outer (here scan) known.outer known.here;
      bad = placed;
      large = large_spot source scan.large rest item (here scan) known.large known.here;
    }

emitted_more :
    (source : Text) (scan : Scan) (item : Lexeme) (items : List Lexeme) (so_far : TokenWriter) (end : Span)
    → ((later : List Lexeme) → scan.emitted.tokens ++ emitted end scan.emitted.here (drop scan.at source) later ≡ emitted end start source (items ++ later))
    → so_far ≡ writer_after scan.emitted (drop scan.at source) item
    → (later : List Lexeme) → so_far.tokens ++ emitted end so_far.here (drop (scan.at + size_of item) source) later ≡ emitted end start source ((items ++ item ∷ []) ++ later)
emitted_more source scan item items so_far end known same later =
    let rest : Text = drop scan.at source in
    let now = scan.emitted.here in
    let tokens : List SourceToken = scan.emitted.tokens in
    ap (λ (t : TokenWriter). t.tokens ++ emitted end t.here (drop (scan.at + size_of item) source) later) same
    ∙ ap (λ (z : Text). (tokens ++ emission now rest item) ++ emitted end (here_after now rest item) z later) (sym (drop-drop (size_of item) scan.at source))
    ∙ append_assoc tokens (emission now rest item) (emitted end (here_after now rest item) (drop (size_of item) rest) later)
    ∙ known (item ∷ later) ∙ ap (λ (xs : List Lexeme). emitted end start source xs) (sym (more_items items later item))

known_after :
    (source : Text) (scan : Scan) (item : Lexeme) (bad : Option Spot) (so_far : TokenWriter)
    → Known source scan → item ≡ next scan source → 1 ≤ size_of item → scan.at + size_of item ≤ length source
    → IsFirstBad source (scan.at + size_of item) bad → IfSome bad (IsSpot source)
    → so_far ≡ writer_after scan.emitted (drop scan.at source) item
    → Known source (scan_after source scan item bad so_far)
known_after source scan item bad so_far known begun some within prefix placed same = record {
  items = known.items ++ item ∷ [];
  cut = λ later stop h. cut_more scan.opens (after scan.opens item) (utf8_valid_len source) scan.at (size_of item) source known.items (known.items ++ item ∷ []) later item stop (sym begun) refl (omega (arith, some)) refl refl known.cut h;
  ends = total_more known.items item ∙ ap (λ n. n + size_of item) known.ends;
  inside = within;
  prefix = prefix;
  stop = λ later. stop_more scan.at scan.outer.at scan.opens known.items later item (outermost scan.opens scan.outer (here scan)).at (outer_at scan.opens scan.outer (here scan)) (known.stop (item ∷ later));
  large = λ later. or_first scan.large (here scan) (drop scan.at source) (drop (scan.at + size_of item) source) later item (sym (drop-drop (size_of item) scan.at source)) ∙ known.large (item ∷ later)
      ∙ ap (λ (xs : List Lexeme). large_at 0 source xs) (sym (more_items known.items later item));
  emitted = λ end later. emitted_more source scan item known.items so_far end (known.emitted end) same later;
  places = places_more source scan item bad so_far known.places some placed same;
}

-- the same, part by part
pub known_more :
    (source : Text) (scan : Scan) (item : Lexeme) (at : ℕ) (opens : Opens) (outer : Spot) (bad large : Option Spot) (so_far : TokenWriter)
    → Known source scan → item ≡ next scan source → 1 ≤ size_of item → scan.at + size_of item ≤ length source
    → at ≡ scan.at + size_of item → opens ≡ after scan.opens item → outer ≡ outermost scan.opens scan.outer (here scan)
    → large ≡ first_large scan.large (drop scan.at source) item (here scan)
    → IsFirstBad source (scan.at + size_of item) bad → IfSome bad (IsSpot source)
    → so_far ≡ writer_after scan.emitted (drop scan.at source) item
    → Known source (record { at = at; opens = opens; outer = outer; bad = bad; large = large; emitted = so_far })
known_more source scan item at opens outer bad large so_far known begun some within a o u l prefix placed same =
    subst (λ (n : ℕ). Known source (record { at = n; opens = opens; outer = outer; bad = bad; large = large; emitted = so_far })) (sym a)
    (subst (λ (w : Opens). Known source (record { at = scan.at + size_of item; opens = w; outer = outer; bad = bad; large = large; emitted = so_far })) (sym o)
    (subst (λ (s : Spot). Known source (record { at = scan.at + size_of item; opens = after scan.opens item; outer = s; bad = bad; large = large; emitted = so_far })) (sym u)
    (subst (λ (f : Option Spot). Known source (record { at = scan.at + size_of item; opens = after scan.opens item; outer = outermost scan.opens scan.outer (here scan); bad = bad; large = f; emitted = so_far })) (sym l)
    (known_after source scan item bad so_far known begun some within prefix placed same))))

-- ---- how many bytes from here on are characters

pub prefix_ahead : (source : Text) (at : ℕ) (bad : Option Spot) → IsFirstBad source at bad → at ≤ length source → valid_ahead (is_none bad) (drop at source) ≡ utf8_valid_len source - at
prefix_ahead source at None u l = omega (arith, valid_len_more source at u l)
prefix_ahead source at (Some spot) h l = omega (arith, valid_len_of source spot.at (inr h.0), h.1)

-- no character goes on over the end of what begins here
pub next_boundary : (source : Text) (scan : Scan) (item : Lexeme) → item ≡ next scan source → 1 ≤ size_of item → IsBoundary (drop scan.at source) (size_of item)
next_boundary source scan item begun some =
    let opens : Opens = scan.opens in
    let valid : ℕ = utf8_valid_len source - scan.at in
    let begins_here : BeginsWith (is_inside opens) (closes opens) (utf8_valid_len source - scan.at) (drop scan.at source) item =
    subst (λ (x : Lexeme). BeginsWith (is_inside opens) (closes opens) (utf8_valid_len source - scan.at) (drop scan.at source) x) (sym begun) (reads (is_inside opens) (closes opens) (utf8_valid_len source - scan.at) (drop scan.at source)) in
    item_boundary (is_inside opens) (closes opens) (utf8_valid_len source - scan.at) (drop scan.at source) item begins_here some

-- ---- all of them

pub read_all : (source : Text) (scan : Scan) (stop : Lexeme) (len : ℕ) → Known source scan → stop ≡ next scan source → IsWithin stop len → size_of stop ≡ 0 → Scanned source scan stop
read_all source scan stop len known begun within none =
    let opens : Opens = scan.opens in
    let begins_here : BeginsWith (is_inside opens) (closes opens) (utf8_valid_len source - scan.at) (drop scan.at source) stop =
    subst (λ (x : Lexeme). BeginsWith (is_inside opens) (closes opens) (utf8_valid_len source - scan.at) (drop scan.at source) x) (sym begun) (reads (is_inside opens) (closes opens) (utf8_valid_len source - scan.at) (drop scan.at source)) in
    let all : known.items ++ [] ≡ known.items = append-nil known.items in
    record {
      items = known.items;
      cut = subst (λ (xs : List Lexeme). Cut [] (utf8_valid_len source) source xs stop) all (known.cut [] stop (begins_here, stop_is stop len within none));
      stopped = stop_is stop len within none;
      ends = known.ends;
      inside = known.inside;
      prefix = known.prefix;
      stop_place = known.stop [] ∙ ap (λ (xs : List Lexeme). stop_at 0 0 [] xs) all;
      large = known.large [] ∙ ap (λ (xs : List Lexeme). large_at 0 source xs) all;
      emitted = λ end. known.emitted end [] ∙ ap (λ (xs : List Lexeme). emitted end start source xs) all;
      places = known.places;
    }

-- ---- a place further on

pub place_ahead : (source : Text) (at n : ℕ) (here place : Span) → here ≡ place_at source at → place ≡ moved here (take n (drop at source)) → place ≡ place_at source (at + n)
place_ahead source at n here place h e = e ∙ place_after source at n (at + n) here h refl

pub none_is : (found : Option Spot) (none : Bool) → is_some found ≡ not none → none ≡ is_none found
none_is found true e = sym (ap not e)
none_is found false e = sym (ap not e)
