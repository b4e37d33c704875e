-- What is known of a source that is read to its end.
use Rattle.std.proofs.Common.{◌≡◌, ◌<◌, ◌≤◌, ℕ, ◌+◌, ◌-◌, ◌^◌, Bool, true, false, cond, ◌==◌, None, List, [], ◌∷◌, ◌++◌, length, drop, refl, ap, sym, ◌∙◌, subst, arith, length-drop}
use Rattle.std.proofs.lemmas.Grind.{common_steps}
use Rattle.std.proofs.lemmas.List.{drop-drop}
use Rattle.std.specs.Str.Lossy.{utf8_valid_len}
use Rattle.sw_base.specs.Limits.{longest_source}
use Rattle.sw_base.specs.declared.ids.Span.{Span}
use Rattle.sw_lex.specs.declared.token.TokenKind.TheVariants as k
use Rattle.sw_lex.specs.declared.token.Token.{Token}
use Rattle.sw_lex.specs.declared.lexemes.Lexeme.{Lexeme}
use Rattle.sw_lex.specs.declared.lexemes.Lexeme.TheVariants.{End}
use Rattle.sw_lex.specs.declared.scan.Scan.{Scan}
use Rattle.sw_lex.specs.Bytes.{Text}
use Rattle.sw_lex.specs.Lexemes.{size_of}
use Rattle.sw_lex.specs.Cut.{Opens, Cut, CutOf, after, total}
use Rattle.sw_lex.specs.Tokens.{AreInOrder, CutsInto, AreTokens, EndsOnce, end_place, origin, place_at, start, token_at}
use Rattle.sw_lex.specs.Emitted.{emitted, tokens_of}
use Rattle.sw_lex.specs.Rules.{Breaks}
use Rattle.sw_lex.specs.FirstBroken.{IsFirst}
use Rattle.sw_lex.specs.Scanning.{Scanned, end_of}
use Rattle.sw_lex.proofs.CharacterLemmas.{valid_is}
use Rattle.sw_lex.proofs.PlaceLemmas.{place_near}
use Rattle.sw_lex.proofs.RuleLemmas.{stops_at_end}
use Rattle.sw_lex.proofs.EmitLemmas.{emitted_tokens}
use Rattle.sw_lex.proofs.EndLemmas.{emitted_ends_once}
use Rattle.sw_lex.proofs.InOrder.{tokens_in_order}
use Rattle.sw_lex.proofs.OneCut.{one_list}

-- a cut up to the end leaves no byte
cut_all : (opens : Opens) (valid : ℕ) (bytes : Text) (items : List Lexeme) → Cut opens valid bytes items End → drop (total items) bytes ≡ []
cut_all opens valid bytes [] h = h.0.1
cut_all opens valid bytes (item ∷ items) h =
    sym (drop-drop (total items) (size_of item) bytes) ∙ cut_all (after opens item) (valid - size_of item) (drop (size_of item) bytes) items h.2

pub whole_of : (source : Text) (scan : Scan) (stop : Lexeme) → Scanned source scan stop → CutOf source
whole_of source scan stop read = record { valid = utf8_valid_len source; items = read.items; stop = stop; prefix = valid_is source; cut = read.cut }

-- a source that breaks no rule is read to its end
stop_end : (source : Text) (scan : Scan) (stop : Lexeme) → Scanned source scan stop → IsFirst (Breaks source) None → stop ≡ End
unfolding whole_of
stop_end source scan stop read unbroken = stops_at_end source (whole_of source scan stop read) read.stopped unbroken

at_end : (source : Text) (scan : Scan) (stop : Lexeme) → Scanned source scan stop → stop ≡ End → scan.at ≡ length source
at_end source scan stop read e =
    let cut : Cut [] (utf8_valid_len source) source read.items End = subst (λ (x : Lexeme). Cut [] (utf8_valid_len source) source read.items x) e read.cut in
    let none : drop scan.at source ≡ [] = ap (λ n. drop n source) (sym read.ends) ∙ cut_all [] (utf8_valid_len source) source read.items cut in
    omega (arith, read.inside, length-drop scan.at source, ap (λ (z : Text). length z) none)

last_place : (source : Text) (scan : Scan) (stop : Lexeme) → Scanned source scan stop → stop ≡ End → length source ≤ longest_source → 0 < length source
    → scan.emitted.last ≡ place_at source (length source - 1)
last_place source scan stop read e short some =
    let end = at_end source scan stop read e in
    read.places.last (omega (arith, end, some)) ∙ ap (λ n. place_at source (n - 1)) end

-- the column after the last byte is one
pub last_near : (source : Text) (scan : Scan) (stop : Lexeme) → Scanned source scan stop → IsFirst (Breaks source) None → length source ≤ longest_source → 0 < length source
    → scan.emitted.last.column + 1 < 2 ^ 32
last_near source scan stop read unbroken short some =
    let last = last_place source scan stop read (stop_end source scan stop read unbroken) short some in
    let column = ap (λ (p : Span). p.column) last in
    omega (arith, column, (place_near source (length source - 1)).1, short)

end_same : (source : Text) (last : Span) → (0 < length source → last ≡ place_at source (length source - 1)) → end_of (length source) last ≡ end_place source
end_same source last h = go (length source == 0) refl
  where
    go : (t : Bool) → (length source == 0) ≡ t
        → cond t origin (record { line = last.line; column = last.column + 1 })
        ≡ cond t origin (record { line = (place_at source (length source - 1)).line; column = (place_at source (length source - 1)).column + 1 })
    go true e = refl
    go false e = let after_last : Span → Span = λ p. record { line = p.line; column = p.column + 1 } in ap after_last (h (grind (arith, common_steps)))

-- the tokens that are written of the source, with one for its end
abbrev all_emitted : Text → Scan → List Token
all_emitted source scan = scan.emitted.tokens ++ token_at (end_of (length source) scan.emitted.last) scan.emitted.here k.End [] ∷ []

emitted_all : (source : Text) (scan : Scan) (stop : Lexeme) → (read : Scanned source scan stop) → IsFirst (Breaks source) None → length source ≤ longest_source
    → all_emitted source scan ≡ tokens_of source read.items
emitted_all source scan stop read unbroken short =
    let last = last_place source scan stop read (stop_end source scan stop read unbroken) short in
    read.emitted (end_of (length source) scan.emitted.last) ∙ ap (λ (end : Span). emitted end start source read.items) (end_same source scan.emitted.last last)

pub cuts_into : (source : Text) (scan : Scan) (stop : Lexeme) → Scanned source scan stop → IsFirst (Breaks source) None → length source ≤ longest_source
    → CutsInto source (all_emitted source scan)
unfolding whole_of
cuts_into source scan stop read unbroken short = record {
  whole = whole_of source scan stop read;
  to_end = stop_end source scan stop read unbroken;
  same = subst (λ (tokens : List Token). AreTokens (end_place source) start (utf8_valid_len source) source read.items tokens) (sym (emitted_all source scan stop read unbroken short))
      (emitted_tokens (end_place source) start [] (utf8_valid_len source) source read.items stop read.cut);
}

pub only_cut : (source : Text) (scan : Scan) (stop : Lexeme) → Scanned source scan stop → IsFirst (Breaks source) None → length source ≤ longest_source
    → (others : List Token) → CutsInto source others → others ≡ all_emitted source scan
only_cut source scan stop read unbroken short others h =
    one_list source (utf8_valid_len source) read.items stop (valid_is source) read.cut others h ∙ sym (emitted_all source scan stop read unbroken short)

pub ends_once : (source : Text) (scan : Scan) (stop : Lexeme) → Scanned source scan stop → IsFirst (Breaks source) None → length source ≤ longest_source
    → EndsOnce (all_emitted source scan)
ends_once source scan stop read unbroken short =
    subst (λ (tokens : List Token). EndsOnce tokens) (sym (emitted_all source scan stop read unbroken short))
    (emitted_ends_once (end_place source) start [] (utf8_valid_len source) source read.items stop read.cut)

pub in_order : (source : Text) (scan : Scan) (stop : Lexeme) → Scanned source scan stop → IsFirst (Breaks source) None → length source ≤ longest_source
    → AreInOrder (all_emitted source scan)
in_order source scan stop read unbroken short =
    subst (λ (tokens : List Token). AreInOrder tokens) (sym (emitted_all source scan stop read unbroken short))
    (tokens_in_order source (utf8_valid_len source) read.items stop read.cut (omega (arith, read.ends, read.inside)))
