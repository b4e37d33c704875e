-- Tokens that are kept with the numbers of their texts.
use Rattle.std.proofs.Common.{◌≡◌, ℕ, zero, suc, ◌<◌, Bool, true, false, ◌&&◌, nat_eq, List, [], ◌∷◌, ◌++◌, length, option_map, Some, slice_get, slice_index_or, refl, sym, ap, ◌∙◌, subst, arith}
use Rattle.std.proofs.lemmas.Grind.{common_steps}
use Rattle.std.proofs.lemmas.List.{length-append, length-map, map-append, get_or_append_left}
use Rattle.std.proofs.lemmas.Option.{slice_get-map, slice_get-get_or, slice_get_within, get_or_from_slice_get}
use Rattle.sw_lex.specs.declared.token.TokenKind.TheVariants.{Name}
use Rattle.sw_lex.specs.declared.token.Token.{Token}
use Rattle.sw_lex.specs.Bytes.{Text}
use Rattle.sw_lex.specs.Tables.{is_same_text}
use Rattle.sw_lex.specs.declared.kept.Entry.{Entry}
use Rattle.sw_lex.specs.Kept.{token_in, tokens_in, AreKept, IsGrown}

both : (s t : Bool) → (s && t) ≡ true → (s ≡ true) × (t ≡ true)
both true true h = (refl, refl)
both true false h = absurd (cc)
both false t h = absurd (cc)

pub same_text : (u v : Text) → is_same_text u v ≡ true → u ≡ v
same_text [] [] h = refl
same_text [] (b ∷ v) h = absurd (cc)
same_text (a ∷ u) [] h = absurd (cc)
same_text (a ∷ u) (b ∷ v) h = let two = both (nat_eq a b) (is_same_text u v) h in let head : a ≡ b = grind (arith, common_steps) in let tail = same_text u v two.1 in cc

-- ---- a token that is there

text_kept : (texts : List Text) (entries : List Entry) (at : ℕ) (entry : Entry) → AreKept texts entries → slice_get entries at ≡ Some entry → entry.text < length texts
text_kept texts [] at entry h p = absurd (cc (p))
text_kept texts (e ∷ es) zero entry h p = let same : e ≡ entry = cc (p) in subst (λ (e : Entry). e.text < length texts) same h.0
text_kept texts (e ∷ es) (suc at) entry h p = text_kept texts es at entry h.1 p

abbrev with_text : Text → Entry → Token
with_text text entry = record { text = text; span = entry.span; kind = entry.kind; first_on_line = entry.first_on_line; touches = entry.touches; after_space = entry.after_space }

got : (texts : List Text) (entries : List Entry) (at : ℕ) (entry : Entry) (text : Text) → slice_get entries at ≡ Some entry → slice_get texts entry.text ≡ Some text → slice_get (tokens_in texts entries) at ≡ Some (with_text text entry)
got texts entries at entry text e t =
    slice_get-map (token_in texts) entries at ∙ (ap (option_map (token_in texts)) e
    ∙ ap (λ u. Some (with_text u entry)) (get_or_from_slice_get texts entry.text text [] t))

-- ---- more texts, and a token more

pub kept_more : (texts more : List Text) (entries : List Entry) → AreKept texts entries → AreKept (texts ++ more) entries
kept_more texts more [] h = tt
kept_more texts more (entry ∷ entries) h =
    (subst (λ n. entry.text < n) (sym (length-append texts more)) (omega (arith, h.0)), kept_more texts more entries h.1)

pub same_more : (texts more : List Text) (entries : List Entry) → AreKept texts entries → tokens_in (texts ++ more) entries ≡ tokens_in texts entries
same_more texts more [] h = refl
same_more texts more (entry ∷ entries) h =
    let one = ap (λ u. with_text u entry) (get_or_append_left texts more [] entry.text h.0) in
    let others = same_more texts more entries h.1 in cc

pub kept_grown : (old new : List Text) (entries : List Entry) → IsGrown old new → AreKept old entries → AreKept new entries
kept_grown old new entries g h = subst (λ ts. AreKept ts entries) (sym g.1) (kept_more old g.0 entries h)

pub same_grown : (old new : List Text) (entries : List Entry) → IsGrown old new → AreKept old entries → tokens_in new entries ≡ tokens_in old entries
same_grown old new entries g h = ap (λ ts. tokens_in ts entries) g.1 ∙ same_more old g.0 entries h

kept_one : (texts : List Text) (entries : List Entry) (entry : Entry) → entry.text < length texts → AreKept texts entries → AreKept texts (entries ++ entry ∷ [])
kept_one texts [] entry h rest = (h, tt)
kept_one texts (e ∷ es) entry h rest = (rest.0, kept_one texts es entry h rest.1)

pub kept_pushed : (old new : List Text) (entries : List Entry) (entry : Entry) (text : Text) → IsGrown old new → AreKept old entries → slice_get new entry.text ≡ Some text → AreKept new (entries ++ entry ∷ [])
kept_pushed old new entries entry text g h t = kept_one new entries entry (slice_get_within new entry.text text t) (kept_grown old new entries g h)

pub pushed : (old new : List Text) (entries : List Entry) (entry : Entry) (text : Text) → IsGrown old new → AreKept old entries → slice_get new entry.text ≡ Some text
    → tokens_in new (entries ++ entry ∷ []) ≡ tokens_in old entries ++ with_text text entry ∷ []
pushed old new entries entry text g h t =
    let prefix = same_grown old new entries g h in
    let last = ap (λ u. with_text u entry) (get_or_from_slice_get new entry.text text [] t) in
    map-append (token_in new) entries (entry ∷ []) ∙ cc

-- ---- a token at a known place

abbrev pub nothing : Entry
nothing = record { span = record { line = 0; column = 0 }; text = 0; kind = Name; first_on_line = false; touches = false; after_space = false }

within : (texts : List Text) (entries : List Entry) (tokens : List Token) (at : ℕ) → tokens_in texts entries ≡ tokens → at < length tokens → at < length entries
within texts entries tokens at same h = subst (λ n. at < n) (ap length (sym same) ∙ length-map entries (token_in texts)) h

pub text_at : (texts : List Text) (entries read : List Entry) (tokens : List Token) (at : ℕ) → read ≡ entries → AreKept texts entries → tokens_in texts entries ≡ tokens → at < length tokens
    → (slice_index_or read at nothing).text < length texts
text_at texts entries read tokens at r kept same h =
    let inside : at < length read = subst (λ es. at < length es) (sym r) (within texts entries tokens at same h) in
    text_kept texts read at (slice_index_or read at nothing) (subst (AreKept texts) (sym r) kept) (slice_get-get_or read at nothing inside)

pub got_at : (texts : List Text) (entries read : List Entry) (tokens : List Token) (at : ℕ) (text : Text) → read ≡ entries → tokens_in texts entries ≡ tokens → at < length tokens
    → slice_get texts (slice_index_or read at nothing).text ≡ Some text → slice_get tokens at ≡ Some (with_text text (slice_index_or read at nothing))
got_at texts entries read tokens at text r same h t =
    let inside : at < length read = subst (λ es. at < length es) (sym r) (within texts entries tokens at same h) in
    ap (λ ts. slice_get ts at) (sym same) ∙ (ap (λ es. slice_get (tokens_in texts es) at) (sym r)
    ∙ got texts read at (slice_index_or read at nothing) text (slice_get-get_or read at nothing inside) t)
