-- What holds of each mark and each reserved word of the tables.
use Rattle.std.proofs.Common.{◌≡◌, ◌<◌, ◌≤◌, ℕ, ◌==◌, Bool, true, false, cond, not, ◌&&◌, ◌||◌, [], ◌∷◌, ◌++◌, length, take, refl, ap, sym, ◌∙◌, subst, arith, nat_lt}
use Rattle.std.proofs.Math.Seq.{take-append_seam, get_or-append_seam}
use Rattle.std.proofs.lemmas.Grind.{common_steps}
use Rattle.std.proofs.lemmas.List.{take-take, get_or-take}
use Rattle.std.specs.Bool.{nat_eq}
use Rattle.std.specs.Cmp.Lexicographic.{same_text}
use Rattle.std.specs.List.{list_all, list_any}
use Rattle.std.specs.Prelude.{slice_index}
use mathlib.Core.Logic.{inl, inr}
use Rattle.sw_lex.specs.declared.bytes.Class.TheVariants as class
use Rattle.sw_lex.specs.declared.token.TokenKind.{TokenKind}
use Rattle.sw_lex.specs.declared.token.TokenKind.TheVariants as k
use Rattle.sw_lex.specs.Bytes.{Text, is_in}
use Rattle.sw_lex.specs.Lexemes.{first}
use Rattle.sw_lex.specs.Tables.{Table, words, marks, is_same_text, kind_in, is_prefix_of, IsListed}
use Rattle.sw_layout.proofs.Starts.{equal, starts, may_follow, is_followed_by_most}

pub both : (s t : Bool) → (s && t) ≡ true → (s ≡ true) × (t ≡ true)
both true true h = (refl, refl)
both true false h = absurd (cc)
both false t h = absurd (cc)

-- ---- each entry of a table

-- each text of the table passes the test with its kind
abbrev pub all_entries : (Text → TokenKind → Bool) → Table → Bool
all_entries test [] = true
all_entries test (entry ∷ table) = test entry.0 entry.1 && all_entries test table

pub listed_passes : (test : Text → TokenKind → Bool) (table : Table) (text : Text) (kind : TokenKind) → all_entries test table ≡ true → IsListed table text kind → test text kind ≡ true
listed_passes test [] text kind h l = absurd l
listed_passes test (entry ∷ table) text kind h (inl l) =
    ap (λ (u : Text). test u kind) (sym l.0) ∙ ap (test entry.0) (sym l.1) ∙ (both (test entry.0 entry.1) (all_entries test table) h).0
listed_passes test (entry ∷ table) text kind h (inr l) = listed_passes test table text kind (both (test entry.0 entry.1) (all_entries test table) h).1 l

-- a text with its kind in the table, or as a name where it is not in the table
pub kind_passes : (test : Text → TokenKind → Bool) (table : Table) (text : Text) → all_entries test table ≡ true → test text k.Name ≡ true → test text (kind_in table text) ≡ true
kind_passes test [] text h named = named
kind_passes test (entry ∷ table) text h named =
    let two = both (test entry.0 entry.1) (all_entries test table) h in
    go two.0 (is_same_text text entry.0) refl (kind_passes test table text two.1 named)
  where
    go : test entry.0 entry.1 ≡ true → (t : Bool) → is_same_text text entry.0 ≡ t → test text (kind_in table text) ≡ true → test text (cond t entry.1 (kind_in table text)) ≡ true
    go here true e later = ap (λ (u : Text). test u entry.1) (same_text text entry.0 (sym e)) ∙ here
    go here false e later = later

-- ---- reserved words

words_start : all_entries (λ text kind. starts kind (first text)) words ≡ true
unfolding words
words_start = refl

-- a word begins with what begins one of its kind
pub word_starts : (text : Text) → is_in class.NameStart (first text) ≡ true → starts (kind_in words text) (first text) ≡ true
word_starts text h = kind_passes (λ u kind. starts kind (first u)) words text words_start h

words_followed : all_entries (λ text kind. is_followed_by_most kind) words ≡ true
unfolding words
words_followed = refl

pub word_followed : (text : Text) → is_followed_by_most (kind_in words text) ≡ true
word_followed text = kind_passes (λ u kind. is_followed_by_most kind) words text words_followed refl

-- ---- marks

marks_start : all_entries (λ text kind. starts kind (first text)) marks ≡ true
unfolding marks
marks_start = refl

pub mark_starts : (text : Text) (kind : TokenKind) → IsListed marks text kind → starts kind (first text) ≡ true
mark_starts text kind l = listed_passes (λ u its. starts its (first u)) marks text kind marks_start l

-- a byte of a mark: of ASCII, and no line's end
abbrev pub is_mark_byte : ℕ → Bool
is_mark_byte byte = nat_lt byte 128 && not (byte == 10)

marks_bytes : all_entries (λ text kind. nat_lt 0 (length text) && list_all is_mark_byte text) marks ≡ true
unfolding marks
marks_bytes = refl

pub mark_bytes : (text : Text) (kind : TokenKind) → IsListed marks text kind → (nat_lt 0 (length text) ≡ true) × (list_all is_mark_byte text ≡ true)
mark_bytes text kind l = both (nat_lt 0 (length text)) (list_all is_mark_byte text) (listed_passes (λ u its. nat_lt 0 (length u) && list_all is_mark_byte u) marks text kind marks_bytes l)

-- ---- no longer mark begins where one stands

-- the bytes with which longer marks of the table go on after a text
abbrev next_bytes : Table → Text → Text
next_bytes [] text = []
next_bytes (entry ∷ table) text = cond (nat_lt (length text) (length entry.0) && is_prefix_of text entry.0) (slice_index entry.0 (length text) ∷ next_bytes table text) (next_bytes table text)

pub same_self : (text : Text) → is_same_text text text ≡ true
same_self [] = refl
same_self (byte ∷ text) = ap (λ t. t && is_same_text text text) (one byte) ∙ same_self text
  where
    one : (byte : ℕ) → nat_eq byte byte ≡ true
    one byte = grind (arith, common_steps)

is_next : (table : Table) (text other : Text) (its : TokenKind) (byte : ℕ) → IsListed table other its → length text < length other → take (length text) other ≡ text → slice_index other (length text) ≡ byte
    → list_any (λ known. byte == known) (next_bytes table text) ≡ true
is_next [] text other its byte l longer prefix here = absurd l
is_next (entry ∷ table) text other its byte (inl l) longer prefix here =
    let long : nat_lt (length text) (length entry.0) ≡ true = subst (λ (u : Text). nat_lt (length text) (length u) ≡ true) (sym l.0) (grind (arith, common_steps)) in
    let fronts : is_prefix_of text entry.0 ≡ true = subst (λ (u : Text). is_prefix_of text u ≡ true) (sym l.0) (ap (λ (u : Text). is_same_text u text) prefix ∙ same_self text) in
    let found : slice_index entry.0 (length text) ≡ byte = ap (λ (u : Text). slice_index u (length text)) l.0 ∙ here in
    go (nat_lt (length text) (length entry.0) && is_prefix_of text entry.0) (next_bytes table text) (cc) found
  where
    go : (t : Bool) (more : Text) → t ≡ true → slice_index entry.0 (length text) ≡ byte → list_any (λ known. byte == known) (cond t (slice_index entry.0 (length text) ∷ more) more) ≡ true
    go true more e f = let eq : (byte == slice_index entry.0 (length text)) ≡ true = grind (arith, common_steps) in ap (λ t. t || list_any (λ known. byte == known) more) eq
    go false more e f = absurd (cc)
is_next (entry ∷ table) text other its byte (inr l) longer prefix here =
    go (nat_lt (length text) (length entry.0) && is_prefix_of text entry.0) (is_next table text other its byte l longer prefix here)
  where
    go : (t : Bool) → list_any (λ known. byte == known) (next_bytes table text) ≡ true → list_any (λ known. byte == known) (cond t (slice_index entry.0 (length text) ∷ next_bytes table text) (next_bytes table text)) ≡ true
    go true h = grind (arith, common_steps)
    go false h = h

-- none of them may follow the mark
none_follow : (kind : TokenKind) (byte : ℕ) (next : Text) → list_all (λ known. not (may_follow kind known)) next ≡ true → list_any (λ known. byte == known) next ≡ true → may_follow kind byte ≡ true → ⊥
none_follow kind byte [] h a f = absurd (cc)
none_follow kind byte (known ∷ next) h a f =
    let two = both (not (may_follow kind known)) (list_all (λ known. not (may_follow kind known)) next) h in
    go two.0 (λ later. none_follow kind byte next two.1 later f) (byte == known) refl a
  where
    go : not (may_follow kind known) ≡ true → (list_any (λ known. byte == known) next ≡ true → ⊥) → (t : Bool) → (byte == known) ≡ t → (t || list_any (λ known. byte == known) next) ≡ true → ⊥
    go p q true e a = let same : may_follow kind known ≡ true = ap (may_follow kind) (sym (equal byte known e)) ∙ f in let other : not (may_follow kind known) ≡ false = ap not same in absurd (cc)
    go p q false e a = q a

marks_stop : all_entries (λ text kind. list_all (λ known. not (may_follow kind known)) (next_bytes marks text)) marks ≡ true
unfolding marks
marks_stop = refl

pub prefix_is : (text bytes : Text) → is_prefix_of text bytes ≡ true → take (length text) bytes ≡ text
prefix_is text bytes h = same_text (take (length text) bytes) text (sym h)

-- the mark is the longest that begins here
pub longest : (text rest other : Text) (kind its : TokenKind) (byte : ℕ) → IsListed marks text kind → may_follow kind byte ≡ true → IsListed marks other its → is_prefix_of other (text ++ byte ∷ rest) ≡ true → length other ≤ length text
longest text rest other kind its byte l f o b = go (nat_lt (length text) (length other)) refl
  where
    go : (t : Bool) → nat_lt (length text) (length other) ≡ t → length other ≤ length text
    go false e = grind (arith, common_steps)
    go true e =
        let longer : length text < length other = grind (arith, common_steps) in
        let whole : take (length other) (text ++ byte ∷ rest) ≡ other = prefix_is other (text ++ byte ∷ rest) b in
        let prefix : take (length text) other ≡ text = ap (take (length text)) (sym whole) ∙ take-take (length text) (length other) (text ++ byte ∷ rest) (omega arith) ∙ take-append_seam text (byte ∷ rest) in
        let next : slice_index other (length text) ≡ byte = ap (λ (u : Text). slice_index u (length text)) (sym whole) ∙ get_or-take (length other) (text ++ byte ∷ rest) (length text) 0 longer ∙ get_or-append_seam text byte rest 0 in
        absurd (none_follow kind byte (next_bytes marks text) (listed_passes (λ u of. list_all (λ known. not (may_follow of known)) (next_bytes marks u)) marks text kind marks_stop l) (is_next marks text other its byte o longer prefix next) f)

-- ---- no comment begins where a mark stands

-- the first byte is `/` and the second is `/` or `*`, or may be
abbrev may_comment : Text → TokenKind → Bool
may_comment [] kind = true
may_comment (one ∷ []) kind = one == 47 && (may_follow kind 47 || may_follow kind 42)
may_comment (one ∷ two ∷ more) kind = one == 47 && (two == 47 || two == 42)

marks_comment : all_entries (λ text kind. not (may_comment text kind)) marks ≡ true
unfolding marks
marks_comment = refl

abbrev pub is_comment : Text → Bool
is_comment bytes = slice_index bytes 0 == 47 && (slice_index bytes 1 == 47 || slice_index bytes 1 == 42)

no_comment : (text rest : Text) (kind : TokenKind) (byte : ℕ) → not (may_comment text kind) ≡ true → may_follow kind byte ≡ true → is_comment (text ++ byte ∷ rest) ≡ false
no_comment [] rest kind byte h f = absurd (cc)
no_comment (one ∷ []) rest kind byte h f = go (one == 47) (byte == 47) (byte == 42) refl refl h
  where
    go : (s t u : Bool) → (byte == 47) ≡ t → (byte == 42) ≡ u → not (s && (may_follow kind 47 || may_follow kind 42)) ≡ true → (s && (t || u)) ≡ false
    go false t u e g h = refl
    go true false false e g h = refl
    go true true u e g h = let same : may_follow kind 47 ≡ true = ap (may_follow kind) (sym (equal byte 47 e)) ∙ f in absurd (let other : not (may_follow kind 47 || may_follow kind 42) ≡ false = ap (λ t. not (t || may_follow kind 42)) same in cc)
    go true false true e g h = let same : may_follow kind 42 ≡ true = ap (may_follow kind) (sym (equal byte 42 g)) ∙ f in absurd (grind (arith, common_steps))
no_comment (one ∷ two ∷ more) rest kind byte h f = grind (arith, common_steps)

pub mark_no_comment : (text rest : Text) (kind : TokenKind) (byte : ℕ) → IsListed marks text kind → may_follow kind byte ≡ true → is_comment (text ++ byte ∷ rest) ≡ false
mark_no_comment text rest kind byte l f = no_comment text rest kind byte (listed_passes (λ u its. not (may_comment u its)) marks text kind marks_comment l) f

-- ---- the mark `)`

abbrev is_right_paren : TokenKind → Bool
is_right_paren k.RightParen = true
is_right_paren kind = false

marks_paren : all_entries (λ text kind. not (first text == 41) || is_right_paren kind) marks ≡ true
unfolding marks
marks_paren = refl

paren_is : (kind : TokenKind) → is_right_paren kind ≡ true → kind ≡ k.RightParen
paren_is k.RightParen h = refl
paren_is kind h = absurd (cc)

pub paren_mark : (text : Text) (kind : TokenKind) → IsListed marks text kind → (first text == 41) ≡ true → kind ≡ k.RightParen
paren_mark text kind l e =
    let p : (not (first text == 41) || is_right_paren kind) ≡ true = listed_passes (λ u its. not (first u == 41) || is_right_paren its) marks text kind marks_paren l in
    paren_is kind (ap (λ t. not t || is_right_paren kind) (sym e) ∙ p)
