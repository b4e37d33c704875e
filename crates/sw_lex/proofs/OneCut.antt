-- A source has one cut at most.
use Rattle.std.proofs.Common.{◌≡◌, ◌<◌, ◌≤◌, ℕ, suc, ◌-◌, Bool, true, false, List, [], ◌∷◌, length, take, drop, refl, ap, sym, ◌∙◌, subst, arith, nat_lt}
use Rattle.std.proofs.lemmas.Grind.{common_steps}
use mathlib.Core.Logic.{inl, inr}
use Rattle.std.specs.Str.{IsUtf8, IsValidUpTo}
use Rattle.sw_lex.specs.declared.token.Token.{Token as SourceToken}
use Rattle.sw_lex.specs.declared.lexemes.Lexeme.{Lexeme}
use Rattle.sw_lex.specs.declared.lexemes.Lexeme.TheVariants.{End, Gap, Token, Malformed, Unterminated}
use Rattle.sw_lex.specs.Bytes.{Text}
use Rattle.sw_lex.specs.Lexemes.{BeginsWith, size_of, IsStop}
use Rattle.sw_lex.specs.Cut.{Opens, Cut, CutOf, after, closes, is_inside, IsValidPrefix}
use Rattle.sw_lex.specs.Tokens.{CutsInto, end_place, start}
use Rattle.sw_lex.specs.Emitted.{tokens_of}
use Rattle.sw_lex.proofs.MatchingLemmas.{read}
use Rattle.sw_lex.proofs.EmitLemmas.{tokens_emitted}

-- what stops a cut has no bytes
stop_empty : (x : Lexeme) → IsStop x → size_of x ≡ 0
stop_empty End h = refl
stop_empty (Gap n) h = absurd h
stop_empty (Token kind n) h = absurd h
stop_empty Malformed h = refl
stop_empty Unterminated h = refl

-- bytes begin with one lexeme alone
one_begin : (opens : Opens) (valid : ℕ) (z : Text) (x y : Lexeme) → BeginsWith (is_inside opens) (closes opens) valid z x → BeginsWith (is_inside opens) (closes opens) valid z y → x ≡ y
one_begin opens valid z x y h h' = sym (read (is_inside opens) (closes opens) valid z x h) ∙ read (is_inside opens) (closes opens) valid z y h'

-- the same bytes are cut in one way
one_cut : (opens : Opens) (valid : ℕ) (z : Text) (xs ys : List Lexeme) (e f : Lexeme) → Cut opens valid z xs e → Cut opens valid z ys f → (xs ≡ ys) × (e ≡ f)
one_cut opens valid z [] [] e f h h' = (refl, one_begin opens valid z e f h.0 h'.0)
one_cut opens valid z [] (y ∷ ys) e f h h' =
    let same : e ≡ y = one_begin opens valid z e y h.0 h'.0 in
    let none : size_of e ≡ 0 = stop_empty e h.1 in
    let some : 0 < size_of y = h'.1 in
    absurd (omega (arith, ap size_of same))
one_cut opens valid z (x ∷ xs) [] e f h h' =
    let same : x ≡ f = one_begin opens valid z x f h.0 h'.0 in
    let none : size_of f ≡ 0 = stop_empty f h'.1 in
    let some : 0 < size_of x = h.1 in
    absurd (omega (arith, ap size_of same))
one_cut opens valid z (x ∷ xs) (y ∷ ys) e f h h' =
    let same : y ≡ x = one_begin opens valid z y x h'.0 h.0 in
    let rest : Cut (after opens x) (valid - size_of x) (drop (size_of x) z) ys f = subst (λ (w : Lexeme). Cut (after opens w) (valid - size_of w) (drop (size_of w) z) ys f) same (h'.2) in
    let p = one_cut (after opens x) (valid - size_of x) (drop (size_of x) z) xs ys e f h.2 rest in
    (cc (p.0, same), p.1)

take_length : (z : Text) → take (length z) z ≡ z
take_length [] = refl
take_length (b ∷ z) = let e : length (b ∷ z) ≡ suc (length z) = omega arith in ap (λ n. take n (b ∷ z)) e ∙ ap (λ u. b ∷ u) (take_length z)

-- a text that is UTF-8 has no byte that is not
pub not_short : (source : Text) (n : ℕ) → IsUtf8 source → IsValidUpTo source n → ⊥
not_short source n u v = v.longest (length source) v.short (rw take_length u)

-- a text has one first byte that is not UTF-8
pub one_length : (source : Text) (n m : ℕ) → IsValidUpTo source n → IsValidUpTo source m → n ≡ m
one_length source n m v w = go (nat_lt n m) (nat_lt m n) refl refl
  where
    go : (s t : Bool) → nat_lt n m ≡ s → nat_lt m n ≡ t → n ≡ m
    go true t e f = let l : n < m = grind (arith, common_steps) in absurd (v.longest m l w.front)
    go false true e f = let l : m < n = grind (arith, common_steps) in absurd (w.longest n l v.front)
    go false false e f = let a : m ≤ n = grind (arith, common_steps) in let b : n ≤ m = grind (arith, common_steps) in omega arith

one_valid : (source : Text) (n m : ℕ) → IsValidPrefix source n → IsValidPrefix source m → n ≡ m
one_valid source n m (inl a) (inl b) = a.0 ∙ sym b.0
one_valid source n m (inl a) (inr b) = absurd (not_short source m a.1 b)
one_valid source n m (inr a) (inl b) = absurd (not_short source n b.1 a)
one_valid source n m (inr a) (inr b) = one_length source n m a b

-- two cuts of a source have the same items and the same stop
pub one_whole : (source : Text) (valid : ℕ) (xs : List Lexeme) (e : Lexeme) → IsValidPrefix source valid → Cut [] valid source xs e → (whole : CutOf source) → (whole.items ≡ xs) × (whole.stop ≡ e)
one_whole source valid xs e g h whole =
    let same : whole.valid ≡ valid = one_valid source whole.valid valid whole.prefix g in
    let cut : Cut [] valid source whole.items whole.stop = subst (λ (n : ℕ). Cut [] n source whole.items whole.stop) same whole.cut in
    one_cut [] valid source whole.items xs whole.stop e cut h

-- a source is cut into one list of tokens at most
pub one_list : (source : Text) (valid : ℕ) (xs : List Lexeme) (e : Lexeme) → IsValidPrefix source valid → Cut [] valid source xs e → (tokens : List SourceToken) → CutsInto source tokens → tokens ≡ tokens_of source xs
one_list source valid xs e g h tokens k =
    let p = one_whole source valid xs e g h k.whole in
    tokens_emitted (end_place source) start k.whole.valid source k.whole.items tokens k.same ∙ ap (λ items. tokens_of source items) p.0
