-- How many bytes of a text are characters, by its parts.
use Rattle.std.proofs.Common.{◌≡◌, ◌<◌, ◌≤◌, ℕ, zero, suc, ◌+◌, ◌-◌, Bool, true, false, cond, [], ◌∷◌, ◌++◌, length, take, drop, get_or, refl, ap, sym, ◌∙◌, subst, arith, nat_lt, length-append}
use Rattle.std.proofs.Math.Seq.{take-length, take-add, take-append-add, drop-append_seam}
use Rattle.std.proofs.lemmas.Grind.{common_steps}
use Rattle.std.proofs.lemmas.List.{take-append-drop, take-take, length-take, length-take-le, get_or-take}
use Rattle.std.proofs.lemmas.Str.{IsUtf8-append, IsUtf8-drop, IsUtf8-take, IsUtf8-nil, IsUtf8-from_is_utf8, is_utf8-from_IsUtf8, IsCharBoundary-from_take, IsCharBoundary-before_ascii, IsCharBoundary-after_ascii, utf8_valid_len-IsUtf8, utf8_valid_len-IsValidUpTo}
use Rattle.std.specs.Str.{IsUtf8, IsValidUpTo, IsCharBoundary, is_utf8}
use Rattle.std.specs.Str.Lossy.{utf8_valid_len, valid_len_up_to}
use mathlib.Core.Logic.{inl, inr}
use Rattle.sw_lex.specs.Bytes.{Text}
use Rattle.sw_lex.specs.Cut.{IsValidPrefix}
use Rattle.sw_lex.specs.Characters.{IsBoundary}

take_over : (n : ℕ) (z : Text) → length z ≤ n → take n z ≡ z
take_over zero [] h = refl
take_over zero (b ∷ z) h = absurd (omega arith)
take_over (suc n) [] h = refl
take_over (suc n) (b ∷ z) h = ap (λ u. b ∷ u) (take_over n z (omega arith))

-- ---- each text has such a number

abbrev IsLongest : Text → ℕ → ℕ → Type 0
IsLongest z most n = (n ≤ most) × IsUtf8 (take n z) × ((k : ℕ) → n < k → k ≤ most → IsUtf8 (take k z) → ⊥)

longest : (z : Text) (most : ℕ) → IsLongest z most (valid_len_up_to z most)
longest z zero = (omega arith, IsUtf8-nil, λ k a b. absurd (omega arith))
longest z (suc m) = go (is_utf8 (take (suc m) z)) refl (longest z m)
  where
    go : (t : Bool) → is_utf8 (take (suc m) z) ≡ t → IsLongest z m (valid_len_up_to z m) → IsLongest z (suc m) (cond t (suc m) (valid_len_up_to z m))
    go true e h = (omega arith, IsUtf8-from_is_utf8 (take (suc m) z) e, λ k a b. absurd (omega arith))
    go false e h = (omega (arith, h.0), h.1, λ k a b u. above k a b u (nat_lt m k) refl)
      where
        above : (k : ℕ) → valid_len_up_to z m < k → k ≤ suc m → IsUtf8 (take k z) → (t : Bool) → nat_lt m k ≡ t → ⊥
        above k a b u true f =
            let l : m < k = grind (arith, common_steps) in
            let same : k ≡ suc m = omega (arith, l) in
            let utf8_valid : is_utf8 (take (suc m) z) ≡ true = is_utf8-from_IsUtf8 (take (suc m) z) (subst (λ n. IsUtf8 (take n z)) same u) in
            absurd (cc)
        above k a b u false f = let l : k ≤ m = grind (arith, common_steps) in h.2 k a l u

pub valid_is : (z : Text) → IsValidPrefix z (utf8_valid_len z)
unfolding utf8_valid_len
valid_is z = go (nat_lt (utf8_valid_len z) (length z)) refl
  where
    l : IsLongest z (length z) (utf8_valid_len z)
    l = longest z (length z)

    go : (t : Bool) → nat_lt (utf8_valid_len z) (length z) ≡ t → IsValidPrefix z (utf8_valid_len z)
    go true e = let short : utf8_valid_len z < length z = grind (arith, common_steps) in
        inr (record { short = short; front = l.1; longest = λ k a u. over k a u (nat_lt (length z) k) refl })
      where
        over : (k : ℕ) → utf8_valid_len z < k → IsUtf8 (take k z) → (t : Bool) → nat_lt (length z) k ≡ t → ⊥
        over k a u true f =
            let big : length z ≤ k = grind (arith, common_steps) in
            let short : utf8_valid_len z < length z = grind (arith, common_steps) in
            l.2 (length z) short (omega arith) (subst IsUtf8 (take_over k z big ∙ sym (take-length z)) u)
        over k a u false f = l.2 k a (grind (arith, common_steps)) u
    go false e =
        let same : utf8_valid_len z ≡ length z = let big : length z ≤ utf8_valid_len z = grind (arith, common_steps) in omega (arith, big, l.0) in
        inl (same, subst IsUtf8 (ap (λ n. take n z) same ∙ take-length z) l.1)

-- and one alone
pub valid_len_of : (z : Text) (n : ℕ) → IsValidPrefix z n → utf8_valid_len z ≡ n
valid_len_of z n (inl g) = utf8_valid_len-IsUtf8 z g.1 ∙ sym g.0
valid_len_of z n (inr v) = utf8_valid_len-IsValidUpTo z n v

-- the first so many are characters
pub valid_len_is : (z : Text) (n : ℕ) → IsValidPrefix z n → IsUtf8 (take n z) × (n ≤ length z)
valid_len_is z n (inl g) = (subst IsUtf8 (sym (ap (λ k. take k z) g.0 ∙ take-length z)) g.1, omega (arith, g.0))
valid_len_is z n (inr v) = (v.front, omega (arith, v.short))

-- ---- characters, then a text

rest_valid : (prefix rest : Text) → IsUtf8 prefix → IsUtf8 (prefix ++ rest) → IsUtf8 rest
rest_valid prefix rest u w =
    let z : Text = prefix ++ rest in
    let len = length-append prefix rest in
    let first : take (length prefix) (prefix ++ rest) ≡ prefix = ap (λ n. take n (prefix ++ rest)) (sym zero_more) ∙ take-append-add prefix rest 0 ∙ nothing prefix in
    let boundary = IsCharBoundary-from_take (prefix ++ rest) (length prefix) w (omega (arith, len)) (subst IsUtf8 (sym first) u) in
    subst IsUtf8 (drop-append_seam prefix rest) (IsUtf8-drop (prefix ++ rest) (length prefix) w boundary)
  where
    zero_more : length prefix + 0 ≡ length prefix
    zero_more = omega arith

    nothing : (z : Text) → z ++ take 0 rest ≡ z
    nothing [] = refl
    nothing (b ∷ z) = ap (λ u. b ∷ u) (nothing z)

pub valid_append : (prefix rest : Text) (n : ℕ) → IsUtf8 prefix → IsValidPrefix rest n → IsValidPrefix (prefix ++ rest) (length prefix + n)
valid_append prefix rest n u (inl g) = inl (omega (arith, g.0, length-append prefix rest), IsUtf8-append prefix rest u g.1)
valid_append prefix rest n u (inr v) = inr (record {
  short = omega (arith, v.short, length-append prefix rest);
  front = subst IsUtf8 (sym (take-append-add prefix rest n)) (IsUtf8-append prefix (take n rest) u v.front);
  longest = λ k a w.
      let more : length prefix + (k - length prefix) ≡ k = omega (arith, a) in
      let parts : take k (prefix ++ rest) ≡ prefix ++ take (k - length prefix) rest = ap (λ m. take m (prefix ++ rest)) (sym more) ∙ take-append-add prefix rest (k - length prefix) in
      v.longest (k - length prefix) (omega (arith, a)) (rest_valid prefix (take (k - length prefix) rest) u (subst IsUtf8 parts w));
})

-- the number of a text is that of its prefix and that of the rest
pub valid_len_more : (z : Text) (n : ℕ) → IsUtf8 (take n z) → n ≤ length z → utf8_valid_len z ≡ n + utf8_valid_len (drop n z)
valid_len_more z n u l =
    let whole : IsValidPrefix (take n z ++ drop n z) (length (take n z) + utf8_valid_len (drop n z)) = valid_append (take n z) (drop n z) (utf8_valid_len (drop n z)) u (valid_is (drop n z)) in
    let same : IsValidPrefix z (length (take n z) + utf8_valid_len (drop n z)) = subst (λ (w : Text). IsValidPrefix w (length (take n z) + utf8_valid_len (drop n z))) (take-append-drop n z) whole in
    valid_len_of z (length (take n z) + utf8_valid_len (drop n z)) same ∙ ap (λ m. m + utf8_valid_len (drop n z)) (length-take-le n z l)

-- ---- a byte that is no part of a character, before a boundary

utf8_at_boundary : (z : Text) (size k : ℕ) → IsBoundary z size → size ≤ length z → size < k → IsUtf8 (take k z) → IsUtf8 (take size z)
utf8_at_boundary z size k (inl e) l a u = subst IsUtf8 (take_over k z (omega (arith, e, a)) ∙ sym (ap (λ n. take n z) e ∙ take-length z)) u
utf8_at_boundary z size k (inr (inl s)) l a u =
    let y : Text = take k z in
    let len = length-take k z in
    let same : get_or (take k z) size 0 ≡ get_or z size 0 = get_or-take k z size 0 a in
    let char_boundary = IsCharBoundary-before_ascii (take k z) size (omega (arith, len, s.0, a)) (omega (arith, same, s.1)) in
    subst IsUtf8 (take-take size k z (omega (arith, a))) (IsUtf8-take (take k z) size u char_boundary)
utf8_at_boundary z size k (inr (inr s)) l a u =
    let len = length-take k z in
    let same : get_or (take k z) (size - 1) 0 ≡ get_or z (size - 1) 0 = get_or-take k z (size - 1) 0 (omega (arith, a)) in
    let char_boundary = IsCharBoundary-after_ascii (take k z) (size - 1) u (omega (arith, len, s.0, a, l)) (omega (arith, same, s.1)) in
    let there : IsCharBoundary (take k z) size = subst (λ n. IsCharBoundary (take k z) n) (omega (arith, s.0)) char_boundary in
    subst IsUtf8 (take-take size k z (omega (arith, a))) (IsUtf8-take (take k z) size u there)

pub bad_before_boundary : (z : Text) (size n : ℕ) → size ≤ length z → IsBoundary z size → IsValidUpTo (take size z) n → IsValidUpTo z n
bad_before_boundary z size n l boundary v =
    let len = length-take-le size z l in
    let within : n < size = omega (arith, v.short, len) in
    record {
      short = omega (arith, within, l);
      front = subst IsUtf8 (take-take n size z (omega (arith, within))) v.front;
      longest = λ k a u. over k a u (nat_lt size k) refl;
    }
  where
    over : (k : ℕ) → n < k → IsUtf8 (take k z) → (t : Bool) → nat_lt size k ≡ t → ⊥
    over k a u true f =
        let big : size < k = grind (arith, common_steps) in
        let len = length-take-le size z l in
        v.longest size (omega (arith, v.short, len)) (subst IsUtf8 (sym (take-take size size z (omega arith))) (utf8_at_boundary z size k boundary l big u))
    over k a u false f = let small : k ≤ size = grind (arith, common_steps) in
        v.longest k a (subst IsUtf8 (sym (take-take k size z small)) u)

-- ---- the prefix so far

-- bytes after those that are characters
pub bad_ahead : (source : Text) (at n : ℕ) → IsUtf8 (take at source) → at ≤ length source → IsValidUpTo (drop at source) n → IsValidUpTo source (at + n)
bad_ahead source at n u l v = let len = length-take-le at source l in
    subst (λ m. IsValidUpTo source m) (ap (λ m. m + n) len)
    (subst (λ (z : Text). IsValidUpTo z (length (take at source) + n)) (take-append-drop at source) (only_bad (valid_append (take at source) (drop at source) n u (inr v)) v))
  where
    only_bad : IsValidPrefix (take at source ++ drop at source) (length (take at source) + n) → IsValidUpTo (drop at source) n → IsValidUpTo (take at source ++ drop at source) (length (take at source) + n)
    only_bad (inr w) v = w
    only_bad (inl g) v = absurd (omega (arith, g.0, length-append (take at source) (drop at source), v.short))

pub prefix_more : (source : Text) (at n : ℕ) → IsUtf8 (take at source) → IsUtf8 (take n (drop at source)) → IsUtf8 (take (at + n) source)
prefix_more source at n u w = subst IsUtf8 (sym (take-add at n source)) (IsUtf8-append (take at source) (take n (drop at source)) u w)

-- ---- a part of a text

pub part_valid : (z : Text) (size n : ℕ) → IsValidPrefix (take size z) n → n ≡ size → IsUtf8 (take size z)
part_valid z size n (inl g) e = g.1
part_valid z size n (inr v) e = absurd (omega (arith, v.short, length-take size z, e))

pub part_bad : (z : Text) (size n : ℕ) → size ≤ length z → IsValidPrefix (take size z) n → (n ≡ size → ⊥) → IsValidUpTo (take size z) n × (n < size)
part_bad z size n l (inl g) other = absurd (other (g.0 ∙ length-take-le size z l))
part_bad z size n l (inr v) other = (v, omega (arith, v.short, length-take-le size z l))
