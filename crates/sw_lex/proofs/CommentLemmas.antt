-- A nested comment, as the code reads it, is what the relation says.
use Rattle.std.proofs.Common.{◌≡◌, ◌≤◌, ℕ, zero, suc, ◌+◌, ◌-◌, ◌==◌, Bool, true, false, cond, ◌&&◌, ◌||◌, Option, Some, None, [], ◌∷◌, length, drop, refl, ap, sym, ◌∙◌, subst, arith}
use Rattle.std.proofs.lemmas.Grind.{common_steps}
use Rattle.std.specs.Prelude.{slice_index}
use Rattle.sw_lex.specs.Bytes.{Text}
use Rattle.sw_lex.specs.Comments.{Closes, ends, passes, nests, is_comment_mark}
use Rattle.sw_lex.specs.Matching.{comment_len}
use Rattle.sw_lex.proofs.PieceLemmas.{both, equal}

-- the rest is shorter
pub closes_within : {z rest : Text} → Closes z rest → length rest + 2 ≤ length z
closes_within ends = omega arith
closes_within (passes e h) = omega (arith, closes_within h)
closes_within (nests h k) = omega (arith, closes_within h, closes_within k)

keep : (t : Bool) (a b x : Option ℕ) → t ≡ true → a ≡ x → cond t a b ≡ x
keep true a b x h e = e
keep false a b x h e = absurd (cc)

skip : (t : Bool) (a b x : Option ℕ) → t ≡ false → b ≡ x → cond t a b ≡ x
skip true a b x h e = absurd (cc)
skip false a b x h e = e

no_mark : (s t : Bool) → (s || t) ≡ false → (s ≡ false) × (t ≡ false)
no_mark true t h = absurd (cc)
no_mark false true h = absurd (cc)
no_mark false false h = (refl, refl)

-- ---- a comment is read by the code

-- after a comment that closes, where so many are open still
abbrev goes_on : ℕ → ℕ → Text → Option ℕ
goes_on zero size rest = Some size
goes_on (suc depth) size rest = comment_len 0 (suc depth) size rest

moved_on : (depth n m : ℕ) (rest : Text) → n ≡ m → goes_on depth n rest ≡ goes_on depth m rest
moved_on depth n m rest e = ap (λ k. goes_on depth k rest) e

closing : (depth before : ℕ) (rest : Text) → comment_len 0 (suc depth) before (42 ∷ 47 ∷ rest) ≡ goes_on depth (before + 2) rest
closing zero before rest = refl
closing (suc d) before rest =
    let other : (suc (suc d) == 1) ≡ false = grind (arith, common_steps) in
    let less : suc (suc d) - 1 ≡ suc d = omega arith in
    let two : before + 1 + 1 ≡ before + 2 = omega arith in
    skip (suc (suc d) == 1) (Some (before + 2)) (comment_len 0 (suc (suc d) - 1) (before + 1 + 1) rest) _ other
    (ap (λ n. comment_len 0 n (before + 1 + 1) rest) less ∙ ap (λ n. comment_len 0 (suc d) n rest) two)

pub closes_read : {z rest : Text} → Closes z rest → (depth before : ℕ) → comment_len 0 (suc depth) before z ≡ goes_on depth (before + (length z - length rest)) rest
closes_read (ends {rest = rest}) depth before = closing depth before rest ∙ moved_on depth (before + 2) _ rest (omega arith)
closes_read (passes {byte = b} {bytes = z} {rest = rest} e h) depth before =
    let none = no_mark (b == 47 && slice_index z 0 == 42) (b == 42 && slice_index z 0 == 47) e in
    skip (b == 42 && slice_index z 0 == 47) _ _ _ none.1 (skip (b == 47 && slice_index z 0 == 42) _ _ _ none.0
    (closes_read h depth (before + 1) ∙ moved_on depth (before + 1 + (length z - length rest)) _ rest (omega (arith, closes_within h))))
closes_read (nests {bytes = z} {more = more} {rest = rest} h k) depth before =
    let deeper : suc depth + 1 ≡ suc (suc depth) = omega arith in
    ap (λ n. comment_len 0 n (before + 1 + 1) z) deeper ∙ closes_read h (suc depth) (before + 1 + 1) ∙ closes_read k depth (before + 1 + 1 + (length z - length more))
    ∙ moved_on depth (before + 1 + 1 + (length z - length more) + (length more - length rest)) _ rest (omega (arith, closes_within h, closes_within k))

pub closes_len : {z rest : Text} → Closes z rest → comment_len 0 1 2 z ≡ Some (2 + (length z - length rest))
closes_len h = closes_read h 0 2

-- ---- what the code reads is a comment

-- so many comments more close
abbrev CloseAll : ℕ → Text → Text → Type 0
CloseAll zero z rest = Closes z rest
CloseAll (suc depth) z rest = (more : Text) × Closes z more × CloseAll depth more rest

abbrev pub CloseFact : ℕ → ℕ → ℕ → Text → Option ℕ → Type 0
CloseFact left depth before z None = Unit {0}
CloseFact left depth before z (Some size) = (rest : Text) × CloseAll depth (drop left z) rest × (size + length rest ≡ before + length z)

pick : (P : Option ℕ → Type 0) (t : Bool) (a b : Option ℕ) → (t ≡ true → P a) → (t ≡ false → P b) → P (cond t a b)
pick P true a b f g = f refl
pick P false a b f g = g refl

pair_of : (b c d : ℕ) (z : Text) → (c ≡ 0 → ⊥) → (b == d && slice_index z 0 == c) ≡ true → b ∷ z ≡ d ∷ c ∷ drop 1 z
pair_of b c d [] some h = absurd (let two = both (b == d) (0 == c) h in some (sym (equal 0 c two.1)))
pair_of b c d (e ∷ z) some h = let two = both (b == d) (e == c) h in ap (λ n. n ∷ e ∷ z) (equal b d two.0) ∙ ap (λ n. d ∷ n ∷ z) (equal e c two.1)

star_zero : ◌≡◌ {A = ℕ} 42 0 → ⊥
star_zero e = omega arith

slash_zero : ◌≡◌ {A = ℕ} 47 0 → ⊥
slash_zero e = omega arith

passed_fact : (left depth before b : ℕ) (z : Text) (r : Option ℕ) → CloseFact left depth (before + 1) z r → CloseFact (suc left) depth before (b ∷ z) r
passed_fact left depth before b z None f = tt
passed_fact left depth before b z (Some size) f = (f.0, f.1, omega (arith, f.2))

closed_fact : (depth before b : ℕ) (z : Text) (r : Option ℕ) → b ∷ z ≡ 42 ∷ 47 ∷ drop 1 z → CloseFact 1 depth (before + 1) z r → CloseFact 0 (suc depth) before (b ∷ z) r
closed_fact depth before b z None e f = tt
closed_fact depth before b z (Some size) e f = (f.0, (drop 1 z, subst (λ y. Closes y (drop 1 z)) (sym e) ends, f.1), omega (arith, f.2))

last_fact : (before b : ℕ) (z : Text) → b ∷ z ≡ 42 ∷ 47 ∷ drop 1 z → CloseFact 0 0 before (b ∷ z) (Some (before + 2))
last_fact before b z e = let len : length (b ∷ z) ≡ length (42 ∷ 47 ∷ drop 1 z) = ap length e in
    (drop 1 z, subst (λ y. Closes y (drop 1 z)) (sym e) ends, omega (arith, len))

opened_fact : (depth before b : ℕ) (z : Text) (r : Option ℕ) → b ∷ z ≡ 47 ∷ 42 ∷ drop 1 z → CloseFact 1 (suc depth) (before + 1) z r → CloseFact 0 depth before (b ∷ z) r
opened_fact depth before b z None e f = tt
opened_fact zero before b z (Some size) e f = (f.0, subst (λ y. Closes y f.0) (sym e) (nests f.1.1 f.1.2), omega (arith, f.2))
opened_fact (suc depth) before b z (Some size) e f = (f.0, (f.1.2.0, subst (λ y. Closes y f.1.2.0) (sym e) (nests f.1.1 f.1.2.1), f.1.2.2), omega (arith, f.2))

byte_fact : (depth before b : ℕ) (z : Text) (r : Option ℕ) → is_comment_mark b z ≡ false → CloseFact 0 depth (before + 1) z r → CloseFact 0 depth before (b ∷ z) r
byte_fact depth before b z None e f = tt
byte_fact zero before b z (Some size) e f = (f.0, passes e f.1, omega (arith, f.2))
byte_fact (suc depth) before b z (Some size) e f = (f.0, (f.1.0, passes e f.1.1, f.1.2), omega (arith, f.2))

no_marks : (s t : Bool) → s ≡ false → t ≡ false → (t || s) ≡ false
no_marks s t a b = cc

closing_fact : (depth before b : ℕ) (z : Text) → b ∷ z ≡ 42 ∷ 47 ∷ drop 1 z → ((left depth : ℕ) → CloseFact left depth (before + 1) z (comment_len left (suc depth) (before + 1) z))
    → CloseFact 0 depth before (b ∷ z) (cond (suc depth == 1) (Some (before + 2)) (comment_len 1 (suc depth - 1) (before + 1) z))
closing_fact zero before b z e again = last_fact before b z e
closing_fact (suc d) before b z e again =
    let less : suc d ≡ suc (suc d) - 1 = omega arith in
    let other : (suc (suc d) == 1) ≡ false = grind (arith, common_steps) in
    pick (CloseFact 0 (suc d) before (b ∷ z)) (suc (suc d) == 1) (Some (before + 2)) (comment_len 1 (suc (suc d) - 1) (before + 1) z) (λ t. absurd (cc))
    (λ _. closed_fact d before b z (comment_len 1 (suc (suc d) - 1) (before + 1) z) e (subst (λ n. CloseFact 1 d (before + 1) z (comment_len 1 n (before + 1) z)) less (again 1 d)))

step_fact : (depth before b : ℕ) (z : Text) → ((left depth : ℕ) → CloseFact left depth (before + 1) z (comment_len left (suc depth) (before + 1) z))
    → CloseFact 0 depth before (b ∷ z) (comment_len 0 (suc depth) before (b ∷ z))
step_fact depth before b z again =
    let deeper : suc (suc depth) ≡ suc depth + 1 = omega arith in
    pick (CloseFact 0 depth before (b ∷ z)) (b == 42 && slice_index z 0 == 47) _ _ (λ q. closing_fact depth before b z (pair_of b 47 42 z slash_zero q) again) (λ not_close.
    pick (CloseFact 0 depth before (b ∷ z)) (b == 47 && slice_index z 0 == 42) (comment_len 1 (suc depth + 1) (before + 1) z) (comment_len 0 (suc depth) (before + 1) z)
    (λ q. opened_fact depth before b z _ (pair_of b 42 47 z star_zero q) (subst (λ n. CloseFact 1 (suc depth) (before + 1) z (comment_len 1 n (before + 1) z)) deeper (again 1 (suc depth))))
    (λ not_open. byte_fact depth before b z _ (no_marks (b == 42 && slice_index z 0 == 47) (b == 47 && slice_index z 0 == 42) not_close not_open) (again 0 depth)))

close_fact : (left depth before : ℕ) (z : Text) → CloseFact left depth before z (comment_len left (suc depth) before z)
close_fact left depth before [] = tt
close_fact (suc left) depth before (b ∷ z) = passed_fact left depth before b z (comment_len left (suc depth) (before + 1) z) (close_fact left depth (before + 1) z)
close_fact zero depth before (b ∷ z) = step_fact depth before b z (λ left depth. close_fact left depth (before + 1) z)

-- where the code finds the length of a comment after its `/*`, the comment closes, and the rest is what it leaves
pub comment_fact : (z : Text) → CloseFact 0 0 2 z (comment_len 0 1 2 z)
comment_fact z = close_fact 0 0 2 z
