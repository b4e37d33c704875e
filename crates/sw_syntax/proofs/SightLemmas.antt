-- Tokens with a line break before one of them, at a place: what the code sees there.
use Rattle.std.proofs.Common.{◌≡◌, ◌<◌, ◌≤◌, ℕ, zero, suc, ◌+◌, Bool, true, false, cond, nat_eq, if◌then◌else◌, List, [], ◌∷◌, drop, length, slice_get, slice_index_or, Option, Some, None, refl, sym, ap, ◌∙◌, subst, arith}
use Rattle.std.proofs.lemmas.Bool.{eqb-true, eqb-false}
use Rattle.std.proofs.lemmas.Option.{slice_get_within, get_or_from_slice_get}
use Rattle.std.proofs.Math.Seq.{drop-cons}
use Rattle.sw_lex.specs.declared.token.TokenKind.{TokenKind}
use Rattle.sw_lex.specs.declared.token.TokenKind.TheVariants as k
use Rattle.sw_lex.specs.declared.token.Token.{Token}
use Rattle.sw_grammar.specs.Reading.{Out, got, rejected, unexpected, one, at_first}
use Rattle.sw_syntax.specs.declared.class.Class.{Class}
use Rattle.sw_syntax.specs.declared.class.Class.TheVariants as class
use Rattle.sw_syntax.specs.declared.class.Sight.{Sight}
use Rattle.sw_syntax.specs.declared.class.Test.{Test}
use Rattle.sw_syntax.specs.declared.class.Test.TheVariants as test
use Rattle.sw_syntax.specs.Tokens.{Sighted, Face, same_kind, class_in, class_of_name, is_next, touches_next, sighted, seen}
use Rattle.sw_syntax.specs.Sights.{passes, token_face, first_class}
use Rattle.sw_syntax.specs.Broken.{after_break, broken_at, broken_if}
use Rattle.sw_syntax.specs.ReadResults.{first_sight}
use Rattle.sw_syntax.specs.Tests.{is}
use Rattle.sw_syntax.proofs.Integers.{integer_kind, kind_integer}

next_place : (at : ℕ) → suc at ≡ at + 1
next_place at = omega arith

look_same : (at : ℕ) (ts : List Token) (d : Token) → at < length ts → drop at (broken_at at ts) ≡ after_break (slice_index_or ts at d) ∷ drop (suc at) (broken_at at ts)
look_same at [] d l = absurd (omega (arith, l))
look_same zero (t ∷ ts) d l = refl
look_same (suc at) (t ∷ ts) d l = look_same at ts d (omega (arith, l))

look_other : (b at : ℕ) (ts : List Token) (d : Token) → (at ≡ b → ⊥) → at < length ts → drop at (broken_at b ts) ≡ slice_index_or ts at d ∷ drop (suc at) (broken_at b ts)
look_other b at [] d n l = absurd (omega (arith, l))
look_other zero zero (t ∷ ts) d n l = absurd (n refl)
look_other (suc b) zero (t ∷ ts) d n l = refl
look_other zero (suc at) (t ∷ ts) d n l = drop-cons ts at d (omega (arith, l))
look_other (suc b) (suc at) (t ∷ ts) d n l = look_other b at ts d (λ e. n (ap suc e)) (omega (arith, l))

look_suc : (b at : ℕ) (ts : List Token) (d : Token) → at < length ts → drop at (broken_at b ts) ≡ broken_if (nat_eq at b) (slice_index_or ts at d) ∷ drop (suc at) (broken_at b ts)
look_suc b at ts d l = go (nat_eq at b) refl
  where
    go : (x : Bool) → nat_eq at b ≡ x → drop at (broken_at b ts) ≡ broken_if x (slice_index_or ts at d) ∷ drop (suc at) (broken_at b ts)
    go true e = subst (λ b. drop at (broken_at b ts) ≡ after_break (slice_index_or ts at d) ∷ drop (suc at) (broken_at b ts)) (eqb-true at b e) (look_same at ts d l)
    go false e = look_other b at ts d (eqb-false at b e) l

-- the token at a place, and those after it
pub look : (b at : ℕ) (ts : List Token) (d : Token) → at < length ts → drop at (broken_at b ts) ≡ broken_if (nat_eq at b) (slice_index_or ts at d) ∷ drop (at + 1) (broken_at b ts)
look b at ts d l = subst (λ n. drop at (broken_at b ts) ≡ broken_if (nat_eq at b) (slice_index_or ts at d) ∷ drop n (broken_at b ts)) (next_place at) (look_suc b at ts d l)

pub broken_length : (b : ℕ) (ts : List Token) → length (broken_at b ts) ≡ length ts
broken_length b [] = refl
broken_length zero (t ∷ ts) = refl
broken_length (suc b) (t ∷ ts) = ap suc (broken_length b ts)

pub sighted_length : (ts : List Token) → length (sighted ts) ≡ length ts
sighted_length [] = refl
sighted_length (t ∷ ts) = ap suc (sighted_length ts)

pub source_length : (b : ℕ) (ts : List Token) → length (sighted (broken_at b ts)) ≡ length ts
source_length b ts = sighted_length (broken_at b ts) ∙ broken_length b ts

pub unbroken : (ts : List Token) → broken_at (length ts) ts ≡ ts
unbroken [] = refl
unbroken (t ∷ ts) = ap (λ r. t ∷ r) (unbroken ts)

pub drop_sighted : (at : ℕ) (ts : List Token) → drop at (sighted ts) ≡ sighted (drop at ts)
drop_sighted zero ts = refl
drop_sighted (suc at) [] = refl
drop_sighted (suc at) (t ∷ ts) = drop_sighted at ts

drop_past : {A : Type 0} (at : ℕ) (xs : List A) → length xs ≤ at → drop at xs ≡ []
drop_past zero [] l = refl
drop_past (suc at) [] l = refl
drop_past zero (x ∷ xs) l = absurd (omega (arith, l))
drop_past (suc at) (x ∷ xs) l = drop_past at xs (omega (arith, l))

pub past : (b at : ℕ) (ts : List Token) → length ts ≤ at → drop at (broken_at b ts) ≡ []
past b at ts l = drop_past at (broken_at b ts) (subst (λ n. n ≤ at) (sym (broken_length b ts)) l)

pub past_sight : (b at : ℕ) (ts : List Token) → length ts ≤ at → drop at (sighted (broken_at b ts)) ≡ []
past_sight b at ts l = drop_past at (sighted (broken_at b ts)) (subst (λ n. n ≤ at) (sym (source_length b ts)) l)

same_kind_broken : (x : Bool) (t : Token) → (broken_if x t).kind ≡ t.kind
same_kind_broken true t = refl
same_kind_broken false t = refl

same_text_broken : (x : Bool) (t : Token) → (broken_if x t).text ≡ t.text
same_text_broken true t = refl
same_text_broken false t = refl

-- ---- the next token

pub next_kind : (kind : TokenKind) (b at : ℕ) (ts : List Token) (d : Token) → at < length ts → same_kind (slice_index_or ts at d).kind kind ≡ is_next kind (drop at (broken_at b ts))
next_kind kind b at ts d l = sym (ap (λ r. is_next kind r) (look b at ts d l) ∙ ap (λ x. same_kind x kind) (same_kind_broken (nat_eq at b) (slice_index_or ts at d)))

pub next_none : (kind : TokenKind) (b at : ℕ) (ts : List Token) → length ts ≤ at → false ≡ is_next kind (drop at (broken_at b ts))
next_none kind b at ts l = sym (ap (λ r. is_next kind r) (past b at ts l))

pub next_touches : (b at : ℕ) (ts : List Token) (d : Token) → at < length ts → touches_next (drop at (broken_at b ts)) ≡ (broken_if (nat_eq at b) (slice_index_or ts at d)).touches
next_touches b at ts d l = ap (λ r. touches_next r) (look b at ts d l)

pub touches_none : (b at : ℕ) (ts : List Token) → length ts ≤ at → false ≡ touches_next (drop at (broken_at b ts))
touches_none b at ts l = sym (ap (λ r. touches_next r) (past b at ts l))

-- ---- the class of a token

pub class_is : (b at : ℕ) (ts : List Token) (t d : Token) (kind : TokenKind) → at < length ts → slice_index_or ts at d ≡ t → t.kind ≡ kind
    → first_class (drop at (broken_at b ts)) ≡ class_in kind (broken_if (nat_eq at b) t) (drop (at + 1) (broken_at b ts))
class_is b at ts t d kind l e h = ap (λ r. first_class r) (look b at ts d l) ∙ ap (λ t. class_in (broken_if (nat_eq at b) t).kind (broken_if (nat_eq at b) t) (drop (at + 1) (broken_at b ts))) e
    ∙ ap (λ x. class_in x (broken_if (nat_eq at b) t) (drop (at + 1) (broken_at b ts))) (same_kind_broken (nat_eq at b) t ∙ h)

pub class_name : (x : Bool) (t : Token) (rest : List Token) → class_of_name t.text rest ≡ class_in k.Name (broken_if x t) rest
class_name x t rest = ap (λ z. class_of_name z rest) (sym (same_text_broken x t))

pub class_other : (kind : TokenKind) (t : Token) (rest : List Token) → (kind ≡ k.Name → ⊥) → (kind ≡ k.Else → ⊥) → (kind ≡ k.Bang → ⊥) → (kind ≡ k.Question → ⊥) → (kind ≡ k.Minus → ⊥) → class.Is kind ≡ class_in kind t rest
class_other k.Name t rest a b c d e = absurd (a refl)
class_other k.Underscore t rest a b c d e = refl
class_other k.Integer t rest a b c d e = refl
class_other k.StringWhole t rest a b c d e = refl
class_other k.StringStart t rest a b c d e = refl
class_other k.StringMiddle t rest a b c d e = refl
class_other k.StringLast t rest a b c d e = refl
class_other k.Any t rest a b c d e = refl
class_other k.As t rest a b c d e = refl
class_other k.Async t rest a b c d e = refl
class_other k.Await t rest a b c d e = refl
class_other k.Break t rest a b c d e = refl
class_other k.Case t rest a b c d e = refl
class_other k.Catch t rest a b c d e = refl
class_other k.Continue t rest a b c d e = refl
class_other k.Default t rest a b c d e = refl
class_other k.Defer t rest a b c d e = refl
class_other k.Do t rest a b c d e = refl
class_other k.Else t rest a b c d e = absurd (b refl)
class_other k.Enum t rest a b c d e = refl
class_other k.Extension t rest a b c d e = refl
class_other k.False t rest a b c d e = refl
class_other k.Fileprivate t rest a b c d e = refl
class_other k.For t rest a b c d e = refl
class_other k.Func t rest a b c d e = refl
class_other k.Guard t rest a b c d e = refl
class_other k.If t rest a b c d e = refl
class_other k.Import t rest a b c d e = refl
class_other k.In t rest a b c d e = refl
class_other k.Init t rest a b c d e = refl
class_other k.Inout t rest a b c d e = refl
class_other k.Internal t rest a b c d e = refl
class_other k.Is t rest a b c d e = refl
class_other k.Let t rest a b c d e = refl
class_other k.Nil t rest a b c d e = refl
class_other k.Private t rest a b c d e = refl
class_other k.Protocol t rest a b c d e = refl
class_other k.Public t rest a b c d e = refl
class_other k.Repeat t rest a b c d e = refl
class_other k.Return t rest a b c d e = refl
class_other k.Self_ t rest a b c d e = refl
class_other k.Static t rest a b c d e = refl
class_other k.Struct t rest a b c d e = refl
class_other k.Super t rest a b c d e = refl
class_other k.Switch t rest a b c d e = refl
class_other k.Throw t rest a b c d e = refl
class_other k.Throws t rest a b c d e = refl
class_other k.True t rest a b c d e = refl
class_other k.Try t rest a b c d e = refl
class_other k.Typealias t rest a b c d e = refl
class_other k.Var t rest a b c d e = refl
class_other k.Where t rest a b c d e = refl
class_other k.While t rest a b c d e = refl
class_other k.HalfOpenRange t rest a b c d e = refl
class_other k.Ellipsis t rest a b c d e = refl
class_other k.Arrow t rest a b c d e = refl
class_other k.EqualEqual t rest a b c d e = refl
class_other k.NotEqual t rest a b c d e = refl
class_other k.LessEqual t rest a b c d e = refl
class_other k.GreaterEqual t rest a b c d e = refl
class_other k.And t rest a b c d e = refl
class_other k.Or t rest a b c d e = refl
class_other k.Coalesce t rest a b c d e = refl
class_other k.PlusAssign t rest a b c d e = refl
class_other k.MinusAssign t rest a b c d e = refl
class_other k.StarAssign t rest a b c d e = refl
class_other k.SlashAssign t rest a b c d e = refl
class_other k.PercentAssign t rest a b c d e = refl
class_other k.LeftParen t rest a b c d e = refl
class_other k.RightParen t rest a b c d e = refl
class_other k.LeftBracket t rest a b c d e = refl
class_other k.RightBracket t rest a b c d e = refl
class_other k.LeftBrace t rest a b c d e = refl
class_other k.RightBrace t rest a b c d e = refl
class_other k.Comma t rest a b c d e = refl
class_other k.Colon t rest a b c d e = refl
class_other k.Semicolon t rest a b c d e = refl
class_other k.Dot t rest a b c d e = refl
class_other k.Assign t rest a b c d e = refl
class_other k.Plus t rest a b c d e = refl
class_other k.Minus t rest a b c d e = absurd (e refl)
class_other k.Star t rest a b c d e = refl
class_other k.Slash t rest a b c d e = refl
class_other k.Percent t rest a b c d e = refl
class_other k.Less t rest a b c d e = refl
class_other k.Greater t rest a b c d e = refl
class_other k.Bang t rest a b c d e = absurd (c refl)
class_other k.Question t rest a b c d e = absurd (d refl)
class_other k.End t rest a b c d e = refl

pub picked_then : {A : Type 0} (x : Bool) (y z : A) → x ≡ true → y ≡ (if x then y else z)
picked_then true y z e = refl
picked_then false y z e = absurd cc

pub picked_else : {A : Type 0} (x : Bool) (y z : A) → x ≡ false → z ≡ (if x then y else z)
picked_else true y z e = absurd cc
picked_else false y z e = refl

-- ---- what is seen

pub sight_is : (b at : ℕ) (ts : List Token) (d : Token) → at < length ts
    → Some (record { class = first_class (drop at (broken_at b ts)); is_first = (broken_if (nat_eq at b) (slice_index_or ts at d)).first_on_line; before_colon = is_next k.Colon (drop (at + 1) (broken_at b ts)) })
    ≡ first_sight (drop at (sighted (broken_at b ts)))
sight_is b at ts d l = sym (ap (λ r. first_sight r) (drop_sighted at (broken_at b ts) ∙ ap (λ r. sighted r) (look b at ts d l))
    ∙ ap (λ c. Some (record { class = c; is_first = (broken_if (nat_eq at b) (slice_index_or ts at d)).first_on_line; before_colon = is_next k.Colon (drop (at + 1) (broken_at b ts)) })) (sym (ap (λ r. first_class r) (look b at ts d l))))

pub sight_value : (c c' : Class) (a a' b b' : Bool) → c ≡ c' → a ≡ a' → b ≡ b' → ◌≡◌ {A = Option Sight} (Some (record { class = c; is_first = a; before_colon = b })) (Some (record { class = c'; is_first = a'; before_colon = b' }))
sight_value c c' a a' b b' e f g = cc

pub sight_none : (b at : ℕ) (ts : List Token) → length ts ≤ at → None ≡ first_sight (drop at (sighted (broken_at b ts)))
sight_none b at ts l = sym (ap (λ r. first_sight r) (past_sight b at ts l))

some_same : {A : Type 0} (x y : A) → Some x ≡ Some y → x ≡ y
some_same x y e = cc

pub tested : (x : Test) (ts : List Sighted) (s : Sight) → Some s ≡ first_sight ts → passes x s ≡ at_first (passes x) ts
tested x [] s e = absurd cc
tested x (t ∷ ts) s e = ap (λ s. passes x s) (some_same s t.sight e)

pub untested : (x : Test) (ts : List Sighted) → None ≡ first_sight ts → false ≡ at_first (passes x) ts
untested x [] e = refl
untested x (t ∷ ts) e = absurd cc

-- ---- a token that is read from a list, or none

pub read_at : (ts : List Token) (at : ℕ) (t : Token) → Some t ≡ slice_get ts at → (at < length ts) × (t ≡ slice_index_or ts at t)
read_at ts at t h = (slice_get_within ts at t (sym h), sym (get_or_from_slice_get ts at t t (sym h)))

pub read_none : (ts : List Token) (at : ℕ) → None ≡ slice_get ts at → length ts ≤ at
read_none [] at h = omega arith
read_none (t ∷ ts) zero h = absurd cc
read_none (t ∷ ts) (suc at) h = omega (arith, read_none ts at h)

-- ---- a token that is taken

face_broken : (x : Bool) (t : Token) → token_face (broken_if x t) ≡ token_face t
face_broken true t = refl
face_broken false t = refl

one_taken : (f : Sight → Bool) (left : ℕ) (t : Sighted) (ts : List Sighted) → f t.sight ≡ true → one f left (t ∷ ts) ≡ got t.face left ts
one_taken f left t ts e = picked (f t.sight) e
  where
    picked : (x : Bool) → x ≡ true → cond x (got t.face left ts) (rejected unexpected (t ∷ ts)) ≡ got t.face left ts
    picked true e = refl
    picked false e = absurd cc

pub taken : (f : Sight → Bool) (left b at : ℕ) (ts : List Token) (d : Token) → at < length ts → at_first f (drop at (sighted (broken_at b ts))) ≡ true
    → one f left (drop at (sighted (broken_at b ts))) ≡ got (token_face (slice_index_or ts at d)) left (drop (at + 1) (sighted (broken_at b ts)))
taken f left b at ts d l h =
    let rest : List Token = drop (at + 1) (broken_at b ts) in
    let t : Token = broken_if (nat_eq at b) (slice_index_or ts at d) in
    let e : drop at (sighted (broken_at b ts)) ≡ sighted (t ∷ rest) = drop_sighted at (broken_at b ts) ∙ ap (λ r. sighted r) (look b at ts d l) in
    ap (λ r. one f left r) e ∙ one_taken f left (seen t rest) (sighted rest) (subst (λ r. at_first f r ≡ true) e h)
    ∙ ap (λ x. got x left (sighted rest)) (face_broken (nat_eq at b) (slice_index_or ts at d)) ∙ ap (λ r. got (token_face (slice_index_or ts at d)) left r) (sym (drop_sighted (at + 1) (broken_at b ts)))

-- ---- a token that is seen as an integer

pub integer_at : (b at : ℕ) (ts : List Token) (d : Token) → at < length ts → at_first (is k.Integer) (drop at (sighted (broken_at b ts))) ≡ true → (slice_index_or ts at d).kind ≡ k.Integer
integer_at b at ts d l h =
    let rest : List Token = drop (at + 1) (broken_at b ts) in
    let t : Token = broken_if (nat_eq at b) (slice_index_or ts at d) in
    let e : drop at (sighted (broken_at b ts)) ≡ sighted (t ∷ rest) = drop_sighted at (broken_at b ts) ∙ ap (λ r. sighted r) (look b at ts d l) in
    sym (same_kind_broken (nat_eq at b) (slice_index_or ts at d)) ∙ kind_integer t.kind (sym (integer_kind t.kind t rest) ∙ subst (λ r. at_first (is k.Integer) r ≡ true) e h)
