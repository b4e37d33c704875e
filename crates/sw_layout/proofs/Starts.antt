-- The byte that a word begins with, and the bytes that may follow a word.
use Rattle.std.proofs.Common.{◌≡◌, ℕ, ◌==◌, Bool, true, false, not, ◌&&◌, [], ◌∷◌, refl, ap, ◌∙◌, arith}
use Rattle.std.proofs.lemmas.Grind.{common_steps}
use Rattle.std.specs.List.{list_any}
use Rattle.sw_lex.specs.declared.bytes.Class.TheVariants as class
use Rattle.sw_lex.specs.declared.token.TokenKind.{TokenKind}
use Rattle.sw_lex.specs.declared.token.TokenKind.TheVariants as k
use Rattle.sw_lex.specs.Bytes.{is_in}
use Rattle.sw_lex.specs.Lexemes.{first}
use Rattle.sw_layout.specs.Words.{fixed}
use Rattle.sw_layout.specs.Layouts.{may_touch}

-- whether a word of this kind begins with the byte
abbrev pub starts : TokenKind → ℕ → Bool
starts k.Name byte = is_in class.NameStart byte
starts k.Integer byte = is_in class.Digit byte
starts k.StringWhole byte = byte == 34
starts k.StringStart byte = byte == 34
starts k.StringMiddle byte = byte == 41
starts k.StringLast byte = byte == 41
starts kind byte = byte == first (fixed kind)

-- white space, and what a word begins with that may touch a word of most kinds: `.`, `(`, `[`, `!`, `?` and `)`
abbrev pub follows_most : ℕ → Bool
follows_most byte = list_any (λ known. byte == known) (10 ∷ 32 ∷ 46 ∷ 40 ∷ 91 ∷ 33 ∷ 63 ∷ 41 ∷ [])

-- whether the byte may follow a word of this kind
abbrev pub may_follow : TokenKind → ℕ → Bool
may_follow k.Dot byte = not (byte == 46)
may_follow k.Question byte = not (byte == 63)
may_follow k.Minus byte = not (byte == 61) && not (byte == 62)
may_follow k.StringStart byte = true
may_follow k.StringMiddle byte = true
may_follow kind byte = follows_most byte

-- whether no other byte may
abbrev pub is_followed_by_most : TokenKind → Bool
is_followed_by_most k.Dot = false
is_followed_by_most k.Question = false
is_followed_by_most k.Minus = false
is_followed_by_most k.StringStart = false
is_followed_by_most k.StringMiddle = false
is_followed_by_most kind = true

pub most_follow : (kind : TokenKind) (byte : ℕ) → is_followed_by_most kind ≡ true → may_follow kind byte ≡ true → follows_most byte ≡ true
most_follow k.Dot byte h f = absurd (cc)
most_follow k.Question byte h f = absurd (cc)
most_follow k.Minus byte h f = absurd (cc)
most_follow k.StringStart byte h f = absurd (cc)
most_follow k.StringMiddle byte h f = absurd (cc)
most_follow kind byte h f = f

pub line_follows : (kind : TokenKind) → may_follow kind 10 ≡ true
line_follows k.Dot = refl
line_follows kind = refl

pub space_follows : (kind : TokenKind) → may_follow kind 32 ≡ true
space_follows k.Dot = refl
space_follows kind = refl

-- ---- a word that touches another

pub equal : (x y : ℕ) → (x == y) ≡ true → x ≡ y
equal x y h = grind (arith, common_steps)

at_same : (byte known : ℕ) (test : ℕ → Bool) → (byte == known) ≡ true → test known ≡ true → test byte ≡ true
at_same byte known test e h = ap test (equal byte known e) ∙ h

-- what may touch a word of most kinds
abbrev touches_most : TokenKind → Bool
touches_most k.Dot = true
touches_most k.LeftParen = true
touches_most k.LeftBracket = true
touches_most k.Bang = true
touches_most k.Question = true
touches_most k.StringMiddle = true
touches_most k.StringLast = true
touches_most kind = false

most_touch : (kind : TokenKind) (byte : ℕ) → touches_most kind ≡ true → starts kind byte ≡ true → follows_most byte ≡ true
most_touch k.Dot byte m s = at_same byte 46 follows_most s refl
most_touch k.LeftParen byte m s = at_same byte 40 follows_most s refl
most_touch k.LeftBracket byte m s = at_same byte 91 follows_most s refl
most_touch k.Bang byte m s = at_same byte 33 follows_most s refl
most_touch k.Question byte m s = at_same byte 63 follows_most s refl
most_touch k.StringMiddle byte m s = at_same byte 41 follows_most s refl
most_touch k.StringLast byte m s = at_same byte 41 follows_most s refl
most_touch kind byte m s = absurd (cc)

name_no_dot : (byte : ℕ) → is_in class.NameStart byte ≡ true → not (byte == 46) ≡ true
name_no_dot byte h = grind (arith, common_steps)

dot_touched : (kind : TokenKind) (byte : ℕ) → may_touch k.Dot kind ≡ true → starts kind byte ≡ true → not (byte == 46) ≡ true
dot_touched k.Name byte m s = name_no_dot byte s
dot_touched k.LeftParen byte m s = at_same byte 40 (λ b. not (b == 46)) s refl
dot_touched k.LeftBracket byte m s = at_same byte 91 (λ b. not (b == 46)) s refl
dot_touched k.Bang byte m s = at_same byte 33 (λ b. not (b == 46)) s refl
dot_touched k.Question byte m s = at_same byte 63 (λ b. not (b == 46)) s refl
dot_touched k.StringMiddle byte m s = at_same byte 41 (λ b. not (b == 46)) s refl
dot_touched k.StringLast byte m s = at_same byte 41 (λ b. not (b == 46)) s refl
dot_touched kind byte m s = absurd (cc)

question_touched : (kind : TokenKind) (byte : ℕ) → may_touch k.Question kind ≡ true → starts kind byte ≡ true → not (byte == 63) ≡ true
question_touched k.Dot byte m s = at_same byte 46 (λ b. not (b == 63)) s refl
question_touched k.LeftParen byte m s = at_same byte 40 (λ b. not (b == 63)) s refl
question_touched k.LeftBracket byte m s = at_same byte 91 (λ b. not (b == 63)) s refl
question_touched k.Bang byte m s = at_same byte 33 (λ b. not (b == 63)) s refl
question_touched k.StringMiddle byte m s = at_same byte 41 (λ b. not (b == 63)) s refl
question_touched k.StringLast byte m s = at_same byte 41 (λ b. not (b == 63)) s refl
question_touched kind byte m s = absurd (cc)

name_no_mark : (byte : ℕ) → is_in class.NameStart byte ≡ true → (not (byte == 61) && not (byte == 62)) ≡ true
name_no_mark byte h = grind (arith, common_steps)

digit_no_mark : (byte : ℕ) → is_in class.Digit byte ≡ true → (not (byte == 61) && not (byte == 62)) ≡ true
digit_no_mark byte h = grind (arith, common_steps)

minus_touched : (kind : TokenKind) (byte : ℕ) → may_touch k.Minus kind ≡ true → starts kind byte ≡ true → (not (byte == 61) && not (byte == 62)) ≡ true
minus_touched k.Greater byte m s = absurd (cc)
minus_touched k.GreaterEqual byte m s = absurd (cc)
minus_touched k.Assign byte m s = absurd (cc)
minus_touched k.EqualEqual byte m s = absurd (cc)
minus_touched k.Name byte m s = name_no_mark byte s
minus_touched k.Integer byte m s = digit_no_mark byte s
minus_touched k.StringWhole byte m s = at_same byte 34 (λ b. not (b == 61) && not (b == 62)) s refl
minus_touched k.StringStart byte m s = at_same byte 34 (λ b. not (b == 61) && not (b == 62)) s refl
minus_touched k.StringMiddle byte m s = at_same byte 41 (λ b. not (b == 61) && not (b == 62)) s refl
minus_touched k.StringLast byte m s = at_same byte 41 (λ b. not (b == 61) && not (b == 62)) s refl
minus_touched kind byte m s = at_same byte (first (fixed kind)) (λ b. not (b == 61) && not (b == 62)) s refl

pub touch_follows : (last kind : TokenKind) (byte : ℕ) → may_touch last kind ≡ true → starts kind byte ≡ true → may_follow last byte ≡ true
touch_follows k.Dot kind byte m s = dot_touched kind byte m s
touch_follows k.Question kind byte m s = question_touched kind byte m s
touch_follows k.Minus kind byte m s = minus_touched kind byte m s
touch_follows k.StringStart kind byte m s = refl
touch_follows k.StringMiddle kind byte m s = refl
touch_follows last kind byte m s = most_touch kind byte m s
