-- Types are written as words that stand apart.
use Rattle.std.proofs.Common.{◌≡◌, Bool, true, false, if◌then◌else◌, List, [], ◌∷◌, ◌++◌, Option, Some, refl, ap, sym, ◌∙◌, subst, append_assoc}
use Rattle.sw_lex.specs.declared.token.TokenKind.{TokenKind}
use Rattle.sw_lex.specs.declared.token.TokenKind.TheVariants as k
use Rattle.sw_lex.specs.Cut.{Opens}
use Rattle.sw_layout.specs.declared.gap.Gap.{Gap}
use Rattle.sw_layout.specs.declared.gap.Gap.TheVariants as gap
use Rattle.sw_layout.specs.Words.{Word, plain, fixed}
use Rattle.sw_layout.specs.Layouts.{may_touch}
use Rattle.sw_tree.specs.declared.types.«Type».{«Type» as TypeTree, map-Type, roll-Type}
use Rattle.sw_tree.specs.declared.types.«Type».TheOpen.{Type-F}
use Rattle.sw_tree.specs.declared.types.«Type».TheFolds.{ind-Type, fold-roll-Type}
use Rattle.sw_print.specs.Expressions.{W, word, type_words, type_level, is_question, ends_in_question, mark_gap}
use Rattle.sw_print.proofs.Shape.{Shape, Held, Laid, Lead, Ends, begin, none, joined, next, brackets}

-- ---- types

pub question_end : (ws : List Word) (w : Word) → ends_in_question (ws ++ w ∷ []) ≡ is_question w.kind
question_end [] w = refl
question_end (v ∷ []) w = refl
question_end (v ∷ v' ∷ ws) w = question_end (v' ∷ ws) w

-- a type, and what its last word is
abbrev Type_held : W → Type 0
Type_held w = (g : Gap) (o : Opens) (l : Option TokenKind) (rest : List Word) → Lead g o l → ((e : TokenKind) → Ends e → is_question e ≡ ends_in_question (w g) → Shape o (Some e) rest) → Shape o l (w g ++ rest)

question_touches : (first : TokenKind) → is_question first ≡ false → may_touch first k.Question ≡ true
question_touches k.Question h = absurd (cc)
question_touches k.Dot h = refl
question_touches first h = refl

-- from a layout whose last word is known
ended : (w : W) (v : Gap → List Word) (last : Word) → ((g : Gap) → w g ≡ v g ++ last ∷ []) → Ends last.kind → ((g : Gap) (o : Opens) (l : Option TokenKind) (rest : List Word) → Lead g o l → Shape o (Some last.kind) rest → Shape o l (w g ++ rest)) → Type_held w
ended w v last is e h g o l rest lead more = h g o l rest lead (more last.kind e (sym (question_end (v g) last) ∙ ap ends_in_question (sym (is g))))

abbrev Some_type : Type 0
Some_type = (t : TypeTree) × Type_held (type_words t)

type_level_held : (x : Type-F Some_type) → Type_held (type_level (map-Type Some_type W (λ p. type_words p.0) x))
type_level_held (Type-F.Name name) g o l rest lead more = begin k.Name name.text g o l rest refl refl lead (more k.Name refl refl)
type_level_held (Type-F.Member outer name) g o l rest lead more =
    begin k.Name outer.text g o l (plain k.Dot gap.Joined ∷ word k.Name name.text gap.Joined ∷ rest) refl refl lead
    (joined k.Dot (fixed k.Dot) o k.Name (word k.Name name.text gap.Joined ∷ rest) refl refl (joined k.Name name.text o k.Dot rest refl refl (more k.Name refl refl)))
type_level_held (Type-F.Array at element) g o l rest lead more =
    begin k.LeftBracket (fixed k.LeftBracket) g o l ((type_words element.0 gap.Space ++ plain k.RightBracket gap.Space ∷ []) ++ rest) refl refl lead
    (subst (Shape o (Some k.LeftBracket)) (sym (append_assoc (type_words element.0 gap.Space) (plain k.RightBracket gap.Space ∷ []) rest))
    (element.1 gap.Space o (Some k.LeftBracket) (plain k.RightBracket gap.Space ∷ rest) (k.LeftBracket, refl, refl)
    (λ e f q. next k.RightBracket (fixed k.RightBracket) o e rest refl (more k.RightBracket refl (sym (question_end (plain k.LeftBracket g ∷ type_words element.0 gap.Space) (plain k.RightBracket gap.Space)))))))
type_level_held (Type-F.Any at name) g o l rest lead more =
    begin k.Any (fixed k.Any) g o l (word k.Name name.text gap.Space ∷ rest) refl refl lead (next k.Name name.text o k.Any rest refl (more k.Name refl refl))
type_level_held (Type-F.Void at) g o l rest lead more = brackets [] none g o l rest lead (more k.RightParen refl refl)
type_level_held (Type-F.Optional wrapped) g o l rest lead more =
    subst (Shape o l) (sym (append_assoc (type_words wrapped.0 g) (plain k.Question (mark_gap (type_words wrapped.0 g)) ∷ []) rest))
    (wrapped.1 g o l (plain k.Question (mark_gap (type_words wrapped.0 g)) ∷ rest) lead (λ e f q.
    mark (ends_in_question (type_words wrapped.0 g)) e f q (more k.Question refl (sym (question_end (type_words wrapped.0 g) (plain k.Question (mark_gap (type_words wrapped.0 g))))))))
  where
    mark : (t : Bool) (e : TokenKind) → Ends e → is_question e ≡ t → Shape o (Some k.Question) rest → Shape o (Some e) (plain k.Question (if t then gap.Space else gap.Joined) ∷ rest)
    mark true e f q h = next k.Question (fixed k.Question) o e rest refl h
    mark false e f q h = joined k.Question (fixed k.Question) o e rest refl (question_touches e q) h

pub type_held : (t : TypeTree) → Type_held (type_words t)
type_held = ind-Type (λ t. Type_held (type_words t)) (λ x y is. subst (λ x. Type_held (type_words (roll-Type x))) is (node y))
  where
    node : (y : Type-F Some_type) → Type_held (type_words (roll-Type (map-Type Some_type TypeTree (λ p. p.0) y)))
    node (Type-F.Name n) = subst Type_held (sym (fold-roll-Type W type_level (map-Type Some_type TypeTree (λ p. p.0) (Type-F.Name n)))) (type_level_held (Type-F.Name n))
    node (Type-F.Member n m) = subst Type_held (sym (fold-roll-Type W type_level (map-Type Some_type TypeTree (λ p. p.0) (Type-F.Member n m)))) (type_level_held (Type-F.Member n m))
    node (Type-F.Array at x) = subst Type_held (sym (fold-roll-Type W type_level (map-Type Some_type TypeTree (λ p. p.0) (Type-F.Array at x)))) (type_level_held (Type-F.Array at x))
    node (Type-F.Any at n) = subst Type_held (sym (fold-roll-Type W type_level (map-Type Some_type TypeTree (λ p. p.0) (Type-F.Any at n)))) (type_level_held (Type-F.Any at n))
    node (Type-F.Void at) = subst Type_held (sym (fold-roll-Type W type_level (map-Type Some_type TypeTree (λ p. p.0) (Type-F.Void at)))) (type_level_held (Type-F.Void at))
    node (Type-F.Optional x) = subst Type_held (sym (fold-roll-Type W type_level (map-Type Some_type TypeTree (λ p. p.0) (Type-F.Optional x)))) (type_level_held (Type-F.Optional x))

pub type_laid : (t : TypeTree) → Laid (type_words t gap.Space)
type_laid t o i rest e more = type_held t gap.Space o (Some i) rest (i, refl, e) (λ e f q. more e f)

pub type_shape : (t : TypeTree) → Held (type_words t)
type_shape t g o l rest lead more = type_held t g o l rest lead (λ e f q. more e f)
