-- What a test of a token tells of its kind, and which words pass it.
use Rattle.std.proofs.Common.{◌≡◌, Bool, true, false, if◌then◌else◌, List, codes, refl, ap, ◌∙◌, subst}
use denote.Enum.Bare.{same_true}
use Rattle.sw_lex.specs.declared.token.TokenKind.{TokenKind}
use Rattle.sw_lex.specs.declared.token.TokenKind.TheVariants as k
use Rattle.sw_lex.specs.contracts.token.TokenKind.{the_type}
use Rattle.sw_lex.specs.declared.token.Token.{Token}
use Rattle.sw_lex.specs.Bytes.{Text}
use Rattle.sw_lex.specs.Tables.{is_same_text}
use Rattle.sw_grammar.proofs.Starts.{clash}
use Rattle.sw_syntax.specs.declared.class.Class.{Class}
use Rattle.sw_syntax.specs.declared.class.Class.TheVariants as class
use Rattle.sw_lex.specs.Tables.{same_kind, is_reserved_kind}
use Rattle.sw_syntax.specs.Tokens.{class_of_name, class_in, is_next, touches_next, Sighted}
use Rattle.sw_syntax.specs.Tests.{is, is_of, is_name, is_name_class, is_reserved_class, is_minus_class, is_bang_class, is_touching_bang_class, is_touching_question_class, is_spaced_question_class}
use Rattle.sw_print.proofs.Spelling.Good.{IsGood}

pub same_kinds : (a b : TokenKind) → same_kind a b ≡ true → a ≡ b
unfolding same_kind
same_kinds a b e = same_true the_type tt a b e

either : {A : Type 0} (P : A → Type 0) (b : Bool) (x y : A) → P x → P y → P (if b then x else y)
either P true x y p q = p
either P false x y p q = q

-- ---- names

pub name_class : (text : Text) (following : List Token) → is_name_class (class_of_name text following) ≡ true
unfolding same_kind
name_class text following =
    let P : Class → Type 0 = λ c. is_name_class c ≡ true in
    either P (is_same_text text (codes "actor")) _ _ refl (either P (is_same_text text (codes "distributed")) _ _ refl (either P (is_same_text text (codes "nonisolated")) _ _ refl
    (either P (is_same_text text (codes "mutating")) _ _ refl (either P (is_same_text text (codes "final")) _ _ refl
    (either P (is_same_text text (codes "get")) _ _ (either P (is_next k.LeftBrace following) _ _ refl refl) refl)))))

-- what is seen of a name is the class of no other kind
abbrev IsKind : TokenKind → Class → Type 0
IsKind kind x = (other : TokenKind) → is_of other x ≡ true → kind ≡ other

name_is : (text : Text) (following : List Token) → IsKind k.Name (class_of_name text following)
unfolding same_kind
name_is text following =
    let none : (x : Class) → ((other : TokenKind) → is_of other x ≡ false) → IsKind k.Name x = λ x h other e. absurd (clash _ e (h other)) in
    let P = IsKind k.Name in
    either P (is_same_text text (codes "actor")) _ _ (none class.Actor (λ o. refl)) (either P (is_same_text text (codes "distributed")) _ _ (none class.Distributed (λ o. refl))
    (either P (is_same_text text (codes "nonisolated")) _ _ (none class.Nonisolated (λ o. refl))
    (either P (is_same_text text (codes "mutating")) _ _ (none class.Mutating (λ o. refl)) (either P (is_same_text text (codes "final")) _ _ (none class.Final (λ o. refl))
    (either P (is_same_text text (codes "get")) _ _ (either P (is_next k.LeftBrace following) _ _ (none class.GetBlock (λ o. refl)) (none class.Get (λ o. refl))) (λ o e. same_kinds k.Name o e))))))

-- ---- kinds

-- the class is of the kind
pub class_kind : (kind : TokenKind) (token : Token) (following : List Token) → IsKind kind (class_in kind token following)
class_kind k.Name token following = name_is token.text following
class_kind k.Else token following = either (IsKind k.Else) (is_next k.If following) class.ElseIf (class.Is k.Else) (λ o e. absurd (cc)) (λ o e. same_kinds k.Else o e)
class_kind k.Bang token following = either (IsKind k.Bang) token.touches class.TouchingBang (class.Is k.Bang) (λ o e. absurd (cc)) (λ o e. same_kinds k.Bang o e)
class_kind k.Question token following = either (IsKind k.Question) token.touches class.TouchingQuestion _ (λ o e. absurd (cc))
    (either (IsKind k.Question) token.after_space class.SpacedQuestion (class.Is k.Question) (λ o e. absurd (cc)) (λ o e. same_kinds k.Question o e))
class_kind k.Minus token following = either (IsKind k.Minus) (touches_next following) (class.Is k.Minus) class.LooseMinus (λ o e. same_kinds k.Minus o e) (λ o e. absurd (cc))
class_kind kind token following = λ o e. same_kinds _ o e

-- the face of a token whose class is so has this kind
pub face_kind : (P : Class → Type 0) (kind : TokenKind) → ((its : TokenKind) (token : Token) (following : List Token) → P (class_in its token following) → its ≡ kind)
    → (t : Sighted) → IsGood t → P t.sight.class → t.face.kind ≡ kind
face_kind P kind f t (token, following, e, fits) p = ap (λ t. t.face.kind) e ∙ f token.kind token following (subst (λ t. P t.sight.class) e p)

pub is_kind : (kind : TokenKind) (t : Sighted) → IsGood t → is kind t.sight ≡ true → t.face.kind ≡ kind
is_kind kind = face_kind (λ x. is_of kind x ≡ true) kind (λ its token following p. class_kind its token following kind p)

name_kind_in : (kind : TokenKind) (token : Token) (following : List Token) → is_name_class (class_in kind token following) ≡ true → kind ≡ k.Name
unfolding same_kind
name_kind_in k.Name token following h = refl
name_kind_in k.Else token following h = absurd (either (λ x. is_name_class x ≡ true → ⊥) (is_next k.If following) class.ElseIf (class.Is k.Else) (λ e. cc) (λ e. cc) h)
name_kind_in k.Bang token following h = absurd (either (λ x. is_name_class x ≡ true → ⊥) token.touches class.TouchingBang (class.Is k.Bang) (λ e. cc) (λ e. cc) h)
name_kind_in k.Question token following h = absurd (either (λ x. is_name_class x ≡ true → ⊥) token.touches class.TouchingQuestion _ (λ e. cc)
    (either (λ x. is_name_class x ≡ true → ⊥) token.after_space class.SpacedQuestion (class.Is k.Question) (λ e. cc) (λ e. cc)) h)
name_kind_in k.Minus token following h = absurd (either (λ x. is_name_class x ≡ true → ⊥) (touches_next following) (class.Is k.Minus) class.LooseMinus (λ e. cc) (λ e. cc) h)
name_kind_in kind token following h = absurd (cc)

pub name_kind : (t : Sighted) → IsGood t → is_name t.sight ≡ true → t.face.kind ≡ k.Name
name_kind = face_kind (λ x. is_name_class x ≡ true) k.Name name_kind_in

-- a class that only what is seen of this kind has
abbrev Only : (Class → Bool) → TokenKind → Type 0
Only p kind = (its : TokenKind) (token : Token) (following : List Token) → p (class_in its token following) ≡ true → its ≡ kind

-- of a name, and of an `else`, no class is of a mark
no_name : (p : Class → Bool) → p class.Actor ≡ false → p class.Distributed ≡ false → p class.Nonisolated ≡ false → p class.Mutating ≡ false → p class.Final ≡ false → p class.Get ≡ false
    → p class.GetBlock ≡ false → p (class.Is k.Name) ≡ false → (text : Text) (following : List Token) → p (class_of_name text following) ≡ true → ⊥
no_name p a b c d e f h i text following is =
    let none : (x : Class) → p x ≡ false → p x ≡ true → ⊥ = λ x n y. clash _ y n in
    let P : Class → Type 0 = λ x. p x ≡ true → ⊥ in
    either P (is_same_text text (codes "actor")) _ _ (none _ a) (either P (is_same_text text (codes "distributed")) _ _ (none _ b) (either P (is_same_text text (codes "nonisolated")) _ _ (none _ c)
    (either P (is_same_text text (codes "mutating")) _ _ (none _ d) (either P (is_same_text text (codes "final")) _ _ (none _ e)
    (either P (is_same_text text (codes "get")) _ _ (either P (is_next k.LeftBrace following) _ _ (none _ h) (none _ f)) (none _ i)))))) is

pub question_touching : Only is_touching_question_class k.Question
unfolding same_kind
question_touching k.Question token following h = refl
question_touching k.Name token following h = absurd (no_name is_touching_question_class refl refl refl refl refl refl refl refl token.text following h)
question_touching k.Else token following h = absurd (either (λ x. is_touching_question_class x ≡ true → ⊥) (is_next k.If following) class.ElseIf (class.Is k.Else) (λ e. cc) (λ e. cc) h)
question_touching k.Bang token following h = absurd (either (λ x. is_touching_question_class x ≡ true → ⊥) token.touches class.TouchingBang (class.Is k.Bang) (λ e. cc) (λ e. cc) h)
question_touching k.Minus token following h = absurd (either (λ x. is_touching_question_class x ≡ true → ⊥) (touches_next following) (class.Is k.Minus) class.LooseMinus (λ e. cc) (λ e. cc) h)
question_touching kind token following h = absurd (cc)

question_spaced : Only is_spaced_question_class k.Question
unfolding same_kind
question_spaced k.Question token following h = refl
question_spaced k.Name token following h = absurd (no_name is_spaced_question_class refl refl refl refl refl refl refl refl token.text following h)
question_spaced k.Else token following h = absurd (either (λ x. is_spaced_question_class x ≡ true → ⊥) (is_next k.If following) class.ElseIf (class.Is k.Else) (λ e. cc) (λ e. cc) h)
question_spaced k.Bang token following h = absurd (either (λ x. is_spaced_question_class x ≡ true → ⊥) token.touches class.TouchingBang (class.Is k.Bang) (λ e. cc) (λ e. cc) h)
question_spaced k.Minus token following h = absurd (either (λ x. is_spaced_question_class x ≡ true → ⊥) (touches_next following) (class.Is k.Minus) class.LooseMinus (λ e. cc) (λ e. cc) h)
question_spaced kind token following h = absurd (cc)

bang_touching : Only is_touching_bang_class k.Bang
unfolding same_kind
bang_touching k.Bang token following h = refl
bang_touching k.Name token following h = absurd (no_name is_touching_bang_class refl refl refl refl refl refl refl refl token.text following h)
bang_touching k.Else token following h = absurd (either (λ x. is_touching_bang_class x ≡ true → ⊥) (is_next k.If following) class.ElseIf (class.Is k.Else) (λ e. cc) (λ e. cc) h)
bang_touching k.Question token following h = absurd (either (λ x. is_touching_bang_class x ≡ true → ⊥) token.touches class.TouchingQuestion _ (λ e. cc)
    (either (λ x. is_touching_bang_class x ≡ true → ⊥) token.after_space class.SpacedQuestion (class.Is k.Question) (λ e. cc) (λ e. cc)) h)
bang_touching k.Minus token following h = absurd (either (λ x. is_touching_bang_class x ≡ true → ⊥) (touches_next following) (class.Is k.Minus) class.LooseMinus (λ e. cc) (λ e. cc) h)
bang_touching kind token following h = absurd (cc)

bang : Only is_bang_class k.Bang
unfolding same_kind
bang k.Bang token following h = refl
bang k.Name token following h = absurd (no_name is_bang_class refl refl refl refl refl refl refl refl token.text following h)
bang k.Else token following h = absurd (either (λ x. is_bang_class x ≡ true → ⊥) (is_next k.If following) class.ElseIf (class.Is k.Else) (λ e. cc) (λ e. cc) h)
bang k.Question token following h = absurd (either (λ x. is_bang_class x ≡ true → ⊥) token.touches class.TouchingQuestion _ (λ e. cc)
    (either (λ x. is_bang_class x ≡ true → ⊥) token.after_space class.SpacedQuestion (class.Is k.Question) (λ e. cc) (λ e. cc)) h)
bang k.Minus token following h = absurd (either (λ x. is_bang_class x ≡ true → ⊥) (touches_next following) (class.Is k.Minus) class.LooseMinus (λ e. cc) (λ e. cc) h)
bang kind token following h = absurd (cc)

minus : Only is_minus_class k.Minus
unfolding same_kind
minus k.Minus token following h = refl
minus k.Name token following h = absurd (no_name is_minus_class refl refl refl refl refl refl refl refl token.text following h)
minus k.Else token following h = absurd (either (λ x. is_minus_class x ≡ true → ⊥) (is_next k.If following) class.ElseIf (class.Is k.Else) (λ e. cc) (λ e. cc) h)
minus k.Bang token following h = absurd (either (λ x. is_minus_class x ≡ true → ⊥) token.touches class.TouchingBang (class.Is k.Bang) (λ e. cc) (λ e. cc) h)
minus k.Question token following h = absurd (either (λ x. is_minus_class x ≡ true → ⊥) token.touches class.TouchingQuestion _ (λ e. cc)
    (either (λ x. is_minus_class x ≡ true → ⊥) token.after_space class.SpacedQuestion (class.Is k.Question) (λ e. cc) (λ e. cc)) h)
minus kind token following h = absurd (cc)

pub touching_question_kind : (t : Sighted) → IsGood t → is_touching_question_class t.sight.class ≡ true → t.face.kind ≡ k.Question
touching_question_kind = face_kind (λ x. is_touching_question_class x ≡ true) k.Question question_touching

pub spaced_question_kind : (t : Sighted) → IsGood t → is_spaced_question_class t.sight.class ≡ true → t.face.kind ≡ k.Question
spaced_question_kind = face_kind (λ x. is_spaced_question_class x ≡ true) k.Question question_spaced

pub touching_bang_kind : (t : Sighted) → IsGood t → is_touching_bang_class t.sight.class ≡ true → t.face.kind ≡ k.Bang
touching_bang_kind = face_kind (λ x. is_touching_bang_class x ≡ true) k.Bang bang_touching

pub bang_kind : (t : Sighted) → IsGood t → is_bang_class t.sight.class ≡ true → t.face.kind ≡ k.Bang
bang_kind = face_kind (λ x. is_bang_class x ≡ true) k.Bang bang

pub minus_kind : (t : Sighted) → IsGood t → is_minus_class t.sight.class ≡ true → t.face.kind ≡ k.Minus
minus_kind = face_kind (λ x. is_minus_class x ≡ true) k.Minus minus

-- ---- reserved words

reserved_kind_in : (kind : TokenKind) (token : Token) (following : List Token) → is_reserved_class (class_in kind token following) ≡ true → is_reserved_kind kind ≡ true
unfolding same_kind is_reserved_kind
reserved_kind_in k.Else token following h = refl
reserved_kind_in k.Name token following h = absurd (no_name is_reserved_class refl refl refl refl refl refl refl refl token.text following h)
reserved_kind_in k.Bang token following h = absurd (either (λ x. is_reserved_class x ≡ true → ⊥) token.touches class.TouchingBang (class.Is k.Bang) (λ e. cc) (λ e. cc) h)
reserved_kind_in k.Question token following h = absurd (either (λ x. is_reserved_class x ≡ true → ⊥) token.touches class.TouchingQuestion _ (λ e. cc)
    (either (λ x. is_reserved_class x ≡ true → ⊥) token.after_space class.SpacedQuestion (class.Is k.Question) (λ e. cc) (λ e. cc)) h)
reserved_kind_in k.Minus token following h = absurd (either (λ x. is_reserved_class x ≡ true → ⊥) (touches_next following) (class.Is k.Minus) class.LooseMinus (λ e. cc) (λ e. cc) h)
reserved_kind_in kind token following h = h

pub reserved_kind : (t : Sighted) → IsGood t → is_reserved_class t.sight.class ≡ true → is_reserved_kind t.face.kind ≡ true
reserved_kind t (token, following, e, fits) p = ap (λ t. is_reserved_kind t.face.kind) e ∙ reserved_kind_in token.kind token following (subst (λ t. is_reserved_class t.sight.class ≡ true) e p)

-- what is seen of a reserved word is one
pub reserved_class : (kind : TokenKind) (token : Token) (following : List Token) → is_reserved_kind kind ≡ true → is_reserved_class (class_in kind token following) ≡ true
unfolding same_kind is_reserved_kind
reserved_class k.Else token following h = either (λ x. is_reserved_class x ≡ true) (is_next k.If following) class.ElseIf (class.Is k.Else) refl refl
reserved_class k.Name token following h = absurd (cc)
reserved_class k.Bang token following h = absurd (cc)
reserved_class k.Question token following h = absurd (cc)
reserved_class k.Minus token following h = absurd (cc)
reserved_class kind token following h = h
