-- The words that are written for `else`.
use Rattle.std.proofs.Common.{◌≡◌, ℕ, Bool, true, false, if◌then◌else◌, List, [], ◌∷◌, refl, sym, subst}
use Rattle.sw_lex.specs.declared.token.TokenKind.{TokenKind}
use Rattle.sw_lex.specs.declared.token.TokenKind.TheVariants as k
use Rattle.sw_lex.specs.declared.token.Token.{Token}
use Rattle.sw_grammar.specs.Grammar.{terminal}
use Rattle.sw_layout.specs.declared.gap.Gap.TheVariants as gap
use Rattle.sw_layout.specs.Words.{plain, token_of}
use Rattle.sw_syntax.specs.declared.class.Class.{Class}
use Rattle.sw_syntax.specs.declared.class.Class.TheVariants as class
use Rattle.sw_syntax.specs.Tokens.{same_kind, class_in, is_next, touches_next, Sighted, Face, seen}
use Rattle.sw_syntax.specs.Nonterminals.{Nonterminal, Sort}
use Rattle.sw_syntax.specs.Tests.{is, is_else, is_any_else, is_else_if, is_else_class, is_else_if_class, is_name_class}
use Rattle.sw_print.proofs.Spelling.Good.{IsGood}
use Rattle.sw_print.proofs.Spelling.Kinds.{same_kinds, name_class, face_kind, is_kind}
use Rattle.sw_print.proofs.Spelling.Making.{Made, placed}
use Rattle.sw_print.proofs.Spelling.Marks.{BuiltOf, was_mark, make_plain}

either : {A : Type 0} (P : A → Type 0) (b : Bool) (x y : A) → P x → P y → P (if b then x else y)
either P true x y p q = p
either P false x y p q = q

-- what is seen of a name is no `else`
no_else : (x : Class) → is_name_class x ≡ true → is_else_class x ≡ true → ⊥
unfolding same_kind
no_else (class.Is kind) p q = subst (λ kind. same_kind kind k.Else ≡ true → ⊥) (sym (same_kinds kind k.Name p)) (λ e. cc) q
no_else class.ElseIf p q = absurd (cc)
no_else x p q = absurd (cc)

else_in : (kind : TokenKind) (token : Token) (following : List Token) → is_else_class (class_in kind token following) ≡ true → kind ≡ k.Else
unfolding same_kind
else_in k.Else token following h = refl
else_in k.Name token following h = absurd (no_else (class_in k.Name token following) (name_class token.text following) h)
else_in k.Bang token following h = absurd (either (λ x. is_else_class x ≡ true → ⊥) token.touches class.TouchingBang (class.Is k.Bang) (λ e. cc) (λ e. cc) h)
else_in k.Question token following h = absurd (either (λ x. is_else_class x ≡ true → ⊥) token.touches class.TouchingQuestion _ (λ e. cc)
    (either (λ x. is_else_class x ≡ true → ⊥) token.after_space class.SpacedQuestion (class.Is k.Question) (λ e. cc) (λ e. cc)) h)
else_in k.Minus token following h = absurd (either (λ x. is_else_class x ≡ true → ⊥) (touches_next following) (class.Is k.Minus) class.LooseMinus (λ e. cc) (λ e. cc) h)
else_in kind token following h = absurd (cc)

else_kind : (t : Sighted) → IsGood t → is_else_class t.sight.class ≡ true → t.face.kind ≡ k.Else
else_kind = face_kind (λ x. is_else_class x ≡ true) k.Else else_in

else_if_else : (x : Class) → is_else_if_class x ≡ true → is_else_class x ≡ true
else_if_else class.ElseIf h = refl
else_if_else x h = absurd (cc)

any_passes : (face : Face) (following : List Token) → is_any_else (placed face (seen (token_of (plain k.Else gap.Space)) following)).sight ≡ true
unfolding same_kind
any_passes face following = either (λ x. is_else_class x ≡ true) (is_next k.If following) class.ElseIf (class.Is k.Else) refl refl

else_passes : (face : Face) (following : List Token) → is_next k.If following ≡ false → is_else (placed face (seen (token_of (plain k.Else gap.Space)) following)).sight ≡ true
unfolding same_kind
else_passes face following h = subst (λ b. is k.Else (record { class = if b then class.ElseIf else class.Is k.Else; is_first = false; before_colon = false }) ≡ true) (sym h) refl

else_if_passes : (face : Face) (following : List Token) → is_next k.If following ≡ true → is_else_if (placed face (seen (token_of (plain k.Else gap.Space)) following)).sight ≡ true
else_if_passes face following h = subst (λ b. is_else_if_class (if b then class.ElseIf else class.Is k.Else) ≡ true) (sym h) refl

module _ (D : (s : Nonterminal) → ℕ → ℕ → ℕ → ℕ → List Sighted → Sort s → Type 0) (B : (s : Nonterminal) → ℕ → ℕ → ℕ → ℕ → Sort s → Type 0) where
  -- an `else` before whatever, before no `if`, and before `if`
  pub make_any_else : (following : List Token) (d l c e : ℕ) (x : Face) → BuiltOf B (terminal is_any_else) d l c e x → Made D (terminal is_any_else) d l c e x (plain k.Else gap.Space ∷ []) following
  make_any_else following d l c e x (t, good, passed, ex, ec) =
      make_plain D B is_any_else k.Else gap.Space following d l c e x (was_mark k.Else t x good (else_kind t good passed) ex) refl (any_passes x following) ec

  pub make_else : (following : List Token) → is_next k.If following ≡ false → (d l c e : ℕ) (x : Face) → BuiltOf B (terminal is_else) d l c e x → Made D (terminal is_else) d l c e x (plain k.Else gap.Space ∷ []) following
  make_else following h d l c e x (t, good, passed, ex, ec) =
      make_plain D B is_else k.Else gap.Space following d l c e x (was_mark k.Else t x good (is_kind k.Else t good passed) ex) refl (else_passes x following h) ec

  pub make_else_if : (following : List Token) → is_next k.If following ≡ true → (d l c e : ℕ) (x : Face) → BuiltOf B (terminal is_else_if) d l c e x
      → Made D (terminal is_else_if) d l c e x (plain k.Else gap.Space ∷ []) following
  make_else_if following h d l c e x (t, good, passed, ex, ec) =
      make_plain D B is_else_if k.Else gap.Space following d l c e x (was_mark k.Else t x good (else_kind t good (else_if_else t.sight.class passed)) ex) refl (else_if_passes x following h) ec
