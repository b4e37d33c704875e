-- The marks of operators and signs, and the words that are written for them.
use Rattle.std.proofs.Common.{◌≡◌, ℕ, zero, suc, Bool, true, false, ◌||◌, ◌&&◌, ◌⊎◌, inl, inr, if◌then◌else◌, List, [], ◌∷◌, refl, ap, ◌∙◌}
use Rattle.sw_lex.specs.declared.token.TokenKind.{TokenKind}
use Rattle.sw_lex.specs.declared.token.TokenKind.TheVariants as k
use Rattle.sw_lex.specs.declared.token.Token.{Token}
use Rattle.sw_grammar.specs.Grammar.{terminal}
use Rattle.sw_grammar.proofs.Starts.{or_either, and_halves}
use Rattle.sw_layout.specs.declared.gap.Gap.TheVariants as gap
use Rattle.sw_layout.specs.Words.{plain, token_of}
use Rattle.sw_syntax.specs.Tokens.{same_kind, touches_next, Sighted, Face, seen}
use Rattle.sw_syntax.specs.declared.class.Class.TheVariants as class
use Rattle.sw_syntax.specs.Nonterminals.{Nonterminal, Sort}
use Rattle.sw_syntax.specs.Tests.{is, is_of, is_binary, is_minus_class, is_loose_minus_class}
use Rattle.sw_syntax.specs.Values.{binary_of}
use Rattle.sw_print.specs.Expressions.{mark_of}
use Rattle.sw_print.proofs.Spelling.Good.{IsGood, is_free}
use Rattle.sw_print.proofs.Spelling.Kinds.{is_kind, minus_kind}
use Rattle.sw_print.proofs.Spelling.Making.{Made, placed, reword}
use Rattle.sw_print.proofs.Spelling.Marks.{BuiltOf, was_mark, make_plain}

-- a mark of this strength, and its word
pub record IsOperator (n : ℕ) (t : Sighted) : Type 0 where
  pub kind : TokenKind
  pub its : t.face.kind ≡ kind
  pub back : mark_of (binary_of kind) ≡ kind
  pub one_text : is_free kind ≡ false
  pub passes : (x : Face) (following : List Token) → is_binary n (placed x (seen (token_of (plain kind gap.Space)) following)).sight ≡ true
  pub no_colon : same_kind kind k.Colon ≡ false

minus_passes : (x : Face) (following : List Token) → is_binary 4 (placed x (seen (token_of (plain k.Minus gap.Space)) following)).sight ≡ true
unfolding same_kind
minus_passes x following = go (touches_next following)
  where
    go : (b : Bool) → (is_of k.Plus (if b then class.Is k.Minus else class.LooseMinus) || (is_minus_class (if b then class.Is k.Minus else class.LooseMinus) && (true || is_loose_minus_class (if b then class.Is k.Minus else class.LooseMinus)))) ≡ true
    go true = refl
    go false = refl

pub operator : (n : ℕ) (t : Sighted) → IsGood t → is_binary n t.sight ≡ true → IsOperator n t
unfolding same_kind
operator zero t good is = record { kind = k.Or; its = is_kind k.Or t good is; back = refl; one_text = refl; passes = λ x following. refl; no_colon = refl }
operator (suc zero) t good is = record { kind = k.And; its = is_kind k.And t good is; back = refl; one_text = refl; passes = λ x following. refl; no_colon = refl }
operator (suc (suc zero)) t good passed = go (or_either _ _ passed)
  where
    last : ((is k.Greater t.sight || is k.GreaterEqual t.sight) ≡ true) → IsOperator 2 t
    last p = elim (or_either _ _ p) [
      | inl p ↦ record { kind = k.Greater; its = is_kind k.Greater t good p; back = refl; one_text = refl; passes = λ x following. refl; no_colon = refl }
      | inr p ↦ record { kind = k.GreaterEqual; its = is_kind k.GreaterEqual t good p; back = refl; one_text = refl; passes = λ x following. refl; no_colon = refl }
    ]

    less : ((is k.Less t.sight || (is k.LessEqual t.sight || (is k.Greater t.sight || is k.GreaterEqual t.sight))) ≡ true) → IsOperator 2 t
    less p = elim (or_either _ _ p) [
      | inl p ↦ record { kind = k.Less; its = is_kind k.Less t good p; back = refl; one_text = refl; passes = λ x following. refl; no_colon = refl }
      | inr p ↦ elim (or_either _ _ p) [
        | inl p ↦ record { kind = k.LessEqual; its = is_kind k.LessEqual t good p; back = refl; one_text = refl; passes = λ x following. refl; no_colon = refl }
        | inr p ↦ last p
      ]
    ]

    go : (is k.EqualEqual t.sight ≡ true) ⊎ ((is k.NotEqual t.sight || (is k.Less t.sight || (is k.LessEqual t.sight || (is k.Greater t.sight || is k.GreaterEqual t.sight)))) ≡ true) → IsOperator 2 t
    go (inl p) = record { kind = k.EqualEqual; its = is_kind k.EqualEqual t good p; back = refl; one_text = refl; passes = λ x following. refl; no_colon = refl }
    go (inr p) = elim (or_either _ _ p) [
      | inl p ↦ record { kind = k.NotEqual; its = is_kind k.NotEqual t good p; back = refl; one_text = refl; passes = λ x following. refl; no_colon = refl }
      | inr p ↦ less p
    ]
operator (suc (suc (suc zero))) t good is = record { kind = k.Coalesce; its = is_kind k.Coalesce t good is; back = refl; one_text = refl; passes = λ x following. refl; no_colon = refl }
operator (suc (suc (suc (suc zero)))) t good passed = elim (or_either _ _ passed) [
  | inl p ↦ record { kind = k.Plus; its = is_kind k.Plus t good p; back = refl; one_text = refl; passes = λ x following. refl; no_colon = refl }
  | inr p ↦ record { kind = k.Minus; its = minus_kind t good (and_halves _ _ p).0; back = refl; one_text = refl; passes = minus_passes; no_colon = refl }
]
operator (suc (suc (suc (suc (suc n))))) t good passed = elim (or_either _ _ passed) [
  | inl p ↦ record { kind = k.Star; its = is_kind k.Star t good p; back = refl; one_text = refl; passes = λ x following. refl; no_colon = refl }
  | inr p ↦ elim (or_either _ _ p) [
    | inl p ↦ record { kind = k.Slash; its = is_kind k.Slash t good p; back = refl; one_text = refl; passes = λ x following. refl; no_colon = refl }
    | inr p ↦ record { kind = k.Percent; its = is_kind k.Percent t good p; back = refl; one_text = refl; passes = λ x following. refl; no_colon = refl }
  ]
]

module _ (D : (s : Nonterminal) → ℕ → ℕ → ℕ → ℕ → List Sighted → Sort s → Type 0) (B : (s : Nonterminal) → ℕ → ℕ → ℕ → ℕ → Sort s → Type 0) where
  pub make_operator : (n : ℕ) (following : List Token) (d l c e : ℕ) (x : Face) → BuiltOf B (terminal (is_binary n)) d l c e x
      → (same_kind (mark_of (binary_of x.kind)) k.Colon ≡ false) × Made D (terminal (is_binary n)) d l c e x (plain (mark_of (binary_of x.kind)) gap.Space ∷ []) following
  make_operator n following d l c e x (t, good, is, ex, ec) =
      let op = operator n t good is in
      let was = was_mark op.kind t x good op.its ex in
      let same : mark_of (binary_of x.kind) ≡ op.kind = ap (λ kind. mark_of (binary_of kind)) was.0 ∙ op.back in (
        ap (λ kind. same_kind kind k.Colon) same ∙ op.no_colon,
        reword D (ap (λ kind. plain kind gap.Space ∷ []) same) (make_plain D B (is_binary n) op.kind gap.Space following d l c e x was op.one_text (op.passes x following) ec),
      )
