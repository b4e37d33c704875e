-- The marks of assignments and ranges, and the words that are written for them.
use Rattle.std.proofs.Common.{◌≡◌, ℕ, Bool, true, false, ◌||◌, inl, inr, List, [], ◌∷◌, refl, ap, ◌∙◌}
use Rattle.sw_lex.specs.declared.token.TokenKind.{TokenKind}
use Rattle.sw_lex.specs.declared.token.TokenKind.TheVariants as k
use Rattle.sw_lex.specs.declared.token.Token.{Token}
use Rattle.sw_grammar.specs.Grammar.{terminal}
use Rattle.sw_layout.specs.declared.gap.Gap.TheVariants as gap
use Rattle.sw_layout.specs.Words.{plain, token_of}
use Rattle.sw_syntax.specs.declared.class.Sight.{Sight}
use Rattle.sw_syntax.specs.Tokens.{same_kind, Sighted, Face, seen}
use Rattle.sw_syntax.specs.Nonterminals.{Nonterminal, Sort}
use Rattle.sw_syntax.specs.Tests.{is, is_assignment, is_range}
use Rattle.sw_syntax.specs.Values.{assign_of, range_of}
use Rattle.sw_grammar.proofs.Starts.{or_either}
use Rattle.sw_print.specs.Statements.{assign_mark, range_mark}
use Rattle.sw_print.proofs.Spelling.Good.{IsGood, is_free}
use Rattle.sw_print.proofs.Spelling.Kinds.{is_kind}
use Rattle.sw_print.proofs.Spelling.Making.{Made, placed, reword}
use Rattle.sw_print.proofs.Spelling.Marks.{BuiltOf, was_mark, make_plain}

-- a mark that passes the test; written again by its kind, it is the same, and passes too
record IsMark (f : Sight → Bool) (again : TokenKind → TokenKind) (t : Sighted) : Type 0 where
  kind : TokenKind
  its : t.face.kind ≡ kind
  back : again kind ≡ kind
  one_text : is_free kind ≡ false
  passes : (x : Face) (following : List Token) → f (placed x (seen (token_of (plain kind gap.Space)) following)).sight ≡ true

abbrev assign_again : TokenKind → TokenKind
assign_again kind = assign_mark (assign_of kind)

abbrev range_again : TokenKind → TokenKind
range_again kind = range_mark (range_of kind)

assignment : (t : Sighted) → IsGood t → is_assignment t.sight ≡ true → IsMark is_assignment assign_again t
unfolding same_kind
assignment t good passed = elim (or_either (is k.Assign t.sight) _ passed) [
  | inl p ↦ record { kind = k.Assign; its = is_kind k.Assign t good p; back = refl; one_text = refl; passes = λ x following. refl }
  | inr p ↦ second p
]
  where
    last : ((is k.SlashAssign t.sight || is k.PercentAssign t.sight) ≡ true) → IsMark is_assignment assign_again t
    last p = elim (or_either (is k.SlashAssign t.sight) _ p) [
      | inl p ↦ record { kind = k.SlashAssign; its = is_kind k.SlashAssign t good p; back = refl; one_text = refl; passes = λ x following. refl }
      | inr p ↦ record { kind = k.PercentAssign; its = is_kind k.PercentAssign t good p; back = refl; one_text = refl; passes = λ x following. refl }
    ]

    third : ((is k.MinusAssign t.sight || (is k.StarAssign t.sight || (is k.SlashAssign t.sight || is k.PercentAssign t.sight))) ≡ true) → IsMark is_assignment assign_again t
    third p = elim (or_either (is k.MinusAssign t.sight) _ p) [
      | inl p ↦ record { kind = k.MinusAssign; its = is_kind k.MinusAssign t good p; back = refl; one_text = refl; passes = λ x following. refl }
      | inr p ↦ elim (or_either (is k.StarAssign t.sight) _ p) [
        | inl p ↦ record { kind = k.StarAssign; its = is_kind k.StarAssign t good p; back = refl; one_text = refl; passes = λ x following. refl }
        | inr p ↦ last p
      ]
    ]

    second : ((is k.PlusAssign t.sight || (is k.MinusAssign t.sight || (is k.StarAssign t.sight || (is k.SlashAssign t.sight || is k.PercentAssign t.sight)))) ≡ true) → IsMark is_assignment assign_again t
    second p = elim (or_either (is k.PlusAssign t.sight) _ p) [
      | inl p ↦ record { kind = k.PlusAssign; its = is_kind k.PlusAssign t good p; back = refl; one_text = refl; passes = λ x following. refl }
      | inr p ↦ third p
    ]

range_end : (t : Sighted) → IsGood t → is_range t.sight ≡ true → IsMark is_range range_again t
unfolding same_kind
range_end t good passed = elim (or_either (is k.HalfOpenRange t.sight) (is k.Ellipsis t.sight) passed) [
  | inl p ↦ record { kind = k.HalfOpenRange; its = is_kind k.HalfOpenRange t good p; back = refl; one_text = refl; passes = λ x following. refl }
  | inr p ↦ record { kind = k.Ellipsis; its = is_kind k.Ellipsis t good p; back = refl; one_text = refl; passes = λ x following. refl }
]

module _ (D : (s : Nonterminal) → ℕ → ℕ → ℕ → ℕ → List Sighted → Sort s → Type 0) (B : (s : Nonterminal) → ℕ → ℕ → ℕ → ℕ → Sort s → Type 0) where
  make_marked : (f : Sight → Bool) (again : TokenKind → TokenKind) → ((t : Sighted) → IsGood t → f t.sight ≡ true → IsMark f again t)
      → (following : List Token) (d l c e : ℕ) (x : Face) → BuiltOf B (terminal f) d l c e x → Made D (terminal f) d l c e x (plain (again x.kind) gap.Space ∷ []) following
  make_marked f again told following d l c e x (t, good, is, ex, ec) =
      let one = told t good is in
      let was = was_mark one.kind t x good one.its ex in
      reword D (ap (λ kind. plain kind gap.Space ∷ []) (ap again was.0 ∙ one.back)) (make_plain D B f one.kind gap.Space following d l c e x was one.one_text (one.passes x following) ec)

  pub make_assignment : (following : List Token) (d l c e : ℕ) (x : Face) → BuiltOf B (terminal is_assignment) d l c e x
      → Made D (terminal is_assignment) d l c e x (plain (assign_mark (assign_of x.kind)) gap.Space ∷ []) following
  make_assignment = make_marked is_assignment assign_again assignment

  pub make_range : (following : List Token) (d l c e : ℕ) (x : Face) → BuiltOf B (terminal is_range) d l c e x
      → Made D (terminal is_range) d l c e x (plain (range_mark (range_of x.kind)) gap.Space ∷ []) following
  make_range = make_marked is_range range_again range_end
