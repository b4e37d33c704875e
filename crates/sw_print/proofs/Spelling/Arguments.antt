-- What is written for an argument spells it again: it has a label just where the tree has one.
use Rattle.std.proofs.Common.{◌≡◌, ℕ, Bool, true, false, not, ◌||◌, ◌&&◌, ◌⊎◌, inl, inr, List, [], ◌∷◌, ◌++◌, map, refl, sym, ap, ◌∙◌, subst}
use Rattle.sw_lex.specs.Bytes.{Text}
use Rattle.sw_lex.specs.Tables.{kind_of_word}
use Rattle.sw_lex.specs.declared.token.TokenKind.{TokenKind}
use Rattle.sw_lex.specs.declared.token.TokenKind.TheVariants as k
use Rattle.sw_lex.specs.declared.token.Token.{Token}
use Rattle.sw_grammar.specs.Grammar.{FirstPasses, nonterminal}
use Rattle.sw_grammar.proofs.Starts.{Starts, or_either, and_halves}
use Rattle.sw_layout.specs.declared.gap.Gap.{Gap}
use Rattle.sw_layout.specs.declared.gap.Gap.TheVariants as gap
use Rattle.sw_layout.specs.Words.{Word, plain, token_of}
use Rattle.sw_places.specs.Places.{unplaced}
use Rattle.sw_tree.specs.declared.expr.Expr.{Expr as ExprTree}
use Rattle.sw_syntax.specs.Tokens.{same_kind, is_next, Sighted, Face, seen}
use Rattle.sw_syntax.specs.Nonterminals.{Nonterminal, Sort, Expr, Argument}
use Rattle.sw_syntax.specs.Grammar.{production}
use Rattle.sw_syntax.specs.Tests.{is_name, is_reserved, is_reserved_kind, is_label, is_unlabelled, starts_expr}
use Rattle.sw_syntax.specs.Values.{name_of}
use Rattle.sw_print.specs.Seen.{seen_in}
use Rattle.sw_print.specs.Expressions.{word, label_word, expr_words, argument_words}
use Rattle.sw_print.proofs.Spelling.Good.{IsOfKind, IsGood, good_face, is_wordy, wordy_kind}
use Rattle.sw_print.proofs.Spelling.Kinds.{name_kind, name_class, reserved_kind, reserved_class}
use Rattle.sw_print.proofs.Spelling.Making.{placed, make_both, make_gives, make_left, make_right, make_mark, make_when, reword}
use Rattle.sw_print.proofs.Spelling.Marks.{make_tok}
use Rattle.sw_print.proofs.Spelling.Texts.{Headed, no_colon_next, PartAgain}
use Rattle.sw_print.proofs.Spelling.Postfixes.{ArgumentAgain}

-- ---- labels

pub wordy_reserved : (kind : TokenKind) → is_reserved_kind kind ≡ true → is_wordy kind ≡ true
wordy_reserved k.Name h = refl
wordy_reserved kind h = h

label_wordy : (t : Sighted) → IsGood t → is_label t.sight ≡ true → is_wordy t.face.kind ≡ true
label_wordy t good passed = elim (or_either (is_name t.sight && t.sight.before_colon) (is_reserved t.sight && (t.sight.before_colon || not (starts_expr t.sight))) passed) [
  | inl p ↦ ap is_wordy (name_kind t good (and_halves (is_name t.sight) t.sight.before_colon p).0)
  | inr p ↦ wordy_reserved t.face.kind (reserved_kind t good (and_halves (is_reserved t.sight) (t.sight.before_colon || not (starts_expr t.sight)) p).0)
]

pub by_name : (n r b s : Bool) → b ≡ true → n ≡ true → ((n && b) || (r && (b || not s))) ≡ true
by_name true r true s p q = refl
by_name true r false s p q = cc
by_name false r b s p q = cc

pub by_reserved : (n r b s : Bool) → b ≡ true → r ≡ true → ((n && b) || (r && (b || not s))) ≡ true
by_reserved true true true s p q = refl
by_reserved false true true s p q = refl
by_reserved n true false s p q = cc
by_reserved n false b s p q = cc

pub either_word : (kind : TokenKind) → is_wordy kind ≡ true → (kind ≡ k.Name) ⊎ (is_reserved_kind kind ≡ true)
either_word k.Name h = inl refl
either_word kind h = inr h

-- the word of a label, before `:`, is one
label_passes : (kind : TokenKind) (text : Text) (g : Gap) (following : List Token) (face : Face) → is_wordy kind ≡ true → is_next k.Colon following ≡ true
    → is_label (placed face (seen (token_of (word kind text g)) following)).sight ≡ true
label_passes kind text g following face h next =
    let t : Sighted = placed face (seen (token_of (word kind text g)) following) in
    elim (either_word kind h) [
      | inl e ↦ by_name (is_name t.sight) (is_reserved t.sight) t.sight.before_colon (starts_expr t.sight) next
          (ap (λ kind. is_name (placed face (seen (token_of (word kind text g)) following)).sight) e ∙ name_class text following)
      | inr p ↦ by_reserved (is_name t.sight) (is_reserved t.sight) t.sight.before_colon (starts_expr t.sight) next (reserved_class kind (token_of (word kind text g)) following p)
    ]

-- ---- what has no label

pub unlabelled_by : (n r b s : Bool) → b ≡ false → s ≡ true → not ((n && b) || (r && (b || not s))) ≡ true
unlabelled_by n r true s p q = cc
unlabelled_by n r b false p q = cc
unlabelled_by true true false true p q = refl
unlabelled_by true false false true p q = refl
unlabelled_by false true false true p q = refl
unlabelled_by false false false true p q = refl

first_same : {A : Type 0} (a b : A) (u v : List A) → (a ∷ u) ≡ (b ∷ v) → a ≡ b
first_same a b u v h = cc

heads_unlabelled : (words : List Word) (following : List Token) (run : List Sighted) → Headed words → is_next k.Colon following ≡ false → map unplaced run ≡ map unplaced (seen_in words following)
    → Starts false starts_expr run → FirstPasses is_unlabelled run
heads_unlabelled [] following run headed none alike starts = elim headed [ ]
heads_unlabelled (w ∷ words) following [] headed none alike starts = tt
heads_unlabelled (w ∷ words) following (t ∷ run) headed none alike starts =
    let same : unplaced t ≡ unplaced (seen (token_of w) (map token_of words ++ following)) = first_same _ _ _ _ alike in
    unlabelled_by (is_name t.sight) (is_reserved t.sight) t.sight.before_colon (starts_expr t.sight) (ap (λ t. t.sight.before_colon) same ∙ no_colon_next words following headed.1 none) starts

module _ (D : (s : Nonterminal) → ℕ → ℕ → ℕ → ℕ → List Sighted → Sort s → Type 0) (B : (s : Nonterminal) → ℕ → ℕ → ℕ → ℕ → Sort s → Type 0) where
  -- arg = (name :)? expr
  pub argument_rule : PartAgain D B (nonterminal Expr) → ((d l c e : ℕ) (u : List Sighted) (x : ExprTree) → D Expr d l c e u x → Starts false starts_expr u) → ArgumentAgain D B (production false Argument)
  unfolding same_kind
  argument_rule within starts d l c e y (inl ((t, x), (m, (s, good, passed, ex, ec), ((colon, z), (m2, q, r), same)), h)) g following none =
      let last = within d l m2 e z r gap.Space following in
      let wordy : is_wordy t.kind ≡ true = ap (λ t. is_wordy t.kind) ex ∙ label_wordy s good passed in
      let its : IsOfKind t.kind t.text = subst (λ t. IsOfKind t.kind t.text) (sym ex) (good_face s good) in
      let kinds : kind_of_word t.text ≡ t.kind = wordy_kind t.kind t.text wordy its.0 in
      make_left D (make_gives D h (reword D (ap (λ y. argument_words y g) h ∙ ap (λ x. label_word (name_of t) g ∷ plain k.Colon gap.Space ∷ expr_words x gap.Space) same)
      (make_both D
      (make_mark D (label_word (name_of t) g) t (sym kinds) refl (subst (λ kind. IsOfKind kind t.text) (sym kinds) its)
      (label_passes (kind_of_word t.text) t.text g (map token_of (plain k.Colon gap.Space ∷ expr_words z gap.Space) ++ following) t (ap is_wordy kinds ∙ wordy) refl) ec)
      (make_gives D same (make_both D (make_tok D B k.Colon gap.Space _ d l m m2 colon q refl refl) last.made)))))
  argument_rule within starts d l c e y (inr (x, p, h)) g following none =
      let inside = within d l c e x p g following in
      make_right D (make_gives D h (reword D (ap (λ y. argument_words y g) h) (make_when D inside.made
      (heads_unlabelled (expr_words x g) following inside.made.run inside.headed none inside.made.alike (starts d l c e inside.made.run x inside.made.derives)))))
