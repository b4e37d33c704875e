-- What is written for the cases of an enum, and for what they hold, spells them again.
use Rattle.std.proofs.Common.{◌≡◌, ℕ, true, false, not, ◌||◌, ◌&&◌, inl, inr, List, [], ◌∷◌, ◌++◌, map, refl, sym, ap, ◌∙◌, subst}
use Rattle.sw_lex.specs.Bytes.{Text}
use Rattle.sw_lex.specs.Tables.{kind_of_word}
use Rattle.sw_lex.specs.declared.token.TokenKind.{TokenKind}
use Rattle.sw_lex.specs.declared.token.TokenKind.TheVariants as k
use Rattle.sw_lex.specs.declared.token.Token.{Token}
use Rattle.sw_grammar.specs.Grammar.{FirstPasses, nonterminal}
use Rattle.sw_grammar.proofs.Starts.{Starts, or_either, and_halves}
use Rattle.sw_layout.specs.declared.gap.Gap.{Gap}
use Rattle.sw_layout.specs.declared.gap.Gap.TheVariants as gap
use Rattle.sw_layout.specs.Words.{Word, plain, token_of}
use Rattle.sw_places.specs.Places.{unplaced}
use Rattle.sw_tree.specs.declared.types.«Type».{«Type» as TypeTree, map-Type, roll-Type}
use Rattle.sw_tree.specs.declared.types.«Type».TheOpen.{Type-F}
use Rattle.sw_tree.specs.declared.types.«Type».TheFolds.{ind-Type, fold-roll-Type}
use Rattle.sw_syntax.specs.Tokens.{same_kind, is_next, Sighted, Face, seen}
use Rattle.sw_syntax.specs.Nonterminals.{Nonterminal, Sort, Case, Payload, TypeExpr}
use Rattle.sw_syntax.specs.Parts.{any, in_parens}
use Rattle.sw_syntax.specs.Values.{name_of}
use Rattle.sw_syntax.specs.Grammar.{production}
use Rattle.sw_syntax.specs.Tests.{is_name, is_reserved, is_payload_label, is_bare_type, starts_type}
use Rattle.sw_print.specs.Seen.{seen_in}
use Rattle.sw_print.specs.Expressions.{W, word, label_word, in_parens as parens_words, type_words, type_level, mark_gap}
use Rattle.sw_print.specs.Statements.{annotation_words}
use Rattle.sw_print.specs.Declarations.{payload_words, case_words}
use Rattle.sw_print.proofs.Spelling.Good.{IsOfKind, IsGood, good_face, is_wordy, wordy_kind}
use Rattle.sw_print.proofs.Spelling.Kinds.{name_kind, name_class, reserved_kind, reserved_class}
use Rattle.sw_print.proofs.Spelling.Making.{placed, make_both, make_gives, make_left, make_right, make_mark, reword}
use Rattle.sw_print.proofs.Spelling.Marks.{make_name}
use Rattle.sw_print.proofs.Spelling.Texts.{Headed, headed_first, headed_append, no_colon_next}
use Rattle.sw_print.proofs.Spelling.Arguments.{wordy_reserved, by_name, by_reserved, either_word, unlabelled_by}
use Rattle.sw_print.proofs.Spelling.TypeWords.{TypeAgain}
use Rattle.sw_print.proofs.Spelling.DeclParts.{Any, Written, perhaps_made, listed_made, annotation_made}

-- ---- no word of a type's first two is `:`

abbrev WellHeaded : W → Type 0
WellHeaded w = (g : Gap) → Headed (w g)

abbrev Some_type : Type 0
Some_type = (t : TypeTree) × WellHeaded (type_words t)

layer_headed : (x : Type-F Some_type) → WellHeaded (type_level (map-Type Some_type W (λ p. type_words p.0) x))
unfolding same_kind
layer_headed (Type-F.Name name) g = (refl, tt)
layer_headed (Type-F.Member outer name) g = (refl, refl)
layer_headed (Type-F.Array at element) g = (refl, headed_first (type_words element.0 gap.Space) (plain k.RightBracket gap.Space ∷ []) (element.1 gap.Space))
layer_headed (Type-F.Any at name) g = (refl, refl)
layer_headed (Type-F.Void at) g = (refl, refl)
layer_headed (Type-F.Optional wrapped) g = headed_append (type_words wrapped.0 g) (plain k.Question (mark_gap (type_words wrapped.0 g)) ∷ []) (wrapped.1 g) refl

pub type_headed : (t : TypeTree) (g : Gap) → Headed (type_words t g)
type_headed = ind-Type (λ t. WellHeaded (type_words t)) (λ x y is. subst (λ x. WellHeaded (type_words (roll-Type x))) is (node y))
  where
    node : (y : Type-F Some_type) → WellHeaded (type_words (roll-Type (map-Type Some_type TypeTree (λ p. p.0) y)))
    node (Type-F.Name n) = subst WellHeaded (sym (fold-roll-Type W type_level (map-Type Some_type TypeTree (λ p. p.0) (Type-F.Name n)))) (layer_headed (Type-F.Name n))
    node (Type-F.Member n m) = subst WellHeaded (sym (fold-roll-Type W type_level (map-Type Some_type TypeTree (λ p. p.0) (Type-F.Member n m)))) (layer_headed (Type-F.Member n m))
    node (Type-F.Array at x) = subst WellHeaded (sym (fold-roll-Type W type_level (map-Type Some_type TypeTree (λ p. p.0) (Type-F.Array at x)))) (layer_headed (Type-F.Array at x))
    node (Type-F.Any at n) = subst WellHeaded (sym (fold-roll-Type W type_level (map-Type Some_type TypeTree (λ p. p.0) (Type-F.Any at n)))) (layer_headed (Type-F.Any at n))
    node (Type-F.Void at) = subst WellHeaded (sym (fold-roll-Type W type_level (map-Type Some_type TypeTree (λ p. p.0) (Type-F.Void at)))) (layer_headed (Type-F.Void at))
    node (Type-F.Optional x) = subst WellHeaded (sym (fold-roll-Type W type_level (map-Type Some_type TypeTree (λ p. p.0) (Type-F.Optional x)))) (layer_headed (Type-F.Optional x))

-- ---- labels

label_wordy : (t : Sighted) → IsGood t → is_payload_label t.sight ≡ true → is_wordy t.face.kind ≡ true
label_wordy t good passed = elim (or_either (is_name t.sight && t.sight.before_colon) (is_reserved t.sight && (t.sight.before_colon || not (starts_type t.sight))) passed) [
  | inl p ↦ ap is_wordy (name_kind t good (and_halves (is_name t.sight) t.sight.before_colon p).0)
  | inr p ↦ wordy_reserved t.face.kind (reserved_kind t good (and_halves (is_reserved t.sight) (t.sight.before_colon || not (starts_type t.sight)) p).0)
]

-- the word of a label, before `:`, is one
label_passes : (kind : TokenKind) (text : Text) (g : Gap) (following : List Token) (face : Face) → is_wordy kind ≡ true → is_next k.Colon following ≡ true
    → is_payload_label (placed face (seen (token_of (word kind text g)) following)).sight ≡ true
label_passes kind text g following face h next =
    let t : Sighted = placed face (seen (token_of (word kind text g)) following) in
    elim (either_word kind h) [
      | inl e ↦ by_name (is_name t.sight) (is_reserved t.sight) t.sight.before_colon (starts_type t.sight) next
          (ap (λ kind. is_name (placed face (seen (token_of (word kind text g)) following)).sight) e ∙ name_class text following)
      | inr p ↦ by_reserved (is_name t.sight) (is_reserved t.sight) t.sight.before_colon (starts_type t.sight) next (reserved_class kind (token_of (word kind text g)) following p)
    ]

-- what is seen of a type before anything but `:` does not begin with a label
heads_bare : (words : List Word) (following : List Token) (run : List Sighted) → Headed words → is_next k.Colon following ≡ false → map unplaced run ≡ map unplaced (seen_in words following)
    → Starts false starts_type run → FirstPasses is_bare_type run
heads_bare [] following run headed none alike starts = elim headed [ ]
heads_bare (w ∷ words) following [] headed none alike starts = tt
heads_bare (w ∷ words) following (t ∷ run) headed none alike starts =
    let same : unplaced t ≡ unplaced (seen (token_of w) (map token_of words ++ following)) = first_same _ _ _ _ alike in
    unlabelled_by (is_name t.sight) (is_reserved t.sight) t.sight.before_colon (starts_type t.sight) (ap (λ t. t.sight.before_colon) same ∙ no_colon_next words following headed.1 none) starts
  where
    first_same : {A : Type 0} (a b : A) (u v : List A) → (a ∷ u) ≡ (b ∷ v) → a ≡ b
    first_same a b u v h = cc

-- the next token is not `:`
abbrev pub Uncoloned : List Token → Type 0
Uncoloned following = is_next k.Colon following ≡ false

module _ (D : (s : Nonterminal) → ℕ → ℕ → ℕ → ℕ → List Sighted → Sort s → Type 0) (B : (s : Nonterminal) → ℕ → ℕ → ℕ → ℕ → Sort s → Type 0) where
  -- what is written for each payload spells it, where no `:` follows
  abbrev pub PayloadAgain : Type 0
  PayloadAgain = Written D B Uncoloned (nonterminal Payload) payload_words

  -- (name :)? type
  pub payload_again : TypeAgain D B (nonterminal TypeExpr) → ((d l c e : ℕ) (u : List Sighted) (x : TypeTree) → D TypeExpr d l c e u x → Starts false starts_type u) → Written D B Uncoloned (production false Payload) payload_words
  unfolding same_kind
  payload_again types starts d l c e y (inl ((t, x), (m, (s, good, passed, ex, ec), q), h)) g following none =
      let wordy : is_wordy t.kind ≡ true = ap (λ t. is_wordy t.kind) ex ∙ label_wordy s good passed in
      let its : IsOfKind t.kind t.text = subst (λ t. IsOfKind t.kind t.text) (sym ex) (good_face s good) in
      let kinds : kind_of_word t.text ≡ t.kind = wordy_kind t.kind t.text wordy its.0 in
      make_left D (make_gives D h (reword D (ap (λ y. payload_words y g) h)
      (make_both D
      (make_mark D (label_word (name_of t) g) t (sym kinds) refl (subst (λ kind. IsOfKind kind t.text) (sym kinds) its)
      (label_passes (kind_of_word t.text) t.text g (map token_of (annotation_words x) ++ following) t (ap is_wordy kinds ∙ wordy) refl) ec)
      (annotation_made D B types d l m e x q following tt))))
  payload_again types starts d l c e y (inr (x, (m, p, same), h)) g following none =
      let inside = types d l l m x p g following in
      make_right D (make_gives D h (reword D (ap (λ y. payload_words y g) h) (record {
        good = inside.good;
        run = inside.run;
        alike = inside.alike;
        derives = (heads_bare (type_words x g) following inside.run (type_headed x g) none inside.alike (starts d l l m inside.run x inside.derives), (m, inside.derives, same));
      })))

  -- what is written for each case spells it
  abbrev pub CaseAgain : Type 0
  CaseAgain = Written D B Any (nonterminal Case) case_words

  -- name (( (name :)? type ,* ))?
  pub case_again : PayloadAgain → Written D B Any (production false Case) case_words
  unfolding same_kind
  case_again payloads d l c e y (x, (m, p, q), h) g following ok =
      make_gives D h (reword D (ap (λ y. case_words y g) h) (make_both D (make_name D B g _ d l c m x.0 p)
      (perhaps_made D B (in_parens (any (nonterminal Payload))) (λ xs. parens_words (map payload_words xs)) Any
      (listed_made D B (nonterminal Payload) payload_words Uncoloned (λ rest. refl) (λ rest. refl) payloads) d l m e x.1 q following tt)))
