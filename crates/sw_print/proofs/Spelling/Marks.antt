-- The words that are written for single tokens.
use Rattle.std.proofs.Common.{◌≡◌, ℕ, Bool, true, false, List, [], ◌∷◌, sym, ap, subst}
use Rattle.sw_base.specs.declared.ids.Span.{Span}
use Rattle.sw_lex.specs.declared.token.TokenKind.{TokenKind}
use Rattle.sw_lex.specs.declared.token.TokenKind.TheVariants as k
use Rattle.sw_lex.specs.declared.token.Token.{Token}
use Rattle.sw_grammar.specs.Grammar.{terminal}
use Rattle.sw_layout.specs.declared.gap.Gap.{Gap}
use Rattle.sw_layout.specs.Words.{token_of, plain, fixed}
use Rattle.sw_syntax.specs.declared.class.Sight.{Sight}
use Rattle.sw_syntax.specs.Tokens.{Sighted, Face, seen}
use Rattle.sw_syntax.specs.Nonterminals.{Nonterminal, Sort}
use Rattle.sw_syntax.specs.Parts.{P, tok, place, name}
use Rattle.sw_syntax.specs.Grammar.{production}
use Rattle.sw_syntax.specs.Tests.{is}
use Rattle.sw_tree.specs.declared.expr.Name.{Name}
use Rattle.sw_print.specs.Expressions.{name_word}
use Rattle.sw_print.proofs.Spelling.Built.{Built_by}
use Rattle.sw_print.proofs.Spelling.Good.{IsOfKind, IsGood, good_face, is_free, fixed_text}
use Rattle.sw_print.proofs.Spelling.Kinds.{is_kind, name_kind, name_class}
use Rattle.sw_print.proofs.Spelling.Making.{Made, placed, make_mark, make_gives}

-- a value that the part builds of good tokens
abbrev pub BuiltOf : ((s : Nonterminal) → ℕ → ℕ → ℕ → ℕ → Sort s → Type 0) → {A : Type 0} → P A → ℕ → ℕ → ℕ → ℕ → A → Type 0
BuiltOf B a d l c e x = Built_by Sight Face Nonterminal Sort (production false) IsGood B a d l c e x

-- a mark that was a good token of the kind
abbrev pub WasMark : TokenKind → Face → Type 0
WasMark kind x = (x.kind ≡ kind) × IsOfKind x.kind x.text

pub was_mark : (kind : TokenKind) (t : Sighted) (x : Face) → IsGood t → t.face.kind ≡ kind → x ≡ t.face → WasMark kind x
was_mark kind t x good h e = subst (WasMark kind) (sym e) (h, good_face t good)

module _ (D : (s : Nonterminal) → ℕ → ℕ → ℕ → ℕ → List Sighted → Sort s → Type 0) (B : (s : Nonterminal) → ℕ → ℕ → ℕ → ℕ → Sort s → Type 0) where
  -- a reserved word or a mark, by a test that its word passes
  pub make_plain : (f : Sight → Bool) (kind : TokenKind) (g : Gap) (following : List Token) (d l c e : ℕ) (x : Face) → WasMark kind x → is_free kind ≡ false
      → f (placed x (seen (token_of (plain kind g)) following)).sight ≡ true → e ≡ c → Made D (terminal f) d l c e x (plain kind g ∷ []) following
  make_plain f kind g following d l c e x (h, good) fixed_one is same =
      let here : IsOfKind kind x.text = subst (λ kind. IsOfKind kind x.text) h good in
      let text : x.text ≡ fixed kind = fixed_text kind x.text fixed_one here.0 in
      make_mark D (plain kind g) x h text (subst (IsOfKind kind) text here) is same

  -- a token of the kind, that any token of the kind may stand for
  pub make_tok : (kind : TokenKind) (g : Gap) (following : List Token) (d l c e : ℕ) (x : Face) → BuiltOf B (tok kind) d l c e x → is_free kind ≡ false
      → is kind (placed x (seen (token_of (plain kind g)) following)).sight ≡ true → Made D (tok kind) d l c e x (plain kind g ∷ []) following
  make_tok kind g following d l c e x (t, good, passed, ex, ec) fixed_one passes =
      make_plain (is kind) kind g following d l c e x (was_mark kind t x good (is_kind kind t good passed) ex) fixed_one passes ec

  pub make_place : (kind : TokenKind) (g : Gap) (following : List Token) (d l c e : ℕ) (x : Span) → BuiltOf B (place kind) d l c e x → is_free kind ≡ false
      → ((x : Face) → is kind (placed x (seen (token_of (plain kind g)) following)).sight ≡ true) → Made D (place kind) d l c e x (plain kind g ∷ []) following
  make_place kind g following d l c e x (face, p, h) fixed_one passes = make_gives D h (make_tok kind g following d l c e face p fixed_one (passes face))

  pub make_name : (g : Gap) (following : List Token) (d l c e : ℕ) (x : Name) → BuiltOf B name d l c e x → Made D name d l c e x (name_word x g ∷ []) following
  make_name g following d l c e x (face, (t, good, is, ex, ec), h) =
      let was = was_mark k.Name t face good (name_kind t good is) ex in
      make_gives D h (make_mark D (name_word x g) face was.0 (ap (λ x. x.text) (sym h)) (subst (λ text. IsOfKind k.Name text) (ap (λ x. x.text) (sym h)) (subst (λ kind. IsOfKind kind face.text) was.0 was.1))
      (name_class x.text following) ec)
