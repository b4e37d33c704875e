-- Words that are reserved in some places only: `actor`, `get` and some modifiers; and what is written for modifiers.
use Rattle.std.proofs.Common.{◌≡◌, ℕ, Bool, true, false, if◌then◌else◌, List, [], ◌∷◌, ◌++◌, codes, refl, sym, ap, ◌∙◌, subst}
use Rattle.std.specs.Cmp.Lexicographic.{same_text}
use Rattle.sw_lex.specs.Bytes.{Text}
use Rattle.sw_lex.specs.Tables.{is_same_text}
use Rattle.sw_lex.specs.declared.token.TokenKind.{TokenKind}
use Rattle.sw_lex.specs.declared.token.TokenKind.TheVariants as k
use Rattle.sw_lex.specs.declared.token.Token.{Token}
use Rattle.sw_grammar.specs.Grammar.{terminal}
use Rattle.sw_layout.specs.declared.gap.Gap.{Gap}
use Rattle.sw_layout.specs.declared.gap.Gap.TheVariants as gap
use Rattle.sw_layout.specs.Words.{Word, token_of}
use Rattle.sw_tree.specs.declared.decl.Modifier.{Modifier}
use Rattle.sw_tree.specs.declared.decl.ModifierKind.{ModifierKind}
use Rattle.sw_tree.specs.declared.decl.ModifierKind.TheVariants as modifier
use Rattle.sw_syntax.specs.declared.class.Sight.{Sight}
use Rattle.sw_syntax.specs.declared.class.Class.{Class}
use Rattle.sw_syntax.specs.declared.class.Class.TheVariants as class
use Rattle.sw_syntax.specs.Tokens.{class_of_name, class_in, is_next, touches_next, Sighted, Face, seen}
use Rattle.sw_syntax.specs.Nonterminals.{Nonterminal, Sort}
use Rattle.sw_syntax.specs.Forms.{modifier_in, modifier_of}
use Rattle.sw_syntax.specs.Tests.{is_modifier, is_modifier_class, is_actor, is_actor_class, is_get, is_get_class, is_getter, is_get_block_class}
use Rattle.sw_syntax.specs.Grammar.{mods}
use Rattle.sw_print.specs.Expressions.{W}
use Rattle.sw_print.specs.Declarations.{contextual, modifier_word, modified}
use Rattle.sw_print.proofs.Spelling.Good.{IsOfKind, IsGood, fixed_text}
use Rattle.sw_print.proofs.Spelling.Making.{Made, placed, make_gives, make_nil, make_cons, make_mark, reword}
use Rattle.sw_print.proofs.Spelling.Marks.{BuiltOf}
use Rattle.sw_print.proofs.Spelling.DeclParts.{Any, Written}

-- either value, with what told it
pub choose : {A : Type 0} (P : A → Type 0) (b : Bool) (x y : A) → (b ≡ true → P x) → (b ≡ false → P y) → P (if b then x else y)
choose P true x y p q = p refl
choose P false x y p q = q refl

-- What a test tells of the kind and the text of a token: the test is one of its class.
abbrev Tells : (Class → Bool) → (TokenKind → Text → Type 0) → Type 0
Tells f Q = (kind : TokenKind) (token : Token) (following : List Token) → f (class_in kind token following) ≡ true → Q kind token.text

-- what is told of the kind and the text of a good token, its face has, and they go together
told : (f : Class → Bool) (Q : TokenKind → Text → Type 0) → Tells f Q → (t : Sighted) (x : Face) → IsGood t → f t.sight.class ≡ true → x ≡ t.face → Q x.kind x.text × IsOfKind x.kind x.text
told f Q tells t x (token, following, e, fits) p same =
    let its : x ≡ (seen token following).face = same ∙ ap (λ t. t.face) e in
    subst (λ x. Q x.kind x.text × IsOfKind x.kind x.text) (sym its) (tells token.kind token following (subst (λ t. f t.sight.class ≡ true) e p), fits)

-- ---- names that are told by their texts

-- the class of a name that passes is one of those that its text may have
name_tells : (f : Class → Bool) (P : Text → Type 0) (text : Text) (following : List Token)
    → (f class.Actor ≡ true → P (codes "actor")) → (f class.Distributed ≡ true → P (codes "distributed")) → (f class.Nonisolated ≡ true → P (codes "nonisolated"))
    → (f class.Mutating ≡ true → P (codes "mutating")) → (f class.Final ≡ true → P (codes "final")) → (f class.Get ≡ true → P (codes "get")) → (f class.GetBlock ≡ true → P (codes "get"))
    → f (class.Is k.Name) ≡ false → f (class_of_name text following) ≡ true → P text
name_tells f P text following actor distributed nonisolated mutating final get getter none =
    let Q : Class → Type 0 = λ c. f c ≡ true → P text in
    choose Q (is_same_text text (codes "actor")) _ _ (its (codes "actor") class.Actor actor) (λ n. choose Q (is_same_text text (codes "distributed")) _ _ (its (codes "distributed") class.Distributed distributed)
    (λ n. choose Q (is_same_text text (codes "nonisolated")) _ _ (its (codes "nonisolated") class.Nonisolated nonisolated) (λ n. choose Q (is_same_text text (codes "mutating")) _ _ (its (codes "mutating") class.Mutating mutating)
    (λ n. choose Q (is_same_text text (codes "final")) _ _ (its (codes "final") class.Final final) (λ n. choose Q (is_same_text text (codes "get")) _ _
    (λ e. choose Q (is_next k.LeftBrace following) _ _ (λ n. its (codes "get") class.GetBlock getter e) (λ n. its (codes "get") class.Get get e)) (λ n p. absurd (cc)))))))
  where
    its : (word : Text) (c : Class) → (f c ≡ true → P word) → is_same_text text word ≡ true → f c ≡ true → P text
    its word c h e p = subst P (sym (same_text text word (sym e))) (h p)

-- a class that only names have
not_else : (f : Class → Bool) → f class.ElseIf ≡ false → f (class.Is k.Else) ≡ false → (b : Bool) → f (if b then class.ElseIf else class.Is k.Else) ≡ true → ⊥
not_else f p q true h = absurd (cc)
not_else f p q false h = absurd (cc)

not_bang : (f : Class → Bool) → f class.TouchingBang ≡ false → f (class.Is k.Bang) ≡ false → (b : Bool) → f (if b then class.TouchingBang else class.Is k.Bang) ≡ true → ⊥
not_bang f p q true h = absurd (cc)
not_bang f p q false h = absurd (cc)

not_question : (f : Class → Bool) → f class.TouchingQuestion ≡ false → f class.SpacedQuestion ≡ false → f (class.Is k.Question) ≡ false → (a b : Bool)
    → f (if a then class.TouchingQuestion else (if b then class.SpacedQuestion else class.Is k.Question)) ≡ true → ⊥
not_question f p q r true b h = absurd (cc)
not_question f p q r false true h = absurd (cc)
not_question f p q r false false h = absurd (cc)

not_minus : (f : Class → Bool) → f (class.Is k.Minus) ≡ false → f class.LooseMinus ≡ false → (b : Bool) → f (if b then class.Is k.Minus else class.LooseMinus) ≡ true → ⊥
not_minus f p q true h = absurd (cc)
not_minus f p q false h = absurd (cc)

-- a name with this text
abbrev IsName : Text → TokenKind → Text → Type 0
IsName word kind text = (kind ≡ k.Name) × (text ≡ word)

actor_tells : Tells is_actor_class (IsName (codes "actor"))
actor_tells k.Name token following h = name_tells is_actor_class (IsName (codes "actor") k.Name) token.text following
    (λ p. (refl, refl)) (λ p. absurd (cc)) (λ p. absurd (cc)) (λ p. absurd (cc)) (λ p. absurd (cc)) (λ p. absurd (cc)) (λ p. absurd (cc)) refl h
actor_tells k.Else token following h = absurd (not_else is_actor_class refl refl (is_next k.If following) h)
actor_tells k.Bang token following h = absurd (not_bang is_actor_class refl refl token.touches h)
actor_tells k.Question token following h = absurd (not_question is_actor_class refl refl refl token.touches token.after_space h)
actor_tells k.Minus token following h = absurd (not_minus is_actor_class refl refl (touches_next following) h)
actor_tells kind token following h = absurd (cc)

get_tells : Tells is_get_class (IsName (codes "get"))
get_tells k.Name token following h = name_tells is_get_class (IsName (codes "get") k.Name) token.text following
    (λ p. absurd (cc)) (λ p. absurd (cc)) (λ p. absurd (cc)) (λ p. absurd (cc)) (λ p. absurd (cc)) (λ p. (refl, refl)) (λ p. (refl, refl)) refl h
get_tells k.Else token following h = absurd (not_else is_get_class refl refl (is_next k.If following) h)
get_tells k.Bang token following h = absurd (not_bang is_get_class refl refl token.touches h)
get_tells k.Question token following h = absurd (not_question is_get_class refl refl refl token.touches token.after_space h)
get_tells k.Minus token following h = absurd (not_minus is_get_class refl refl (touches_next following) h)
get_tells kind token following h = absurd (cc)

getter_get : (c : Class) → is_get_block_class c ≡ true → is_get_class c ≡ true
getter_get class.GetBlock h = refl
getter_get c h = absurd (cc)

-- what is seen of `get` is one, and before `{` one before its block
get_passes : (face : Face) (g : Gap) (following : List Token) → is_get (placed face (seen (token_of (contextual (codes "get") g)) following)).sight ≡ true
get_passes face g following = go (is_next k.LeftBrace following)
  where
    go : (b : Bool) → is_get_class (if b then class.GetBlock else class.Get) ≡ true
    go true = refl
    go false = refl

getter_passes : (face : Face) (g : Gap) (following : List Token) → is_next k.LeftBrace following ≡ true → is_getter (placed face (seen (token_of (contextual (codes "get") g)) following)).sight ≡ true
getter_passes face g following h = go (is_next k.LeftBrace following) h
  where
    go : (b : Bool) → b ≡ true → is_get_block_class (if b then class.GetBlock else class.Get) ≡ true
    go true h = refl
    go false h = absurd (cc)

-- ---- modifiers

-- the kind and the text are those of the word for the modifier that they are
abbrev IsModifierWord : TokenKind → Text → Type 0
IsModifierWord kind text = (kind ≡ (modifier_word (modifier_in kind text) gap.Space).kind) × (text ≡ (modifier_word (modifier_in kind text) gap.Space).text)

modifier_tells : Tells is_modifier_class (λ kind text. IsOfKind kind text → IsModifierWord kind text)
modifier_tells k.Name token following h = name_tells is_modifier_class (λ text. IsOfKind k.Name text → IsModifierWord k.Name text) token.text following
    (λ p. absurd (cc)) (λ p fits. (refl, refl)) (λ p fits. (refl, refl)) (λ p fits. (refl, refl)) (λ p fits. (refl, refl)) (λ p. absurd (cc)) (λ p. absurd (cc)) refl h
modifier_tells k.Public token following h = λ fits. (refl, fixed_text k.Public token.text refl fits.0)
modifier_tells k.Internal token following h = λ fits. (refl, fixed_text k.Internal token.text refl fits.0)
modifier_tells k.Private token following h = λ fits. (refl, fixed_text k.Private token.text refl fits.0)
modifier_tells k.Fileprivate token following h = λ fits. (refl, fixed_text k.Fileprivate token.text refl fits.0)
modifier_tells k.Static token following h = λ fits. (refl, fixed_text k.Static token.text refl fits.0)
modifier_tells k.Else token following h = absurd (not_else is_modifier_class refl refl (is_next k.If following) h)
modifier_tells k.Bang token following h = absurd (not_bang is_modifier_class refl refl token.touches h)
modifier_tells k.Question token following h = absurd (not_question is_modifier_class refl refl refl token.touches token.after_space h)
modifier_tells k.Minus token following h = absurd (not_minus is_modifier_class refl refl (touches_next following) h)
modifier_tells kind token following h = absurd (cc)

modifier_passes : (m : ModifierKind) (face : Face) (g : Gap) (following : List Token) → is_modifier (placed face (seen (token_of (modifier_word m g)) following)).sight ≡ true
modifier_passes modifier.Public face g following = refl
modifier_passes modifier.Internal face g following = refl
modifier_passes modifier.Private face g following = refl
modifier_passes modifier.Fileprivate face g following = refl
modifier_passes modifier.Final face g following = refl
modifier_passes modifier.Distributed face g following = refl
modifier_passes modifier.Nonisolated face g following = refl
modifier_passes modifier.Static face g following = refl
modifier_passes modifier.Mutating face g following = refl

-- the gap of a modifier's word tells neither its kind nor its text
any_gap : (m : ModifierKind) (g h : Gap) → ((modifier_word m g).kind ≡ (modifier_word m h).kind) × ((modifier_word m g).text ≡ (modifier_word m h).text)
any_gap modifier.Public g h = (refl, refl)
any_gap modifier.Internal g h = (refl, refl)
any_gap modifier.Private g h = (refl, refl)
any_gap modifier.Fileprivate g h = (refl, refl)
any_gap modifier.Final g h = (refl, refl)
any_gap modifier.Distributed g h = (refl, refl)
any_gap modifier.Nonisolated g h = (refl, refl)
any_gap modifier.Static g h = (refl, refl)
any_gap modifier.Mutating g h = (refl, refl)

abbrev pub modifiers_words : List Modifier → W
modifiers_words [] g = []
modifiers_words (m ∷ ms) g = modifier_word m.kind g ∷ modifiers_words ms gap.Space

-- what stands before what follows modifiers
abbrev pub gap_after : List Modifier → Gap → Gap
gap_after [] g = g
gap_after (m ∷ ms) g = gap.Space

space_after : (ms : List Modifier) → gap_after ms gap.Space ≡ gap.Space
space_after [] = refl
space_after (m ∷ ms) = refl

pub words_modified : (ms : List Modifier) (x : W) (g : Gap) → modified ms x g ≡ modifiers_words ms g ++ x (gap_after ms g)
words_modified [] x g = refl
words_modified (m ∷ ms) x g = ap (λ l. modifier_word m.kind g ∷ l) (words_modified ms x gap.Space ∙ ap (λ h. modifiers_words ms gap.Space ++ x h) (space_after ms))

-- what follows what modifiers stand before
pub modified_append : (ms : List Modifier) (x : W) (v : List Word) (g : Gap) → modified ms x g ++ v ≡ modified ms (λ g. x g ++ v) g
modified_append [] x v g = refl
modified_append (m ∷ ms) x v g = ap (λ l. modifier_word m.kind g ∷ l) (modified_append ms x v gap.Space)

module _ (D : (s : Nonterminal) → ℕ → ℕ → ℕ → ℕ → List Sighted → Sort s → Type 0) (B : (s : Nonterminal) → ℕ → ℕ → ℕ → ℕ → Sort s → Type 0) where
  -- a name that is told by its text
  make_contextual : (f : Sight → Bool) (word : Text) (g : Gap) (following : List Token) (d l c e : ℕ) (x : Face) → IsName word x.kind x.text × IsOfKind x.kind x.text
      → f (placed x (seen (token_of (contextual word g)) following)).sight ≡ true → e ≡ c → Made D (terminal f) d l c e x (contextual word g ∷ []) following
  make_contextual f word g following d l c e x ((kind, text), fits) is same =
      make_mark D (contextual word g) x kind text (subst (λ text. IsOfKind k.Name text) text (subst (λ kind. IsOfKind kind x.text) kind fits)) is same

  pub make_actor : (g : Gap) (following : List Token) (d l c e : ℕ) (x : Face) → BuiltOf B (terminal is_actor) d l c e x → Made D (terminal is_actor) d l c e x (contextual (codes "actor") g ∷ []) following
  make_actor g following d l c e x (t, good, passed, ex, ec) =
      make_contextual is_actor (codes "actor") g following d l c e x (told is_actor_class (IsName (codes "actor")) actor_tells t x good passed ex) refl ec

  pub make_get : (g : Gap) (following : List Token) (d l c e : ℕ) (x : Face) → BuiltOf B (terminal is_get) d l c e x → Made D (terminal is_get) d l c e x (contextual (codes "get") g ∷ []) following
  make_get g following d l c e x (t, good, passed, ex, ec) =
      make_contextual is_get (codes "get") g following d l c e x (told is_get_class (IsName (codes "get")) get_tells t x good passed ex) (get_passes x g following) ec

  -- `get` before its block
  pub make_getter : (g : Gap) (following : List Token) (d l c e : ℕ) (x : Face) → BuiltOf B (terminal is_getter) d l c e x → is_next k.LeftBrace following ≡ true
      → Made D (terminal is_getter) d l c e x (contextual (codes "get") g ∷ []) following
  make_getter g following d l c e x (t, good, passed, ex, ec) next =
      make_contextual is_getter (codes "get") g following d l c e x (told is_get_class (IsName (codes "get")) get_tells t x good (getter_get t.sight.class passed) ex) (getter_passes x g following next) ec

  make_modifier : (g : Gap) (following : List Token) (d l c e : ℕ) (x : Face) → BuiltOf B (terminal is_modifier) d l c e x
      → Made D (terminal is_modifier) d l c e x (modifier_word (modifier_of x).kind g ∷ []) following
  make_modifier g following d l c e x (t, good, passed, ex, ec) =
      let (tells, fits) = told is_modifier_class (λ kind text. IsOfKind kind text → IsModifierWord kind text) modifier_tells t x good passed ex in
      let its = tells fits in
      let same = any_gap (modifier_of x).kind gap.Space g in
      let kind : x.kind ≡ (modifier_word (modifier_of x).kind g).kind = its.0 ∙ same.0 in
      let text : x.text ≡ (modifier_word (modifier_of x).kind g).text = its.1 ∙ same.1 in
      make_mark D (modifier_word (modifier_of x).kind g) x kind text (subst (IsOfKind (modifier_word (modifier_of x).kind g).kind) text (subst (λ kind. IsOfKind kind x.text) kind fits))
      (modifier_passes (modifier_of x).kind x g following) ec

  -- mods = (public | internal | private | fileprivate | final | distributed | nonisolated | static | mutating)*
  pub mods_made : Written D B Any mods modifiers_words
  mods_made d l c e [] h g following ok = make_nil D h
  mods_made d l c e (x ∷ xs) (m, (face, p, same), q) g following ok =
      make_cons D (make_gives D same (reword D (ap (λ x. modifier_word x.kind g ∷ []) same) (make_modifier g _ d l c m face p))) (mods_made d l m e xs q gap.Space following ok)
