-- What is written for lists of items, each on a line of its own, spells them again.
use Rattle.std.proofs.Common.{◌≡◌, ℕ, false, inl, inr, List, [], ◌∷◌, ◌++◌, Some, None, refl, sym, ap, ◌∙◌, subst}
use Rattle.sw_lex.specs.declared.token.Token.{Token}
use Rattle.sw_grammar.specs.Grammar.{FirstPasses, nonterminal}
use Rattle.sw_layout.specs.declared.gap.Gap.{Gap}
use Rattle.sw_layout.specs.declared.gap.Gap.TheVariants as gap
use Rattle.sw_layout.specs.Words.{Word, is_first as begins_line}
use Rattle.sw_tree.specs.declared.expr.Binding.{Binding}
use Rattle.sw_tree.specs.declared.expr.Binding.TheVariants as binding
use Rattle.sw_tree.specs.declared.decl.Modifier.{Modifier}
use Rattle.sw_tree.specs.declared.decl.ModifierKind.{ModifierKind}
use Rattle.sw_tree.specs.declared.decl.ModifierKind.TheVariants as modifier
use Rattle.sw_tree.specs.declared.decl.Signature.{Signature}
use Rattle.sw_tree.specs.declared.decl.Decl.{Decl}
use Rattle.sw_tree.specs.declared.decl.Decl.TheVariants as d
use Rattle.sw_tree.specs.declared.decl.Member.{Member}
use Rattle.sw_tree.specs.declared.decl.Member.TheVariants as m
use Rattle.sw_tree.specs.declared.decl.EnumItem.{EnumItem}
use Rattle.sw_tree.specs.declared.decl.EnumItem.TheVariants as item
use Rattle.sw_tree.specs.declared.decl.Requirement.{Requirement}
use Rattle.sw_tree.specs.declared.decl.Requirement.TheVariants as r
use Rattle.sw_syntax.specs.Tokens.{Sighted}
use Rattle.sw_syntax.specs.Nonterminals.{ItemKind, Decls, Members, EnumItems, Requirements, Nonterminal, Sort, ItemList, AfterItem, Item, ItemTree}
use Rattle.sw_syntax.specs.Parts.{P}
use Rattle.sw_syntax.specs.Tests.{is_first}
use Rattle.sw_syntax.specs.Grammar.{production, list_of}
use Rattle.sw_print.specs.Seen.{seen_in}
use Rattle.sw_print.specs.Expressions.{W}
use Rattle.sw_print.specs.Statements.{binding_word, block_words}
use Rattle.sw_print.specs.Declarations.{modifier_word, modified, signature_words, member_words, item_words, requirement_words, decl_words, decls_words}
use Rattle.sw_print.proofs.Spelling.Making.{Made, make_both, make_gives, make_right, make_none, make_some, reword}
use Rattle.sw_print.proofs.Spelling.Marks.{BuiltOf}
use Rattle.sw_print.proofs.Spelling.DeclParts.{Any, Written, Stands}
use Rattle.sw_print.proofs.Spelling.Lines.{make_when}
use Rattle.sw_print.proofs.Spelling.Items.{listed_words, lines_of, ListAgain}

-- ---- the first word of an item

-- there are words, and this stands before the first
abbrev First : Gap → List Word → Type 0
First g [] = ⊥
First g (word ∷ words) = word.gap ≡ g

first_append : (g : Gap) (v w : List Word) → First g v → First g (v ++ w)
first_append g [] w h = elim h [ ]
first_append g (x ∷ v) w h = h

modifier_gap : (x : ModifierKind) (g : Gap) → (modifier_word x g).gap ≡ g
modifier_gap modifier.Public g = refl
modifier_gap modifier.Internal g = refl
modifier_gap modifier.Private g = refl
modifier_gap modifier.Fileprivate g = refl
modifier_gap modifier.Final g = refl
modifier_gap modifier.Distributed g = refl
modifier_gap modifier.Nonisolated g = refl
modifier_gap modifier.Static g = refl
modifier_gap modifier.Mutating g = refl

binding_gap : (x : Binding) (g : Gap) → (binding_word x g).gap ≡ g
binding_gap binding.Let g = refl
binding_gap binding.Var g = refl

first_modified : (ms : List Modifier) (x : W) (g : Gap) → First g (x g) → First g (modified ms x g)
first_modified [] x g h = h
first_modified (m ∷ ms) x g h = modifier_gap m.kind g

first_signature : (x : Signature) (g : Gap) → First g (signature_words x g)
first_signature x g = first_modified x.modifiers _ g refl

first_member : (x : Member) (g : Gap) → First g (member_words x g)
first_member (m.Stored x) g = first_modified x.modifiers _ g (binding_gap x.binding g)
first_member (m.Computed x) g = first_modified x.modifiers _ g refl
first_member (m.Func x) g = first_append g (signature_words x.signature g) (block_words x.body) (first_signature x.signature g)
first_member (m.Initializer x) g = first_modified x.modifiers _ g refl
first_member (m.Typealias x) g = refl

first_item : (x : EnumItem) (g : Gap) → First g (item_words x g)
first_item (item.Cases cases) g = refl
first_item (item.Member x) g = first_member x g

first_requirement : (x : Requirement) (g : Gap) → First g (requirement_words x g)
first_requirement (r.Func x) g = first_signature x g
first_requirement (r.Property name declared) g = refl

first_decl : (x : Decl) (g : Gap) → First g (decl_words x g)
first_decl (d.Import at name) g = refl
first_decl (d.Typealias x) g = refl
first_decl (d.Struct heading members) g = first_modified heading.modifiers _ g refl
first_decl (d.Enum heading items) g = first_modified heading.modifiers _ g refl
first_decl (d.Protocol heading requirements) g = first_modified heading.modifiers _ g refl
first_decl (d.Actor heading members) g = first_modified heading.modifiers _ g refl
first_decl (d.Func x) g = first_append g (signature_words x.signature g) (block_words x.body) (first_signature x.signature g)

first_listed : (l : ItemKind) (x : ItemTree l) (g : Gap) → First g (listed_words l x g)
first_listed Decls = first_decl
first_listed Members = first_member
first_listed EnumItems = first_item
first_listed Requirements = first_requirement

heads_first : (words : List Word) (following : List Token) → First gap.Line words → FirstPasses is_first (seen_in words following)
heads_first [] following h = tt
heads_first (word ∷ words) following h = ap begins_line h

-- ---- lists

-- the words of items, of which the first follows this gap, and each other on a line of its own
abbrev pub items_words : (l : ItemKind) → List (ItemTree l) → W
items_words l [] g = []
items_words l (x ∷ xs) g = listed_words l x g ++ lines_of l xs

abbrev pub IsFilled : {A : Type 0} → List A → Type 0
IsFilled [] = ⊥
IsFilled (x ∷ xs) = Unit {0}

items_lines : (l : ItemKind) (xs : List (ItemTree l)) → lines_of l xs ≡ items_words l xs gap.Line
items_lines l [] = refl
items_lines l (x ∷ xs) = refl

items_decls : (xs : List Decl) → decls_words xs ≡ items_words Decls xs gap.Start
items_decls [] = refl
items_decls (x ∷ xs) = refl

first_of_items : (l : ItemKind) (xs : List (ItemTree l)) → IsFilled xs → First gap.Line (items_words l xs gap.Line)
first_of_items l [] h = elim h [ ]
first_of_items l (x ∷ xs) h = first_append gap.Line (listed_words l x gap.Line) (lines_of l xs) (first_listed l x gap.Line)

module _ (D : (s : Nonterminal) → ℕ → ℕ → ℕ → ℕ → List Sighted → Sort s → Type 0) (B : (s : Nonterminal) → ℕ → ℕ → ℕ → ℕ → Sort s → Type 0) where
  -- what is written for each item of the list spells it
  abbrev pub ItemAgain : ItemKind → Type 0
  ItemAgain l = Written D B Any (nonterminal (Item l)) (listed_words l)

  -- what is written for at least one item spells it
  abbrev pub SomeWritten : (l : ItemKind) → P (List (ItemTree l)) → Type 0
  SomeWritten l a = (d l_ c e : ℕ) (xs : List (ItemTree l)) → BuiltOf B a d l_ c e xs → (g : Gap) (following : List Token) → IsFilled xs × Made D a d l_ c e xs (items_words l xs g) following

  abbrev pub SomeAgain : ItemKind → Type 0
  SomeAgain l = SomeWritten l (nonterminal (ItemList l))

  -- what is written for the items after one spells them, each on a line of its own
  abbrev pub RestAgain : ItemKind → Type 0
  RestAgain l = Stands D B Any (nonterminal (AfterItem l)) (lines_of l)

  module _ (l : ItemKind) where
    -- (item sep)*, with at least one item
    pub some_again : ItemAgain l → RestAgain l → SomeWritten l (production false (ItemList l))
    some_again item rest d_ l_ c e ys (x, (m_, p, q), h) g following = (
      subst IsFilled (sym h) tt,
      make_gives D h (reword D (ap (λ ys. items_words l ys g) h) (make_both D (item d_ l_ c m_ x.0 p g _ tt) (rest d_ l_ m_ e x.1 q following tt))),
    )

    module _ (again : SomeAgain l) where
      -- (item sep)*
      pub items_made : Written D B Any (list_of l) (items_words l)
      items_made d_ l_ c e ys (None, p, h) g following ok = make_gives D h (reword D (ap (λ ys. items_words l ys g) h) (make_none D p))
      items_made d_ l_ c e ys (Some xs, p, h) g following ok = make_gives D h (reword D (ap (λ ys. items_words l ys g) h) (make_some D (again d_ l_ c e xs p g following).1))

      -- the same, each on a line of its own
      pub list_again : ListAgain D B l
      list_again d_ l_ c e ys p following ok = reword D (items_lines l ys) (items_made d_ l_ c e ys p gap.Line following ok)

      -- What may follow an item. Where the source has a `;`, what is written has a line break.
      pub rest_again : Stands D B Any (production false (AfterItem l)) (lines_of l)
      rest_again d_ l_ c e ys (None, p, h) following ok = make_gives D h (reword D (ap (lines_of l) h) (make_none D p))
      rest_again d_ l_ c e ys (Some xs, inl ((semicolon, zs), (m_, (t, good, passed, ex, ec), (None, q, same)), its), h) following ok =
          make_gives D (h ∙ its ∙ same) (reword D (ap (lines_of l) (h ∙ its ∙ same)) (make_none D (q ∙ ec)))
      rest_again d_ l_ c e ys (Some xs, inl ((semicolon, zs), (m_, (t, good, passed, ex, ec), (Some us, q, same)), its), h) following ok =
          let (filled, made) = again d_ l_ m_ e us q gap.Line following in
          make_gives D (h ∙ its ∙ same) (reword D (ap (lines_of l) (h ∙ its ∙ same) ∙ items_lines l us)
          (make_some D (make_right D (make_when D (heads_first (items_words l us gap.Line) following (first_of_items l us filled))
          (subst (λ m. Made D (nonterminal (ItemList l)) d_ l_ m e us (items_words l us gap.Line) following) ec made)))))
      rest_again d_ l_ c e ys (Some xs, inr p, h) following ok =
          let (filled, made) = again d_ l_ c e xs p gap.Line following in
          make_gives D h (reword D (ap (lines_of l) h ∙ items_lines l xs)
          (make_some D (make_right D (make_when D (heads_first (items_words l xs gap.Line) following (first_of_items l xs filled)) made))))

  -- the declarations of a file
  pub decls_made : SomeAgain Decls → Stands D B Any (list_of Decls) decls_words
  decls_made again d_ l_ c e xs p following ok = reword D (items_decls xs) (items_made Decls again d_ l_ c e xs p gap.Start following ok)
