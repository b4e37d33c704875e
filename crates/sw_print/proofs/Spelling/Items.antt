-- What is written for declarations, and for what stands in enums and protocols, spells it again.
use Rattle.std.proofs.Common.{◌≡◌, ℕ, Bool, inl, inr, List, [], ◌∷◌, ◌++◌, map, Some, None, codes, refl, sym, ap, ◌∙◌}
use Rattle.sw_lex.specs.declared.token.TokenKind.TheVariants as k
use Rattle.sw_lex.specs.declared.token.Token.{Token}
use Rattle.sw_grammar.specs.Grammar.{terminal, nonterminal, maybe, gives}
use Rattle.sw_layout.specs.declared.gap.Gap.{Gap}
use Rattle.sw_layout.specs.declared.gap.Gap.TheVariants as gap
use Rattle.sw_layout.specs.Words.{Word, plain, token_of}
use Rattle.sw_tree.specs.declared.expr.Name.{Name}
use Rattle.sw_tree.specs.declared.decl.Decl.{Decl}
use Rattle.sw_tree.specs.declared.decl.Decl.TheVariants as d
use Rattle.sw_tree.specs.declared.decl.Heading.{Heading}
use Rattle.sw_tree.specs.declared.decl.Modifier.{Modifier}
use Rattle.sw_syntax.specs.declared.class.Sight.{Sight}
use Rattle.sw_syntax.specs.Tokens.{same_kind, Sighted, Face}
use Rattle.sw_syntax.specs.Nonterminals.{ItemKind, Decls, Members, EnumItems, Requirements, Nonterminal, Sort, Case, Item, TypeExpr, ItemTree}
use Rattle.sw_syntax.specs.Parts.{◌·◌, tok, name, after, some, in_braces}
use Rattle.sw_syntax.specs.Values.{or_none}
use Rattle.sw_syntax.specs.Tests.{is_actor, is_get}
use Rattle.sw_syntax.specs.Grammar.{list_of, heading, modified_decl, item_of}
use Rattle.sw_print.specs.Expressions.{W, name_word, listed}
use Rattle.sw_print.specs.Statements.{annotation_words, each_line, in_braces as braces_words}
use Rattle.sw_print.specs.Declarations.{contextual, conformances_words, nominal_words, member_words, case_words, item_words, requirement_words, decl_words}
use Rattle.sw_print.proofs.Spelling.Making.{Made, make_both, make_gives, make_left, make_right, make_none, make_some, reword}
use Rattle.sw_print.proofs.Spelling.Marks.{BuiltOf, make_tok, make_place, make_name}
use Rattle.sw_print.proofs.Spelling.TypeWords.{TypeAgain}
use Rattle.sw_print.proofs.Spelling.DeclParts.{Any, Written, Stands, some_made, braces_made, name_made, annotation_made}
use Rattle.sw_print.proofs.Spelling.Contextual.{words_modified, gap_after, mods_made, make_actor, make_get}
use Rattle.sw_print.proofs.Spelling.Parameters.{ParameterAgain, signature_again}
use Rattle.sw_print.proofs.Spelling.Payloads.{CaseAgain}
use Rattle.sw_print.proofs.Spelling.Properties.{BlockAgain}
use Rattle.sw_print.proofs.Spelling.Members.{ModifiedAgain, modified_left, modified_right, with_modifiers, typealias_made, func_made}

-- the words of an item of each list
abbrev pub listed_words : (l : ItemKind) → ItemTree l → W
listed_words Decls = decl_words
listed_words Members = member_words
listed_words EnumItems = item_words
listed_words Requirements = requirement_words

-- the words of items, each on a line of its own
abbrev pub lines_of : (l : ItemKind) → List (ItemTree l) → List Word
lines_of l xs = each_line (map (listed_words l) xs)

abbrev name_words : Name → W
name_words x g = name_word x g ∷ []

module _ (D : (s : Nonterminal) → ℕ → ℕ → ℕ → ℕ → List Sighted → Sort s → Type 0) (B : (s : Nonterminal) → ℕ → ℕ → ℕ → ℕ → Sort s → Type 0) where
  -- : name,*
  conformances_made : Stands D B Any (maybe (after (tok k.Colon) (some name))) (λ x. conformances_words (or_none x))
  unfolding same_kind
  conformances_made d l c e None h following ok = make_none D h
  conformances_made d l c e (Some xs) ((colon, ys), (m, p, (y, q, same)), h) following ok =
      let first : conformances_words xs ≡ plain k.Colon gap.Space ∷ listed (map name_words ys) =
      ap conformances_words (h ∙ same) ∙ ap (λ ys. plain k.Colon gap.Space ∷ listed (map name_words ys)) (sym same) in
      make_some D (make_gives D h (reword D first (make_both D (make_tok D B k.Colon gap.Space _ d l c m colon p refl refl)
      (some_made D B name name_words Any (λ rest. tt) (name_made D B) d l m e ys (y, q, same) following tt))))

  -- a declared type: what modifiers make of its name and of what it conforms to
  record Headed (y : List Modifier → Heading) (d l c e : ℕ) (following : List Token) : Type 0 where
    name_of : Name
    conformances : List Name
    whole : y ≡ (λ modifiers. record { modifiers = modifiers; name = name_of; conformances = conformances })
    made : Made D heading d l c e y (name_word name_of gap.Space ∷ conformances_words conformances) following

  heading_made : (d l c e : ℕ) (y : List Modifier → Heading) → BuiltOf B heading d l c e y → (following : List Token) → Headed y d l c e following
  heading_made d l c e y (x, (m, p, q), h) following = record {
    name_of = x.0;
    conformances = or_none x.1;
    whole = h;
    made = make_gives D h (make_both D (make_name D B gap.Space _ d l c m x.0 p) (conformances_made d l m e x.1 q following tt));
  }

  -- what is written for each list of items, each on a line of its own, spells it before a closing brace
  abbrev pub ListAgain : ItemKind → Type 0
  ListAgain l = Stands D B Any (list_of l) (lines_of l)

  -- what is written for the mark that tells the kind of a declared type spells it
  abbrev KindMade : (Sight → Bool) → (Gap → Word) → Type 0
  KindMade f w = (d l c e : ℕ) (x : Face) → BuiltOf B (terminal f) d l c e x → (g : Gap) (following : List Token) → Made D (terminal f) d l c e x (w g ∷ []) following

  -- kind name conf? { (item sep)* }, after modifiers
  nominal_made : (f : Sight → Bool) (w : Gap → Word) → KindMade f w → (l : ItemKind) → ListAgain l → (make : Heading → List (ItemTree l) → Decl)
      → ((x : Heading) (xs : List (ItemTree l)) (g : Gap) → decl_words (make x xs) g ≡ nominal_words w x (map (listed_words l) xs) g)
      → ModifiedAgain D B (gives (λ x modifiers. make (x.0 modifiers) x.1) (after (terminal f) (heading · in_braces (list_of l)))) decl_words
  nominal_made f w kind l lists make its d_ l_ c e y (x, ((face, z), (m, p, (m2, q, r)), same), h) following =
      let head = heading_made d_ l_ m m2 z.0 q (map token_of (braces_words (lines_of l z.1)) ++ following) in
      record {
        own = λ g. w g ∷ name_word head.name_of gap.Space ∷ (conformances_words head.conformances ++ braces_words (lines_of l z.1));
        after_them = λ ms g. ap (λ y. decl_words (y ms) g) h ∙ ap (λ x. decl_words (make (x.0 ms) x.1) g) same ∙ ap (λ y. decl_words (make (y ms) z.1) g) head.whole
            ∙ its (record { modifiers = ms; name = head.name_of; conformances = head.conformances }) z.1 g;
        made = λ g. make_gives D h (make_gives D same (make_both D (kind d_ l_ c m face p g _) (make_both D head.made
            (braces_made D B (list_of l) (lines_of l) (λ d l c e x p following before. lists d l c e x p following tt) d_ l_ m2 e z.1 r following tt))));
      }

  module _ (parameters : ParameterAgain D B) (types : TypeAgain D B (nonterminal TypeExpr)) (blocks : BlockAgain D B) (members : ListAgain Members) (items : ListAgain EnumItems) (requirements : ListAgain Requirements) where
    decl_made : ModifiedAgain D B modified_decl decl_words
    unfolding same_kind
    decl_made d_ l c e y (inl p) following = modified_left D B
        (nominal_made _ (plain k.Struct) (λ d l c e x p g following. make_tok D B k.Struct g following d l c e x p refl refl) Members members d.Struct (λ x xs g. refl) d_ l c e y p following)
    decl_made d_ l c e y (inr (inl p)) following = modified_right D B (modified_left D B
        (nominal_made _ (plain k.Enum) (λ d l c e x p g following. make_tok D B k.Enum g following d l c e x p refl refl) EnumItems items d.Enum (λ x xs g. refl) d_ l c e y p following))
    decl_made d_ l c e y (inr (inr (inl p))) following = modified_right D B (modified_right D B (modified_left D B
        (nominal_made _ (plain k.Protocol) (λ d l c e x p g following. make_tok D B k.Protocol g following d l c e x p refl refl) Requirements requirements d.Protocol (λ x xs g. refl) d_ l c e y p following)))
    decl_made d_ l c e y (inr (inr (inr (inl p)))) following = modified_right D B (modified_right D B (modified_right D B (modified_left D B
        (nominal_made is_actor (contextual (codes "actor")) (λ d l c e x p g following. make_actor D B g following d l c e x p) Members members d.Actor (λ x xs g. refl) d_ l c e y p following))))
    decl_made d_ l c e y (inr (inr (inr (inr p)))) following = modified_right D B (modified_right D B (modified_right D B (modified_right D B
        (func_made D B parameters types blocks d.Func decl_words (λ x g. refl) d_ l c e y p following))))

    -- decl = import name | typealias name = type | nominal | func
    pub decl_again : Written D B Any (item_of Decls) decl_words
    unfolding same_kind
    decl_again d_ l c e y (inl ((at, x), (m, p, q), h)) g following ok =
        make_left D (make_gives D h (reword D (ap (λ y. decl_words y g) h) (make_both D (make_place D B k.Import g _ d_ l c m at p refl (λ x. refl)) (make_name D B gap.Space following d_ l m e x q))))
    decl_again d_ l c e y (inr (inl (x, p, h))) g following ok =
        make_right D (make_left D (make_gives D h (reword D (ap (λ y. decl_words y g) h) (typealias_made D B types d_ l c e x p g following tt))))
    decl_again d_ l c e y (inr (inr p)) g following ok = make_right D (make_right D (with_modifiers D B modified_decl decl_words decl_made d_ l c e y p g following tt))

  -- case | member, where case = case (name (( (name :)? type ,* ))?),*
  pub item_again : CaseAgain D B → Written D B Any (nonterminal (Item Members)) member_words → Written D B Any (item_of EnumItems) item_words
  unfolding same_kind
  item_again cases members d l c e y (inl (xs, ((face, ys), (m, p, q), same), h)) g following ok =
      make_left D (make_gives D h (make_gives D same (reword D (ap (λ y. item_words y g) h ∙ ap (λ xs. plain k.Case g ∷ listed (map case_words xs)) same)
      (make_both D (make_tok D B k.Case g _ d l c m face p refl refl) (some_made D B (nonterminal Case) case_words Any (λ rest. tt) cases d l m e ys q following tt)))))
  item_again cases members d l c e y (inr (x, p, h)) g following ok = make_right D (make_gives D h (reword D (ap (λ y. item_words y g) h) (members d l c e x p g following tt)))

  -- { get }
  get_made : Stands D B Any (in_braces (terminal is_get)) (λ x. braces_words (contextual (codes "get") gap.Space ∷ []))
  get_made = braces_made D B (terminal is_get) (λ x. contextual (codes "get") gap.Space ∷ []) (λ d l c e x p following before. make_get D B gap.Space following d l c e x p)

  -- req = mods func name ( param,* ) async? throws? (-> type)? | var name : type { get }
  pub requirement_again : ParameterAgain D B → TypeAgain D B (nonterminal TypeExpr) → Written D B Any (item_of Requirements) requirement_words
  unfolding same_kind
  requirement_again parameters types d l c e y (inl (x, ((face, (own, (of, get))), (m, p, (m2, q, (m3, r, s))), same), h)) g following ok =
      make_left D (make_gives D h (make_gives D same (reword D (ap (λ y. requirement_words y g) h
      ∙ ap (λ x. plain k.Var g ∷ name_word x.0 gap.Space ∷ (annotation_words x.1.0 ++ braces_words (contextual (codes "get") gap.Space ∷ []))) same)
      (make_both D (make_tok D B k.Var g _ d l c m face p refl refl)
      (make_both D (make_name D B gap.Space _ d l m m2 own q)
      (make_both D (annotation_made D B types d l m2 m3 of r _ tt) (get_made d l m3 e get s following tt)))))))
  requirement_again parameters types d l c e y (inr (x, (m, p, q), h)) g following ok =
      let its = signature_again D B parameters types d l m e x.1 q following in
      make_right D (make_gives D h (reword D (ap (λ y. requirement_words y g) h ∙ its.after_them x.0 g ∙ words_modified x.0 its.own g)
      (make_both D (mods_made D B d l c m x.0 p g _ tt) (its.made (gap_after x.0 g)))))
