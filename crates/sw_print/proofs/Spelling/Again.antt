-- For each value that good tokens spell as a sentence of a nonterminal: what is written for it spells it again.
use Rattle.std.proofs.Common.{◌≡◌, ℕ, zero, suc, false, ◌⊎◌, inl, inr, List, [], ◌∷◌, ◌++◌, map, refl, sym, ap, ◌∙◌, subst, append-nil}
use Rattle.sw_lex.specs.declared.token.Token.{Token}
use Rattle.sw_grammar.specs.Grammar.{Derives_by, Derives, many, counts, terminal, nonterminal}
use Rattle.sw_grammar.proofs.Starts as starts
use Rattle.sw_layout.specs.declared.gap.Gap.{Gap}
use Rattle.sw_layout.specs.declared.gap.Gap.TheVariants as gap
use Rattle.sw_layout.specs.Words.{Word, plain, token_of}
use Rattle.sw_lex.specs.declared.token.TokenKind.TheVariants as k
use Rattle.sw_tree.specs.declared.stmt.SwitchArm.{SwitchArm}
use Rattle.sw_tree.specs.declared.decl.Decl.{Decl}
use Rattle.sw_tree.specs.declared.expr.Expr.{Expr as ExprTree}
use Rattle.sw_tree.specs.declared.types.«Type».{«Type» as TypeTree}
use Rattle.sw_syntax.specs.declared.class.Sight.{Sight}
use Rattle.sw_syntax.specs.Tokens.{Sighted, Face}
use Rattle.sw_syntax.specs.Nonterminals.{Decls, Members, EnumItems, Requirements, Context, InBlock, InArm, Open, Closed, Body, Nonterminal, Sort, File, ItemList, AfterItem, Item, Param, Case, Payload, Block, Statements, SomeStatements, AfterStatement, AfterReturn, Statement, If, Arms, Condition, Pattern, Caught, TypeExpr, BaseType, Expr, Ternary, Binary, Prefix, Postfix, PostfixForm, Argument, Primary, Elements}
use Rattle.sw_syntax.specs.Parts.{P}
use Rattle.sw_syntax.specs.Tests.{is_joined_question}
use Rattle.sw_syntax.specs.Grammar.{production, list_of}
use Rattle.sw_syntax.specs.Tables.{first_table, follow_last_table, nullable_table}
use Rattle.sw_syntax.proofs.Decides.{is_decided}
use Rattle.sw_print.specs.Expressions.{type_words}
use Rattle.sw_print.specs.Statements.{pattern_words, catch_pattern_words, condition_words, stmt_words, block_words, followed, lines as lines_words}
use Rattle.sw_print.specs.Declarations.{decls_words}
use Rattle.sw_print.proofs.Spelling.Built.{built_by}
use Rattle.sw_print.proofs.Spelling.Higher.{Derived, derived}
use Rattle.sw_print.proofs.Spelling.Runs.{StandApart, Ok, halves, one}
use Rattle.sw_print.proofs.Spelling.Marks.{BuiltOf}
use Rattle.sw_print.proofs.Spelling.Good.{IsGood}
use Rattle.sw_print.proofs.Spelling.Making.{Made, reword}
use Rattle.sw_print.proofs.Spelling.TypeWords.{TypeAgain, BaseAgain, type_rule, base_rule, base_ends}
use Rattle.sw_print.proofs.Spelling.Texts.{Spelt, PartAgain}
use Rattle.sw_print.proofs.Spelling.Prims.{ElementsAgain, prim_rule, elements_rule}
use Rattle.sw_print.proofs.Spelling.Postfixes.{ArgumentAgain, FormAgain, form_rule, post_rule}
use Rattle.sw_print.proofs.Spelling.Operands.{prefix_rule, binary_rule, ternary_rule, expr_rule}
use Rattle.sw_print.proofs.Spelling.Arguments.{argument_rule}
use Rattle.sw_print.proofs.Spelling.Lines as lines
use Rattle.sw_print.proofs.Spelling.Lines.{Rises}
use Rattle.sw_print.proofs.Spelling.StmtLayers.{if_words}
use Rattle.sw_print.proofs.Spelling.Patterns.{pattern_again, catch_pattern_again, condition_again}
use Rattle.sw_print.proofs.Spelling.Simple.{open_again, closed_again}
use Rattle.sw_print.proofs.Spelling.Branches.{if_again}
use Rattle.sw_print.proofs.Spelling.Bodies.{arms_words, FitsPlace, StmtsMade, ArmsMade, StmtsAgain, ArmsAgain, BodyAgain, AfterAgain, ReturnAgain, body_again, after_again, return_again, stmts_again}
use Rattle.sw_print.proofs.Spelling.ArmsBlocks.{arms_again, arms_laid, block_again}
use Rattle.sw_print.proofs.Spelling.Parameters.{ParameterAgain, parameter_again}
use Rattle.sw_print.proofs.Spelling.Payloads.{PayloadAgain, CaseAgain, payload_again, case_again}
use Rattle.sw_print.proofs.Spelling.Properties.{StatementsAgain}
use Rattle.sw_print.proofs.Spelling.Members.{member_again}
use Rattle.sw_print.proofs.Spelling.Items.{decl_again, item_again, requirement_again}
use Rattle.sw_print.proofs.Spelling.ItemLists.{ItemAgain, SomeAgain, RestAgain, some_again, list_again, rest_again, decls_made}

-- a sentence of the nonterminal, of whatever height; and a value that good tokens spell, at most this high
abbrev pub D : (s : Nonterminal) → ℕ → ℕ → ℕ → ℕ → List Sighted → Sort s → Type 0
D = Derived Sight Face Nonterminal Sort (production false)

abbrev pub B : ℕ → (s : Nonterminal) → ℕ → ℕ → ℕ → ℕ → Sort s → Type 0
B n s d l c e x = (u : List Sighted) × Ok u × Derives Sight Face Nonterminal Sort (production false) n s d l c e u x

-- what is written for each value of the nonterminal spells it
abbrev pub Again : ℕ → Nonterminal → Type 0
Again n TypeExpr = TypeAgain D (B n) (nonterminal TypeExpr)
Again n BaseType = BaseAgain D (B n) (nonterminal BaseType)
Again n Expr = PartAgain D (B n) (nonterminal Expr)
Again n Ternary = PartAgain D (B n) (nonterminal Ternary)
Again n (Binary m) = PartAgain D (B n) (nonterminal (Binary m))
Again n Prefix = PartAgain D (B n) (nonterminal Prefix)
Again n Postfix = PartAgain D (B n) (nonterminal Postfix)
Again n PostfixForm = FormAgain D (B n) (nonterminal PostfixForm)
Again n Argument = ArgumentAgain D (B n) (nonterminal Argument)
Again n Primary = PartAgain D (B n) (nonterminal Primary)
Again n Elements = ElementsAgain D (B n)
Again n Pattern = lines.Again D (B n) (nonterminal Pattern) pattern_words
Again n Caught = lines.Again D (B n) (nonterminal Caught) catch_pattern_words
Again n Condition = lines.Again D (B n) (nonterminal Condition) condition_words
Again n Block = lines.Laid D (B n) (nonterminal Block) block_words
Again n (Statements at) = BodyAgain D (B n) at (nonterminal (Statements at))
Again n (SomeStatements at) = StmtsAgain D (B n) at (nonterminal (SomeStatements at))
Again n (AfterStatement at ending) = AfterAgain D (B n) at (nonterminal (AfterStatement at ending))
Again n (AfterReturn at) = ReturnAgain D (B n) at (nonterminal (AfterReturn at))
Again n (Statement ending) = lines.Again D (B n) (nonterminal (Statement ending)) stmt_words
Again n If = lines.Again D (B n) (nonterminal If) if_words
Again n Arms = ArmsAgain D (B n) (nonterminal Arms)
Again n Param = ParameterAgain D (B n)
Again n Case = CaseAgain D (B n)
Again n Payload = PayloadAgain D (B n)
Again n (Item l) = ItemAgain D (B n) l
Again n (ItemList l) = SomeAgain D (B n) l
Again n (AfterItem l) = RestAgain D (B n) l
Again n File = Unit {0}

-- a sentence of a nonterminal's production is one of the nonterminal
module _ (n : ℕ) (s : Nonterminal) where
  higher : {d l c e : ℕ} {x : Sort s} {words : List Word} {following : List Token} → Made D (production false s) d l c e x words following → Made D (nonterminal s) d l c e x words following
  higher {d = d} {l = l} {c = c} {e = e} {x = x} p =
      record { good = p.good; run = p.run; alike = p.alike; derives = derived Sight Face Nonterminal Sort (production false) s d l c e p.run x p.derives }

  raised : {d l c e : ℕ} {x : Sort s} {words : List Word} {following : List Token} → Spelt D (B n) (production false s) d l c e x words following → Spelt D (B (suc n)) (nonterminal s) d l c e x words following
  raised p = record { headed = p.headed; made = higher p.made }

-- what tokens derive is built of them
pub part : (n : ℕ) {A : Type 0} (a : P A) (d l c e : ℕ) (u : List Sighted) (x : A) → Ok u → Derives_by Sight Face Nonterminal Sort (production false) (Derives Sight Face Nonterminal Sort (production false) n) a d l c e u x → BuiltOf (B n) a d l c e x
part n a d l c e u x ok p =
    built_by Sight Face Nonterminal Sort (production false) IsGood Ok halves one (Derives Sight Face Nonterminal Sort (production false) n) (B n) (λ s d l c e u x ok p. (u, ok, p)) a d l c e u x ok p

produced : (n : ℕ) (s : Nonterminal) (d l c e : ℕ) (x : Sort s) → B (suc n) s d l c e x → BuiltOf (B n) (production false s) d l c e x
produced n s d l c e x (u, ok, p) = part n (production false s) d l c e u x ok p

-- a sentence of an expression begins as one does
starts_as_expr : (d l c e : ℕ) (u : List Sighted) (x : ExprTree) → D Expr d l c e u x → starts.Starts false (first_table Expr) u
starts_as_expr d l c e u x (n, p) = starts.starts_n Sight Face Nonterminal Sort (production false) first_table nullable_table follow_last_table (is_decided false).table n Expr d l c e u x p

-- of marks after a type at most one touches what precedes
few : (n d l c e : ℕ) (u : List Sighted) (marks : List Face) → StandApart u
    → Derives_by Sight Face Nonterminal Sort (production false) (Derives Sight Face Nonterminal Sort (production false) n) (many (counts (terminal is_joined_question))) d l c e u marks
    → (marks ≡ []) ⊎ ((one : Face) × (marks ≡ one ∷ []))
few n d l c e u [] h p = inl refl
few n d l c e u (x ∷ []) h p = inr (x, refl)
few n d l zero e u (x ∷ y ∷ marks) h (v, w, i, eu, p, q) = elim p [ ]
few n d l (suc c) e u (x ∷ y ∷ marks) h (v, w, zero, eu, (t, ev, is, ex, ec), (v2, w2, j, ew, p2, q2)) = elim p2 [ ]
few n d l (suc c) e u (x ∷ y ∷ marks) h (v, w, suc i, eu, (t, ev, is, ex, ec), (v2, w2, j, ew, (t2, ev2, is2, ex2, ec2), q2)) =
    let whole : u ≡ t ∷ t2 ∷ w2 = eu ∙ ap (λ l. l ++ w) ev ∙ ap (λ l. t ∷ l) (ew ∙ ap (λ l. l ++ w2) ev2) in
    absurd ((subst StandApart whole h).0 is is2)

typed : (n : ℕ) → Again n BaseType → (d l c e : ℕ) (y : TypeTree) → B (suc n) TypeExpr d l c e y → (g : Gap) (following : List Token) → Made D (production false TypeExpr) d l c e y (type_words y g) following
typed n base d l c e y (u, ok, ((x, marks), (v, w, m, eu, p, q), h)) g following =
    let (okv, okw) = halves v w (subst Ok eu ok) in
    type_rule D (B n) base d l c m e y x marks (v, okv, p) (part n (many (counts (terminal is_joined_question))) d l m e w marks okw q) h (few n d l m e w marks okw.1 q) g following

-- a sentence of a type begins as one does
starts_as_type : (d l c e : ℕ) (u : List Sighted) (x : TypeTree) → D TypeExpr d l c e u x → starts.Starts false (first_table TypeExpr) u
starts_as_type d l c e u x (n, p) = starts.starts_n Sight Face Nonterminal Sort (production false) first_table nullable_table follow_last_table (is_decided false).table n TypeExpr d l c e u x p

rising : (s : Nonterminal) → Rises D s
rising s d l c e x words following p = higher zero s p

stmts_higher : (at : Context) (d l c e : ℕ) (body : Body) → FitsPlace at body × StmtsMade D (production false (SomeStatements at)) d l c e body → FitsPlace at body × StmtsMade D (nonterminal (SomeStatements at)) d l c e body
stmts_higher at d l c e ([], arms) (fits, made) = elim made [ ]
stmts_higher at d l c e (x ∷ xs, arms) (fits, made) = (fits, λ g following. higher zero (SomeStatements at) (made g following))

arms_higher : (d l c e : ℕ) (arms : List SwitchArm) → ArmsMade D (production false Arms) d l c e arms → ArmsMade D (nonterminal Arms) d l c e arms
arms_higher d l c e [] made = elim made [ ]
arms_higher d l c e (x ∷ xs) made = λ following. higher zero Arms (made following)

-- what is written for the statements of a block, of which there is one
statements : (n : ℕ) → Again n (SomeStatements InBlock) → StatementsAgain D (B n)
statements n stmts d l c e body p rest = go body (stmts d l c e body p)
  where
    go : (body : Body) → FitsPlace InBlock body × StmtsMade D (nonterminal (SomeStatements InBlock)) d l c e body → Made D (nonterminal (SomeStatements InBlock)) d l c e body (lines_words (map stmt_words body.0)) (token_of (plain k.RightBrace gap.Line) ∷ rest)
    go ([], arms) (fits, made) = elim made [ ]
    go (x ∷ xs, arms) (fits, made) =
        let same : lines_words (map stmt_words (x ∷ xs)) ≡ stmt_words x gap.Line ++ (followed (map stmt_words xs) ++ arms_words arms) =
        ap (λ l. stmt_words x gap.Line ++ l) (sym (append-nil (followed (map stmt_words xs))) ∙ ap (λ arms. followed (map stmt_words xs) ++ arms_words arms) (sym fits)) in
        reword D same (made gap.Line (token_of (plain k.RightBrace gap.Line) ∷ rest))

pub again : (n : ℕ) (s : Nonterminal) → Again n s
again zero TypeExpr = λ d l c e x p g following. elim p.2 [ ]
again zero BaseType = λ d l c e x p g following. elim p.2 [ ]
again zero Expr = λ d l c e x p g following. elim p.2 [ ]
again zero Ternary = λ d l c e x p g following. elim p.2 [ ]
again zero (Binary m) = λ d l c e x p g following. elim p.2 [ ]
again zero Prefix = λ d l c e x p g following. elim p.2 [ ]
again zero Postfix = λ d l c e x p g following. elim p.2 [ ]
again zero PostfixForm = λ d l c e x p following. elim p.2 [ ]
again zero Argument = λ d l c e x p g following none. elim p.2 [ ]
again zero Primary = λ d l c e x p g following. elim p.2 [ ]
again zero Elements = λ d l c e x p following. elim p.2 [ ]
again zero Pattern = λ d l c e x p g following. elim p.2 [ ]
again zero Caught = λ d l c e x p g following. elim p.2 [ ]
again zero Condition = λ d l c e x p g following. elim p.2 [ ]
again zero Block = λ d l c e x p following. elim p.2 [ ]
again zero (Statements at) = λ d l c e x p. elim p.2 [ ]
again zero (SomeStatements at) = λ d l c e x p. elim p.2 [ ]
again zero (AfterStatement at ending) = λ d l c e x p. elim p.2 [ ]
again zero (AfterReturn at) = λ d l c e x p. elim p.2 [ ]
again zero (Statement ending) = λ d l c e x p g following. elim p.2 [ ]
again zero If = λ d l c e x p g following. elim p.2 [ ]
again zero Arms = λ d l c e x p. elim p.2 [ ]
again zero Param = λ d l c e x p g following ok. elim p.2 [ ]
again zero Case = λ d l c e x p g following ok. elim p.2 [ ]
again zero Payload = λ d l c e x p g following ok. elim p.2 [ ]
again zero (Item l) = λ d l_ c e x p g following ok. elim p.2 [ ]
again zero (ItemList l) = λ d l_ c e x p g following. elim p.2 [ ]
again zero (AfterItem l) = λ d l_ c e x p following ok. elim p.2 [ ]
again (suc n) TypeExpr = λ d l c e x p g following. higher n TypeExpr (typed n (again n BaseType) d l c e x p g following)
again (suc n) BaseType = λ d l c e x p g following.
    (base_ends D (B n) d l c e x (produced n BaseType d l c e x p) g, higher n BaseType (base_rule D (B n) (again n TypeExpr) d l c e x (produced n BaseType d l c e x p) g following))
again (suc n) Expr = λ d l c e x p g following. raised n Expr (expr_rule D (B n) (again n Ternary) d l c e x (produced n Expr d l c e x p) g following)
again (suc n) Ternary = λ d l c e x p g following. raised n Ternary (ternary_rule D (B n) (again n (Binary 0)) (again n Expr) d l c e x (produced n Ternary d l c e x p) g following)
again (suc n) (Binary m) = λ d l c e x p g following. raised n (Binary m) (binary_rule D (B n) (λ m. again n (Binary m)) (again n Prefix) m d l c e x (produced n (Binary m) d l c e x p) g following)
again (suc n) Prefix = λ d l c e x p g following. raised n Prefix (prefix_rule D (B n) (again n Prefix) (again n Postfix) d l c e x (produced n Prefix d l c e x p) g following)
again (suc n) Postfix = λ d l c e x p g following. raised n Postfix (post_rule D (B n) (again n Primary) (again n PostfixForm) d l c e x (produced n Postfix d l c e x p) g following)
again (suc n) PostfixForm = λ d l c e x p following.
    let made = form_rule D (B n) (again n Expr) (again n Argument) d l c e x (produced n PostfixForm d l c e x p) following in
    record { words = made.words; after_base = made.after_base; no_colon = made.no_colon; made = higher n PostfixForm made.made }
again (suc n) Argument = λ d l c e x p g following none. higher n Argument (argument_rule D (B n) (again n Expr) starts_as_expr d l c e x (produced n Argument d l c e x p) g following none)
again (suc n) Primary = λ d l c e x p g following. raised n Primary (prim_rule D (B n) (again n Expr) (again n Elements) d l c e x (produced n Primary d l c e x p) g following)
again (suc n) Elements = λ d l c e x p following. raised n Elements (elements_rule D (B n) (again n Expr) (again n Elements) d l c e x (produced n Elements d l c e x p) following)
again (suc n) Pattern = λ d l c e x p g following. higher n Pattern (pattern_again D (B n) (again n Expr) d l c e x (produced n Pattern d l c e x p) g following)
again (suc n) Caught = λ d l c e x p g following. higher n Caught (catch_pattern_again D (B n) d l c e x (produced n Caught d l c e x p) g following)
again (suc n) Condition = λ d l c e x p g following. higher n Condition (condition_again D (B n) (again n Expr) d l c e x (produced n Condition d l c e x p) g following)
again (suc n) Block = λ d l c e x p following. higher n Block (block_again D (B n) (rising (Statements InBlock)) (again n (Statements InBlock)) d l c e x (produced n Block d l c e x p) following)
again (suc n) (Statements at) = λ d l c e x p. body_again D (B n) at (again n (SomeStatements at)) (again n Arms) d l c e x (produced n (Statements at) d l c e x p)
again (suc n) (SomeStatements at) = λ d l c e x p.
    stmts_higher at d l c e x (stmts_again D (B n) at (λ ending. again n (Statement ending)) (λ ending. again n (AfterStatement at ending)) (again n (AfterReturn at)) d l c e x (produced n (SomeStatements at) d l c e x p))
again (suc n) (AfterStatement at ending) = λ d l c e x p.
    let (fits, made) = after_again D (B n) at (again n (SomeStatements at)) (again n (Statements at)) (again n Arms) (rising (Statements at)) ending d l c e x (produced n (AfterStatement at ending) d l c e x p) in
    (fits, λ following. higher n (AfterStatement at ending) (made following))
again (suc n) (AfterReturn at) = λ d l c e x p.
    let (fits, made) = return_again D (B n) at (again n (SomeStatements at)) (again n (Statements at)) (again n Arms) (rising (Statements at)) (again n Expr) (again n (AfterStatement at Open)) d l c e x (produced n (AfterReturn at) d l c e x p) in
    (fits, λ following. higher n (AfterReturn at) (made following))
again (suc n) (Statement Open) = λ d l c e x p g following. higher n (Statement Open) (open_again D (B n) (again n Expr) (again n TypeExpr) d l c e x (produced n (Statement Open) d l c e x p) g following)
again (suc n) (Statement Closed) = λ d l c e x p g following.
    higher n (Statement Closed) (closed_again D (B n) (again n Expr) (again n Condition) (again n Block) (again n Caught) (again n If) (arms_laid D (B n) (again n Arms)) d l c e x (produced n (Statement Closed) d l c e x p) g following)
again (suc n) If = λ d l c e x p g following. higher n If (if_again D (B n) (again n Condition) (again n Block) (again n If) d l c e x (produced n If d l c e x p) g following)
again (suc n) Arms = λ d l c e x p. arms_higher d l c e x (arms_again D (B n) (again n Pattern) (rising (Statements InArm)) (again n (Statements InArm)) d l c e x (produced n Arms d l c e x p))
again (suc n) Param = λ d l c e x p g following ok. higher n Param (parameter_again D (B n) (again n TypeExpr) d l c e x (produced n Param d l c e x p) g following ok)
again (suc n) Case = λ d l c e x p g following ok. higher n Case (case_again D (B n) (again n Payload) d l c e x (produced n Case d l c e x p) g following ok)
again (suc n) Payload = λ d l c e x p g following ok. higher n Payload (payload_again D (B n) (again n TypeExpr) starts_as_type d l c e x (produced n Payload d l c e x p) g following ok)
again (suc n) (Item Decls) = λ d l c e x p g following ok.
    higher n (Item Decls) (decl_again D (B n) (again n Param) (again n TypeExpr) (again n Block) (list_again D (B n) Members (again n (ItemList Members))) (list_again D (B n) EnumItems (again n (ItemList EnumItems)))
    (list_again D (B n) Requirements (again n (ItemList Requirements))) d l c e x (produced n (Item Decls) d l c e x p) g following ok)
again (suc n) (Item Members) = λ d l c e x p g following ok.
    higher n (Item Members) (member_again D (B n) (again n Param) (again n TypeExpr) (again n Block) (again n Expr) (statements n (again n (SomeStatements InBlock))) d l c e x (produced n (Item Members) d l c e x p) g following ok)
again (suc n) (Item EnumItems) = λ d l c e x p g following ok.
    higher n (Item EnumItems) (item_again D (B n) (again n Case) (again n (Item Members)) d l c e x (produced n (Item EnumItems) d l c e x p) g following ok)
again (suc n) (Item Requirements) = λ d l c e x p g following ok.
    higher n (Item Requirements) (requirement_again D (B n) (again n Param) (again n TypeExpr) d l c e x (produced n (Item Requirements) d l c e x p) g following ok)
again (suc n) (ItemList l) = λ d l_ c e x p g following.
    let (filled, made) = some_again D (B n) l (again n (Item l)) (again n (AfterItem l)) d l_ c e x (produced n (ItemList l) d l_ c e x p) g following in
    (filled, higher n (ItemList l) made)
again (suc n) (AfterItem l) = λ d l_ c e x p following ok. higher n (AfterItem l) (rest_again D (B n) l (again n (ItemList l)) d l_ c e x (produced n (AfterItem l) d l_ c e x p) following ok)
again n File = tt

-- what is written for the declarations of a source spells them again
pub decls_again : (n d l c e : ℕ) (xs : List Decl) → BuiltOf (B n) (list_of Decls) d l c e xs → (following : List Token) → Made D (list_of Decls) d l c e xs (decls_words xs) following
decls_again n d l c e xs p following = decls_made D (B n) (again n (ItemList Decls)) d l c e xs p following tt
