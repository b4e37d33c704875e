-- What is written for statements one after the other spells them again.
use Rattle.std.proofs.Common.{◌≡◌, ℕ, Bool, true, false, ◌⊎◌, inl, inr, if◌then◌else◌, List, [], ◌∷◌, ◌++◌, map, Option, Some, None, refl, sym, ap, ◌∙◌, subst, append_assoc}
use Rattle.sw_lex.specs.declared.token.TokenKind.TheVariants as k
use Rattle.sw_lex.specs.declared.token.Token.{Token}
use Rattle.sw_lex.specs.Tables.{marks, IsListed}
use Rattle.sw_grammar.specs.Grammar.{FirstPasses, nonterminal, gives}
use Rattle.sw_layout.specs.declared.gap.Gap.{Gap}
use Rattle.sw_layout.specs.declared.gap.Gap.TheVariants as gap
use Rattle.sw_layout.specs.Words.{Word, plain, token_of, fixed, nowhere}
use Rattle.sw_tree.specs.declared.expr.Expr.{Expr as ExprTree}
use Rattle.sw_tree.specs.declared.stmt.Stmt.{Stmt}
use Rattle.sw_tree.specs.declared.stmt.Stmt.TheVariants as s
use Rattle.sw_tree.specs.declared.stmt.ArmLabel.{ArmLabel}
use Rattle.sw_tree.specs.declared.stmt.ArmLabel.TheVariants as arm
use Rattle.sw_tree.specs.declared.stmt.SwitchArm.{SwitchArm}
use Rattle.sw_syntax.specs.Tokens.{same_kind, Sighted, Face}
use Rattle.sw_syntax.specs.Nonterminals.{Context, InBlock, InArm, Ending, Open, Closed, Nonterminal, Sort, Body, Expr, Statements, SomeStatements, AfterStatement, AfterReturn, Statement, Arms}
use Rattle.sw_syntax.specs.Parts.{P, ◌·◌, tok, after as after_terminal}
use Rattle.sw_syntax.specs.Grammar.{production, begins_below, next_stmts}
use Rattle.sw_syntax.specs.Tests.{is_first}
use Rattle.sw_syntax.specs.Forms.{empty_body, ahead, only_arms}
use Rattle.sw_print.specs.Seen.{seen_in}
use Rattle.sw_print.specs.Expressions.{perhaps, expr_words}
use Rattle.sw_print.specs.Statements.{begins_with_dot, separated, followed, lines, each_line, label_words, stmt_words}
use Rattle.sw_print.proofs.Spelling.Good.{IsOfKind}
use Rattle.sw_print.proofs.Spelling.Making.{Made, make_both, make_gives, make_left, make_right, make_none, make_some, make_mark, reword}
use Rattle.sw_print.proofs.Spelling.Marks.{BuiltOf, make_place}
use Rattle.sw_print.proofs.Spelling.Texts.{PartAgain}
use Rattle.sw_print.proofs.Spelling.Lines.{Again, Laid, Rises, make_when, whole_expr_again}
use Rattle.sw_print.proofs.Spelling.Firsts.{begun_append, dot_append, expr_begun, stmt_begun, heads_below, heads_on_line}
use Rattle.sw_print.proofs.Spelling.StmtLayers.{arm_words, words_return}

-- ---- what is written

abbrev pub arms_words : List SwitchArm → List Word
arms_words arms = each_line (map arm_words arms)

-- what follows a statement
abbrev pub after_words : Body → List Word
after_words body = followed (map stmt_words body.0) ++ arms_words body.1

-- statements, and arms after them
abbrev pub body_words : Body → List Word
body_words body = lines (map stmt_words body.0) ++ arms_words body.1

abbrev pub return_words : Option ExprTree × Body → List Word
return_words x = perhaps (λ value. expr_words value gap.Space) x.0 ++ after_words x.1

-- in a block there are no arms
abbrev pub FitsPlace : Context → Body → Type 0
FitsPlace InBlock body = body.1 ≡ []
FitsPlace InArm body = Unit {0}

fits_ahead : (at : Context) (x : Stmt) (body : Body) → FitsPlace at body → FitsPlace at (ahead x body)
fits_ahead InBlock x body h = h
fits_ahead InArm x body h = tt

fits_empty : (at : Context) → FitsPlace at empty_body
fits_empty InBlock = refl
fits_empty InArm = tt

-- ---- the tests of what stands first

label_first : (label : ArmLabel) (v w : List Word) (following : List Token) → FirstPasses is_first (seen_in ((label_words label gap.Line ++ v) ++ w) following)
label_first (arm.Case patterns) v w following = refl
label_first arm.Default v w following = refl

words_dot : (x : Stmt) (v w : List Word) → begins_with_dot (stmt_words x gap.Line) ≡ true → (separated (stmt_words x) ++ v) ++ w ≡ plain k.Semicolon gap.Space ∷ (stmt_words x gap.Space ++ (v ++ w))
words_dot x v w h =
    ap (λ b. ((if b then plain k.Semicolon gap.Space ∷ stmt_words x gap.Space else stmt_words x gap.Line) ++ v) ++ w) h
    ∙ ap (λ l. plain k.Semicolon gap.Space ∷ l) (append_assoc (stmt_words x gap.Space) v w)

words_below : (x : Stmt) (v w : List Word) → begins_with_dot (stmt_words x gap.Line) ≡ false → (separated (stmt_words x) ++ v) ++ w ≡ stmt_words x gap.Line ++ (v ++ w)
words_below x v w h =
    ap (λ b. ((if b then plain k.Semicolon gap.Space ∷ stmt_words x gap.Space else stmt_words x gap.Line) ++ v) ++ w) h
    ∙ append_assoc (stmt_words x gap.Line) v w

module _ (D : (s : Nonterminal) → ℕ → ℕ → ℕ → ℕ → List Sighted → Sort s → Type 0) where
  -- what is written for a list of statements, by what stands before the first, spells it; there is one
  abbrev pub StmtsMade : P Body → ℕ → ℕ → ℕ → ℕ → Body → Type 0
  StmtsMade a d l c e ([], arms) = ⊥
  StmtsMade a d l c e (x ∷ xs, arms) = (g : Gap) (following : List Token) → Made D a d l c e (x ∷ xs, arms) (stmt_words x g ++ after_words (xs, arms)) following

  -- what is written for arms spells them; there is one
  abbrev pub ArmsMade : P (List SwitchArm) → ℕ → ℕ → ℕ → ℕ → List SwitchArm → Type 0
  ArmsMade a d l c e [] = ⊥
  ArmsMade a d l c e (x ∷ xs) = (following : List Token) → Made D a d l c e (x ∷ xs) (arms_words (x ∷ xs)) following

  -- Statements, perhaps none, and arms: what is written for the statements, or, where there are none, for the arms, spells
  -- them; and where there is nothing, nothing is counted.
  abbrev pub BodyMade : Context → ℕ → ℕ → ℕ → ℕ → Body → Type 0
  BodyMade at d l c e ([], []) = e ≡ c
  BodyMade at d l c e ([], x ∷ xs) = ArmsMade (nonterminal Arms) d l c e (x ∷ xs)
  BodyMade at d l c e (x ∷ xs, arms) = StmtsMade (nonterminal (SomeStatements at)) d l c e (x ∷ xs, arms)

  -- what spells statements by one part does so by another that has the texts of the first
  within_stmts : (at : Context) (a b : P Body) → ((d l c e : ℕ) (x : Body) (w : List Word) (following : List Token) → Made D a d l c e x w following → Made D b d l c e x w following)
      → (d l c e : ℕ) (body : Body) → FitsPlace at body × StmtsMade a d l c e body → FitsPlace at body × StmtsMade b d l c e body
  within_stmts at a b f d l c e ([], arms) (fits, made) = elim made [ ]
  within_stmts at a b f d l c e (x ∷ xs, arms) (fits, made) = (fits, λ g following. f d l c e (x ∷ xs, arms) _ following (made g following))

  stmts_body : (at : Context) (d l c e : ℕ) (body : Body) → StmtsMade (nonterminal (SomeStatements at)) d l c e body → BodyMade at d l c e body
  stmts_body at d l c e ([], arms) p = elim p [ ]
  stmts_body at d l c e (x ∷ xs, arms) p = p

  arms_body : (at : Context) (d l c e : ℕ) (arms : List SwitchArm) → ArmsMade (nonterminal Arms) d l c e arms → BodyMade at d l c e (only_arms arms)
  arms_body at d l c e [] p = elim p [ ]
  arms_body at d l c e (x ∷ xs) p = p

  -- a `;` that no source need have
  abbrev semicolon_face : Face
  semicolon_face = record { kind = k.Semicolon; text = fixed k.Semicolon; span = nowhere }

  semicolon_listed : IsListed marks (fixed k.Semicolon) k.Semicolon
  unfolding marks
  semicolon_listed =
      inr (inr (inr (inr (inr (inr (inr (inr (inr (inr (inr (inr (inr (inr (inr (inr (inr (inr (inr (inr (inr (inr (inr (inl (refl, refl))))))))))))))))))))))))

  semicolon_good : IsOfKind k.Semicolon (fixed k.Semicolon)
  semicolon_good = (inr semicolon_listed, λ e. absurd (cc))

  make_semicolon : (following : List Token) (d l c : ℕ) → Made D (tok k.Semicolon) d l c c semicolon_face (plain k.Semicolon gap.Space ∷ []) following
  unfolding same_kind
  make_semicolon following d l c = make_mark D (plain k.Semicolon gap.Space) semicolon_face refl refl semicolon_good refl refl

  -- ---- statements, perhaps none

  sbody_made : (at : Context) (d l c e : ℕ) (x : Stmt) (xs : List Stmt) (arms : List SwitchArm) (w : List Word) (following : List Token)
      → Made D (nonterminal (SomeStatements at)) d l c e (x ∷ xs, arms) w following → Made D (production false (Statements at)) d l c e (x ∷ xs, arms) w following
  sbody_made InBlock d l c e x xs arms w following made = make_gives D refl (make_some D made)
  sbody_made InArm d l c e x xs arms w following made = make_gives D refl (make_some D (make_left D made))

  -- sbody = (stmt sep)*
  pub sbody_again : (at : Context) (d l c e : ℕ) (body : Body) → FitsPlace at body → BodyMade at d l c e body → (following : List Token) → Made D (production false (Statements at)) d l c e body (body_words body) following
  sbody_again InBlock d l c e ([], []) fits h following = make_gives D refl (make_none D h)
  sbody_again InArm d l c e ([], []) fits h following = make_gives D refl (make_none D h)
  sbody_again InBlock d l c e ([], x ∷ xs) fits made following = absurd (cc)
  sbody_again InArm d l c e ([], x ∷ xs) fits made following = make_gives D refl (make_some D (make_right D (make_gives D refl (made following))))
  sbody_again at d l c e (x ∷ xs, arms) fits made following =
      reword D (append_assoc (stmt_words x gap.Line) (followed (map stmt_words xs)) (arms_words arms)) (sbody_made at d l c e x xs arms _ following (made gap.Line following))

  -- ---- what may follow a statement

  -- after `;`
  by_semicolon : (at : Context) (ending : Ending) (d l c e : ℕ) (body : Body) (w : List Word) (following : List Token)
      → Made D (nonterminal (Statements at)) d l c e body w following → Made D (next_stmts at ending) d l c e body (plain k.Semicolon gap.Space ∷ w) following
  by_semicolon InBlock ending d l c e body w following made = make_left D (make_gives D refl (make_both D (make_semicolon _ d l c) made))
  by_semicolon InArm ending d l c e body w following made = make_left D (make_gives D refl (make_both D (make_semicolon _ d l c) made))

  -- at the start of a line
  by_line : (at : Context) (ending : Ending) (d l c e : ℕ) (body : Body) (w : List Word) (following : List Token) → FirstPasses (begins_below ending) (seen_in w following)
      → Made D (nonterminal (SomeStatements at)) d l c e body w following → Made D (next_stmts at ending) d l c e body w following
  by_line InBlock ending d l c e body w following heads made = make_right D (make_when D heads made)
  by_line InArm ending d l c e body w following heads made = make_right D (make_left D (make_when D heads made))

  next_stmt : (at : Context) → Rises D (Statements at) → (ending : Ending) (d l c e : ℕ) (x : Stmt) (xs : List Stmt) (arms : List SwitchArm)
      → StmtsMade (nonterminal (SomeStatements at)) d l c e (x ∷ xs, arms) → (following : List Token) → Made D (next_stmts at ending) d l c e (x ∷ xs, arms) (after_words (x ∷ xs, arms)) following
  next_stmt at rises ending d l c e x xs arms made following = go (begins_with_dot (stmt_words x gap.Line)) refl
    where
      go : (b : Bool) → begins_with_dot (stmt_words x gap.Line) ≡ b → Made D (next_stmts at ending) d l c e (x ∷ xs, arms) (after_words (x ∷ xs, arms)) following
      go true h =
          reword D (words_dot x (followed (map stmt_words xs)) (arms_words arms) h)
          (by_semicolon at ending d l c e (x ∷ xs, arms) (stmt_words x gap.Space ++ after_words (xs, arms)) following
          (rises d l c e (x ∷ xs, arms) (stmt_words x gap.Space ++ after_words (xs, arms)) following (sbody_made at d l c e x xs arms _ following (made gap.Space following))))
      go false h =
          let its = made gap.Line following in
          let begun = stmt_begun x gap.Line in
          reword D (words_below x (followed (map stmt_words xs)) (arms_words arms) h)
          (by_line at ending d l c e (x ∷ xs, arms) (stmt_words x gap.Line ++ after_words (xs, arms)) following
          (heads_below ending (stmt_words x gap.Line ++ after_words (xs, arms)) following its.good (begun_append gap.Line (stmt_words x gap.Line) (after_words (xs, arms)) begun)
          (dot_append gap.Line (stmt_words x gap.Line) (after_words (xs, arms)) begun ∙ h)) its)

  -- Nothing stands there; or what is written spells it.
  abbrev NextMade : Context → Ending → ℕ → ℕ → ℕ → ℕ → Body → Type 0
  NextMade at ending d l c e body = ((body ≡ empty_body) × (e ≡ c)) ⊎ ((following : List Token) → Made D (next_stmts at ending) d l c e body (after_words body) following)

  next_made : (at : Context) → Rises D (Statements at) → (ending : Ending) (d l c e : ℕ) (body : Body) → FitsPlace at body → BodyMade at d l c e body → NextMade at ending d l c e body
  next_made at rises ending d l c e ([], []) fits h = inl (refl, h)
  next_made InBlock rises ending d l c e ([], x ∷ xs) fits made = absurd (cc)
  next_made InArm rises ending d l c e ([], x ∷ xs) fits made = inr (λ following.
      make_right D (make_right D (make_gives D refl (make_when D (label_first x.label _ (arms_words xs) following) (made following)))))
  next_made at rises ending d l c e (x ∷ xs, arms) fits made = inr (λ following. next_stmt at rises ending d l c e x xs arms made following)

  after_made : (at : Context) (ending : Ending) (d l c e : ℕ) (body : Body) → NextMade at ending d l c e body → (following : List Token)
      → Made D (production false (AfterStatement at ending)) d l c e body (after_words body) following
  after_made at ending d l c e body (inl (h, same)) following = make_gives D h (reword D (ap after_words h) (make_none D same))
  after_made at ending d l c e body (inr made) following = make_gives D refl (make_some D (made following))

  -- after a `return` without a value
  bare_made : (at : Context) (d l c e : ℕ) (body : Body) → NextMade at Closed d l c e body → (following : List Token)
      → Made D (production false (AfterReturn at)) d l c e (None, body) (return_words (None, body)) following
  bare_made at d l c e body (inl (h, same)) following = make_gives D (ap (λ body. (None, body)) h) (reword D (ap after_words h) (make_none D same))
  bare_made at d l c e body (inr made) following = make_gives D refl (make_some D (make_right D (make_gives D refl (made following))))

module _ (D : (s : Nonterminal) → ℕ → ℕ → ℕ → ℕ → List Sighted → Sort s → Type 0) (B : (s : Nonterminal) → ℕ → ℕ → ℕ → ℕ → Sort s → Type 0) where
  abbrev pub StmtsAgain : Context → P Body → Type 0
  StmtsAgain at a = (d l c e : ℕ) (body : Body) → BuiltOf B a d l c e body → FitsPlace at body × StmtsMade D a d l c e body

  abbrev pub ArmsAgain : P (List SwitchArm) → Type 0
  ArmsAgain a = (d l c e : ℕ) (arms : List SwitchArm) → BuiltOf B a d l c e arms → ArmsMade D a d l c e arms

  abbrev pub BodyAgain : Context → P Body → Type 0
  BodyAgain at a = (d l c e : ℕ) (body : Body) → BuiltOf B a d l c e body → FitsPlace at body × BodyMade D at d l c e body

  abbrev pub AfterAgain : Context → P Body → Type 0
  AfterAgain at a = (d l c e : ℕ) (body : Body) → BuiltOf B a d l c e body → FitsPlace at body × ((following : List Token) → Made D a d l c e body (after_words body) following)

  abbrev pub ReturnAgain : Context → P (Option ExprTree × Body) → Type 0
  ReturnAgain at a = (d l c e : ℕ) (x : Option ExprTree × Body) → BuiltOf B a d l c e x → FitsPlace at x.1 × ((following : List Token) → Made D a d l c e x (return_words x) following)

  -- what is written for statements, perhaps none, and arms
  pub sbody_laid : (at : Context) → Rises D (Statements at) → BodyAgain at (nonterminal (Statements at)) → Laid D B (nonterminal (Statements at)) body_words
  sbody_laid at rises again d l c e body p following =
      let (fits, made) = again d l c e body p in rises d l c e body (body_words body) following (sbody_again D at d l c e body fits made following)

  stmts_there : (at : Context) → StmtsAgain at (nonterminal (SomeStatements at)) → BodyAgain at (nonterminal (SomeStatements at))
  stmts_there at stmts d l c e body p = let (fits, made) = stmts d l c e body p in (fits, stmts_body D at d l c e body made)

  -- sbody = (stmt sep)*
  pub body_again : (at : Context) → StmtsAgain at (nonterminal (SomeStatements at)) → ArmsAgain (nonterminal Arms) → BodyAgain at (production false (Statements at))
  body_again InBlock stmts arms d l c e y (None, p, h) = subst (λ y. FitsPlace InBlock y × BodyMade D InBlock d l c e y) (sym h) (refl, p)
  body_again InBlock stmts arms d l c e y (Some body, p, h) = subst (λ y. FitsPlace InBlock y × BodyMade D InBlock d l c e y) (sym h) (stmts_there InBlock stmts d l c e body p)
  body_again InArm stmts arms d l c e y (None, p, h) = subst (λ y. FitsPlace InArm y × BodyMade D InArm d l c e y) (sym h) (tt, p)
  body_again InArm stmts arms d l c e y (Some body, inl p, h) = subst (λ y. FitsPlace InArm y × BodyMade D InArm d l c e y) (sym h) (stmts_there InArm stmts d l c e body p)
  body_again InArm stmts arms d l c e y (Some body, inr (xs, p, same), h) =
      subst (λ y. FitsPlace InArm y × BodyMade D InArm d l c e y) (sym (h ∙ same)) (tt, arms_body D InArm d l c e xs (arms d l c e xs p))

  behind_semicolon : (at : Context) → BodyAgain at (nonterminal (Statements at)) → BodyAgain at (after_terminal (tok k.Semicolon) (nonterminal (Statements at)))
  behind_semicolon at sbody d l c e y ((semicolon, body), (m, (t, good, passed, ex, ec), q), h) =
      subst (λ y. FitsPlace at y × BodyMade D at d l c e y) (sym h) (subst (λ c. FitsPlace at body × BodyMade D at d l c e body) ec (sbody d l m e body q))

  module _ (at : Context) (stmts : StmtsAgain at (nonterminal (SomeStatements at))) (sbody : BodyAgain at (nonterminal (Statements at))) (arms : ArmsAgain (nonterminal Arms)) where
    next_there : (ending : Ending) → BodyAgain at (next_stmts at ending)
    next_there ending = of at stmts sbody
      where
        of : (at : Context) → StmtsAgain at (nonterminal (SomeStatements at)) → BodyAgain at (nonterminal (Statements at)) → BodyAgain at (next_stmts at ending)
        of InBlock stmts sbody d l c e y (inl p) = behind_semicolon InBlock sbody d l c e y p
        of InBlock stmts sbody d l c e y (inr p) = stmts_there InBlock stmts d l c e y p
        of InArm stmts sbody d l c e y (inl p) = behind_semicolon InArm sbody d l c e y p
        of InArm stmts sbody d l c e y (inr (inl p)) = stmts_there InArm stmts d l c e y p
        of InArm stmts sbody d l c e y (inr (inr (xs, p, h))) = subst (λ y. FitsPlace InArm y × BodyMade D InArm d l c e y) (sym h) (tt, arms_body D InArm d l c e xs (arms d l c e xs p))

    module _ (rises : Rises D (Statements at)) where
      next_spelt : (ending : Ending) (d l c e : ℕ) (body : Body) → BuiltOf B (next_stmts at ending) d l c e body → FitsPlace at body × NextMade D at ending d l c e body
      next_spelt ending d l c e body p = let (fits, made) = next_there ending d l c e body p in (fits, next_made D at rises ending d l c e body fits made)

      -- what may follow a statement
      pub after_again : (ending : Ending) → AfterAgain at (production false (AfterStatement at ending))
      after_again ending d l c e y (None, p, h) =
          subst (λ y. FitsPlace at y × ((following : List Token) → Made D (production false (AfterStatement at ending)) d l c e y (after_words y) following)) (sym h)
          (fits_empty at, after_made D at ending d l c e empty_body (inl (refl, p)))
      after_again ending d l c e y (Some body, p, h) =
          let (fits, made) = next_spelt ending d l c e body p in
          subst (λ y. FitsPlace at y × ((following : List Token) → Made D (production false (AfterStatement at ending)) d l c e y (after_words y) following)) (sym h)
          (fits, after_made D at ending d l c e body made)

      -- the value of a `return`, and what may follow
      pub return_again : PartAgain D B (nonterminal Expr) → AfterAgain at (nonterminal (AfterStatement at Open)) → ReturnAgain at (production false (AfterReturn at))
      return_again within after d l c e y (None, p, h) =
          subst (λ y. FitsPlace at y.1 × ((following : List Token) → Made D (production false (AfterReturn at)) d l c e y (return_words y) following)) (sym h)
          (fits_empty at, bare_made D at d l c e empty_body (inl (refl, p)))
      return_again within after d l c e y (Some z, inl ((x, body), (m, p, q), same), h) =
          let (fits, made) = after d l m e body q in
          subst (λ y. FitsPlace at y.1 × ((following : List Token) → Made D (production false (AfterReturn at)) d l c e y (return_words y) following)) (sym (h ∙ same)) (
            fits,
            λ following. make_gives D refl (make_some D (make_left D (make_gives D refl (make_both D
                (make_when D (heads_on_line (expr_words x gap.Space) (map token_of (after_words body) ++ following) (expr_begun x gap.Space))
                (whole_expr_again D B within d l c m x p gap.Space (map token_of (after_words body) ++ following)).made)
                (made following))))),
          )
      return_again within after d l c e y (Some z, inr (body, p, same), h) =
          let (fits, made) = next_spelt Closed d l c e body p in
          subst (λ y. FitsPlace at y.1 × ((following : List Token) → Made D (production false (AfterReturn at)) d l c e y (return_words y) following)) (sym (h ∙ same))
          (fits, bare_made D at d l c e body made)

  -- ---- at least one statement

  ahead_made : (at : Context) (ending : Ending) → Again D B (nonterminal (Statement ending)) stmt_words → AfterAgain at (nonterminal (AfterStatement at ending))
      → StmtsAgain at (gives (λ x. ahead x.0 x.1) (nonterminal (Statement ending) · nonterminal (AfterStatement at ending)))
  ahead_made at ending stmts after d l c e y ((x, body), (m, p, q), h) =
      let (fits, made) = after d l m e body q in
      subst (λ y. FitsPlace at y × StmtsMade D (gives (λ x. ahead x.0 x.1) (nonterminal (Statement ending) · nonterminal (AfterStatement at ending))) d l c e y) (sym h)
      (fits_ahead at x body fits, λ g following. make_gives D refl (make_both D (stmts d l c m x p g (map token_of (after_words body) ++ following)) (made following)))

  -- stmt sep, and what follows
  pub stmts_again : (at : Context) → ((ending : Ending) → Again D B (nonterminal (Statement ending)) stmt_words) → ((ending : Ending) → AfterAgain at (nonterminal (AfterStatement at ending)))
      → ReturnAgain at (nonterminal (AfterReturn at)) → StmtsAgain at (production false (SomeStatements at))
  unfolding same_kind
  stmts_again at stmts after last d l c e y (inl p) =
      within_stmts D at _ (production false (SomeStatements at)) (λ d l c e x w following made. make_left D made) d l c e y (ahead_made at Open (stmts Open) (after Open) d l c e y p)
  stmts_again at stmts after last d l c e y (inr (inl p)) =
      within_stmts D at _ (production false (SomeStatements at)) (λ d l c e x w following made. make_right D (make_left D made)) d l c e y (ahead_made at Closed (stmts Closed) (after Closed) d l c e y p)
  stmts_again at stmts after last d l c e y (inr (inr ((place', (value, body)), (m, p, q), h))) =
      let (fits, made) = last d l m e (value, body) q in
      subst (λ y. FitsPlace at y × StmtsMade D (production false (SomeStatements at)) d l c e y) (sym h) (
        fits_ahead at (s.Return place' value) body fits,
        λ g following. make_right D (make_right D (make_gives D refl
            (reword D (ap (λ v. v ++ after_words body) (words_return place' value g))
            (make_both D (make_place D B k.Return g _ d l c m place' p refl (λ x. refl)) (made following))))),
      )
