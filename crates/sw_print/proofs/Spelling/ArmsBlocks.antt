-- What is written for the arms of a `switch`, and for blocks, spells them again.
use Rattle.std.proofs.Common.{◌≡◌, ℕ, false, inl, inr, List, [], ◌∷◌, ◌++◌, map, refl, sym, ap, ◌∙◌, subst, append_assoc, append-nil}
use Rattle.sw_lex.specs.declared.token.TokenKind.TheVariants as k
use Rattle.sw_grammar.specs.Grammar.{nonterminal}
use Rattle.sw_layout.specs.declared.gap.Gap.{Gap}
use Rattle.sw_layout.specs.declared.gap.Gap.TheVariants as gap
use Rattle.sw_layout.specs.Words.{plain, token_of}
use Rattle.sw_tree.specs.declared.stmt.ArmLabel.{ArmLabel}
use Rattle.sw_tree.specs.declared.stmt.ArmLabel.TheVariants as arm
use Rattle.sw_tree.specs.declared.stmt.SwitchArm.{SwitchArm}
use Rattle.sw_syntax.specs.Tokens.{same_kind, Sighted}
use Rattle.sw_syntax.specs.Nonterminals.{InBlock, InArm, Nonterminal, Sort, Body, Statements, Block, Arms, Pattern}
use Rattle.sw_syntax.specs.Grammar.{production, arm_label}
use Rattle.sw_print.specs.Expressions.{W, listed}
use Rattle.sw_print.specs.Statements.{pattern_words, label_words, lines, each_line, stmt_words, block_words}
use Rattle.sw_print.proofs.Spelling.Making.{Made, make_both, make_gives, make_left, make_right, reword}
use Rattle.sw_print.proofs.Spelling.Marks.{make_tok}
use Rattle.sw_print.proofs.Spelling.Lines.{Again, Laid, Rises, any_made, braces_made}
use Rattle.sw_print.proofs.Spelling.StmtLayers.{arm_words}
use Rattle.sw_print.proofs.Spelling.Bodies.{arms_words, body_words, ArmsMade, ArmsAgain, BodyAgain, sbody_laid}

-- ---- labels

-- a label without its `:`
abbrev label_start : ArmLabel → W
label_start (arm.Case patterns) g = plain k.Case g ∷ listed (map pattern_words patterns)
label_start arm.Default g = plain k.Default g ∷ []

words_label : (label : ArmLabel) (g : Gap) → label_words label g ≡ label_start label g ++ plain k.Colon gap.Space ∷ []
words_label (arm.Case patterns) g = refl
words_label arm.Default g = refl

words_arms : (label : ArmLabel) (body : Body)
    → arms_words (record { label = label; body = body.0 } ∷ body.1) ≡ label_start label gap.Line ++ (plain k.Colon gap.Space ∷ body_words body)
words_arms label body =
    let first = lines (map stmt_words body.0) in
    ap (λ l. (l ++ first) ++ arms_words body.1) (words_label label gap.Line)
    ∙ append_assoc (label_start label gap.Line ++ plain k.Colon gap.Space ∷ []) first (arms_words body.1)
    ∙ append_assoc (label_start label gap.Line) (plain k.Colon gap.Space ∷ []) (first ++ arms_words body.1)

module _ (D : (s : Nonterminal) → ℕ → ℕ → ℕ → ℕ → List Sighted → Sort s → Type 0) (B : (s : Nonterminal) → ℕ → ℕ → ℕ → ℕ → Sort s → Type 0) where
  -- case pat,* | default
  label_made : Again D B (nonterminal Pattern) pattern_words → Again D B arm_label label_start
  unfolding same_kind
  label_made patterns d l c e y (inl (xs, ((word', xs2), (m, p, q), same), h)) g following =
      make_left D (make_gives D h (reword D (ap (λ y. label_start y g) (h ∙ ap arm.Case same)) (make_gives D same
      (make_both D (make_tok D B k.Case g _ d l c m word' p refl refl) (any_made D B (nonterminal Pattern) pattern_words patterns d l m e xs2 q following)))))
  label_made patterns d l c e y (inr (word', p, h)) g following =
      make_right D (make_gives D h (reword D (ap (λ y. label_start y g) h) (make_tok D B k.Default g following d l c e word' p refl refl)))

  -- ((case pat,* | default) : sbody)*, with at least one
  pub arms_again : Again D B (nonterminal Pattern) pattern_words → Rises D (Statements InArm) → BodyAgain D B InArm (nonterminal (Statements InArm)) → ArmsAgain D B (production false Arms)
  unfolding same_kind
  arms_again patterns rises sbody d l c e y ((label, body), (m, p, ((colon, body2), (m2, q, r), same)), h) =
      subst (ArmsMade D (production false Arms) d l c e) (sym h) (λ following. make_gives D refl (reword D (words_arms label body)
      (make_both D (label_made patterns d l c m label p gap.Line (map token_of (plain k.Colon gap.Space ∷ body_words body) ++ following))
      (make_gives D same (reword D (ap (λ body. plain k.Colon gap.Space ∷ body_words body) same)
      (make_both D (make_tok D B k.Colon gap.Space _ d l m m2 colon q refl refl) (sbody_laid D B InArm rises sbody d l m2 e body2 r following)))))))

  -- what is written for arms, without the word that there is one
  pub arms_laid : ArmsAgain D B (nonterminal Arms) → Laid D B (nonterminal Arms) (λ arms. each_line (map arm_words arms))
  arms_laid again d l c e arms p following = of arms (again d l c e arms p)
    where
      of : (arms : List SwitchArm) → ArmsMade D (nonterminal Arms) d l c e arms → Made D (nonterminal Arms) d l c e arms (arms_words arms) following
      of [] made = elim made [ ]
      of (x ∷ xs) made = made following

  -- block = { sbody }
  pub block_again : Rises D (Statements InBlock) → BodyAgain D B InBlock (nonterminal (Statements InBlock)) → Laid D B (production false Block) block_words
  block_again rises sbody d l c e y (body, p, h) following =
      make_gives D h (reword D (ap block_words h) (braces_made D B (nonterminal (Statements InBlock)) (λ body. lines (map stmt_words body.0)) only d l c e body p following))
    where
      only : Laid D B (nonterminal (Statements InBlock)) (λ body. lines (map stmt_words body.0))
      only d l c e body p following =
          let (fits, made) = sbody d l c e body p in
          reword D (sym (append-nil (lines (map stmt_words body.0))) ∙ ap (λ arms. lines (map stmt_words body.0) ++ arms_words arms) (sym fits)) (sbody_laid D B InBlock rises sbody d l c e body p following)
