-- What is written for the branches of an `if` spells them again.
use Rattle.std.proofs.Common.{◌≡◌, ℕ, zero, suc, false, inl, inr, List, [], ◌∷◌, ◌++◌, map, Some, None, refl, ap, ◌∙◌, append_assoc}
use Rattle.sw_lex.specs.declared.token.TokenKind.TheVariants as k
use Rattle.sw_grammar.specs.Grammar.{nonterminal}
use Rattle.sw_layout.specs.declared.gap.Gap.{Gap}
use Rattle.sw_layout.specs.declared.gap.Gap.TheVariants as gap
use Rattle.sw_layout.specs.Words.{plain}
use Rattle.sw_tree.specs.declared.stmt.Branch.{Branch}
use Rattle.sw_syntax.specs.Tokens.{same_kind, Sighted}
use Rattle.sw_syntax.specs.Nonterminals.{Nonterminal, Sort, Branches, Condition, Block, If}
use Rattle.sw_syntax.specs.Grammar.{production, branch}
use Rattle.sw_syntax.specs.Forms.{else_if}
use Rattle.sw_print.specs.Expressions.{perhaps}
use Rattle.sw_print.specs.Statements.{condition_words, else_ifs, block_words}
use Rattle.sw_print.proofs.Spelling.Making.{make_both, make_gives, make_left, make_right, make_none, make_some, make_counts, reword}
use Rattle.sw_print.proofs.Spelling.Marks.{make_place}
use Rattle.sw_print.proofs.Spelling.Lines.{Again, Laid}
use Rattle.sw_print.proofs.Spelling.Patterns.{conditions_again}
use Rattle.sw_print.proofs.Spelling.Elses.{make_else, make_else_if}
use Rattle.sw_print.proofs.Spelling.StmtLayers.{branch_words, otherwise_words, if_words}

-- a branch before others is written before an `else` and these
words_else_if : (first : Branch) (rest : Branches) (g : Gap) → if_words (else_if rest first) g ≡ branch_words first g ++ (plain k.Else gap.Space ∷ if_words rest gap.Space)
words_else_if first rest g =
    ap (λ l. branch_words first g ++ (plain k.Else gap.Space ∷ l)) (append_assoc (branch_words rest.0 gap.Space) (else_ifs (map branch_words rest.1.0)) (perhaps otherwise_words rest.1.1))

module _ (D : (s : Nonterminal) → ℕ → ℕ → ℕ → ℕ → List Sighted → Sort s → Type 0) (B : (s : Nonterminal) → ℕ → ℕ → ℕ → ℕ → Sort s → Type 0) where
  module _ (conditions : Again D B (nonterminal Condition) condition_words) (block : Laid D B (nonterminal Block) block_words) where
    -- if conds block
    branch_again : Again D B branch branch_words
    unfolding same_kind
    branch_again d l c e y ((at, (xs, body)), (m, p, (m2, q, r)), h) g following =
        make_gives D h (reword D (ap (λ y. branch_words y g) h) (make_both D (make_place D B k.If g _ d l c m at p refl (λ x. refl))
        (make_both D (conditions_again D B conditions d l m m2 xs q _) (block d l m2 e body r following))))

    -- if conds block (else (block | if-stmt))?
    pub if_again : Again D B (nonterminal If) if_words → Again D B (production false If) if_words
    unfolding same_kind
    if_again again d l c e y ((first, None), (m, p, q), h) g following =
        make_gives D h (reword D (ap (λ y. if_words y g) h) (make_both D (branch_again d l c m first p g _) (make_none D q)))
    if_again again d l c e y ((first, Some rest), (m, p, inl (body, ((word', body2), (m2, q, r), same), h2)), h) g following =
        make_gives D h (reword D (ap (λ y. if_words y g) (h ∙ ap (λ rest. rest first) h2 ∙ ap (λ body. (first, ([], Some body))) same))
        (make_both D (branch_again d l c m first p g _) (make_some D (make_left D (make_gives D h2 (make_gives D same
        (make_both D (make_else D B _ refl d l m m2 word' q) (block d l m2 e body2 r following))))))))
    if_again again d l c e y ((first, Some rest), (zero, p, inr (tail, ((word', tail2), (m2, q, r), same), h2)), h) g following = elim q [ ]
    if_again again d l c e y ((first, Some rest), (suc m, p, inr (tail, ((word', tail2), (m2, q, r), same), h2)), h) g following =
        make_gives D h (reword D (ap (λ y. if_words y g) (h ∙ ap (λ rest. rest first) h2 ∙ ap (λ tail. else_if tail first) same) ∙ words_else_if first tail2 g)
        (make_both D (branch_again d l c (suc m) first p g _) (make_some D (make_right D (make_gives D h2 (make_gives D same
        (make_both D (make_counts D (make_else_if D B _ refl d l m m2 word' q)) (again d l m2 e tail2 r gap.Space following))))))))
