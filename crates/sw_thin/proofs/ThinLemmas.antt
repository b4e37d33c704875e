-- A tree is thin exactly where its `main` has thin statements, few and short enough.
use Rattle.std.proofs.Common.{◌≡◌, ℕ, ◌<◌, ◌≤◌, List, [], ◌∷◌, ◌++◌, length, refl, sym, ap, ◌∙◌, subst, arith, suc}
use Rattle.std.specs.List.{flat_map}
use Rattle.sw_base.specs.Limits.{longest_source}
use Rattle.sw_tree.specs.declared.stmt.Stmt.{Stmt as StmtTree}
use Rattle.sw_tree.specs.declared.decl.Tree.{Tree as File}
use Rattle.sw_thin.specs.declared.program.Stmt.{Stmt as CodeStmt}
use Rattle.sw_thin.specs.ProgramView.{body_of}
use Rattle.sw_thin.specs.Program.{Stmt}
use Rattle.sw_thin.specs.ShortestText.{first_line, last_line, lines_text, shortest_text}
use Rattle.sw_thin.specs.Thin.{AreStmtsOf, HasMain, IsThinTree, IsNoThinTree}
use Rattle.sw_thin.specs.TreeReading.{lets_after, AreThin, line_of}
use Rattle.sw_thin.proofs.BodyLemmas.{AreThinAfter, first_thin, rest_thin, none_after, more_after, all_after, after_none}
use Rattle.sw_thin.proofs.ThinTreeLemmas.{same_func, one_stmt}

-- ---- statements beside their trees

stmts_of : (k : ℕ) (body : List Stmt) (trees : List StmtTree) → AreThin k body trees → AreStmtsOf body trees
stmts_of k [] [] p = tt
stmts_of k [] (tree ∷ trees) p = absurd p
stmts_of k (stmt ∷ body) [] p = absurd p
stmts_of k (stmt ∷ body) (tree ∷ trees) ((of, thin), p) = (of, stmts_of (lets_after k stmt) body trees p)

after_of : (k : ℕ) (body : List Stmt) (trees : List StmtTree) → AreThin k body trees → AreThinAfter k body
after_of k [] [] p = none_after k
after_of k [] (tree ∷ trees) p = absurd p
after_of k (stmt ∷ body) [] p = absurd p
after_of k (stmt ∷ body) (tree ∷ trees) ((of, thin), p) = more_after k stmt body thin (after_of (lets_after k stmt) body trees p)

beside : (k : ℕ) (body : List Stmt) (trees : List StmtTree) → AreThinAfter k body → AreStmtsOf body trees → AreThin k body trees
beside k [] [] each of = tt
beside k [] (tree ∷ trees) each of = absurd of
beside k (stmt ∷ body) [] each of = absurd of
beside k (stmt ∷ body) (tree ∷ trees) each (of, ofs) = ((of, first_thin k stmt body each), beside (lets_after k stmt) body trees (rest_thin k stmt body each) ofs)

as_many : (body : List Stmt) (trees : List StmtTree) → AreStmtsOf body trees → length body ≡ length trees
as_many [] [] p = refl
as_many [] (tree ∷ trees) p = absurd p
as_many (stmt ∷ body) [] p = absurd p
as_many (stmt ∷ body) (tree ∷ trees) p = ap suc (as_many body trees p.1)

-- ---- thin trees

lines_same : (body : List CodeStmt) → flat_map line_of body ≡ lines_text (body_of body)
lines_same [] = refl
lines_same (stmt ∷ body) = ap (λ l. line_of stmt ++ l) (lines_same body)

-- the main is one, and its statements are those of this body
pub is_thin_tree : (tree : File) (trees : List StmtTree) (body : List CodeStmt) (text : List ℕ) → HasMain trees tree → AreThin 0 (body_of body) trees → length trees ≤ 90000
    → text ≡ first_line ++ (flat_map line_of body ++ last_line) → length text ≤ longest_source → IsThinTree (body_of body) tree
is_thin_tree tree trees body text main thin few is short =
    let of = stmts_of 0 (body_of body) trees thin in
    let same = as_many (body_of body) trees of in
    let written : text ≡ shortest_text (body_of body) = is ∙ ap (λ l. first_line ++ (l ++ last_line)) (lines_same body) in (
      record {
        each = after_none (body_of body) (after_of 0 (body_of body) trees thin);
        few = omega (arith, same, few);
        short = subst (λ t. length t ≤ longest_source) written short;
      },
      trees,
      main,
      of,
    )

-- what is so of each thin tree's main
pub of_thin_tree : (tree : File) (body : List Stmt) → IsThinTree body tree
    → (trees : List StmtTree) × HasMain trees tree × AreThin 0 body trees × (length trees ≤ 90000) × (length (shortest_text body) ≤ longest_source)
of_thin_tree tree body (thin, trees, main, of) =
    let many = as_many body trees of in
    let few = thin.few in
    (trees, main, beside 0 body trees (all_after body thin) of, omega (arith, many, few), thin.short)

same_main : (tree : File) (trees others : List StmtTree) → HasMain trees tree → HasMain others tree → trees ≡ others
same_main tree trees others (f, is, _, _, body) (g, is', _, _, body') = sym body ∙ ap (λ f. f.body) (same_func f g (sym is ∙ is')) ∙ body'

one_body : (k : ℕ) (a b : List Stmt) (trees : List StmtTree) → AreThin k a trees → AreThin k b trees → a ≡ b
one_body k [] [] [] p q = refl
one_body k [] [] (tree ∷ trees) p q = absurd p
one_body k [] (y ∷ b) [] p q = absurd q
one_body k [] (y ∷ b) (tree ∷ trees) p q = absurd p
one_body k (x ∷ a) [] [] p q = absurd p
one_body k (x ∷ a) [] (tree ∷ trees) p q = absurd q
one_body k (x ∷ a) (y ∷ b) [] p q = absurd p
one_body k (x ∷ a) (y ∷ b) (tree ∷ trees) (p, ps) (q, qs) =
    let same = one_stmt x y tree p.0 q.0 in
    ap (λ z. z ∷ a) same ∙ ap (λ l. y ∷ l) (one_body (lets_after k y) a b trees (subst (λ z. AreThin (lets_after k z) a trees) same ps) qs)

pub no_main : (tree : File) → ((trees : List StmtTree) → HasMain trees tree → ⊥) → IsNoThinTree tree
no_main tree none body thin = let h = of_thin_tree tree body thin in none h.0 h.1

pub too_many : (tree : File) (trees : List StmtTree) → HasMain trees tree → 90000 < length trees → IsNoThinTree tree
too_many tree trees main many body thin =
    let h = of_thin_tree tree body thin in
    let same = ap length (same_main tree h.0 trees h.1 main) in
    let few = h.3 in
    absurd (omega (arith, same, few, many))

pub none_thin : (tree : File) (trees : List StmtTree) → HasMain trees tree → ((body : List Stmt) → AreThin 0 body trees → ⊥) → IsNoThinTree tree
none_thin tree trees main none body thin =
    let h = of_thin_tree tree body thin in
    none body (subst (λ l. AreThin 0 body l) (same_main tree h.0 trees h.1 main) h.2)

pub too_long : (tree : File) (trees : List StmtTree) (found : List CodeStmt) (text : List ℕ) → HasMain trees tree → AreThin 0 (body_of found) trees
    → text ≡ first_line ++ (flat_map line_of found ++ last_line) → longest_source < length text → IsNoThinTree tree
too_long tree trees found text main own_thin is long body thin =
    let h = of_thin_tree tree body thin in
    let one = one_body 0 body (body_of found) trees (subst (λ l. AreThin 0 body l) (same_main tree h.0 trees h.1 main) h.2) own_thin in
    let written : text ≡ shortest_text (body_of found) = is ∙ ap (λ l. first_line ++ (l ++ last_line)) (lines_same found) in
    let short : length text ≤ longest_source = subst (λ t. length t ≤ longest_source) (sym (written ∙ ap shortest_text (sym one))) h.4 in
    absurd (omega (arith, short, long))
