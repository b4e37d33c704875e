-- Lists of statements and of their parts.
use Rattle.std.proofs.Common.{◌≡◌, ℕ, ◌-◌, ◌≤◌, arith, List, [], ◌∷◌, ◌++◌, map, take, drop, length, get_or, refl, sym, ap, ◌∙◌, append_assoc}
use Rattle.std.proofs.lemmas.List.{take_all}
use Rattle.sw_lex.specs.Bytes.{Text}
use Rattle.sw_lex.specs.declared.token.TokenKind.TheVariants as k
use Rattle.sw_layout.specs.declared.gap.Gap.{Gap}
use Rattle.sw_layout.specs.declared.gap.Gap.TheVariants as gap
use Rattle.sw_layout.specs.Words.{Word, plain, words_text}
use Rattle.sw_base.specs.declared.ids.Span.{Span}
use Rattle.sw_tree.specs.declared.expr.Expr.{Expr}
use Rattle.sw_tree.specs.declared.stmt.Branch.{Branch}
use Rattle.sw_tree.specs.declared.stmt.SwitchArm.{SwitchArm}
use Rattle.sw_tree.specs.declared.stmt.Stmt.{Stmt}
use Rattle.sw_tree.specs.declared.stmt.Stmt.TheVariants as s
use Rattle.sw_print.specs.Expressions.{W, expr_words}
use Rattle.sw_print.specs.Statements.{separated, followed, lines, else_ifs, catches_words, branch_words, arm_words, each_line, stmt_words}
use Rattle.sw_print.proofs.TextLemmas.{text_append}
use Rattle.sw_print.proofs.Lists.{joined, lines_joined}
use Rattle.sw_print.proofs.StmtWords.{of_switch}

abbrev pub else_if : Branch → List Word
else_if branch = plain k.Else gap.Space ∷ branch_words branch gap.Space

pub else_ifs_joined : (xs : List Branch) → joined else_if xs ≡ else_ifs (map branch_words xs)
else_ifs_joined [] = refl
else_ifs_joined (x ∷ xs) = ap (λ l. plain k.Else gap.Space ∷ (branch_words x gap.Space ++ l)) (else_ifs_joined xs)

pub catches_joined : {A : Type 0} (w : A → W) (xs : List A) → joined (λ x. w x gap.Space) xs ≡ catches_words (map w xs)
catches_joined w [] = refl
catches_joined w (x ∷ xs) = ap (λ l. w x gap.Space ++ l) (catches_joined w xs)

followed_joined : {A : Type 0} (w : A → W) (xs : List A) → joined (λ x. separated (w x)) xs ≡ followed (map w xs)
followed_joined w [] = refl
followed_joined w (x ∷ xs) = ap (λ l. separated (w x) ++ l) (followed_joined w xs)

-- the first item is written, and so are the others
pub followed_end : {A : Type 0} (w : A → W) (xs : List A) (x : A) (i : ℕ) (start mid out : Text) → 1 ≤ length xs → x ≡ get_or xs 0 x → mid ≡ start ++ words_text (w x gap.Line)
    → out ≡ mid ++ words_text (joined (λ x. separated (w x)) (take i (take (length xs - 1) (drop 1 xs)))) → length (take (length xs - 1) (drop 1 xs)) ≤ i → out ≡ start ++ words_text (lines (map w xs))
followed_end w [] x i start mid out h e p q l = absurd (omega arith)
followed_end w (z ∷ zs) x i start mid out h e p q l =
    let n : ℕ = length (z ∷ zs) - 1 in
    let r : take n zs ≡ zs = take_all n zs (omega arith) in
    q ∙ ap (λ l. mid ++ words_text (joined (λ x. separated (w x)) l)) (take_all i (take n zs) l ∙ r) ∙ ap (λ l. mid ++ words_text l) (followed_joined w zs)
    ∙ ap (λ m. m ++ words_text (followed (map w zs))) (p ∙ ap (λ y. start ++ words_text (w y gap.Line)) e)
    ∙ append_assoc start (words_text (w z gap.Line)) (words_text (followed (map w zs))) ∙ ap (λ l. start ++ l) (sym (text_append (w z gap.Line) (followed (map w zs))))

texts : (start a m l r : Text) → (((start ++ a) ++ m) ++ l) ++ r ≡ start ++ (a ++ (m ++ (l ++ r)))
texts start a m l r = append_assoc ((start ++ a) ++ m) l r ∙ append_assoc (start ++ a) m (l ++ r) ∙ append_assoc start a (m ++ (l ++ r))

-- A `switch` that is written up to its last arm.
pub switch_rest : (x : Stmt) (span : Span) (subject : Expr) (arms items : List SwitchArm) (i : ℕ) (g : Gap) (start near begun mid : Text) → x ≡ s.Switch span subject arms → items ≡ arms
    → near ≡ start ++ words_text (plain k.Switch g ∷ expr_words subject gap.Space) → begun ≡ near ++ words_text (plain k.LeftBrace gap.Space ∷ [])
    → mid ≡ begun ++ words_text (joined (λ arm. arm_words arm gap.Line) (take i items)) → length items ≤ i
    → mid ++ words_text (plain k.RightBrace gap.Line ∷ []) ≡ start ++ words_text (stmt_words x g)
switch_rest x span subject arms items i g start near begun mid is same p q r l =
    let a : List Word = plain k.Switch g ∷ expr_words subject gap.Space in
    let m : List Word = plain k.LeftBrace gap.Space ∷ [] in
    let b : List Word = plain k.RightBrace gap.Line ∷ [] in
    let ls : List Word = each_line (map arm_words arms) in
    let done : joined (λ arm. arm_words arm gap.Line) (take i items) ≡ ls = ap (joined (λ arm. arm_words arm gap.Line)) (take_all i items l ∙ same) ∙ lines_joined arm_words arms in
    ap (λ t. t ++ words_text b) (r ∙ ap (λ t. t ++ words_text (joined (λ arm. arm_words arm gap.Line) (take i items))) (q ∙ ap (λ t. t ++ words_text m) p) ∙ ap (λ ws. ((start ++ words_text a) ++ words_text m) ++ words_text ws) done)
    ∙ texts start (words_text a) (words_text m) (words_text ls) (words_text b)
    ∙ ap (λ t. start ++ (words_text a ++ (words_text m ++ t))) (sym (text_append ls b))
    ∙ ap (λ t. start ++ (words_text a ++ t)) (sym (text_append m (ls ++ b)))
    ∙ ap (λ t. start ++ t) (sym (text_append a (m ++ (ls ++ b))))
    ∙ ap (λ ws. start ++ words_text ws) (sym (of_switch span subject arms g)) ∙ ap (λ x. start ++ words_text (stmt_words x g)) (sym is)
