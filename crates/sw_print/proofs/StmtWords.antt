-- What is written for each form of statement.
use Rattle.std.proofs.Common.{◌≡◌, ℕ, Option, Some, None, List, [], ◌∷◌, ◌++◌, map, sym, ap, ◌∙◌, append_assoc}
use Rattle.sw_base.specs.declared.ids.Span.{Span}
use Rattle.sw_lex.specs.declared.token.TokenKind.TheVariants as k
use Rattle.sw_layout.specs.declared.gap.Gap.{Gap}
use Rattle.sw_layout.specs.declared.gap.Gap.TheVariants as gap
use Rattle.sw_layout.specs.Words.{Word, plain, words_text}
use Rattle.sw_tree.specs.declared.expr.Name.{Name}
use Rattle.sw_tree.specs.declared.expr.Binding.{Binding}
use Rattle.sw_tree.specs.declared.expr.Expr.{Expr}
use Rattle.sw_tree.specs.declared.types.«Type».{«Type» as TypeTree}
use Rattle.sw_tree.specs.declared.stmt.AssignOperator.{AssignOperator}
use Rattle.sw_tree.specs.declared.stmt.Condition.{Condition}
use Rattle.sw_tree.specs.declared.stmt.RangeEnd.{RangeEnd}
use Rattle.sw_tree.specs.declared.stmt.Branch.{Branch}
use Rattle.sw_tree.specs.declared.stmt.Catch.{Catch}
use Rattle.sw_tree.specs.declared.stmt.SwitchArm.{SwitchArm}
use Rattle.sw_tree.specs.declared.stmt.Stmt.{Stmt}
use Rattle.sw_tree.specs.declared.stmt.Stmt.TheFolds.{fold-Branch, fold-Catch, fold-SwitchArm, fold-roll-Stmt, fold_out-Branch, fold_out-Catch, fold_out-SwitchArm}
use Rattle.sw_tree.specs.declared.stmt.Stmt.TheOpen.{Stmt-F}
use Rattle.sw_tree.specs.declared.stmt.Stmt.TheVariants as s
use Rattle.sw_print.specs.Expressions.{W, name_word, perhaps, expr_words}
use Rattle.sw_print.specs.Statements.{binding_word, assign_mark, annotation_words, initial_words, conditions_words, loop_word, range_words, each_line, in_braces, else_ifs, else_words, catches_words, stmt_level, branch_level, catch_level, arm_level, stmt_words, block_words, branch_words, catch_words, arm_words}
use Rattle.sw_print.proofs.TextLemmas.{text_append}
use Rattle.sw_print.proofs.ExprWords.{at, map_alike}

branch_fold : Branch → W
branch_fold = fold-Branch W W W W stmt_level branch_level catch_level arm_level

catch_fold : Catch → W
catch_fold = fold-Catch W W W W stmt_level branch_level catch_level arm_level

arm_fold : SwitchArm → W
arm_fold = fold-SwitchArm W W W W stmt_level branch_level catch_level arm_level

branch_same : (x : Branch) → branch_fold x ≡ branch_words x
unfolding branch_fold
branch_same x = fold_out-Branch W W W W stmt_level branch_level catch_level arm_level x

catch_same : (x : Catch) → catch_fold x ≡ catch_words x
unfolding catch_fold
catch_same x = fold_out-Catch W W W W stmt_level branch_level catch_level arm_level x

arm_same : (x : SwitchArm) → arm_fold x ≡ arm_words x
unfolding arm_fold
arm_same x = fold_out-SwitchArm W W W W stmt_level branch_level catch_level arm_level x

pub of_local : (span : Span) (binding : Binding) (name : Name) (declared : Option TypeTree) (value : Expr) (g : Gap) → stmt_words (s.Local span binding name declared value) g ≡ binding_word binding g ∷ name_word name gap.Space ∷ (perhaps annotation_words declared ++ initial_words value)
of_local span binding name declared value g = at (ap stmt_words (sym (s.rolls-Local span binding name declared value)) ∙ fold-roll-Stmt W W W W stmt_level branch_level catch_level arm_level (Stmt-F.Local span binding name declared value)) g

pub of_assign : (to : Expr) (operator : AssignOperator) (span : Span) (value : Expr) (g : Gap) → stmt_words (s.Assign to operator span value) g ≡ expr_words to g ++ (plain (assign_mark operator) gap.Space ∷ expr_words value gap.Space)
of_assign to operator span value g = at (ap stmt_words (sym (s.rolls-Assign to operator span value)) ∙ fold-roll-Stmt W W W W stmt_level branch_level catch_level arm_level (Stmt-F.Assign to operator span value)) g

pub of_discard : (span : Span) (value : Expr) (g : Gap) → stmt_words (s.Discard span value) g ≡ plain k.Underscore g ∷ initial_words value
of_discard span value g = at (ap stmt_words (sym (s.rolls-Discard span value)) ∙ fold-roll-Stmt W W W W stmt_level branch_level catch_level arm_level (Stmt-F.Discard span value)) g

pub of_expr : (x : Expr) (g : Gap) → stmt_words (s.Expr x) g ≡ expr_words x g
of_expr x g = at (ap stmt_words (sym (s.rolls-Expr x)) ∙ fold-roll-Stmt W W W W stmt_level branch_level catch_level arm_level (Stmt-F.Expr x)) g

of_if_fold : (first : Branch) (others : List Branch) (otherwise : Option (List Stmt)) (g : Gap)
    → stmt_words (s.If first others otherwise) g ≡ branch_fold first g ++ (else_ifs (map branch_fold others) ++ perhaps (λ body. else_words (map stmt_words body)) otherwise)
unfolding branch_fold
of_if_fold first others None g = at (ap stmt_words (sym (s.rolls-If first others None)) ∙ fold-roll-Stmt W W W W stmt_level branch_level catch_level arm_level (Stmt-F.If first others None)) g
of_if_fold first others (Some body) g = at (ap stmt_words (sym (s.rolls-If first others (Some body))) ∙ fold-roll-Stmt W W W W stmt_level branch_level catch_level arm_level (Stmt-F.If first others (Some body))) g

pub of_if : (first : Branch) (others : List Branch) (otherwise : Option (List Stmt)) (g : Gap)
    → stmt_words (s.If first others otherwise) g ≡ branch_words first g ++ (else_ifs (map branch_words others) ++ perhaps (λ body. plain k.Else gap.Space ∷ block_words body) otherwise)
of_if first others otherwise g =
    of_if_fold first others otherwise g
    ∙ ap (λ w. w g ++ (else_ifs (map branch_fold others) ++ perhaps (λ body. else_words (map stmt_words body)) otherwise)) (branch_same first)
    ∙ ap (λ ws. branch_words first g ++ (else_ifs ws ++ perhaps (λ body. else_words (map stmt_words body)) otherwise)) (map_alike branch_fold branch_words branch_same others)

pub of_guard : (span : Span) (conditions : List Condition) (body : List Stmt) (g : Gap) → stmt_words (s.Guard span conditions body) g ≡ plain k.Guard g ∷ (conditions_words conditions ++ (plain k.Else gap.Space ∷ block_words body))
of_guard span conditions body g = at (ap stmt_words (sym (s.rolls-Guard span conditions body)) ∙ fold-roll-Stmt W W W W stmt_level branch_level catch_level arm_level (Stmt-F.Guard span conditions body)) g

pub of_while : (span : Span) (conditions : List Condition) (body : List Stmt) (g : Gap) → stmt_words (s.While span conditions body) g ≡ plain k.While g ∷ (conditions_words conditions ++ block_words body)
of_while span conditions body g = at (ap stmt_words (sym (s.rolls-While span conditions body)) ∙ fold-roll-Stmt W W W W stmt_level branch_level catch_level arm_level (Stmt-F.While span conditions body)) g

pub of_for : (span : Span) (name : Option Name) (first : Expr) (last : Option RangeEnd) (body : List Stmt) (g : Gap) → stmt_words (s.For span name first last body) g ≡ plain k.For g ∷ loop_word name ∷ plain k.In gap.Space ∷ (expr_words first gap.Space ++ (perhaps range_words last ++ block_words body))
of_for span name first last body g = at (ap stmt_words (sym (s.rolls-For span name first last body)) ∙ fold-roll-Stmt W W W W stmt_level branch_level catch_level arm_level (Stmt-F.For span name first last body)) g

of_switch_fold : (span : Span) (subject : Expr) (arms : List SwitchArm) (g : Gap) → stmt_words (s.Switch span subject arms) g ≡ plain k.Switch g ∷ (expr_words subject gap.Space ++ in_braces (each_line (map arm_fold arms)))
unfolding arm_fold
of_switch_fold span subject arms g = at (ap stmt_words (sym (s.rolls-Switch span subject arms)) ∙ fold-roll-Stmt W W W W stmt_level branch_level catch_level arm_level (Stmt-F.Switch span subject arms)) g

pub of_switch : (span : Span) (subject : Expr) (arms : List SwitchArm) (g : Gap) → stmt_words (s.Switch span subject arms) g ≡ plain k.Switch g ∷ (expr_words subject gap.Space ++ in_braces (each_line (map arm_words arms)))
of_switch span subject arms g = of_switch_fold span subject arms g ∙ ap (λ ws. plain k.Switch g ∷ (expr_words subject gap.Space ++ in_braces (each_line ws))) (map_alike arm_fold arm_words arm_same arms)

of_do_fold : (span : Span) (body : List Stmt) (catches : List Catch) (g : Gap) → stmt_words (s.Do span body catches) g ≡ plain k.Do g ∷ (block_words body ++ catches_words (map catch_fold catches))
unfolding catch_fold
of_do_fold span body catches g = at (ap stmt_words (sym (s.rolls-Do span body catches)) ∙ fold-roll-Stmt W W W W stmt_level branch_level catch_level arm_level (Stmt-F.Do span body catches)) g

pub of_do : (span : Span) (body : List Stmt) (catches : List Catch) (g : Gap) → stmt_words (s.Do span body catches) g ≡ plain k.Do g ∷ (block_words body ++ catches_words (map catch_words catches))
of_do span body catches g = of_do_fold span body catches g ∙ ap (λ ws. plain k.Do g ∷ (block_words body ++ catches_words ws)) (map_alike catch_fold catch_words catch_same catches)

pub of_return : (span : Span) (value : Option Expr) (g : Gap) → stmt_words (s.Return span value) g ≡ plain k.Return g ∷ perhaps (λ x. expr_words x gap.Space) value
of_return span value g = at (ap stmt_words (sym (s.rolls-Return span value)) ∙ fold-roll-Stmt W W W W stmt_level branch_level catch_level arm_level (Stmt-F.Return span value)) g

pub of_throw : (span : Span) (value : Expr) (g : Gap) → stmt_words (s.Throw span value) g ≡ plain k.Throw g ∷ expr_words value gap.Space
of_throw span value g = at (ap stmt_words (sym (s.rolls-Throw span value)) ∙ fold-roll-Stmt W W W W stmt_level branch_level catch_level arm_level (Stmt-F.Throw span value)) g

pub of_break : (span : Span) (g : Gap) → stmt_words (s.Break span) g ≡ plain k.Break g ∷ []
of_break span g = at (ap stmt_words (sym (s.rolls-Break span)) ∙ fold-roll-Stmt W W W W stmt_level branch_level catch_level arm_level (Stmt-F.Break span)) g

pub of_continue : (span : Span) (g : Gap) → stmt_words (s.Continue span) g ≡ plain k.Continue g ∷ []
of_continue span g = at (ap stmt_words (sym (s.rolls-Continue span)) ∙ fold-roll-Stmt W W W W stmt_level branch_level catch_level arm_level (Stmt-F.Continue span)) g

-- An `if` whose first branch and whose other branches are written.
pub if_rest : (x : Stmt) (first : Branch) (others branches : List Branch) (otherwise : Option (List Stmt)) (g : Gap) (start mid near : List ℕ) → x ≡ s.If first others otherwise → branches ≡ others
    → mid ≡ start ++ words_text (branch_words first g) → near ≡ mid ++ words_text (else_ifs (map branch_words branches))
    → near ++ words_text (perhaps (λ body. plain k.Else gap.Space ∷ block_words body) otherwise) ≡ start ++ words_text (stmt_words x g)
if_rest x first others branches otherwise g start mid near is same p q =
    let b : List ℕ = words_text (branch_words first g) in
    let c : List Word = else_ifs (map branch_words others) in
    let d : List Word = perhaps (λ body. plain k.Else gap.Space ∷ block_words body) otherwise in
    ap (λ t. t ++ words_text d) (q ∙ ap (λ t. t ++ words_text (else_ifs (map branch_words branches))) p ∙ ap (λ bs. (start ++ b) ++ words_text (else_ifs (map branch_words bs))) same)
    ∙ append_assoc (start ++ b) (words_text c) (words_text d) ∙ append_assoc start b (words_text c ++ words_text d)
    ∙ ap (λ t. start ++ (b ++ t)) (sym (text_append c d)) ∙ ap (λ t. start ++ t) (sym (text_append (branch_words first g) (c ++ d)))
    ∙ ap (λ ws. start ++ words_text ws) (sym (of_if first others otherwise g)) ∙ ap (λ x. start ++ words_text (stmt_words x g)) (sym is)

-- for the functions that write statements
pub ruleset stmt_rules = (append_assoc, text_append, of_local, of_assign, of_discard, of_expr, of_if, of_guard, of_while, of_for, of_switch, of_do, of_return, of_throw, of_break, of_continue)
