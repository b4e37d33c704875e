-- The layers of what is written for a statement.
use Rattle.std.proofs.Common.{◌≡◌, List, [], ◌∷◌, ◌++◌, map, Option, Some, None, refl, sym, ap, ◌∙◌}
use Rattle.sw_base.specs.declared.ids.Span.{Span}
use Rattle.sw_lex.specs.declared.token.TokenKind.TheVariants as k
use Rattle.sw_layout.specs.declared.gap.Gap.{Gap}
use Rattle.sw_layout.specs.declared.gap.Gap.TheVariants as gap
use Rattle.sw_layout.specs.Words.{Word, plain}
use Rattle.sw_tree.specs.declared.expr.Name.{Name}
use Rattle.sw_tree.specs.declared.expr.Binding.{Binding}
use Rattle.sw_tree.specs.declared.expr.Expr.{Expr}
use Rattle.sw_tree.specs.declared.types.«Type».{«Type» as TypeTree}
use Rattle.sw_tree.specs.declared.stmt.AssignOperator.{AssignOperator}
use Rattle.sw_tree.specs.declared.stmt.RangeEnd.{RangeEnd}
use Rattle.sw_tree.specs.declared.stmt.Condition.{Condition}
use Rattle.sw_tree.specs.declared.stmt.Branch.{Branch, fold-Branch, fold-roll-Branch, roll-Branch, rolls-Branch'}
use Rattle.sw_tree.specs.declared.stmt.Catch.{Catch, fold-Catch, fold-roll-Catch, roll-Catch, rolls-Catch'}
use Rattle.sw_tree.specs.declared.stmt.SwitchArm.{SwitchArm, fold-SwitchArm, fold-roll-SwitchArm, roll-SwitchArm, rolls-SwitchArm'}
use Rattle.sw_tree.specs.declared.stmt.Stmt.{Stmt, fold-roll-Stmt}
use Rattle.sw_tree.specs.declared.stmt.Stmt.TheOpen.{Stmt-F, Branch-F, Catch-F, SwitchArm-F}
use Rattle.sw_tree.specs.declared.stmt.Stmt.TheVariants as s
use Rattle.sw_syntax.specs.Nonterminals.{Branches}
use Rattle.sw_print.specs.Expressions.{W, name_word, perhaps, expr_words}
use Rattle.sw_print.specs.Statements.{binding_word, assign_mark, annotation_words, initial_words, conditions_words, loop_word, range_words, catch_pattern_words, lines, each_line, in_braces, label_words, else_ifs, else_words, catches_words, stmt_level, branch_level, catch_level, arm_level, stmt_words, block_words}
use Rattle.sw_print.proofs.Spelling.TypeWords.{at}

-- ---- branches, catches and arms by themselves

abbrev pub branch_words : Branch → W
branch_words x g = plain k.If g ∷ (conditions_words x.conditions ++ block_words x.body)

abbrev pub catch_words : Catch → W
catch_words x g = plain k.Catch g ∷ (perhaps (λ pattern. catch_pattern_words pattern gap.Space) x.pattern ++ block_words x.body)

abbrev pub arm_words : SwitchArm → W
arm_words x g = label_words x.label g ++ lines (map stmt_words x.body)

-- the block of an `else` without `if`
abbrev pub otherwise_words : List Stmt → List Word
otherwise_words body = else_words (map stmt_words body)

-- the branches of an `if`
abbrev pub if_words : Branches → W
if_words x g = branch_words x.0 g ++ (else_ifs (map branch_words x.1.0) ++ perhaps otherwise_words x.1.1)

abbrev BranchLayer : Type 0
BranchLayer = Branch-F Stmt Branch Catch SwitchArm

abbrev CatchLayer : Type 0
CatchLayer = Catch-F Stmt Branch Catch SwitchArm

abbrev ArmLayer : Type 0
ArmLayer = SwitchArm-F Stmt Branch Catch SwitchArm

folded_branch : (x : Branch) → fold-Branch W W W W stmt_level branch_level catch_level arm_level x ≡ branch_words x
folded_branch x =
    let d : BranchLayer = record { span = x.span; conditions = x.conditions; body = x.body } in
    let same : roll-Branch d ≡ x = rolls-Branch' d in
    ap (fold-Branch W W W W stmt_level branch_level catch_level arm_level) (sym same) ∙ fold-roll-Branch W W W W stmt_level branch_level catch_level arm_level d

folded_catch : (x : Catch) → fold-Catch W W W W stmt_level branch_level catch_level arm_level x ≡ catch_words x
folded_catch x =
    let d : CatchLayer = record { span = x.span; pattern = x.pattern; body = x.body } in
    let same : roll-Catch d ≡ x = rolls-Catch' d in
    ap (fold-Catch W W W W stmt_level branch_level catch_level arm_level) (sym same) ∙ fold-roll-Catch W W W W stmt_level branch_level catch_level arm_level d

folded_arm : (x : SwitchArm) → fold-SwitchArm W W W W stmt_level branch_level catch_level arm_level x ≡ arm_words x
folded_arm x =
    let d : ArmLayer = record { label = x.label; body = x.body } in
    let same : roll-SwitchArm d ≡ x = rolls-SwitchArm' d in
    ap (fold-SwitchArm W W W W stmt_level branch_level catch_level arm_level) (sym same) ∙ fold-roll-SwitchArm W W W W stmt_level branch_level catch_level arm_level d

same_map : {X Y : Type 0} (f h : X → Y) → ((x : X) → f x ≡ h x) → (xs : List X) → map f xs ≡ map h xs
same_map f h p [] = refl
same_map f h p (x ∷ xs) = cons_same (p x) (same_map f h p xs)
  where
    cons_same : {Y : Type 0} {a b : Y} {u v : List Y} → a ≡ b → u ≡ v → (a ∷ u) ≡ (b ∷ v)
    cons_same p q = cc

-- ---- statements

pub words_local : (place : Span) (binding : Binding) (name : Name) (declared : Option TypeTree) (value : Expr) (g : Gap)
    → stmt_words (s.Local place binding name declared value) g ≡ binding_word binding g ∷ (name_word name gap.Space ∷ (perhaps annotation_words declared ++ initial_words value))
words_local place binding name declared value g = at (ap stmt_words (sym (s.rolls-Local place binding name declared value)) ∙ fold-roll-Stmt W W W W _ _ _ _ (Stmt-F.Local place binding name declared value)) g

pub words_assign : (to : Expr) (operator : AssignOperator) (place : Span) (value : Expr) (g : Gap)
    → stmt_words (s.Assign to operator place value) g ≡ expr_words to g ++ (plain (assign_mark operator) gap.Space ∷ expr_words value gap.Space)
words_assign to operator place value g = at (ap stmt_words (sym (s.rolls-Assign to operator place value)) ∙ fold-roll-Stmt W W W W _ _ _ _ (Stmt-F.Assign to operator place value)) g

pub words_discard : (place : Span) (value : Expr) (g : Gap) → stmt_words (s.Discard place value) g ≡ plain k.Underscore g ∷ initial_words value
words_discard place value g = at (ap stmt_words (sym (s.rolls-Discard place value)) ∙ fold-roll-Stmt W W W W _ _ _ _ (Stmt-F.Discard place value)) g

pub words_expr : (x : Expr) (g : Gap) → stmt_words (s.Expr x) g ≡ expr_words x g
words_expr x g = at (ap stmt_words (sym (s.rolls-Expr x)) ∙ fold-roll-Stmt W W W W _ _ _ _ (Stmt-F.Expr x)) g

pub words_if : (first : Branch) (others : List Branch) (otherwise : Option (List Stmt)) (g : Gap) → stmt_words (s.If first others otherwise) g ≡ if_words (first, (others, otherwise)) g
words_if first others None g =
    at (ap stmt_words (sym (s.rolls-If first others None)) ∙ fold-roll-Stmt W W W W _ _ _ _ (Stmt-F.If first others None)) g
    ∙ ap (λ f. f g ++ (else_ifs (map (fold-Branch W W W W stmt_level branch_level catch_level arm_level) others) ++ [])) (folded_branch first)
    ∙ ap (λ fs. branch_words first g ++ (else_ifs fs ++ [])) (same_map _ _ folded_branch others)
words_if first others (Some body) g =
    at (ap stmt_words (sym (s.rolls-If first others (Some body))) ∙ fold-roll-Stmt W W W W _ _ _ _ (Stmt-F.If first others (Some body))) g
    ∙ ap (λ f. f g ++ (else_ifs (map (fold-Branch W W W W stmt_level branch_level catch_level arm_level) others) ++ otherwise_words body)) (folded_branch first)
    ∙ ap (λ fs. branch_words first g ++ (else_ifs fs ++ otherwise_words body)) (same_map _ _ folded_branch others)

pub words_guard : (place : Span) (conditions : List Condition) (body : List Stmt) (g : Gap)
    → stmt_words (s.Guard place conditions body) g ≡ plain k.Guard g ∷ (conditions_words conditions ++ otherwise_words body)
words_guard place conditions body g = at (ap stmt_words (sym (s.rolls-Guard place conditions body)) ∙ fold-roll-Stmt W W W W _ _ _ _ (Stmt-F.Guard place conditions body)) g

pub words_while : (place : Span) (conditions : List Condition) (body : List Stmt) (g : Gap)
    → stmt_words (s.While place conditions body) g ≡ plain k.While g ∷ (conditions_words conditions ++ block_words body)
words_while place conditions body g = at (ap stmt_words (sym (s.rolls-While place conditions body)) ∙ fold-roll-Stmt W W W W _ _ _ _ (Stmt-F.While place conditions body)) g

pub words_for : (place : Span) (name : Option Name) (first : Expr) (last : Option RangeEnd) (body : List Stmt) (g : Gap)
    → stmt_words (s.For place name first last body) g ≡ plain k.For g ∷ loop_word name ∷ plain k.In gap.Space ∷ (expr_words first gap.Space ++ (perhaps range_words last ++ block_words body))
words_for place name first last body g = at (ap stmt_words (sym (s.rolls-For place name first last body)) ∙ fold-roll-Stmt W W W W _ _ _ _ (Stmt-F.For place name first last body)) g

pub words_switch : (place : Span) (subject : Expr) (arms : List SwitchArm) (g : Gap)
    → stmt_words (s.Switch place subject arms) g ≡ plain k.Switch g ∷ (expr_words subject gap.Space ++ in_braces (each_line (map arm_words arms)))
words_switch place subject arms g =
    at (ap stmt_words (sym (s.rolls-Switch place subject arms)) ∙ fold-roll-Stmt W W W W _ _ _ _ (Stmt-F.Switch place subject arms)) g
    ∙ ap (λ fs. plain k.Switch g ∷ (expr_words subject gap.Space ++ in_braces (each_line fs))) (same_map _ _ folded_arm arms)

pub words_do : (place : Span) (body : List Stmt) (catches : List Catch) (g : Gap)
    → stmt_words (s.Do place body catches) g ≡ plain k.Do g ∷ (block_words body ++ catches_words (map catch_words catches))
words_do place body catches g =
    at (ap stmt_words (sym (s.rolls-Do place body catches)) ∙ fold-roll-Stmt W W W W _ _ _ _ (Stmt-F.Do place body catches)) g
    ∙ ap (λ fs. plain k.Do g ∷ (block_words body ++ catches_words fs)) (same_map _ _ folded_catch catches)

pub words_return : (place : Span) (value : Option Expr) (g : Gap) → stmt_words (s.Return place value) g ≡ plain k.Return g ∷ perhaps (λ x. expr_words x gap.Space) value
words_return place None g = at (ap stmt_words (sym (s.rolls-Return place None)) ∙ fold-roll-Stmt W W W W _ _ _ _ (Stmt-F.Return place None)) g
words_return place (Some value) g = at (ap stmt_words (sym (s.rolls-Return place (Some value))) ∙ fold-roll-Stmt W W W W _ _ _ _ (Stmt-F.Return place (Some value))) g

pub words_throw : (place : Span) (value : Expr) (g : Gap) → stmt_words (s.Throw place value) g ≡ plain k.Throw g ∷ expr_words value gap.Space
words_throw place value g = at (ap stmt_words (sym (s.rolls-Throw place value)) ∙ fold-roll-Stmt W W W W _ _ _ _ (Stmt-F.Throw place value)) g

pub words_break : (place : Span) (g : Gap) → stmt_words (s.Break place) g ≡ plain k.Break g ∷ []
words_break place g = at (ap stmt_words (sym (s.rolls-Break place)) ∙ fold-roll-Stmt W W W W _ _ _ _ (Stmt-F.Break place)) g

pub words_continue : (place : Span) (g : Gap) → stmt_words (s.Continue place) g ≡ plain k.Continue g ∷ []
words_continue place g = at (ap stmt_words (sym (s.rolls-Continue place)) ∙ fold-roll-Stmt W W W W _ _ _ _ (Stmt-F.Continue place)) g
