-- Where tokens end in what no sentence has: a second comparison in a chain, and `try` or `await` right of a binary operator.
use Rattle.std.specs.Prelude.{◌<◌, ℕ, zero, suc, false, List}
use Rattle.sw_grammar.specs.Grammar.{Budget, Derives_by, terminal, nonterminal, counts}
use Rattle.sw_grammar.specs.Arriving as arriving
use Rattle.sw_tree.specs.declared.expr.Expr.{Expr as ExprTree}
use Rattle.sw_syntax.specs.declared.class.Sight.{Sight}
use Rattle.sw_syntax.specs.Tokens.{Sighted, Face}
use Rattle.sw_syntax.specs.Tests.{is_binary, is_effect}
use Rattle.sw_syntax.specs.Nonterminals.{Nonterminal, Sort, Binary}
use Rattle.sw_syntax.specs.Parts.{P, ◌·◌}
use Rattle.sw_syntax.specs.Grammar.{production, operand, leftward}

abbrev pub Deriving : Type 1
Deriving = arriving.Deriving Sight Face Nonterminal Sort (production false)

abbrev pub Asked : Type 1
Asked = arriving.Asked Sight Face Nonterminal Sort (production false)

-- they derive a value of the part
abbrev IsOf : {A : Type 0} → P A → Deriving → ℕ → ℕ → ℕ → List Sighted → Type 0
IsOf {A} a D d l c u = (x : A) × (e : ℕ) × Derives_by Sight Face Nonterminal Sort (production false) D a d l c e u x

-- Where a comparison may stand: one with both its operands, and the operator of another.
abbrev pub IsChain : Deriving → Asked
IsChain D (Binary (suc (suc zero))) d l c u = IsOf (nonterminal (Binary 3) · operand 2 (nonterminal (Binary 3)) · counts (terminal (is_binary 2))) D d l c u
IsChain D s d l c u = ⊥

-- what stands left of an operator of this strength: of a comparison and of `??` one operand, of the others a chain
abbrev pub left_of : ℕ → P ExprTree
left_of (suc (suc zero)) = nonterminal (Binary 3)
left_of (suc (suc (suc zero))) = nonterminal (Binary 4)
left_of n = leftward false n

-- Where an expression of operators of this strength may stand: what stands left of such an operator, the operator, and
-- `try` or `await`.
-- The six strengths are the numbers below 6.
abbrev pub IsEffectRight : Deriving → Asked
IsEffectRight D (Binary n) d l c u = (n < 6) × IsOf (left_of n · counts (terminal (is_binary n)) · terminal is_effect) D d l c u
IsEffectRight D s d l c u = ⊥

-- Some of the tokens derive what comes before, in a sentence of the nonterminal, and the others are that.
abbrev pub EndsInChain : Nonterminal → Budget → List Sighted → Type 0
EndsInChain = arriving.Arrived Sight Face Nonterminal Sort (production false) IsChain

abbrev pub EndsInEffect : Nonterminal → Budget → List Sighted → Type 0
EndsInEffect = arriving.Arrived Sight Face Nonterminal Sort (production false) IsEffectRight
