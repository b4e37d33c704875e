-- What is read of statements, for a reader that takes them one after the other.
use Rattle.std.specs.Prelude.{ℕ, Bool, true, false, List, [], ◌∷◌, ◌++◌}
use Rattle.sw_grammar.specs.Reading.{Out, got, ◌>>=◌}
use Rattle.sw_tree.specs.declared.stmt.Stmt.{Stmt}
use Rattle.sw_tree.specs.declared.stmt.SwitchArm.{SwitchArm}
use Rattle.sw_syntax.specs.Tokens.{Sighted}
use Rattle.sw_syntax.specs.Nonterminals.{Context, InBlock, InArm, Body}
use Rattle.sw_syntax.specs.Bodies.{arms_from, after_body, body_from}
use Rattle.sw_parse_stmt.specs.declared.bodies.ReadBody.{ReadBody}
use Rattle.sw_parse_stmt.specs.declared.steps.Step.{Step}

-- the statements between two braces
unfoldable pub statement_list : (lenient : Bool) → ℕ → ℕ → ℕ → List Sighted → Out Sighted (List Stmt)
statement_list lenient d l c ts = body_from lenient InBlock d l c [] ts >>= (λ body c' rest. got body.0 c' rest)

-- after these statements of a body: others, or nothing more
abbrev pub goes_on : (lenient : Bool) → Context → ℕ → ℕ → ℕ → List Stmt → Bool → List Sighted → Out Sighted Body
goes_on lenient at d l c xs true ts = body_from lenient at d l c xs ts
goes_on lenient at d l c xs false ts = got (xs, []) c ts

-- after a statement of a body, with these before it
abbrev pub stepped : (lenient : Bool) → Context → ℕ → ℕ → List Stmt → ℕ → Step → List Sighted → Out Sighted Body
stepped lenient at d l xs c step ts = goes_on lenient at d l c (xs ++ step.statement ∷ []) step.goes_on ts

-- after all statements of a body: in an arm of a `switch` perhaps another arm, and in a block nothing more
abbrev pub ended : (lenient : Bool) → Context → ℕ → ℕ → ℕ → ReadBody → List Sighted → Out Sighted Body
ended lenient InBlock d l c read_body ts = got (read_body.block, []) c ts
ended lenient InArm d l c read_body ts = after_body lenient d l c read_body.block read_body.before_arm ts

-- after these arms of a `switch`: others, or nothing more
abbrev pub after_arms : (lenient : Bool) → ℕ → ℕ → ℕ → List SwitchArm → Bool → List Sighted → Out Sighted (List SwitchArm)
after_arms lenient d l c arms true ts = arms_from lenient d l c arms ts
after_arms lenient d l c arms false ts = got arms c ts
