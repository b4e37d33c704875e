use Rattle.std.proofs.Common.{◌≡◌, ◌++◌, take}
use Rattle.std.specs.List.{flat_map}
use Rattle.sw_findings.specs.Found.{keep_all}
use Rattle.sw_check_decl.specs.TypesInSource.{block_broken, caught_broken, perhaps, stmt_broken}
use Rattle.sw_check_decl.proofs.statements.+stmt.Given as goal

abbrev pub invariant-report_branches-loop-branch : goal.invariant-report_branches-loop-branch
invariant-report_branches-loop-branch l = l.found ≡ keep_all l.initial.found (flat_map (λ x. block_broken l.names l.own x.body) (take l.branch-index l.branch-items))

abbrev pub invariant-report_arms-loop-arm : goal.invariant-report_arms-loop-arm
invariant-report_arms-loop-arm l = l.found ≡ keep_all l.initial.found (flat_map (λ x. block_broken l.names l.own x.body) (take l.arm-index l.arm-items))

abbrev pub invariant-report_catches-loop-catch : goal.invariant-report_catches-loop-catch
invariant-report_catches-loop-catch l = l.found ≡ keep_all l.initial.found (flat_map (λ x. perhaps (caught_broken l.names l.own) x.pattern ++ block_broken l.names l.own x.body) (take l.catch-index l.catch-items))

abbrev pub invariant-report_block-loop-x : goal.invariant-report_block-loop-x
invariant-report_block-loop-x l = l.found ≡ keep_all l.initial.found (flat_map (stmt_broken l.names l.own) (take l.x-index l.x-items))
