use Rattle.std.proofs.Common.{◌≡◌, ◌<◌, ◌≤◌, true, nat_lt, arith, refl, subst}
use Rattle.std.proofs.lemmas.Bool.Decides.{nat_tests}
use Rattle.sw_declared.proofs.Ranked.{raised, kept}
use Rattle.sw_declared.proofs.ranks.raise.Goals as goal

pub returns-then-get-rank-clause-levels : goal.returns-then-get-rank-clause-levels
returns-then-get-rank-clause-levels c k x n =
    let less = subst (λ l. l < c.args.rank) c.get.ensures c.if-get-rank.true in
    let some : nat_lt 0 c.args.rank ≡ true = grind (arith, nat_tests, less) in
    raised x c.args.name.now n c.args.rank c.args.levels.now c.set.new.self less (c.set.ensures.levels (k some) x)

pub returns-else-get-rank-clause-levels : goal.returns-else-get-rank-clause-levels
returns-else-get-rank-clause-levels c k x n = kept x c.args.name.now n c.args.rank c.args.levels.now c.args.levels.now (subst (λ l. c.args.rank ≤ l) c.get.ensures c.if-get-rank.false) refl
