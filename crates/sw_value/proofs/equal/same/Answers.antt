use Rattle.std.specs.Cmp.{both_ways}
use Rattle.sw_value.specs.Equal.{equality}
use Rattle.sw_value.proofs.equal.same.Goals as goal

pub returns-clause-test : goal.returns-clause-test
returns-clause-test c =
    let law = equality c.args.a.now c.args.b.now in
    both_ways _ _ (λ h. law.1 (c.alike.ensures.0 h)) (λ h. c.alike.ensures.1 (law.0 h))
