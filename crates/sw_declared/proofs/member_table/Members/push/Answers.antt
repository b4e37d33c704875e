use Rattle.std.proofs.Common.{◌≤◌, ◌∙◌, subst, sym}
use Rattle.sw_declared.specs.Facts.{few, AreKnown}
use Rattle.sw_declared.proofs.Kept.{told_more}
use Rattle.sw_declared.proofs.member_table.Members.push.Goals as goal

pub invariant_of-self-2 : goal.invariant_of-self-2
invariant_of-self-2 c =
    let known = subst (λ fs. AreKnown fs c.prepare_facts.new.told) (c.as_slice.ensures ∙ sym c.as_slice-2.ensures) c.in_ok-prepare_facts.ensures.known in
    told_more c.self.inside.items c.push-2.new.self few c.args.item c.as_slice-2.result.now c.self.inside.told c.prepare_facts.new.told c.raise_facts.new.told (subst (λ n. few ≤ n) c.len.ensures c.if-len-lt-FEW.false)
    c.in_ok-push.ensures.ok (c.as_slice-2.ensures ∙ c.in_ok-facts.ensures) c.prepare_facts.ensures.levels (c.raise_facts.ensures known) c.self.invariant
