use Rattle.std.proofs.Common.{◌∙◌, subst, sym}
use Rattle.sw_members.specs.Keys.{AreKnown}
use Rattle.sw_members.proofs.Kept.{keyed_more}
use Rattle.sw_members.proofs.declarations.Declarations.push.Goals as goal

pub invariant_of-self-2 : goal.invariant_of-self-2
invariant_of-self-2 c =
    let known = subst (λ ks. AreKnown ks c.prepare.new.firsts) (c.as_slice.ensures ∙ sym c.as_slice-2.ensures) c.in_ok-prepare.ensures.known in
    keyed_more c.self.inside.items c.push.new.self c.args.item c.as_slice-2.result.now c.len-number.result c.self.inside.firsts c.prepare.new.firsts c.keep_firsts.new.firsts
    c.in_ok-push.ensures.ok (c.as_slice-2.ensures ∙ c.in_ok-keys.ensures) c.len-number.ensures c.prepare.ensures.levels (c.keep_firsts.ensures known) c.self.invariant
