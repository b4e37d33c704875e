use Rattle.std.proofs.Common.{◌≡◌, ◌∙◌, ap, nat_lt, true, subst, sym}
use Rattle.sw_sight.specs.Levels.{IsKnown}
use Rattle.sw_declared.specs.Ranks.{actor_rank}
use Rattle.sw_declared.proofs.Ranked.{ranked_more}
use Rattle.sw_declared.proofs.Asked.{numbers_more}
use Rattle.sw_declared.proofs.tables.Types.push.Goals as goal

pub invariant_of-self-in-Ok : goal.invariant_of-self-in-Ok
invariant_of-self-in-Ok c =
    let i = c.self.invariant in
    let items = c.self.inside.items in
    let more = c.in_ok-push-in-Ok.ensures.ok in
    let ready = c.prepare_type.ensures in
    let numbers = c.prepare_type.new.numbers in
    let actors = c.prepare_type.new.actors in
    let name = c.as_bytes-name.result.now in
    let named : name ≡ c.args.item.name = c.as_bytes-name.ensures ∙ c.in-Ok.ensures.name in
    let numbered : IsKnown name numbers = subst (λ x. IsKnown x numbers) (sym named) c.in-Ok.ensures.numbered in
    let ranked : nat_lt 0 c.actor_rank-by_actor.result ≡ true → IsKnown name actors =
    λ h. subst (λ x. IsKnown x actors) (sym named) (c.in-Ok.ensures.ranked (ap (nat_lt 0) (sym c.actor_rank-by_actor.ensures) ∙ h)) in
    record {
      numbers = numbers_more items c.push.new.self c.args.item c.self.inside.numbers numbers c.keep_first.new.levels name c.len-number.result
          more ready.numbers named c.len-number.ensures (c.keep_first.ensures numbered) i.numbers;
      actors = ranked_more (λ t. t.name) (λ t. actor_rank t.form) items c.push.new.self c.self.inside.actors actors c.raise.new.levels c.args.item name c.actor_rank-by_actor.result
          more ready.actors named c.actor_rank-by_actor.ensures (c.raise.ensures.levels ranked) i.actors;
    }
