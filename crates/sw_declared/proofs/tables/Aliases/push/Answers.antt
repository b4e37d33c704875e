use Rattle.std.proofs.Common.{◌≡◌, ◌∙◌}
use Rattle.sw_declared.specs.Ranks.{alias_rank, id_rank}
use Rattle.sw_declared.proofs.Ranked.{ranked_more}
use Rattle.sw_declared.proofs.tables.Aliases.push.Goals as goal

pub invariant_of-self-2 : goal.invariant_of-self-2
invariant_of-self-2 c =
    let i = c.self.invariant in
    let items = c.self.inside.items in
    let more = c.in_ok-push.ensures.ok in
    let name = c.as_bytes-name.result.now in
    let named : name ≡ c.args.item.name = c.as_bytes-name.ensures ∙ c.in_ok-text.ensures in
    record {
      named = ranked_more (λ a. a.name) (λ a. alias_rank a.inner) items c.push.new.self c.self.inside.named c.prepare.new.levels c.raise.new.levels c.args.item name c.alias_rank-by_name.result
          more c.prepare.ensures.levels named c.alias_rank-by_name.ensures (c.raise.ensures.levels c.in_ok-prepare.ensures.known) i.named;
      ids = ranked_more (λ a. a.name) (λ a. id_rank a.inner) items c.push.new.self c.self.inside.ids c.prepare-2.new.levels c.raise-2.new.levels c.args.item name c.id_rank-by_id.result
          more c.prepare-2.ensures.levels named c.id_rank-by_id.ensures (c.raise-2.ensures.levels c.in_ok-prepare-2.ensures.known) i.ids;
    }
