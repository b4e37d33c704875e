use Rattle.std.proofs.Common.{◌∙◌}
use Rattle.sw_declared.specs.Ranks.{func_rank}
use Rattle.sw_declared.proofs.Ranked.{ranked_more}
use Rattle.sw_declared.proofs.tables.Funcs.push.Goals as goal

pub invariant_of-self-2 : goal.invariant_of-self-2
invariant_of-self-2 c =
    ranked_more (λ f. f.name) (λ f. func_rank f.kind) c.self.inside.items c.push.new.self c.self.inside.named c.prepare.new.levels c.raise.new.levels c.args.item c.as_bytes-name.result.now c.func_rank-by_name.result
    c.in_ok-push.ensures.ok c.prepare.ensures.levels (c.as_bytes-name.ensures ∙ c.in_ok-text.ensures) c.func_rank-by_name.ensures (c.raise.ensures.levels c.in_ok-prepare.ensures.known) c.self.invariant
