use Rattle.std.proofs.Common.{◌≡◌, ◌<◌, ℕ, suc, ◌+◌, ◌∙◌, ap, sym, length, arith, subst}
use Rattle.sw_graph.specs.Graphs.{marked, entry}
use Rattle.sw_graph.specs.Levels.{noted, TellsWalks, AreLevels}
use Rattle.sw_graph.proofs.LevelLemmas.{walks_more, levels_more}
use Rattle.sw_graph.proofs.longest.levels.Goals as goal

pub loop-round-preserved : goal.loop-round-preserved
loop-round-preserved c =
    let next : suc c.loop-round.round ≡ c.loop-round.round + 1 = omega arith in
    let old = subst (TellsWalks c.args.graph.now c.args.passed.now c.loop-round.round) (sym c.as_slice.ensures.value) c.loop-round.invariant.walks in
    let walks = walks_more c.args.graph.now c.args.passed.now c.as_slice.result.now c.in_ok-table-2.table.items c.loop-round.round c.in_ok-table-2.ensures.each old in
    let told : (a : ℕ) → a < length c.args.graph.now → entry c.note.new.levels.items a ≡ noted (entry c.loop-round.levels.items a) (marked c.in_ok-table-2.table.items a) (suc c.loop-round.round) =
    λ a h. c.note.ensures.each a (omega (arith, c.in_ok-table-2.ensures.length, ap length c.as_slice-in-loop-round.ensures.value)) ∙ (ap (λ xs. noted (entry c.loop-round.levels.items a) (marked xs a) (c.loop-round.round + 1)) c.as_slice-in-loop-round.ensures.value ∙ ap (noted (entry c.loop-round.levels.items a) (marked c.in_ok-table-2.table.items a)) (sym next)) in
    record {
      counts = c.note.ensures.length ∙ c.loop-round.invariant.counts;
      size = c.in_ok-table-2.ensures.length;
      walks = subst (λ n. TellsWalks c.args.graph.now c.args.passed.now n c.in_ok-table-2.table.items) next walks;
      told = subst (λ n. AreLevels c.args.graph.now c.args.passed.now n c.note.new.levels.items) next (levels_more c.args.graph.now c.args.passed.now c.in_ok-table-2.table.items c.loop-round.levels.items c.note.new.levels.items c.loop-round.round told walks c.loop-round.invariant.told);
    }
