use Rattle.std.proofs.Common.{◌≡◌, ◌<◌, ◌≤◌, ◌+◌, ℕ, List, length, get_or, take, subst, arith}
use mathlib.Core.Logic.{◌⊎◌, inl, inr}
use Rattle.std.proofs.lemmas.List.{take_more}
use Rattle.sw_graph.specs.Graphs.{entry}
use Rattle.std.specs.List.{Contains}
use Rattle.std.proofs.lemmas.List.Elements.{Contains-push_cases}
use Rattle.sw_graph.proofs.components.all_at_most.Goals as goal

step : (ranks numbers : List ℕ) (i most : ℕ) → i < length numbers → entry ranks (get_or numbers i 0) ≤ most → ((b : ℕ) → Contains (take i numbers) b → entry ranks b ≤ most) → (b : ℕ) → Contains (take (i + 1) numbers) b → entry ranks b ≤ most
step ranks numbers i most h here before b k = go (Contains-push_cases (take i numbers) (get_or numbers i 0) b (subst (λ xs. Contains xs b) (take_more numbers i 0 h) k))
  where
    go : Contains (take i numbers) b ⊎ (get_or numbers i 0 ≡ b) → entry ranks b ≤ most
    go (inl m) = before b m
    go (inr e) = subst (λ x. entry ranks x ≤ most) e here

pub loop-b-preserved : goal.loop-b-preserved
loop-b-preserved c = step c.args.ranks.now c.args.numbers.now c.loop-b.b-index c.args.most (omega arith) (omega arith) c.loop-b.invariant
