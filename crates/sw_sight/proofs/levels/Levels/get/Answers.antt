use Rattle.std.proofs.Common.{◌≡◌, sym, ap, ◌∙◌}
use Rattle.std.specs.Option.{unwrap_or}
use Rattle.sw_sight.specs.InSight.{Text, same}
use Rattle.sw_sight.specs.Levels.{level}
use Rattle.sw_sight.proofs.Entries.{lookup_shown}
use Rattle.sw_sight.proofs.levels.Levels.get.Goals as goal

pub returns-in-Some : goal.returns-in-Some
unfolding level same
returns-in-Some c = ap (λ o. unwrap_or o 0) (c.in-Some.ensures.value ∙ lookup_shown (λ k. k.items) c.args.name.now c.self.inside.table.entries) ∙ ap (level c.args.name.now) c.self.view_is

pub returns-in-None : goal.returns-in-None
unfolding level same
returns-in-None c = ap (λ o. unwrap_or o 0) (c.in-None.ensures.value ∙ lookup_shown (λ k. k.items) c.args.name.now c.self.inside.table.entries) ∙ ap (level c.args.name.now) c.self.view_is
