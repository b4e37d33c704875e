use Rattle.std.proofs.Common.{ap, ◌∙◌}
use Rattle.sw_sight.specs.Levels.{level}
use Rattle.sw_members.specs.Keys.{answers, has_key, key, place, question_code}
use Rattle.sw_members.proofs.Keyed.{name_keyed}
use Rattle.sw_members.proofs.Places.{place_as}
use Rattle.sw_members.proofs.declarations.Declarations.place_of.Goals as goal

pub returns-in-Ok : goal.returns-in-Ok
returns-in-Ok c =
    let question = c.args.question in
    let side = c.args.side in
    let x = c.args.name.now in
    let k = key (question_code question) side x in
    c.get.ensures ∙ ap (λ t. level t c.self.inside.firsts) (c.as_bytes.ensures ∙ c.in-Ok.ensures) ∙ c.self.invariant k
    ∙ place_as (has_key k) (answers question side x) (name_keyed question side x) c.self.inside.items
    ∙ ap (place (answers question side x)) c.self.view_is
