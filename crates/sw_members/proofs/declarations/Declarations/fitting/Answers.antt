use Rattle.std.proofs.Common.{ap, ◌∙◌, ◌&&◌, Some}
use Rattle.sw_sight.specs.Levels.{level}
use Rattle.sw_declared.specs.Declarations.{argument_labels}
use Rattle.sw_declared.specs.Members.{same_call}
use Rattle.sw_declared.specs.Spelling.{spelled}
use Rattle.sw_members.specs.Found.{is_named}
use Rattle.sw_members.specs.Keys.{at_place, call_code, has_key, key, place}
use Rattle.sw_members.proofs.Keyed.{call_keyed}
use Rattle.sw_members.proofs.Places.{found_at, place_as}
use Rattle.sw_members.proofs.declarations.Declarations.fitting.Goals as goal

pub returns : goal.returns
returns c =
    let side = c.args.side in
    let x = c.args.name.now in
    let labels = argument_labels c.args.arguments.now in
    let k = key call_code side (spelled x labels) in
    let items = c.args.self.now in
    c.at_place.ensures
    ∙ ap (λ n. at_place n items)
    (c.get.ensures ∙ ap (λ t. level t c.self.inside.firsts) (c.as_bytes.ensures ∙ c.in_ok-key.ensures) ∙ c.self.invariant k ∙ ap (place (has_key k)) c.self.view_is
    ∙ place_as (has_key k) (λ d. is_named side x d && same_call (Some labels) d.labels) (call_keyed c.spellings_tell.ensures side x labels) items)
    ∙ found_at (λ d. is_named side x d && same_call (Some labels) d.labels) items
