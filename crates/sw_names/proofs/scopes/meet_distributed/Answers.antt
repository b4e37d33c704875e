use Rattle.std.proofs.Common.{◌||◌, [], ◌∷◌, Some, codes, ap, ◌∙◌}
use Rattle.sw_sight.specs.InSight.{same}
use Rattle.sw_declared.specs.Spelling.{spelled}
use Rattle.sw_names.specs.Keys.{built_in_key}
use Rattle.sw_names.specs.Meeting.{is_met}
use Rattle.sw_names.proofs.Meetings.{met_more}
use Rattle.sw_names.proofs.scopes.meet_distributed.Goals as goal

pub returns : goal.returns
returns c =
    met_more (built_in_key (codes "id") []) _ _ _
    (λ x. c.in_ok-insert_built_in-3.ensures x ∙ ap (λ labels. same x (spelled (codes "id") labels) || is_met x c.insert_built_in-2.new.met) (c.as_slice-3.ensures ∙ c.new-none.ensures))
    (met_more (built_in_key (codes "actorSystem") []) _ _ _
    (λ x. c.in_ok-insert_built_in-2.ensures x ∙ ap (λ labels. same x (spelled (codes "actorSystem") labels) || is_met x c.insert_built_in.new.met) (c.as_slice-2.ensures ∙ c.new-none.ensures))
    (met_more (built_in_key (codes "resolve") (Some (codes "id") ∷ Some (codes "using") ∷ [])) [] _ _
    (λ x. c.in_ok-insert_built_in.ensures x ∙ ap (λ labels. same x (spelled (codes "resolve") labels) || is_met x c.empty-met.result) (c.as_slice.ensures ∙ c.in_ok-labels.ensures))
    c.empty-met.ensures))
