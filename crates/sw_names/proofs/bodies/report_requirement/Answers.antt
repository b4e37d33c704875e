use Rattle.std.proofs.Common.{◌≡◌, ◌∙◌, refl, true}
use Rattle.sw_tree.specs.declared.decl.Requirement.{Requirement}
use Rattle.sw_tree.specs.declared.decl.Requirement.TheVariants as r
use Rattle.sw_names.proofs.Walked.{walked}
use Rattle.sw_events.specs.Parts.{requirement_part}
use Rattle.sw_names.proofs.bodies.report_requirement.Goals as goal

always : (x : Requirement) → true ≡ (requirement_part x).has_instance
always (r.Func x) = refl
always (r.Property name declared) = refl

pub returns : goal.returns
returns c = walked c.walks_find_what_is_broken.ensures.kept _ _ (requirement_part c.args.requirement.now) _ _ _ _ c.new-around.ensures.names c.new-around.ensures.own (c.new-around.ensures.instance ∙ always c.args.requirement.now) c.begin-seen.ensures c.in_ok-walk_requirement.ensures
