use Rattle.std.proofs.Common.{◌≡◌, ap, ◌∙◌}
use Rattle.std.specs.Prelude.{slice_set}
use Rattle.sw_members.specs.Given.{given_at, with_type}
use Rattle.sw_members.proofs.Given.{given_keyed, set_given}
use Rattle.sw_members.proofs.declarations.Declarations.give.Goals as goal

-- what stands in the list at the end
abbrev changed : (c : goal.Joined-replace-2) → c.replace.new.self ≡ given_at c.args.at c.args.gives c.self.inside.items
changed c =
    let n = c.args.at in
    let items = c.self.inside.items in
    c.replace.ensures.new
    ∙ ap (λ d. slice_set c.replace-item.new.self n d) c.with_type.ensures
    ∙ ap (λ ds. slice_set ds n (with_type c.args.gives c.replace-item.result)) c.replace-item.ensures.new
    ∙ set_given items n c.in_ok-placeholder.placeholder c.replace-item.result c.args.gives c.replace-item.ensures.given

pub invariant_of-self : goal.invariant_of-self
invariant_of-self c =
    given_keyed c.self.inside.items c.replace.new.self c.args.at c.args.gives c.self.inside.firsts (changed c) c.self.invariant

pub returns-clause-ok : goal.returns-clause-ok
returns-clause-ok c = changed c ∙ ap (given_at c.args.at c.args.gives) c.self.view_is
