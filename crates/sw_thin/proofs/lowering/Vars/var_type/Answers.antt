use Rattle.std.proofs.Common.{sym, ap, ◌∙◌}
use Rattle.std.specs.Prelude.{slice_get}
use Rattle.std.specs.Option.{option_map}
use Rattle.sw_thin.proofs.LoweringLemmas.{type_found}
use Rattle.sw_thin.proofs.lowering.Vars.var_type.Goals as goal

pub returns-in-Some : goal.returns-in-Some
returns-in-Some c =
    ap (option_map (λ v. v.1)) (c.in-Some.ensures.value ∙ ap (λ vars. slice_get vars c.newer_than.result) c.self.view_is ∙ ap (slice_get c.args.self.now) c.newer_than.ensures)
    ∙ sym (type_found c.args.name.now c.args.self.now)

pub returns-in-None : goal.returns-in-None
returns-in-None c =
    ap (option_map (λ v. v.1)) (c.in-None.ensures.value ∙ ap (λ vars. slice_get vars c.newer_than.result) c.self.view_is ∙ ap (slice_get c.args.self.now) c.newer_than.ensures)
    ∙ sym (type_found c.args.name.now c.args.self.now)
