use Rattle.std.proofs.Common.{sym, ◌∙◌}
use Rattle.std.proofs.lemmas.List.{length-map}
use Rattle.sw_value.specs.Fits.{value_fits}
use Rattle.sw_value.proofs.FitLemmas.{other_count}
use Rattle.sw_value.proofs.fitting.+fits.Goals as goal

pub parts_fit-returns-then-parts-types : goal.parts_fit-returns-then-parts-types
parts_fit-returns-then-parts-types t c = sym (other_count _ _ (λ e. c.if-parts-types.true (sym (length-map c.args.parts.now (value_fits c.args.kinds.now)) ∙ e)))
