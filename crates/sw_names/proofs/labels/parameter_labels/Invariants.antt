use Rattle.std.proofs.Common.{◌≡◌, take}
use Rattle.sw_declared.specs.Declarations.{parameter_labels}
use Rattle.sw_names.proofs.labels.parameter_labels.Given as goal

abbrev pub invariant-loop-parameter : goal.invariant-loop-parameter
invariant-loop-parameter l = l.labels ≡ parameter_labels (take l.parameter-index l.parameters)
