use Rattle.std.proofs.Common.{◌≡◌, ◌∙◌, ap, sym}
use Rattle.sw_resolve.specs.Changes.{is_reference}
use Rattle.sw_resolve.proofs.Receivers.{as_value}
use Rattle.sw_resolve.proofs.changes.+changes.Goals as goal

pub may_change-returns-else-is_reference : goal.may_change-returns-else-is_reference
may_change-returns-else-is_reference t c = as_value c.args.scope.now c.args.on.now c.in-Value.e c.is_variable.result c.in-Value.is (cc) (cc)
