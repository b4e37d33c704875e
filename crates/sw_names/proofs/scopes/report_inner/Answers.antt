use Rattle.sw_names.specs.Keys.{built_in_keys}
use Rattle.sw_names.proofs.scopes.report_inner.Goals as goal

pub returns : goal.returns
returns c = c.in_ok-meet_inner.ensures.found (built_in_keys c.args.decl.now) c.in_ok-met.ensures
