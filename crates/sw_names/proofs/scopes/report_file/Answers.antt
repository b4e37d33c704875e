use Rattle.std.proofs.Common.{[]}
use Rattle.sw_names.proofs.scopes.report_file.Goals as goal

pub returns : goal.returns
returns c = c.in_ok-meet_decls.ensures.found [] c.empty.ensures
