use Rattle.std.proofs.Common.{arith}
use Rattle.sw_print.proofs.Labels.{label_spelt}
use Rattle.sw_print.proofs.names.write_label.Goals as goal

pub returns : goal.returns
returns c = rw (label_spelt c.args.name.now.text) (search (arith, c.as_bytes.ensures))
