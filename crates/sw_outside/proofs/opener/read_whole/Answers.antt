use Rattle.std.proofs.Common.{arith}
use Rattle.sw_outside.specs.Files.{largest}
use Rattle.sw_outside.proofs.ReadLemmas.{whole}
use Rattle.sw_outside.proofs.opener.read_whole.Goals as goal

pub returns-clause-whole : goal.returns-clause-whole
returns-clause-whole g c =
    whole g.R.Read.remaining c.args.reader c.take.result.inner c.take.result.limit largest c.new-bytes.result.items c.read_to_end.new.buf.items
    c.take.ensures.inner c.take.ensures.limit c.new-bytes.ensures.items c.in_ok-read_to_end.ensures.bytes (omega (arith, c.if-len-gt-LARGEST.false, c.len.ensures))
