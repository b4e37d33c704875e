use Rattle.std.proofs.Common.{◌∙◌}
use Rattle.sw_print.proofs.Whole.{tree_rest}
use Rattle.sw_print.proofs.printing.written.Goals as goal

pub returns-in_ok-bytes-in-len1-up : goal.returns-in_ok-bytes-in-len1-up
returns-in_ok-bytes-in-len1-up c =
    c.into_text-in-len1-up.ensures
    ∙ tree_rest c.args.tree.now c.as_slice.result.now c.first-item.result c.in_ok-page.page c.write.new.page c.write_lines.new.page c.bytes.new.self
    c.as_slice.ensures c.in-len1-up.len_at_least c.first-item.is c.in_ok-page.ensures c.in_ok-write-in-len1-up.ensures c.in_ok-write_lines-in-len1-up.ensures c.in_ok-bytes-in-len1-up.ensures
