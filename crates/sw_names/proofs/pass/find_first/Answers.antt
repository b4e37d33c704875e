use Rattle.sw_names.proofs.First.{found_first}
use Rattle.sw_names.proofs.pass.find_first.Goals as goal

pub returns : goal.returns
returns c = λ h.
    found_first c.finds_first.ensures.finds c.walks_find_what_is_broken.ensures.told c.args.names.now c.args.tree.now _ _ _ _ _ _
    c.as_slice.ensures c.as_slice-2.ensures c.new.ensures c.in_ok-found.ensures c.in_ok-found-2.ensures c.first.ensures h
