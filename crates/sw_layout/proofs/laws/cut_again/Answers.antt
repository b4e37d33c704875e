use Rattle.sw_layout.proofs.PageLemmas.{page_cut}
use Rattle.sw_layout.proofs.laws.cut_again.Goals as goal

pub returns : goal.returns
returns c = page_cut
