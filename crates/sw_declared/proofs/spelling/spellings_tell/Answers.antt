use Rattle.sw_declared.proofs.Spellings as lemma
use Rattle.sw_declared.proofs.spelling.spellings_tell.Goals as goal

pub returns : goal.returns
returns c = lemma.spellings_tell
