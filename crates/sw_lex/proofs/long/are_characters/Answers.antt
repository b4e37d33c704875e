use Rattle.sw_lex.proofs.LongLemmas.{characters_to}
use Rattle.sw_lex.proofs.long.are_characters.Goals as goal

pub returns : goal.returns
returns c = characters_to c.args.source.now c.args.at c.args.end c.valid_len.result c.args.valid_so_far (cc) c.requires.order c.requires.within c.requires.boundary c.valid_len.ensures c.requires.characters
