-- What the grammar sees of words, with tokens after them.
use Rattle.std.specs.Prelude.{List, [], ◌∷◌, ◌++◌, map}
use Rattle.sw_lex.specs.declared.token.Token.{Token}
use Rattle.sw_layout.specs.Words.{Word, token_of}
use Rattle.sw_syntax.specs.Tokens.{Sighted, seen}

abbrev pub seen_in : List Word → List Token → List Sighted
seen_in [] following = []
seen_in (word ∷ words) following = seen (token_of word) (map token_of words ++ following) ∷ seen_in words following
