use Rattle.std.proofs.Common.{Some, slice_get, ◌≡◌, subst}
use Rattle.sw_lex.specs.declared.token.Token.{Token}
use Rattle.sw_lex.specs.Tokens.{token_of}
use Rattle.sw_lex.proofs.FitLemmas.{fits_at}
use Rattle.sw_lex.proofs.tokens.Tokens.at.Goals as goal

pub returns-clause-fits : goal.returns-clause-fits
returns-clause-fits c = fits_at c.self.inside.kept c.args.at (token_of c.at.result) c.self.invariant.fits c.at.ensures.token
