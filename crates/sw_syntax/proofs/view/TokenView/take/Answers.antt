use Rattle.std.proofs.Common.{◌≡◌, ◌<◌, length, drop, sym, ap, ◌∙◌, subst}
use Rattle.sw_base.specs.Limits.{greatest_integer}
use Rattle.sw_lex.specs.declared.token.TokenKind.TheVariants as k
use Rattle.sw_syntax.specs.declared.class.Sight.{Sight}
use Rattle.sw_syntax.specs.Tokens.{sighted}
use Rattle.sw_syntax.specs.Broken.{broken_at}
use Rattle.sw_syntax.proofs.SightLemmas as sights
use Rattle.std.proofs.Common.{Bool, true, ◌+◌, slice_index_or}
use Rattle.sw_grammar.specs.Reading.{at_first, got}
use Rattle.sw_syntax.specs.Sights.{token_face, lent_face}
use Rattle.sw_syntax.specs.Answering.{Takes}
use Rattle.sw_syntax.specs.Tests.{is}
use Rattle.sw_lex.specs.Rules.{number}
use Rattle.std.proofs.Common.{◌≤◌}
use Rattle.std.proofs.lemmas.Option.{get_or_from_slice_get}
use Rattle.sw_lex.specs.declared.token.Token.{Token}
use Rattle.sw_lex.specs.Tokens.{token_of}
use Rattle.sw_syntax.proofs.view.TokenView.take.Goals as goal

pub at-requires : goal.at-requires
at-requires c = subst (λ n. c.args.at < n) (ap (λ r. length r) (sym c.self.view_is) ∙ sights.source_length c.self.inside.broken c.self.inside.tokens.now) c.requires

pub returns-clause-taken : goal.returns-clause-taken
returns-clause-taken c = subst (λ v. (f : Sight → Bool) → at_first f (drop c.args.at v) ≡ true → Takes f (drop c.args.at v) (lent_face c.at.result) (drop (c.args.at + 1) v)) c.self.view_is
    (λ f h left. sights.taken f left c.self.inside.broken c.args.at c.self.inside.tokens.now (token_of c.at.result) (subst (λ n. c.args.at < n) (ap (λ r. length r) (sym c.self.view_is) ∙ sights.source_length c.self.inside.broken c.self.inside.tokens.now) c.requires) h
    ∙ ap (λ t. got (token_face t) left (drop (c.args.at + 1) (sighted (broken_at c.self.inside.broken c.self.inside.tokens.now)))) (get_or_from_slice_get c.self.inside.tokens.now c.args.at (token_of c.at.result) (token_of c.at.result) c.at.ensures.token))

pub returns-clause-fits : goal.returns-clause-fits
returns-clause-fits c = λ h. c.at.ensures.fits (sym (ap (λ (t : Token). t.kind) (get_or_from_slice_get c.self.inside.tokens.now c.args.at (token_of c.at.result) (token_of c.at.result) c.at.ensures.token))
    ∙ sights.integer_at c.self.inside.broken c.args.at c.self.inside.tokens.now (token_of c.at.result) (subst (λ n. c.args.at < n) (ap (λ r. length r) (sym c.self.view_is) ∙ sights.source_length c.self.inside.broken c.self.inside.tokens.now) c.requires)
    (subst (λ v. at_first (is k.Integer) (drop c.args.at v) ≡ true) (sym c.self.view_is) h))
