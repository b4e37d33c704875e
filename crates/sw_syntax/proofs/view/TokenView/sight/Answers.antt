use Rattle.std.proofs.Common.{◌<◌, length, drop, sym, ap, ◌∙◌, subst}
use Rattle.sw_syntax.specs.Broken.{broken_if}
use Rattle.sw_lex.specs.Tokens.{token_of}
use Rattle.sw_syntax.proofs.SightLemmas as sights
use Rattle.std.proofs.Common.{nat_eq}
use Rattle.sw_syntax.specs.ReadResults.{first_sight}
use Rattle.sw_syntax.proofs.SightLemmas.{sight_value}
use Rattle.sw_syntax.proofs.view.TokenView.sight.Goals as goal

pub returns-in-Some-clause-value : goal.returns-in-Some-clause-value
returns-in-Some-clause-value c = sight_value _ _ _ _ _ _ c.class_at.ensures (c.is_first.ensures ∙ ap (λ t. (broken_if (nat_eq c.args.at c.self.inside.broken) t).first_on_line) (sights.read_at c.self.inside.tokens.now c.args.at (token_of c.in-Some.token) c.in-Some.ensures.value).1) c.is_next.ensures ∙ sights.sight_is c.self.inside.broken c.args.at c.self.inside.tokens.now (token_of c.in-Some.token) (sights.read_at c.self.inside.tokens.now c.args.at (token_of c.in-Some.token) c.in-Some.ensures.value).0 ∙ ap (λ v. first_sight (drop c.args.at v)) (c.self.view_is)

pub returns-in-Some-clause-within : goal.returns-in-Some-clause-within
returns-in-Some-clause-within c = subst (λ n. c.args.at < n) (sym (sights.source_length c.self.inside.broken c.self.inside.tokens.now) ∙ ap (λ r. length r) (c.self.view_is)) (sights.read_at c.self.inside.tokens.now c.args.at (token_of c.in-Some.token) c.in-Some.ensures.value).0

pub returns-in-None-clause-value : goal.returns-in-None-clause-value
returns-in-None-clause-value c = sights.sight_none c.self.inside.broken c.args.at c.self.inside.tokens.now (sights.read_none c.self.inside.tokens.now c.args.at c.in-None.ensures.value) ∙ ap (λ v. first_sight (drop c.args.at v)) (c.self.view_is)
