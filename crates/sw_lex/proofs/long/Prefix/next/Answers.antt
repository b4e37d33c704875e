use Rattle.std.proofs.Common.{◌≡◌, ◌-◌, ◌∙◌, ap, drop}
use Rattle.std.proofs.lemmas.List.{take_rest}
use Rattle.std.specs.Str.Lossy.{utf8_valid_len}
use Rattle.sw_lex.specs.Cut.{is_inside}
use Rattle.sw_lex.specs.Characters.{valid_ahead}
use Rattle.sw_lex.specs.Matching.{first_lexeme}
use Rattle.sw_lex.proofs.LongLemmas.{valid_from}
use Rattle.sw_lex.proofs.long.Prefix.next.Goals as goal

pub returns-clause-value : goal.returns-clause-value
returns-clause-value c =
    let source = c.args.source.now in
    let prefix = c.args.self.now in
    let value : c.first_lexeme.result ≡ first_lexeme c.is_inside.result c.closes.result (valid_ahead prefix.valid_so_far (drop prefix.at source)) (drop prefix.at source) = rw take_rest at c.first_lexeme.ensures.value in
    value ∙ ap (λ n. first_lexeme c.is_inside.result c.closes.result n (drop prefix.at source)) (valid_from source prefix.at prefix.valid_so_far c.requires.characters c.requires.inside)
    ∙ ap (λ b. first_lexeme b c.closes.result (utf8_valid_len source - prefix.at) (drop prefix.at source)) c.is_inside.ensures
    ∙ ap (λ b. first_lexeme (is_inside prefix.opens) b (utf8_valid_len source - prefix.at) (drop prefix.at source)) c.closes.ensures
