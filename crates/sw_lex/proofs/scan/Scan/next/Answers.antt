use Rattle.std.proofs.Common.{◌≡◌, ◌-◌, ◌∙◌, ap, drop}
use Rattle.std.proofs.lemmas.List.{take_rest}
use Rattle.std.specs.Option.{is_none}
use Rattle.std.specs.Str.Lossy.{utf8_valid_len}
use Rattle.sw_lex.specs.Cut.{is_inside}
use Rattle.sw_lex.specs.Characters.{valid_ahead}
use Rattle.sw_lex.specs.Matching.{first_lexeme}
use Rattle.sw_lex.proofs.ScanLemmas.{prefix_ahead, none_is}
use Rattle.sw_lex.proofs.scan.Scan.next.Goals as goal

pub returns-clause-value : goal.returns-clause-value
returns-clause-value c =
    let source = c.args.source.now in
    let scan = c.args.self.now in
    let rest = drop scan.at source in
    let valid_so_far : c.is_none.result ≡ is_none scan.bad = none_is scan.bad c.is_none.result c.is_none.ensures in
    let valid = ap (λ b. valid_ahead b (drop scan.at source)) valid_so_far ∙ prefix_ahead source scan.at scan.bad c.requires.prefix c.requires.inside in
    let value : c.first_lexeme.result ≡ first_lexeme c.is_inside.result c.closes.result (valid_ahead c.is_none.result (drop scan.at source)) (drop scan.at source) = rw take_rest at c.first_lexeme.ensures.value in
    value ∙ ap (λ n. first_lexeme c.is_inside.result c.closes.result n (drop scan.at source)) valid
    ∙ ap (λ b. first_lexeme b c.closes.result (utf8_valid_len source - scan.at) (drop scan.at source)) c.is_inside.ensures
    ∙ ap (λ b. first_lexeme (is_inside scan.opens) b (utf8_valid_len source - scan.at) (drop scan.at source)) c.closes.ensures
