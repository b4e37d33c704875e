use Rattle.std.proofs.Common.{[], option_copied, unwrap_or, sym, ap, ◌∙◌}
use Rattle.std.specs.Option.{option_or}
use Rattle.sw_lex.specs.Tables.{marks, words}
use Rattle.sw_lex.specs.Matching.{text_in}
use Rattle.sw_lex.proofs.SpellingLemmas.{spelt}
use Rattle.sw_lex.proofs.token.TokenKind.spelling.Goals as goal

pub returns-in-Some : goal.returns-in-Some
unfolding words
returns-in-Some c =
    ap (λ word. unwrap_or (option_or word (text_in marks c.args.self)) []) (sym (ap option_copied c.in-Some.is) ∙ c.text_in.ensures)
    ∙ spelt c.args.self

pub returns-in-Some-text_in : goal.returns-in-Some-text_in
unfolding words marks
returns-in-Some-text_in c =
    ap (λ mark. unwrap_or mark []) (sym (ap option_copied c.in-Some-text_in.is) ∙ c.text_in-in-None.ensures)
    ∙ ap (λ word. unwrap_or (option_or word (text_in marks c.args.self)) []) (sym (ap option_copied c.in-None.is) ∙ c.text_in.ensures)
    ∙ spelt c.args.self

pub returns-in-None-text_in : goal.returns-in-None-text_in
unfolding words marks
returns-in-None-text_in c =
    ap (λ mark. unwrap_or mark []) (sym (ap option_copied c.in-None-text_in.is) ∙ c.text_in-in-None.ensures)
    ∙ ap (λ word. unwrap_or (option_or word (text_in marks c.args.self)) []) (sym (ap option_copied c.in-None.is) ∙ c.text_in.ensures)
    ∙ spelt c.args.self
