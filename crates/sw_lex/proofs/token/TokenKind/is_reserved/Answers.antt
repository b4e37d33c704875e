use Rattle.std.proofs.Common.{◌&&◌, not, is_some, option_copied, sym, ap, ◌∙◌}
use Rattle.sw_lex.specs.declared.token.TokenKind.TheVariants as k
use Rattle.sw_lex.specs.Tables.{same_kind, words}
use Rattle.sw_lex.proofs.SpellingLemmas.{reserved_in}
use Rattle.sw_lex.proofs.token.TokenKind.is_reserved.Goals as goal

pub returns-in-Some : goal.returns-in-Some
unfolding words
returns-in-Some c =
    ap not c.same_kind.ensures ∙ ap (λ text. is_some text && not (same_kind c.args.self k.Underscore)) (sym (ap option_copied c.in-Some.is) ∙ c.text_in.ensures)
    ∙ reserved_in c.args.self

pub returns-in-None : goal.returns-in-None
unfolding words
returns-in-None c =
    ap (λ text. is_some text && not (same_kind c.args.self k.Underscore)) (sym (ap option_copied c.in-None.is) ∙ c.text_in.ensures)
    ∙ reserved_in c.args.self
