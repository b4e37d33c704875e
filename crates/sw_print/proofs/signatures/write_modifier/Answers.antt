use Rattle.std.proofs.Common.{[], ◌∷◌, ◌++◌, sym, ap}
use Rattle.std.proofs.lemmas.Result.{IfOk-equal}
use Rattle.sw_layout.specs.Words.{words_text}
use Rattle.sw_print.specs.Declarations.{modifier_word}
use Rattle.sw_print.proofs.signatures.write_modifier.Goals as goal

pub returns-in-Nonisolated : goal.returns-in-Nonisolated
returns-in-Nonisolated c =
    IfOk-equal c.word-in-Nonisolated.result _ _ _ c.word-in-Nonisolated.ensures (ap (λ kind. c.args.page.now ++ words_text (modifier_word kind c.args.before ∷ [])) (sym c.in-Nonisolated.is))
