use Rattle.std.proofs.Common.{length, Some, refl, ap, sym, ◌∙◌}
use Rattle.std.proofs.lemmas.Option.{slice_get_read}
use Rattle.sw_lex.proofs.KeptLemmas.{same_text}
use Rattle.sw_lex.proofs.kept.number_of.Goals as goal

pub returns-then-eq : goal.returns-then-eq
returns-then-eq c =
    slice_get_read c.args.texts.now (length c.args.texts.now) c.in_ok-number.field-0.now c.in_ok-kept.kept.now refl c.in_ok-kept.ensures.lookup.3.0 (c.in_ok-kept.ensures.lookup.3.1 c.in_ok-kept.kept.now)
    ∙ ap Some (same_text c.in_ok-kept.kept.now c.args.text.now (sym c.eq.ensures ∙ c.if-eq.true))
