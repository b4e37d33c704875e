use Rattle.std.proofs.Common.{ap, ◌++◌, ◌∙◌}
use Rattle.swda.proofs.TopLemmas.{written_whole}
use Rattle.swda.proofs.top.serve.Goals as goal

pub returns-in-Ok-write_all-clause-answers : goal.returns-in-Ok-write_all-clause-answers
returns-in-Ok-write_all-clause-answers g c =
    let e = c.in-Ok-write_all.ensures in
    written_whole _ _ c.in-Ok.answer.status c.in-Ok.answer.text c.in-Ok.ensures.says
    (record { taken = e.ok ∙ ap (λ t. g.S.Sink.taken c.args.sink.now ++ t) c.as_bytes.ensures; no_fault = e.cause })
