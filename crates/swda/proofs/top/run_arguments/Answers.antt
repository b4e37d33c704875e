use Rattle.std.proofs.Common.{◌≡◌, ◌∷◌, [], ap, sym, ◌∙◌, arith}
use Rattle.swda.proofs.TopLemmas.{three, bytes_same}
use Rattle.swda.proofs.top.run_arguments.Goals as goal

pub returns-in-len3 : goal.returns-in-len3
returns-in-len3 c =
    let run : c.command-item.result ≡ c.as_slice.result.now = sym c.as_bytes.ensures ∙ bytes_same _ _ c.if-eq.ensures in
    three _ _ _ _ (omega (arith, c.in-len3.len_at_least, c.in-len3.len_below)) c.command-item.is c.file-item.is c.plan-item.is
    ∙ ap (λ r. r ∷ c.file-item.result ∷ c.plan-item.result ∷ []) (run ∙ c.as_slice.ensures)
