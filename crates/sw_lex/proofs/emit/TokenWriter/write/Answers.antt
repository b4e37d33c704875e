use Rattle.std.proofs.Common.{◌-◌, ap, ◌∙◌, take}
use Rattle.std.specs.Prelude.{slice_index}
use Rattle.sw_lex.specs.Lexemes.{size_of}
use Rattle.sw_lex.specs.Tokens.{after_byte, moved}
use Rattle.sw_lex.proofs.PlaceLemmas.{moved_last}
use Rattle.sw_lex.proofs.emit.TokenWriter.write.Goals as goal

pub emit-requires-clause-next : goal.emit-requires-clause-next
emit-requires-clause-next c =
    let place = c.args.self.now.here.place in
    let bytes = c.args.bytes.now in
    c.after_byte-next.ensures ∙ ap (λ p. after_byte p (slice_index bytes (c.size_of-size.result - 1))) c.moved-last.ensures.value
    ∙ ap (λ n. after_byte (moved place (take (n - 1) bytes)) (slice_index bytes (n - 1))) c.size_of-size.ensures.value
    ∙ moved_last place (size_of c.args.item) bytes c.requires.some c.requires.within
