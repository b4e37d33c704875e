use Rattle.std.proofs.Common.{◌∙◌, arith}
use Rattle.std.proofs.lemmas.List.{take_at}
use Rattle.swda.proofs.CommandLemmas.{word_filled, word_absent}
use Rattle.swda.proofs.command.word.Goals as goal

pub returns-in-Ok : goal.returns-in-Ok
returns-in-Ok g c =
    word_filled (g.C.CommandLine.words c.args.line.now) c.args.number c.in-Ok.length c.word.new.buffer c.deref.result.now c.in_ok-from_bytes-in-Ok.field-0
    c.in-Ok.ensures.fills c.in_ok-from_bytes-in-Ok.ensures
    (c.deref.ensures.value ∙ take_at c.word.new.buffer _ c.loop.buffer.len (omega (arith, c.word.auto.buffer, c.as_mut_slice.ensures.len)))

pub returns-in-Err-NotPresent : goal.returns-in-Err-NotPresent
returns-in-Err-NotPresent g c =
    word_absent (g.C.CommandLine.words c.args.line.now) c.args.number c.word.new.buffer c.in-Err-NotPresent.field-0
    c.in-Err-NotPresent.ensures.fills c.in-Err-NotPresent.field-0-is
