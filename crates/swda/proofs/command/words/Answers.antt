use Rattle.std.proofs.Common.{rules}
use Rattle.swda.proofs.CommandLemmas.{word_more, words_whole}
use Rattle.swda.proofs.command.words.Goals as goal

pub returns-in_default : goal.returns-in_default
returns-in_default g c =
    words_whole (g.C.CommandLine.words c.args.line.now) c.loop-number.words c.loop-number.number c.in_ok-word.field-0
    c.loop-number.invariant c.in_ok-word.ensures (search rules)

pub loop-number-preserved : goal.loop-number-preserved
loop-number-preserved g c =
    word_more (g.C.CommandLine.words c.args.line.now) c.loop-number.words c.push.new.self c.loop-number.number c.in_ok-word.field-0 c.in-Some.word
    c.loop-number.invariant c.in_ok-word.ensures c.in-Some.is c.in_ok-push.ensures.ok
