use Rattle.std.proofs.Common.{◌≤◌, List, [], length, sym, ◌∙◌, subst, arith, refl}
use Rattle.std.specs.Str.Lossy.{utf8_valid_len}
use Rattle.sw_base.specs.Limits.{longest_source}
use Rattle.sw_lex.specs.declared.token.Token.{Token}
use Rattle.sw_lex.specs.Tokens.{CutsInto, EndsOnce}
use Rattle.sw_lex.specs.Lexing.{AreLexed}
use Rattle.sw_lex.proofs.CharacterLemmas.{valid_is}
use Rattle.sw_lex.proofs.FitLemmas.{integers_fit}
use Rattle.sw_lex.proofs.RefusalLemmas.{first_refusal}
use Rattle.sw_lex.proofs.SomeCut.{some_cut}
use Rattle.sw_lex.proofs.WholeLemmas.{cuts_into, ends_once, in_order, last_near, only_cut}
use Rattle.sw_lex.proofs.lexer.lex.Goals as goal

pub returns-then-source-gt-LONGEST_SOURCE-clause-refused : goal.returns-then-source-gt-LONGEST_SOURCE-clause-refused
returns-then-source-gt-LONGEST_SOURCE-clause-refused c =
    let source = c.args.source.now in
    let whole = some_cut [] (utf8_valid_len source) source in
    first_refusal source (utf8_valid_len source) whole.items whole.stop (valid_is source) whole.cut whole.within
    c.in_ok-rule.rule 0 (record { line = 1; column = 1 }) c.in_ok-rule.ensures refl

pub ended-requires : goal.ended-requires
ended-requires c = last_near c.args.source.now c.in_ok-scan.scan c.in_ok-scan.stop c.in_ok-scan.ensures c.in-None.ensures.first (omega (arith, c.if-source-gt-LONGEST_SOURCE.false))

pub new-requires : goal.new-requires
new-requires c =
    let source = c.args.source.now in
    let short : length source ≤ longest_source = omega (arith, c.if-source-gt-LONGEST_SOURCE.false) in
    let first = c.in-None.ensures.first in
    let read = c.in_ok-scan.ensures in
    subst (λ (tokens : List Token). AreLexed tokens) (sym c.in_ok-emitted-in-None.ensures) (record {
      ordered = in_order source c.in_ok-scan.scan c.in_ok-scan.stop read first short;
      ended = ends_once source c.in_ok-scan.scan c.in_ok-scan.stop read first short;
      fits = integers_fit source _ (cuts_into source c.in_ok-scan.scan c.in_ok-scan.stop read first short) (λ refusal h. first refusal.rule h.0 h.1);
    })

pub returns-in_ok-emitted-in-None-clause-tokens : goal.returns-in_ok-emitted-in-None-clause-tokens
returns-in_ok-emitted-in-None-clause-tokens c =
    let source = c.args.source.now in
    subst (λ (tokens : List Token). CutsInto source tokens) (sym (c.new.ensures ∙ c.in_ok-emitted-in-None.ensures))
    (cuts_into source c.in_ok-scan.scan c.in_ok-scan.stop c.in_ok-scan.ensures c.in-None.ensures.first (omega (arith, c.if-source-gt-LONGEST_SOURCE.false)))

pub returns-in_ok-emitted-in-None-clause-only : goal.returns-in_ok-emitted-in-None-clause-only
returns-in_ok-emitted-in-None-clause-only c = λ others h.
    only_cut c.args.source.now c.in_ok-scan.scan c.in_ok-scan.stop c.in_ok-scan.ensures c.in-None.ensures.first (omega (arith, c.if-source-gt-LONGEST_SOURCE.false)) others h
    ∙ sym (c.new.ensures ∙ c.in_ok-emitted-in-None.ensures)

pub returns-in_ok-emitted-in-None-clause-ended : goal.returns-in_ok-emitted-in-None-clause-ended
returns-in_ok-emitted-in-None-clause-ended c =
    subst (λ (tokens : List Token). EndsOnce tokens) (sym (c.new.ensures ∙ c.in_ok-emitted-in-None.ensures))
    (ends_once c.args.source.now c.in_ok-scan.scan c.in_ok-scan.stop c.in_ok-scan.ensures c.in-None.ensures.first (omega (arith, c.if-source-gt-LONGEST_SOURCE.false)))

pub returns-in_ok-emitted-in-None-clause-unbroken : goal.returns-in_ok-emitted-in-None-clause-unbroken
returns-in_ok-emitted-in-None-clause-unbroken c = λ refusal h. c.in-None.ensures.first refusal.rule h.0 h.1

pub returns-in-Some-clause-refused : goal.returns-in-Some-clause-refused
returns-in-Some-clause-refused c =
    let source = c.args.source.now in
    let read = c.in_ok-scan.ensures in
    first_refusal source (utf8_valid_len source) read.items c.in_ok-scan.stop (valid_is source) read.cut (omega (arith, read.ends, read.inside))
    c.in-Some.rule c.in-Some.spot.at c.in-Some.spot.place c.in-Some.ensures.first c.in-Some.ensures.place
