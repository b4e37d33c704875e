use Rattle.std.proofs.Common.{◌<◌, ◌&&◌, ◌+◌, ◌∙◌, sym, ap, length, drop, arith}
use Rattle.sw_declared.specs.Declarations.{argument_labels, label_text}
use Rattle.sw_declared.specs.Members.{same_label, same_labels}
use Rattle.sw_declared.proofs.Sought.{other_count, labels_step, labels_end}
use Rattle.sw_declared.proofs.few.same_labels.Goals as goal

pub returns-then-labels-arguments : goal.returns-then-labels-arguments
returns-then-labels-arguments c = other_count c.args.labels.now c.args.arguments.now c.if-labels-arguments.true

pub returns-then-not-same_label : goal.returns-then-not-same_label
returns-then-not-same_label c =
    let labels = c.args.labels.now in
    let arguments = c.args.arguments.now in
    let i = c.loop-i.i in
    let short : i < length arguments = omega arith in
    sym (c.loop-i.invariant ∙ labels_step labels arguments i c.index-labels-i.result c.index-arguments-i.result c.loop-i-test.true short c.index-labels-i.is c.index-arguments-i.is
    ∙ ap (λ t. t && same_labels (drop (i + 1) labels) (argument_labels (drop (i + 1) arguments))) (ap (λ a. same_label c.index-labels-i.result (label_text a.label)) c.index-arguments-i.is ∙ sym c.same_label.ensures ∙ c.if-not-same_label.true))

pub loop-i-preserved : goal.loop-i-preserved
loop-i-preserved c =
    let labels = c.args.labels.now in
    let arguments = c.args.arguments.now in
    let i = c.loop-i.i in
    let short : i < length arguments = omega arith in
    c.loop-i.invariant ∙ labels_step labels arguments i c.index-labels-i.result c.index-arguments-i.result c.loop-i-test.true short c.index-labels-i.is c.index-arguments-i.is
    ∙ ap (λ t. t && same_labels (drop (i + 1) labels) (argument_labels (drop (i + 1) arguments))) (ap (λ a. same_label c.index-labels-i.result (label_text a.label)) c.index-arguments-i.is ∙ sym c.same_label.ensures ∙ c.if-not-same_label.false)

pub returns : goal.returns
returns c = labels_end c.args.labels.now c.args.arguments.now c.loop-i.i c.loop-i-test.false c.if-labels-arguments.false ∙ sym c.loop-i.invariant
