use Rattle.std.proofs.Common.{◌<◌, ◌&&◌, ◌+◌, ◌∙◌, sym, ap, length, drop, arith}
use Rattle.std.specs.Cmp.Lexicographic.{pointwise, unequal}
use Rattle.sw_declared.specs.Members.{same_label}
use Rattle.sw_requirements.proofs.Pairs.{pairs_step, pairs_end, labels_are_pairs}
use Rattle.sw_requirements.proofs.lists.same_labels.Goals as goal

pub returns-then-a-b : goal.returns-then-a-b
returns-then-a-b c = sym (labels_are_pairs c.args.a.now c.args.b.now ∙ unequal same_label c.args.a.now c.args.b.now c.if-a-b.true)

pub returns-then-not-same_label : goal.returns-then-not-same_label
returns-then-not-same_label c =
    let a = c.args.a.now in
    let b = c.args.b.now in
    let i = c.loop-i.i in
    let short : i < length b = omega arith in
    sym (labels_are_pairs a b ∙ c.loop-i.invariant
    ∙ pairs_step same_label a b i c.index-a-i.result c.index-b-i.result c.loop-i-test.true short c.index-a-i.is c.index-b-i.is
    ∙ ap (λ t. t && pointwise same_label (drop (i + 1) a) (drop (i + 1) b)) (sym c.same_label.ensures ∙ c.if-not-same_label.true))

pub loop-i-preserved : goal.loop-i-preserved
loop-i-preserved c =
    let a = c.args.a.now in
    let b = c.args.b.now in
    let i = c.loop-i.i in
    let short : i < length b = omega arith in
    c.loop-i.invariant
    ∙ pairs_step same_label a b i c.index-a-i.result c.index-b-i.result c.loop-i-test.true short c.index-a-i.is c.index-b-i.is
    ∙ ap (λ t. t && pointwise same_label (drop (i + 1) a) (drop (i + 1) b)) (sym c.same_label.ensures ∙ c.if-not-same_label.false)

pub returns : goal.returns
returns c =
    let a = c.args.a.now in
    let b = c.args.b.now in
    sym (labels_are_pairs a b ∙ c.loop-i.invariant ∙ pairs_end same_label a b c.loop-i.i c.loop-i-test.false c.if-a-b.false)
