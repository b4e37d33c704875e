use Rattle.std.proofs.Common.{◌<◌, ◌&&◌, ◌+◌, ◌∙◌, sym, ap, length, drop, arith}
use Rattle.std.specs.Cmp.Lexicographic.{unequal}
use Rattle.sw_requirements.specs.Met.{same_type, same_types}
use Rattle.sw_requirements.proofs.Pairs.{pairs_step, pairs_end}
use Rattle.sw_requirements.proofs.lists.same_types.Goals as goal

pub returns-then-a-b : goal.returns-then-a-b
returns-then-a-b c = sym (unequal same_type c.args.a.now c.args.b.now c.if-a-b.true)

pub returns-then-not-same_type : goal.returns-then-not-same_type
returns-then-not-same_type c =
    let a = c.args.a.now in
    let b = c.args.b.now in
    let i = c.loop-i.i in
    let short : i < length b = omega arith in
    sym (c.loop-i.invariant
    ∙ pairs_step same_type a b i c.index-a-i.result c.index-b-i.result c.loop-i-test.true short c.index-a-i.is c.index-b-i.is
    ∙ ap (λ t. t && same_types (drop (i + 1) a) (drop (i + 1) b)) (sym c.same_type.ensures ∙ c.if-not-same_type.true))

pub loop-i-preserved : goal.loop-i-preserved
loop-i-preserved c =
    let a = c.args.a.now in
    let b = c.args.b.now in
    let i = c.loop-i.i in
    let short : i < length b = omega arith in
    c.loop-i.invariant
    ∙ pairs_step same_type a b i c.index-a-i.result c.index-b-i.result c.loop-i-test.true short c.index-a-i.is c.index-b-i.is
    ∙ ap (λ t. t && same_types (drop (i + 1) a) (drop (i + 1) b)) (sym c.same_type.ensures ∙ c.if-not-same_type.false)

pub returns : goal.returns
returns c =
    let a = c.args.a.now in
    let b = c.args.b.now in
    sym (c.loop-i.invariant ∙ pairs_end same_type a b c.loop-i.i c.loop-i-test.false c.if-a-b.false)
