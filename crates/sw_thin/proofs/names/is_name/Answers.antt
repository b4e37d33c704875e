use Rattle.std.proofs.Common.{◌≡◌, ◌++◌, length, get_or, ap, ◌∙◌, arith}
use Rattle.std.specs.Prelude.{codes}
use Rattle.std.proofs.lemmas.Bool.Decides.{Decides-ltb}
use Rattle.sw_thin.proofs.NameLemmas.{stripped, name_short, name_found, test_fails, empty_is, not_empty_is}
use Rattle.sw_thin.proofs.names.is_name.Goals as goal
use Rattle.sw_thin.proofs.names.is_name.Goals.{then-not-is_empty-via-then-not-is_empty, then-not-is_empty-via-else-not-is_empty+then-is_empty, then-not-is_empty-via-else-not-is_empty+else-is_empty+then-digits-gt-MOST_DIGITS, else-digits-eq48-via-then-digits-eq48+else-digits-gt1, else-digits-eq48-via-else-digits-eq48}

pub returns-then-not-is_empty : goal.returns-then-not-is_empty
returns-then-not-is_empty c =
    let prefix = c.digits_prefix.result in
    let whole = stripped c.args.what.now (codes "v") c.in-Some.digits c.in-Some.ensures.cases ∙ ap (λ t. codes "v" ++ t) c.digits_prefix.ensures.whole in
    test_fails (λ is.
    let n = name_short c.args.what.now prefix.0.now prefix.1.now c.args.lets c.requires.small c.digits_prefix.ensures.digits c.digits_prefix.ensures.stops whole is in
    elim c.then-not-is_empty.branch [
      | then-not-is_empty-via-then-not-is_empty w ↦ let h = not_empty_is (length prefix.1.now) w.if-not-is_empty.ensures in omega (arith, n.0, h)
      | then-not-is_empty-via-else-not-is_empty+then-is_empty w ↦ let h = empty_is (length prefix.0.now) w.if-is_empty.ensures in omega (arith, n.1, h)
      | then-not-is_empty-via-else-not-is_empty+else-is_empty+then-digits-gt-MOST_DIGITS w ↦ omega (arith, n.2, w.if-digits-gt-MOST_DIGITS.true)
    ])

pub returns-then-digits-gt1 : goal.returns-then-digits-gt1
returns-then-digits-gt1 c =
    let prefix = c.digits_prefix.result in
    let whole = stripped c.args.what.now (codes "v") c.in-Some.digits c.in-Some.ensures.cases ∙ ap (λ t. codes "v" ++ t) c.digits_prefix.ensures.whole in
    test_fails (λ is.
    let n = name_short c.args.what.now prefix.0.now prefix.1.now c.args.lets c.requires.small c.digits_prefix.ensures.digits c.digits_prefix.ensures.stops whole is in
    let first = c.if-digits-eq48.true in
    let one = n.4 first in
    omega (arith, one, c.if-digits-gt1.true))

pub returns : goal.returns
returns c =
    let prefix = c.digits_prefix.result in
    let whole = stripped c.args.what.now (codes "v") c.in-Some.digits c.in-Some.ensures.cases ∙ ap (λ t. codes "v" ++ t) c.digits_prefix.ensures.whole in
    let empty = empty_is (length prefix.1.now) c.if-not-is_empty.ensures in
    let some = not_empty_is (length prefix.0.now) c.if-is_empty.ensures in
    let plain : get_or prefix.0.now 0 0 ≡ 48 → length prefix.0.now ≡ 1 = λ first. elim c.else-digits-eq48.branch [
      | else-digits-eq48-via-then-digits-eq48+else-digits-gt1 w ↦ omega (arith, some, w.if-digits-gt1.false)
      | else-digits-eq48-via-else-digits-eq48 w ↦ absurd (w.if-digits-eq48.false first)
    ] in
    let less = Decides-ltb c.number_of.result c.args.lets in (
      λ h. name_found c.args.what.now prefix.0.now prefix.1.now c.args.lets c.requires.small c.digits_prefix.ensures.digits empty whole some plain (omega (arith, less.0 h, c.number_of.ensures)),
      λ is.
          let n = name_short c.args.what.now prefix.0.now prefix.1.now c.args.lets c.requires.small c.digits_prefix.ensures.digits c.digits_prefix.ensures.stops whole is in
          less.1 (omega (arith, n.3, c.number_of.ensures)),
    )
