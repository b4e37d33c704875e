use Rattle.std.proofs.Common.{◌≡◌, ◌+◌, [], ◌∷◌, Some, ap, sym, ◌∙◌, length, refl, arith, take}
use Rattle.std.specs.List.{flat_map}
use Rattle.sw_check_decl.specs.Counts.{member_place, members_in}
use Rattle.sw_check_decl.proofs.Counting.{place_in, place_none}
use Rattle.sw_check_decl.proofs.counts.member_too_many.Goals as goal

pub returns-then-left-eq0 : goal.returns-then-left-eq0
returns-then-left-eq0 c =
    let p : 0 + length (flat_map members_in (take c.loop-item.item-index c.args.items.now)) ≡ 255 = omega (arith, c.loop-item.invariant, c.if-left-eq0.true) in
    ap Some c.member_place.ensures
    ∙ place_in member_place members_in c.args.items.now c.loop-item.item-index c.item-item.result 0 255 (c.in-Member.member ∷ []) c.in-Member.member
    c.loop-item-test.true c.item-item.is p (ap members_in (sym c.in-Member.is)) (omega arith) refl

pub returns : goal.returns
returns c = place_none member_place members_in c.args.items.now c.loop-item.item-index c.loop-item.left 255 c.loop-item.invariant c.loop-item-test.false
