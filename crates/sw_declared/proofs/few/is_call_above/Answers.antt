use Rattle.std.proofs.Common.{◌≡◌, ◌&&◌, ◌∙◌, sym, ap, nat_lt, Bool, true, false, List, ℕ}
use Rattle.sw_sight.specs.InSight.{same}
use Rattle.sw_declared.specs.Members.{Label, same_labels}
use Rattle.sw_declared.specs.Declarations.{argument_labels}
use Rattle.sw_declared.specs.Spelling.{spelled}
use Rattle.sw_declared.proofs.Sought.{call_none, call_some}
use Rattle.sw_declared.proofs.few.is_call_above.Goals as goal

named : (r : Bool) (a b x : List ℕ) (ys zs ls : List Label) → r ≡ (same a x && same_labels ys ls) → a ≡ b → ys ≡ zs → r ≡ (same b x && same_labels zs ls)
named r a b x ys zs ls h p q = h ∙ ap (λ t. same t x && same_labels ys ls) p ∙ ap (λ l. same b x && same_labels l ls) q

pub returns-in-None : goal.returns-in-None
returns-in-None c = call_none c.args.item.now.name (spelled c.args.name.now (argument_labels c.args.arguments.now)) c.args.item.now.labels c.args.number c.args.item.now.is_static c.in-None.is

pub returns-then-is_named_by : goal.returns-then-is_named_by
returns-then-is_named_by c =
    let m = c.args.item.now in
    ap (nat_lt c.args.number) c.static_rank.ensures
    ∙ call_some m.name c.args.name.now m.labels c.in-Some.labels (argument_labels c.args.arguments.now) c.args.number m.is_static true c.in-Some.is (sym c.if-is_named_by.true ∙ named c.is_named_by.result c.as_bytes.result.now m.name c.args.name.now c.as_slice.result.now c.in-Some.labels (argument_labels c.args.arguments.now) c.is_named_by.ensures c.as_bytes.ensures c.as_slice.ensures)

pub returns-else-is_named_by : goal.returns-else-is_named_by
returns-else-is_named_by c =
    let m = c.args.item.now in
    c.if-is_named_by.false
    ∙ call_some m.name c.args.name.now m.labels c.in-Some.labels (argument_labels c.args.arguments.now) c.args.number m.is_static false c.in-Some.is (sym c.if-is_named_by.false ∙ named c.is_named_by.result c.as_bytes.result.now m.name c.args.name.now c.as_slice.result.now c.in-Some.labels (argument_labels c.args.arguments.now) c.is_named_by.ensures c.as_bytes.ensures c.as_slice.ensures)
