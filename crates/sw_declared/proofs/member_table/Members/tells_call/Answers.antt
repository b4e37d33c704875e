use Rattle.std.proofs.Common.{◌≤◌, ap, sym, subst, ◌∙◌, nat_lt, drop, take, length}
use Rattle.std.specs.List.{list_any}
use Rattle.sw_sight.specs.Levels.{level}
use Rattle.sw_declared.specs.Declarations.{argument_labels}
use Rattle.sw_declared.specs.Facts.{few, is_call_above, key, call_code}
use Rattle.sw_declared.specs.Spelling.{spelled}
use Rattle.sw_declared.proofs.Kept.{calls_told}
use Rattle.sw_declared.proofs.Sought.{found_first, not_first, no_more}
use Rattle.sw_declared.proofs.member_table.Members.tells_call.Goals as goal

pub returns-then-any_call_above : goal.returns-then-any_call_above
returns-then-any_call_above c =
    let p = is_call_above (spelled c.args.name.now (argument_labels c.args.arguments.now)) c.args.number in
    found_first p few c.args.self.now (ap (λ l. list_any p (take few l)) (sym (c.as_slice-items.ensures ∙ c.self.view_is)) ∙ sym (c.any_call_above.ensures ∙ ap (list_any p) c.first_few.ensures) ∙ c.if-any_call_above.true)

pub returns-then-items-le-FEW : goal.returns-then-items-le-FEW
returns-then-items-le-FEW c =
    let p = is_call_above (spelled c.args.name.now (argument_labels c.args.arguments.now)) c.args.number in
    no_more p few c.args.self.now (subst (λ l. length l ≤ few) (c.as_slice-items.ensures ∙ c.self.view_is) c.if-items-le-FEW.true)
    (ap (λ l. list_any p (take few l)) (sym (c.as_slice-items.ensures ∙ c.self.view_is)) ∙ sym (c.any_call_above.ensures ∙ ap (list_any p) c.first_few.ensures) ∙ c.if-any_call_above.false)

pub returns : goal.returns
returns c =
    let call = spelled c.args.name.now (argument_labels c.args.arguments.now) in
    let n = c.args.number in
    let p = is_call_above call n in
    not_first p few c.args.self.now (nat_lt n c.get.result)
    (ap (λ l. list_any p (take few l)) (sym (c.as_slice-items.ensures ∙ c.self.view_is)) ∙ sym (c.any_call_above.ensures ∙ ap (list_any p) c.first_few.ensures) ∙ c.if-any_call_above.false)
    (ap (nat_lt n) (c.get.ensures ∙ ap (λ t. level t c.self.inside.told) (c.as_bytes.ensures ∙ c.in_ok-key.ensures)) ∙ c.self.invariant (key call_code call) n
    ∙ calls_told call n (drop few c.self.inside.items) ∙ ap (λ l. list_any p (drop few l)) c.self.view_is)
