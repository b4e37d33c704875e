use Rattle.std.proofs.Common.{◌≤◌, ap, sym, subst, ◌∙◌, nat_lt, drop, take, length}
use Rattle.std.specs.List.{list_any}
use Rattle.sw_sight.specs.Levels.{level}
use Rattle.sw_declared.specs.Facts.{few, is_above, key, question_code}
use Rattle.sw_declared.proofs.Kept.{names_told}
use Rattle.sw_declared.proofs.Sought.{found_first, not_first, no_more}
use Rattle.sw_declared.proofs.member_table.Members.tells.Goals as goal

pub returns-then-any_above : goal.returns-then-any_above
returns-then-any_above c =
    let p = is_above c.args.question c.args.name.now c.args.number in
    found_first p few c.args.self.now (ap (λ l. list_any p (take few l)) (sym (c.as_slice-items.ensures ∙ c.self.view_is)) ∙ sym (c.any_above.ensures ∙ ap (list_any p) c.first_few.ensures) ∙ c.if-any_above.true)

pub returns-then-items-le-FEW : goal.returns-then-items-le-FEW
returns-then-items-le-FEW c =
    let p = is_above c.args.question c.args.name.now c.args.number in
    no_more p few c.args.self.now (subst (λ l. length l ≤ few) (c.as_slice-items.ensures ∙ c.self.view_is) c.if-items-le-FEW.true)
    (ap (λ l. list_any p (take few l)) (sym (c.as_slice-items.ensures ∙ c.self.view_is)) ∙ sym (c.any_above.ensures ∙ ap (list_any p) c.first_few.ensures) ∙ c.if-any_above.false)

pub returns-in-Ok : goal.returns-in-Ok
returns-in-Ok c =
    let x = c.args.name.now in
    let n = c.args.number in
    let p = is_above c.args.question x n in
    not_first p few c.args.self.now (nat_lt n c.get.result)
    (ap (λ l. list_any p (take few l)) (sym (c.as_slice-items.ensures ∙ c.self.view_is)) ∙ sym (c.any_above.ensures ∙ ap (list_any p) c.first_few.ensures) ∙ c.if-any_above.false)
    (ap (nat_lt n) (c.get.ensures ∙ ap (λ t. level t c.self.inside.told) (c.as_bytes.ensures ∙ c.in-Ok.ensures)) ∙ c.self.invariant (key (question_code c.args.question) x) n
    ∙ names_told c.args.question x n (drop few c.self.inside.items) ∙ ap (λ l. list_any p (drop few l)) c.self.view_is)
