use Rattle.std.proofs.Common.{◌≡◌, ap, sym, ◌∙◌, subst, IfOk}
use Rattle.std.specs.Option.{option_copied, option_map}
use Rattle.sw_declared.specs.Declarations.{argument_labels}
use Rattle.sw_declared.specs.Facts.{rank_of}
use Rattle.sw_declared.specs.Members.{has_fitting}
use Rattle.sw_declared.proofs.Asked.{asked_plain, asked_call}
use Rattle.sw_declared.proofs.member_table.Members.has_fitting.Goals as goal

pub returns-in-None : goal.returns-in-None
unfolding rank_of
returns-in-None c =
    let x = c.args.name.now in
    c.tells.ensures ∙ asked_plain c.args.self.now x ∙ ap (λ o. has_fitting c.args.self.now x (option_map argument_labels (option_copied o))) (sym c.in-None.is)

pub returns-in-Some : goal.returns-in-Some
returns-in-Some c =
    let x = c.args.name.now in
    let labels = argument_labels c.in-Some.arguments.now in
    subst (λ t. IfOk c.tells_call.result (λ found. found ≡ t))
    (asked_call c.args.self.now x labels ∙ ap (λ o. has_fitting c.args.self.now x (option_map argument_labels (option_copied o))) (sym c.in-Some.is))
    c.tells_call.ensures
