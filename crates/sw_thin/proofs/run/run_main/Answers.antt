use Rattle.std.proofs.Common.{◌≡◌, [], None, true, false, ap, ◌∙◌, sym, subst}
use Rattle.std.specs.Option.{is_some}
use Rattle.std.specs.List.{AllByRecursion}
use Rattle.sw_thin.specs.ProgramView.{body_of, funcs_of}
use Rattle.sw_thin.specs.Lowering.{IsTypedBody}
use Rattle.sw_thin.specs.Program.{main_func}
use Rattle.sw_thin.specs.World.{WorldState, trap_of}
use Rattle.sw_thin.proofs.TypedLemmas.{thin_typed}
use Rattle.sw_thin.proofs.RunLemmas.{has_main, untrapped, reported}
use Rattle.sw_thin.proofs.run.run_main.Goals as goal

pub new-requires : goal.new-requires
new-requires c = has_main (main_func (body_of c.args.body)) (funcs_of c.in_ok-program.program) c.in_ok-code.code c.in_ok-program.ensures c.in_ok-code.ensures

pub lower-requires : goal.lower-requires
lower-requires c = subst (λ funcs. AllByRecursion (λ f. IsTypedBody [] f.body) funcs) (sym c.in_ok-program.ensures) (thin_typed (body_of c.args.body) c.requires, tt)

pub unreachable-requires : goal.unreachable-requires
unreachable-requires c =
    let body = body_of c.args.body in
    let code = c.in_ok-code.code in
    let w = c.drive.new.self in
    let same_code : w.code ≡ code = c.in_ok-drive.ensures.code ∙ ap (λ (r : WorldState). r.code) c.in_ok-world.ensures in
    let same_main : w.main ≡ 0 = c.in_ok-drive.ensures.main ∙ ap (λ (r : WorldState). r.main) c.in_ok-world.ensures in
    let none : trap_of w.job ≡ None = untrapped body (funcs_of c.in_ok-program.program) code w c.requires c.in_ok-program.ensures c.in_ok-code.ensures same_code same_main c.in_ok-drive.ensures.there c.history.ensures.legal in
    let some : is_some (trap_of w.job) ≡ true = ap is_some (sym c.trap.ensures) ∙ sym c.is_some.ensures ∙ c.if-is_some.true in
    let both : true ≡ false = sym some ∙ ap is_some none in
    absurd (cc)

pub returns : goal.returns
returns c =
    let body = body_of c.args.body in
    let code = c.in_ok-code.code in
    let w = c.drive.new.self in
    let same_code : w.code ≡ code = c.in_ok-drive.ensures.code ∙ ap (λ (r : WorldState). r.code) c.in_ok-world.ensures in
    let same_main : w.main ≡ 0 = c.in_ok-drive.ensures.main ∙ ap (λ (r : WorldState). r.main) c.in_ok-world.ensures in
    reported body (funcs_of c.in_ok-program.program) code w c.in_ok-text.text c.requires c.in_ok-program.ensures c.in_ok-code.ensures same_code same_main c.in_ok-drive.ensures.there c.in_ok-drive.ensures.ends c.history.ensures.legal c.in_ok-text.ensures
