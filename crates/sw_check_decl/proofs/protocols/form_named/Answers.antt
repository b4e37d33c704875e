use Rattle.sw_check_decl.proofs.Numbers.{form_zero, form_some, form_none}
use Rattle.sw_check_decl.proofs.protocols.form_named.Goals as goal

pub returns-then-number-eq0 : goal.returns-then-number-eq0
returns-then-number-eq0 c = form_zero c.number_of-number.result c.args.names.now.types c.args.name.now c.number_of-number.ensures c.if-number-eq0.true

pub returns-in-Some : goal.returns-in-Some
returns-in-Some c =
    form_some c.number_of-number.result c.as_slice.result.now c.args.names.now.types c.args.name.now c.in-Some.found.now
    c.number_of-number.ensures c.if-number-eq0.false c.as_slice.ensures c.in-Some.ensures.lookup.3.0 c.in-Some.ensures.lookup.1

pub returns-in-None : goal.returns-in-None
returns-in-None c =
    form_none c.number_of-number.result c.as_slice.result.now c.args.names.now.types c.args.name.now
    c.number_of-number.ensures c.if-number-eq0.false c.as_slice.ensures c.in-None.ensures.lookup.3
