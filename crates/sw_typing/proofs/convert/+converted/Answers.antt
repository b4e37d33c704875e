use Rattle.std.proofs.Common.{Some, sym, ◌∙◌}
use Rattle.sw_typing.specs.Conversions.{typed}
use Rattle.sw_typing.proofs.Kept.{same_is_kept}
use Rattle.sw_typing.proofs.convert.+converted.Goals as goal

pub returns-then-is_type : goal.returns-then-is_type
returns-then-is_type t c =
    let a = c.args in
    sym (same_is_kept a.t a.marks.now a.base (typed (Some a.t) a.first a.form) (sym c.is_type.ensures ∙ c.if-is_type.true))
