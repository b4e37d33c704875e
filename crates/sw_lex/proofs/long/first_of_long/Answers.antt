use Rattle.std.proofs.Common.{◌≡◌, ◌<◌, false, ap, sym, ◌∙◌, subst, arith}
use Rattle.sw_rules.specs.declared.Rule.{Rule}
use Rattle.sw_lex.specs.declared.long.Prefix.{Prefix}
use Rattle.sw_lex.specs.Cut.{is_inside}
use Rattle.sw_lex.specs.FirstBroken.{is_too_large}
use Rattle.sw_lex.specs.Lexemes.{size_of}
use Rattle.sw_lex.specs.Long.{IsFirstAtStart, Known, next}
use Rattle.sw_lex.proofs.LongLemmas.{first_large, first_long, first_stop, known_start}
use Rattle.sw_lex.proofs.long.first_of_long.Goals as goal

pub next-first-requires : goal.next-first-requires
next-first-requires c = let source = c.args.source.now in subst (λ (prefix : Prefix). Known source prefix) (sym c.new-prefix.ensures) (known_start source)

pub returns-then-is_too_large : goal.returns-then-is_too_large
returns-then-is_too_large c =
    let source = c.args.source.now in
    let first = c.next-first.ensures.value ∙ ap (λ (prefix : Prefix). next prefix source) c.new-prefix.ensures in
    first_large source (λ bad. let badly = c.starts_badly.ensures.valid bad in cc) (ap (is_too_large source) (sym first) ∙ sym c.is_too_large.ensures ∙ c.if-is_too_large.true)

pub prefix-init : goal.prefix-init
prefix-init c =
    let source = c.args.source.now in record {
      known = subst (λ (prefix : Prefix). Known source prefix) (sym c.new-prefix.ensures) (known_start source);
      start = λ outside. ap (λ (prefix : Prefix). prefix.at) c.new-prefix.ensures;
      next = c.next-first.ensures.value;
      within = c.next-first.ensures.within;
    }

pub returns-then-size_of-eq0 : goal.returns-then-size_of-eq0
returns-then-size_of-eq0 c =
    let source = c.args.source.now in
    let so_far = c.prefix.invariant in
    let none : size_of c.prefix.item ≡ 0 = cc in
    subst (λ (rule : Rule). IsFirstAtStart source rule) (sym c.rule_of_stop.ensures)
    (first_stop source c.prefix.prefix c.prefix.item _ (λ bad. let badly = c.starts_badly.ensures.valid bad in cc) (omega (arith, c.requires)) so_far.known so_far.start so_far.next so_far.within none)

pub returns-then-not-is_inside : goal.returns-then-not-is_inside
returns-then-not-is_inside c =
    let source = c.args.source.now in
    let first = c.next-first.ensures.value ∙ ap (λ (prefix : Prefix). next prefix source) c.new-prefix.ensures in
    let outside : is_inside c.advance.new.self.opens ≡ false = cc in
    let some : 0 < c.advance.new.self.at = omega (arith, c.in_ok-advance.ensures.at, c.size_of.ensures.value, c.if-size_of-eq0.false) in
    first_long source c.advance.new.self (λ bad. let badly = c.starts_badly.ensures.valid bad in cc) c.requires c.in_ok-advance.ensures.known some outside
    (ap (is_too_large source) (sym first) ∙ sym c.is_too_large.ensures ∙ c.if-is_too_large.false)
