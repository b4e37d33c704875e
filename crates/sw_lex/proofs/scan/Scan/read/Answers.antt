use Rattle.std.proofs.Common.{◌≡◌, sym, subst}
use Rattle.sw_lex.specs.declared.scan.Scan.{Scan}
use Rattle.sw_lex.specs.Lexemes.{size_of}
use Rattle.sw_lex.specs.Scanning.{Known}
use Rattle.sw_lex.proofs.ScanLemmas.{known_start, read_all}
use Rattle.sw_lex.proofs.scan.Scan.read.Goals as goal

pub read-init : goal.read-init
read-init c =
    let source = c.args.source.now in
    subst (λ (scan : Scan). Known source scan) (sym c.new-scan.ensures) (known_start source)

pub returns-then-size_of-eq0 : goal.returns-then-size_of-eq0
returns-then-size_of-eq0 c =
    let none : size_of c.next-item.result ≡ 0 = cc in
    read_all c.args.source.now c.read.scan c.next-item.result _ c.read.invariant c.next-item.ensures.value c.next-item.ensures.within none
