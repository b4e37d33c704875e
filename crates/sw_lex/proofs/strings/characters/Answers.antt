use Rattle.std.proofs.Common.{◌≡◌, ◌∙◌, ap, subst, sym, true, take}
use Rattle.sw_lex.specs.declared.strings.Piece.TheVariants.{Plain}
use Rattle.sw_lex.specs.Cut.{IsValidPrefix}
use Rattle.sw_lex.specs.Characters.{valid_ahead}
use Rattle.sw_lex.specs.Matching.{GoesOn, high_len}
use Rattle.sw_lex.proofs.ValidLemmas.{high_goes_on, none_ahead, none_goes_on}
use Rattle.sw_lex.proofs.strings.characters.Goals as goal

pub returns-then-valid-eq0-clause-value : goal.returns-then-valid-eq0-clause-value
returns-then-valid-eq0-clause-value c =
    let bytes = c.args.bytes.now in
    let valid_so_far : c.args.valid_so_far ≡ true = cc in
    let none : c.valid_len-valid.result ≡ 0 = cc in
    let prefix : IsValidPrefix (take (high_len bytes) bytes) c.valid_len-valid.result = subst (λ n. IsValidPrefix (take n bytes) c.valid_len-valid.result) c.high_len.ensures.value (c.valid_len-valid.ensures) in
    none_goes_on (valid_ahead c.args.valid_so_far bytes) bytes c.requires.some c.requires.high
    (ap (λ b. valid_ahead b bytes) valid_so_far ∙ none_ahead bytes c.valid_len-valid.result c.requires.some c.requires.high none prefix)

pub returns-else-valid-eq0-clause-value : goal.returns-else-valid-eq0-clause-value
returns-else-valid-eq0-clause-value c =
    let bytes = c.args.bytes.now in
    let valid_so_far : c.args.valid_so_far ≡ true = cc in
    let prefix : IsValidPrefix (take (high_len bytes) bytes) c.valid_len-valid.result = subst (λ n. IsValidPrefix (take n bytes) c.valid_len-valid.result) c.high_len.ensures.value (c.valid_len-valid.ensures) in
    subst (λ b. GoesOn (valid_ahead b bytes) bytes (Plain c.valid_len-valid.result)) (sym valid_so_far) (high_goes_on bytes c.valid_len-valid.result prefix)
