-- A list of words by hand, with an escape, and a string that goes on after an expression; and its text.
use Rattle.std.proofs.Common.{◌≡◌, ◌≢◌, true, false, List, [], ◌∷◌, refl, arith}
use Rattle.std.specs.Prelude.{codes}
use mathlib.Core.Logic.{inl, inr}
use Rattle.sw_lex.specs.declared.token.TokenKind.TheVariants as k
use Rattle.sw_lex.specs.Tables.{words}
use Rattle.sw_layout.specs.declared.gap.Gap.{Gap}
use Rattle.sw_layout.specs.declared.gap.Gap.TheVariants as gap
use Rattle.sw_layout.specs.Words.{Word, page_text, plain}
use Rattle.sw_layout.specs.Layouts.{IsLaidOut}
use Rattle.sw_layout.proofs.Escaping.{low_utf8}
use Rattle.sw_layout.proofs.FixedWords.{fixed_fits}

abbrev named : Gap → Word
named before = record { kind = k.Name; text = codes "x"; gap = before }

abbrev layout : List Word
layout =
    named gap.Start
    ∷ plain k.Assign gap.Space
    ∷ plain k.Minus gap.Space
    ∷ record { kind = k.Integer; text = codes "1_0"; gap = gap.Joined }
    ∷ plain k.Return gap.Line
    ∷ record { kind = k.StringStart; text = codes "a\n"; gap = gap.Space }
    ∷ named gap.Joined
    ∷ record { kind = k.StringLast; text = []; gap = gap.Joined }
    ∷ []

layout_text_is : page_text layout ≡ codes "x = -1_0\nreturn \"a\\n\\(x)\"\n"
layout_text_is = refl

-- no string is open
none_open : (g : Gap) → false ≡ true → g ≢ gap.Line
none_open g e = absurd (cc)

layout_is : IsLaidOut layout
unfolding words
layout_is = (
  inl (refl, refl, refl),
  refl,
  (none_open gap.Start, λ e. absurd (cc), λ e. refl),
  (
    fixed_fits k.Assign (omega arith),
    inr (inl refl),
    (none_open gap.Space, λ e. absurd (cc), λ e. refl),
    (
      fixed_fits k.Minus (omega arith),
      inr (inl refl),
      (none_open gap.Space, λ e. absurd (cc), λ e. refl),
      (
        (refl, refl),
        inr (inr (refl, refl)),
        (none_open gap.Joined, λ e. absurd (cc), λ e. refl),
        (
          fixed_fits k.Return (omega arith),
          inl refl,
          (none_open gap.Line, λ e. absurd (cc), λ e. refl),
          (
            low_utf8 (codes "a\n") refl,
            inr (inl refl),
            (none_open gap.Space, λ e. absurd (cc), λ e. refl),
            (
              inl (refl, refl, refl),
              inr (inr (refl, refl)),
              (λ e g. cc, λ e. absurd (cc), λ e. absurd (cc)),
              (
                low_utf8 [] refl,
                inr (inr (refl, refl)),
                (λ e g. cc, λ e. refl, λ e. absurd (cc)),
                refl,
              ),
            ),
          ),
        ),
      ),
    ),
  ),
)
