-- A declared type is its heading, and what stands between its braces.
use Rattle.std.proofs.Common.{◌≡◌, List, [], ◌∷◌, ◌++◌, refl, ap}
use Rattle.sw_layout.specs.declared.gap.Gap.{Gap}
use Rattle.sw_layout.specs.declared.gap.Gap.TheVariants as gap
use Rattle.sw_layout.specs.Words.{Word}
use Rattle.sw_tree.specs.declared.decl.Modifier.{Modifier}
use Rattle.sw_tree.specs.declared.decl.Heading.{Heading}
use Rattle.sw_print.specs.Expressions.{W}
use Rattle.sw_print.specs.Statements.{each_line, in_braces}
use Rattle.sw_print.specs.Declarations.{modified, modifier_word, heading_words, nominal_words}
use Rattle.sw_print.proofs.TextLemmas.{text_rules}

modified_more : (ms : List Modifier) (x : W) (v : List Word) (g : Gap) → modified ms (λ g. x g ++ v) g ≡ modified ms x g ++ v
modified_more [] x v g = refl
modified_more (m ∷ ms) x v g = ap (λ l. modifier_word m.kind g ∷ l) (modified_more ms x v gap.Space)

pub nominal_cut : (kind : Gap → Word) (x : Heading) (items : List W) (g : Gap) → nominal_words kind x items g ≡ heading_words kind x g ++ in_braces (each_line items)
nominal_cut kind x items g = modified_more x.modifiers (λ g. heading_words kind (record x { modifiers = [] }) g) (in_braces (each_line items)) g

-- for the function that writes declarations
pub ruleset decl_rules = (text_rules, nominal_cut)
