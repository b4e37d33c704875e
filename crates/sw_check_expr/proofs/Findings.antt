-- Reports that follow one another are one report.
use Rattle.std.proofs.Common.{◌≡◌, List, [], ◌∷◌, ◌++◌, refl, Option}
use Rattle.sw_rules.specs.declared.Refusal.{Refusal}
use Rattle.sw_findings.specs.Found.{keep, keep_all}

pub keep_append : (found : Option Refusal) (xs ys : List Refusal) → keep_all found (xs ++ ys) ≡ keep_all (keep_all found xs) ys
unfolding keep_all
keep_append found [] ys = refl
keep_append found (x ∷ xs) ys = keep_append (keep found x) xs ys

pub keep_none : (found : Option Refusal) → keep_all found [] ≡ found
unfolding keep_all
keep_none found = refl
