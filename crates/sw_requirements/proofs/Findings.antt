-- What is kept where nothing is reported.
use Rattle.std.proofs.Common.{◌≡◌, Option, [], refl}
use Rattle.sw_rules.specs.declared.Refusal.{Refusal}
use Rattle.sw_findings.specs.Found.{keep_all}

pub keep_none : (kept : Option Refusal) → keep_all kept [] ≡ kept
unfolding keep_all
keep_none kept = refl
