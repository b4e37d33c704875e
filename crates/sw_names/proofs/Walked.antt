-- What is found in a part of a declaration.
use Rattle.std.proofs.Common.{◌≡◌, Option, List, [], Bool, ap, ◌∙◌}
use Rattle.sw_rules.specs.declared.Refusal.{Refusal}
use Rattle.sw_findings.specs.Found.{keep_all}
use Rattle.sw_declared.specs.declared.names.Member.{Member}
use Rattle.sw_declared.specs.declared.names.Names.{Names}
use Rattle.sw_scope.specs.Events.{Event}
use Rattle.sw_scope.specs.Around.{Around}
use Rattle.sw_scope.specs.Walk.{broken, run}
use Rattle.sw_scope.specs.declared.seen.Seen.{Seen}
use Rattle.sw_events.specs.Parts.{Part}
use Rattle.sw_names.specs.Walk.{part_broken}

-- what the law of walks says of what is found
abbrev pub IsKept : Type 0
IsKept = (around : Around) (events : List Event) (found : Option Refusal) → (run around events (record { sight = []; found = found })).found ≡ keep_all found (broken around events)

abbrev begun : Option Refusal → Seen
begun found = record { sight = []; found = found }

sees : (names : Names) (own : List Member) (has_instance : Bool) (around : Around) → around.names ≡ names → around.own ≡ own → around.has_instance ≡ has_instance
    → around ≡ record { names = names; own = own; has_instance = has_instance }
sees names own has_instance around e f g =
    let of : Names → List Member → Bool → Around = λ n o h. record { names = n; own = o; has_instance = h } in
    ap (λ n. of n around.own around.has_instance) e ∙ ap (λ o. of names o around.has_instance) f ∙ ap (λ h. of names own h) g

pub walked : IsKept → (names : Names) (own : List Member) (part : Part) (around : Around) (found : Option Refusal) (start end : Seen)
    → around.names ≡ names → around.own ≡ own → around.has_instance ≡ part.has_instance
    → start ≡ record { sight = []; found = found } → end ≡ run around part.events start → end.found ≡ keep_all found (part_broken names own part)
unfolding part_broken
walked kept names own part around found start end e f g s r =
    ap (λ x. x.found) (r ∙ ap (run around part.events) s ∙ ap (λ a. run a part.events (begun found)) (sees names own part.has_instance around e f g))
    ∙ kept (record { names = names; own = own; has_instance = part.has_instance }) part.events found
