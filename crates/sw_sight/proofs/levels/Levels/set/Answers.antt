use Rattle.std.proofs.Common.{◌≡◌, ◌++◌, ◌∷◌, [], sym, ap, subst, ◌∙◌, is_some, None, cond, true, false, true≢false}
use Rattle.std.specs.Option.{option_copied_mut}
use Rattle.std.specs.Map.{lookup, set_value}
use Rattle.sw_sight.specs.InSight.{Text, same}
use Rattle.sw_sight.specs.Levels.{Entries, level, IsKnown}
use Rattle.sw_sight.proofs.Entries.{shown, lookup_shown, set_shown, level_set, known_set}
use Rattle.sw_sight.proofs.levels.Levels.set.Goals as goal
use Rattle.sw_sight.proofs.levels.Levels.set.Goals.{in-Some, in-None}

-- what is shown after the number is set
put : (c : goal.Joined-get_mut) → shown (λ k. k.items) (c.get_mut.follows.lender c.args.number).entries ≡ set_value (same c.args.name.now) c.args.self.now c.args.number
unfolding same
put c =
    ap (shown (λ k. k.items)) (c.get_mut.follows.holds c.args.number).0
    ∙ set_shown (λ k. k.items) c.args.name.now c.self.inside.table.entries c.args.number
    ∙ ap (λ es. set_value (same c.args.name.now) es c.args.number) c.self.view_is

kept : (c : goal.Joined-get_mut) → shown (λ k. k.items) c.get_mut.follows.lender-at-none.entries ≡ c.args.self.now
kept c = ap (λ t. shown (λ k. k.items) t.entries) c.get_mut.follows.holds-at-none ∙ c.self.view_is

pub returns-clause-keeps : goal.returns-clause-keeps
returns-clause-keeps c x k = elim c.match-get_mut.branch [
  | in-Some w ↦ subst (IsKnown x) (sym (ap (λ i. shown (λ k. k.items) i.table.entries) w.self-inside-is ∙ put c)) (known_set c.args.name.now x c.args.number c.args.self.now k)
  | in-None w ↦ subst (IsKnown x) (sym (ap (λ i. shown (λ k. k.items) i.table.entries) w.self-inside-is ∙ kept c)) k
]

absent : (c : goal.Joined-get_mut) → c.get_mut.result ≡ None → IsKnown c.args.name.now c.args.self.now → ⊥
unfolding IsKnown same
absent c e k =
    let h : false ≡ true =
    sym (ap (λ o. is_some (option_copied_mut o)) e) ∙ ap is_some (c.get_mut.follows.claims.0 ∙ lookup_shown (λ k. k.items) c.args.name.now c.self.inside.table.entries)
    ∙ ap (λ es. is_some (lookup (same c.args.name.now) es)) c.self.view_is ∙ k in
    true≢false (sym h)

pub returns-clause-levels : goal.returns-clause-levels
returns-clause-levels c k x = elim c.match-get_mut.branch [
  | in-Some w ↦ ap (level x) (ap (λ i. shown (λ k. k.items) i.table.entries) w.self-inside-is ∙ put c) ∙ level_set c.args.name.now x c.args.number c.args.self.now k
  | in-None w ↦ absurd (absent c w.in-None.is k)
]
