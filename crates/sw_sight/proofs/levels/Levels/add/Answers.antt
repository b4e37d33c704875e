use Rattle.std.proofs.Common.{◌≡◌, ◌++◌, ◌∷◌, [], sym, ap, subst, ◌∙◌, is_some, None, nat_eq, List, ℕ}
use Rattle.std.specs.Map.{lookup}
use Rattle.std.specs.Cmp.Lexicographic.{pointwise}
use Rattle.indexmap.proofs.CallerLemmas.{insert_entry-new}
use Rattle.sw_sight.specs.InSight.{Text, same}
use Rattle.sw_sight.specs.Levels.{Entries, level, IsKnown}
use Rattle.sw_sight.proofs.Entries.{shown, lookup_shown, push_shown, known_push, known_pushed, level_push, none_of}
use Rattle.sw_sight.proofs.levels.Levels.add.Goals as goal

pub returns-then-contains_key-clause-known : goal.returns-then-contains_key-clause-known
unfolding IsKnown same
returns-then-contains_key-clause-known c =
    ap (λ es. is_some (lookup (same c.args.name.now) es)) (sym c.self.view_is) ∙ ap is_some (sym (lookup_shown (λ k. k.items) c.args.name.now c.self.inside.table.entries))
    ∙ sym c.contains_key.ensures ∙ c.if-contains_key.true

-- what is shown after the name is added
pushed : (c : goal.In_ok-insert) → shown (λ k. k.items) c.insert.new.self.entries ≡ c.args.self.now ++ (c.args.name.now, 0) ∷ []
pushed c =
    let none = none_of _ (sym c.contains_key.ensures ∙ c.if-contains_key.false) in
    ap (shown (λ k. k.items)) (c.in_ok-insert.ensures.entries ∙ insert_entry-new _ c.self.inside.table c.in_ok-key.key 0 (ap (λ n. lookup (λ k. pointwise nat_eq n k.items) c.self.inside.table.entries) c.in_ok-key.ensures.items ∙ none))
    ∙ push_shown (λ k. k.items) c.self.inside.table.entries c.in_ok-key.key 0
    ∙ ap (λ n. shown (λ k. k.items) c.self.inside.table.entries ++ (n, 0) ∷ []) c.in_ok-key.ensures.items
    ∙ ap (λ es. es ++ (c.args.name.now, 0) ∷ []) c.self.view_is

pub returns-clause-known : goal.returns-clause-known
returns-clause-known c = subst (IsKnown c.args.name.now) (sym (pushed c)) (known_pushed c.args.name.now c.args.self.now)

pub returns-clause-levels : goal.returns-clause-levels
returns-clause-levels c x = ap (level x) (pushed c) ∙ level_push c.args.name.now x c.args.self.now

pub returns-clause-keeps : goal.returns-clause-keeps
returns-clause-keeps c x h = subst (IsKnown x) (sym (pushed c)) (known_push c.args.name.now x c.args.self.now h)
