use Rattle.std.proofs.Common.{◌≡◌, ◌∙◌, ℕ, ◌+◌, ◌<◌, ◌&&◌, Bool, true, false, cond, not, List, [], take, length, get_or, unwrap_or, true≢false, refl, sym, ap, arith}
use Rattle.std.proofs.lemmas.Grind.{common_steps}
use Rattle.std.proofs.lemmas.List.Folds.{list_all_more, list_all_at}
use Rattle.std.specs.List.{list_all}
use Rattle.std.specs.Option.{option_copied}
use Rattle.std.specs.Ordering.{nat_cmp, is_eq}
use Rattle.sw_requirements.specs.Met.{is_met}
use Rattle.sw_requirements.specs.Unmet.{requirements_at}
use Rattle.sw_requirements.proofs.unmet.meets_all.Goals as goal
use Rattle.sw_requirements.proofs.unmet.meets_all.Goals.{else-is_new-via-then-is_new+else-not-meets_each, else-is_new-via-else-is_new}

one_more : {A : Type 0} (p : A → Bool) (xs : List A) (i : ℕ) (x : A) → i < length xs → list_all p (take i xs) ≡ true → p (get_or xs i x) ≡ true → list_all p (take (i + 1) xs) ≡ true
one_more p xs i x h e k = list_all_more p xs i x h ∙ ap (λ b. b && p (get_or xs i x)) e ∙ k

pub returns-then-not-meets_each : goal.returns-then-not-meets_each
returns-then-not-meets_each c =
    let met = is_met c.args.funcs.now.list (unwrap_or (option_copied c.args.members) []) in
    sym (list_all_at (λ number. list_all met (requirements_at c.args.table.now number)) c.args.protocols.now c.loop-number.number-index _ c.loop-number-test.true
    (ap (list_all met) (sym c.requirements_at.ensures) ∙ sym c.meets_each.ensures ∙ c.if-not-meets_each.true))

-- the two numbers are the same
tied : (k q : ℕ) → is_eq (nat_cmp k q) ≡ true → k ≡ q
tied k q h = grind (arith, common_steps, h)

-- what is seen now is this one, or was seen before
seen_more : (p : ℕ → Bool) (k q : ℕ) (tie was : Bool) → (tie ≡ true → k ≡ q) → p k ≡ true → (was ≡ true → p q ≡ true) → cond tie true was ≡ true → p q ≡ true
seen_more p k q true was same here before h = ap p (sym (same refl)) ∙ here
seen_more p k q false was same here before h = before h

not_new : (new was : Bool) → new ≡ not was → new ≡ false → was ≡ true
not_new new true e h = refl
not_new new false e h = absurd (true≢false (sym e ∙ h))

pub loop-number-preserved : goal.loop-number-preserved
loop-number-preserved c =
    let met = is_met c.args.funcs.now.list (unwrap_or (option_copied c.args.members) []) in
    let table = c.args.table.now in
    let numbers = c.args.protocols.now in
    let i = c.loop-number.number-index in
    let here : list_all met (requirements_at table (get_or numbers i _)) ≡ true = elim c.else-is_new.branch [
      | else-is_new-via-then-is_new+else-not-meets_each w ↦ ap (list_all met) (sym w.requirements_at.ensures) ∙ sym w.meets_each.ensures ∙ w.if-not-meets_each.false
      | else-is_new-via-else-is_new w ↦ c.loop-number.invariant.seen _ (not_new _ _ c.in_ok-is_new.ensures.added w.if-is_new.false)
    ] in
    record {
      so_far = one_more (λ number. list_all met (requirements_at table number)) numbers i _ c.loop-number-test.true c.loop-number.invariant.so_far here;
      seen = λ q h. seen_more (λ n. list_all met (requirements_at table (record { 0 = n }))) _ q _ _ (tied _ q) here (c.loop-number.invariant.seen q) (sym (c.in_ok-is_new.ensures.updates.0 q) ∙ h);
    }
