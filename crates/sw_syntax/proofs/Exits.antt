-- How what a function returned follows from what it called.
use Rattle.std.proofs.Common.{◌≡◌, ℕ, Bool, List, drop, Result, Err, sym, ap, ◌∙◌, subst}
use Rattle.sw_grammar.specs.Reading.{Out, got, rejected, ◌>>=◌}
use Rattle.sw_syntax.specs.Tokens.{Sighted}
use Rattle.sw_syntax.specs.declared.view.Stop.{Stop}
use Rattle.sw_syntax.specs.declared.view.Stop.TheVariants.{Refused, NoMemory}
use Rattle.sw_syntax.specs.ReadResults.{reason, Gives, GoesOn}

pub after : {A B : Type 0} (out : Out Sighted B) (o : Out Sighted A) (k : A → ℕ → List Sighted → Out Sighted B) (x : A) (c : ℕ) (r : List Sighted) → out ≡ (o >>= k) → o ≡ got x c r → out ≡ k x c r
after out o k x c r e h = e ∙ ap (λ o. o >>= k) h

pub passes : {A B : Type 0} (ts : List Sighted) (stop : Stop) (out : Out Sighted B) (o : Out Sighted A) (k : A → ℕ → List Sighted → Out Sighted B) → out ≡ (o >>= k) → Gives {A = A} ts (Err stop) o → Gives {A = B} ts (Err stop) out
passes ts (Refused at is_over_budget) out o k e h = e ∙ ap (λ o. o >>= k) h
passes ts NoMemory out o k e h = tt

pub gives_by : {A : Type 0} (ts : List Sighted) (r : Result (A × ℕ × ℕ) Stop) (out o : Out Sighted A) → out ≡ o → Gives ts r o → Gives ts r out
gives_by ts r out o e h = subst (Gives ts r) (sym e) h

-- the same of a function that goes on from a value
pub goes_passes : {A B : Type 0} (going : ℕ → A → List Sighted → Out Sighted B) (ts : List Sighted) (stop : Stop) (out o : Out Sighted B) → out ≡ o → GoesOn {A = A} going ts (Err stop) o → Gives {A = B} ts (Err stop) out
goes_passes going ts (Refused at is_over_budget) out o e h = e ∙ h
goes_passes going ts NoMemory out o e h = tt

pub gives_going : {A B C : Type 0} (going : ℕ → A → List Sighted → Out Sighted B) (ts : List Sighted) (stop : Stop) (out : Out Sighted B) (o : Out Sighted C) (k : C → ℕ → List Sighted → Out Sighted B) → out ≡ (o >>= k) → Gives {A = C} ts (Err stop) o → GoesOn {A = A} going ts (Err stop) out
gives_going going ts (Refused at is_over_budget) out o k e h = e ∙ ap (λ o. o >>= k) h
gives_going going ts NoMemory out o k e h = tt

-- a refusal, by its place and whether the budget alone was exceeded
pub refusal_gives : {A : Type 0} (ts : List Sighted) (stop : Stop) (end : ℕ) (is_over_budget : Bool) (out : Out Sighted A) → Gives {A = A} ts (Err stop) out → stop ≡ Refused end is_over_budget → out ≡ rejected (reason is_over_budget) (drop end ts)
refusal_gives {A} ts stop end is_over_budget out h e = subst (λ (s : Stop). Gives {A = A} ts (Err s) out) e h
