-- What a function that reads answers, in the reader's terms.
use Rattle.std.specs.Prelude.{◌≡◌, ◌≤◌, ◌<◌, Bool, true, false, ℕ, List, [], ◌∷◌, drop, Option, Some, None, Result, Ok, Err}
use Rattle.sw_lex.specs.declared.tokens.TokenRef.{TokenRef}
use Rattle.sw_grammar.specs.Reading.{Reason, over_budget, unexpected, Out, got, rejected}
use Rattle.sw_syntax.specs.declared.class.Sight.{Sight}
use Rattle.sw_syntax.specs.declared.view.Stop.{Stop}
use Rattle.sw_syntax.specs.declared.view.Stop.TheVariants.{Refused, NoMemory}
use Rattle.sw_syntax.specs.Tokens.{Sighted, Face}
use Rattle.sw_syntax.specs.Sights.{lent_face}

-- what is seen of the first token
abbrev pub first_sight : List Sighted → Option Sight
first_sight [] = None
first_sight (t ∷ ts) = Some t.sight

abbrev pub reason : Bool → Reason
reason true = over_budget
reason false = unexpected

-- What a function returned for the tokens from one of them on, a value with the place after it and how many more may be
-- counted, is what reading gives, unless memory ran out.
abbrev pub Gives : {A : Type 0} → List Sighted → Result (A × ℕ × ℕ) Stop → Out Sighted A → Type 0
Gives ts (Ok found) out = out ≡ got (found.0) (found.2) (drop (found.1) ts)
Gives ts (Err (Refused at is_over_budget)) out = out ≡ rejected (reason is_over_budget) (drop at ts)
Gives ts (Err NoMemory) out = Unit {0}

-- a value takes at least one token; it may take none; and its end lies in the tokens
abbrev pub Moves : {A : Type 0} → ℕ → Result (A × ℕ × ℕ) Stop → Type 0
Moves at (Ok found) = at < found.1
Moves at (Err stop) = Unit {0}

abbrev pub Stays : {A : Type 0} → ℕ → Result (A × ℕ × ℕ) Stop → Type 0
Stays at (Ok found) = at ≤ found.1
Stays at (Err stop) = Unit {0}

abbrev pub Inside : {A : Type 0} → ℕ → Result (A × ℕ × ℕ) Stop → Type 0
Inside n (Ok found) = found.1 ≤ n
Inside n (Err stop) = Unit {0}

-- a token that was met, as its face, where so many more may be counted
abbrev pub met : ℕ → Result (TokenRef × ℕ) Stop → Result (Face × ℕ × ℕ) Stop
met left (Ok found) = Ok (lent_face (found.0), found.1, left)
met left (Err stop) = Err stop

-- The same of a function that takes what is read further: where it returned a value, the rest is read from there.
abbrev pub GoesOn : {A B : Type 0} → (ℕ → A → List Sighted → Out Sighted B) → List Sighted → Result (A × ℕ × ℕ) Stop → Out Sighted B → Type 0
GoesOn going ts (Ok found) out = out ≡ going (found.2) (found.0) (drop (found.1) ts)
GoesOn going ts (Err (Refused at is_over_budget)) out = out ≡ rejected (reason is_over_budget) (drop at ts)
GoesOn going ts (Err NoMemory) out = Unit {0}
