-- What a turn reaches is one end: more fuel does not change it, and how it depends on how many statements may begin.
use Rattle.std.proofs.Common.{◌≡◌, ℕ, zero, suc, ◌+◌, ◌≤◌, max, List, [], ◌∷◌, Option, Some, None, refl, sym, ap, ◌∙◌, subst, arith, Bool, true, false}
use Rattle.std.specs.Prelude.{nat_lt, if◌then◌else◌}
use Rattle.std.proofs.lemmas.Bool.{ltb-true, ltb-false, lt-ltb}
use Rattle.sw_thin.specs.Program.{Int as IntExpr, Str as StrExpr, Var as VarExpr, Add as AddExpr}
use Rattle.sw_job.specs.declared.value.Value.{Value}
use Rattle.sw_job.specs.declared.value.Value.TheVariants.{Void}
use Rattle.sw_job.specs.declared.turn.Frame.{Frame}
use Rattle.sw_job.specs.declared.turn.Exit.{Exit}
use Rattle.sw_job.specs.declared.turn.Exit.TheVariants.{Ask, Return, Trap, Slice}
use Rattle.sw_job.specs.declared.turn.Given.{Given}
use Rattle.sw_job.specs.declared.turn.Given.TheVariants.{Nothing, Value as GivenValue}
use Rattle.sw_job.specs.declared.code.FuncCode.{FuncCode}
use Rattle.sw_job.specs.Machine.{CodeNext, CodeGoes, CodeStops, CodeNoStep, code_step, code_enter, CodeEnds, code_then, code_run, CodeReaches}
use Rattle.sw_job.specs.Values.{printed, Outcome, Gives, Traps, Wrong, sum_of}
use Rattle.sw_job.specs.Typed.{TypedStart}
use Rattle.sw_thin.specs.Meaning.{Todo, Eval, Exec, DoAdd, DoLet, DoPrint, Await, Forget, Held, Var, Part, Kind, Body, TreeFrame, Fr, TreeNext, TreeGoes, TreeStops, TreeNoStep, give, lookup, on_part, with_value, with_outcome, with_text, eval, expand, tree_act, tree_step, TreeEnds, tree_then, tree_run, tree_enter, TreeReaches}
use Rattle.sw_thin.specs.Carries.{SameTurn, Alike}

-- two runs of the tree from the same frames that end, end alike
tree_run_unique : (max steps steps' : ℕ) (fs : List TreeFrame) (n : ℕ) {e e' : Exit} {left left' : List TreeFrame} {b b' : ℕ} → tree_run max steps fs n ≡ TreeEnds e left b → tree_run max steps' fs n ≡ TreeEnds e' left' b' → (e ≡ e') × (left ≡ left') × (b ≡ b')
tree_run_unique max zero steps' fs n p q = absurd (cc)
tree_run_unique max (suc steps) zero fs n p q = absurd (cc)
tree_run_unique max (suc steps) (suc steps') fs n {e} {e'} {left} {left'} {b} {b'} p q = go (λ fs1 n1 x y. tree_run_unique max steps steps' fs1 n1 x y) (tree_step max fs n) p q
  where
    go : ((fs1 : List TreeFrame) (n1 : ℕ) → tree_run max steps fs1 n1 ≡ TreeEnds e left b → tree_run max steps' fs1 n1 ≡ TreeEnds e' left' b' → (e ≡ e') × (left ≡ left') × (b ≡ b')) → (next : TreeNext) → tree_then next (tree_run max steps) ≡ TreeEnds e left b → tree_then next (tree_run max steps') ≡ TreeEnds e' left' b' → (e ≡ e') × (left ≡ left') × (b ≡ b')
    go ih (TreeGoes fs1 n1) p q = ih fs1 n1 p q
    go ih (TreeStops x fs1 n1) p q = (cc, cc, cc)
    go ih TreeNoStep p q = absurd (cc)

-- a turn of the tree comes to one end
pub tree_unique : (max : ℕ) (given : Given) (fs : List TreeFrame) {e e' : Exit} {left left' : List TreeFrame} {n n' : ℕ} → TreeReaches max given fs (TreeEnds e left n) → TreeReaches max given fs (TreeEnds e' left' n') → (e ≡ e') × (left ≡ left') × (n ≡ n')
tree_unique max given fs {e} {e'} {left} {left'} {n} {n'} p q = go (tree_enter given fs) p.1 q.1
  where
    go : (next : TreeNext) → tree_then next (tree_run max p.0) ≡ TreeEnds e left n → tree_then next (tree_run max q.0) ≡ TreeEnds e' left' n' → (e ≡ e') × (left ≡ left') × (n ≡ n')
    go (TreeGoes fs1 n1) x y = tree_run_unique max p.0 q.0 fs1 n1 x y
    go (TreeStops z fs1 n1) x y = (cc, cc, cc)
    go TreeNoStep x y = absurd (cc)

code_run_unique : (code : List FuncCode) (max steps steps' : ℕ) (m : Frame) (ms : List Frame) (n : ℕ) {e e' : Exit} {frames frames' : List Frame} {b b' : ℕ} → code_run code max steps m ms n ≡ CodeEnds e frames b → code_run code max steps' m ms n ≡ CodeEnds e' frames' b' → (e ≡ e') × (frames ≡ frames') × (b ≡ b')
code_run_unique code max zero steps' m ms n p q = absurd (cc)
code_run_unique code max (suc steps) zero m ms n p q = absurd (cc)
code_run_unique code max (suc steps) (suc steps') m ms n {e} {e'} {frames} {frames'} {b} {b'} p q = go (λ m1 ms1 n1 x y. code_run_unique code max steps steps' m1 ms1 n1 x y) (code_step code max m ms n) p q
  where
    go : ((m1 : Frame) (ms1 : List Frame) (n1 : ℕ) → code_run code max steps m1 ms1 n1 ≡ CodeEnds e frames b → code_run code max steps' m1 ms1 n1 ≡ CodeEnds e' frames' b' → (e ≡ e') × (frames ≡ frames') × (b ≡ b')) → (next : CodeNext) → code_then next (code_run code max steps) ≡ CodeEnds e frames b → code_then next (code_run code max steps') ≡ CodeEnds e' frames' b' → (e ≡ e') × (frames ≡ frames') × (b ≡ b')
    go ih (CodeGoes m1 ms1 n1) p q = ih m1 ms1 n1 p q
    go ih (CodeStops x ms1 n1) p q = (cc, cc, cc)
    go ih CodeNoStep p q = absurd (cc)

-- a turn of the code comes to one end
pub code_unique : (code : List FuncCode) (max : ℕ) (given : Given) (ms : List Frame) {e e' : Exit} {frames frames' : List Frame} {n n' : ℕ} → CodeReaches code max given ms (CodeEnds e frames n) → CodeReaches code max given ms (CodeEnds e' frames' n') → (e ≡ e') × (frames ≡ frames') × (n ≡ n')
code_unique code max given ms {e} {e'} {frames} {frames'} {n} {n'} p q = go (code_enter code given ms) p.1 q.1
  where
    go : (next : CodeNext) → code_then next (code_run code max p.0) ≡ CodeEnds e frames n → code_then next (code_run code max q.0) ≡ CodeEnds e' frames' n' → (e ≡ e') × (frames ≡ frames') × (n ≡ n')
    go (CodeGoes m1 ms1 n1) x y = code_run_unique code max p.0 q.0 m1 ms1 n1 x y
    go (CodeStops z ms1 n1) x y = (cc, cc, cc)
    go CodeNoStep x y = absurd (cc)

-- what is alike for all numbers of turns stays so: the tree's turn reaches the exit that the code's reaches
pub alike_all : (code : List FuncCode) (max : ℕ) (given : Given) (frames : List Frame) (fs : List TreeFrame) {e : Exit} {frames' : List Frame} {b : ℕ} → ((turns : ℕ) → Alike code turns frames fs) → TypedStart code given frames → 1 ≤ max → CodeReaches code max given frames (CodeEnds e frames' b) → (left : List TreeFrame) × TreeReaches max given fs (TreeEnds e left b) × ((turns : ℕ) → Alike code turns frames' left)
alike_all code max given frames fs {e} {frames'} {b} all typed le reached =
    let at = λ (turns : ℕ). all (suc turns) given max typed le in
    let first = at 0 in
    let same = code_unique code max given frames first.in_code reached in
    let in_tree : TreeReaches max given fs (TreeEnds e first.tree_left b) = subst (λ z. TreeReaches max given fs (TreeEnds e first.tree_left z)) same.2 (subst (λ z. TreeReaches max given fs (TreeEnds z first.tree_left first.begun)) same.0 first.in_tree) in
    (first.tree_left, in_tree, λ turns. onward turns (at turns) first.tree_left in_tree)
  where
    onward : (turns : ℕ) → SameTurn code (Alike code turns) given max frames fs → (left : List TreeFrame) → TreeReaches max given fs (TreeEnds e left b) → Alike code turns frames' left
    onward turns turn left in_tree =
        let frames_same = (code_unique code max given frames turn.in_code reached).1 in
        let left_same = (tree_unique max given fs turn.in_tree in_tree).1 in
        subst (λ z. Alike code turns frames' z) left_same (subst (λ z. Alike code turns z turn.tree_left) frames_same turn.still_alike)

-- a step that begins no statement, and is no slice
abbrev pub Same : TreeNext → ℕ → Type 0
Same (TreeGoes fs n') n = n' ≡ n
Same (TreeStops e fs n') n = (n' ≡ n) × (e ≡ Slice → ⊥)
Same TreeNoStep n = Unit {0}

-- where at most max statements may begin, a step begins none or one of them; and it is the same where others may
abbrev pub Counted : ℕ → ℕ → (ℕ → TreeNext) → TreeNext → Type 0
Counted most n step (TreeGoes fs n') = (n ≤ n') × (n ≤ most → n' ≤ most) × ((other : ℕ) → n' ≤ other → step other ≡ TreeGoes fs n')
Counted most n step (TreeStops e fs n') = (n' ≡ n) × (e ≡ Slice → most ≤ n) × ((other : ℕ) → (e ≡ Slice → ⊥) → step other ≡ TreeStops e fs n')
Counted most n step TreeNoStep = Unit {0}

counted_same : (most n : ℕ) (next : TreeNext) → Same next n → Counted most n (λ other. next) next
counted_same most n (TreeGoes fs n') s = (omega arith, λ l. omega arith, λ other l. refl)
counted_same most n (TreeStops e fs n') s = (s.0, λ x. absurd (s.1 x), λ other x. refl)
counted_same most n TreeNoStep s = tt

part_same : (h : List Held) (n : ℕ) (go : Value → List Held → TreeNext) → ((v : Value) (rest : List Held) → Same (go v rest) n) → Same (on_part h go) n
part_same [] n go s = tt
part_same (Var x v ∷ h) n go s = tt
part_same (Part v ∷ h) n go s = s v h

text_same : (o : Option (List ℕ)) (n : ℕ) (go : List ℕ → TreeNext) → ((text : List ℕ) → Same (go text) n) → Same (with_text o go) n
text_same None n go s = tt
text_same (Some text) n go s = s text

value_same : (o : Option Value) (n : ℕ) (go : Value → TreeNext) → ((v : Value) → Same (go v) n) → Same (with_value o go) n
value_same None n go s = tt
value_same (Some v) n go s = s v

outcome_same : (o : Outcome) (n : ℕ) (go : Value → TreeNext) → ((v : Value) → Same (go v) n) → Same (with_outcome o n go) n
outcome_same (Gives v) n go s = s v
outcome_same (Traps kind) n go s = (refl, λ x. absurd (cc))
outcome_same Wrong n go s = tt

give_same : (v : Value) (fs : List TreeFrame) (n : ℕ) → Same (give v fs n) n
give_same v [] n = (refl, λ x. absurd (cc))
give_same v (Fr k h (Await ∷ t) ∷ fs) n = refl
give_same v (Fr k h [] ∷ fs) n = tt
give_same v (Fr k h (i ∷ t) ∷ fs) n = tt

act_counted : (most : ℕ) (i : Todo) (k : Kind) (h : List Held) (t : List Todo) (fs : List TreeFrame) (n : ℕ) → Counted most n (λ other. tree_act other i k h t fs n) (tree_act most i k h t fs n)
act_counted most (Eval (IntExpr m)) k h t fs n = counted_same most n (eval (IntExpr m) k h t fs n) refl
act_counted most (Eval (StrExpr text)) k h t fs n = counted_same most n (eval (StrExpr text) k h t fs n) refl
act_counted most (Eval (VarExpr x)) k h t fs n = counted_same most n (eval (VarExpr x) k h t fs n) (value_same (lookup x h) n _ (λ v. refl))
act_counted most (Eval (AddExpr a b)) k h t fs n = counted_same most n (eval (AddExpr a b) k h t fs n) refl
act_counted most (Exec s) k h t fs n = go (nat_lt n most) (ltb-true n most) (ltb-false n most)
  where
    go : (b : Bool) → (b ≡ true → suc n ≤ most) → (b ≡ false → most ≤ n) → Counted most n (λ other. if nat_lt n other then TreeGoes (Fr k h (expand s t) ∷ fs) (n + 1) else TreeStops Slice (Fr k h (Exec s ∷ t) ∷ fs) n) (if b then TreeGoes (Fr k h (expand s t) ∷ fs) (n + 1) else TreeStops Slice (Fr k h (Exec s ∷ t) ∷ fs) n)
    go true lt ge =
        let may = lt refl in
        (omega arith, λ l. omega arith, λ other l. ap (λ z. if z then TreeGoes (Fr k h (expand s t) ∷ fs) (n + 1) else TreeStops Slice (Fr k h (Exec s ∷ t) ∷ fs) n) (lt-ltb n other (omega arith)))
    go false lt ge = (refl, λ x. ge refl, λ other x. absurd (x refl))
act_counted most DoAdd k h t fs n = counted_same most n (tree_act most DoAdd k h t fs n) (part_same h n _ (λ y h1. part_same h1 n _ (λ x h2. outcome_same (sum_of x y) n _ (λ v. refl))))
act_counted most (DoLet x) k h t fs n = counted_same most n (tree_act most (DoLet x) k h t fs n) (part_same h n _ (λ v rest. refl))
act_counted most DoPrint k h t fs n = counted_same most n (tree_act most DoPrint k h t fs n) (part_same h n _ (λ v rest. text_same (printed v) n _ (λ text. (refl, λ x. absurd (cc)))))
act_counted most Await k h t fs n = tt
act_counted most Forget k h t fs n = counted_same most n (tree_act most Forget k h t fs n) (part_same h n _ (λ v rest. refl))

step_counted : (most : ℕ) (fs : List TreeFrame) (n : ℕ) → Counted most n (λ other. tree_step other fs n) (tree_step most fs n)
step_counted most [] n = tt
step_counted most (Fr Body h [] ∷ fs) n = counted_same most n (give Void fs n) (give_same Void fs n)
step_counted most (Fr k h (i ∷ t) ∷ fs) n = act_counted most i k h t fs n

-- a run begins no fewer statements than before it and no more than may begin; as many, where it ends by a slice;
-- and else it is the same where others may begin, if those that it begins may
record RunCounted (most n steps : ℕ) (fs : List TreeFrame) (e : Exit) (left : List TreeFrame) (b : ℕ) : Type 0 where
  pub more : n ≤ b
  pub within : b ≤ most
  pub full : e ≡ Slice → b ≡ most
  pub other : (other : ℕ) → (e ≡ Slice → ⊥) → b ≤ other → tree_run other steps fs n ≡ TreeEnds e left b

run_counted : (most steps : ℕ) (fs : List TreeFrame) (n : ℕ) {e : Exit} {left : List TreeFrame} {b : ℕ} → n ≤ most → tree_run most steps fs n ≡ TreeEnds e left b → RunCounted most n steps fs e left b
run_counted most zero fs n l p = absurd (cc)
run_counted most (suc steps) fs n {e} {left} {b} l p = go (λ fs1 n1 l1 x. run_counted most steps fs1 n1 l1 x) (tree_step most fs n) (step_counted most fs n) p
  where
    go : ((fs1 : List TreeFrame) (n1 : ℕ) → n1 ≤ most → tree_run most steps fs1 n1 ≡ TreeEnds e left b → RunCounted most n1 steps fs1 e left b) → (next : TreeNext) → Counted most n (λ other. tree_step other fs n) next → tree_then next (tree_run most steps) ≡ TreeEnds e left b → RunCounted most n (suc steps) fs e left b
    go ih (TreeGoes fs1 n1) s p =
        let run = ih fs1 n1 (s.1 l) p in
        let a = run.more in
        let c = s.0 in
        record {
          more = omega arith;
          within = run.within;
          full = run.full;
          other = λ other no le. ap (λ z. tree_then z (tree_run other steps)) (s.2 other (omega arith)) ∙ run.other other no le;
        }
    go ih (TreeStops x fs1 n1) s p =
        let ex : x ≡ e = cc in
        let ends : n1 ≡ b = cc in
        let eq = s.0 in
        record {
          more = omega arith;
          within = omega arith;
          full = λ y. let full = s.1 (ex ∙ y) in omega arith;
          other = λ other no le. ap (λ z. tree_then z (tree_run other steps)) (s.2 other (λ y. no (sym ex ∙ y))) ∙ p;
        }
    go ih TreeNoStep s p = absurd (cc)

enter_same : (given : Given) (fs : List TreeFrame) → Same (tree_enter given fs) 0
enter_same given [] = tt
enter_same Nothing (Fr k h (Await ∷ t) ∷ fs) = tt
enter_same Nothing (Fr k h [] ∷ fs) = refl
enter_same Nothing (Fr k h (i ∷ t) ∷ fs) = refl
enter_same (GivenValue v) (f ∷ fs) = give_same v (f ∷ fs) 0

-- what a turn says of how many statements may begin
pub record TurnCounted (most : ℕ) (given : Given) (fs : List TreeFrame) (e : Exit) (left : List TreeFrame) (b : ℕ) : Type 0 where
  -- it begins no more
  pub within : b ≤ most
  -- it begins as many, where it ends by a slice
  pub full : e ≡ Slice → b ≡ most
  -- else it is the same where as many as it begins may begin
  pub other : (other : ℕ) → (e ≡ Slice → ⊥) → b ≤ other → TreeReaches other given fs (TreeEnds e left b)

pub tree_counted : (most : ℕ) (given : Given) (fs : List TreeFrame) {e : Exit} {left : List TreeFrame} {b : ℕ} → TreeReaches most given fs (TreeEnds e left b) → TurnCounted most given fs e left b
tree_counted most given fs {e} {left} {b} p = go (tree_enter given fs) refl (enter_same given fs) p.1
  where
    go : (next : TreeNext) → tree_enter given fs ≡ next → Same next 0 → tree_then next (tree_run most p.0) ≡ TreeEnds e left b → TurnCounted most given fs e left b
    go (TreeGoes fs1 n1) is s x =
        let run = run_counted most p.0 fs1 n1 (omega arith) x in
        record { within = run.within; full = run.full; other = λ other no le. (p.0, ap (λ z. tree_then z (tree_run other p.0)) is ∙ run.other other no le) }
    go (TreeStops y fs1 n1) is s x =
        let ex : y ≡ e = cc in
        let ends : n1 ≡ b = cc in
        let eq = s.0 in
        record { within = omega arith; full = λ z. absurd (s.1 (ex ∙ z)); other = λ other no le. (0, ap (λ z. tree_then z (tree_run other 0)) is ∙ x) }
    go TreeNoStep is s x = absurd (cc)

-- a turn is the same where as many statements may begin as it begins, but one at the least
pub turn_counted : (most : ℕ) (given : Given) (fs : List TreeFrame) {e : Exit} {left : List TreeFrame} {b : ℕ} → 1 ≤ most → TreeReaches most given fs (TreeEnds e left b) → TreeReaches (max 1 b) given fs (TreeEnds e left b) × (e ≡ Slice → max 1 b ≡ most) × (max 1 b ≤ most)
turn_counted most given fs {e} {left} {b} l p = go e (tree_counted most given fs p) p
  where
    go : (e : Exit) → TurnCounted most given fs e left b → TreeReaches most given fs (TreeEnds e left b) → TreeReaches (max 1 b) given fs (TreeEnds e left b) × (e ≡ Slice → max 1 b ≡ most) × (max 1 b ≤ most)
    go Slice t p =
        let full = t.full refl in
        let same : max 1 b ≡ most = omega arith in
        (subst (λ z. TreeReaches z given fs (TreeEnds Slice left b)) (sym same) p, λ x. same, omega arith)
    go (Ask a) t p =
        let within = t.within in
        (t.other (max 1 b) (λ x. absurd (cc)) (omega arith), λ x. absurd (cc), omega arith)
    go (Return v) t p =
        let within = t.within in
        (t.other (max 1 b) (λ x. absurd (cc)) (omega arith), λ x. absurd (cc), omega arith)
    go (Trap kind) t p =
        let within = t.within in
        (t.other (max 1 b) (λ x. absurd (cc)) (omega arith), λ x. absurd (cc), omega arith)
