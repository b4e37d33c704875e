-- The code follows the tree: what it is to follow a step, and one lemma for each pair of helpers of both meanings.
use Rattle.std.proofs.Common.{◌≡◌, ℕ, suc, ◌+◌, List, [], ◌∷◌, ◌++◌, length, Option, Some, None, refl, sym, ap, ◌∙◌, subst, arith, Bool, true, false}
use Rattle.std.specs.Prelude.{slice_get, if◌then◌else◌}
use Rattle.sw_job.specs.declared.value.Value.{Value}
use Rattle.sw_job.specs.declared.instr.Instr.{Instr}
use Rattle.sw_job.specs.declared.instr.Instr.TheVariants.{Take}
use Rattle.sw_job.specs.declared.turn.Operand.{Operand}
use Rattle.sw_job.specs.declared.turn.Operand.TheVariants.{Value as Operation}
use Rattle.sw_job.specs.declared.turn.Frame.{Frame}
use Rattle.sw_job.specs.declared.code.FuncCode.{FuncCode}
use Rattle.sw_job.specs.Machine.{frame, instr_in, fetch, CodeNext, CodeGoes, CodeStops, CodeNoStep, on_value, on_text, on_outcome, is_take, at_take, not_take, code_give, code_act, code_act_at, CodeEnds, CodeStuck, code_then, code_run}
use Rattle.sw_job.specs.Values.{Outcome, Gives, Traps, Wrong}
use Rattle.sw_thin.specs.Meaning.{Todo, Await, Held, Var, Part, Kind, TreeFrame, Fr, TreeNext, TreeGoes, TreeStops, TreeNoStep, give, on_part, with_text, with_outcome}
use Rattle.sw_thin.specs.Lowering.{Scope}
use Rattle.sw_thin.proofs.Track.{HasAt, on_none, Track, item, scope, vals, outer, full, below, AtEnd, Stands, Simulates}

pub has_prefix : (instrs : List Instr) (p : ℕ) (a b : List Instr) → HasAt instrs p (a ++ b) → HasAt instrs p a
has_prefix instrs p [] b h = tt
has_prefix instrs p (i ∷ a) b h = (h.0, has_prefix instrs (p + 1) a b h.1)

pub has_suffix : (instrs : List Instr) (p : ℕ) (a b : List Instr) → HasAt instrs p (a ++ b) → HasAt instrs (p + length a) b
has_suffix instrs p [] b h = let e : p ≡ p + 0 = omega arith in subst (λ n. HasAt instrs n b) e h
has_suffix instrs p (i ∷ a) b h =
    let e : p + 1 + length a ≡ p + length (i ∷ a) = omega arith in
    subst (λ n. HasAt instrs n b) e (has_suffix instrs (p + 1) a b h.1)

-- the code comes from one state to another
pub record Comes (code : List FuncCode) (max : ℕ) (m : Frame) (ms : List Frame) (n : ℕ) (m' : Frame) (ms' : List Frame) (n' : ℕ) : Type 0 where
  pub by : (k : ℕ) → (j : ℕ) × (code_run code max j m ms n ≡ code_run code max k m' ms' n')

pub comes_on : {code : List FuncCode} {max : ℕ} {m1 m2 m3 : Frame} {ms1 ms2 ms3 : List Frame} {n1 n2 n3 : ℕ} → Comes code max m1 ms1 n1 m2 ms2 n2 → Comes code max m2 ms2 n2 m3 ms3 n3 → Comes code max m1 ms1 n1 m3 ms3 n3
comes_on a b = record { by = λ k. let y = b.by k in let x = a.by y.0 in (x.0, x.1 ∙ y.1) }

-- what the code does where the tree does this
abbrev pub Follows : List FuncCode → ℕ → TreeNext → Frame → List Frame → ℕ → Type 0
Follows code max (TreeGoes fs n') m ms n = (m' : Frame) × (ms' : List Frame) × Comes code max m ms n m' ms' n' × Simulates code fs m' ms'
Follows code max (TreeStops e fs n') m ms n = (ms' : List Frame) × (j : ℕ) × (code_run code max j m ms n ≡ CodeEnds e ms' n') × below code (Simulates code fs) fs ms'
Follows code max TreeNoStep m ms n = (j : ℕ) × (code_run code max j m ms n ≡ CodeStuck)

-- the same after the code came somewhere
pub follows_on : (code : List FuncCode) (max : ℕ) (next : TreeNext) {m m' : Frame} {ms ms' : List Frame} {n n' : ℕ} → Comes code max m ms n m' ms' n' → Follows code max next m' ms' n' → Follows code max next m ms n
follows_on code max (TreeGoes fs x) a w = (w.0, w.1, comes_on a w.2, w.3)
follows_on code max (TreeStops e fs x) a w = let b = a.by w.1 in (w.0, b.0, b.1 ∙ w.2, w.3)
follows_on code max TreeNoStep a w = let b = a.by w.0 in (b.0, b.1 ∙ w.1)

-- the instruction at an address
pub fetched : (code : List FuncCode) (f p : ℕ) (func : FuncCode) (i : Instr) → slice_get code f ≡ Some func → slice_get func.instrs p ≡ Some i → fetch code f p ≡ Some i
fetched code f p func i in_code at = ap (λ o. instr_in o p) in_code ∙ at

-- one instruction of a run
pub stepped : (code : List FuncCode) (max f p : ℕ) (func : FuncCode) (i : Instr) (ops : List Operand) (ms : List Frame) (n : ℕ) → slice_get code f ≡ Some func → slice_get func.instrs p ≡ Some i → (k : ℕ) → code_run code max (suc k) (frame f p ops) ms n ≡ code_then (code_act code max i f p ops ms n) (code_run code max k)
stepped code max f p func i ops ms n in_code at k = ap (λ x. code_then (code_act_at code max x f p ops ms n) (code_run code max k)) (fetched code f p func i in_code at)

-- what one instruction makes of what the tree does
abbrev pub Makes : List FuncCode → ℕ → TreeNext → CodeNext → Type 0
Makes code max next (CodeGoes m ms n) = Follows code max next m ms n
Makes code max (TreeStops e fs n') (CodeStops e' ms n) = (e ≡ e') × (n' ≡ n) × below code (Simulates code fs) fs ms
Makes code max (TreeGoes fs n') (CodeStops e' ms n) = ⊥
Makes code max TreeNoStep (CodeStops e' ms n) = ⊥
Makes code max TreeNoStep CodeNoStep = Unit {0}
Makes code max (TreeGoes fs n') CodeNoStep = ⊥
Makes code max (TreeStops e fs n') CodeNoStep = ⊥

pub makes : (code : List FuncCode) (max f p : ℕ) (func : FuncCode) (i : Instr) (ops : List Operand) (ms : List Frame) (n : ℕ) (next : TreeNext) → slice_get code f ≡ Some func → slice_get func.instrs p ≡ Some i → Makes code max next (code_act code max i f p ops ms n) → Follows code max next (frame f p ops) ms n
makes code max f p func i ops ms n next in_code at = go next (code_act code max i f p ops ms n) (λ k. stepped code max f p func i ops ms n in_code at k)
  where
    go : (next : TreeNext) (x : CodeNext) → ((k : ℕ) → code_run code max (suc k) (frame f p ops) ms n ≡ code_then x (code_run code max k)) → Makes code max next x → Follows code max next (frame f p ops) ms n
    go next (CodeGoes m' ms' n') st w = follows_on code max next (record { by = λ k. (suc k, st k) }) w
    go (TreeStops e fs n1) (CodeStops e' ms' n') st w = (ms', 1, st 0 ∙ ap (λ x. CodeEnds x ms' n') (sym w.0) ∙ ap (λ x. CodeEnds e ms' x) (sym w.1), w.2)
    go (TreeGoes fs n1) (CodeStops e' ms' n') st w = absurd w
    go TreeNoStep (CodeStops e' ms' n') st w = absurd w
    go TreeNoStep CodeNoStep st w = (1, st 0)
    go (TreeGoes fs n1) CodeNoStep st w = absurd w
    go (TreeStops e fs n1) CodeNoStep st w = absurd w

-- the code is where the tree is already
pub stays : (code : List FuncCode) (max : ℕ) (fs : List TreeFrame) (m : Frame) (ms : List Frame) (n : ℕ) → Simulates code fs m ms → Follows code max (TreeGoes fs n) m ms n
stays code max fs m ms n g = (m, ms, record { by = λ k. (k, refl) }, g)

-- what stays of a frame while it steps
pub record Base (code : List FuncCode) (k : Kind) (ts : List TreeFrame) (g : Frame → List Frame → Type 0) (f : ℕ) (ms : List Frame) : Type 0 where
  pub func : FuncCode
  pub in_code : slice_get code f ≡ Some func
  pub r : ℕ
  pub last : Scope
  pub tail : List Operand
  pub at_end : AtEnd code func.instrs k ts g f r last tail ms

abbrev pub base_of : {code : List FuncCode} {k : Kind} {h : List Held} {t : List Todo} {ts : List TreeFrame} {g : Frame → List Frame → Type 0} {f p : ℕ} {ops : List Operand} {ms : List Frame} → Stands code k h t ts g f p ops ms → Base code k ts g f ms
base_of s = record { func = s.func; in_code = s.in_code; r = s.r; last = s.last; tail = s.tail; at_end = s.at_end }

abbrev pub TrackOf : {code : List FuncCode} {k : Kind} {ts : List TreeFrame} {g : Frame → List Frame → Type 0} {f : ℕ} {ms : List Frame} → Base code k ts g f ms → ℕ → Scope → List Todo → Type 0
TrackOf {k = k} {ts = ts} b p sc t = Track b.func.instrs (outer k (full ts)) b.r b.last p sc t

pub stands_at : {code : List FuncCode} {k : Kind} {ts : List TreeFrame} {g : Frame → List Frame → Type 0} {f : ℕ} {ms : List Frame} (b : Base code k ts g f ms) (h : List Held) (t : List Todo) (p : ℕ) (ops : List Operand) → ops ≡ vals h ++ b.tail → TrackOf b p (scope h) t → Stands code k h t ts g f p ops ms
stands_at b h t p ops e tr = record { func = b.func; in_code = b.in_code; r = b.r; last = b.last; tail = b.tail; operands = e; track = tr; at_end = b.at_end }

pub some_inj : {A : Type 0} (a b : A) → Some a ≡ Some b → a ≡ b
some_inj a b e = cc

-- a track under other names for its address and its operands
pub track_as : (instrs : List Instr) (out : Scope) (r : ℕ) (last : Scope) (t : List Todo) {p q : ℕ} {sc sc1 : Scope} → Some sc1 ≡ Some sc → p ≡ q → Track instrs out r last p sc t → Track instrs out r last q sc1 t
track_as instrs out r last t {p} {q} {sc} {sc1} e f tr =
    subst (λ x. Track instrs out r last x sc1 t) f (subst (λ s. Track instrs out r last p s t) (sym (some_inj sc1 sc e)) tr)

-- the part that was evaluated last, and the newest operand
pub on_part_makes : (code : List FuncCode) (max : ℕ) (h : List Held) (tail ops : List Operand) (go : Value → List Held → TreeNext) (code_go : Value → List Operand → CodeNext) (scope_go : Scope → Option Scope) (sc1 : Scope) → ops ≡ vals h ++ tail → on_none (scope h) scope_go ≡ Some sc1 → ((v : Value) (h1 : List Held) → scope_go (scope h1) ≡ Some sc1 → Makes code max (go v h1) (code_go v (vals h1 ++ tail))) → Makes code max (on_part h go) (on_value ops code_go)
on_part_makes code max h tail ops go code_go scope_go sc1 e = subst (λ o. on_none (scope h) scope_go ≡ Some sc1 → ((v : Value) (h1 : List Held) → scope_go (scope h1) ≡ Some sc1 → Makes code max (go v h1) (code_go v (vals h1 ++ tail))) → Makes code max (on_part h go) (on_value o code_go)) (sym e) (by h)
  where
    by : (h : List Held) → on_none (scope h) scope_go ≡ Some sc1 → ((v : Value) (h1 : List Held) → scope_go (scope h1) ≡ Some sc1 → Makes code max (go v h1) (code_go v (vals h1 ++ tail))) → Makes code max (on_part h go) (on_value (vals h ++ tail) code_go)
    by [] x y = absurd (cc)
    by (Var d v ∷ h1) x y = absurd (cc)
    by (Part v ∷ h1) x y = y v h1 x

-- the part that was evaluated last, where the code looks at no operand
pub on_part_follows : (code : List FuncCode) (max : ℕ) (h : List Held) (go : Value → List Held → TreeNext) (scope_go : Scope → Option Scope) (sc1 : Scope) (m : Frame) (ms : List Frame) (n : ℕ) → on_none (scope h) scope_go ≡ Some sc1 → ((v : Value) (h1 : List Held) → h ≡ Part v ∷ h1 → scope_go (scope h1) ≡ Some sc1 → Follows code max (go v h1) m ms n) → Follows code max (on_part h go) m ms n
on_part_follows code max [] go scope_go sc1 m ms n x y = absurd (cc)
on_part_follows code max (Var d v ∷ h1) go scope_go sc1 m ms n x y = absurd (cc)
on_part_follows code max (Part v ∷ h1) go scope_go sc1 m ms n x y = y v h1 refl x

-- the text of a value
pub text_makes : (code : List FuncCode) (max : ℕ) (o : Option (List ℕ)) (go : List ℕ → TreeNext) (code_go : List ℕ → CodeNext) → ((text : List ℕ) → Makes code max (go text) (code_go text)) → Makes code max (with_text o go) (on_text o code_go)
text_makes code max None go code_go w = tt
text_makes code max (Some text) go code_go w = w text

-- what an operator gives
pub outcome_makes : (code : List FuncCode) (max : ℕ) (o : Outcome) (n : ℕ) (go : Value → TreeNext) (code_go : Value → CodeNext) → ((v : Value) → Makes code max (go v) (code_go v)) → Makes code max (with_outcome o n go) (on_outcome o n code_go)
outcome_makes code max (Gives v) n go code_go w = w v
outcome_makes code max (Traps kind) n go code_go w = (refl, refl, tt)
outcome_makes code max Wrong n go code_go w = tt

-- a value is taken where Take stands alone
at_take_is : (o : Option Instr) (next : CodeNext) → at_take o next ≡ (if is_take o then next else CodeNoStep)
at_take_is (Some Take) next = refl
at_take_is _ next = refl

not_take_is : (o : Option Instr) (next : CodeNext) → not_take o next ≡ (if is_take o then CodeNoStep else next)
not_take_is (Some Take) next = refl
not_take_is _ next = refl

pub taken_as : (o : Option Instr) (next : CodeNext) (b : Bool) → is_take o ≡ b → at_take o next ≡ (if b then next else CodeNoStep)
taken_as o next b e = at_take_is o next ∙ ap (λ z. if z then next else CodeNoStep) e

pub not_taken_as : (o : Option Instr) (next : CodeNext) (b : Bool) → is_take o ≡ b → not_take o next ≡ (if b then CodeNoStep else next)
not_taken_as o next b e = not_take_is o next ∙ ap (λ z. if z then CodeNoStep else next) e

-- where a value is awaited, the code of what is left follows it
await_track : (instrs : List Instr) (out : Scope) (p r : ℕ) (last sc : Scope) (t : List Todo) → Track instrs out r last p sc (Await ∷ t) → Track instrs out r last (p + 1) (None ∷ sc) t
await_track instrs out p r last sc t (item has a tr) = track_as instrs out r last t a refl tr

module _ (code : List FuncCode) (max : ℕ) where
  -- a frame that awaits a value is given it
  pub give_simulates : (v : Value) (k : Kind) (h : List Held) (t : List Todo) (fs : List TreeFrame) (f q : ℕ) (ops : List Operand) (ms : List Frame) (n : ℕ) → Stands code k h (Await ∷ t) fs (Simulates code fs) f q ops ms → Follows code max (TreeGoes (Fr k (Part v ∷ h) t ∷ fs) n) (frame f (q + 1) (Operation v ∷ ops)) ms n
  give_simulates v k h t fs f q ops ms n s =
      stays code max (Fr k (Part v ∷ h) t ∷ fs) (frame f (q + 1) (Operation v ∷ ops)) ms n (stands_at (base_of s) (Part v ∷ h) t (q + 1) (Operation v ∷ ops) (ap (λ o. Operation v ∷ o) s.operands) (await_track s.func.instrs (outer k (full fs)) q s.r s.last (scope h) t s.track))

  -- a value for the frame that awaits it, or for the caller of all
  pub give_makes : (v : Value) (fs : List TreeFrame) (ms : List Frame) (n : ℕ) → below code (Simulates code fs) fs ms → Makes code max (give v fs n) (code_give code v ms n)
  give_makes v [] [] n b = (refl, refl, tt)
  give_makes v [] (m ∷ ms) n b = absurd b
  give_makes v (t ∷ ts) [] n b = absurd b
  give_makes v (Fr k h (Await ∷ t) ∷ ts) (m ∷ ms) n b =
      subst (λ z. Makes code max (TreeGoes (Fr k (Part v ∷ h) t ∷ ts) n) z) (sym (taken_as (fetch code m.func.0 m.address) (CodeGoes (frame m.func.0 (m.address + 1) (Operation v ∷ m.operands)) ms n) true b.1)) (give_simulates v k h t ts m.func.0 m.address m.operands ms n b.0)
  give_makes v (Fr k h [] ∷ ts) (m ∷ ms) n b = subst (λ z. Makes code max TreeNoStep z) (sym (taken_as (fetch code m.func.0 m.address) (CodeGoes (frame m.func.0 (m.address + 1) (Operation v ∷ m.operands)) ms n) false b.1)) tt
  give_makes v (Fr k h (i ∷ t) ∷ ts) (m ∷ ms) n b = subst (λ z. Makes code max TreeNoStep z) (sym (taken_as (fetch code m.func.0 m.address) (CodeGoes (frame m.func.0 (m.address + 1) (Operation v ∷ m.operands)) ms n) false b.1)) tt
