-- Kept histories: they grow event by event, their labels replay, and each event is kept in one way.
use Rattle.std.proofs.Common.{◌≡◌, ℕ, zero, suc, ◌≤◌, max, List, [], ◌∷◌, ◌++◌, Option, Some, None, refl, sym, ap, ◌∙◌, subst, arith}
use Rattle.std.specs.Prelude.{slice_get, slice_set, is_some, if◌then◌else◌}
use Rattle.std.specs.Option.{option_map}
use Rattle.sw_job.specs.declared.turn.Ask.TheVariants.{Print as AskPrint}
use Rattle.sw_job.specs.declared.turn.Exit.{Exit}
use Rattle.sw_job.specs.declared.turn.Exit.TheVariants.{Ask, Return, Trap, Slice}
use Rattle.sw_job.specs.declared.turn.Given.{Given}
use Rattle.sw_thin.specs.declared.history.Event.{Event}
use Rattle.sw_thin.specs.declared.history.Event.TheVariants.{Turn}
use Rattle.sw_thin.specs.declared.history.Label.{Label}
use Rattle.sw_thin.specs.declared.history.Label.TheVariants.{Go}
use Rattle.sw_thin.specs.declared.history.Entry.{Entry}
use Rattle.sw_thin.specs.Meaning.{TreeFrame, TreeEnds, TreeReaches}
use Rattle.sw_thin.specs.State.{Activation, MeaningState, Replays, after_exit}
use Rattle.sw_thin.specs.History.{slice_limit, job_no, KeptTurn, KeptEvent, IsKept, next_event, first_ready, IsDriven, labels_of}
use Rattle.sw_thin.proofs.Reaches.{tree_unique, tree_counted}

-- one more event
pub kept_more : (s : MeaningState) (entries : List Entry) (t : MeaningState) (e : Entry) (u : MeaningState) → IsKept s entries t → KeptEvent t e.event e.labels u → IsKept s (entries ++ e ∷ []) u
kept_more s [] t e u same kept_event = (u, subst (λ z. KeptEvent z e.event e.labels u) same kept_event, refl)
kept_more s (x ∷ entries) t e u kept kept_event = (kept.0, kept.1, kept_more kept.0 entries t e u kept.2 kept_event)

replays_more : (s : MeaningState) (a b : List Label) (t u : MeaningState) → Replays s a t → Replays t b u → Replays s (a ++ b) u
replays_more s [] b t u same rest = subst (λ z. Replays z b u) same rest
replays_more s (l ∷ a) b t u first rest = (first.0, first.1, replays_more first.0 a b t u first.2 rest)

event_replays : (s : MeaningState) (e : Event) (labels : List Label) (t : MeaningState) → KeptEvent s e labels t → Replays s labels t
event_replays s (Turn j) labels t kept_event = subst (λ l. Replays s l t) (sym kept_event.1) (t, kept_event.2.turn, refl)

-- the labels of a kept history replay
pub kept_replays : (s : MeaningState) (entries : List Entry) (t : MeaningState) → IsKept s entries t → Replays s (labels_of entries) t
kept_replays s [] t same = same
kept_replays s (e ∷ entries) t kept = replays_more s e.labels (labels_of entries) kept.0 t (event_replays s e.event e.labels kept.0 kept.1) (kept_replays kept.0 entries t kept.2)

some_same : {A : Type 0} (a b : A) → Some a ≡ Some b → a ≡ b
some_same a b e = cc

-- a counted turn is that of the slice's limit
at_limit : (given : Given) (left : List TreeFrame) (k b : ℕ) (x : Exit) (l : List TreeFrame) → TreeReaches k given left (TreeEnds x l b) → k ≤ slice_limit → (x ≡ Slice → k ≡ slice_limit) → TreeReaches slice_limit given left (TreeEnds x l b)
at_limit given left k b Slice l r within sliced = subst (λ z. TreeReaches z given left (TreeEnds Slice l b)) (sliced refl) r
at_limit given left k b (Ask a) l r within sliced = let t = tree_counted k given left r in let most = t.within in t.other slice_limit (λ x. cc) (omega arith)
at_limit given left k b (Return v) l r within sliced = let t = tree_counted k given left r in let most = t.within in t.other slice_limit (λ x. cc) (omega arith)
at_limit given left k b (Trap kind) l r within sliced = let t = tree_counted k given left r in let most = t.within in t.other slice_limit (λ x. cc) (omega arith)

exits_same : (s : MeaningState) (j : ℕ) (a a' : Activation) (x x' : Exit) (l l' : List TreeFrame) (b b' : ℕ) → a ≡ a' → x ≡ x' → l ≡ l' → b ≡ b' → after_exit s j a x l b ≡ after_exit s j a' x' l' b'
exits_same s j a a' x x' l l' b b' p q r e =
    ap (λ z. after_exit s j z x l b) p ∙ ap (λ z. after_exit s j a' z l b) q ∙ ap (λ z. after_exit s j a' x' z b) r ∙ ap (λ z. after_exit s j a' x' l' z) e

-- a job's turn is one
turn_same : (s : MeaningState) (j k k' : ℕ) (t t' : MeaningState) → KeptTurn s j k t → KeptTurn s j k' t' → (k ≡ k') × (t ≡ t')
turn_same s j k k' t t' a b =
    let activation : a.turn.activation ≡ b.turn.activation = some_same a.turn.activation b.turn.activation (some_same (Some a.turn.activation) (Some b.turn.activation) (sym a.turn.is_ready ∙ b.turn.is_ready)) in
    let other = subst (λ z. TreeReaches k' z.given z.left (TreeEnds b.turn.exit b.turn.left b.turn.begun)) (sym activation) b.turn.reaches in
    let e = tree_unique slice_limit a.turn.activation.given a.turn.activation.left
    (at_limit a.turn.activation.given a.turn.activation.left k a.turn.begun a.turn.exit a.turn.left a.turn.reaches a.within a.sliced)
    (at_limit a.turn.activation.given a.turn.activation.left k' b.turn.begun b.turn.exit b.turn.left other b.within b.sliced) in (
      a.counted ∙ ap (λ n. max 1 n) e.2 ∙ sym b.counted,
      a.turn.effect ∙ exits_same s j a.turn.activation b.turn.activation a.turn.exit b.turn.exit a.turn.left b.turn.left a.turn.begun b.turn.begun activation e.0 e.1 e.2 ∙ sym b.turn.effect,
    )

-- an event is kept in one way
event_same : (s : MeaningState) (e : Event) (a b : List Label) (t u : MeaningState) → KeptEvent s e a t → KeptEvent s e b u → (a ≡ b) × (t ≡ u)
event_same s (Turn j) a b t u x y =
    let same = turn_same s j.0 x.0 y.0 t u x.2 y.2 in
    (x.1 ∙ ap (λ k. Go j k ∷ []) same.0 ∙ sym y.1, same.1)

entry_same : (e f : Entry) → e.event ≡ f.event → e.labels ≡ f.labels → e ≡ f
entry_same e f p q = λ i. record { event = p i; labels = q i }

-- the driver's history is one
pub driven_one : (s : MeaningState) (a b : List Entry) (t u : MeaningState) → IsDriven s a t → IsDriven s b u → (b ≡ a) × (u ≡ t)
driven_one s [] [] t u x y = (refl, y.0 ∙ sym x.0)
driven_one s [] (f ∷ b) t u x y = let h : None ≡ Some f.event = sym x.1 ∙ y.0 in absurd (cc)
driven_one s (e ∷ a) [] t u x y = let h : None ≡ Some e.event = sym y.1 ∙ x.0 in absurd (cc)
driven_one s (e ∷ a) (f ∷ b) t u x y =
    let event : e.event ≡ f.event = some_same e.event f.event (sym x.0 ∙ y.0) in
    let kept_event = event_same s e.event e.labels f.labels x.1 y.1 x.2 (subst (λ z. KeptEvent s z f.labels y.1) (sym event) y.2) in
    let rest = driven_one x.1 a b t u x.3 (subst (λ z. IsDriven z b u) (sym kept_event.1) y.3) in
    let head = entry_same e f event kept_event.0 in
    let tail : b ≡ a = rest.0 in
    ((λ i. sym head i ∷ tail i), rest.1)

-- one job, which may have ended
pub record HasOneJob (s : MeaningState) : Type 0 where
  pub job : Option Activation
  pub only : s.activations ≡ job ∷ []

first_of_one : (o : Option Activation) (j : ℕ) (a : Activation) → slice_get (o ∷ []) j ≡ Some (Some a) → (j ≡ 0) × (first_ready 0 (o ∷ []) ≡ Some 0)
first_of_one None zero a h = absurd (cc)
first_of_one (Some x) zero a h = (refl, refl)
first_of_one o (suc j) a h = absurd (cc)

after_one : (s : MeaningState) (j : ℕ) (a : Activation) (x : Exit) (l : List TreeFrame) (b : ℕ) → j ≡ 0 → HasOneJob s → HasOneJob (after_exit s j a x l b)
after_one s j a x l b z one = subst (λ n. HasOneJob (after_exit s n a x l b)) (sym z) (go x)
  where
    set_one : (o p : Option Activation) (os : List (Option Activation)) → os ≡ o ∷ [] → slice_set os 0 p ≡ p ∷ []
    set_one o p os e = ap (λ z. slice_set z 0 p) e

    go : (x : Exit) → HasOneJob (after_exit s 0 a x l b)
    go (Ask (AskPrint text)) = record { job = _; only = set_one one.job _ s.activations one.only }
    go (Return v) = record { job = _; only = set_one one.job _ s.activations one.only }
    go (Trap kind) = record { job = one.job; only = one.only }
    go Slice = record { job = _; only = set_one one.job _ s.activations one.only }

event_of_one : (s : MeaningState) (e : Event) (labels : List Label) (t : MeaningState) → HasOneJob s → KeptEvent s e labels t → (next_event s ≡ Some e) × HasOneJob t
event_of_one s (Turn j) labels t one kept_event =
    let turn = kept_event.2.turn in
    let here = first_of_one one.job j.0 turn.activation (ap (λ os. slice_get os j.0) (sym one.only) ∙ turn.is_ready) in
    let j_is : job_no 0 ≡ j = ap job_no (sym here.0) in (
      ap (λ o. if is_some o then None else option_map (λ k. Turn (job_no k)) (first_ready 0 s.activations)) turn.untrapped ∙ ap (λ os. option_map (λ k. Turn (job_no k)) (first_ready 0 os)) one.only ∙ ap (option_map (λ k. Turn (job_no k))) here.1 ∙ ap (λ k. Some (Turn k)) j_is,
      subst HasOneJob (sym turn.effect) (after_one s j.0 turn.activation turn.exit turn.left turn.begun here.0 one),
    )

-- with one job each event that may come is the driver's
pub kept_driven : (s : MeaningState) (entries : List Entry) (t : MeaningState) → HasOneJob s → IsKept s entries t → next_event t ≡ None → IsDriven s entries t
kept_driven s [] t one kept end = (kept, subst (λ z. next_event z ≡ None) kept end)
kept_driven s (e ∷ entries) t one kept end =
    let r = event_of_one s e.event e.labels kept.0 one kept.1 in
    (r.0, kept.0, kept.1, kept_driven kept.0 entries t r.1 kept.2 end)
