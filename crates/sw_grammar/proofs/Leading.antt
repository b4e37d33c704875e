-- Each token that a part begins with, by the tables, begins a sentence of it where there is budget enough.
use Rattle.std.proofs.Common.{◌≡◌, ◌<◌, ◌≤◌, inl, inr, ℕ, zero, suc, Bool, true, List, [], ◌∷◌, None, refl, ◌∙◌, arith, ⊎_elim}
use Rattle.sw_grammar.specs.Grammar as g
use Rattle.sw_grammar.specs.Grammar.{Token, Part, Derives_by, Derives, ViablePrefix_by, ViablePrefix}
use Rattle.sw_grammar.specs.Reading.{nullable, first}
use Rattle.sw_grammar.specs.Deciding.{Decided, IsDecided, Leads}
use Rattle.sw_grammar.proofs.Starts.{or_either, or_if_either, and_halves, clash}

module _ (K V S : Type 0) (Sort : S → Type 0) (production : (s : S) → Part K V S Sort (Sort s)) (first_table : S → K → Bool) (nullable_table : S → Bool) (follow_last_table : S → K → Bool) where
  abbrev nul : {A : Type 0} → Part K V S Sort A → Bool
  nul a = nullable K V S Sort production first_table nullable_table a

  abbrev fst : {A : Type 0} → Part K V S Sort A → K → Bool
  fst a = first K V S Sort production first_table nullable_table a

  abbrev Ok : {A : Type 0} → Part K V S Sort A → Type 0
  Ok a = Decided K V S Sort production first_table nullable_table follow_last_table a

  -- the empty run is a sentence of it, in each budget
  abbrev Empty : ℕ → {A : Type 0} → Part K V S Sort A → Type 0
  Empty n {A} a = (x : A) × ((d l c : ℕ) → Derives_by K V S Sort production (Derives K V S Sort production n) a d l c c [] x)

  -- in each budget that is large enough, the run begins a sentence of it
  abbrev pub InLarge : ℕ → {A : Type 0} → Part K V S Sort A → List (Token K V) → Type 0
  InLarge n a u = (m : ℕ) × ((d l c : ℕ) → m ≤ d → m ≤ l → m ≤ c → ViablePrefix_by K V S Sort production (Derives K V S Sort production n) (ViablePrefix K V S Sort production n) a d l c u)

  abbrev pub Large : {A : Type 0} → Part K V S Sort A → List (Token K V) → Type 0
  Large a u = (n : ℕ) × InLarge n a u

  module _ (rank : S → ℕ) (width : ℕ) (fine : IsDecided K V S Sort production first_table nullable_table follow_last_table rank width) where
    abbrev Calls : {A : Type 0} → Part K V S Sort A → ℕ → Type 0
    Calls a r = Leads K V S Sort production first_table nullable_table follow_last_table rank a r

    pub leads_all : {A : Type 0} (a : Part K V S Sort A) → Calls a width
    leads_all (g.terminal f) = tt
    leads_all (g.nonterminal s) = fine.low s
    leads_all (g.both a b) = (leads_all a, λ _. leads_all b)
    leads_all (g.either a b) = (leads_all a, leads_all b)
    leads_all (g.maybe a) = leads_all a
    leads_all (g.many a) = leads_all a
    leads_all (g.then_if a goes b) = leads_all a
    leads_all (g.when f a) = leads_all a
    leads_all (g.nest a) = leads_all a
    leads_all (g.counts a) = leads_all a
    leads_all (g.limited a) = leads_all a
    leads_all (g.gives f a) = leads_all a

    empty_by : (n r : ℕ) → ((s : S) → rank s < r → nullable_table s ≡ true → Empty n (g.nonterminal s)) → {A : Type 0} (a : Part K V S Sort A) → Ok a → Calls a r → nul a ≡ true → Empty n a
    empty_by n r h (g.terminal f) ok lead is = cc
    empty_by n r h (g.nonterminal s) ok lead is = h s lead is
    empty_by n r h (g.both a b) ok lead is =
        let (ia, ib) = and_halves (nul a) (nul b) is in
        let (x, p) = empty_by n r h a ok.0 lead.0 ia in
        let (y, q) = empty_by n r h b ok.1 (lead.1 ia) ib in
        ((x, y), λ d l c. ([], [], c, refl, p d l c, q d l c))
    empty_by n r h (g.either a b) ok lead is = absurd (⊎_elim (λ i. clash (nul a) i ok.3) (λ i. clash (nul b) i ok.4) (or_either (nul a) (nul b) is))
    empty_by n r h (g.maybe a) ok lead is = (None, λ d l c. (refl, refl))
    empty_by n r h (g.many a) ok lead is = ([], λ d l c. (refl, refl))
    empty_by n r h (g.then_if a goes b) ok lead is = absurd (clash (nul a) is ok.3)
    empty_by n r h (g.when f a) ok lead is = absurd (clash (nul a) is ok.1)
    empty_by n r h (g.nest a) ok lead is = absurd (clash (nul a) is ok.1)
    empty_by n r h (g.counts a) ok lead is = absurd (clash (nul a) is ok.1)
    empty_by n r h (g.limited a) ok lead is = let (x, p) = empty_by n r h a ok lead is in (x, λ d l c. (l, p d l l, refl))
    empty_by n r h (g.gives f a) ok lead is = let (x, p) = empty_by n r h a ok lead is in (f x, λ d l c. (x, p d l c, refl))

    empty_of : (n : ℕ) (s : S) → rank s < n → nullable_table s ≡ true → Empty n (g.nonterminal s)
    empty_of zero s low is = absurd (omega (arith, low))
    empty_of (suc n) s low is = empty_by n (rank s) (λ s' lower. empty_of n s' (omega (arith, low, lower))) (production s) (fine.table s).decided (fine.leads s) ((fine.table s).empty ∙ is)

    lead_by : (n r : ℕ) → ((s : S) → rank s < r → nullable_table s ≡ true → Empty n (g.nonterminal s)) → ((s : S) → rank s < r → (t : (Token K V)) → first_table s t.sight ≡ true → InLarge n (g.nonterminal s) (t ∷ []))
        → {A : Type 0} (a : Part K V S Sort A) → Ok a → Calls a r → (t : (Token K V)) → fst a t.sight ≡ true → InLarge n a (t ∷ [])
    lead_by n r h k (g.terminal f) ok lead t is = (0, λ d l c hd hl hc. (refl, is))
    lead_by n r h k (g.nonterminal s) ok lead t is = k s lead t is
    lead_by n r h k (g.both a b) ok lead t is = ⊎_elim
        (λ i. let (m, p) = lead_by n r h k a ok.0 lead.0 t i in (m, λ d l c hd hl hc. inl (p d l c hd hl hc)))
        (λ i. let (x, q) = empty_by n r h a ok.0 lead.0 i.0 in
        let (m, p) = lead_by n r h k b ok.1 (lead.1 i.0) t i.1 in (m, λ d l c hd hl hc. inr ([], t ∷ [], x, c, refl, q d l c, p d l c hd hl hc)))
        (or_if_either (nul a) (fst a t.sight) (fst b t.sight) is)
    lead_by n r h k (g.either a b) ok lead t is = ⊎_elim
        (λ i. let (m, p) = lead_by n r h k a ok.0 lead.0 t i in (m, λ d l c hd hl hc. inl (p d l c hd hl hc)))
        (λ i. let (m, p) = lead_by n r h k b ok.1 lead.1 t i in (m, λ d l c hd hl hc. inr (p d l c hd hl hc)))
        (or_either (fst a t.sight) (fst b t.sight) is)
    lead_by n r h k (g.maybe a) ok lead t is = let (m, p) = lead_by n r h k a ok.0 lead t is in (m, λ d l c hd hl hc. inr (p d l c hd hl hc))
    lead_by n r h k (g.many a) ok lead t is = let (m, p) = lead_by n r h k a ok.0 lead t is in (m, λ d l c hd hl hc. inr ([], t ∷ [], [], c, refl, (refl, refl), p d l c hd hl hc))
    lead_by n r h k (g.then_if a goes b) ok lead t is = let (m, p) = lead_by n r h k a ok.0 lead t is in (m, λ d l c hd hl hc. inl (p d l c hd hl hc))
    lead_by n r h k (g.when f a) ok lead t is =
        let (i, j) = and_halves (f t.sight) (fst a t.sight) is in let (m, p) = lead_by n r h k a ok.0 lead t j in (m, λ d l c hd hl hc. (i, p d l c hd hl hc))
    lead_by n r h k {A} (g.nest a) ok lead t is = let (m, p) = lead_by n r h k a ok.0 lead t is in (suc m, go m p)
      where
        go : (m : ℕ) → ((d l c : ℕ) → m ≤ d → m ≤ l → m ≤ c → ViablePrefix_by K V S Sort production (Derives K V S Sort production n) (ViablePrefix K V S Sort production n) a d l c (t ∷ []))
            → (d l c : ℕ) → suc m ≤ d → suc m ≤ l → suc m ≤ c → ViablePrefix_by K V S Sort production (Derives K V S Sort production n) (ViablePrefix K V S Sort production n) (g.nest a) d l c (t ∷ [])
        go m p zero l c hd hl hc = absurd (omega (arith, hd))
        go m p (suc d) l c hd hl hc = p d l c (omega (arith, hd)) (omega (arith, hl)) (omega (arith, hc))
    lead_by n r h k {A} (g.counts a) ok lead t is = let (m, p) = lead_by n r h k a ok.0 lead t is in (suc m, go m p)
      where
        go : (m : ℕ) → ((d l c : ℕ) → m ≤ d → m ≤ l → m ≤ c → ViablePrefix_by K V S Sort production (Derives K V S Sort production n) (ViablePrefix K V S Sort production n) a d l c (t ∷ []))
            → (d l c : ℕ) → suc m ≤ d → suc m ≤ l → suc m ≤ c → ViablePrefix_by K V S Sort production (Derives K V S Sort production n) (ViablePrefix K V S Sort production n) (g.counts a) d l c (t ∷ [])
        go m p d l zero hd hl hc = absurd (omega (arith, hc))
        go m p d l (suc c) hd hl hc = p d l c (omega (arith, hd)) (omega (arith, hl)) (omega (arith, hc))
    lead_by n r h k (g.limited a) ok lead t is = let (m, p) = lead_by n r h k a ok lead t is in (m, λ d l c hd hl hc. p d l l hd hl hl)
    lead_by n r h k (g.gives f a) ok lead t is = lead_by n r h k a ok lead t is

    lead_of : (n : ℕ) (s : S) → rank s < n → (t : (Token K V)) → first_table s t.sight ≡ true → InLarge n (g.nonterminal s) (t ∷ [])
    lead_of zero s low t is = absurd (omega (arith, low))
    lead_of (suc n) s low t is =
        lead_by n (rank s) (λ s' lower. empty_of n s' (omega (arith, low, lower))) (λ s' lower. lead_of n s' (omega (arith, low, lower))) (production s) (fine.table s).decided (fine.leads s) t ((fine.table s).only t.sight is)

    -- the first token of a part begins it, where there is budget
    pub lead_part : {A : Type 0} (a : Part K V S Sort A) → Ok a → (t : (Token K V)) → fst a t.sight ≡ true → Large a (t ∷ [])
    lead_part a ok t is = (width, lead_by width width (λ s low. empty_of width s low) (λ s low. lead_of width s low) a ok (leads_all a) t is)
