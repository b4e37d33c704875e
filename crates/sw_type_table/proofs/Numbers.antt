-- The number of a declared type, and the type that is found by it.
use Rattle.std.proofs.Common.{◌≡◌, ℕ, zero, suc, ◌+◌, ◌-◌, ◌<◌, ◌≤◌, length, Bool, true, false, List, [], ◌∷◌, Option, Some, None, refl, sym, ap, ◌∙◌, slice_get, get_or, not, is_none, arith}
use Rattle.std.proofs.lemmas.Option.{slice_get_read, slice_get_past}
use Rattle.std.specs.Option.{option_map}
use Rattle.sw_base.specs.declared.ids.TypeNo.{TypeNo}
use Rattle.sw_sight.specs.InSight.{Text, same}
use Rattle.sw_declared.specs.declared.names.Form.{Form}
use Rattle.sw_declared.specs.declared.names.DeclaredType.{DeclaredType}
use Rattle.sw_declared.specs.Names.{has_type, number_of, one_later}
use Rattle.sw_type_table.specs.Written.{find_type}

abbrev pub found : ℕ → DeclaredType → TypeNo × Form
found n t = (record { 0 = n }, t.form)

-- the type of this number, from 1, where the first has the number n
abbrev pub numbered : ℕ → List DeclaredType → ℕ → Option (TypeNo × Form)
numbered n types zero = None
numbered n types (suc k) = option_map (found (n + k)) (slice_get types k)

later_numbered : (n : ℕ) (t : DeclaredType) (types : List DeclaredType) (m : ℕ) → numbered (suc n) types m ≡ numbered n (t ∷ types) (one_later m)
unfolding one_later
later_numbered n t types zero = refl
later_numbered n t types (suc k) = let e : suc n + k ≡ n + suc k = omega arith in ap (λ i. option_map (found i) (slice_get types k)) e

pub find_numbered : (n : ℕ) (types : List DeclaredType) (x : Text) → find_type n types x ≡ numbered n types (number_of types x)
unfolding find_type number_of one_later
find_numbered n [] x = refl
find_numbered n (t ∷ types) x = by_test (same t.name x) refl (find_numbered (suc n) types x)
  where
    by_test : (b : Bool) → same t.name x ≡ b → find_type (suc n) types x ≡ numbered (suc n) types (number_of types x) → find_type n (t ∷ types) x ≡ numbered n (t ∷ types) (number_of (t ∷ types) x)
    by_test true e ih = rw e (let e0 : n ≡ n + 0 = omega arith in ap (λ m. Some (found m t)) e0)
    by_test false e ih = rw e (ih ∙ later_numbered n t types (number_of types x))

pub named_zero : (n : ℕ) (types : List DeclaredType) (x : Text) → n ≡ number_of types x → n ≡ 0 → None ≡ find_type 1 types x
named_zero n types x h z = sym (find_numbered 1 types x ∙ ap (numbered 1 types) (sym h ∙ z))

numbered_at : (n : ℕ) (types : List DeclaredType) → (n ≡ 0 → ⊥) → numbered 1 types n ≡ option_map (found n) (slice_get types (n - 1))
numbered_at zero types h = absurd (h refl)
numbered_at (suc k) types h =
    let e : 1 + k ≡ suc k = omega arith in
    let e1 : k ≡ suc k - 1 = omega arith in
    ap (λ i. option_map (found i) (slice_get types k)) e ∙ ap (λ i. option_map (found (suc k)) (slice_get types i)) e1

named_at : (n : ℕ) (types : List DeclaredType) (x : Text) (t : Option DeclaredType) → n ≡ number_of types x → (n ≡ 0 → ⊥) → slice_get types (n - 1) ≡ t → option_map (found n) t ≡ find_type 1 types x
named_at n types x t h z e = ap (option_map (found n)) (sym e) ∙ sym (numbered_at n types z) ∙ ap (numbered 1 types) h ∙ sym (find_numbered 1 types x)

pub named_some : (n k : ℕ) (types all : List DeclaredType) (x : Text) (t : DeclaredType) → n ≡ number_of all x → (n ≡ 0 → ⊥) → k ≡ n → types ≡ all → n - 1 < length types → t ≡ get_or types (n - 1) t → Some (found k t) ≡ find_type 1 all x
named_some n k types all x t h z r e l g =
    ap (λ i. Some (found i t)) r ∙ named_at n all x (Some t) h z (ap (λ ts. slice_get ts (n - 1)) (sym e) ∙ slice_get_read types (length types) (n - 1) t refl l g)

pub named_none : (n : ℕ) (types all : List DeclaredType) (x : Text) → n ≡ number_of all x → (n ≡ 0 → ⊥) → types ≡ all → length types ≤ n - 1 → None ≡ find_type 1 all x
named_none n types all x h z e l = named_at n all x None h z (ap (λ ts. slice_get ts (n - 1)) (sym e) ∙ slice_get_past types (n - 1) l)

-- no type has the name
pub none_named : (n : ℕ) (types : List DeclaredType) (x : Text) → is_none (find_type n types x) ≡ not (has_type types x)
unfolding find_type
none_named n [] x = refl
none_named n (t ∷ types) x = by_test (same t.name x) refl (none_named (suc n) types x)
  where
    by_test : (b : Bool) → same t.name x ≡ b → is_none (find_type (suc n) types x) ≡ not (has_type types x) → is_none (find_type n (t ∷ types) x) ≡ not (has_type (t ∷ types) x)
    by_test true e ih = rw e refl
    by_test false e ih = rw e ih
