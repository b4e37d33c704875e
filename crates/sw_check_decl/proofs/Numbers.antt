-- The form of a declared type, found by its number.
use Rattle.std.proofs.Common.{◌≡◌, ℕ, zero, suc, ◌-◌, ◌<◌, ◌≤◌, length, Bool, true, false, List, [], ◌∷◌, Option, Some, None, refl, sym, ap, ◌∙◌, slice_get, get_or, not, is_none, arith}
use Rattle.std.proofs.lemmas.Option.{slice_get_read, slice_get_past}
use Rattle.std.specs.Option.{option_map}
use Rattle.sw_sight.specs.InSight.{Text, same}
use Rattle.sw_declared.specs.declared.names.Form.{Form}
use Rattle.sw_declared.specs.declared.names.DeclaredType.{DeclaredType}
use Rattle.sw_declared.specs.Names.{has_type, number_of, one_later}
use Rattle.sw_type_table.specs.Written.{find_type}

form_of : Option DeclaredType → Option Form
form_of t = option_map (λ t. t.form) t

-- the form of the type of this number, from 1
numbered : List DeclaredType → ℕ → Option Form
numbered types zero = None
numbered types (suc k) = form_of (slice_get types k)

later_numbered : (t : DeclaredType) (types : List DeclaredType) (m : ℕ) → numbered types m ≡ numbered (t ∷ types) (one_later m)
unfolding numbered form_of one_later
later_numbered t types zero = refl
later_numbered t types (suc k) = refl

find_numbered : (n : ℕ) (types : List DeclaredType) (x : Text) → option_map (λ found. found.1) (find_type n types x) ≡ numbered types (number_of types x)
unfolding numbered form_of find_type number_of one_later
find_numbered n [] x = refl
find_numbered n (t ∷ types) x = by_test (same t.name x) refl (find_numbered (suc n) types x)
  where
    by_test : (b : Bool) → same t.name x ≡ b → option_map (λ found. found.1) (find_type (suc n) types x) ≡ numbered types (number_of types x) → option_map (λ found. found.1) (find_type n (t ∷ types) x) ≡ numbered (t ∷ types) (number_of (t ∷ types) x)
    by_test true e ih = rw e refl
    by_test false e ih = rw e (ih ∙ later_numbered t types (number_of types x))

pub form_zero : (n : ℕ) (types : List DeclaredType) (x : Text) → n ≡ number_of types x → n ≡ 0 → None ≡ option_map (λ found. found.1) (find_type 1 types x)
unfolding numbered
form_zero n types x h z = sym (find_numbered 1 types x ∙ ap (numbered types) (sym h ∙ z))

numbered_at : (n : ℕ) (types : List DeclaredType) → (n ≡ 0 → ⊥) → numbered types n ≡ form_of (slice_get types (n - 1))
unfolding numbered
numbered_at zero types h = absurd (h refl)
numbered_at (suc k) types h = let e : k ≡ suc k - 1 = omega arith in ap (λ i. form_of (slice_get types i)) e

form_at : (n : ℕ) (types : List DeclaredType) (x : Text) (t : Option DeclaredType) → n ≡ number_of types x → (n ≡ 0 → ⊥) → slice_get types (n - 1) ≡ t → form_of t ≡ option_map (λ found. found.1) (find_type 1 types x)
form_at n types x t h z e = ap form_of (sym e) ∙ sym (numbered_at n types z) ∙ ap (numbered types) h ∙ sym (find_numbered 1 types x)

pub form_some : (n : ℕ) (types all : List DeclaredType) (x : Text) (t : DeclaredType) → n ≡ number_of all x → (n ≡ 0 → ⊥) → types ≡ all → n - 1 < length types → t ≡ get_or types (n - 1) t
    → Some t.form ≡ option_map (λ found. found.1) (find_type 1 all x)
unfolding form_of
form_some n types all x t h z e l g =
    form_at n all x (Some t) h z (ap (λ ts. slice_get ts (n - 1)) (sym e) ∙ slice_get_read types (length types) (n - 1) t refl l g)

pub form_none : (n : ℕ) (types all : List DeclaredType) (x : Text) → n ≡ number_of all x → (n ≡ 0 → ⊥) → types ≡ all → length types ≤ n - 1 → None ≡ option_map (λ found. found.1) (find_type 1 all x)
unfolding form_of
form_none n types all x h z e l = form_at n all x None h z (ap (λ ts. slice_get ts (n - 1)) (sym e) ∙ slice_get_past types (n - 1) l)

-- no type has the name
pub none_named : (n : ℕ) (types : List DeclaredType) (x : Text) → is_none (find_type n types x) ≡ not (has_type types x)
unfolding find_type
none_named n [] x = refl
none_named n (t ∷ types) x = by_test (same t.name x) refl (none_named (suc n) types x)
  where
    by_test : (b : Bool) → same t.name x ≡ b → is_none (find_type (suc n) types x) ≡ not (has_type types x) → is_none (find_type n (t ∷ types) x) ≡ not (has_type (t ∷ types) x)
    by_test true e ih = rw e refl
    by_test false e ih = rw e ih
