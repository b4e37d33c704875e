-- In a settled table the structs and enums that are declared `Codable` are the least set.
use Rattle.std.proofs.Common.{◌≡◌, ℕ, zero, suc, ◌<◌, Bool, true, false, ◌&&◌, ◌||◌, not, List, [], ◌∷◌, slice_get, Option, Some, None, unwrap_or, ap, refl, ◌↔◌, arith}
use borrow.Author.Tests.{ltb-true}
use Rattle.std.specs.List.{AllByRecursion}
use Rattle.std.proofs.lemmas.List.Elements.{All-from_recursion}
use Rattle.sw_value.specs.declared.ty.Base.{Base}
use Rattle.sw_value.specs.declared.ty.Base.TheVariants as base
use Rattle.sw_value.specs.declared.ty.Ty.{Ty}
use Rattle.sw_value.specs.declared.kinds.Kind.{Kind}
use Rattle.sw_value.specs.declared.kinds.Form.{Form}
use Rattle.sw_value.specs.declared.kinds.Form.TheVariants as form
use Rattle.sw_value.specs.Kinds.{has_parts, parts_in, parts_of}
use Rattle.sw_value.specs.Codable.{declares_codable, among, all_among, IsCodableClosed, IsCodable, PartsCross, is_error, ErrorPartsCross}
use Rattle.sw_value.specs.Settled.{base_below, parts_below, protocols_above, declared, holder_at, settled_at, IsSettled}

pub both_true : (x y : Bool) → (x && y) ≡ true → (x ≡ true) × (y ≡ true)
both_true true y h = (refl, h)
both_true false y h = absurd (cc)

and_true : (x y : Bool) → x ≡ true → y ≡ true → (x && y) ≡ true
and_true true y e h = h
and_true false y e h = absurd (cc)

where_first : (x y : Bool) → x ≡ true → (not x || y) ≡ true → y ≡ true
where_first true y e h = h
where_first false y e h = absurd (cc)

-- what follows from one of two tests follows where the first holds
from_first : (x y z : Bool) → x ≡ true → (not (x || y) || z) ≡ true → z ≡ true
from_first true y z e h = h
from_first false y z e h = absurd (cc)

from_second : (x y z : Bool) → y ≡ true → (not (x || y) || z) ≡ true → z ≡ true
from_second true y z e h = h
from_second false true z e h = h
from_second false false z e h = absurd (cc)

level : List ℕ → ℕ → ℕ
level levels t = unwrap_or (slice_get levels t) 0

-- the parts of what is declared `Codable` lie below it, and are declared
parts : (kinds : List Kind) (levels : List ℕ) (n : ℕ) (k : Option Kind) → settled_at kinds levels n k ≡ true → declares_codable k ≡ true
    → (parts_below levels n (parts_of k) ≡ true) × (all_among (declared kinds) (parts_of k) ≡ true)
parts kinds levels n None s d = absurd (cc)
parts kinds levels n (Some k) s d =
    let held = where_first (has_parts k.form) (holder_at kinds levels n k) (both_true (has_parts k.form) k.is_codable d).0 s in
    let one = both_true (parts_below levels n (parts_in k.form)) _ held in
    let two = both_true (protocols_above levels n k.protocols) _ one.1 in
    (one.0, from_first (declares_codable (Some k)) k.is_error (all_among (declared kinds) (parts_in k.form)) d two.1)

module _ (kinds : List Kind) (levels : List ℕ) (n : ℕ) (s : ℕ → Bool) (have : (t : ℕ) → level levels t < n → declared kinds t ≡ true → s t ≡ true) where
  -- a base below a level is in the set where it is among the declared
  base_in : (b : Base) → base_below levels n b ≡ true → among (declared kinds) b ≡ true → among s b ≡ true
  unfolding level
  base_in base.Int l h = refl
  base_in base.Bool l h = refl
  base_in base.Str l h = refl
  base_in base.Void l h = h
  base_in base.Id l h = refl
  base_in base.System l h = h
  base_in (base.Struct k) l h = have k.0 (ltb-true _ _ l) h
  base_in (base.Enum k) l h = have k.0 (ltb-true _ _ l) h
  base_in (base.Plain k) l h = h
  base_in (base.Distributed k) l h = refl
  base_in (base.Any k) l h = h
  base_in base.AnyError l h = h

  all_in : (ts : List Ty) → parts_below levels n ts ≡ true → all_among (declared kinds) ts ≡ true → all_among s ts ≡ true
  all_in [] l h = refl
  all_in (t ∷ ts) l h =
      let b = both_true (base_below levels n t.base) (parts_below levels n ts) l in
      let m = both_true (among (declared kinds) t.base) (all_among (declared kinds) ts) h in
      and_true (among s t.base) (all_among s ts) (base_in t.base b.0 m.0) (all_in ts b.1 m.1)

-- each closed set has what is declared, by its level
below : (kinds : List Kind) (levels : List ℕ) → IsSettled kinds levels → (s : ℕ → Bool) → IsCodableClosed kinds s → (n t : ℕ) → level levels t < n → declared kinds t ≡ true → s t ≡ true
unfolding level
below kinds levels settled s closed zero t l d = absurd (omega arith)
below kinds levels settled s closed (suc n) t l d =
    let p = parts kinds levels (level levels t) (slice_get kinds t) (settled t) d in
    closed t d (all_in kinds levels (level levels t) s (λ u m e. below kinds levels settled s closed n u (omega arith) e) (parts_of (slice_get kinds t)) p.0 p.1)

-- a base is in each closed set where it is among the declared, and only there
pub least : (kinds : List Kind) (levels : List ℕ) → IsSettled kinds levels → (b : Base)
    → (among (declared kinds) b ≡ true) ↔ ((s : ℕ → Bool) → IsCodableClosed kinds s → among s b ≡ true)
least kinds levels settled b = (λ h s closed. every s closed b h, λ h. h (declared kinds) (λ t d p. d))
  where
    every : (s : ℕ → Bool) → IsCodableClosed kinds s → (b : Base) → among (declared kinds) b ≡ true → among s b ≡ true
    every s closed base.Int h = refl
    every s closed base.Bool h = refl
    every s closed base.Str h = refl
    every s closed base.Void h = h
    every s closed base.Id h = refl
    every s closed base.System h = h
    every s closed (base.Struct k) h = below kinds levels settled s closed (suc (level levels k.0)) k.0 (omega arith) h
    every s closed (base.Enum k) h = below kinds levels settled s closed (suc (level levels k.0)) k.0 (omega arith) h
    every s closed (base.Plain k) h = h
    every s closed (base.Distributed k) h = refl
    every s closed (base.Any k) h = h
    every s closed base.AnyError h = h

-- what is among the declared may cross, and so may each of a list of those
each_crosses : (kinds : List Kind) (levels : List ℕ) → IsSettled kinds levels → (ts : List Ty) → all_among (declared kinds) ts ≡ true → AllByRecursion (IsCodable kinds) ts
each_crosses kinds levels settled [] h = tt
each_crosses kinds levels settled (t ∷ ts) h =
    let m = both_true (among (declared kinds) t.base) (all_among (declared kinds) ts) h in
    ((least kinds levels settled t.base).0 m.0, each_crosses kinds levels settled ts m.1)

pub parts_cross : (kinds : List Kind) (levels : List ℕ) → IsSettled kinds levels → PartsCross kinds
parts_cross kinds levels settled t member =
    let here = parts kinds levels (unwrap_or (slice_get levels t) 0) (slice_get kinds t) (settled t) (member (declared kinds) (λ u d p. d)) in
    All-from_recursion (IsCodable kinds) _ (each_crosses kinds levels settled (parts_of (slice_get kinds t)) here.1)

no_parts : (form : Form) → has_parts form ≡ false → parts_in form ≡ []
no_parts (form.Struct names types) h = absurd (cc)
no_parts (form.Enum cases) h = absurd (cc)
no_parts form.Protocol h = refl
no_parts (form.Plain names types) h = refl
no_parts (form.Distributed names types) h = refl

error_parts_in : (kinds : List Kind) (levels : List ℕ) (n : ℕ) (k : Kind) (b : Bool) → has_parts k.form ≡ b → settled_at kinds levels n (Some k) ≡ true → k.is_error ≡ true
    → all_among (declared kinds) (parts_in k.form) ≡ true
error_parts_in kinds levels n k true e s d =
    let held = where_first (has_parts k.form) (holder_at kinds levels n k) e s in
    let one = both_true (parts_below levels n (parts_in k.form)) _ held in
    let two = both_true (protocols_above levels n k.protocols) _ one.1 in
    from_second (declares_codable (Some k)) k.is_error (all_among (declared kinds) (parts_in k.form)) d two.1
error_parts_in kinds levels n k false e s d = ap (λ ts. all_among (declared kinds) ts) (no_parts k.form e)

error_parts : (kinds : List Kind) (levels : List ℕ) (n : ℕ) (k : Option Kind) → settled_at kinds levels n k ≡ true → is_error k ≡ true → all_among (declared kinds) (parts_of k) ≡ true
error_parts kinds levels n None s d = absurd (cc)
error_parts kinds levels n (Some k) s d = error_parts_in kinds levels n k (has_parts k.form) refl s d

pub error_parts_cross : (kinds : List Kind) (levels : List ℕ) → IsSettled kinds levels → ErrorPartsCross kinds
error_parts_cross kinds levels settled t error =
    let here = error_parts kinds levels (unwrap_or (slice_get levels t) 0) (slice_get kinds t) (settled t) error in
    All-from_recursion (IsCodable kinds) _ (each_crosses kinds levels settled (parts_of (slice_get kinds t)) here)
