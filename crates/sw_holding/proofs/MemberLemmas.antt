-- Which types may cross between nodes, as numbers that lead to numbers.
use Rattle.std.proofs.Common.{◌≡◌, ℕ, Bool, true, false, ◌&&◌, List, [], ◌∷◌, ◌++◌, length, map, refl, sym, ap, ◌∙◌, subst, Option, Some, None, ◌↔◌}
use mathlib.Core.Logic.{inl, inr}
use Rattle.std.specs.List.{slice_get, Contains, flat_map, list_all}
use Rattle.sw_value.specs.declared.ty.Base.{Base}
use Rattle.sw_value.specs.declared.ty.Base.TheVariants as base
use Rattle.sw_value.specs.declared.ty.Ty.{Ty}
use Rattle.sw_value.specs.declared.kinds.Kind.{Kind}
use Rattle.sw_value.specs.Kinds.{has_parts, parts_of}
use Rattle.sw_value.specs.Codable.{declares_codable, among, all_among, IsCodableClosed}
use Rattle.sw_graph.specs.Graphs.{Graph, successors}
use Rattle.sw_graph.specs.Least.{IsClosed, IsLeast}
use Rattle.sw_holding.specs.Edges.{bases_of, bases_in, value_number, could_be, could_cross}
use Rattle.sw_holding.specs.Members.{marked, AreMembers}
use Rattle.sw_holding.proofs.Lists.{true≢, both_true, and_true, Has, has_from, contains_from, entry_map}

-- ---- parts by numbers

and_assoc : (x y z : Bool) → ((x && y) && z) ≡ (x && (y && z))
and_assoc true y z = refl
and_assoc false y z = refl

and_true' : (x : Bool) → (x && true) ≡ x
and_true' true = refl
and_true' false = refl

one : (s : ℕ → Bool) (b : Base) → among s b ≡ (could_be b && list_all s (value_number b))
one s base.Int = refl
one s base.Bool = refl
one s base.Str = refl
one s base.Void = refl
one s base.Id = refl
one s base.System = refl
one s (base.Struct k) = sym (and_true' (s k.0))
one s (base.Enum k) = sym (and_true' (s k.0))
one s (base.Plain k) = refl
one s (base.Distributed k) = refl
one s (base.Any p) = refl
one s base.AnyError = refl

all_append : (s : ℕ → Bool) (xs ys : List ℕ) → list_all s (xs ++ ys) ≡ (list_all s xs && list_all s ys)
all_append s [] ys = refl
all_append s (x ∷ xs) ys = ap (λ b. s x && b) (all_append s xs ys) ∙ sym (and_assoc (s x) (list_all s xs) (list_all s ys))

swap : (a b c d : Bool) → ((a && b) && (c && d)) ≡ ((a && c) && (b && d))
swap true true c d = refl
swap true false true d = refl
swap true false false d = refl
swap false b c d = refl

abbrev numbers_of : List Ty → List ℕ
numbers_of ts = flat_map value_number (bases_of ts)

-- the parts are members where each could be one and the declared ones are
split : (s : ℕ → Bool) (ts : List Ty) → all_among s ts ≡ (list_all could_be (bases_of ts) && list_all s (numbers_of ts))
split s [] = refl
split s (t ∷ ts) =
    ap (λ x. x && all_among s ts) (one s t.base)
    ∙ (ap (λ x. (could_be t.base && list_all s (value_number t.base)) && x) (split s ts)
    ∙ (swap (could_be t.base) (list_all s (value_number t.base)) (list_all could_be (bases_of ts)) (list_all s (numbers_of ts))
    ∙ ap (λ x. (could_be t.base && list_all could_be (bases_of ts)) && x) (sym (all_append s (value_number t.base) (numbers_of ts)))))

pub each_in : (s : ℕ → Bool) (xs : List ℕ) → list_all s xs ≡ true → (b : ℕ) → Has xs b → s b ≡ true
each_in s [] h b k = absurd k
each_in s (x ∷ xs) h b (inl e) = ap s e ∙ (both_true (s x) (list_all s xs) h).0
each_in s (x ∷ xs) h b (inr k) = each_in s xs (both_true (s x) (list_all s xs) h).1 b k

pub in_each : (s : ℕ → Bool) (xs : List ℕ) → ((b : ℕ) → Has xs b → s b ≡ true) → list_all s xs ≡ true
in_each s [] h = refl
in_each s (x ∷ xs) h = and_true (s x) (list_all s xs) (h x (inl refl)) (in_each s xs (λ b k. h b (inr k)))

-- ---- closed sets

abbrev graph_of : List Kind → Graph
graph_of kinds = map (λ kind. flat_map value_number (bases_in kind)) kinds

edges_of : (kinds : List Kind) (t : ℕ) → successors (graph_of kinds) t ≡ numbers_of (parts_of (slice_get kinds t))
edges_of kinds t = entry_map (λ (kind : Kind). flat_map value_number (bases_in kind)) [] (λ k. numbers_of (parts_of k)) refl (λ k. refl) kinds t

abbrev could : Option Kind → Bool
could None = false
could (Some kind) = could_cross kind

allowed_at : (kinds : List Kind) (t : ℕ) → marked (map could_cross kinds) t ≡ could (slice_get kinds t)
allowed_at kinds t = entry_map could_cross false could refl (λ k. refl) kinds t

-- what could cross is declared so, and the other way round where its parts could
could_two : (k : Option Kind) → could k ≡ true → (declares_codable k ≡ true) × (list_all could_be (bases_of (parts_of k)) ≡ true)
could_two None h = true≢ h
could_two (Some kind) h =
    let a = both_true kind.is_codable (has_parts kind.form && list_all could_be (bases_in kind)) h in
    let b = both_true (has_parts kind.form) (list_all could_be (bases_in kind)) a.1 in
    (and_true (has_parts kind.form) kind.is_codable b.0 a.0, b.1)

two_could : (k : Option Kind) → declares_codable k ≡ true → list_all could_be (bases_of (parts_of k)) ≡ true → could k ≡ true
two_could None h c = h
two_could (Some kind) h c =
    let a = both_true (has_parts kind.form) kind.is_codable h in
    and_true kind.is_codable (has_parts kind.form && list_all could_be (bases_in kind)) a.1 (and_true (has_parts kind.form) (list_all could_be (bases_in kind)) a.0 c)

closed_numbers : (kinds : List Kind) (s : ℕ → Bool) → IsCodableClosed kinds s → IsClosed (graph_of kinds) (map could_cross kinds) s
closed_numbers kinds s closed t m h =
    let c = could_two (slice_get kinds t) (sym (allowed_at kinds t) ∙ m) in
    let all : list_all s (numbers_of (parts_of (slice_get kinds t))) ≡ true = in_each s (numbers_of (parts_of (slice_get kinds t))) (λ b k. h b (subst (λ xs. Contains xs b) (sym (edges_of kinds t)) (contains_from (numbers_of (parts_of (slice_get kinds t))) b k))) in
    closed t c.0 (split s (parts_of (slice_get kinds t)) ∙ and_true (list_all could_be (bases_of (parts_of (slice_get kinds t)))) (list_all s (numbers_of (parts_of (slice_get kinds t)))) c.1 all)

closed_kinds : (kinds : List Kind) (s : ℕ → Bool) → IsClosed (graph_of kinds) (map could_cross kinds) s → IsCodableClosed kinds s
closed_kinds kinds s closed t d h =
    let b = both_true (list_all could_be (bases_of (parts_of (slice_get kinds t)))) (list_all s (numbers_of (parts_of (slice_get kinds t)))) (sym (split s (parts_of (slice_get kinds t))) ∙ h) in
    closed t (allowed_at kinds t ∙ two_could (slice_get kinds t) d b.0)
    (λ u e. each_in s (numbers_of (parts_of (slice_get kinds t))) b.1 u (has_from (numbers_of (parts_of (slice_get kinds t))) u (subst (λ xs. Contains xs u) (edges_of kinds t) e)))

pub members : (kinds : List Kind) (table : List Bool) → length table ≡ length kinds → IsLeast (graph_of kinds) (map could_cross kinds) table → AreMembers kinds table
members kinds table n l = record {
  length = n;
  only = λ t m s closed. l.least.each s (closed_numbers kinds s closed) t m;
  all = λ t h. h (marked table) (closed_kinds kinds (marked table) l.closed);
}

-- ---- one type

pub member : (kinds : List Kind) (table : List Bool) → AreMembers kinds table → (b : Base) → (among (marked table) b ≡ true) ↔ ((s : ℕ → Bool) → IsCodableClosed kinds s → among s b ≡ true)
member kinds table m b = (λ h s closed. there s closed b h, λ h. back b h)
  where
    there : (s : ℕ → Bool) → IsCodableClosed kinds s → (b : Base) → among (marked table) b ≡ true → among s b ≡ true
    there s closed base.Int h = refl
    there s closed base.Bool h = refl
    there s closed base.Str h = refl
    there s closed base.Void h = h
    there s closed base.Id h = refl
    there s closed base.System h = h
    there s closed (base.Struct k) h = m.only k.0 h s closed
    there s closed (base.Enum k) h = m.only k.0 h s closed
    there s closed (base.Plain k) h = h
    there s closed (base.Distributed k) h = refl
    there s closed (base.Any p) h = h
    there s closed base.AnyError h = h

    back : (b : Base) → ((s : ℕ → Bool) → IsCodableClosed kinds s → among s b ≡ true) → among (marked table) b ≡ true
    back base.Int h = refl
    back base.Bool h = refl
    back base.Str h = refl
    back base.Void h = h (λ t. true) (λ t d p. refl)
    back base.Id h = refl
    back base.System h = h (λ t. true) (λ t d p. refl)
    back (base.Struct k) h = m.all k.0 h
    back (base.Enum k) h = m.all k.0 h
    back (base.Plain k) h = h (λ t. true) (λ t d p. refl)
    back (base.Distributed k) h = refl
    back (base.Any p) h = h (λ t. true) (λ t d p. refl)
    back base.AnyError h = h (λ t. true) (λ t d p. refl)
