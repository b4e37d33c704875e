-- What the table of a type's members is told of each of them, by key. No public clause cites this module.
use Rattle.std.specs.Prelude.{◌≡◌, ℕ, Bool, true, ◌&&◌, Some, None, List, [], ◌∷◌, ◌++◌, nat_lt}
use Rattle.std.specs.List.{list_any}
use Rattle.sw_sight.specs.InSight.{Text, same}
use Rattle.sw_sight.specs.Levels.{Entries, level, IsKnown}
use Rattle.sw_declared.specs.declared.names.MemberKind.{MemberKind}
use Rattle.sw_declared.specs.declared.names.MemberKind.TheVariants as kind
use Rattle.sw_declared.specs.declared.names.Member.{Member}
use Rattle.sw_declared.specs.declared.facts.Question.{Question}
use Rattle.sw_declared.specs.declared.facts.Question.TheVariants.{Named, Plain, Aliased, IdAliased}
use Rattle.sw_declared.specs.declared.facts.Fact.{Fact}
use Rattle.sw_declared.specs.Members.{Called}
use Rattle.sw_declared.specs.Spelling.{spelled}
use Rattle.sw_declared.specs.Ranks.{static_rank, alias_rank, id_rank, plain_rank, type_rank, type_id_rank, call_rank, call_key}

-- so many members are looked through, and the others are told of
abbrev pub few : ℕ
few = 8

-- ---- what is asked

unfoldable pub rank_of : Question → Member → ℕ
rank_of Named m = static_rank m.is_static
rank_of Plain m = plain_rank m.labels m.is_static
rank_of Aliased m = type_rank m.kind
rank_of IdAliased m = type_id_rank m.kind

-- a member has the name, and its rank is above n
abbrev pub is_above : Question → Text → ℕ → Member → Bool
is_above question x n m = same m.name x && nat_lt n (rank_of question m)

-- a member is called so, where x spells a name and labels, and its rank is above n
abbrev pub is_call_above : Text → ℕ → Member → Bool
is_call_above x n m = same (call_key m.name m.labels) x && nat_lt n (call_rank m.labels m.is_static)

-- ---- what is told

unfoldable pub question_code : Question → ℕ
question_code Named = 0
question_code Plain = 1
question_code Aliased = 2
question_code IdAliased = 3

-- of calls, whose text is the spelling of a name and labels
abbrev pub call_code : ℕ
call_code = 4

abbrev pub key : ℕ → Text → Text
key code text = code ∷ text

abbrev pub fact : ℕ → Text → ℕ → Fact
fact code text rank = record { key = key code text; rank = rank }

unfoldable pub facts_by_labels : Text → Bool → Called → List Fact
facts_by_labels name is_static None = fact (question_code Plain) name (static_rank is_static) ∷ []
facts_by_labels name is_static (Some labels) = fact call_code (spelled name labels) (static_rank is_static) ∷ []

unfoldable pub facts_by_kind : Text → MemberKind → List Fact
facts_by_kind name kind.Stored = []
facts_by_kind name kind.Computed = []
facts_by_kind name kind.Func = []
facts_by_kind name kind.Case = []
facts_by_kind name (kind.Alias inner) = fact (question_code Aliased) name (alias_rank inner) ∷ fact (question_code IdAliased) name (id_rank inner) ∷ []
facts_by_kind name kind.BuiltIn = []

abbrev pub facts_of : Member → List Fact
facts_of m = fact (question_code Named) m.name (static_rank m.is_static) ∷ (facts_by_labels m.name m.is_static m.labels ++ facts_by_kind m.name m.kind)

-- a fact tells a rank above n of the key
abbrev pub tells : Text → ℕ → Fact → Bool
tells x n f = same f.key x && nat_lt n f.rank

-- the number of each key is the greatest rank that facts of members tell of it, 0 where none does
abbrev pub AreTold : List Member → Entries → Type 0
AreTold items told = (x : Text) (n : ℕ) → nat_lt n (level x told) ≡ list_any (λ m. list_any (tells x n) (facts_of m)) items

-- a number is kept for the key of each of the facts
abbrev pub AreKnown : List Fact → Entries → Type 0
AreKnown facts told = (x : Text) → list_any (λ f. same x f.key) facts ≡ true → IsKnown x told
