-- What the numbers by name answer to the questions about a table.
use Rattle.std.proofs.Common.{◌≡◌, ℕ, zero, suc, List, [], ◌∷◌, ◌++◌, Bool, true, false, ◌||◌, ◌&&◌, cond, length, Some, None, refl, sym, ap, ◌∙◌, nat_lt, nat_eq, codes}
use Rattle.std.specs.List.{list_any}
use Rattle.sw_sight.specs.InSight.{Text, same}
use Rattle.sw_sight.specs.Levels.{Entries, level}
use Rattle.sw_declared.specs.declared.names.Inner.{Inner}
use Rattle.sw_declared.specs.declared.names.Inner.TheVariants.{Nothing, Id, ActorId}
use Rattle.sw_declared.specs.declared.names.Form.{Form}
use Rattle.sw_declared.specs.declared.names.Form.TheVariants as form
use Rattle.sw_declared.specs.declared.names.MemberKind.{MemberKind}
use Rattle.sw_declared.specs.declared.names.MemberKind.TheVariants as kind
use Rattle.sw_declared.specs.declared.names.Member.{Member}
use Rattle.sw_declared.specs.declared.names.FuncKind.{FuncKind}
use Rattle.sw_declared.specs.declared.names.FuncKind.TheVariants.{TopLevel, Method, Getter, Initializer, Synthesized}
use Rattle.sw_declared.specs.declared.names.DeclaredType.{DeclaredType}
use Rattle.sw_declared.specs.declared.names.Alias.{Alias}
use Rattle.sw_declared.specs.declared.names.DeclaredFunc.{DeclaredFunc}
use Rattle.sw_declared.specs.Names.{names_inner, inner_of, number_of, one_later, is_top_level, has_type, has_type_inner, has_alias, has_alias_inner, has_func}
use Rattle.sw_declared.specs.Members.{Label, Called, same_label, same_labels, same_call, names_type, member_inner, has_member, has_static, has_type_member, has_inner_member, has_fitting, has_static_fitting}
use Rattle.sw_declared.specs.Spelling.{spelled}
use Rattle.sw_declared.specs.Ranks.{static_rank, alias_rank, id_rank, type_rank, type_id_rank, plain_rank, call_rank, call_key, actor_rank, func_rank}
use Rattle.sw_declared.proofs.Ranked.{any_as, same_sym, suc_is_some, suc_is_more}
use Rattle.sw_declared.proofs.Spellings.{spellings_tell}

and_true : (s : Bool) → (s && true) ≡ s
and_true true = refl
and_true false = refl

and_false : (s : Bool) → (s && false) ≡ false
and_false true = refl
and_false false = refl

and_swap : (s t : Bool) → (s && t) ≡ (t && s)
and_swap true t = sym (and_true t)
and_swap false t = sym (and_false t)

-- ---- members

any_rank : (b : Bool) → nat_lt 0 (static_rank b) ≡ true
unfolding static_rank
any_rank true = refl
any_rank false = refl

two_rank : (b : Bool) → nat_lt 1 (static_rank b) ≡ b
unfolding static_rank
two_rank true = refl
two_rank false = refl

pub asked_named : (items : List Member) (x : Text) → list_any (λ m. same m.name x && nat_lt 0 (static_rank m.is_static)) items ≡ has_member items x
asked_named items x = any_as _ (λ m. same m.name x) (λ m. ap (λ t. same m.name x && t) (any_rank m.is_static) ∙ and_true (same m.name x)) items

pub asked_static : (items : List Member) (x : Text) → list_any (λ m. same m.name x && nat_lt 1 (static_rank m.is_static)) items ≡ has_static items x
asked_static items x = any_as _ (λ m. m.is_static && same m.name x) (λ m. ap (λ t. same m.name x && t) (two_rank m.is_static) ∙ and_swap (same m.name x) m.is_static) items

alias_ranks : (i : Inner) → nat_lt 0 (alias_rank i) ≡ true
unfolding alias_rank
alias_ranks Nothing = refl
alias_ranks Id = refl
alias_ranks ActorId = refl

type_ranks : (k : MemberKind) → nat_lt 0 (type_rank k) ≡ names_type k
unfolding type_rank names_type
type_ranks kind.Stored = refl
type_ranks kind.Computed = refl
type_ranks kind.Func = refl
type_ranks kind.Case = refl
type_ranks (kind.Alias i) = alias_ranks i
type_ranks kind.BuiltIn = refl

pub asked_type : (items : List Member) (x : Text) → list_any (λ m. same m.name x && nat_lt 0 (type_rank m.kind)) items ≡ has_type_member items x
asked_type items x = any_as _ (λ m. names_type m.kind && same m.name x) (λ m. ap (λ t. same m.name x && t) (type_ranks m.kind) ∙ and_swap (same m.name x) (names_type m.kind)) items

none_of : (s t : Bool) → false ≡ ((s && false) || (t && false))
none_of true true = refl
none_of true false = refl
none_of false true = refl
none_of false false = refl

first_of_two : (s t : Bool) → s ≡ ((s && true) || (t && false))
first_of_two true t = refl
first_of_two false true = refl
first_of_two false false = refl

second_of_two : (s t : Bool) → t ≡ ((s && false) || (t && true))
second_of_two true true = refl
second_of_two true false = refl
second_of_two false true = refl
second_of_two false false = refl

inner_ranks : (i : Inner) (y : Text) → names_inner i y ≡ ((same (codes "ID") y && nat_lt 0 (id_rank i)) || (same (codes "ActorID") y && nat_lt 1 (alias_rank i)))
unfolding names_inner id_rank alias_rank
inner_ranks Nothing y = none_of (same (codes "ID") y) (same (codes "ActorID") y)
inner_ranks Id y = first_of_two (same (codes "ID") y) (same (codes "ActorID") y)
inner_ranks ActorId y = second_of_two (same (codes "ID") y) (same (codes "ActorID") y)

member_ranks : (k : MemberKind) (y : Text) → member_inner k y ≡ ((same (codes "ID") y && nat_lt 0 (type_id_rank k)) || (same (codes "ActorID") y && nat_lt 1 (type_rank k)))
unfolding member_inner type_rank type_id_rank
member_ranks kind.Stored y = none_of (same (codes "ID") y) (same (codes "ActorID") y)
member_ranks kind.Computed y = none_of (same (codes "ID") y) (same (codes "ActorID") y)
member_ranks kind.Func y = none_of (same (codes "ID") y) (same (codes "ActorID") y)
member_ranks kind.Case y = none_of (same (codes "ID") y) (same (codes "ActorID") y)
member_ranks (kind.Alias i) y = inner_ranks i y
member_ranks kind.BuiltIn y = none_of (same (codes "ID") y) (same (codes "ActorID") y)

-- a test by two parts, each of which one table tells
apart : (s t n p q P Q : Bool) → ((n && ((s && p) || (t && q))) || ((s && P) || (t && Q))) ≡ ((s && ((n && p) || P)) || (t && ((n && q) || Q)))
apart false false n p q P Q = go n
  where
    go : (n : Bool) → ((n && false) || false) ≡ false
    go true = refl
    go false = refl
apart false true n p q P Q = refl
apart true false true true q P Q = refl
apart true false true false q P Q = refl
apart true false false p q P Q = refl
apart true true true true q P Q = refl
apart true true true false true true Q = refl
apart true true true false true false Q = refl
apart true true true false false P Q = refl
apart true true false p q P Q = refl

pub any_apart : {A : Type 0} (s t : Bool) (n p q : A → Bool) (items : List A) → list_any (λ a. n a && ((s && p a) || (t && q a))) items ≡ ((s && list_any (λ a. n a && p a) items) || (t && list_any (λ a. n a && q a) items))
any_apart s t n p q [] = none_of s t
any_apart s t n p q (x ∷ xs) =
    ap (λ r. (n x && ((s && p x) || (t && q x))) || r) (any_apart s t n p q xs)
    ∙ apart s t (n x) (p x) (q x) (list_any (λ a. n a && p a) xs) (list_any (λ a. n a && q a) xs)

pub asked_inner : (items : List Member) (x y : Text) → ((same (codes "ID") y && list_any (λ m. same m.name x && nat_lt 0 (type_id_rank m.kind)) items) || (same (codes "ActorID") y && list_any (λ m. same m.name x && nat_lt 1 (type_rank m.kind)) items)) ≡ has_inner_member items x y
asked_inner items x y =
    sym (any_apart (same (codes "ID") y) (same (codes "ActorID") y) (λ m. same m.name x) (λ m. nat_lt 0 (type_id_rank m.kind)) (λ m. nat_lt 1 (type_rank m.kind)) items)
    ∙ any_as _ (λ m. same m.name x && member_inner m.kind y) (λ m. ap (λ t. same m.name x && t) (sym (member_ranks m.kind y))) items

-- ---- what is called

plain_ranks : (o : Called) (b : Bool) → nat_lt 0 (plain_rank o b) ≡ same_call None o
unfolding plain_rank same_call
plain_ranks None b = any_rank b
plain_ranks (Some labels) b = refl

pub asked_plain : (items : List Member) (x : Text) → list_any (λ m. same m.name x && nat_lt 0 (plain_rank m.labels m.is_static)) items ≡ has_fitting items x None
asked_plain items x = any_as _ (λ m. same m.name x && same_call None m.labels) (λ m. ap (λ t. same m.name x && t) (plain_ranks m.labels m.is_static)) items

static_plain_ranks : (s : Bool) (o : Called) (b : Bool) → (s && nat_lt 1 (plain_rank o b)) ≡ (b && (s && same_call None o))
unfolding plain_rank same_call
static_plain_ranks s None b = ap (λ t. s && t) (two_rank b) ∙ and_swap s b ∙ ap (λ t. b && t) (sym (and_true s))
static_plain_ranks s (Some labels) b = and_false s ∙ sym (and_false b) ∙ ap (λ t. b && t) (sym (and_false s))

pub asked_static_plain : (items : List Member) (x : Text) → list_any (λ m. same m.name x && nat_lt 1 (plain_rank m.labels m.is_static)) items ≡ has_static_fitting items x None
asked_static_plain items x = any_as _ (λ m. m.is_static && (same m.name x && same_call None m.labels)) (λ m. static_plain_ranks (same m.name x) m.labels m.is_static) items

label_sym : (a b : Label) → same_label a b ≡ same_label b a
unfolding same_label
label_sym None None = refl
label_sym None (Some b) = refl
label_sym (Some a) None = refl
label_sym (Some a) (Some b) = same_sym a b

labels_sym : (xs ys : List Label) → same_labels xs ys ≡ same_labels ys xs
unfolding same_labels
labels_sym [] [] = refl
labels_sym [] (y ∷ ys) = refl
labels_sym (x ∷ xs) [] = refl
labels_sym (x ∷ xs) (y ∷ ys) = ap (λ t. t && same_labels xs ys) (label_sym x y) ∙ ap (λ t. same_label y x && t) (labels_sym xs ys)

call_keys : (name x : Text) (o : Called) (ls : List Label) (b : Bool) → (same (call_key name o) (spelled x ls) && nat_lt 0 (call_rank o b)) ≡ (same name x && same_call (Some ls) o)
unfolding call_key call_rank same_call
call_keys name x None ls b = and_false (same [] (spelled x ls)) ∙ sym (and_false (same name x))
call_keys name x (Some ys) ls b =
    ap (λ t. same (spelled name ys) (spelled x ls) && t) (any_rank b) ∙ and_true (same (spelled name ys) (spelled x ls))
    ∙ spellings_tell name x ys ls ∙ ap (λ t. same name x && t) (labels_sym ys ls)

pub asked_call : (items : List Member) (x : Text) (ls : List Label) → list_any (λ m. same (call_key m.name m.labels) (spelled x ls) && nat_lt 0 (call_rank m.labels m.is_static)) items ≡ has_fitting items x (Some ls)
asked_call items x ls = any_as _ (λ m. same m.name x && same_call (Some ls) m.labels) (λ m. call_keys m.name x m.labels ls m.is_static) items

static_call_keys : (name x : Text) (o : Called) (ls : List Label) (b : Bool) → (same (call_key name o) (spelled x ls) && nat_lt 1 (call_rank o b)) ≡ (b && (same name x && same_call (Some ls) o))
unfolding call_key call_rank same_call
static_call_keys name x None ls b = and_false (same [] (spelled x ls)) ∙ sym (and_false b) ∙ ap (λ t. b && t) (sym (and_false (same name x)))
static_call_keys name x (Some ys) ls b =
    ap (λ t. same (spelled name ys) (spelled x ls) && t) (two_rank b) ∙ and_swap (same (spelled name ys) (spelled x ls)) b
    ∙ ap (λ t. b && t) (spellings_tell name x ys ls ∙ ap (λ t. same name x && t) (labels_sym ys ls))

pub asked_static_call : (items : List Member) (x : Text) (ls : List Label) → list_any (λ m. same (call_key m.name m.labels) (spelled x ls) && nat_lt 1 (call_rank m.labels m.is_static)) items ≡ has_static_fitting items x (Some ls)
asked_static_call items x ls = any_as _ (λ m. m.is_static && (same m.name x && same_call (Some ls) m.labels)) (λ m. static_call_keys m.name x m.labels ls m.is_static) items

-- ---- types, aliases and funcs

pub asked_number : (items : List DeclaredType) (x : Text) → nat_lt 0 (number_of items x) ≡ has_type items x
unfolding number_of one_later
asked_number [] x = refl
asked_number (t ∷ items) x = go (same t.name x) (number_of items x) (asked_number items x)
  where
    go : (s : Bool) (n : ℕ) → nat_lt 0 n ≡ has_type items x → nat_lt 0 (cond s (suc zero) (one_later n)) ≡ (s || has_type items x)
    go true n h = refl
    go false zero h = h
    go false (suc n) h = suc_is_more (suc n) ∙ sym (suc_is_more n) ∙ h

pub number_more : (items : List DeclaredType) (t : DeclaredType) (x : Text) → number_of (items ++ t ∷ []) x ≡ cond (same t.name x && nat_eq (number_of items x) 0) (suc (length items)) (number_of items x)
unfolding number_of one_later
number_more [] t x = go (same t.name x)
  where
    go : (s : Bool) → cond s (suc zero) zero ≡ cond (s && true) (suc zero) zero
    go true = refl
    go false = refl
number_more (u ∷ items) t x = ap (λ n. cond (same u.name x) (suc zero) (one_later n)) (number_more items t x) ∙ go (same u.name x) (same t.name x) (number_of items x)
  where
    go : (s r : Bool) (n : ℕ) → cond s (suc zero) (one_later (cond (r && nat_eq n 0) (suc (length items)) n)) ≡ cond (r && nat_eq (cond s (suc zero) (one_later n)) 0) (suc (suc (length items))) (cond s (suc zero) (one_later n))
    go true true n = refl
    go true false n = refl
    go false true zero = refl
    go false true (suc n) = ap (λ b. one_later (cond b (suc (length items)) (suc n))) (suc_is_some n) ∙ sym (ap (λ b. cond b (suc (suc (length items))) (suc (suc n))) (suc_is_some (suc n)))
    go false false n = refl

length_more : (items : List DeclaredType) (t : DeclaredType) → length (items ++ t ∷ []) ≡ suc (length items)
length_more [] t = refl
length_more (u ∷ items) t = ap suc (length_more items t)

pub numbers_more : (items again : List DeclaredType) (t : DeclaredType) (old mid new : Entries) (name : Text) (number : ℕ) → again ≡ items ++ t ∷ [] → ((x : Text) → level x mid ≡ level x old) → name ≡ t.name
    → number ≡ length again → ((x : Text) → level x new ≡ cond (same x name && nat_eq (level x mid) 0) number (level x mid)) → ((x : Text) → level x old ≡ number_of items x) → (x : Text) → level x new ≡ number_of again x
numbers_more items again t old mid new name number e m k q h i x =
    let n = number_of items x in
    h x ∙ ap (λ l. cond (same x name && nat_eq l 0) number l) (m x ∙ i x)
    ∙ ap (λ s. cond (s && nat_eq n 0) number n) (same_sym x name ∙ ap (λ y. same y x) k)
    ∙ ap (λ z. cond (same t.name x && nat_eq n 0) z n) (q ∙ ap length e ∙ length_more items t)
    ∙ sym (number_more items t x) ∙ sym (ap (λ l. number_of l x) e)

pub none_numbered : (items : List DeclaredType) (entries : Entries) → items ≡ [] → entries ≡ [] → (x : Text) → level x entries ≡ number_of items x
unfolding level number_of
none_numbered items entries e f x = ap (level x) f ∙ sym (ap (λ l. number_of l x) e)

actor_ranks : (f : Form) (y : Text) → names_inner (inner_of f) y ≡ (same (codes "ID") y && nat_lt 0 (actor_rank f))
unfolding names_inner inner_of actor_rank
actor_ranks form.Struct y = sym (and_false (same (codes "ID") y))
actor_ranks form.Enum y = sym (and_false (same (codes "ID") y))
actor_ranks form.Protocol y = sym (and_false (same (codes "ID") y))
actor_ranks form.Actor y = sym (and_false (same (codes "ID") y))
actor_ranks form.DistributedActor y = sym (and_true (same (codes "ID") y))

any_when : {A : Type 0} (s : Bool) (n p : A → Bool) (items : List A) → list_any (λ a. n a && (s && p a)) items ≡ (s && list_any (λ a. n a && p a) items)
any_when true n p items = refl
any_when false n p [] = refl
any_when false n p (x ∷ xs) = ap (λ t. t || list_any (λ a. n a && false) xs) (and_false (n x)) ∙ any_when false n p xs

pub asked_type_inner : (items : List DeclaredType) (x y : Text) → (same (codes "ID") y && list_any (λ t. same t.name x && nat_lt 0 (actor_rank t.form)) items) ≡ has_type_inner items x y
asked_type_inner items x y =
    sym (any_when (same (codes "ID") y) (λ t. same t.name x) (λ t. nat_lt 0 (actor_rank t.form)) items)
    ∙ any_as _ (λ t. same t.name x && names_inner (inner_of t.form) y) (λ t. ap (λ r. same t.name x && r) (sym (actor_ranks t.form y))) items

pub asked_alias : (items : List Alias) (x : Text) → list_any (λ a. same a.name x && nat_lt 0 (alias_rank a.inner)) items ≡ has_alias items x
asked_alias items x = any_as _ (λ a. same a.name x) (λ a. ap (λ t. same a.name x && t) (alias_ranks a.inner) ∙ and_true (same a.name x)) items

pub asked_alias_inner : (items : List Alias) (x y : Text) → ((same (codes "ID") y && list_any (λ a. same a.name x && nat_lt 0 (id_rank a.inner)) items) || (same (codes "ActorID") y && list_any (λ a. same a.name x && nat_lt 1 (alias_rank a.inner)) items)) ≡ has_alias_inner items x y
asked_alias_inner items x y =
    sym (any_apart (same (codes "ID") y) (same (codes "ActorID") y) (λ a. same a.name x) (λ a. nat_lt 0 (id_rank a.inner)) (λ a. nat_lt 1 (alias_rank a.inner)) items)
    ∙ any_as _ (λ a. same a.name x && names_inner a.inner y) (λ a. ap (λ t. same a.name x && t) (sym (inner_ranks a.inner y))) items

func_ranks : (k : FuncKind) → nat_lt 0 (func_rank k) ≡ is_top_level k
unfolding func_rank is_top_level
func_ranks TopLevel = refl
func_ranks Method = refl
func_ranks Getter = refl
func_ranks Initializer = refl
func_ranks Synthesized = refl

pub asked_func : (items : List DeclaredFunc) (x : Text) → list_any (λ f. same f.name x && nat_lt 0 (func_rank f.kind)) items ≡ has_func items x
asked_func items x = any_as _ (λ f. is_top_level f.kind && same f.name x) (λ f. ap (λ t. same f.name x && t) (func_ranks f.kind) ∙ and_swap (same f.name x) (is_top_level f.kind)) items
