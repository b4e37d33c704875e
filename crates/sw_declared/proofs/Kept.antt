-- The table of members: what facts tell of a key, and the table as it grows.
use Rattle.std.proofs.Common.{◌≡◌, ◌<◌, ◌≤◌, ℕ, List, [], ◌∷◌, ◌++◌, Bool, true, false, ◌||◌, ◌&&◌, Some, None, length, take, drop, get_or, refl, sym, ap, subst, ◌∙◌, ◌+◌, nat_lt, nat_eq, arith}
use Rattle.std.proofs.lemmas.Bool.Decides.{nat_tests}
use Rattle.std.proofs.lemmas.List.{take_more, take-append-drop, drop_all, drop-append-le}
use Rattle.std.proofs.lemmas.List.Folds.{list_any-append}
use Rattle.std.specs.List.{list_any}
use Rattle.sw_sight.specs.InSight.{Text, same}
use Rattle.sw_sight.specs.Levels.{Entries, level, IsKnown}
use Rattle.sw_declared.specs.declared.names.MemberKind.{MemberKind}
use Rattle.sw_declared.specs.declared.names.MemberKind.TheVariants as kind
use Rattle.sw_declared.specs.declared.names.Member.{Member}
use Rattle.sw_declared.specs.declared.facts.Question.{Question}
use Rattle.sw_declared.specs.declared.facts.Question.TheVariants.{Named, Plain, Aliased, IdAliased}
use Rattle.sw_declared.specs.declared.facts.Fact.{Fact}
use Rattle.sw_declared.specs.Members.{Called}
use Rattle.sw_declared.specs.Spelling.{spelled}
use Rattle.sw_declared.specs.Ranks.{static_rank, alias_rank, id_rank, plain_rank, type_rank, type_id_rank, call_rank, call_key}
use Rattle.sw_declared.specs.Facts.{rank_of, is_above, is_call_above, question_code, call_code, key, facts_by_labels, facts_by_kind, facts_of, tells, AreTold, AreKnown}
use Rattle.sw_declared.proofs.Ranked.{same_true, same_refl, same_sym, any_as}

or_false : (t : Bool) → (t || false) ≡ t
or_false true = refl
or_false false = refl

or_true : (t : Bool) → (t || true) ≡ true
or_true true = refl
or_true false = refl

or_assoc : (a b c : Bool) → ((a || b) || c) ≡ (a || (b || c))
or_assoc true b c = refl
or_assoc false b c = refl

-- no rank is above another where it is 0
pub none_above : (s : Bool) (n : ℕ) → false ≡ (s && nat_lt n 0)
none_above s n = go s (nat_lt n 0) zero_below
  where
    zero_below : nat_lt n 0 ≡ false
    zero_below = grind (arith, nat_tests)

    go : (s t : Bool) → t ≡ false → false ≡ (s && t)
    go true t h = sym h
    go false t h = refl

-- ---- a loop over facts

any_more : {A : Type 0} (p : A → Bool) (xs : List A) (i : ℕ) (x : A) → i < length xs → x ≡ get_or xs i x → list_any p (take (i + 1) xs) ≡ (list_any p (take i xs) || p x)
any_more p xs i x h e =
    ap (list_any p) (take_more xs i x h) ∙ list_any-append p (take i xs) (get_or xs i x ∷ [])
    ∙ ap (λ y. list_any p (take i xs) || (p y || false)) (sym e) ∙ ap (λ t. list_any p (take i xs) || t) (or_false (p x))

pub known_more : (facts : List Fact) (i : ℕ) (f : Fact) (key : Text) (old new : Entries) → i < length facts → f ≡ get_or facts i f → key ≡ f.key → IsKnown key new → ((x : Text) → IsKnown x old → IsKnown x new)
    → AreKnown (take i facts) old → AreKnown (take (i + 1) facts) new
known_more facts i f key old new h e n known keeps are x p = go (list_any (λ g. same x g.key) (take i facts)) (same x f.key) refl refl (sym (any_more (λ g. same x g.key) facts i f h e) ∙ p)
  where
    go : (s t : Bool) → list_any (λ g. same x g.key) (take i facts) ≡ s → same x f.key ≡ t → (list_any (λ g. same x g.key) (take i facts) || same x f.key) ≡ true → IsKnown x new
    go true t q r u = keeps x (are x q)
    go false true q r u = subst (λ y. IsKnown y new) (n ∙ sym (same_true x f.key r)) known
    go false false q r u = absurd (let z : false ≡ true = sym (ap (λ a. a || false) q) ∙ sym (ap (λ b. list_any (λ g. same x g.key) (take i facts) || b) r) ∙ u in cc)

-- the key of the fact that a loop is at is among them
pub known_one : (facts : List Fact) (i : ℕ) (f : Fact) (key : Text) (old : Entries) → i < length facts → f ≡ get_or facts i f → key ≡ f.key → AreKnown facts old → IsKnown key old
known_one facts i f key old h e n are = subst (λ y. IsKnown y old) (sym n) (are f.key (ap (list_any p) (sym (take-append-drop (i + 1) facts)) ∙ list_any-append p (take (i + 1) facts) (drop (i + 1) facts) ∙ ap (λ t. t || list_any p (drop (i + 1) facts)) (any_more p facts i f h e ∙ ap (λ t. list_any p (take i facts) || t) (same_refl f.key f.key refl) ∙ or_true (list_any p (take i facts)))))
  where
    p : Fact → Bool
    p g = same f.key g.key

pub raised_more : (x : Text) (n : ℕ) (facts : List Fact) (i : ℕ) (f : Fact) (key : Text) (rank : ℕ) (start old new : Entries) → i < length facts → f ≡ get_or facts i f → key ≡ f.key → rank ≡ f.rank
    → nat_lt n (level x new) ≡ (nat_lt n (level x old) || (same x key && nat_lt n rank))
    → nat_lt n (level x old) ≡ (nat_lt n (level x start) || list_any (tells x n) (take i facts))
    → nat_lt n (level x new) ≡ (nat_lt n (level x start) || list_any (tells x n) (take (i + 1) facts))
raised_more x n facts i f key rank start old new h e k r step before =
    step ∙ ap (λ t. t || (same x key && nat_lt n rank)) before
    ∙ ap (λ s. (nat_lt n (level x start) || list_any (tells x n) (take i facts)) || (s && nat_lt n rank)) (same_sym x key ∙ ap (λ y. same y x) k)
    ∙ ap (λ l. (nat_lt n (level x start) || list_any (tells x n) (take i facts)) || (same f.key x && nat_lt n l)) r
    ∙ or_assoc (nat_lt n (level x start)) (list_any (tells x n) (take i facts)) (tells x n f)
    ∙ ap (λ t. nat_lt n (level x start) || t) (sym (any_more (tells x n) facts i f h e))

-- before the first fact
pub raised_none : (x : Text) (n : ℕ) (start : Entries) → nat_lt n (level x start) ≡ (nat_lt n (level x start) || false)
raised_none x n start = sym (or_false (nat_lt n (level x start)))

-- ---- what the facts of a member tell

by_labels_else : (k : ℕ) (x : Text) (n : ℕ) (name : Text) (b : Bool) (o : Called) → nat_eq 1 k ≡ false → nat_eq 4 k ≡ false → list_any (tells (k ∷ x) n) (facts_by_labels name b o) ≡ false
unfolding same facts_by_labels question_code
by_labels_else k x n name b None p q = ap (λ t. ((t && same name x) && nat_lt n (static_rank b)) || false) p
by_labels_else k x n name b (Some labels) p q = ap (λ t. ((t && same (spelled name labels) x) && nat_lt n (static_rank b)) || false) q

by_kind_else : (k : ℕ) (x : Text) (n : ℕ) (name : Text) (m : MemberKind) → nat_eq 2 k ≡ false → nat_eq 3 k ≡ false → list_any (tells (k ∷ x) n) (facts_by_kind name m) ≡ false
unfolding same facts_by_kind question_code
by_kind_else k x n name kind.Stored p q = refl
by_kind_else k x n name kind.Computed p q = refl
by_kind_else k x n name kind.Func p q = refl
by_kind_else k x n name kind.Case p q = refl
by_kind_else k x n name (kind.Alias i) p q =
    ap (λ t. ((t && same name x) && nat_lt n (alias_rank i)) || (((nat_eq 3 k && same name x) && nat_lt n (id_rank i)) || false)) p
    ∙ ap (λ t. ((t && same name x) && nat_lt n (id_rank i)) || false) q
by_kind_else k x n name kind.BuiltIn p q = refl

plain_told : (x : Text) (n : ℕ) (name : Text) (b : Bool) (o : Called) → list_any (tells (1 ∷ x) n) (facts_by_labels name b o) ≡ (same name x && nat_lt n (plain_rank o b))
unfolding same facts_by_labels question_code plain_rank
plain_told x n name b None = or_false (same name x && nat_lt n (static_rank b))
plain_told x n name b (Some labels) = none_above (same name x) n

call_told : (x : Text) (n : ℕ) (name : Text) (b : Bool) (o : Called) → list_any (tells (4 ∷ x) n) (facts_by_labels name b o) ≡ (same (call_key name o) x && nat_lt n (call_rank o b))
unfolding same facts_by_labels question_code call_key call_rank
call_told x n name b None = none_above (same [] x) n
call_told x n name b (Some labels) = or_false (same (spelled name labels) x && nat_lt n (static_rank b))

alias_told : (x : Text) (n : ℕ) (name : Text) (m : MemberKind) → list_any (tells (2 ∷ x) n) (facts_by_kind name m) ≡ (same name x && nat_lt n (type_rank m))
unfolding same facts_by_kind question_code type_rank
alias_told x n name kind.Stored = none_above (same name x) n
alias_told x n name kind.Computed = none_above (same name x) n
alias_told x n name kind.Func = none_above (same name x) n
alias_told x n name kind.Case = none_above (same name x) n
alias_told x n name (kind.Alias i) = or_false (same name x && nat_lt n (alias_rank i))
alias_told x n name kind.BuiltIn = none_above (same name x) n

id_told : (x : Text) (n : ℕ) (name : Text) (m : MemberKind) → list_any (tells (3 ∷ x) n) (facts_by_kind name m) ≡ (same name x && nat_lt n (type_id_rank m))
unfolding same facts_by_kind question_code type_id_rank
id_told x n name kind.Stored = none_above (same name x) n
id_told x n name kind.Computed = none_above (same name x) n
id_told x n name kind.Func = none_above (same name x) n
id_told x n name kind.Case = none_above (same name x) n
id_told x n name (kind.Alias i) = or_false (same name x && nat_lt n (id_rank i))
id_told x n name kind.BuiltIn = none_above (same name x) n

-- what is told under a key by name, by labels and by kind
in_parts : (k : ℕ) (x : Text) (n : ℕ) (m : Member) (p q : Bool) → list_any (tells (k ∷ x) n) (facts_by_labels m.name m.is_static m.labels) ≡ p → list_any (tells (k ∷ x) n) (facts_by_kind m.name m.kind) ≡ q
    → list_any (tells (k ∷ x) n) (facts_of m) ≡ (((nat_eq 0 k && same m.name x) && nat_lt n (static_rank m.is_static)) || (p || q))
unfolding same question_code
in_parts k x n m p q g h =
    let first = (nat_eq 0 k && same m.name x) && nat_lt n (static_rank m.is_static) in
    ap (λ t. first || t) (list_any-append (tells (k ∷ x) n) (facts_by_labels m.name m.is_static m.labels) (facts_by_kind m.name m.kind)
    ∙ ap (λ t. t || list_any (tells (k ∷ x) n) (facts_by_kind m.name m.kind)) g ∙ ap (λ t. p || t) h)

name_told : (q : Question) (x : Text) (n : ℕ) (m : Member) → list_any (tells (key (question_code q) x) n) (facts_of m) ≡ is_above q x n m
unfolding question_code rank_of
name_told Named x n m = in_parts 0 x n m _ _ (by_labels_else 0 x n m.name m.is_static m.labels refl refl) (by_kind_else 0 x n m.name m.kind refl refl) ∙ or_false (same m.name x && nat_lt n (static_rank m.is_static))
name_told Plain x n m = in_parts 1 x n m _ _ (plain_told x n m.name m.is_static m.labels) (by_kind_else 1 x n m.name m.kind refl refl) ∙ or_false (same m.name x && nat_lt n (plain_rank m.labels m.is_static))
name_told Aliased x n m = in_parts 2 x n m _ _ (by_labels_else 2 x n m.name m.is_static m.labels refl refl) (alias_told x n m.name m.kind)
name_told IdAliased x n m = in_parts 3 x n m _ _ (by_labels_else 3 x n m.name m.is_static m.labels refl refl) (id_told x n m.name m.kind)

pub names_told : (q : Question) (x : Text) (n : ℕ) (items : List Member) → list_any (λ m. list_any (tells (key (question_code q) x) n) (facts_of m)) items ≡ list_any (is_above q x n) items
names_told q x n items = any_as _ (is_above q x n) (name_told q x n) items

pub calls_told : (x : Text) (n : ℕ) (items : List Member) → list_any (λ m. list_any (tells (key call_code x) n) (facts_of m)) items ≡ list_any (is_call_above x n) items
calls_told x n items = any_as _ (is_call_above x n) (λ m. in_parts 4 x n m _ _ (call_told x n m.name m.is_static m.labels) (by_kind_else 4 x n m.name m.kind refl refl) ∙ or_false (is_call_above x n m)) items

-- ---- the table as it grows

pub none_told : (items : List Member) (k : ℕ) (told : Entries) → items ≡ [] → told ≡ [] → AreTold (drop k items) told
unfolding level
none_told items k told e f x n = ap (λ es. nat_lt n (level x es)) f ∙ sym (none_above true n) ∙ sym (ap (list_any (λ m. list_any (tells x n) (facts_of m))) (drop_all k items (subst (λ l. length l ≤ k) (sym e) (omega arith))))

-- one more, after the first few
pub told_more : (items again : List Member) (k : ℕ) (item : Member) (facts : List Fact) (old mid new : Entries) → k ≤ length items → again ≡ items ++ item ∷ [] → facts ≡ facts_of item
    → ((x : Text) → level x mid ≡ level x old) → ((x : Text) (n : ℕ) → nat_lt n (level x new) ≡ (nat_lt n (level x mid) || list_any (tells x n) facts)) → AreTold (drop k items) old → AreTold (drop k again) new
told_more items again k item facts old mid new h e f m r i x n =
    let told = λ (m : Member). list_any (tells x n) (facts_of m) in
    r x n ∙ ap (λ l. nat_lt n l || list_any (tells x n) facts) (m x) ∙ ap (λ t. t || list_any (tells x n) facts) (i x n)
    ∙ ap (λ fs. list_any told (drop k items) || list_any (tells x n) fs) f
    ∙ ap (λ t. list_any told (drop k items) || t) (sym (or_false (told item)))
    ∙ sym (list_any-append told (drop k items) (item ∷ []))
    ∙ sym (ap (list_any told) (ap (drop k) e ∙ drop-append-le k items (item ∷ []) h))
