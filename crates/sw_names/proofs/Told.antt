-- The lists of the code have the refusals of the pass.
use Rattle.std.proofs.Common.{◌≡◌, ◌⊎◌, ◌↔◌, List, [], ◌∷◌, ◌++◌, refl, sym, ap, subst, inl, inr, append_assoc, append-nil}
use Rattle.std.specs.List.{flat_map, list_any}
use Rattle.sw_rules.specs.declared.Refusal.{Refusal}
use Rattle.sw_rules.specs.declared.Rule.TheVariants.{N1}
use Rattle.sw_findings.specs.Found.{Has, when}
use Rattle.sw_tree.specs.declared.decl.Decl.{Decl}
use Rattle.sw_tree.specs.declared.decl.Tree.{Tree}
use Rattle.sw_declared.specs.Declarations.{declarations, members_in}
use Rattle.sw_scope.specs.Events.{Event}
use Rattle.sw_scope.specs.Around.{Around}
use Rattle.sw_scope.specs.Rules.{Breaks}
use Rattle.sw_scope.specs.Walk.{broken}
use Rattle.sw_events.specs.Parts.{parts_of}
use Rattle.sw_names.specs.Keys.{Key, same_key, Repeats, built_in_keys, inner_keys, file_keys}
use Rattle.sw_names.specs.Pass.{aliases_break, import_breaks, around_of, BreaksInside, Refuses}
use Rattle.sw_names.specs.Meeting.{repeats}
use Rattle.sw_names.specs.Walk.{part_broken, inside_broken, decl_broken, all_broken}
use Rattle.sw_names.proofs.Lists.{has_left, has_right, has_either, has_of_one, one_has}

pub repeats_are : (known keys : List Key) (r : Refusal) → Has (repeats known keys) r → Repeats known keys r
unfolding repeats
repeats_are known [] r h = absurd h
repeats_are known (key ∷ keys) r h =
    go (repeats_are (known ++ key ∷ []) keys r) (has_either (when (list_any (same_key key) known) N1 key.at) (repeats (known ++ key ∷ []) keys) r h)
  where
    first : (known2 : List Key) → known ≡ known2 → Has (when (list_any (same_key key) known) N1 key.at) r → Has (when (list_any (same_key key) known2) N1 key.at) r
    first known2 e k = subst (λ l. Has (when (list_any (same_key key) l) N1 key.at) r) e k

    go : (Has (repeats (known ++ key ∷ []) keys) r → Repeats (known ++ key ∷ []) keys r)
        → Has (when (list_any (same_key key) known) N1 key.at) r ⊎ Has (repeats (known ++ key ∷ []) keys) r → Repeats known (key ∷ keys) r
    go rest (inl k) = ([], key, keys, refl, first (known ++ []) (sym (append-nil known)) k)
    go rest (inr k) = let n = rest k in (
      key ∷ n.0,
      n.1,
      n.2,
      ap (λ l. key ∷ l) n.3,
      subst (λ l. Has (when (list_any (same_key n.1) l) N1 n.1.at) r) (append_assoc known (key ∷ []) n.0) n.4,
    )

pub are_repeats : (known keys earlier : List Key) (second : Key) (later : List Key) (r : Refusal)
    → keys ≡ earlier ++ second ∷ later → Has (when (list_any (same_key second) (known ++ earlier)) N1 second.at) r → Has (repeats known keys) r
unfolding repeats
are_repeats known keys [] second later r e h =
    subst (λ l. Has (repeats known l) r) (sym e)
    (has_left (when (list_any (same_key second) known) N1 second.at) (repeats (known ++ second ∷ []) later) r
    (subst (λ l. Has (when (list_any (same_key second) l) N1 second.at) r) (append-nil known) h))
are_repeats known keys (key ∷ earlier) second later r e h =
    subst (λ l. Has (repeats known l) r) (sym e)
    (has_right (when (list_any (same_key key) known) N1 key.at) (repeats (known ++ key ∷ []) (earlier ++ second ∷ later)) r
    (are_repeats (known ++ key ∷ []) (earlier ++ second ∷ later) earlier second later r refl
    (subst (λ l. Has (when (list_any (same_key second) l) N1 second.at) r) (sym (append_assoc known (key ∷ []) earlier)) h)))

-- what the law of the walk says
abbrev pub IsTold : Type 0
IsTold = (around : Around) (events : List Event) (r : Refusal) → Has (broken around events) r ↔ Breaks around events r

inside_are : IsTold → (tree : Tree) (decl : Decl) (r : Refusal) → Has (inside_broken (declarations tree) decl) r → BreaksInside tree decl r
unfolding inside_broken part_broken
inside_are told tree decl r h =
    let n = has_of_one (part_broken (declarations tree) (members_in decl)) (parts_of decl) r h in
    (n.0, n.1, (told (around_of tree decl n.0) n.0.events r).0 n.2)

are_inside : IsTold → (tree : Tree) (decl : Decl) (r : Refusal) → BreaksInside tree decl r → Has (inside_broken (declarations tree) decl) r
unfolding inside_broken part_broken
are_inside told tree decl r h =
    one_has (part_broken (declarations tree) (members_in decl)) (parts_of decl) h.0 r h.1 ((told (around_of tree decl h.0) h.0.events r).1 h.2)

-- the rules that a declaration breaks
DeclRefuses : Tree → Decl → Refusal → Type 0
DeclRefuses tree decl r =
    BreaksInside tree decl r
    ⊎ (Repeats (built_in_keys decl) (inner_keys decl) r
    ⊎ Has (aliases_break decl ++ import_breaks decl) r)

decl_are : IsTold → (tree : Tree) (decl : Decl) (r : Refusal) → Has (decl_broken (declarations tree) decl) r → DeclRefuses tree decl r
unfolding decl_broken DeclRefuses
decl_are told tree decl r h =
    go (has_either (inside_broken (declarations tree) decl) (repeats (built_in_keys decl) (inner_keys decl) ++ (aliases_break decl ++ import_breaks decl)) r h)
  where
    later : Has (repeats (built_in_keys decl) (inner_keys decl)) r ⊎ Has (aliases_break decl ++ import_breaks decl) r
        → Repeats (built_in_keys decl) (inner_keys decl) r ⊎ Has (aliases_break decl ++ import_breaks decl) r
    later (inl k) = inl (repeats_are (built_in_keys decl) (inner_keys decl) r k)
    later (inr k) = inr k

    go : Has (inside_broken (declarations tree) decl) r ⊎ Has (repeats (built_in_keys decl) (inner_keys decl) ++ (aliases_break decl ++ import_breaks decl)) r → DeclRefuses tree decl r
    go (inl k) = inl (inside_are told tree decl r k)
    go (inr k) = inr (later (has_either (repeats (built_in_keys decl) (inner_keys decl)) (aliases_break decl ++ import_breaks decl) r k))

are_decl : IsTold → (tree : Tree) (decl : Decl) (r : Refusal) → DeclRefuses tree decl r → Has (decl_broken (declarations tree) decl) r
unfolding decl_broken DeclRefuses
are_decl told tree decl r (inl k) =
    has_left (inside_broken (declarations tree) decl) (repeats (built_in_keys decl) (inner_keys decl) ++ (aliases_break decl ++ import_breaks decl)) r (are_inside told tree decl r k)
are_decl told tree decl r (inr (inl k)) =
    has_right (inside_broken (declarations tree) decl) (repeats (built_in_keys decl) (inner_keys decl) ++ (aliases_break decl ++ import_breaks decl)) r
    (has_left (repeats (built_in_keys decl) (inner_keys decl)) (aliases_break decl ++ import_breaks decl) r
    (are_repeats (built_in_keys decl) (inner_keys decl) k.0 k.1 k.2 r k.3 k.4))
are_decl told tree decl r (inr (inr k)) =
    has_right (inside_broken (declarations tree) decl) (repeats (built_in_keys decl) (inner_keys decl) ++ (aliases_break decl ++ import_breaks decl)) r
    (has_right (repeats (built_in_keys decl) (inner_keys decl)) (aliases_break decl ++ import_breaks decl) r k)

pub all_are : IsTold → (tree : Tree) (r : Refusal) → Has (all_broken tree) r → Refuses tree r
unfolding all_broken DeclRefuses
all_are told tree r h = go (has_either (flat_map (decl_broken (declarations tree)) tree.decls) (repeats [] (flat_map file_keys tree.decls)) r h)
  where
    go : Has (flat_map (decl_broken (declarations tree)) tree.decls) r ⊎ Has (repeats [] (flat_map file_keys tree.decls)) r → Refuses tree r
    go (inl k) = let n = has_of_one (decl_broken (declarations tree)) tree.decls r k in inl (n.0, n.1, decl_are told tree n.0 r n.2)
    go (inr k) = inr (repeats_are [] (flat_map file_keys tree.decls) r k)

pub are_all : IsTold → (tree : Tree) (r : Refusal) → Refuses tree r → Has (all_broken tree) r
unfolding all_broken DeclRefuses
are_all told tree r (inl k) =
    has_left (flat_map (decl_broken (declarations tree)) tree.decls) (repeats [] (flat_map file_keys tree.decls)) r
    (one_has (decl_broken (declarations tree)) tree.decls k.0 r k.1 (are_decl told tree k.0 r k.2))
are_all told tree r (inr k) =
    has_right (flat_map (decl_broken (declarations tree)) tree.decls) (repeats [] (flat_map file_keys tree.decls)) r
    (are_repeats [] (flat_map file_keys tree.decls) k.0 k.1 k.2 r k.3 k.4)
