-- What is found in a whole tree is the first of the refusals of the pass.
use Rattle.std.proofs.Common.{◌≡◌, Option, None, Some, List, [], ◌∙◌, sym, ap, subst}
use Rattle.std.specs.List.{flat_map}
use Rattle.sw_rules.specs.declared.Refusal.{Refusal}
use Rattle.sw_findings.specs.Found.{Has, Finds, keep_all}
use Rattle.sw_tree.specs.declared.decl.Decl.{Decl}
use Rattle.sw_tree.specs.declared.decl.Tree.{Tree}
use Rattle.sw_declared.specs.declared.names.Names.{Names}
use Rattle.sw_declared.specs.Declarations.{declarations}
use Rattle.sw_names.specs.Keys.{file_keys}
use Rattle.sw_names.specs.Pass.{Refuses}
use Rattle.sw_names.specs.Meeting.{repeats}
use Rattle.sw_names.specs.Walk.{decl_broken, all_broken}
use Rattle.sw_names.proofs.Findings.{keep_append}
use Rattle.sw_names.proofs.Told.{IsTold, all_are, are_all}

-- what the law of findings says
abbrev pub FindsFirst : Type 0
FindsFirst = (refusals : List Refusal) → Finds (Has refusals) (keep_all None refusals)

same_finds : (A B : Refusal → Type 0) (found : Option Refusal) → ((r : Refusal) → A r → B r) → ((r : Refusal) → B r → A r) → Finds A found → Finds B found
same_finds A B None to from h = λ r k. h r (from r k)
same_finds A B (Some first) to from h = record { refused = to first h.refused; precedes = λ other k. h.precedes other (from other k) }

pub found_first : FindsFirst → IsTold → (names : Names) (tree : Tree) (decls decls2 : List Decl) (start f1 f2 first : Option Refusal)
    → decls ≡ tree.decls → decls2 ≡ tree.decls → start ≡ None
    → f1 ≡ keep_all start (flat_map (decl_broken names) decls) → f2 ≡ keep_all f1 (repeats [] (flat_map file_keys decls2)) → first ≡ f2
    → names ≡ declarations tree → Finds (Refuses tree) first
unfolding all_broken
found_first finds told names tree decls decls2 start f1 f2 first d d2 z p q s h =
    let later : List Refusal = repeats [] (flat_map file_keys tree.decls) in
    let inside : f1 ≡ keep_all None (flat_map (decl_broken (declarations tree)) tree.decls) =
    p ∙ ap (λ n. keep_all n (flat_map (decl_broken names) decls)) z ∙ ap (λ l. keep_all None (flat_map (decl_broken names) l)) d
    ∙ ap (λ n. keep_all None (flat_map (decl_broken n) tree.decls)) h in
    let all : first ≡ keep_all None (all_broken tree) =
    s ∙ q ∙ ap (λ l. keep_all f1 (repeats [] (flat_map file_keys l))) d2 ∙ ap (λ f. keep_all f later) inside
    ∙ sym (keep_append None (flat_map (decl_broken (declarations tree)) tree.decls) later) in
    subst (Finds (Refuses tree)) (sym all)
    (same_finds (Has (all_broken tree)) (Refuses tree) (keep_all None (all_broken tree)) (all_are told tree) (are_all told tree) (finds (all_broken tree)))
