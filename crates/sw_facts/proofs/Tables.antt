-- What is known of the types of declarations, as a loop finds it.
use Rattle.std.proofs.Common.{◌≡◌, ℕ, ◌+◌, ◌<◌, ◌≤◌, List, ◌∷◌, ◌++◌, drop, length, get_or, sym, ap, ◌∙◌, append_assoc}
use Rattle.std.proofs.lemmas.List.{drop_more, drop_all}
use Rattle.sw_tree.specs.declared.decl.Decl.{Decl}
use Rattle.sw_declared.specs.Declarations.{count_types, funcs_in}
use Rattle.sw_declared.specs.declared.names.Names.{Names}
use Rattle.sw_type_table.specs.declared.entry.TypeEntry.{TypeEntry}
use Rattle.sw_typing.specs.declared.facts.TypeFacts.{TypeFacts}
use Rattle.sw_facts.specs.Numbers.{any_owner}
use Rattle.sw_facts.specs.Known.{entry_at, known_of, types_from}
use Rattle.sw_facts.proofs.Lists.{append_nil}

pub types_step : (names : Names) (table : List TypeEntry) (k k1 f f1 : ℕ) (out out1 all : List TypeFacts) (decls : List Decl) (i : ℕ) (x : Decl) → i < length decls → x ≡ get_or decls i x
    → k1 ≡ k + count_types x → f1 ≡ f + length (funcs_in any_owner x) → out ++ types_from names table k f (drop i decls) ≡ all
    → out1 ≡ out ++ known_of names k f x (entry_at table k x) → out1 ++ types_from names table k1 f1 (drop (i + 1) decls) ≡ all
unfolding types_from
types_step names table k k1 f f1 out out1 all decls i x h e p p' q r =
    let rest = drop (i + 1) decls in
    let here = known_of names k f x (entry_at table k x) in
    ap (λ o. o ++ types_from names table k1 f1 rest) r
    ∙ ap (λ m. (out ++ here) ++ types_from names table m f1 rest) p
    ∙ ap (λ m. (out ++ here) ++ types_from names table (k + count_types x) m rest) p'
    ∙ append_assoc out here (types_from names table (k + count_types x) (f + length (funcs_in any_owner x)) rest)
    ∙ ap (λ l. out ++ types_from names table k f l) (ap (λ z. z ∷ rest) e ∙ sym (drop_more decls i x h)) ∙ q

pub types_end : (names : Names) (table : List TypeEntry) (k f : ℕ) (out all : List TypeFacts) (decls : List Decl) (i : ℕ) → length decls ≤ i
    → out ++ types_from names table k f (drop i decls) ≡ all → out ≡ all
unfolding types_from
types_end names table k f out all decls i h q = sym (append_nil out) ∙ sym (ap (λ l. out ++ types_from names table k f l) (drop_all i decls h)) ∙ q
