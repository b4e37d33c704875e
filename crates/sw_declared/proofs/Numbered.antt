-- The funcs of declarations, as they are numbered.
use Rattle.std.proofs.Common.{◌≡◌, ℕ, ◌+◌, ◌<◌, ◌≤◌, List, ◌∷◌, ◌++◌, drop, length, get_or, sym, ap, ◌∙◌, append_assoc}
use Rattle.std.proofs.lemmas.List.{drop_more, drop_all}
use Rattle.sw_tree.specs.declared.decl.Decl.{Decl}
use Rattle.sw_declared.specs.declared.names.DeclaredFunc.{DeclaredFunc}
use Rattle.sw_declared.specs.Declarations.{count_types, funcs_in, funcs_from}
use Rattle.sw_declared.proofs.Pushed.{append_nil}

pub funcs_step : (n n1 : ℕ) (out out1 all : List DeclaredFunc) (decls : List Decl) (i : ℕ) (x : Decl) → i < length decls → x ≡ get_or decls i x → n1 ≡ n + count_types x
    → out ++ funcs_from n (drop i decls) ≡ all → out1 ≡ out ++ funcs_in (record { 0 = n }) x → out1 ++ funcs_from n1 (drop (i + 1) decls) ≡ all
unfolding funcs_from
funcs_step n n1 out out1 all decls i x h e p k q =
    let rest = drop (i + 1) decls in
    ap (λ o. o ++ funcs_from n1 rest) q ∙ ap (λ m. (out ++ funcs_in (record { 0 = n }) x) ++ funcs_from m rest) p
    ∙ append_assoc out (funcs_in (record { 0 = n }) x) (funcs_from (n + count_types x) rest)
    ∙ ap (λ l. out ++ funcs_from n l) (ap (λ z. z ∷ rest) e ∙ sym (drop_more decls i x h)) ∙ k

pub funcs_end : (n : ℕ) (out all : List DeclaredFunc) (decls : List Decl) (i : ℕ) → length decls ≤ i → out ++ funcs_from n (drop i decls) ≡ all → out ≡ all
unfolding funcs_from
funcs_end n out all decls i h k = sym (append_nil out) ∙ sym (ap (λ l. out ++ funcs_from n l) (drop_all i decls h)) ∙ k
