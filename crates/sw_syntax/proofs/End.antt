-- The token for the end of the source stands at the end of a file, and nowhere else in the grammar.
use Rattle.std.proofs.Common.{◌≡◌, ◌⊎◌, Option, inl, inr, ℕ, zero, suc, Bool, true, false, List, [], ◌∷◌, ◌++◌, Some, None, refl, sym, ap, ◌∙◌, subst, append-nil}
use Rattle.sw_lex.specs.declared.token.TokenKind.TheVariants as k
use Rattle.sw_grammar.specs.Grammar as grammar
use Rattle.sw_grammar.specs.Grammar.{Budget}
use Rattle.sw_grammar.specs.Avoiding.{Free, Avoids}
use Rattle.sw_grammar.specs.Checking.{avoids}
use Rattle.sw_grammar.proofs.Avoid as avoid
use Rattle.sw_grammar.proofs.Checked.{avoids_checked}
use Rattle.sw_tree.specs.declared.decl.Decl.{Decl}
use Rattle.sw_syntax.specs.declared.class.Sight.{Sight}
use Rattle.sw_lex.specs.Tables.{same_kind, is_reserved_kind}
use Rattle.sw_syntax.specs.Tokens.{Sighted, Face}
use Rattle.sw_syntax.specs.Tests.{is}
use Rattle.sw_syntax.specs.Nonterminals.{Decls, Members, EnumItems, Requirements, InBlock, InArm, Open, Closed, Nonterminal, Sort, File, ItemList, AfterItem, Item, Param, Case, Payload, TypeExpr, BaseType, Block, Statements, SomeStatements, AfterStatement, AfterReturn, Statement, If, Arms, Condition, Pattern, Caught, Expr, Ternary, Binary, Prefix, Postfix, PostfixForm, Argument, Primary, Elements}
use Rattle.sw_syntax.specs.Grammar.{production}
use Rattle.sw_syntax.specs.Meaning.{Spells, IsViablePrefix}
use Rattle.sw_syntax.specs.Tables.{first_table, follow_last_table, nullable_table}
use Rattle.sw_syntax.proofs.Classes.{each_sight, at_each_sight}

-- the nonterminals of what stands in a file
abbrev in_file : Nonterminal → Bool
in_file File = false
in_file nonterminal = true

abbrev free : Nonterminal → Bool
free x = avoids Sight Face Nonterminal Sort (production false) first_table nullable_table follow_last_table each_sight (is k.End) in_file (production false x)

found : (s : Nonterminal) → free s ≡ true → Avoids Sight Face Nonterminal Sort (is k.End) in_file (production false s)
found s = avoids_checked Sight Face Nonterminal Sort (production false) first_table nullable_table follow_last_table each_sight at_each_sight (is k.End) in_file (production false s)

no_end : (s : Nonterminal) → in_file s ≡ true → Avoids Sight Face Nonterminal Sort (is k.End) in_file (production false s)
unfolding same_kind is_reserved_kind
no_end File h = absurd (cc)
no_end (ItemList l) h = found (ItemList l) refl
no_end (AfterItem l) h = found (AfterItem l) refl
no_end (Item Decls) h = found (Item Decls) refl
no_end (Item Members) h = found (Item Members) refl
no_end (Item EnumItems) h = found (Item EnumItems) refl
no_end (Item Requirements) h = found (Item Requirements) refl
no_end Param h = found Param refl
no_end Case h = found Case refl
no_end Payload h = found Payload refl
no_end TypeExpr h = found TypeExpr refl
no_end BaseType h = found BaseType refl
no_end Block h = found Block refl
no_end (Statements InBlock) h = found (Statements InBlock) refl
no_end (Statements InArm) h = found (Statements InArm) refl
no_end (SomeStatements at) h = found (SomeStatements at) refl
no_end (AfterStatement InBlock ending) h = found (AfterStatement InBlock ending) refl
no_end (AfterStatement InArm ending) h = found (AfterStatement InArm ending) refl
no_end (AfterReturn InBlock) h = found (AfterReturn InBlock) refl
no_end (AfterReturn InArm) h = found (AfterReturn InArm) refl
no_end (Statement Open) h = found (Statement Open) refl
no_end (Statement Closed) h = found (Statement Closed) refl
no_end If h = found If refl
no_end Arms h = found Arms refl
no_end Condition h = found Condition refl
no_end Pattern h = found Pattern refl
no_end Caught h = found Caught refl
no_end Expr h = found Expr refl
no_end Ternary h = found Ternary refl
no_end Prefix h = found Prefix refl
no_end Postfix h = found Postfix refl
no_end PostfixForm h = found PostfixForm refl
no_end Argument h = found Argument refl
no_end Primary h = found Primary refl
no_end Elements h = found Elements refl
no_end (Binary zero) h = found (Binary zero) refl
no_end (Binary (suc zero)) h = found (Binary (suc zero)) refl
no_end (Binary (suc (suc zero))) h = found (Binary (suc (suc zero))) refl
no_end (Binary (suc (suc (suc zero)))) h = found (Binary (suc (suc (suc zero)))) refl
no_end (Binary (suc (suc (suc (suc zero))))) h = found (Binary (suc (suc (suc (suc zero))))) refl
no_end (Binary (suc (suc (suc (suc (suc zero)))))) h = found (Binary (suc (suc (suc (suc (suc zero)))))) refl
no_end (Binary (suc (suc (suc (suc (suc (suc n))))))) h = found (Binary (suc (suc (suc (suc (suc (suc n))))))) refl

pub no_end_in_expr : (budget : Budget) (u : List Sighted) → IsViablePrefix false Expr budget u → Free (is k.End) u
no_end_in_expr budget u = avoid.viable_free Sight Face Nonterminal Sort (production false) (is k.End) in_file no_end Expr refl budget u

-- ---- a file

-- the last token is the end
abbrev pub EndsFile : List Sighted → Type 0
EndsFile u = (v : List Sighted) × (t : Sighted) × (u ≡ v ++ t ∷ []) × (is k.End t.sight ≡ true)

list_spelt : (budget : Budget) (n e : ℕ) (v : List Sighted) (x : Option (List Decl))
    → grammar.Derives_by Sight Face Nonterminal Sort (production false) (grammar.Derives Sight Face Nonterminal Sort (production false) n) (grammar.maybe (grammar.nonterminal (ItemList Decls))) budget.brackets budget.limit budget.left e v x
    → Free (is k.End) v
list_spelt budget n e v None (ev, ec) = subst (Free (is k.End)) (sym ev) tt
list_spelt budget n e v (Some x) p = avoid.spelt_free Sight Face Nonterminal Sort (production false) (is k.End) in_file no_end (ItemList Decls) refl budget v x (n, e, p)

pub spelt_file : (budget : Budget) (u : List Sighted) (x : Sort File) → Spells false File budget u x → EndsFile u
spelt_file budget u x (zero, c, p) = elim p [ ]
spelt_file budget u x (suc n, c, (y, (v, w, e, eu, p, (t, ew, is_end, _, _)), _)) = (v, t, eu ∙ ap (λ w. v ++ w) ew, is_end)

-- a run that a file's text begins with is free of the end, or it is a sentence
pub viable_file : (budget : Budget) (u : List Sighted) → IsViablePrefix false File budget u → Free (is k.End) u ⊎ ((x : Sort File) × Spells false File budget u x)
viable_file budget u (zero, eu) = inl (subst (Free (is k.End)) (sym eu) tt)
viable_file budget u (suc n, inl (inl eu)) = inl (subst (Free (is k.End)) (sym eu) tt)
viable_file budget u (suc n, inl (inr p)) = inl (avoid.viable_free Sight Face Nonterminal Sort (production false) (is k.End) in_file no_end (ItemList Decls) refl budget u (n, p))
viable_file budget u (suc n, inr (v, [], y, e, eu, (z, p, _), q)) = inl (subst (Free (is k.End)) (sym (eu ∙ append-nil v)) (list_spelt budget n e v z p))
viable_file budget u (suc n, inr (v, t ∷ w, y, e, eu, p, (ew, is_end))) =
    inr (_, (suc n, e, ((y, t.face), (v, t ∷ w, e, eu, p, (t, ap (λ w. t ∷ w) ew, is_end, refl, refl)), refl)))
