-- How members, parameters, cases and requirements are read, part by part.
use Rattle.std.proofs.Common.{◌≡◌, ℕ, ◌-◌, Bool, true, false, not, ◌||◌, ◌&&◌, cond, Option, Some, None, List, [], ◌∷◌, ◌++◌, refl, sym, ap, ◌∙◌}
use Rattle.sw_base.specs.declared.ids.Span.{Span}
use Rattle.sw_lex.specs.declared.token.TokenKind.TheVariants as k
use Rattle.sw_grammar.specs.Grammar as g
use Rattle.sw_grammar.specs.Reading.{Out, got, rejected, out_of_fuel, over_budget, unexpected, ◌>>=◌, at_first, one}
use Rattle.sw_tree.specs.declared.expr.Name.{Name}
use Rattle.sw_tree.specs.declared.expr.Binding.TheVariants as binding
use Rattle.sw_tree.specs.declared.types.«Type».{«Type» as TypeTree}
use Rattle.sw_tree.specs.declared.decl.Modifier.{Modifier}
use Rattle.sw_tree.specs.declared.decl.Parameter.{Parameter}
use Rattle.sw_tree.specs.declared.decl.ParameterLabel.{ParameterLabel}
use Rattle.sw_tree.specs.declared.decl.ParameterLabel.TheVariants as label
use Rattle.sw_tree.specs.declared.decl.Member.{Member}
use Rattle.sw_tree.specs.declared.decl.Member.TheVariants as m
use Rattle.sw_tree.specs.declared.decl.Accessor.{Accessor}
use Rattle.sw_tree.specs.declared.decl.Accessor.TheVariants as accessor
use Rattle.sw_tree.specs.declared.decl.EnumItem.TheVariants as item
use Rattle.sw_tree.specs.declared.decl.Requirement.TheVariants as requirement
use Rattle.sw_tree.specs.declared.decl.Case.{Case as CaseTree}
use Rattle.sw_tree.specs.declared.decl.Payload.{Payload as PayloadTree}
use Rattle.sw_syntax.specs.Tokens.{Sighted, Face}
use Rattle.sw_syntax.specs.Tests.{is, is_name, is_get, is_getter, is_no_getter, is_payload_label, is_bare_type, is_other_label}
use Rattle.sw_syntax.specs.Values.{name_of}
use Rattle.sw_syntax.specs.Forms.{or_empty, initial_var, computed_var, typed_var, or_untyped, stored_var, or_no_statement, own_or_other, other_label, Named}
use Rattle.sw_syntax.specs.Nonterminals.{Members, EnumItems, Requirements, InBlock, Item, Param, Case, Payload, TypeExpr, Block, Statements, SomeStatements, Expr, Body}
use Rattle.sw_syntax.specs.Parts.{P, ◌·◌, ◌∣◌, tok, place, name, present, after, some, any, in_parens, in_braces, whole_expr, whole_type}
use Rattle.sw_syntax.specs.Grammar.{annotation, initial, mods, params, signature, getter, modified_member}
use Rattle.sw_syntax.specs.Tables.{first_table, starts_stmt}
use Rattle.sw_syntax.specs.Answering.{read, read_part, Takes}
use Rattle.sw_syntax.specs.Bodies.{put, body_from, annotation_part, initial_part}
use Rattle.sw_syntax.specs.Members.{mods_from, typealias_part, member_from, signature_from, flag_part, mark_part, params_part, param_list, more_params, param_names, var_from, typed_from, getter_part, accessor_part, get_block, case_list, more_cases, payload_part, payload_list, more_payloads}
use Rattle.sw_syntax.proofs.Equations.{step, bind_assoc, bind_same, chosen, first_left, first_right}
use Rattle.sw_syntax.proofs.PartEquations.{both_on, gives_on, limited_on, mark_on, led_on, place_on, after_on, past_on, name_on, there_on, absent_on, first_on, second_on, when_on, braces_none, braces_deep, braces_open, braces_on, parens_none, parens_deep, parens_open, parens_on, some_first, any_none, any_first, more_end, more_more, maybe_none, maybe_some, after_mark_type, first_neither}
use Rattle.sw_syntax.proofs.DeclEquations.{mods_start}

-- ---- parameters

pub params_none : (lenient : Bool) → (d l c : ℕ) (ts : List Sighted) → at_first (is k.LeftParen) ts ≡ false → params_part lenient d l c ts ≡ rejected unexpected ts
unfolding params_part
params_none lenient d l c ts h = parens_none lenient (any (g.nonterminal Param)) d l c ts h

pub params_deep : (lenient : Bool) → (d l c : ℕ) (ts : List Sighted) → at_first (is k.LeftParen) ts ≡ true → d ≡ 0 → params_part lenient d l c ts ≡ rejected over_budget ts
unfolding params_part
params_deep lenient d l c ts h z = parens_deep lenient (any (g.nonterminal Param)) d l c ts h z

pub params_open : (lenient : Bool) → (d l c : ℕ) (ts : List Sighted) (f : Face) (r : List Sighted) → (d ≡ 0 → ⊥) → Takes (is k.LeftParen) ts f r
    → params_part lenient d l c ts ≡ (param_list lenient (d - 1) l c r >>= (λ xs c1 r1. one (is k.RightParen) c1 r1 >>= (λ _ c2 r2. got xs c2 r2)))
unfolding params_part param_list
params_open lenient d l c ts f r z takes = parens_open lenient (any (g.nonterminal Param)) d l c ts f r z takes

pub param_list_none : (lenient : Bool) → (d l c : ℕ) (ts : List Sighted) → at_first (first_table Param) ts ≡ false → param_list lenient d l c ts ≡ got [] c ts
unfolding param_list
param_list_none lenient d l c ts h = any_none lenient (g.nonterminal Param) d l c ts h

pub param_list_first : (lenient : Bool) → (d l c : ℕ) (ts : List Sighted) → at_first (first_table Param) ts ≡ true → param_list lenient d l c ts ≡ (read lenient Param d l c ts >>= (λ x c' r. more_params lenient d l c' (x ∷ []) r))
unfolding param_list
param_list_first lenient d l c ts h = any_first lenient (g.nonterminal Param) d l c ts h

pub more_params_end : (lenient : Bool) → (d l c : ℕ) (xs : List Parameter) (ts : List Sighted) → at_first (is k.Comma) ts ≡ false → more_params lenient d l c xs ts ≡ got xs c ts
more_params_end lenient d l c xs ts h = more_end lenient (g.nonterminal Param) tt d l c xs ts h

pub more_params_more : (lenient : Bool) → (d l c : ℕ) (xs : List Parameter) (ts : List Sighted) (f : Face) (r : List Sighted) → at_first (is k.Comma) ts ≡ true → Takes (is k.Comma) ts f r
    → more_params lenient d l c xs ts ≡ (read lenient Param d l c r >>= (λ x c' r'. more_params lenient d l c' (xs ++ x ∷ []) r'))
more_params_more lenient d l c xs ts f r h takes = more_more lenient (g.nonterminal Param) tt d l c xs ts f r h takes

abbrev own_names : P (ParameterLabel × Name)
own_names = g.gives (λ x. own_or_other x.0 x.1) (name · g.maybe name)

abbrev other_names : P (ParameterLabel × Name)
other_names = g.gives (λ x. other_label x.0 x.1) (g.terminal is_other_label · name)

abbrev param_type : P (Option Span × (TypeTree × Option Span))
param_type = g.maybe (place k.Inout) · whole_type · g.maybe (place k.Ellipsis)

pub param_step : (lenient : Bool) → (d l c : ℕ) (ts : List Sighted)
    → read lenient Param d l c ts ≡ (param_names lenient d l c ts >>= (λ x c1 r1. one (is k.Colon) c1 r1 >>= (λ _ c2 r2. mark_part lenient k.Inout d l c2 r2 >>= (λ i c3 r3. read lenient TypeExpr d l l r3 >>= (λ t _ r4. mark_part lenient k.Ellipsis d l c3 r4 >>= (λ v c5 r5.
    got (record { label = x.0; name = x.1; inout = i; declared = t; variadic = v }) c5 r5))))))
unfolding param_names mark_part
param_step lenient d l c ts = step lenient Param d l c ts
    ∙ both_on lenient (own_names ∣ other_names) (after (tok k.Colon) param_type) d l c ts _
    ∙ bind_same (param_names lenient d l c ts) _ _ (λ x c1 r1. after_on lenient (tok k.Colon) param_type d l c1 r1 _
    ∙ bind_same (one (is k.Colon) c1 r1) _ _ (λ _ c2 r2. both_on lenient (g.maybe (place k.Inout)) (whole_type · g.maybe (place k.Ellipsis)) d l c2 r2 _
    ∙ bind_same (mark_part lenient k.Inout d l c2 r2) _ _ (λ i c3 r3. both_on lenient whole_type (g.maybe (place k.Ellipsis)) d l c3 r3 _
    ∙ limited_on lenient (g.nonterminal TypeExpr) d l c3 r3 _)))

own_step : (lenient : Bool) → (d l c : ℕ) (ts : List Sighted) (f : Face) (r : List Sighted) → at_first is_name ts ≡ true → Takes is_name ts f r
    → param_names lenient d l c ts ≡ (read_part lenient (g.maybe name) d l c r >>= (λ n c' r'. got (own_or_other (name_of f) n) c' r'))
unfolding param_names
own_step lenient d l c ts f r h takes = chosen (at_first is_name ts) true _ _ h
    ∙ both_on lenient name (g.maybe name) d l c ts _
    ∙ name_on lenient d l c ts _
    ∙ mark_on lenient is_name d l c ts f r _ takes

pub param_own : (lenient : Bool) → (d l c : ℕ) (ts : List Sighted) (f : Face) (r : List Sighted) → at_first is_name ts ≡ true → Takes is_name ts f r → at_first is_name r ≡ false
    → param_names lenient d l c ts ≡ got (label.Own, name_of f) c r
param_own lenient d l c ts f r h takes h' = own_step lenient d l c ts f r h takes ∙ absent_on lenient name d l c r _ h'

pub param_two : (lenient : Bool) → (d l c : ℕ) (ts : List Sighted) (f : Face) (r : List Sighted) (f' : Face) (r' : List Sighted) → at_first is_name ts ≡ true → Takes is_name ts f r → at_first is_name r ≡ true → Takes is_name r f' r'
    → param_names lenient d l c ts ≡ got (label.Other (name_of f), name_of f') c r'
param_two lenient d l c ts f r f' r' h takes h' takes' = own_step lenient d l c ts f r h takes ∙ there_on lenient name d l c r _ h' ∙ name_on lenient d l c r _ ∙ mark_on lenient is_name d l c r f' r' _ takes'

pub param_other : (lenient : Bool) → (d l c : ℕ) (ts : List Sighted) → at_first is_name ts ≡ false
    → param_names lenient d l c ts ≡ (one is_other_label c ts >>= (λ f c1 r1. one is_name c1 r1 >>= (λ n c2 r2. got (other_label f (name_of n)) c2 r2)))
unfolding param_names
param_other lenient d l c ts h = chosen (at_first is_name ts) false _ _ h
    ∙ both_on lenient (g.terminal is_other_label) name d l c ts _
    ∙ bind_same (one is_other_label c ts) _ _ (λ f c1 r1. name_on lenient d l c1 r1 _)

-- ---- members

pub member_typealias : (lenient : Bool) → (d l c : ℕ) (ts : List Sighted) → at_first (is k.Typealias) ts ≡ true → read lenient (Item Members) d l c ts ≡ (typealias_part lenient d l c ts >>= (λ x c' r. got (m.Typealias x) c' r))
unfolding typealias_part
member_typealias lenient d l c ts h = step lenient (Item Members) d l c ts ∙ chosen (at_first (is k.Typealias) ts) true _ _ h

pub member_modified : (lenient : Bool) → (d l c : ℕ) (ts : List Sighted) → at_first (is k.Typealias) ts ≡ false
    → read lenient (Item Members) d l c ts ≡ (mods_from lenient d l c [] ts >>= (λ modifiers c' r. member_from lenient d l c' modifiers r))
unfolding member_from
member_modified lenient d l c ts h = step lenient (Item Members) d l c ts ∙ chosen (at_first (is k.Typealias) ts) false _ _ h
    ∙ both_on lenient mods modified_member d l c ts _
    ∙ ap (λ o. o >>= (λ modifiers c' r. read_part lenient modified_member d l c' r >>= (λ x c'' r'. got (x modifiers) c'' r'))) (mods_start lenient d l c ts)

abbrev applied : List Modifier → (List Modifier → Member) → ℕ → List Sighted → Out Sighted Member
applied modifiers x c r = got (x modifiers) c r

abbrev on_member : List Modifier → Out Sighted (List Modifier → Member) → Out Sighted Member
on_member modifiers o = o >>= applied modifiers

pub member_let : (lenient : Bool) → (d l c : ℕ) (modifiers : List Modifier) (ts : List Sighted) (f : Face) (r : List Sighted) → at_first (is k.Let) ts ≡ true → Takes (is k.Let) ts f r
    → member_from lenient d l c modifiers ts ≡ (one is_name c r >>= (λ n c1 r1. annotation_part lenient d l c1 r1 >>= (λ t c2 r2. initial_part lenient d l c2 r2 >>= (λ x c3 r3.
    got (m.Stored (record { modifiers = modifiers; binding = binding.Let; name = name_of n; declared = t; initial = x })) c3 r3))))
unfolding member_from annotation_part initial_part
member_let lenient d l c modifiers ts f r h takes = ap (on_member modifiers) (chosen (at_first (is k.Let) ts) true _ _ h)
    ∙ gives_on lenient (λ x modifiers. m.Stored (record { modifiers = modifiers; binding = binding.Let; name = x.0; declared = x.1.0; initial = x.1.1 })) (after (tok k.Let) (name · g.maybe annotation · g.maybe initial)) d l c ts (applied modifiers)
    ∙ past_on lenient (is k.Let) (name · g.maybe annotation · g.maybe initial) d l c ts f r _ takes
    ∙ both_on lenient name (g.maybe annotation · g.maybe initial) d l c r _
    ∙ name_on lenient d l c r _
    ∙ bind_same (one is_name c r) _ _ (λ n c1 r1. both_on lenient (g.maybe annotation) (g.maybe initial) d l c1 r1 _)

abbrev typed_rest : P (TypeTree → Named Member)
typed_rest = g.gives initial_var initial ∣ g.gives computed_var getter

abbrev typed : P (Named Member)
typed = g.gives (λ x. typed_var x.0 x.1) (annotation · g.maybe typed_rest)

abbrev untyped : P (Named Member)
untyped = g.gives (λ x. stored_var None (Some x)) initial

pub member_var : (lenient : Bool) → (d l c : ℕ) (modifiers : List Modifier) (ts : List Sighted) (f : Face) (r : List Sighted) → at_first (is k.Let) ts ≡ false → at_first (is k.Var) ts ≡ true → Takes (is k.Var) ts f r
    → member_from lenient d l c modifiers ts ≡ (one is_name c r >>= (λ n c1 r1. var_from lenient d l c1 modifiers (name_of n) r1))
unfolding member_from var_from
member_var lenient d l c modifiers ts f r h0 h takes = ap (on_member modifiers) (chosen (at_first (is k.Let) ts) false _ _ h0 ∙ chosen (at_first (is k.Var) ts) true _ _ h)
    ∙ gives_on lenient (λ x modifiers. or_untyped x.1 modifiers x.0) (after (tok k.Var) (name · g.maybe (typed ∣ untyped))) d l c ts (applied modifiers)
    ∙ past_on lenient (is k.Var) (name · g.maybe (typed ∣ untyped)) d l c ts f r _ takes
    ∙ both_on lenient name (g.maybe (typed ∣ untyped)) d l c r _
    ∙ name_on lenient d l c r _

abbrev named_on : List Modifier → Name → Option (Named Member) → ℕ → List Sighted → Out Sighted Member
named_on modifiers n x c r = got (or_untyped x modifiers n) c r

pub var_bare : (lenient : Bool) → (d l c : ℕ) (modifiers : List Modifier) (n : Name) (ts : List Sighted) → at_first (is k.Colon) ts ≡ false → at_first (is k.Assign) ts ≡ false → var_from lenient d l c modifiers n ts ≡ got (stored_var None None modifiers n) c ts
unfolding var_from
var_bare lenient d l c modifiers n ts h h' = absent_on lenient (typed ∣ untyped) d l c ts (named_on modifiers n) (first_neither (is k.Colon) (is k.Assign) ts h h')

pub var_typed : (lenient : Bool) → (d l c : ℕ) (modifiers : List Modifier) (n : Name) (ts : List Sighted) (f : Face) (r : List Sighted) → at_first (is k.Colon) ts ≡ true → Takes (is k.Colon) ts f r
    → var_from lenient d l c modifiers n ts ≡ (read lenient TypeExpr d l l r >>= (λ t _ r'. typed_from lenient d l c modifiers n t r'))
unfolding var_from typed_from
var_typed lenient d l c modifiers n ts f r h takes = there_on lenient (typed ∣ untyped) d l c ts (named_on modifiers n) (first_left (is k.Colon) (is k.Assign) ts h)
    ∙ first_on lenient typed untyped d l c ts _ h
    ∙ gives_on lenient (λ x. typed_var x.0 x.1) (annotation · g.maybe typed_rest) d l c ts _
    ∙ both_on lenient annotation (g.maybe typed_rest) d l c ts _
    ∙ past_on lenient (is k.Colon) whole_type d l c ts f r _ takes
    ∙ limited_on lenient (g.nonterminal TypeExpr) d l c r _

pub var_untyped : (lenient : Bool) → (d l c : ℕ) (modifiers : List Modifier) (n : Name) (ts : List Sighted) (f : Face) (r : List Sighted) → at_first (is k.Colon) ts ≡ false → at_first (is k.Assign) ts ≡ true → Takes (is k.Assign) ts f r
    → var_from lenient d l c modifiers n ts ≡ (read lenient Expr d l l r >>= (λ x _ r'. got (stored_var None (Some x) modifiers n) c r'))
unfolding var_from
var_untyped lenient d l c modifiers n ts f r h0 h takes = there_on lenient (typed ∣ untyped) d l c ts (named_on modifiers n) (first_right (is k.Colon) (is k.Assign) ts h)
    ∙ second_on lenient typed untyped d l c ts _ h0
    ∙ gives_on lenient (λ x. stored_var None (Some x)) initial d l c ts _
    ∙ past_on lenient (is k.Assign) whole_expr d l c ts f r _ takes
    ∙ limited_on lenient (g.nonterminal Expr) d l c r _

abbrev typed_on : List Modifier → Name → TypeTree → Option (TypeTree → Named Member) → ℕ → List Sighted → Out Sighted Member
typed_on modifiers n declared x c r = got (typed_var declared x modifiers n) c r

pub typed_bare : (lenient : Bool) → (d l c : ℕ) (modifiers : List Modifier) (n : Name) (declared : TypeTree) (ts : List Sighted) → at_first (is k.Assign) ts ≡ false → at_first (is k.LeftBrace) ts ≡ false
    → typed_from lenient d l c modifiers n declared ts ≡ got (stored_var (Some declared) None modifiers n) c ts
unfolding typed_from
typed_bare lenient d l c modifiers n declared ts h h' = absent_on lenient typed_rest d l c ts (typed_on modifiers n declared) (first_neither (is k.Assign) (is k.LeftBrace) ts h h')

pub typed_initial : (lenient : Bool) → (d l c : ℕ) (modifiers : List Modifier) (n : Name) (declared : TypeTree) (ts : List Sighted) (f : Face) (r : List Sighted) → at_first (is k.Assign) ts ≡ true → Takes (is k.Assign) ts f r
    → typed_from lenient d l c modifiers n declared ts ≡ (read lenient Expr d l l r >>= (λ x _ r'. got (stored_var (Some declared) (Some x) modifiers n) c r'))
unfolding typed_from
typed_initial lenient d l c modifiers n declared ts f r h takes = there_on lenient typed_rest d l c ts (typed_on modifiers n declared) (first_left (is k.Assign) (is k.LeftBrace) ts h)
    ∙ first_on lenient (g.gives initial_var initial) (g.gives computed_var getter) d l c ts _ h
    ∙ gives_on lenient initial_var initial d l c ts _
    ∙ past_on lenient (is k.Assign) whole_expr d l c ts f r _ takes
    ∙ limited_on lenient (g.nonterminal Expr) d l c r _

pub typed_computed : (lenient : Bool) → (d l c : ℕ) (modifiers : List Modifier) (n : Name) (declared : TypeTree) (ts : List Sighted) → at_first (is k.Assign) ts ≡ false → at_first (is k.LeftBrace) ts ≡ true
    → typed_from lenient d l c modifiers n declared ts ≡ (getter_part lenient d l c ts >>= (λ x c' r. got (computed_var x declared modifiers n) c' r))
unfolding typed_from getter_part
typed_computed lenient d l c modifiers n declared ts h0 h = there_on lenient typed_rest d l c ts (typed_on modifiers n declared) (first_right (is k.Assign) (is k.LeftBrace) ts h)
    ∙ second_on lenient (g.gives initial_var initial) (g.gives computed_var getter) d l c ts _ h0
    ∙ gives_on lenient computed_var getter d l c ts _

pub member_func : (lenient : Bool) → (d l c : ℕ) (modifiers : List Modifier) (ts : List Sighted) → at_first (is k.Let) ts ≡ false → at_first (is k.Var) ts ≡ false → at_first (is k.Func) ts ≡ true
    → member_from lenient d l c modifiers ts ≡ (signature_from lenient d l c modifiers ts >>= (λ x c1 r1. read lenient Block d l c1 r1 >>= (λ body c2 r2. got (m.Func (record { signature = x; body = body })) c2 r2)))
unfolding member_from signature_from
member_func lenient d l c modifiers ts h0 h1 h = ap (on_member modifiers) (chosen (at_first (is k.Let) ts) false _ _ h0 ∙ chosen (at_first (is k.Var) ts) false _ _ h1 ∙ chosen (at_first (is k.Func) ts) true _ _ h)
    ∙ gives_on lenient (λ x modifiers. m.Func (record { signature = x.0 modifiers; body = x.1 })) (signature · g.nonterminal Block) d l c ts (applied modifiers)
    ∙ both_on lenient signature (g.nonterminal Block) d l c ts _
    ∙ sym (bind_assoc (read_part lenient signature d l c ts) _ _)

pub member_init : (lenient : Bool) → (d l c : ℕ) (modifiers : List Modifier) (ts : List Sighted) → at_first (is k.Let) ts ≡ false → at_first (is k.Var) ts ≡ false → at_first (is k.Func) ts ≡ false
    → member_from lenient d l c modifiers ts ≡ (one (is k.Init) c ts >>= (λ f c1 r1. params_part lenient d l c1 r1 >>= (λ ps c2 r2. flag_part lenient k.Throws d l c2 r2 >>= (λ t c3 r3. read lenient Block d l c3 r3 >>= (λ body c4 r4.
    got (m.Initializer (record { modifiers = modifiers; span = f.span; parameters = ps; throws = t; body = body })) c4 r4)))))
unfolding member_from params_part flag_part
member_init lenient d l c modifiers ts h0 h1 h2 = ap (on_member modifiers) (chosen (at_first (is k.Let) ts) false _ _ h0 ∙ chosen (at_first (is k.Var) ts) false _ _ h1 ∙ chosen (at_first (is k.Func) ts) false _ _ h2)
    ∙ gives_on lenient (λ x modifiers. m.Initializer (record { modifiers = modifiers; span = x.0; parameters = x.1.0; throws = x.1.1.0; body = x.1.1.1 })) (place k.Init · params · present (tok k.Throws) · g.nonterminal Block) d l c ts (applied modifiers)
    ∙ both_on lenient (place k.Init) (params · present (tok k.Throws) · g.nonterminal Block) d l c ts _
    ∙ place_on lenient k.Init d l c ts _
    ∙ bind_same (one (is k.Init) c ts) _ _ (λ f c1 r1. both_on lenient params (present (tok k.Throws) · g.nonterminal Block) d l c1 r1 _
    ∙ bind_same (params_part lenient d l c1 r1) _ _ (λ ps c2 r2. both_on lenient (present (tok k.Throws)) (g.nonterminal Block) d l c2 r2 _))

-- ---- getters

abbrev get_body : P Accessor
get_body = g.gives accessor.Get (after (g.terminal is_getter) (g.nonterminal Block))

abbrev bare_body : P Accessor
bare_body = g.gives (λ body. accessor.Body body.0) (g.when is_no_getter (g.nonterminal (SomeStatements InBlock)))

pub getter_none : (lenient : Bool) → (d l c : ℕ) (ts : List Sighted) → at_first (is k.LeftBrace) ts ≡ false → getter_part lenient d l c ts ≡ rejected unexpected ts
unfolding getter_part
getter_none lenient d l c ts h = ap (λ o. o >>= (λ x c' r. got (or_no_statement x) c' r)) (braces_none lenient (g.maybe (get_body ∣ bare_body)) d l c ts h)

pub getter_deep : (lenient : Bool) → (d l c : ℕ) (ts : List Sighted) → at_first (is k.LeftBrace) ts ≡ true → d ≡ 0 → getter_part lenient d l c ts ≡ rejected over_budget ts
unfolding getter_part
getter_deep lenient d l c ts h z = ap (λ o. o >>= (λ x c' r. got (or_no_statement x) c' r)) (braces_deep lenient (g.maybe (get_body ∣ bare_body)) d l c ts h z)

pub getter_open : (lenient : Bool) → (d l c : ℕ) (ts : List Sighted) (f : Face) (r : List Sighted) → (d ≡ 0 → ⊥) → Takes (is k.LeftBrace) ts f r
    → getter_part lenient d l c ts ≡ (accessor_part lenient (d - 1) l c r >>= (λ x c1 r1. one (is k.RightBrace) c1 r1 >>= (λ _ c2 r2. got x c2 r2)))
unfolding getter_part accessor_part
getter_open lenient d l c ts f r z takes = braces_on lenient (g.maybe (get_body ∣ bare_body)) d l c ts f r _ z takes
    ∙ sym (bind_assoc (read_part lenient (g.maybe (get_body ∣ bare_body)) (d - 1) l c r) _ _)

abbrev or_no : Option Accessor → ℕ → List Sighted → Out Sighted Accessor
or_no x c r = got (or_no_statement x) c r

pub accessor_get : (lenient : Bool) → (d l c : ℕ) (ts : List Sighted) (f : Face) (r : List Sighted) → at_first is_getter ts ≡ true → Takes is_getter ts f r
    → accessor_part lenient d l c ts ≡ (read lenient Block d l c r >>= (λ body c' r'. got (accessor.Get body) c' r'))
unfolding accessor_part
accessor_get lenient d l c ts f r h takes = there_on lenient (get_body ∣ bare_body) d l c ts or_no (first_left is_getter (λ t. is_no_getter t && starts_stmt t) ts h)
    ∙ first_on lenient get_body bare_body d l c ts _ h
    ∙ gives_on lenient accessor.Get (after (g.terminal is_getter) (g.nonterminal Block)) d l c ts _
    ∙ past_on lenient is_getter (g.nonterminal Block) d l c ts f r _ takes

bare_as : (c : ℕ) (ts : List Sighted) (get stmt : Bool) (getter : Out Sighted Accessor) (body off : Out Sighted Body) → get ≡ false
    → (cond (get || (not get && stmt)) (cond get getter (cond (not get) body off >>= (λ x c r. got (accessor.Body x.0) c r)) >>= (λ x c r. got (Some x) c r)) (got None c ts) >>= or_no)
    ≡ (((cond stmt (body >>= (λ x c r. got (Some x) c r)) (got None c ts) >>= (λ x c r. got (or_empty x) c r)) >>= (λ x c r. got (put [] x) c r)) >>= (λ x c r. got (accessor.Body x.0) c r))
bare_as c ts true stmt getter body off h = absurd cc
bare_as c ts false false getter body off h = refl
bare_as c ts false true getter (got x c' r) off h = refl
bare_as c ts false true getter (rejected reason r) off h = refl
bare_as c ts false true getter out_of_fuel off h = refl

pub accessor_body : (lenient : Bool) → (d l c : ℕ) (ts : List Sighted) → at_first is_getter ts ≡ false → accessor_part lenient d l c ts ≡ (body_from lenient InBlock d l c [] ts >>= (λ body c' r. got (accessor.Body body.0) c' r))
unfolding accessor_part body_from
accessor_body lenient d l c [] h = ap (λ o. (o >>= (λ x c r. got (put [] x) c r)) >>= (λ (x : Body) c r. got (accessor.Body x.0) c r)) (sym (step lenient (Statements InBlock) d l c []))
accessor_body lenient d l c (t ∷ ts) h =
    bare_as c (t ∷ ts) (is_getter t.sight) (starts_stmt t.sight) (read_part lenient get_body d l c (t ∷ ts)) (read lenient (SomeStatements InBlock) d l c (t ∷ ts)) (rejected unexpected (t ∷ ts)) h
    ∙ ap (λ o. (o >>= (λ x c r. got (put [] x) c r)) >>= (λ (x : Body) c r. got (accessor.Body x.0) c r)) (sym (step lenient (Statements InBlock) d l c (t ∷ ts)))

-- ---- cases

pub item_cases : (lenient : Bool) → (d l c : ℕ) (ts : List Sighted) (f : Face) (r : List Sighted) → at_first (is k.Case) ts ≡ true → Takes (is k.Case) ts f r
    → read lenient (Item EnumItems) d l c ts ≡ (case_list lenient d l c r >>= (λ xs c' r'. got (item.Cases xs) c' r'))
unfolding case_list
item_cases lenient d l c ts f r h takes = step lenient (Item EnumItems) d l c ts ∙ chosen (at_first (is k.Case) ts) true _ _ h ∙ past_on lenient (is k.Case) (some (g.nonterminal Case)) d l c ts f r _ takes

pub item_member : (lenient : Bool) → (d l c : ℕ) (ts : List Sighted) → at_first (is k.Case) ts ≡ false → read lenient (Item EnumItems) d l c ts ≡ (read lenient (Item Members) d l c ts >>= (λ x c' r. got (item.Member x) c' r))
item_member lenient d l c ts h = step lenient (Item EnumItems) d l c ts ∙ chosen (at_first (is k.Case) ts) false _ _ h

pub cases_first : (lenient : Bool) → (d l c : ℕ) (ts : List Sighted) → case_list lenient d l c ts ≡ (read lenient Case d l c ts >>= (λ x c' r. more_cases lenient d l c' (x ∷ []) r))
unfolding case_list
cases_first lenient d l c ts = some_first lenient (g.nonterminal Case) d l c ts

pub cases_end : (lenient : Bool) → (d l c : ℕ) (xs : List CaseTree) (ts : List Sighted) → at_first (is k.Comma) ts ≡ false → more_cases lenient d l c xs ts ≡ got xs c ts
cases_end lenient d l c xs ts h = more_end lenient (g.nonterminal Case) tt d l c xs ts h

pub cases_more : (lenient : Bool) → (d l c : ℕ) (xs : List CaseTree) (ts : List Sighted) (f : Face) (r : List Sighted) → at_first (is k.Comma) ts ≡ true → Takes (is k.Comma) ts f r
    → more_cases lenient d l c xs ts ≡ (read lenient Case d l c r >>= (λ x c' r'. more_cases lenient d l c' (xs ++ x ∷ []) r'))
cases_more lenient d l c xs ts f r h takes = more_more lenient (g.nonterminal Case) tt d l c xs ts f r h takes

pub case_step : (lenient : Bool) → (d l c : ℕ) (ts : List Sighted) → read lenient Case d l c ts ≡ (one is_name c ts >>= (λ n c1 r1. payload_part lenient d l c1 r1 >>= (λ x c2 r2. got (record { name = name_of n; payload = x }) c2 r2)))
unfolding payload_part
case_step lenient d l c ts = step lenient Case d l c ts
    ∙ both_on lenient name (g.maybe (in_parens (any (g.nonterminal Payload)))) d l c ts _
    ∙ name_on lenient d l c ts _

pub payload_none : (lenient : Bool) → (d l c : ℕ) (ts : List Sighted) → at_first (is k.LeftParen) ts ≡ false → payload_part lenient d l c ts ≡ got None c ts
unfolding payload_part
payload_none lenient d l c ts h = maybe_none lenient (in_parens (any (g.nonterminal Payload))) d l c ts h

pub payload_deep : (lenient : Bool) → (d l c : ℕ) (ts : List Sighted) → at_first (is k.LeftParen) ts ≡ true → d ≡ 0 → payload_part lenient d l c ts ≡ rejected over_budget ts
unfolding payload_part
payload_deep lenient d l c ts h z = maybe_some lenient (in_parens (any (g.nonterminal Payload))) d l c ts h ∙ ap (λ o. o >>= (λ xs c' r. got (Some xs) c' r)) (parens_deep lenient (any (g.nonterminal Payload)) d l c ts h z)

pub payload_open : (lenient : Bool) → (d l c : ℕ) (ts : List Sighted) (f : Face) (r : List Sighted) → at_first (is k.LeftParen) ts ≡ true → (d ≡ 0 → ⊥) → Takes (is k.LeftParen) ts f r
    → payload_part lenient d l c ts ≡ (payload_list lenient (d - 1) l c r >>= (λ xs c1 r1. one (is k.RightParen) c1 r1 >>= (λ _ c2 r2. got (Some xs) c2 r2)))
unfolding payload_part payload_list
payload_open lenient d l c ts f r h z takes = maybe_some lenient (in_parens (any (g.nonterminal Payload))) d l c ts h ∙ parens_on lenient (any (g.nonterminal Payload)) d l c ts f r _ z takes

pub payloads_none : (lenient : Bool) → (d l c : ℕ) (ts : List Sighted) → at_first (first_table Payload) ts ≡ false → payload_list lenient d l c ts ≡ got [] c ts
unfolding payload_list
payloads_none lenient d l c ts h = any_none lenient (g.nonterminal Payload) d l c ts h

pub payloads_first : (lenient : Bool) → (d l c : ℕ) (ts : List Sighted) → at_first (first_table Payload) ts ≡ true → payload_list lenient d l c ts ≡ (read lenient Payload d l c ts >>= (λ x c' r. more_payloads lenient d l c' (x ∷ []) r))
unfolding payload_list
payloads_first lenient d l c ts h = any_first lenient (g.nonterminal Payload) d l c ts h

pub payloads_end : (lenient : Bool) → (d l c : ℕ) (xs : List PayloadTree) (ts : List Sighted) → at_first (is k.Comma) ts ≡ false → more_payloads lenient d l c xs ts ≡ got xs c ts
payloads_end lenient d l c xs ts h = more_end lenient (g.nonterminal Payload) tt d l c xs ts h

pub payloads_more : (lenient : Bool) → (d l c : ℕ) (xs : List PayloadTree) (ts : List Sighted) (f : Face) (r : List Sighted) → at_first (is k.Comma) ts ≡ true → Takes (is k.Comma) ts f r
    → more_payloads lenient d l c xs ts ≡ (read lenient Payload d l c r >>= (λ x c' r'. more_payloads lenient d l c' (xs ++ x ∷ []) r'))
payloads_more lenient d l c xs ts f r h takes = more_more lenient (g.nonterminal Payload) tt d l c xs ts f r h takes

pub payload_labelled : (lenient : Bool) → (d l c : ℕ) (ts : List Sighted) (f : Face) (r : List Sighted) → at_first is_payload_label ts ≡ true → Takes is_payload_label ts f r
    → read lenient Payload d l c ts ≡ (one (is k.Colon) c r >>= (λ _ c1 r1. read lenient TypeExpr d l l r1 >>= (λ t _ r2. got (record { label = Some (name_of f); declared = t }) c1 r2)))
payload_labelled lenient d l c ts f r h takes = step lenient Payload d l c ts ∙ chosen (at_first is_payload_label ts) true _ _ h
    ∙ led_on lenient is_payload_label annotation d l c ts f r _ takes
    ∙ after_mark_type lenient k.Colon d l c r _

pub payload_bare : (lenient : Bool) → (d l c : ℕ) (ts : List Sighted) → at_first is_payload_label ts ≡ false → at_first is_bare_type ts ≡ true
    → read lenient Payload d l c ts ≡ (read lenient TypeExpr d l l ts >>= (λ t _ r. got (record { label = None; declared = t }) c r))
payload_bare lenient d l c ts h h' = step lenient Payload d l c ts ∙ chosen (at_first is_payload_label ts) false _ _ h
    ∙ when_on lenient is_bare_type whole_type d l c ts _ h'
    ∙ limited_on lenient (g.nonterminal TypeExpr) d l c ts _

pub payload_unexpected : (lenient : Bool) → (d l c : ℕ) (ts : List Sighted) → at_first is_payload_label ts ≡ false → at_first is_bare_type ts ≡ false → read lenient Payload d l c ts ≡ rejected unexpected ts
payload_unexpected lenient d l c ts h h' = step lenient Payload d l c ts ∙ chosen (at_first is_payload_label ts) false _ _ h
    ∙ ap (λ o. o >>= (λ t c' r. got (record { label = None; declared = t }) c' r)) (chosen (at_first is_bare_type ts) false (read_part lenient whole_type d l c ts) (rejected unexpected ts) h')

-- ---- requirements

pub requirement_property : (lenient : Bool) → (d l c : ℕ) (ts : List Sighted) (f : Face) (r : List Sighted) → at_first (is k.Var) ts ≡ true → Takes (is k.Var) ts f r
    → read lenient (Item Requirements) d l c ts ≡ (one is_name c r >>= (λ n c1 r1. one (is k.Colon) c1 r1 >>= (λ _ c2 r2. read lenient TypeExpr d l l r2 >>= (λ t _ r3. get_block lenient d l c2 r3 >>= (λ _ c4 r4.
    got (requirement.Property (name_of n) t) c4 r4)))))
unfolding get_block
requirement_property lenient d l c ts f r h takes = step lenient (Item Requirements) d l c ts ∙ chosen (at_first (is k.Var) ts) true _ _ h
    ∙ past_on lenient (is k.Var) (name · annotation · in_braces (g.terminal is_get)) d l c ts f r _ takes
    ∙ both_on lenient name (annotation · in_braces (g.terminal is_get)) d l c r _
    ∙ name_on lenient d l c r _
    ∙ bind_same (one is_name c r) _ _ (λ n c1 r1. both_on lenient annotation (in_braces (g.terminal is_get)) d l c1 r1 _
    ∙ after_mark_type lenient k.Colon d l c1 r1 _)

pub requirement_func : (lenient : Bool) → (d l c : ℕ) (ts : List Sighted) → at_first (is k.Var) ts ≡ false
    → read lenient (Item Requirements) d l c ts ≡ (mods_from lenient d l c [] ts >>= (λ modifiers c1 r1. signature_from lenient d l c1 modifiers r1 >>= (λ x c2 r2. got (requirement.Func x) c2 r2)))
unfolding signature_from
requirement_func lenient d l c ts h = step lenient (Item Requirements) d l c ts ∙ chosen (at_first (is k.Var) ts) false _ _ h
    ∙ both_on lenient mods signature d l c ts _
    ∙ bind_same (read_part lenient mods d l c ts) _ _ (λ modifiers c1 r1. sym (bind_assoc (read_part lenient signature d l c1 r1) _ _))
    ∙ ap (λ o. o >>= (λ modifiers c1 r1. (read_part lenient signature d l c1 r1 >>= (λ x c2 r2. got (x modifiers) c2 r2)) >>= (λ x c2 r2. got (requirement.Func x) c2 r2))) (mods_start lenient d l c ts)

pub get_block_none : (lenient : Bool) → (d l c : ℕ) (ts : List Sighted) → at_first (is k.LeftBrace) ts ≡ false → get_block lenient d l c ts ≡ rejected unexpected ts
unfolding get_block
get_block_none lenient d l c ts h = braces_none lenient (g.terminal is_get) d l c ts h

pub get_block_deep : (lenient : Bool) → (d l c : ℕ) (ts : List Sighted) → at_first (is k.LeftBrace) ts ≡ true → d ≡ 0 → get_block lenient d l c ts ≡ rejected over_budget ts
unfolding get_block
get_block_deep lenient d l c ts h z = braces_deep lenient (g.terminal is_get) d l c ts h z

pub get_block_open : (lenient : Bool) → (d l c : ℕ) (ts : List Sighted) (f : Face) (r : List Sighted) → (d ≡ 0 → ⊥) → Takes (is k.LeftBrace) ts f r
    → get_block lenient d l c ts ≡ (one is_get c r >>= (λ x c1 r1. one (is k.RightBrace) c1 r1 >>= (λ _ c2 r2. got x c2 r2)))
unfolding get_block
get_block_open lenient d l c ts f r z takes = braces_open lenient (g.terminal is_get) d l c ts f r z takes
