-- Declarations of alike texts are alike.
use Rattle.std.proofs.Common.{◌≡◌, Bool, false, inl, inr, List, map, Option, Some, None, refl, ap}
use Rattle.sw_base.specs.declared.ids.Span.{Span}
use Rattle.sw_lex.specs.declared.token.TokenKind.{TokenKind}
use Rattle.sw_lex.specs.declared.token.TokenKind.TheVariants as k
use Rattle.sw_grammar.specs.Grammar.{terminal, maybe, gives, when}
use Rattle.sw_grammar.specs.Grammar as g
use Rattle.sw_tree.specs.Erased.{nowhere, option_map, erase_name, erase_expr, erase_type, erase_stmt, erase_modifier, erase_typealias, erase_heading, erase_label, erase_parameter, erase_signature, erase_accessor, erase_member, erase_payload, erase_case, erase_item, erase_requirement, erase_decl, erase}
use Rattle.sw_tree.specs.declared.expr.Name.{Name}
use Rattle.sw_tree.specs.declared.expr.Expr.{Expr as ExprTree}
use Rattle.sw_tree.specs.declared.types.«Type».{«Type» as TypeTree}
use Rattle.sw_tree.specs.declared.decl.Accessor.{Accessor}
use Rattle.sw_tree.specs.declared.decl.Accessor.TheVariants as accessor
use Rattle.sw_tree.specs.declared.decl.Decl.{Decl}
use Rattle.sw_tree.specs.declared.decl.Decl.TheVariants as d
use Rattle.sw_tree.specs.declared.decl.EnumItem.TheVariants as item
use Rattle.sw_tree.specs.declared.decl.Heading.{Heading}
use Rattle.sw_tree.specs.declared.decl.Member.{Member}
use Rattle.sw_tree.specs.declared.decl.Member.TheVariants as m
use Rattle.sw_tree.specs.declared.decl.Modifier.{Modifier}
use Rattle.sw_tree.specs.declared.decl.Parameter.{Parameter}
use Rattle.sw_tree.specs.declared.decl.ParameterLabel.{ParameterLabel}
use Rattle.sw_tree.specs.declared.decl.Requirement.TheVariants as r
use Rattle.sw_tree.specs.declared.decl.Signature.{Signature}
use Rattle.sw_syntax.specs.Tokens.{Face}
use Rattle.sw_syntax.specs.Tests.{is_first, is_actor, is_get, is_getter, is_no_getter, is_other_label, is_modifier}
use Rattle.sw_syntax.specs.Values.{or_none, name_of}
use Rattle.sw_syntax.specs.Forms.{Named, modifier_of, stored_var, initial_var, computed_var, typed_var, or_untyped, or_no_statement, own_or_other, label_in, other_label}
use Rattle.sw_syntax.specs.Nonterminals.{ItemKind, Decls, Members, EnumItems, Requirements, InBlock, File, ItemList, AfterItem, Item, Param, Case, Payload, Block, SomeStatements}
use Rattle.sw_syntax.specs.Parts.{P, ◌·◌, ◌∣◌, tok, place, name, present, after, some, any, in_parens, in_braces, whole_type}
use Rattle.sw_syntax.specs.Grammar.{production, annotation, initial, list_of, mods, heading, typealias, params, signature, modified_decl, getter, let_property, var_property, initializer, modified_member}
use Rattle.sw_places.specs.Places.{erase_listed}
use Rattle.sw_places.proofs.NearParts.{Near, Keeps, put, meet, names, options, lists, presents, behinds, behind_near, braces_near, braces, parens, somes, anys, or_none_lists}
use Rattle.sw_places.proofs.NearPattern.{near_annotation, near_initial}

-- ---- lists of items

pub near_list : (l : ItemKind) → Keeps (list_of l) (map (erase_listed l))
near_list l = or_none_lists (g.nonterminal (ItemList l)) (erase_listed l) (λ x y p. p)

pub near_some : (l : ItemKind) → Keeps (production false (ItemList l)) (map (erase_listed l))
near_some l x y (v, w, (p, q), ex, ey) = meet (map (erase_listed l)) ex ey cc

pub near_rest : (l : ItemKind) → Keeps (production false (AfterItem l)) (map (erase_listed l))
near_rest l = or_none_lists (after (tok k.Semicolon) (list_of l) ∣ when is_first (g.nonterminal (ItemList l))) (erase_listed l) go
  where
    go : Keeps (after (tok k.Semicolon) (list_of l) ∣ when is_first (g.nonterminal (ItemList l))) (map (erase_listed l))
    go x y (inl p) = behinds (tok k.Semicolon) (list_of l) (map (erase_listed l)) (near_list l) x y p
    go x y (inr p) = p

pub near_file : Keeps (production false File) erase
near_file x y (v, w, p, ex, ey) = meet erase ex ey (let a = near_list Decls v.0 w.0 p.0 in cc)

-- ---- parameters and payloads

no_place_same : (kind : TokenKind) → Keeps (maybe (place kind)) (option_map (λ (at : Span). nowhere))
no_place_same kind = options (place kind) (λ (at : Span). nowhere) (λ x y p. refl)

label_erased : (kind : TokenKind) (other : Name) → erase_label (label_in kind other) ≡ label_in kind (erase_name other)
label_erased k.Underscore other = refl
label_erased kind other = refl

abbrev erase_labelled : ParameterLabel × Name → ParameterLabel × Name
erase_labelled x = (erase_label x.0, erase_name x.1)

abbrev labelled : P (ParameterLabel × Name)
labelled = gives (λ x. own_or_other x.0 x.1) (name · maybe name) ∣ gives (λ x. other_label x.0 x.1) (terminal is_other_label · name)

near_labelled : Keeps labelled erase_labelled
near_labelled x y (inl ((v, None), (w, None), (p, q), ex, ey)) = meet erase_labelled ex ey (let a = names v w p in cc)
near_labelled x y (inl ((v, None), (w, Some b), (p, q), ex, ey)) = elim q [ ]
near_labelled x y (inl ((v, Some a), (w, None), (p, q), ex, ey)) = elim q [ ]
near_labelled x y (inl ((v, Some a), (w, Some b), (p, q), ex, ey)) = meet erase_labelled ex ey (let c = names v w p in let d = names a b q in cc)
near_labelled x y (inr ((f, v), (h, w), (p, q), ex, ey)) =
    meet erase_labelled ex ey (let a = label_erased f.kind (name_of f) in let b = label_erased h.kind (name_of h) in let c = p.0 in let d = p.1 in let e = names v w q in cc)

abbrev declared : P (Option Span × (TypeTree × Option Span))
declared = maybe (place k.Inout) · whole_type · maybe (place k.Ellipsis)

pub near_parameter : Keeps (production false Param) erase_parameter
near_parameter x y (v, w, (p, q), ex, ey) =
    meet erase_parameter ex ey (let a = near_labelled v.0 w.0 p in let b = ap (λ (z : ParameterLabel × Name). z.0) a in let c = ap (λ (z : ParameterLabel × Name). z.1) a in
    let e = behind_near (tok k.Colon) declared v.1 w.1 q in let h = no_place_same k.Inout v.1.0 w.1.0 e.0 in
    let i : erase_type v.1.1.0 ≡ erase_type w.1.1.0 = e.1.0 in let j = no_place_same k.Ellipsis v.1.1.1 w.1.1.1 e.1.1 in cc)

pub near_payload : Keeps (production false Payload) erase_payload
near_payload x y (inl (v, w, (p, q), ex, ey)) = meet erase_payload ex ey (let a = p.1 in let b = near_annotation v.1 w.1 q in cc)
near_payload x y (inr (v, w, p, ex, ey)) = meet erase_payload ex ey (let a : erase_type v ≡ erase_type w = p in cc)

pub near_case : Keeps (production false Case) erase_case
near_case x y (v, w, (p, q), ex, ey) =
    meet erase_case ex ey (let a = names v.0 w.0 p in
    let b = options (in_parens (any (g.nonterminal Payload))) (map erase_payload) (parens (any (g.nonterminal Payload)) (map erase_payload) (anys (g.nonterminal Payload) erase_payload (λ x y p. p))) v.1 w.1 q in cc)

-- ---- after modifiers

-- alike where the modifiers are
abbrev Given : {A : Type 0} → (A → A) → (List Modifier → A) → (List Modifier → A) → Type 0
Given h f f' = (xs ys : List Modifier) → map erase_modifier xs ≡ map erase_modifier ys → h (f xs) ≡ h (f' ys)

near_mods : Keeps mods (map erase_modifier)
near_mods = lists (gives modifier_of (terminal is_modifier)) erase_modifier (λ x y p. meet erase_modifier p.3 p.4 (let a = p.2.0 in let b = p.2.1 in cc))

near_params : Keeps params (map erase_parameter)
near_params = parens (any (g.nonterminal Param)) (map erase_parameter) (anys (g.nonterminal Param) erase_parameter (λ x y p. p))

near_heading : (f f' : List Modifier → Heading) → Near heading f f' → Given erase_heading f f'
near_heading f f' (v, w, (p, q), ex, ey) = put (Given erase_heading) ex ey (λ xs ys h.
    let a = names v.0 w.0 p in
    let b = or_none_lists (after (tok k.Colon) (some name)) erase_name (behinds (tok k.Colon) (some name) (map erase_name) (somes name erase_name names)) (or_none v.1) (or_none w.1) (v.1, w.1, q, refl, refl) in cc)

near_typealias : Keeps typealias erase_typealias
near_typealias x y (v, w, (_, (p, q)), ex, ey) =
    meet erase_typealias ex ey (let a = names v.1.0 w.1.0 p in let b = behinds (tok k.Assign) whole_type erase_type (λ x y p. p) v.1.1 w.1.1 q in cc)

abbrev after_func : P (Name × (List Parameter × (Bool × (Bool × Option TypeTree))))
after_func = name · params · present (tok k.Async) · present (tok k.Throws) · maybe (after (tok k.Arrow) whole_type)

near_signature : (f f' : List Modifier → Signature) → Near signature f f' → Given erase_signature f f'
near_signature f f' (v, w, p, ex, ey) = put (Given erase_signature) ex ey (λ xs ys h.
    let q = behind_near (tok k.Func) after_func v w p in let a = names v.0 w.0 q.0 in let b = near_params v.1.0 w.1.0 q.1.0 in
    let c = presents (tok k.Async) v.1.1.0 w.1.1.0 q.1.1.0 in let e = presents (tok k.Throws) v.1.1.1.0 w.1.1.1.0 q.1.1.1.0 in
    let i = options (after (tok k.Arrow) whole_type) erase_type (behinds (tok k.Arrow) whole_type erase_type (λ x y p. p)) v.1.1.1.1 w.1.1.1.1 q.1.1.1.1 in cc)

-- ---- declarations

near_modified : (f f' : List Modifier → Decl) → Near modified_decl f f' → Given erase_decl f f'
near_modified f f' (inl (v, w, p, ex, ey)) = put (Given erase_decl) ex ey (λ xs ys h.
    let q = behind_near (tok k.Struct) (heading · in_braces (list_of Members)) v w p in let a = near_heading v.0 w.0 q.0 xs ys h in
    let b = braces (list_of Members) (map erase_member) (near_list Members) v.1 w.1 q.1 in cc)
near_modified f f' (inr (inl (v, w, p, ex, ey))) = put (Given erase_decl) ex ey (λ xs ys h.
    let q = behind_near (tok k.Enum) (heading · in_braces (list_of EnumItems)) v w p in let a = near_heading v.0 w.0 q.0 xs ys h in
    let b = braces (list_of EnumItems) (map erase_item) (near_list EnumItems) v.1 w.1 q.1 in cc)
near_modified f f' (inr (inr (inl (v, w, p, ex, ey)))) = put (Given erase_decl) ex ey (λ xs ys h.
    let q = behind_near (tok k.Protocol) (heading · in_braces (list_of Requirements)) v w p in let a = near_heading v.0 w.0 q.0 xs ys h in
    let b = braces (list_of Requirements) (map erase_requirement) (near_list Requirements) v.1 w.1 q.1 in cc)
near_modified f f' (inr (inr (inr (inl (v, w, p, ex, ey))))) = put (Given erase_decl) ex ey (λ xs ys h.
    let q = behind_near (terminal is_actor) (heading · in_braces (list_of Members)) v w p in let a = near_heading v.0 w.0 q.0 xs ys h in
    let b = braces (list_of Members) (map erase_member) (near_list Members) v.1 w.1 q.1 in cc)
near_modified f f' (inr (inr (inr (inr (v, w, (p, q), ex, ey))))) = put (Given erase_decl) ex ey (λ xs ys h.
    let a = near_signature v.0 w.0 p xs ys h in let b : map erase_stmt v.1 ≡ map erase_stmt w.1 = q in cc)

near_decl : Keeps (production false (Item Decls)) erase_decl
near_decl x y (inl (v, w, p, ex, ey)) = meet erase_decl ex ey (let a = names v.1 w.1 p.1 in cc)
near_decl x y (inr (inl (v, w, p, ex, ey))) = meet erase_decl ex ey (ap d.Typealias (near_typealias v w p))
near_decl x y (inr (inr (v, w, (p, q), ex, ey))) = meet erase_decl ex ey (near_modified v.1 w.1 q v.0 w.0 (near_mods v.0 w.0 p))

-- ---- members

-- alike where the modifiers and the names are
abbrev GivenName : Named Member → Named Member → Type 0
GivenName f f' = (xs ys : List Modifier) → map erase_modifier xs ≡ map erase_modifier ys → (v w : Name) → erase_name v ≡ erase_name w → erase_member (f xs v) ≡ erase_member (f' ys w)

stored_same : (t u : Option TypeTree) (x y : Option ExprTree) → option_map erase_type t ≡ option_map erase_type u → option_map erase_expr x ≡ option_map erase_expr y → GivenName (stored_var t x) (stored_var u y)
stored_same t u x y p q xs ys h v w e = cc

abbrev some_getter : P Accessor
some_getter = gives accessor.Get (after (terminal is_getter) (g.nonterminal Block)) ∣ gives (λ body. accessor.Body body.0) (when is_no_getter (g.nonterminal (SomeStatements InBlock)))

near_some_getter : Keeps some_getter erase_accessor
near_some_getter x y (inl (v, w, p, ex, ey)) = meet erase_accessor ex ey (ap accessor.Get (behinds (terminal is_getter) (g.nonterminal Block) (map erase_stmt) (λ x y p. p) v w p))
near_some_getter x y (inr (v, w, p, ex, ey)) = meet erase_accessor ex ey (ap accessor.Body p.0)

near_getter : Keeps getter erase_accessor
near_getter x y (v, w, p, ex, ey) = meet erase_accessor ex ey (go v w (braces_near (maybe some_getter) v w p))
  where
    go : (v w : Option Accessor) → Near (maybe some_getter) v w → erase_accessor (or_no_statement v) ≡ erase_accessor (or_no_statement w)
    go None None p = refl
    go None (Some w) p = elim p [ ]
    go (Some v) None p = elim p [ ]
    go (Some v) (Some w) p = near_some_getter v w p

abbrev after_type : P (TypeTree → Named Member)
after_type = gives initial_var initial ∣ gives computed_var getter

near_after_type : (f f' : TypeTree → Named Member) (t u : TypeTree) → Near after_type f f' → erase_type t ≡ erase_type u → GivenName (f t) (f' u)
near_after_type f f' t u (inl (v, w, p, ex, ey)) h = put (λ f f'. GivenName (f t) (f' u)) ex ey (stored_same (Some t) (Some u) (Some v) (Some w) (ap Some h) (ap Some (near_initial v w p)))
near_after_type f f' t u (inr (v, w, p, ex, ey)) h = put (λ f f'. GivenName (f t) (f' u)) ex ey (λ xs ys i a b e. let c = near_getter v w p in cc)

typed_same : (t u : TypeTree) (f f' : Option (TypeTree → Named Member)) → erase_type t ≡ erase_type u → Near (maybe after_type) f f' → GivenName (typed_var t f) (typed_var u f')
typed_same t u None None h p = stored_same (Some t) (Some u) None None (ap Some h) refl
typed_same t u None (Some f') h p = elim p [ ]
typed_same t u (Some f) None h p = elim p [ ]
typed_same t u (Some f) (Some f') h p = near_after_type f f' t u p h

abbrev after_name : P (Named Member)
after_name = gives (λ x. typed_var x.0 x.1) (annotation · maybe after_type) ∣ gives (λ x. stored_var None (Some x)) initial

near_after_name : (f f' : Named Member) → Near after_name f f' → GivenName f f'
near_after_name f f' (inl (v, w, (p, q), ex, ey)) = put GivenName ex ey (typed_same v.0 w.0 v.1 w.1 (near_annotation v.0 w.0 p) q)
near_after_name f f' (inr (v, w, p, ex, ey)) = put GivenName ex ey (stored_same None None (Some v) (Some w) refl (ap Some (near_initial v w p)))

untyped_same : (f f' : Option (Named Member)) → Near (maybe after_name) f f' → GivenName (or_untyped f) (or_untyped f')
untyped_same None None p = stored_same None None None None refl refl
untyped_same None (Some f') p = elim p [ ]
untyped_same (Some f) None p = elim p [ ]
untyped_same (Some f) (Some f') p = near_after_name f f' p

near_let : (f f' : List Modifier → Member) → Near let_property f f' → Given erase_member f f'
near_let f f' (v, w, p, ex, ey) = put (Given erase_member) ex ey (λ xs ys h.
    let q = behind_near (tok k.Let) (name · maybe annotation · maybe initial) v w p in let a = names v.0 w.0 q.0 in
    let b = options annotation erase_type near_annotation v.1.0 w.1.0 q.1.0 in let c = options initial erase_expr near_initial v.1.1 w.1.1 q.1.1 in cc)

near_var : (f f' : List Modifier → Member) → Near var_property f f' → Given erase_member f f'
near_var f f' (v, w, p, ex, ey) = put (Given erase_member) ex ey (λ xs ys h.
    let q = behind_near (tok k.Var) (name · maybe after_name) v w p in untyped_same v.1 w.1 q.1 xs ys h v.0 w.0 (names v.0 w.0 q.0))

near_initializer : (f f' : List Modifier → Member) → Near initializer f f' → Given erase_member f f'
near_initializer f f' (v, w, (_, (p, (q, t))), ex, ey) = put (Given erase_member) ex ey (λ xs ys h.
    let a = near_params v.1.0 w.1.0 p in let b = presents (tok k.Throws) v.1.1.0 w.1.1.0 q in let c : map erase_stmt v.1.1.1 ≡ map erase_stmt w.1.1.1 = t in cc)

near_modified_member : (f f' : List Modifier → Member) → Near modified_member f f' → Given erase_member f f'
near_modified_member f f' (inl p) = near_let f f' p
near_modified_member f f' (inr (inl p)) = near_var f f' p
near_modified_member f f' (inr (inr (inl (v, w, (p, q), ex, ey)))) = put (Given erase_member) ex ey (λ xs ys h.
    let a = near_signature v.0 w.0 p xs ys h in let b : map erase_stmt v.1 ≡ map erase_stmt w.1 = q in cc)
near_modified_member f f' (inr (inr (inr p))) = near_initializer f f' p

near_member : Keeps (production false (Item Members)) erase_member
near_member x y (inl (v, w, p, ex, ey)) = meet erase_member ex ey (ap m.Typealias (near_typealias v w p))
near_member x y (inr (v, w, (p, q), ex, ey)) = meet erase_member ex ey (near_modified_member v.1 w.1 q v.0 w.0 (near_mods v.0 w.0 p))

-- ---- items and requirements

near_enum_item : Keeps (production false (Item EnumItems)) erase_item
near_enum_item x y (inl (v, w, p, ex, ey)) = meet erase_item ex ey (ap item.Cases (behinds (tok k.Case) (some (g.nonterminal Case)) (map erase_case) (somes (g.nonterminal Case) erase_case (λ x y p. p)) v w p))
near_enum_item x y (inr (v, w, p, ex, ey)) = meet erase_item ex ey (ap item.Member p)

abbrev after_var : P (Name × (TypeTree × Face))
after_var = name · annotation · in_braces (terminal is_get)

near_requirement : Keeps (production false (Item Requirements)) erase_requirement
near_requirement x y (inl (v, w, p, ex, ey)) =
    meet erase_requirement ex ey (let q = behind_near (tok k.Var) after_var v w p in let a = names v.0 w.0 q.0 in let b = near_annotation v.1.0 w.1.0 q.1.0 in cc)
near_requirement x y (inr (v, w, (p, q), ex, ey)) = meet erase_requirement ex ey (ap r.Func (near_signature v.1 w.1 q v.0 w.0 (near_mods v.0 w.0 p)))

pub near_item : (l : ItemKind) → Keeps (production false (Item l)) (erase_listed l)
near_item Decls = near_decl
near_item Members = near_member
near_item EnumItems = near_enum_item
near_item Requirements = near_requirement
