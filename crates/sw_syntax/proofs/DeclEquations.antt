-- How files and declarations are read, part by part.
use Rattle.std.proofs.Common.{◌≡◌, ℕ, ◌-◌, Bool, true, false, Option, Some, None, List, [], ◌∷◌, ◌++◌, refl, sym, ap, ◌∙◌, append_assoc, append-nil}
use Rattle.sw_lex.specs.declared.token.TokenKind.{TokenKind}
use Rattle.sw_lex.specs.declared.token.TokenKind.TheVariants as k
use Rattle.sw_grammar.specs.Grammar as g
use Rattle.sw_grammar.specs.Reading.{Out, got, rejected, over_budget, unexpected, ◌>>=◌, at_first, one}
use Rattle.sw_tree.specs.declared.expr.Name.{Name}
use Rattle.sw_tree.specs.declared.types.«Type».{«Type» as TypeTree}
use Rattle.sw_tree.specs.declared.decl.Decl.{Decl}
use Rattle.sw_tree.specs.declared.decl.Decl.TheVariants as decl
use Rattle.sw_tree.specs.declared.decl.Heading.{Heading}
use Rattle.sw_tree.specs.declared.decl.Modifier.{Modifier}
use Rattle.sw_tree.specs.declared.decl.Parameter.{Parameter}
use Rattle.sw_syntax.specs.declared.class.Sight.{Sight}
use Rattle.sw_syntax.specs.Tokens.{Sighted, Face}
use Rattle.sw_syntax.specs.Tests.{is, is_name, is_modifier, is_actor}
use Rattle.sw_syntax.specs.Values.{or_none, is_some, name_of}
use Rattle.sw_syntax.specs.Forms.{modifier_of}
use Rattle.sw_syntax.specs.Nonterminals.{ItemKind, Decls, Members, EnumItems, Requirements, File, Item, TypeExpr, Block, ItemTree}
use Rattle.sw_syntax.specs.Parts.{P, ◌·◌, tok, place, name, present, after, some, in_braces, whole_type}
use Rattle.sw_syntax.specs.Grammar.{list_of, mods, heading, params, signature, modified_decl}
use Rattle.sw_syntax.specs.Answering.{read, read_part, Takes}
use Rattle.sw_syntax.specs.Lists.{items_from}
use Rattle.sw_syntax.specs.Members.{item_block, mods_from, typealias_part, decl_from, heading_from, signature_from, conformances, more_names, flag_part, mark_part, result_part, params_part}
use Rattle.sw_syntax.proofs.Equations.{step, bind_assoc, bind_same, chosen, fold_end, fold_more}
use Rattle.sw_syntax.proofs.PartEquations.{both_on, gives_on, limited_on, mark_on, placed_on, place_on, after_on, past_on, name_on, there_on, absent_on, braces_none, braces_deep, braces_open, some_first, more_end, more_more, maybe_none, maybe_some, maybe_past, after_mark_type}
use Rattle.sw_syntax.proofs.BodyEquations.{same_out, items_start}

-- ---- files and blocks of items

pub file_items : (lenient : Bool) → (d l c : ℕ) (ts : List Sighted) → read lenient File d l c ts ≡ (items_from lenient Decls d l c [] ts >>= (λ xs c1 r1. one (is k.End) c1 r1 >>= (λ _ c2 r2. got (record { decls = xs }) c2 r2)))
file_items lenient d l c ts = step lenient File d l c ts
    ∙ both_on lenient (list_of Decls) (tok k.End) d l c ts _
    ∙ ap (λ o. o >>= (λ xs c1 r1. one (is k.End) c1 r1 >>= (λ _ c2 r2. got (record { decls = xs }) c2 r2))) (items_start lenient Decls d l c ts)

pub item_block_none : (lenient : Bool) → (kind : ItemKind) (d l c : ℕ) (ts : List Sighted) → at_first (is k.LeftBrace) ts ≡ false → item_block lenient kind d l c ts ≡ rejected unexpected ts
unfolding item_block
item_block_none lenient kind d l c ts h = braces_none lenient (list_of kind) d l c ts h

pub item_block_deep : (lenient : Bool) → (kind : ItemKind) (d l c : ℕ) (ts : List Sighted) → at_first (is k.LeftBrace) ts ≡ true → d ≡ 0 → item_block lenient kind d l c ts ≡ rejected over_budget ts
unfolding item_block
item_block_deep lenient kind d l c ts h z = braces_deep lenient (list_of kind) d l c ts h z

pub item_block_open : (lenient : Bool) → (kind : ItemKind) (d l c : ℕ) (ts : List Sighted) (f : Face) (r : List Sighted) → (d ≡ 0 → ⊥) → Takes (is k.LeftBrace) ts f r
    → item_block lenient kind d l c ts ≡ (items_from lenient kind (d - 1) l c [] r >>= (λ xs c1 r1. one (is k.RightBrace) c1 r1 >>= (λ _ c2 r2. got xs c2 r2)))
unfolding item_block
item_block_open lenient kind d l c ts f r z takes = braces_open lenient (list_of kind) d l c ts f r z takes
    ∙ ap (λ o. o >>= (λ xs c1 r1. one (is k.RightBrace) c1 r1 >>= (λ _ c2 r2. got xs c2 r2))) (items_start lenient kind (d - 1) l c r)

-- ---- modifiers

pub mods_start : (lenient : Bool) → (d l c : ℕ) (ts : List Sighted) → read_part lenient mods d l c ts ≡ mods_from lenient d l c [] ts
unfolding mods_from
mods_start lenient d l c ts = sym (same_out (read_part lenient mods d l c ts))

abbrev modifier_part : P Modifier
modifier_part = g.gives modifier_of (g.terminal is_modifier)

pub mods_end : (lenient : Bool) → (d l c : ℕ) (xs : List Modifier) (ts : List Sighted) → at_first is_modifier ts ≡ false → mods_from lenient d l c xs ts ≡ got xs c ts
unfolding mods_from
mods_end lenient d l c xs ts h = fold_end lenient modifier_part tt refl (λ xs ys. xs ++ ys) (λ xs x. xs ++ x ∷ []) (λ xs x ys. sym (append_assoc xs (x ∷ []) ys)) d l c xs ts h ∙ ap (λ xs. got xs c ts) (append-nil xs)

pub mods_more : (lenient : Bool) → (d l c : ℕ) (xs : List Modifier) (ts : List Sighted) (f : Face) (r : List Sighted) → at_first is_modifier ts ≡ true → Takes is_modifier ts f r
    → mods_from lenient d l c xs ts ≡ mods_from lenient d l c (xs ++ modifier_of f ∷ []) r
unfolding mods_from
mods_more lenient d l c xs ts f r h takes =
    fold_more lenient modifier_part tt refl (λ xs ys. xs ++ ys) (λ xs x. xs ++ x ∷ []) (λ xs x ys. sym (append_assoc xs (x ∷ []) ys)) d l c xs ts h
    ∙ gives_on lenient modifier_of (g.terminal is_modifier) d l c ts _
    ∙ mark_on lenient is_modifier d l c ts f r _ takes

-- ---- parts of declarations

pub flag_none : (lenient : Bool) → (kind : TokenKind) (d l c : ℕ) (ts : List Sighted) → at_first (is kind) ts ≡ false → flag_part lenient kind d l c ts ≡ got false c ts
unfolding flag_part
flag_none lenient kind d l c ts h = absent_on lenient (tok kind) d l c ts (λ x c' r. got (is_some x) c' r) h

pub flag_some : (lenient : Bool) → (kind : TokenKind) (d l c : ℕ) (ts : List Sighted) (f : Face) (r : List Sighted) → at_first (is kind) ts ≡ true → Takes (is kind) ts f r → flag_part lenient kind d l c ts ≡ got true c r
unfolding flag_part
flag_some lenient kind d l c ts f r h takes = there_on lenient (tok kind) d l c ts (λ x c' r. got (is_some x) c' r) h ∙ mark_on lenient (is kind) d l c ts f r _ takes

pub mark_none : (lenient : Bool) → (kind : TokenKind) (d l c : ℕ) (ts : List Sighted) → at_first (is kind) ts ≡ false → mark_part lenient kind d l c ts ≡ got None c ts
unfolding mark_part
mark_none lenient kind d l c ts h = maybe_none lenient (place kind) d l c ts h

pub mark_some : (lenient : Bool) → (kind : TokenKind) (d l c : ℕ) (ts : List Sighted) (f : Face) (r : List Sighted) → at_first (is kind) ts ≡ true → Takes (is kind) ts f r → mark_part lenient kind d l c ts ≡ got (Some f.span) c r
unfolding mark_part
mark_some lenient kind d l c ts f r h takes = maybe_some lenient (place kind) d l c ts h ∙ place_on lenient kind d l c ts _ ∙ mark_on lenient (is kind) d l c ts f r _ takes

pub result_none : (lenient : Bool) → (d l c : ℕ) (ts : List Sighted) → at_first (is k.Arrow) ts ≡ false → result_part lenient d l c ts ≡ got None c ts
unfolding result_part
result_none lenient d l c ts h = maybe_none lenient (after (tok k.Arrow) whole_type) d l c ts h

pub result_some : (lenient : Bool) → (d l c : ℕ) (ts : List Sighted) (f : Face) (r : List Sighted) → at_first (is k.Arrow) ts ≡ true → Takes (is k.Arrow) ts f r
    → result_part lenient d l c ts ≡ (read lenient TypeExpr d l l r >>= (λ t _ r'. got (Some t) c r'))
unfolding result_part
result_some lenient d l c ts f r h takes = maybe_past lenient (is k.Arrow) whole_type d l c ts f r h takes ∙ limited_on lenient (g.nonterminal TypeExpr) d l c r _

pub typealias_step : (lenient : Bool) → (d l c : ℕ) (ts : List Sighted)
    → typealias_part lenient d l c ts ≡ (one (is k.Typealias) c ts >>= (λ f c1 r1. one is_name c1 r1 >>= (λ n c2 r2. one (is k.Assign) c2 r2 >>= (λ _ c3 r3. read lenient TypeExpr d l l r3 >>= (λ t _ r4.
    got (record { span = f.span; name = name_of n; target = t }) c3 r4)))))
unfolding typealias_part
typealias_step lenient d l c ts = both_on lenient (place k.Typealias) (name · after (tok k.Assign) whole_type) d l c ts _
    ∙ place_on lenient k.Typealias d l c ts _
    ∙ bind_same (one (is k.Typealias) c ts) _ _ (λ f c1 r1. both_on lenient name (after (tok k.Assign) whole_type) d l c1 r1 _
    ∙ name_on lenient d l c1 r1 _
    ∙ bind_same (one is_name c1 r1) _ _ (λ n c2 r2. after_mark_type lenient k.Assign d l c2 r2 _))

-- ---- names after `:`

pub conformances_none : (lenient : Bool) → (d l c : ℕ) (ts : List Sighted) → at_first (is k.Colon) ts ≡ false → conformances lenient d l c ts ≡ got [] c ts
unfolding conformances
conformances_none lenient d l c ts h = absent_on lenient (after (tok k.Colon) (some name)) d l c ts (λ names c' r. got (or_none names) c' r) h

pub conformances_some : (lenient : Bool) → (d l c : ℕ) (ts : List Sighted) (f : Face) (r : List Sighted) → at_first (is k.Colon) ts ≡ true → Takes (is k.Colon) ts f r
    → conformances lenient d l c ts ≡ (one is_name c r >>= (λ n c' r'. more_names lenient d l c' (name_of n ∷ []) r'))
unfolding conformances
conformances_some lenient d l c ts f r h takes = there_on lenient (after (tok k.Colon) (some name)) d l c ts (λ names c' r. got (or_none names) c' r) h
    ∙ past_on lenient (is k.Colon) (some name) d l c ts f r _ takes
    ∙ same_out (read_part lenient (some name) d l c r)
    ∙ some_first lenient name d l c r
    ∙ name_on lenient d l c r _

pub names_end : (lenient : Bool) → (d l c : ℕ) (xs : List Name) (ts : List Sighted) → at_first (is k.Comma) ts ≡ false → more_names lenient d l c xs ts ≡ got xs c ts
names_end lenient d l c xs ts h = more_end lenient name tt d l c xs ts h

pub names_more : (lenient : Bool) → (d l c : ℕ) (xs : List Name) (ts : List Sighted) (f : Face) (r : List Sighted) → at_first (is k.Comma) ts ≡ true → Takes (is k.Comma) ts f r
    → more_names lenient d l c xs ts ≡ (one is_name c r >>= (λ n c' r'. more_names lenient d l c' (xs ++ name_of n ∷ []) r'))
names_more lenient d l c xs ts f r h takes = more_more lenient name tt d l c xs ts f r h takes ∙ name_on lenient d l c r _

-- ---- headings and signatures

pub heading_step : (lenient : Bool) → (d l c : ℕ) (modifiers : List Modifier) (ts : List Sighted)
    → heading_from lenient d l c modifiers ts ≡ (one is_name c ts >>= (λ n c1 r1. conformances lenient d l c1 r1 >>= (λ names c2 r2. got (record { modifiers = modifiers; name = name_of n; conformances = names }) c2 r2)))
unfolding heading_from conformances
heading_step lenient d l c modifiers ts = gives_on lenient (λ x modifiers. record { modifiers = modifiers; name = x.0; conformances = or_none x.1 }) (name · g.maybe (after (tok k.Colon) (some name))) d l c ts _
    ∙ both_on lenient name (g.maybe (after (tok k.Colon) (some name))) d l c ts _
    ∙ name_on lenient d l c ts _
    ∙ bind_same (one is_name c ts) _ _ (λ n c1 r1. sym (bind_assoc (read_part lenient (g.maybe (after (tok k.Colon) (some name))) d l c1 r1) _ _))

abbrev result : P (Option TypeTree)
result = g.maybe (after (tok k.Arrow) whole_type)

abbrev signed : P (Name × (List Parameter × (Bool × (Bool × Option TypeTree))))
signed = name · params · present (tok k.Async) · present (tok k.Throws) · result

pub signature_step : (lenient : Bool) → (d l c : ℕ) (modifiers : List Modifier) (ts : List Sighted)
    → signature_from lenient d l c modifiers ts ≡ (one (is k.Func) c ts >>= (λ _ c0 r0. one is_name c0 r0 >>= (λ n c1 r1. params_part lenient d l c1 r1 >>= (λ ps c2 r2. flag_part lenient k.Async d l c2 r2 >>= (λ a c3 r3. flag_part lenient k.Throws d l c3 r3 >>= (λ t c4 r4. result_part lenient d l c4 r4 >>= (λ y c5 r5.
    got (record { modifiers = modifiers; name = name_of n; type_parameters = []; parameters = ps; is_async = a; throws = t; result = y }) c5 r5)))))))
unfolding signature_from params_part flag_part result_part
signature_step lenient d l c modifiers ts =
    gives_on lenient (λ x modifiers. record { modifiers = modifiers; name = x.0; type_parameters = []; parameters = x.1.0; is_async = x.1.1.0; throws = x.1.1.1.0; result = x.1.1.1.1 }) (after (tok k.Func) signed) d l c ts _
    ∙ after_on lenient (tok k.Func) signed d l c ts _
    ∙ bind_same (one (is k.Func) c ts) _ _ (λ _ c0 r0. both_on lenient name (params · present (tok k.Async) · present (tok k.Throws) · result) d l c0 r0 _
    ∙ name_on lenient d l c0 r0 _
    ∙ bind_same (one is_name c0 r0) _ _ (λ n c1 r1. both_on lenient params (present (tok k.Async) · present (tok k.Throws) · result) d l c1 r1 _
    ∙ bind_same (params_part lenient d l c1 r1) _ _ (λ ps c2 r2. both_on lenient (present (tok k.Async)) (present (tok k.Throws) · result) d l c2 r2 _
    ∙ bind_same (flag_part lenient k.Async d l c2 r2) _ _ (λ a c3 r3. both_on lenient (present (tok k.Throws)) result d l c3 r3 _))))

-- ---- declarations

pub decl_import : (lenient : Bool) → (d l c : ℕ) (ts : List Sighted) (f : Face) (r : List Sighted) → at_first (is k.Import) ts ≡ true → Takes (is k.Import) ts f r
    → read lenient (Item Decls) d l c ts ≡ (one is_name c r >>= (λ n c' r'. got (decl.Import f.span (name_of n)) c' r'))
decl_import lenient d l c ts f r h takes = step lenient (Item Decls) d l c ts ∙ chosen (at_first (is k.Import) ts) true _ _ h
    ∙ placed_on lenient k.Import name d l c ts f r _ takes ∙ name_on lenient d l c r _

pub decl_typealias : (lenient : Bool) → (d l c : ℕ) (ts : List Sighted) → at_first (is k.Import) ts ≡ false → at_first (is k.Typealias) ts ≡ true
    → read lenient (Item Decls) d l c ts ≡ (typealias_part lenient d l c ts >>= (λ x c' r. got (decl.Typealias x) c' r))
unfolding typealias_part
decl_typealias lenient d l c ts h0 h = step lenient (Item Decls) d l c ts ∙ chosen (at_first (is k.Import) ts) false _ _ h0 ∙ chosen (at_first (is k.Typealias) ts) true _ _ h

pub decl_modified : (lenient : Bool) → (d l c : ℕ) (ts : List Sighted) → at_first (is k.Import) ts ≡ false → at_first (is k.Typealias) ts ≡ false
    → read lenient (Item Decls) d l c ts ≡ (mods_from lenient d l c [] ts >>= (λ modifiers c' r. decl_from lenient d l c' modifiers r))
unfolding decl_from
decl_modified lenient d l c ts h0 h1 = step lenient (Item Decls) d l c ts ∙ chosen (at_first (is k.Import) ts) false _ _ h0 ∙ chosen (at_first (is k.Typealias) ts) false _ _ h1
    ∙ both_on lenient mods modified_decl d l c ts _
    ∙ ap (λ o. o >>= (λ modifiers c' r. read_part lenient modified_decl d l c' r >>= (λ x c'' r'. got (x modifiers) c'' r'))) (mods_start lenient d l c ts)

abbrev applied : List Modifier → (List Modifier → Decl) → ℕ → List Sighted → Out Sighted Decl
applied modifiers x c r = got (x modifiers) c r

abbrev nominal_part : (f : Sight → Bool) (kind : ItemKind) → (Heading → List (ItemTree kind) → Decl) → P (List Modifier → Decl)
nominal_part f kind make = g.gives (λ x modifiers. make (x.0 modifiers) x.1) (after (g.terminal f) (heading · in_braces (list_of kind)))

-- a heading and the items between braces after it
nominal : (lenient : Bool) (f : Sight → Bool) (kind : ItemKind) (make : Heading → List (ItemTree kind) → Decl) (d l c : ℕ) (modifiers : List Modifier) (ts : List Sighted) (x : Face) (r : List Sighted) → Takes f ts x r
    → (read_part lenient (nominal_part f kind make) d l c ts >>= applied modifiers)
    ≡ (heading_from lenient d l c modifiers r >>= (λ h c1 r1. item_block lenient kind d l c1 r1 >>= (λ xs c2 r2. got (make h xs) c2 r2)))
unfolding heading_from item_block
nominal lenient f kind make d l c modifiers ts x r takes =
    gives_on lenient (λ x modifiers. make (x.0 modifiers) x.1) (after (g.terminal f) (heading · in_braces (list_of kind))) d l c ts _
    ∙ past_on lenient f (heading · in_braces (list_of kind)) d l c ts x r _ takes
    ∙ both_on lenient heading (in_braces (list_of kind)) d l c r _
    ∙ sym (bind_assoc (read_part lenient heading d l c r) _ _)

abbrev on_decl : (lenient : Bool) → List Modifier → Out Sighted (List Modifier → Decl) → Out Sighted Decl
on_decl lenient modifiers o = o >>= applied modifiers

pub decl_struct : (lenient : Bool) → (d l c : ℕ) (modifiers : List Modifier) (ts : List Sighted) (f : Face) (r : List Sighted) → at_first (is k.Struct) ts ≡ true → Takes (is k.Struct) ts f r
    → decl_from lenient d l c modifiers ts ≡ (heading_from lenient d l c modifiers r >>= (λ h c1 r1. item_block lenient Members d l c1 r1 >>= (λ xs c2 r2. got (decl.Struct h xs) c2 r2)))
unfolding decl_from
decl_struct lenient d l c modifiers ts f r h takes = ap (on_decl lenient modifiers) (chosen (at_first (is k.Struct) ts) true _ _ h)
    ∙ nominal lenient (is k.Struct) Members decl.Struct d l c modifiers ts f r takes

pub decl_enum : (lenient : Bool) → (d l c : ℕ) (modifiers : List Modifier) (ts : List Sighted) (f : Face) (r : List Sighted) → at_first (is k.Struct) ts ≡ false → at_first (is k.Enum) ts ≡ true → Takes (is k.Enum) ts f r
    → decl_from lenient d l c modifiers ts ≡ (heading_from lenient d l c modifiers r >>= (λ h c1 r1. item_block lenient EnumItems d l c1 r1 >>= (λ xs c2 r2. got (decl.Enum h xs) c2 r2)))
unfolding decl_from
decl_enum lenient d l c modifiers ts f r h0 h takes = ap (on_decl lenient modifiers) (chosen (at_first (is k.Struct) ts) false _ _ h0 ∙ chosen (at_first (is k.Enum) ts) true _ _ h)
    ∙ nominal lenient (is k.Enum) EnumItems decl.Enum d l c modifiers ts f r takes

pub decl_protocol : (lenient : Bool) → (d l c : ℕ) (modifiers : List Modifier) (ts : List Sighted) (f : Face) (r : List Sighted) → at_first (is k.Struct) ts ≡ false → at_first (is k.Enum) ts ≡ false → at_first (is k.Protocol) ts ≡ true → Takes (is k.Protocol) ts f r
    → decl_from lenient d l c modifiers ts ≡ (heading_from lenient d l c modifiers r >>= (λ h c1 r1. item_block lenient Requirements d l c1 r1 >>= (λ xs c2 r2. got (decl.Protocol h xs) c2 r2)))
unfolding decl_from
decl_protocol lenient d l c modifiers ts f r h0 h1 h takes = ap (on_decl lenient modifiers) (chosen (at_first (is k.Struct) ts) false _ _ h0 ∙ chosen (at_first (is k.Enum) ts) false _ _ h1 ∙ chosen (at_first (is k.Protocol) ts) true _ _ h)
    ∙ nominal lenient (is k.Protocol) Requirements decl.Protocol d l c modifiers ts f r takes

pub decl_actor : (lenient : Bool) → (d l c : ℕ) (modifiers : List Modifier) (ts : List Sighted) (f : Face) (r : List Sighted) → at_first (is k.Struct) ts ≡ false → at_first (is k.Enum) ts ≡ false → at_first (is k.Protocol) ts ≡ false → at_first is_actor ts ≡ true → Takes is_actor ts f r
    → decl_from lenient d l c modifiers ts ≡ (heading_from lenient d l c modifiers r >>= (λ h c1 r1. item_block lenient Members d l c1 r1 >>= (λ xs c2 r2. got (decl.Actor h xs) c2 r2)))
unfolding decl_from
decl_actor lenient d l c modifiers ts f r h0 h1 h2 h takes = ap (on_decl lenient modifiers) (chosen (at_first (is k.Struct) ts) false _ _ h0 ∙ chosen (at_first (is k.Enum) ts) false _ _ h1 ∙ chosen (at_first (is k.Protocol) ts) false _ _ h2 ∙ chosen (at_first is_actor ts) true _ _ h)
    ∙ nominal lenient is_actor Members decl.Actor d l c modifiers ts f r takes

pub decl_func : (lenient : Bool) → (d l c : ℕ) (modifiers : List Modifier) (ts : List Sighted) → at_first (is k.Struct) ts ≡ false → at_first (is k.Enum) ts ≡ false → at_first (is k.Protocol) ts ≡ false → at_first is_actor ts ≡ false
    → decl_from lenient d l c modifiers ts ≡ (signature_from lenient d l c modifiers ts >>= (λ x c1 r1. read lenient Block d l c1 r1 >>= (λ body c2 r2. got (decl.Func (record { signature = x; body = body })) c2 r2)))
unfolding decl_from signature_from
decl_func lenient d l c modifiers ts h0 h1 h2 h3 = ap (on_decl lenient modifiers) (chosen (at_first (is k.Struct) ts) false _ _ h0 ∙ chosen (at_first (is k.Enum) ts) false _ _ h1 ∙ chosen (at_first (is k.Protocol) ts) false _ _ h2 ∙ chosen (at_first is_actor ts) false _ _ h3)
    ∙ gives_on lenient (λ x modifiers. decl.Func (record { signature = x.0 modifiers; body = x.1 })) (signature · g.nonterminal Block) d l c ts _
    ∙ both_on lenient signature (g.nonterminal Block) d l c ts _
    ∙ sym (bind_assoc (read_part lenient signature d l c ts) _ _)
