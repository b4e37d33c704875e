-- Declarations and whole trees are written as words that stand apart.
use Rattle.std.proofs.Common.{◌≡◌, Bool, true, false, List, [], ◌∷◌, ◌++◌, map, Option, Some, None, refl, sym, subst}
use Rattle.std.proofs.lemmas.List.{append-nil}
use Rattle.std.specs.Prelude.{codes}
use Rattle.sw_base.specs.declared.ids.Span.{Span}
use Rattle.sw_lex.specs.declared.token.TokenKind.{TokenKind}
use Rattle.sw_lex.specs.declared.token.TokenKind.TheVariants as k
use Rattle.sw_lex.specs.Bytes.{Text}
use Rattle.sw_layout.specs.declared.gap.Gap.{Gap}
use Rattle.sw_layout.specs.declared.gap.Gap.TheVariants as gap
use Rattle.sw_layout.specs.Words.{Word, plain, fixed}
use Rattle.sw_tree.specs.declared.expr.Name.{Name}
use Rattle.sw_tree.specs.declared.decl.Tree.{Tree}
use Rattle.sw_tree.specs.declared.decl.Typealias.{Typealias}
use Rattle.sw_tree.specs.declared.decl.Heading.{Heading}
use Rattle.sw_tree.specs.declared.decl.Modifier.{Modifier}
use Rattle.sw_tree.specs.declared.decl.ModifierKind.{ModifierKind}
use Rattle.sw_tree.specs.declared.decl.ModifierKind.TheVariants as modifier
use Rattle.sw_tree.specs.declared.decl.StoredProperty.{StoredProperty}
use Rattle.sw_tree.specs.declared.decl.ComputedProperty.{ComputedProperty}
use Rattle.sw_tree.specs.declared.decl.Signature.{Signature}
use Rattle.sw_tree.specs.declared.decl.TypeParameter.{TypeParameter}
use Rattle.sw_tree.specs.declared.decl.Func.{Func}
use Rattle.sw_tree.specs.declared.decl.Initializer.{Initializer}
use Rattle.sw_tree.specs.declared.decl.Parameter.{Parameter}
use Rattle.sw_tree.specs.declared.decl.Case.{Case}
use Rattle.sw_tree.specs.declared.decl.Payload.{Payload}
use Rattle.sw_tree.specs.declared.decl.Decl.{Decl}
use Rattle.sw_tree.specs.declared.decl.Decl.TheVariants as d
use Rattle.sw_tree.specs.declared.decl.Member.{Member}
use Rattle.sw_tree.specs.declared.decl.Member.TheVariants as m
use Rattle.sw_tree.specs.declared.decl.Accessor.{Accessor}
use Rattle.sw_tree.specs.declared.decl.Accessor.TheVariants as accessor
use Rattle.sw_tree.specs.declared.decl.ParameterLabel.{ParameterLabel}
use Rattle.sw_tree.specs.declared.decl.ParameterLabel.TheVariants as label
use Rattle.sw_tree.specs.declared.decl.EnumItem.{EnumItem}
use Rattle.sw_tree.specs.declared.decl.EnumItem.TheVariants as item
use Rattle.sw_tree.specs.declared.decl.Requirement.{Requirement}
use Rattle.sw_tree.specs.declared.decl.Requirement.TheVariants as r
use Rattle.sw_print.specs.Expressions.{W, word, name_word, listed, in_parens, perhaps, if_there, type_words}
use Rattle.sw_print.specs.Statements.{binding_word, annotation_words, initial_words, each_line, in_braces, block_words}
use Rattle.sw_print.specs.Declarations.{contextual, modifier_word, modified, typealias_words, conformances_words, nominal_words, parameter_label_words, at_place, parameter_words, type_parameter_words, type_parameters_words, signature_rest, signature_words, func_words, stored_words, accessor_words, computed_words, initializer_words, member_words, payload_words, case_words, item_words, requirement_words, decl_words, decls_words, tree_words}
use Rattle.sw_print.proofs.Shape.{Shape, Held, Laid, Ends, AllHeld, is_simple, is_free, begins, cons, none, cat, going_on, parens, listed_laid}
use Rattle.sw_print.proofs.TypeShape.{type_laid, type_shape}
use Rattle.sw_print.proofs.ExprShape.{label_held, labelled_held}
use Rattle.sw_print.proofs.StmtShape.{Stated, Set, AllStated, set, set_none, set_cat, set_cons, state_begins, state_going_on, stated, braces, each_set, maybe_laid, annotation_laid, initial_laid, binding_held, block_set}

-- ---- modifiers

-- a word that neither opens a bracket nor goes on with anything
abbrev IsPlainWord : (Gap → Word) → Type 0
IsPlainWord w = (kind : TokenKind) × (text : Text) × ((g : Gap) → w g ≡ word kind text g) × (is_simple kind ≡ true) × (is_free kind ≡ true) × Ends kind

modifier_plain : (x : ModifierKind) → IsPlainWord (modifier_word x)
modifier_plain modifier.Public = (k.Public, fixed k.Public, (λ g. refl), refl, refl, refl)
modifier_plain modifier.Internal = (k.Internal, fixed k.Internal, (λ g. refl), refl, refl, refl)
modifier_plain modifier.Private = (k.Private, fixed k.Private, (λ g. refl), refl, refl, refl)
modifier_plain modifier.Fileprivate = (k.Fileprivate, fixed k.Fileprivate, (λ g. refl), refl, refl, refl)
modifier_plain modifier.Final = (k.Name, codes "final", (λ g. refl), refl, refl, refl)
modifier_plain modifier.Distributed = (k.Name, codes "distributed", (λ g. refl), refl, refl, refl)
modifier_plain modifier.Nonisolated = (k.Name, codes "nonisolated", (λ g. refl), refl, refl, refl)
modifier_plain modifier.Static = (k.Static, fixed k.Static, (λ g. refl), refl, refl, refl)
modifier_plain modifier.Mutating = (k.Name, codes "mutating", (λ g. refl), refl, refl, refl)

-- such a word first, and then others
led : (w : Gap → Word) (v : List Word) → IsPlainWord w → Set v → Stated (λ g. w g ∷ v)
led w v (kind, text, same, s, f, e) h g l rest lead more = subst (λ first. Shape [] l (first ∷ (v ++ rest))) (sym (same g)) (state_begins kind text v s f e h g l rest lead more)

-- with such words before it
after : (w : Gap → Word) (x : W) → IsPlainWord w → Stated x → Stated (λ g. w g ∷ x gap.Space)
after w x p h = led w (x gap.Space) p (λ i rest e more. h gap.Space (Some i) rest (i, refl, e) more)

modified_stated : (ms : List Modifier) (x : W) → Stated x → Stated (modified ms x)
modified_stated [] x h = λ g l rest lead more. h g l rest lead more
modified_stated (m ∷ ms) x h = λ g l rest lead more. after (modifier_word m.kind) (modified ms x) (modifier_plain m.kind) (modified_stated ms x h) g l rest lead more

-- ---- types and funcs

typealias_stated : (x : Typealias) → Stated (typealias_words x)
typealias_stated x =
    state_begins k.Typealias (fixed k.Typealias) (word k.Name x.name.text gap.Space ∷ plain k.Assign gap.Space ∷ type_words x.target gap.Space) refl refl refl
    (set (word k.Name x.name.text gap.Space ∷ plain k.Assign gap.Space ∷ type_words x.target gap.Space)
    (cons k.Name x.name.text (plain k.Assign gap.Space ∷ type_words x.target gap.Space) refl refl (cons k.Assign (fixed k.Assign) (type_words x.target gap.Space) refl refl (type_laid x.target))))

names_held : (xs : List Name) → AllHeld (map (λ name g. name_word name g ∷ []) xs)
names_held [] = tt
names_held (x ∷ xs) = (begins k.Name x.text [] refl refl refl none, names_held xs)

conformances_laid : (xs : List Name) → Laid (conformances_words xs)
conformances_laid [] = none
conformances_laid (x ∷ xs) = cons k.Colon (fixed k.Colon) (listed (map (λ name g. name_word name g ∷ []) (x ∷ xs))) refl refl (listed_laid (map (λ name g. name_word name g ∷ []) (x ∷ xs)) (names_held (x ∷ xs)))

nominal_stated : (kind : Gap → Word) (x : Heading) (items : List W) → IsPlainWord kind → AllStated items → Stated (nominal_words kind x items)
nominal_stated kind x items p h =
    modified_stated x.modifiers (λ g. kind g ∷ name_word x.name gap.Space ∷ (conformances_words x.conformances ++ in_braces (each_line items)))
    (led kind (name_word x.name gap.Space ∷ (conformances_words x.conformances ++ in_braces (each_line items))) p
    (set_cons k.Name x.name.text (conformances_words x.conformances ++ in_braces (each_line items)) refl refl
    (set_cat (conformances_words x.conformances) (in_braces (each_line items)) (set (conformances_words x.conformances) (conformances_laid x.conformances)) (braces (each_line items) (each_set items h)))))

place_laid : (kind : TokenKind) (x : Option Span) → is_simple kind ≡ true → Ends kind → Laid (at_place kind x)
place_laid kind None s e = none
place_laid kind (Some at) s e = cons kind (fixed kind) [] s e none

there_laid : (kind : TokenKind) (x : Bool) → is_simple kind ≡ true → Ends kind → Laid (if_there kind x)
there_laid kind true s e = cons kind (fixed kind) [] s e none
there_laid kind false s e = none

parameter_label_held : (x : ParameterLabel) (name : Name) → Held (parameter_label_words x name)
parameter_label_held label.Own name = begins k.Name name.text [] refl refl refl none
parameter_label_held label.Nothing name = begins k.Underscore (fixed k.Underscore) (word k.Name name.text gap.Space ∷ []) refl refl refl (cons k.Name name.text [] refl refl none)
parameter_label_held (label.Other other) name = label_held other (word k.Name name.text gap.Space ∷ []) (cons k.Name name.text [] refl refl none)

parameter_held : (x : Parameter) → Held (parameter_words x)
parameter_held x =
    going_on (parameter_label_words x.label x.name) (plain k.Colon gap.Space ∷ (at_place k.Inout x.inout ++ (type_words x.declared gap.Space ++ at_place k.Ellipsis x.variadic))) (parameter_label_held x.label x.name)
    (cons k.Colon (fixed k.Colon) (at_place k.Inout x.inout ++ (type_words x.declared gap.Space ++ at_place k.Ellipsis x.variadic)) refl refl
    (cat (at_place k.Inout x.inout) (type_words x.declared gap.Space ++ at_place k.Ellipsis x.variadic) (place_laid k.Inout x.inout refl refl)
    (cat (type_words x.declared gap.Space) (at_place k.Ellipsis x.variadic) (type_laid x.declared) (place_laid k.Ellipsis x.variadic refl refl))))

parameters_held : (xs : List Parameter) → AllHeld (map parameter_words xs)
parameters_held [] = tt
parameters_held (x ∷ xs) = (parameter_held x, parameters_held xs)

parameters_laid : (xs : List Parameter) → Laid (in_parens (map parameter_words xs))
parameters_laid xs = parens (listed (map parameter_words xs)) (listed_laid (map parameter_words xs) (parameters_held xs))

type_parameter_held : (x : TypeParameter) → Held (type_parameter_words x)
type_parameter_held x =
    begins k.Name x.name.text (perhaps (λ name. plain k.Colon gap.Space ∷ name_word name gap.Space ∷ []) x.constraint) refl refl refl
    (maybe_laid (λ name. plain k.Colon gap.Space ∷ name_word name gap.Space ∷ []) x.constraint (λ name. cons k.Colon (fixed k.Colon) (name_word name gap.Space ∷ []) refl refl (cons k.Name name.text [] refl refl none)))

type_parameters_held : (xs : List TypeParameter) → AllHeld (map type_parameter_words xs)
type_parameters_held [] = tt
type_parameters_held (x ∷ xs) = (type_parameter_held x, type_parameters_held xs)

type_parameters_laid : (xs : List TypeParameter) → Laid (type_parameters_words xs)
type_parameters_laid [] = none
type_parameters_laid (x ∷ xs) =
    cons k.Less (fixed k.Less) (listed (map type_parameter_words (x ∷ xs)) ++ plain k.Greater gap.Space ∷ []) refl refl
    (cat (listed (map type_parameter_words (x ∷ xs))) (plain k.Greater gap.Space ∷ []) (listed_laid (map type_parameter_words (x ∷ xs)) (type_parameters_held (x ∷ xs))) (cons k.Greater (fixed k.Greater) [] refl refl none))

signature_laid : (x : Signature) → Laid (signature_rest x)
signature_laid x =
    cat (type_parameters_words x.type_parameters) (in_parens (map parameter_words x.parameters) ++ (if_there k.Async x.is_async ++ (if_there k.Throws x.throws ++ perhaps (λ of. plain k.Arrow gap.Space ∷ type_words of gap.Space) x.result))) (type_parameters_laid x.type_parameters)
    (cat (in_parens (map parameter_words x.parameters)) (if_there k.Async x.is_async ++ (if_there k.Throws x.throws ++ perhaps (λ of. plain k.Arrow gap.Space ∷ type_words of gap.Space) x.result)) (parameters_laid x.parameters)
    (cat (if_there k.Async x.is_async) (if_there k.Throws x.throws ++ perhaps (λ of. plain k.Arrow gap.Space ∷ type_words of gap.Space) x.result) (there_laid k.Async x.is_async refl refl)
    (cat (if_there k.Throws x.throws) (perhaps (λ of. plain k.Arrow gap.Space ∷ type_words of gap.Space) x.result) (there_laid k.Throws x.throws refl refl)
    (maybe_laid (λ of. plain k.Arrow gap.Space ∷ type_words of gap.Space) x.result (λ of. cons k.Arrow (fixed k.Arrow) (type_words of gap.Space) refl refl (type_laid of))))))

signature_stated : (x : Signature) → Stated (signature_words x)
signature_stated x =
    modified_stated x.modifiers (λ g. plain k.Func g ∷ name_word x.name gap.Space ∷ signature_rest x)
    (state_begins k.Func (fixed k.Func) (name_word x.name gap.Space ∷ signature_rest x) refl refl refl
    (set (name_word x.name gap.Space ∷ signature_rest x) (cons k.Name x.name.text (signature_rest x) refl refl (signature_laid x))))

func_stated : (x : Func) → Stated (func_words x)
func_stated x = state_going_on (signature_words x.signature) (block_words x.body) (signature_stated x.signature) (block_set x.body)

-- ---- members

stored_stated : (x : StoredProperty) → Stated (stored_words x)
stored_stated x =
    modified_stated x.modifiers (λ g. binding_word x.binding g ∷ name_word x.name gap.Space ∷ (perhaps annotation_words x.declared ++ perhaps initial_words x.initial))
    (stated (λ g. binding_word x.binding g ∷ name_word x.name gap.Space ∷ (perhaps annotation_words x.declared ++ perhaps initial_words x.initial))
    (binding_held x.binding (name_word x.name gap.Space ∷ (perhaps annotation_words x.declared ++ perhaps initial_words x.initial))
    (cons k.Name x.name.text (perhaps annotation_words x.declared ++ perhaps initial_words x.initial) refl refl
    (cat (perhaps annotation_words x.declared) (perhaps initial_words x.initial) (maybe_laid annotation_words x.declared annotation_laid) (maybe_laid initial_words x.initial initial_laid)))))

accessor_set : (x : Accessor) → Set (accessor_words x)
accessor_set (accessor.Body body) = block_set body
accessor_set (accessor.Get body) = braces (contextual (codes "get") gap.Space ∷ block_words body) (set_cons k.Name (codes "get") (block_words body) refl refl (block_set body))

computed_stated : (x : ComputedProperty) → Stated (computed_words x)
computed_stated x =
    modified_stated x.modifiers (λ g. plain k.Var g ∷ name_word x.name gap.Space ∷ (annotation_words x.declared ++ accessor_words x.accessor))
    (state_begins k.Var (fixed k.Var) (name_word x.name gap.Space ∷ (annotation_words x.declared ++ accessor_words x.accessor)) refl refl refl
    (set_cons k.Name x.name.text (annotation_words x.declared ++ accessor_words x.accessor) refl refl
    (set_cat (annotation_words x.declared) (accessor_words x.accessor) (set (annotation_words x.declared) (annotation_laid x.declared)) (accessor_set x.accessor))))

initializer_stated : (x : Initializer) → Stated (initializer_words x)
initializer_stated x =
    modified_stated x.modifiers (λ g. plain k.Init g ∷ (in_parens (map parameter_words x.parameters) ++ (if_there k.Throws x.throws ++ block_words x.body)))
    (state_begins k.Init (fixed k.Init) (in_parens (map parameter_words x.parameters) ++ (if_there k.Throws x.throws ++ block_words x.body)) refl refl refl
    (set_cat (in_parens (map parameter_words x.parameters)) (if_there k.Throws x.throws ++ block_words x.body) (set (in_parens (map parameter_words x.parameters)) (parameters_laid x.parameters))
    (set_cat (if_there k.Throws x.throws) (block_words x.body) (set (if_there k.Throws x.throws) (there_laid k.Throws x.throws refl refl)) (block_set x.body))))

member_stated : (x : Member) → Stated (member_words x)
member_stated (m.Stored x) = stored_stated x
member_stated (m.Computed x) = computed_stated x
member_stated (m.Func x) = func_stated x
member_stated (m.Initializer x) = initializer_stated x
member_stated (m.Typealias x) = typealias_stated x

members_stated : (xs : List Member) → AllStated (map member_words xs)
members_stated [] = tt
members_stated (x ∷ xs) = (member_stated x, members_stated xs)

payloads_held : (xs : List Payload) → AllHeld (map payload_words xs)
payloads_held [] = tt
payloads_held (x ∷ xs) = (labelled_held x.label (type_words x.declared) (type_shape x.declared), payloads_held xs)

case_held : (x : Case) → Held (case_words x)
case_held x =
    begins k.Name x.name.text (perhaps (λ xs. in_parens (map payload_words xs)) x.payload) refl refl refl
    (maybe_laid (λ xs. in_parens (map payload_words xs)) x.payload (λ xs. parens (listed (map payload_words xs)) (listed_laid (map payload_words xs) (payloads_held xs))))

cases_held : (xs : List Case) → AllHeld (map case_words xs)
cases_held [] = tt
cases_held (x ∷ xs) = (case_held x, cases_held xs)

items_stated : (xs : List EnumItem) → AllStated (map item_words xs)
items_stated [] = tt
items_stated (x ∷ xs) = (one x, items_stated xs)
  where
    one : (x : EnumItem) → Stated (item_words x)
    one (item.Cases cases) = state_begins k.Case (fixed k.Case) (listed (map case_words cases)) refl refl refl (set (listed (map case_words cases)) (listed_laid (map case_words cases) (cases_held cases)))
    one (item.Member x) = member_stated x

requirements_stated : (xs : List Requirement) → AllStated (map requirement_words xs)
requirements_stated [] = tt
requirements_stated (x ∷ xs) = (one x, requirements_stated xs)
  where
    one : (x : Requirement) → Stated (requirement_words x)
    one (r.Func x) = signature_stated x
    one (r.Property name declared) =
        state_begins k.Var (fixed k.Var) (name_word name gap.Space ∷ (annotation_words declared ++ in_braces (contextual (codes "get") gap.Space ∷ []))) refl refl refl
        (set_cons k.Name name.text (annotation_words declared ++ in_braces (contextual (codes "get") gap.Space ∷ [])) refl refl
        (set_cat (annotation_words declared) (in_braces (contextual (codes "get") gap.Space ∷ [])) (set (annotation_words declared) (annotation_laid declared))
        (braces (contextual (codes "get") gap.Space ∷ []) (set_cons k.Name (codes "get") [] refl refl set_none))))

-- ---- whole trees

decl_stated : (x : Decl) → Stated (decl_words x)
decl_stated (d.Import at name) = state_begins k.Import (fixed k.Import) (name_word name gap.Space ∷ []) refl refl refl (set_cons k.Name name.text [] refl refl set_none)
decl_stated (d.Typealias x) = typealias_stated x
decl_stated (d.Struct heading members) = nominal_stated (plain k.Struct) heading (map member_words members) (k.Struct, fixed k.Struct, (λ g. refl), refl, refl, refl) (members_stated members)
decl_stated (d.Enum heading items) = nominal_stated (plain k.Enum) heading (map item_words items) (k.Enum, fixed k.Enum, (λ g. refl), refl, refl, refl) (items_stated items)
decl_stated (d.Protocol heading requirements) = nominal_stated (plain k.Protocol) heading (map requirement_words requirements) (k.Protocol, fixed k.Protocol, (λ g. refl), refl, refl, refl) (requirements_stated requirements)
decl_stated (d.Actor heading members) = nominal_stated (contextual (codes "actor")) heading (map member_words members) (k.Name, codes "actor", (λ g. refl), refl, refl, refl) (members_stated members)
decl_stated (d.Func x) = func_stated x

decls_stated : (xs : List Decl) → AllStated (map decl_words xs)
decls_stated [] = tt
decls_stated (x ∷ xs) = (decl_stated x, decls_stated xs)

decls_shape : (xs : List Decl) → Shape [] None (decls_words xs)
decls_shape [] = refl
decls_shape (x ∷ xs) =
    decl_stated x gap.Start None (each_line (map decl_words xs)) refl
    (λ e f. subst (Shape [] (Some e)) (append-nil (each_line (map decl_words xs))) (each_set (map decl_words xs) (decls_stated xs) e [] f (λ i j. refl)))

pub tree_shape : (tree : Tree) → Shape [] None (tree_words tree)
tree_shape tree = decls_shape tree.decls
