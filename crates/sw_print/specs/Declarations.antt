-- How declarations and whole trees are written, and the text of a tree.
use Rattle.std.specs.Prelude.{List, [], ◌∷◌, ◌++◌, map, Option, codes}
use Rattle.sw_base.specs.declared.ids.Span.{Span}
use Rattle.sw_lex.specs.declared.token.TokenKind.{TokenKind}
use Rattle.sw_lex.specs.declared.token.TokenKind.TheVariants as k
use Rattle.sw_lex.specs.Bytes.{Text}
use Rattle.sw_layout.specs.declared.gap.Gap.{Gap}
use Rattle.sw_layout.specs.declared.gap.Gap.TheVariants as gap
use Rattle.sw_layout.specs.Words.{Word, plain, page_text}
use Rattle.sw_tree.specs.declared.expr.Name.{Name}
use Rattle.sw_tree.specs.declared.decl.Tree.{Tree}
use Rattle.sw_tree.specs.declared.decl.Typealias.{Typealias}
use Rattle.sw_tree.specs.declared.decl.Heading.{Heading}
use Rattle.sw_tree.specs.declared.decl.Modifier.{Modifier}
use Rattle.sw_tree.specs.declared.decl.ModifierKind.{ModifierKind}
use Rattle.sw_tree.specs.declared.decl.ModifierKind.TheVariants as modifier
use Rattle.sw_tree.specs.declared.decl.StoredProperty.{StoredProperty}
use Rattle.sw_tree.specs.declared.decl.ComputedProperty.{ComputedProperty}
use Rattle.sw_tree.specs.declared.decl.Signature.{Signature}
use Rattle.sw_tree.specs.declared.decl.TypeParameter.{TypeParameter}
use Rattle.sw_tree.specs.declared.decl.Func.{Func}
use Rattle.sw_tree.specs.declared.decl.Initializer.{Initializer}
use Rattle.sw_tree.specs.declared.decl.Parameter.{Parameter}
use Rattle.sw_tree.specs.declared.decl.Case.{Case}
use Rattle.sw_tree.specs.declared.decl.Payload.{Payload}
use Rattle.sw_tree.specs.declared.decl.Decl.{Decl}
use Rattle.sw_tree.specs.declared.decl.Decl.TheVariants as d
use Rattle.sw_tree.specs.declared.decl.Member.{Member}
use Rattle.sw_tree.specs.declared.decl.Member.TheVariants as m
use Rattle.sw_tree.specs.declared.decl.Accessor.{Accessor}
use Rattle.sw_tree.specs.declared.decl.Accessor.TheVariants as accessor
use Rattle.sw_tree.specs.declared.decl.ParameterLabel.{ParameterLabel}
use Rattle.sw_tree.specs.declared.decl.ParameterLabel.TheVariants as label
use Rattle.sw_tree.specs.declared.decl.EnumItem.{EnumItem}
use Rattle.sw_tree.specs.declared.decl.EnumItem.TheVariants as item
use Rattle.sw_tree.specs.declared.decl.Requirement.{Requirement}
use Rattle.sw_tree.specs.declared.decl.Requirement.TheVariants as r
use Rattle.sw_print.specs.Expressions.{W, word, name_word, label_word, listed, in_parens, perhaps, if_there, labelled, type_words}
use Rattle.sw_print.specs.Statements.{binding_word, annotation_words, initial_words, each_line, in_braces, block_words}

-- ---- modifiers

-- the words that are no reserved words are names
abbrev pub contextual : Text → Gap → Word
contextual text before = word k.Name text before

abbrev pub modifier_word : ModifierKind → Gap → Word
modifier_word modifier.Public = plain k.Public
modifier_word modifier.Internal = plain k.Internal
modifier_word modifier.Private = plain k.Private
modifier_word modifier.Fileprivate = plain k.Fileprivate
modifier_word modifier.Final = contextual (codes "final")
modifier_word modifier.Distributed = contextual (codes "distributed")
modifier_word modifier.Nonisolated = contextual (codes "nonisolated")
modifier_word modifier.Static = plain k.Static
modifier_word modifier.Mutating = contextual (codes "mutating")

-- modifiers, and what follows them
abbrev pub modified : List Modifier → W → W
modified [] x g = x g
modified (m ∷ ms) x g = modifier_word m.kind g ∷ modified ms x gap.Space

-- modifiers by themselves, and what stands before what is written after them
abbrev pub modifiers_words : List Modifier → W
modifiers_words [] g = []
modifiers_words (m ∷ ms) g = modifier_word m.kind g ∷ modifiers_words ms gap.Space

abbrev pub after_modifiers : List Modifier → Gap → Gap
after_modifiers [] g = g
after_modifiers (m ∷ ms) g = gap.Space

-- ---- types and funcs

abbrev pub typealias_words : Typealias → W
typealias_words x g = plain k.Typealias g ∷ name_word x.name gap.Space ∷ plain k.Assign gap.Space ∷ type_words x.target gap.Space

-- the names after the `:` of a declared type
abbrev pub conformances_words : List Name → List Word
conformances_words [] = []
conformances_words (x ∷ xs) = plain k.Colon gap.Space ∷ listed (map (λ name g. name_word name g ∷ []) (x ∷ xs))

-- a declared type, whose kind is told by this word, and what stands between its braces
abbrev pub nominal_words : (Gap → Word) → Heading → List W → W
nominal_words kind x items =
    modified x.modifiers (λ g. kind g ∷ name_word x.name gap.Space ∷ (conformances_words x.conformances ++ in_braces (each_line items)))

-- a declared type up to its brace
abbrev pub heading_words : (Gap → Word) → Heading → W
heading_words kind x = modified x.modifiers (λ g. kind g ∷ name_word x.name gap.Space ∷ conformances_words x.conformances)

abbrev pub parameter_label_words : ParameterLabel → Name → W
parameter_label_words label.Own name g = name_word name g ∷ []
parameter_label_words label.Nothing name g = plain k.Underscore g ∷ name_word name gap.Space ∷ []
parameter_label_words (label.Other other) name g = label_word other g ∷ name_word name gap.Space ∷ []

abbrev pub at_place : TokenKind → Option Span → List Word
at_place kind = perhaps (λ at. plain kind gap.Space ∷ [])

abbrev pub parameter_words : Parameter → W
parameter_words x g =
    parameter_label_words x.label x.name g ++ (plain k.Colon gap.Space ∷ (at_place k.Inout x.inout ++ (type_words x.declared gap.Space ++ at_place k.Ellipsis x.variadic)))

abbrev pub type_parameter_words : TypeParameter → W
type_parameter_words x g = name_word x.name g ∷ perhaps (λ name. plain k.Colon gap.Space ∷ name_word name gap.Space ∷ []) x.constraint

abbrev pub type_parameters_words : List TypeParameter → List Word
type_parameters_words [] = []
type_parameters_words (x ∷ xs) = plain k.Less gap.Space ∷ (listed (map type_parameter_words (x ∷ xs)) ++ plain k.Greater gap.Space ∷ [])

-- a func without its body, after its modifiers
abbrev pub signature_rest : Signature → List Word
signature_rest x =
    type_parameters_words x.type_parameters
    ++ (in_parens (map parameter_words x.parameters)
    ++ (if_there k.Async x.is_async
    ++ (if_there k.Throws x.throws
    ++ perhaps (λ of. plain k.Arrow gap.Space ∷ type_words of gap.Space) x.result)))

abbrev pub signature_words : Signature → W
signature_words x = modified x.modifiers (λ g. plain k.Func g ∷ name_word x.name gap.Space ∷ signature_rest x)

abbrev pub func_words : Func → W
func_words x g = signature_words x.signature g ++ block_words x.body

-- ---- members

abbrev pub stored_words : StoredProperty → W
stored_words x = modified x.modifiers (λ g. binding_word x.binding g ∷ name_word x.name gap.Space ∷ (perhaps annotation_words x.declared ++ perhaps initial_words x.initial))

abbrev pub accessor_words : Accessor → List Word
accessor_words (accessor.Body body) = block_words body
accessor_words (accessor.Get body) = in_braces (contextual (codes "get") gap.Space ∷ block_words body)

abbrev pub computed_words : ComputedProperty → W
computed_words x = modified x.modifiers (λ g. plain k.Var g ∷ name_word x.name gap.Space ∷ (annotation_words x.declared ++ accessor_words x.accessor))

abbrev pub initializer_words : Initializer → W
initializer_words x =
    modified x.modifiers (λ g. plain k.Init g ∷ (in_parens (map parameter_words x.parameters) ++ (if_there k.Throws x.throws ++ block_words x.body)))

abbrev pub member_words : Member → W
member_words (m.Stored x) = stored_words x
member_words (m.Computed x) = computed_words x
member_words (m.Func x) = func_words x
member_words (m.Initializer x) = initializer_words x
member_words (m.Typealias x) = typealias_words x

abbrev pub payload_words : Payload → W
payload_words x = labelled x.label (type_words x.declared)

abbrev pub case_words : Case → W
case_words x g = name_word x.name g ∷ perhaps (λ xs. in_parens (map payload_words xs)) x.payload

abbrev pub item_words : EnumItem → W
item_words (item.Cases cases) g = plain k.Case g ∷ listed (map case_words cases)
item_words (item.Member x) g = member_words x g

abbrev pub requirement_words : Requirement → W
requirement_words (r.Func x) g = signature_words x g
requirement_words (r.Property name declared) g =
    plain k.Var g ∷ name_word name gap.Space ∷ (annotation_words declared ++ in_braces (contextual (codes "get") gap.Space ∷ []))

-- ---- whole trees

abbrev pub decl_words : Decl → W
decl_words (d.Import at name) g = plain k.Import g ∷ name_word name gap.Space ∷ []
decl_words (d.Typealias x) g = typealias_words x g
decl_words (d.Struct heading members) g = nominal_words (plain k.Struct) heading (map member_words members) g
decl_words (d.Enum heading items) g = nominal_words (plain k.Enum) heading (map item_words items) g
decl_words (d.Protocol heading requirements) g = nominal_words (plain k.Protocol) heading (map requirement_words requirements) g
decl_words (d.Actor heading members) g = nominal_words (contextual (codes "actor")) heading (map member_words members) g
decl_words (d.Func x) g = func_words x g

abbrev pub decls_words : List Decl → List Word
decls_words [] = []
decls_words (x ∷ xs) = decl_words x gap.Start ++ each_line (map decl_words xs)

abbrev pub tree_words : Tree → List Word
tree_words tree = decls_words tree.decls

-- the text of a tree
abbrev pub tree_text : Tree → Text
tree_text tree = page_text (tree_words tree)
