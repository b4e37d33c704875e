-- What is read of a declaration, or of a type, after its first parts, for a reader that goes on from there.
use Rattle.std.specs.Prelude.{ℕ, Bool, List, ◌++◌, Option, Some, None}
use Rattle.sw_base.specs.declared.ids.Span.{Span}
use Rattle.sw_lex.specs.declared.token.TokenKind.{TokenKind}
use Rattle.sw_lex.specs.declared.token.TokenKind.TheVariants as k
use Rattle.sw_grammar.specs.Grammar.{nonterminal, maybe, many, terminal, when, counts, gives}
use Rattle.sw_grammar.specs.Reading.{Out, got, ◌>>=◌}
use Rattle.sw_tree.specs.declared.expr.Name.{Name}
use Rattle.sw_tree.specs.declared.types.«Type».{«Type» as TypeTree}
use Rattle.sw_tree.specs.declared.decl.Decl.{Decl}
use Rattle.sw_tree.specs.declared.decl.Typealias.{Typealias}
use Rattle.sw_tree.specs.declared.decl.Heading.{Heading}
use Rattle.sw_tree.specs.declared.decl.Modifier.{Modifier}
use Rattle.sw_tree.specs.declared.decl.Parameter.{Parameter}
use Rattle.sw_tree.specs.declared.decl.ParameterLabel.{ParameterLabel}
use Rattle.sw_tree.specs.declared.decl.Member.{Member}
use Rattle.sw_tree.specs.declared.decl.Accessor.{Accessor}
use Rattle.sw_tree.specs.declared.decl.Accessor.TheVariants as accessor
use Rattle.sw_tree.specs.declared.decl.Signature.{Signature}
use Rattle.sw_tree.specs.declared.decl.Case.{Case as CaseTree}
use Rattle.sw_tree.specs.declared.decl.Payload.{Payload as PayloadTree}
use Rattle.sw_syntax.specs.Tokens.{Sighted, Face}
use Rattle.sw_syntax.specs.Tests.{is_get, is_getter, is_no_getter, is_joined_question, is_other_label}
use Rattle.sw_syntax.specs.Values.{or_none, optional_of, named}
use Rattle.sw_syntax.specs.Forms.{initial_var, computed_var, typed_var, or_untyped, stored_var, or_no_statement, own_or_other, other_label}
use Rattle.sw_syntax.specs.Nonterminals.{ItemKind, InBlock, Param, Case, Payload, Block, SomeStatements, ItemTree}
use Rattle.sw_syntax.specs.Parts.{◌·◌, ◌∣◌, tok, place, name, present, after, some, any, in_parens, in_braces, whole_type}
use Rattle.sw_syntax.specs.Grammar.{annotation, initial, list_of, mods, heading, typealias, params, signature, getter, modified_decl, modified_member}
use Rattle.sw_syntax.specs.Answering.{read_part}
use Rattle.sw_syntax.specs.Lists.{more}

-- ---- types

-- marks after this type
unfoldable pub questions : (lenient : Bool) → ℕ → ℕ → ℕ → TypeTree → List Sighted → Out Sighted TypeTree
questions lenient d l c base ts = read_part lenient (many (counts (terminal is_joined_question))) d l c ts >>= (λ marks c' rest. got (optional_of base marks) c' rest)

-- a type of this name, or a member of it
unfoldable pub member_type : (lenient : Bool) → ℕ → ℕ → ℕ → Name → List Sighted → Out Sighted TypeTree
member_type lenient d l c outer ts = read_part lenient (maybe (after (tok k.Dot) name)) d l c ts >>= (λ inner c' rest. got (named outer inner) c' rest)

-- ---- parts of declarations

-- the items between two braces
unfoldable pub item_block : (lenient : Bool) → (kind : ItemKind) → ℕ → ℕ → ℕ → List Sighted → Out Sighted (List (ItemTree kind))
item_block lenient kind = read_part lenient (in_braces (list_of kind))

-- modifiers after the first ones
unfoldable pub mods_from : (lenient : Bool) → ℕ → ℕ → ℕ → List Modifier → List Sighted → Out Sighted (List Modifier)
mods_from lenient d l c xs ts = read_part lenient mods d l c ts >>= (λ ys c' rest. got (xs ++ ys) c' rest)

unfoldable pub typealias_part : (lenient : Bool) → ℕ → ℕ → ℕ → List Sighted → Out Sighted Typealias
typealias_part lenient = read_part lenient typealias

-- what follows these modifiers
unfoldable pub decl_from : (lenient : Bool) → ℕ → ℕ → ℕ → List Modifier → List Sighted → Out Sighted Decl
decl_from lenient d l c modifiers ts = read_part lenient modified_decl d l c ts >>= (λ x c' rest. got (x modifiers) c' rest)

unfoldable pub member_from : (lenient : Bool) → ℕ → ℕ → ℕ → List Modifier → List Sighted → Out Sighted Member
member_from lenient d l c modifiers ts = read_part lenient modified_member d l c ts >>= (λ x c' rest. got (x modifiers) c' rest)

unfoldable pub heading_from : (lenient : Bool) → ℕ → ℕ → ℕ → List Modifier → List Sighted → Out Sighted Heading
heading_from lenient d l c modifiers ts = read_part lenient heading d l c ts >>= (λ x c' rest. got (x modifiers) c' rest)

unfoldable pub signature_from : (lenient : Bool) → ℕ → ℕ → ℕ → List Modifier → List Sighted → Out Sighted Signature
signature_from lenient d l c modifiers ts = read_part lenient signature d l c ts >>= (λ x c' rest. got (x modifiers) c' rest)

-- the names after `:`, perhaps none; and those after the first ones
unfoldable pub conformances : (lenient : Bool) → ℕ → ℕ → ℕ → List Sighted → Out Sighted (List Name)
conformances lenient d l c ts = read_part lenient (maybe (after (tok k.Colon) (some name))) d l c ts >>= (λ names c' rest. got (or_none names) c' rest)

abbrev pub more_names : (lenient : Bool) → ℕ → ℕ → ℕ → List Name → List Sighted → Out Sighted (List Name)
more_names lenient = more lenient name

-- whether a token of the kind stands there
unfoldable pub flag_part : (lenient : Bool) → TokenKind → ℕ → ℕ → ℕ → List Sighted → Out Sighted Bool
flag_part lenient kind = read_part lenient (present (tok kind))

-- the place of a token of the kind, if one stands there
unfoldable pub mark_part : (lenient : Bool) → TokenKind → ℕ → ℕ → ℕ → List Sighted → Out Sighted (Option Span)
mark_part lenient kind = read_part lenient (maybe (place kind))

unfoldable pub result_part : (lenient : Bool) → ℕ → ℕ → ℕ → List Sighted → Out Sighted (Option TypeTree)
result_part lenient = read_part lenient (maybe (after (tok k.Arrow) whole_type))

-- ---- parameters

unfoldable pub params_part : (lenient : Bool) → ℕ → ℕ → ℕ → List Sighted → Out Sighted (List Parameter)
params_part lenient = read_part lenient params

unfoldable pub param_list : (lenient : Bool) → ℕ → ℕ → ℕ → List Sighted → Out Sighted (List Parameter)
param_list lenient = read_part lenient (any (nonterminal Param))

abbrev pub more_params : (lenient : Bool) → ℕ → ℕ → ℕ → List Parameter → List Sighted → Out Sighted (List Parameter)
more_params lenient = more lenient (nonterminal Param)

-- the names before the `:` of a parameter
unfoldable pub param_names : (lenient : Bool) → ℕ → ℕ → ℕ → List Sighted → Out Sighted (ParameterLabel × Name)
param_names lenient = read_part lenient (gives (λ x. own_or_other x.0 x.1) (name · maybe name) ∣ gives (λ x. other_label x.0 x.1) (terminal is_other_label · name))

-- ---- properties

-- what follows the name of a `var`, and after its type
unfoldable pub var_from : (lenient : Bool) → ℕ → ℕ → ℕ → List Modifier → Name → List Sighted → Out Sighted Member
var_from lenient d l c modifiers n ts =
    read_part lenient (maybe (gives (λ x. typed_var x.0 x.1) (annotation · maybe (gives initial_var initial ∣ gives computed_var getter)) ∣ gives (λ x. stored_var None (Some x)) initial)) d l c ts
    >>= (λ x c' rest. got (or_untyped x modifiers n) c' rest)

unfoldable pub typed_from : (lenient : Bool) → ℕ → ℕ → ℕ → List Modifier → Name → TypeTree → List Sighted → Out Sighted Member
typed_from lenient d l c modifiers n declared ts =
    read_part lenient (maybe (gives initial_var initial ∣ gives computed_var getter)) d l c ts >>= (λ x c' rest. got (typed_var declared x modifiers n) c' rest)

unfoldable pub getter_part : (lenient : Bool) → ℕ → ℕ → ℕ → List Sighted → Out Sighted Accessor
getter_part lenient = read_part lenient getter

-- what stands between the braces of a getter
unfoldable pub accessor_part : (lenient : Bool) → ℕ → ℕ → ℕ → List Sighted → Out Sighted Accessor
accessor_part lenient d l c ts =
    read_part lenient (maybe (gives accessor.Get (after (terminal is_getter) (nonterminal Block)) ∣ gives (λ body. accessor.Body body.0) (when is_no_getter (nonterminal (SomeStatements InBlock))))) d l c ts
    >>= (λ x c' rest. got (or_no_statement x) c' rest)

-- `get` between the braces of a property of a protocol
unfoldable pub get_block : (lenient : Bool) → ℕ → ℕ → ℕ → List Sighted → Out Sighted Face
get_block lenient = read_part lenient (in_braces (terminal is_get))

-- ---- cases

unfoldable pub case_list : (lenient : Bool) → ℕ → ℕ → ℕ → List Sighted → Out Sighted (List CaseTree)
case_list lenient = read_part lenient (some (nonterminal Case))

abbrev pub more_cases : (lenient : Bool) → ℕ → ℕ → ℕ → List CaseTree → List Sighted → Out Sighted (List CaseTree)
more_cases lenient = more lenient (nonterminal Case)

-- the payload of a case between `(` and `)`, if it comes
unfoldable pub payload_part : (lenient : Bool) → ℕ → ℕ → ℕ → List Sighted → Out Sighted (Option (List PayloadTree))
payload_part lenient = read_part lenient (maybe (in_parens (any (nonterminal Payload))))

unfoldable pub payload_list : (lenient : Bool) → ℕ → ℕ → ℕ → List Sighted → Out Sighted (List PayloadTree)
payload_list lenient = read_part lenient (any (nonterminal Payload))

abbrev pub more_payloads : (lenient : Bool) → ℕ → ℕ → ℕ → List PayloadTree → List Sighted → Out Sighted (List PayloadTree)
more_payloads lenient = more lenient (nonterminal Payload)
