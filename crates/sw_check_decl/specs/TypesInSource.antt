-- T7 at every type that a source writes: a protocol as a type without `any`, at its name, or `any` of something else, at
-- `any`.
use Rattle.std.specs.Prelude.{not, Option, Some, None, List, [], ◌++◌}
use Rattle.std.specs.List.{flat_map}
use Rattle.sw_rules.specs.declared.Refusal.{Refusal}
use Rattle.sw_rules.specs.declared.Rule.TheVariants.{T7}
use Rattle.sw_findings.specs.Found.{when}
use Rattle.sw_tree.specs.declared.expr.Name.{Name}
use Rattle.sw_tree.specs.declared.types.«Type».{«Type» as TypeTree, fold-Type}
use Rattle.sw_tree.specs.declared.types.«Type».TheOpen.{Type-F}
use Rattle.sw_tree.specs.declared.stmt.Stmt.{Stmt, fold-Stmt}
use Rattle.sw_tree.specs.declared.stmt.Stmt.TheOpen.{Stmt-F, Branch-F, Catch-F, SwitchArm-F}
use Rattle.sw_tree.specs.declared.stmt.CatchPattern.{CatchPattern}
use Rattle.sw_tree.specs.declared.stmt.CatchPattern.TheVariants as catching
use Rattle.sw_tree.specs.declared.decl.Parameter.{Parameter}
use Rattle.sw_tree.specs.declared.decl.Case.{Case}
use Rattle.sw_tree.specs.declared.decl.Func.{Func}
use Rattle.sw_tree.specs.declared.decl.Accessor.{Accessor}
use Rattle.sw_tree.specs.declared.decl.Accessor.TheVariants as accessor
use Rattle.sw_tree.specs.declared.decl.Member.{Member as TreeMember}
use Rattle.sw_tree.specs.declared.decl.Member.TheVariants as m
use Rattle.sw_tree.specs.declared.decl.EnumItem.{EnumItem}
use Rattle.sw_tree.specs.declared.decl.EnumItem.TheVariants as item
use Rattle.sw_tree.specs.declared.decl.Requirement.{Requirement}
use Rattle.sw_tree.specs.declared.decl.Requirement.TheVariants as r
use Rattle.sw_tree.specs.declared.decl.Decl.{Decl}
use Rattle.sw_tree.specs.declared.decl.Decl.TheVariants as d
use Rattle.sw_declared.specs.declared.names.Member.{Member}
use Rattle.sw_declared.specs.declared.names.Names.{Names}
use Rattle.sw_type_table.specs.Table.{payload}
use Rattle.sw_check_decl.specs.Protocols.{names_protocol, takes_any}

-- ---- one type

abbrev pub type_name_broken : Names → List Member → Name → List Refusal
type_name_broken names own name = when (names_protocol names own name.text) T7 name.span

-- What stands after a `.` is an identity, and no protocol.
abbrev pub type_level : Names → List Member → Type-F (List Refusal) → List Refusal
type_level names own (Type-F.Name name) = type_name_broken names own name
type_level names own (Type-F.Member outer name) = []
type_level names own (Type-F.Array at element) = element
type_level names own (Type-F.Any at name) = when (not (takes_any names own name.text)) T7 at
type_level names own (Type-F.Void at) = []
type_level names own (Type-F.Optional wrapped) = wrapped

unfoldable pub type_broken : Names → List Member → TypeTree → List Refusal
type_broken names own = fold-Type (List Refusal) (type_level names own)

-- ---- the types in statements: of a `let` or `var`, and after the `as` of a `catch`

abbrev pub perhaps : {A : Type 0} → (A → List Refusal) → Option A → List Refusal
perhaps f None = []
perhaps f (Some x) = f x

-- those of all parts
abbrev pub of_all : List (List Refusal) → List Refusal
of_all = flat_map (λ refusals. refusals)

abbrev pub stmt_level : Names → List Member → Stmt-F (List Refusal) (List Refusal) (List Refusal) (List Refusal) → List Refusal
stmt_level names own (Stmt-F.Local at binding name declared value) = perhaps (type_broken names own) declared
stmt_level names own (Stmt-F.Assign to operator at value) = []
stmt_level names own (Stmt-F.Discard at value) = []
stmt_level names own (Stmt-F.Expr x) = []
stmt_level names own (Stmt-F.If first others otherwise) = first ++ (of_all others ++ perhaps of_all otherwise)
stmt_level names own (Stmt-F.Guard at conditions body) = of_all body
stmt_level names own (Stmt-F.While at conditions body) = of_all body
stmt_level names own (Stmt-F.For at name first last body) = of_all body
stmt_level names own (Stmt-F.Switch at subject arms) = of_all arms
stmt_level names own (Stmt-F.Do at body catches) = of_all body ++ of_all catches
stmt_level names own (Stmt-F.Return at value) = []
stmt_level names own (Stmt-F.Throw at value) = []
stmt_level names own (Stmt-F.Break at) = []
stmt_level names own (Stmt-F.Continue at) = []

-- The name before the `.` of a `catch` is no type here.
abbrev pub caught_broken : Names → List Member → CatchPattern → List Refusal
caught_broken names own (catching.As name of) = type_name_broken names own of
caught_broken names own (catching.Case of name parts) = []

abbrev pub branch_level : Branch-F (List Refusal) (List Refusal) (List Refusal) (List Refusal) → List Refusal
branch_level x = of_all x.body

abbrev pub catch_level : Names → List Member → Catch-F (List Refusal) (List Refusal) (List Refusal) (List Refusal) → List Refusal
catch_level names own x = perhaps (caught_broken names own) x.pattern ++ of_all x.body

abbrev pub arm_level : SwitchArm-F (List Refusal) (List Refusal) (List Refusal) (List Refusal) → List Refusal
arm_level x = of_all x.body

unfoldable pub stmt_broken : Names → List Member → Stmt → List Refusal
stmt_broken names own =
    fold-Stmt (List Refusal) (List Refusal) (List Refusal) (List Refusal)
    (stmt_level names own) branch_level (catch_level names own) arm_level

abbrev pub block_broken : Names → List Member → List Stmt → List Refusal
block_broken names own body = flat_map (stmt_broken names own) body

-- ---- the types in declarations

abbrev pub parameters_broken : Names → List Member → List Parameter → List Refusal
parameters_broken names own parameters = flat_map (λ p. type_broken names own p.declared) parameters

-- of parameters and a result
abbrev pub signature_broken : Names → List Member → List Parameter → Option TypeTree → List Refusal
signature_broken names own parameters result = parameters_broken names own parameters ++ perhaps (type_broken names own) result

abbrev pub func_broken : Names → List Member → Func → List Refusal
func_broken names own x = signature_broken names own x.signature.parameters x.signature.result ++ block_broken names own x.body

abbrev pub accessor_broken : Names → List Member → Accessor → List Refusal
accessor_broken names own (accessor.Body body) = block_broken names own body
accessor_broken names own (accessor.Get body) = block_broken names own body

abbrev pub member_broken : Names → List Member → TreeMember → List Refusal
member_broken names own (m.Stored x) = perhaps (type_broken names own) x.declared
member_broken names own (m.Computed x) = type_broken names own x.declared ++ accessor_broken names own x.accessor
member_broken names own (m.Func x) = func_broken names own x
member_broken names own (m.Initializer x) = parameters_broken names own x.parameters ++ block_broken names own x.body
member_broken names own (m.Typealias x) = type_broken names own x.target

abbrev pub case_broken : Names → List Member → Case → List Refusal
case_broken names own x = flat_map (λ p. type_broken names own p.declared) (payload x.payload)

abbrev pub item_broken : Names → List Member → EnumItem → List Refusal
item_broken names own (item.Cases cases) = flat_map (case_broken names own) cases
item_broken names own (item.Member x) = member_broken names own x

abbrev pub requirement_broken : Names → List Member → Requirement → List Refusal
requirement_broken names own (r.Func x) = signature_broken names own x.parameters x.result
requirement_broken names own (r.Property name declared) = type_broken names own declared

abbrev pub types_broken : Names → List Member → Decl → List Refusal
types_broken names own (d.Import at name) = []
types_broken names own (d.Typealias x) = type_broken names own x.target
types_broken names own (d.Struct heading members) = flat_map (member_broken names own) members
types_broken names own (d.Enum heading items) = flat_map (item_broken names own) items
types_broken names own (d.Protocol heading requirements) = flat_map (requirement_broken names own) requirements
types_broken names own (d.Actor heading members) = flat_map (member_broken names own) members
types_broken names own (d.Func x) = func_broken names own x
