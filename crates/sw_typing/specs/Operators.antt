-- Which operators have a meaning for which types, and the type that they give.
use Rattle.std.specs.Prelude.{Bool, true, false, ◌||◌, ◌&&◌, not, cond, Option, Some, None, is_none, is_some}
use Rattle.sw_tree.specs.declared.expr.PrefixOperator.{PrefixOperator}
use Rattle.sw_tree.specs.declared.expr.PrefixOperator.TheVariants as prefix
use Rattle.sw_tree.specs.declared.expr.BinaryOperator.{BinaryOperator}
use Rattle.sw_tree.specs.declared.expr.BinaryOperator.TheVariants as binary
use Rattle.sw_value.specs.declared.ty.Base.TheVariants as base
use Rattle.sw_value.specs.declared.ty.Ty.{Ty}
use Rattle.sw_typed.specs.declared.expr.Coalescing.{Coalescing}
use Rattle.sw_typed.specs.declared.expr.Coalescing.TheVariants as coalescing
use Rattle.sw_typing.specs.declared.facts.Facts.{Facts}
use Rattle.sw_typing.specs.Types.{bare, same_type, wrapped, element}
use Rattle.sw_typing.specs.Facts.{is_equatable}

abbrev pub int : Ty
int = bare base.Int

abbrev pub bool : Ty
bool = bare base.Bool

abbrev pub string : Ty
string = bare base.Str

abbrev pub given_if : Bool → Ty → Option Ty
given_if holds t = cond holds (Some t) None

unfoldable pub both_are : Ty → Ty → Ty → Bool
both_are t a b = same_type a t && same_type b t

-- `Int` and `String`
unfoldable pub is_ordered : Ty → Bool
is_ordered t = same_type t int || same_type t string

-- `Int`, `String` and arrays
unfoldable pub is_added : Ty → Bool
is_added t = is_ordered t || is_some (element t)

abbrev pub coalesced_with : Option Ty → Ty → Ty → Option Ty
coalesced_with None a b = None
coalesced_with (Some t) a b = given_if (same_type t b || same_type a b) b

-- `T? ?? T` is a `T`, and `T? ?? T?` a `T?`.
unfoldable pub coalesced : Ty → Ty → Option Ty
coalesced a b = coalesced_with (wrapped a) a b

-- the type that an operator gives for operands of these types, where it has a meaning for them
unfoldable pub operator_type : BinaryOperator → Ty → Ty → Option Ty
operator_type binary.Or a b = given_if (both_are bool a b) bool
operator_type binary.And a b = given_if (both_are bool a b) bool
operator_type binary.Equal a b = given_if (same_type a b) bool
operator_type binary.NotEqual a b = given_if (same_type a b) bool
operator_type binary.Less a b = given_if (same_type a b && is_ordered a) bool
operator_type binary.LessEqual a b = given_if (same_type a b && is_ordered a) bool
operator_type binary.Greater a b = given_if (same_type a b && is_ordered a) bool
operator_type binary.GreaterEqual a b = given_if (same_type a b && is_ordered a) bool
operator_type binary.Coalesce a b = coalesced a b
operator_type binary.Add a b = given_if (same_type a b && is_added a) a
operator_type binary.Subtract a b = given_if (both_are int a b) int
operator_type binary.Multiply a b = given_if (both_are int a b) int
operator_type binary.Divide a b = given_if (both_are int a b) int
operator_type binary.Remainder a b = given_if (both_are int a b) int

unfoldable pub is_equality : BinaryOperator → Bool
is_equality binary.Equal = true
is_equality binary.NotEqual = true
is_equality operator = false

-- E4: both operands have a type, and the operator has no meaning for these.
unfoldable pub is_meaningless : BinaryOperator → Option Ty → Option Ty → Bool
is_meaningless operator None b = false
is_meaningless operator (Some a) None = false
is_meaningless operator (Some a) (Some b) = is_none (operator_type operator a b)

-- E9: `==` or `!=` compares values of one type, which cannot be compared.
unfoldable pub is_incomparable : Facts → BinaryOperator → Option Ty → Option Ty → Bool
is_incomparable known operator None b = false
is_incomparable known operator (Some a) None = false
is_incomparable known operator (Some a) (Some b) = is_equality operator && (same_type a b && not (is_equatable known a))

unfoldable pub type_of_both : BinaryOperator → Option Ty → Option Ty → Option Ty
type_of_both operator None b = None
type_of_both operator (Some a) None = None
type_of_both operator (Some a) (Some b) = operator_type operator a b

-- the type of an operation, where no rule is broken
unfoldable pub operation_type : Facts → BinaryOperator → Option Ty → Option Ty → Option Ty
operation_type known operator a b = cond (is_incomparable known operator a b) None (type_of_both operator a b)

-- `??` gives an optional where both operands have one type.
unfoldable pub coalescing_of : Option Ty → Option Ty → Coalescing
coalescing_of None b = coalescing.Value
coalescing_of (Some a) None = coalescing.Value
coalescing_of (Some a) (Some b) = cond (same_type a b) coalescing.Optional coalescing.Value

-- ---- signs

unfoldable pub sign_type : PrefixOperator → Ty
sign_type prefix.Minus = int
sign_type prefix.Not = bool

-- E4 of a sign
unfoldable pub is_meaningless_sign : PrefixOperator → Option Ty → Bool
is_meaningless_sign operator None = false
is_meaningless_sign operator (Some t) = not (same_type t (sign_type operator))

unfoldable pub signed_type : PrefixOperator → Option Ty → Option Ty
signed_type operator None = None
signed_type operator (Some t) = given_if (same_type t (sign_type operator)) t
