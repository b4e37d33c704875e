mod Classes
pub mod Decides
pub mod Law
pub mod Lenient
pub mod Refused
pub mod Reached
pub mod End
pub mod LastToken
pub mod Integers
pub mod SightLemmas
pub mod OpeningLemmas
pub mod Equations
pub mod OperatorEquations
pub mod FormEquations
pub mod PrimEquations
pub mod PartEquations
pub mod BodyEquations
pub mod StmtEquations
pub mod IfEquations
pub mod PatternEquations
pub mod TypeEquations
pub mod DeclEquations
pub mod MemberEquations
pub mod Exits
mod ByPlace
mod PlaceLemmas
mod RefusalLemmas
mod MisplacedLemmas
mod FromLenient
mod ToLenient
mod SameRules
