-- Which names stand for protocols: the declared ones, and those that are built in.
use Rattle.std.specs.Prelude.{Bool, true, false, ◌||◌, ◌&&◌, not, Option, Some, None, List, codes}
use Rattle.std.specs.Option.{option_map}
use Rattle.sw_sight.specs.InSight.{Text, same}
use Rattle.sw_declared.specs.declared.names.Form.{Form}
use Rattle.sw_declared.specs.declared.names.Form.TheVariants.{Struct, Enum, Protocol, Actor, DistributedActor}
use Rattle.sw_declared.specs.declared.names.Member.{Member}
use Rattle.sw_declared.specs.declared.names.Names.{Names}
use Rattle.sw_type_table.specs.Written.{is_hidden, type_named}

-- the form of the declared type that has the name, where the file declares one
abbrev pub form_named : Names → Text → Option Form
form_named names x = option_map (λ found. found.1) (type_named names x)

-- a built-in protocol other than `Error`
abbrev pub is_built_in_protocol : Text → Bool
is_built_in_protocol x =
    same (codes "Codable") x || (same (codes "Sendable") x || (same (codes "Equatable") x || same (codes "Hashable") x))

abbrev pub is_error : Text → Bool
is_error x = same (codes "Error") x

abbrev pub is_protocol : Form → Bool
is_protocol Struct = false
is_protocol Enum = false
is_protocol Protocol = true
is_protocol Actor = false
is_protocol DistributedActor = false

-- What the file declares goes before what is built in.
abbrev pub is_protocol_or_built_in : Text → Option Form → Bool
is_protocol_or_built_in x None = is_built_in_protocol x || is_error x
is_protocol_or_built_in x (Some form) = is_protocol form

-- the name is that of a protocol
abbrev pub names_protocol : Names → List Member → Text → Bool
names_protocol names own x = not (is_hidden names own x) && is_protocol_or_built_in x (form_named names x)

abbrev pub is_protocol_or_error : Text → Option Form → Bool
is_protocol_or_error x None = is_error x
is_protocol_or_error x (Some form) = is_protocol form

-- `any` may stand before the name: it is that of a declared protocol, or `Error`
abbrev pub takes_any : Names → List Member → Text → Bool
takes_any names own x = not (is_hidden names own x) && is_protocol_or_error x (form_named names x)
