-- What a kind's text in the tables says of the kind.
use Rattle.std.proofs.Common.{◌≡◌, not, ◌&&◌, [], is_some, unwrap_or, refl}
use Rattle.std.specs.Option.{option_or}
use Rattle.sw_lex.specs.declared.token.TokenKind.{TokenKind}
use Rattle.sw_lex.specs.declared.token.TokenKind.TheVariants as k
use Rattle.sw_lex.specs.Tables.{words, marks, same_kind, fixed, is_reserved_kind}
use Rattle.sw_lex.specs.Matching.{text_in}

pub spelt : (kind : TokenKind) → unwrap_or (option_or (text_in words kind) (text_in marks kind)) [] ≡ fixed kind
unfolding words marks same_kind
spelt k.Name = refl
spelt kind = refl

pub reserved_in : (kind : TokenKind) → (is_some (text_in words kind) && not (same_kind kind k.Underscore)) ≡ is_reserved_kind kind
unfolding words same_kind is_reserved_kind
reserved_in k.Name = refl
reserved_in kind = refl
