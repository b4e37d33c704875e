-- Tokens as the grammar sees them: what each is, with what of its text and of its neighbours makes a difference.
use Rattle.std.specs.Prelude.{Bool, false, if◌then◌else◌, List, [], ◌∷◌, codes}
use Rattle.sw_base.specs.declared.ids.Span.{Span}
use Rattle.sw_lex.specs.declared.token.TokenKind.{TokenKind}
use Rattle.sw_lex.specs.declared.token.TokenKind.TheVariants as k
use Rattle.sw_lex.specs.declared.token.Token.{Token}
use Rattle.sw_lex.specs.Bytes.{Text}
use Rattle.sw_lex.specs.Tables.{is_same_text}
unfoldable pub use Rattle.sw_lex.specs.Tables.{same_kind}
use Rattle.sw_grammar.specs.Grammar as grammar
use Rattle.sw_syntax.specs.declared.class.Sight.{Sight}
use Rattle.sw_syntax.specs.declared.class.Class.{Class}
use Rattle.sw_syntax.specs.declared.class.Class.TheVariants.{Is, Actor, Distributed, Nonisolated, Mutating, Final, Get, GetBlock, ElseIf, TouchingBang, TouchingQuestion, SpacedQuestion, LooseMinus}

-- what the tree keeps of a token
pub record Face : Type 0 where
  pub kind : TokenKind
  pub text : Text
  pub span : Span

-- a token as the grammar sees it: its sight, which is all that tests look at, and its face
abbrev pub Sighted : Type 0
Sighted = grammar.Token Sight Face

-- ---- what follows a token

-- the next token is of this kind
abbrev pub is_next : TokenKind → List Token → Bool
is_next kind [] = false
is_next kind (token ∷ tokens) = same_kind token.kind kind

-- nothing stands between a token and the next
abbrev pub touches_next : List Token → Bool
touches_next [] = false
touches_next (token ∷ tokens) = token.touches

-- ---- the class of a token, with those after it

abbrev pub class_of_name : Text → List Token → Class
class_of_name text following =
    if is_same_text text (codes "actor") then Actor else
    if is_same_text text (codes "distributed") then Distributed else
    if is_same_text text (codes "nonisolated") then Nonisolated else
    if is_same_text text (codes "mutating") then Mutating else
    if is_same_text text (codes "final") then Final else
    if is_same_text text (codes "get") then (if is_next k.LeftBrace following then GetBlock else Get) else
    Is k.Name

abbrev pub class_in : TokenKind → Token → List Token → Class
class_in k.Name token following = class_of_name token.text following
class_in k.Else token following = if is_next k.If following then ElseIf else Is k.Else
class_in k.Bang token following = if token.touches then TouchingBang else Is k.Bang
class_in k.Question token following = if token.touches then TouchingQuestion else (if token.after_space then SpacedQuestion else Is k.Question)
class_in k.Minus token following = if touches_next following then Is k.Minus else LooseMinus
class_in kind token following = Is kind

abbrev pub seen : Token → List Token → Sighted
seen token following = record {
  sight = record { class = class_in token.kind token following; is_first = token.first_on_line; before_colon = is_next k.Colon following };
  face = record { kind = token.kind; text = token.text; span = token.span };
}

-- a source's tokens as the grammar sees them
abbrev pub sighted : List Token → List Sighted
sighted [] = []
sighted (token ∷ tokens) = seen token tokens ∷ sighted tokens
