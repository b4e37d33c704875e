-- A token is seen as an integer by its kind alone.
use Rattle.std.proofs.Common.{◌≡◌, Bool, true, false, if◌then◌else◌, List, codes, refl}
use Rattle.sw_lex.specs.declared.token.TokenKind.{TokenKind}
use Rattle.sw_lex.specs.declared.token.TokenKind.TheVariants as k
use Rattle.sw_lex.specs.declared.token.Token.{Token}
use Rattle.sw_lex.specs.Bytes.{Text}
use Rattle.sw_lex.specs.Tables.{is_same_text}
use Rattle.sw_syntax.specs.declared.class.Class.{Class}
use Rattle.sw_syntax.specs.declared.class.Class.TheVariants as class
use Rattle.sw_syntax.specs.Tokens.{same_kind, class_of_name, class_in, is_next, touches_next}
use Rattle.sw_syntax.specs.Tests.{is_of}

abbrev is_integer : Class → Bool
is_integer x = is_of k.Integer x

either : (b : Bool) (x y : Class) → is_integer x ≡ false → is_integer y ≡ false → is_integer (if b then x else y) ≡ false
either true x y p q = p
either false x y p q = q

name : (text : Text) (after : List Token) → is_integer (class_of_name text after) ≡ false
unfolding same_kind
name text after =
    either (is_same_text text (codes "actor")) _ _ refl (either (is_same_text text (codes "distributed")) _ _ refl (either (is_same_text text (codes "nonisolated")) _ _ refl
    (either (is_same_text text (codes "mutating")) _ _ refl (either (is_same_text text (codes "final")) _ _ refl
    (either (is_same_text text (codes "get")) _ _ (either (is_next k.LeftBrace after) _ _ refl refl) refl)))))

-- a token is an integer by its kind alone
pub integer_kind : (kind : TokenKind) (token : Token) (after : List Token) → is_integer (class_in kind token after) ≡ same_kind kind k.Integer
unfolding same_kind
integer_kind k.Name token after = name token.text after
integer_kind k.Else token after = either (is_next k.If after) class.ElseIf (class.Is k.Else) refl refl
integer_kind k.Bang token after = either token.touches class.TouchingBang (class.Is k.Bang) refl refl
integer_kind k.Question token after = either token.touches class.TouchingQuestion _ refl (either token.after_space class.SpacedQuestion (class.Is k.Question) refl refl)
integer_kind k.Minus token after = either (touches_next after) (class.Is k.Minus) class.LooseMinus refl refl
integer_kind k.Underscore token after = refl
integer_kind k.Integer token after = refl
integer_kind k.StringWhole token after = refl
integer_kind k.StringStart token after = refl
integer_kind k.StringMiddle token after = refl
integer_kind k.StringLast token after = refl
integer_kind k.Any token after = refl
integer_kind k.As token after = refl
integer_kind k.Async token after = refl
integer_kind k.Await token after = refl
integer_kind k.Break token after = refl
integer_kind k.Case token after = refl
integer_kind k.Catch token after = refl
integer_kind k.Continue token after = refl
integer_kind k.Default token after = refl
integer_kind k.Defer token after = refl
integer_kind k.Do token after = refl
integer_kind k.Enum token after = refl
integer_kind k.Extension token after = refl
integer_kind k.False token after = refl
integer_kind k.Fileprivate token after = refl
integer_kind k.For token after = refl
integer_kind k.Func token after = refl
integer_kind k.Guard token after = refl
integer_kind k.If token after = refl
integer_kind k.Import token after = refl
integer_kind k.In token after = refl
integer_kind k.Init token after = refl
integer_kind k.Inout token after = refl
integer_kind k.Internal token after = refl
integer_kind k.Is token after = refl
integer_kind k.Let token after = refl
integer_kind k.Nil token after = refl
integer_kind k.Private token after = refl
integer_kind k.Protocol token after = refl
integer_kind k.Public token after = refl
integer_kind k.Repeat token after = refl
integer_kind k.Return token after = refl
integer_kind k.Self_ token after = refl
integer_kind k.Static token after = refl
integer_kind k.Struct token after = refl
integer_kind k.Super token after = refl
integer_kind k.Switch token after = refl
integer_kind k.Throw token after = refl
integer_kind k.Throws token after = refl
integer_kind k.True token after = refl
integer_kind k.Try token after = refl
integer_kind k.Typealias token after = refl
integer_kind k.Var token after = refl
integer_kind k.Where token after = refl
integer_kind k.While token after = refl
integer_kind k.HalfOpenRange token after = refl
integer_kind k.Ellipsis token after = refl
integer_kind k.Arrow token after = refl
integer_kind k.EqualEqual token after = refl
integer_kind k.NotEqual token after = refl
integer_kind k.LessEqual token after = refl
integer_kind k.GreaterEqual token after = refl
integer_kind k.And token after = refl
integer_kind k.Or token after = refl
integer_kind k.Coalesce token after = refl
integer_kind k.PlusAssign token after = refl
integer_kind k.MinusAssign token after = refl
integer_kind k.StarAssign token after = refl
integer_kind k.SlashAssign token after = refl
integer_kind k.PercentAssign token after = refl
integer_kind k.LeftParen token after = refl
integer_kind k.RightParen token after = refl
integer_kind k.LeftBracket token after = refl
integer_kind k.RightBracket token after = refl
integer_kind k.LeftBrace token after = refl
integer_kind k.RightBrace token after = refl
integer_kind k.Comma token after = refl
integer_kind k.Colon token after = refl
integer_kind k.Semicolon token after = refl
integer_kind k.Dot token after = refl
integer_kind k.Assign token after = refl
integer_kind k.Plus token after = refl
integer_kind k.Star token after = refl
integer_kind k.Slash token after = refl
integer_kind k.Percent token after = refl
integer_kind k.Less token after = refl
integer_kind k.Greater token after = refl
integer_kind k.End token after = refl

pub kind_integer : (kind : TokenKind) → same_kind kind k.Integer ≡ true → kind ≡ k.Integer
unfolding same_kind
kind_integer k.Integer e = refl
kind_integer kind e = absurd (cc)
