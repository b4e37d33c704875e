-- A text is a list of bytes. Some bytes by name, and the classes of bytes that tokens are made of; a class is a type of
-- the code.
use Rattle.std.specs.Prelude.{ℕ, Bool, not, ◌||◌, ◌==◌, List}
use Rattle.std.specs.Char.{is_ascii_digit, is_ascii_alphabetic, is_ascii_hexdigit}
use Rattle.std.specs.List.{list_any}
use Rattle.sw_lex.specs.declared.bytes.Class.{Class}
use Rattle.sw_lex.specs.declared.bytes.Class.TheVariants as class

abbrev pub Text : Type 0
Text = List ℕ

abbrev pub tab : ℕ
tab = 9

-- LF, which ends a line
abbrev pub line_feed : ℕ
line_feed = 10

-- CR
abbrev pub carriage_return : ℕ
carriage_return = 13

abbrev pub space : ℕ
space = 32

-- `"`
abbrev pub quote : ℕ
quote = 34

-- `(`
abbrev pub left_paren : ℕ
left_paren = 40

-- `)`
abbrev pub right_paren : ℕ
right_paren = 41

-- `{`
abbrev pub left_brace : ℕ
left_brace = 123

-- `}`
abbrev pub right_brace : ℕ
right_brace = 125

-- `*`
abbrev pub star : ℕ
star = 42

-- `/`
abbrev pub slash : ℕ
slash = 47

-- `\`
abbrev pub backslash : ℕ
backslash = 92

-- `_`
abbrev pub underscore : ℕ
underscore = 95

-- white space; what a name begins with, and goes on with; what an integer begins with, and goes on
-- with; what stands in a comment to the line's end; the digits of `\u{H}`
abbrev pub is_in : Class → ℕ → Bool
is_in class.Space byte = byte == space || byte == tab || byte == carriage_return || byte == line_feed
is_in class.NameStart byte = is_ascii_alphabetic byte || byte == underscore
is_in class.Name byte = is_ascii_alphabetic byte || is_ascii_digit byte || byte == underscore
is_in class.Digit byte = is_ascii_digit byte
is_in class.Integer byte = is_ascii_digit byte || byte == underscore
is_in class.Line byte = not (byte == line_feed)
is_in class.Hex byte = is_ascii_hexdigit byte

-- whether a line ends in a text
abbrev pub has_line_end : Text → Bool
has_line_end bytes = list_any (λ byte. byte == line_feed) bytes
