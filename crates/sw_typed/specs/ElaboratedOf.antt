-- The inductive tree of each elaborated expression.
use Rattle.std.specs.Prelude.{ℕ, List, [], ◌∷◌}
use Rattle.sw_typed.specs.declared.expr.Typed.{Typed, fold-Typed}
use Rattle.sw_typed.specs.declared.expr.Form.{Form, fold-Form}
use Rattle.sw_typed.specs.declared.expr.Receiver.{Receiver, fold-Receiver}
use Rattle.sw_typed.specs.declared.expr.Form.TheOpen.{Typed-F, Form-F, Receiver-F, TypedPiece-F}
use Rattle.sw_typed.specs.Elaborated as e

abbrev pub exprs_of : List e.Expr → e.Exprs
exprs_of [] = e.no_expr
exprs_of (x ∷ xs) = e.also x (exprs_of xs)

abbrev pub pieces_of : List (e.Expr × List ℕ) → e.Pieces
pieces_of [] = e.no_piece
pieces_of ((x, text) ∷ pieces) = e.piece x text (pieces_of pieces)

abbrev pub typed_level : Typed-F e.Form e.Receiver e.Expr (e.Expr × List ℕ) → e.Expr
typed_level t = e.expr t.ty t.first t.form

abbrev pub form_level : Form-F e.Form e.Receiver e.Expr (e.Expr × List ℕ) → e.Form
form_level (Form-F.Integer n) = e.Integer n
form_level (Form-F.Bool b) = e.Truth b
form_level (Form-F.Text text pieces) = e.String text (pieces_of pieces)
form_level Form-F.Nil = e.Nil
form_level (Form-F.Variable v) = e.Variable v
form_level Form-F.SelfValue = e.SelfValue
form_level (Form-F.Member entity on at) = e.Member entity on at
form_level (Form-F.Call entity on at args) = e.Call entity on at (exprs_of args)
form_level (Form-F.Unresolved parts) = e.Unresolved (exprs_of parts)
form_level (Form-F.Index at (x, y)) = e.Index at x y
form_level (Form-F.Array xs) = e.Array (exprs_of xs)
form_level (Form-F.Binary operator at (x, y)) = e.Binary operator at x y
form_level (Form-F.Coalesce gives at (x, y)) = e.Coalesce gives at x y
form_level (Form-F.Prefix operator at x) = e.Prefix operator at x
form_level (Form-F.Ternary x (y, z)) = e.Ternary x y z
form_level (Form-F.Force at x) = e.Force at x
form_level (Form-F.Try form at x) = e.Try form at x
form_level (Form-F.Await at x) = e.Await at x
form_level (Form-F.Paren x) = e.Paren x
form_level (Form-F.Present x) = e.Present x
form_level (Form-F.Erase x) = e.Erase x
form_level (Form-F.Issue at x) = e.Issue at x
form_level (Form-F.Wait v) = e.Wait v

abbrev pub receiver_level : Receiver-F e.Form e.Receiver e.Expr (e.Expr × List ℕ) → e.Receiver
receiver_level Receiver-F.Nothing = e.Nothing
receiver_level Receiver-F.Own = e.Own
receiver_level (Receiver-F.Value x) = e.Value x

abbrev pub piece_level : TypedPiece-F e.Form e.Receiver e.Expr (e.Expr × List ℕ) → e.Expr × List ℕ
piece_level p = (p.value, p.text)

abbrev pub elaborated_of : Typed → e.Expr
elaborated_of = fold-Typed e.Form e.Receiver e.Expr (e.Expr × List ℕ) form_level receiver_level typed_level piece_level

abbrev pub receiver_of : Receiver → e.Receiver
receiver_of = fold-Receiver e.Form e.Receiver e.Expr (e.Expr × List ℕ) form_level receiver_level typed_level piece_level

abbrev pub form_of : Form → e.Form
form_of = fold-Form e.Form e.Receiver e.Expr (e.Expr × List ℕ) form_level receiver_level typed_level piece_level
