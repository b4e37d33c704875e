-- How a cut grows, and how it ends.
use Rattle.std.proofs.Common.{◌≡◌, ◌<◌, ℕ, ◌+◌, ◌-◌, List, [], ◌∷◌, ◌++◌, drop, ap, sym, ◌∙◌, subst, arith, append_assoc}
use Rattle.std.proofs.lemmas.List.{drop-drop}
use Rattle.sw_lex.specs.declared.lexemes.Lexeme.{Lexeme}
use Rattle.sw_lex.specs.declared.lexemes.Lexeme.TheVariants.{End, Gap, Token, Malformed, Unterminated}
use Rattle.sw_lex.specs.Lexemes.{BeginsWith, size_of, IsStop}
use Rattle.sw_lex.specs.Matching.{IsWithin, first_lexeme}
use Rattle.sw_lex.specs.Cut.{Opens, Cut, after, closes, is_inside, total}
use Rattle.sw_lex.specs.Bytes.{Text}
use Rattle.sw_lex.proofs.MatchingLemmas.{reads}

pub total_more : (xs : List Lexeme) (x : Lexeme) → total (xs ++ x ∷ []) ≡ total xs + size_of x
total_more [] x = omega arith
total_more (y ∷ xs) x = omega (arith, total_more xs x)

pub stop_of : (x : Lexeme) (len : ℕ) → IsWithin x len → size_of x ≡ 0 → IsStop x
stop_of End len h z = tt
stop_of (Gap n) len h z = absurd (omega arith)
stop_of (Token kind n) len h z = absurd (omega arith)
stop_of Malformed len h z = tt
stop_of Unterminated len h z = tt

-- one more gap or token, and a cut of what is left
pub cut_more :
    (opens opens' : Opens) (valid at size : ℕ) (source : Text) (done done' items : List Lexeme) (item stop : Lexeme)
    → first_lexeme (is_inside opens) (closes opens) (valid - at) (drop at source) ≡ item
    → size ≡ size_of item → 0 < size → opens' ≡ after opens item → done' ≡ done ++ item ∷ []
    → ((items : List Lexeme) (stop : Lexeme) → Cut opens (valid - at) (drop at source) items stop → Cut [] valid source (done ++ items) stop)
    → Cut opens' (valid - (at + size)) (drop (at + size) source) items stop → Cut [] valid source (done' ++ items) stop
cut_more opens opens' valid at size source done done' items item stop e s some o d so_far h =
    let begun : BeginsWith (is_inside opens) (closes opens) (valid - at) (drop at source) item =
    subst (λ (x : Lexeme). BeginsWith (is_inside opens) (closes opens) (valid - at) (drop at source) x) e (reads (is_inside opens) (closes opens) (valid - at) (drop at source)) in
    let valids : valid - (at + size) ≡ valid - at - size_of item = omega (arith, s) in
    let bytes : drop (at + size) source ≡ drop (size_of item) (drop at source) = sym (drop-drop size at source) ∙ ap (λ n. drop n (drop at source)) s in
    let following : Cut (after opens item) (valid - at - size_of item) (drop (size_of item) (drop at source)) items stop =
    subst (λ (w : Opens). Cut w (valid - at - size_of item) (drop (size_of item) (drop at source)) items stop) o
    (subst (λ (n : ℕ). Cut opens' n (drop (size_of item) (drop at source)) items stop) valids
    (subst (λ (z : Text). Cut opens' (valid - (at + size)) z items stop) bytes h)) in
    let more : Cut [] valid source (done ++ (item ∷ items)) stop = so_far (item ∷ items) stop (begun, omega (arith, s, some), following) in
    subst (λ (xs : List Lexeme). Cut [] valid source xs stop) (sym (ap (λ (xs : List Lexeme). xs ++ items) d ∙ append_assoc done (item ∷ []) items)) more
