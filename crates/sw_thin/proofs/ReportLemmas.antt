-- Texts that are pushed one after the other.
use Rattle.std.proofs.Common.{◌≡◌, ℕ, List, [], ◌++◌, sym, ap, ◌∙◌}
use Rattle.std.proofs.lemmas.List.{append_assoc, append-nil}

pub three_pushed : (out x y z a b c : List ℕ) → x ≡ out ++ a → y ≡ x ++ b → z ≡ y ++ c → z ≡ out ++ (a ++ b ++ c)
three_pushed out x y z a b c p q r =
    r ∙ ap (λ l. l ++ c) (q ∙ ap (λ l. l ++ b) p ∙ append_assoc out a b) ∙ append_assoc out (a ++ b) c

-- the report of one node and one task, piece by piece
pub report_pushed : (a b c d e x y z u v : List ℕ) → x ≡ a → y ≡ x ++ b → z ≡ y ++ c → u ≡ z ++ d → v ≡ u ++ e → v ≡ a ++ b ++ (c ++ []) ++ (d ++ []) ++ (e ++ [])
report_pushed a b c d e x y z u v p q r s t =
    t ∙ ap (λ l. l ++ e) (s ∙ ap (λ l. l ++ d) (r ∙ ap (λ l. l ++ c) (q ∙ ap (λ l. l ++ b) p)))
    ∙ ap (λ l. a ++ b ++ l ++ d ++ e) (sym (append-nil c)) ∙ ap (λ l. a ++ b ++ (c ++ []) ++ l ++ e) (sym (append-nil d)) ∙ ap (λ l. a ++ b ++ (c ++ []) ++ (d ++ []) ++ l) (sym (append-nil e))
