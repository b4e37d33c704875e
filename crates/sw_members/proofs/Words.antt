-- Equality of texts.
use Rattle.std.proofs.Common.{◌≡◌, Bool, true, false, refl, sym, ◌∙◌}
use Rattle.std.specs.Cmp.Lexicographic.{bytes_decides}
use Rattle.sw_sight.specs.InSight.{Text, same}

pub same_true : (a b : Text) → same a b ≡ true → a ≡ b
unfolding same
same_true a b h = (bytes_decides a b).0 h

pub same_refl : (a b : Text) → a ≡ b → same a b ≡ true
unfolding same
same_refl a b h = (bytes_decides a b).1 h

pub same_sym : (a b : Text) → same a b ≡ same b a
same_sym a b = go (same a b) (same b a) refl refl
  where
    go : (x y : Bool) → same a b ≡ x → same b a ≡ y → x ≡ y
    go true true p q = refl
    go false false p q = refl
    go true false p q = sym (same_refl b a (sym (same_true a b p))) ∙ q
    go false true p q = sym p ∙ same_refl a b (sym (same_true b a q))
