-- For which values an operator has a meaning.
use Rattle.std.proofs.Common.{◌≡◌, ◌≢◌, ℤ, Bool, true, false, ℕ, List, refl, ◌↔◌, if◌then◌else◌}
use Rattle.sw_value.specs.declared.value.Value.{Value, out-Value}
use Rattle.sw_value.specs.declared.value.Value.TheOpen.{Value-F}
use Rattle.sw_value.specs.declared.operators.Op.{Op}
use Rattle.sw_value.specs.declared.operators.Op.TheVariants as op
use Rattle.sw_value.specs.declared.operators.TrapKind.{TrapKind}
use Rattle.sw_value.specs.Apply.{Outcome, Gives, Traps, Wrong, ints, texts, arrays, ordered, HasMeaning, is_equality, is_of_texts, is_sum, joins, means}

gives : (v : Value) → Gives v ≢ Wrong
gives v e = cc

traps : (kind : TrapKind) → Traps kind ≢ Wrong
traps kind e = cc

choice : (b : Bool) (x y : Outcome) → x ≢ Wrong → y ≢ Wrong → (if b then x else y) ≢ Wrong
choice true x y f g = f
choice false x y f g = g

-- an operator other than `==` and `!=` has a meaning for all integers
pub ints_mean : (o : Op) (m n : ℤ) → is_equality o ≡ false → ints o m n ≢ Wrong
ints_mean op.Mul m n h = choice _ _ _ (gives _) (traps _)
ints_mean op.Div m n h = choice _ _ _ (traps _) (choice _ _ _ (gives _) (traps _))
ints_mean op.Rem m n h = choice _ _ _ (traps _) (choice _ _ _ (gives _) (traps _))
ints_mean op.Add m n h = choice _ _ _ (gives _) (traps _)
ints_mean op.Sub m n h = choice _ _ _ (gives _) (traps _)
ints_mean op.Lt m n h = λ e. cc
ints_mean op.Le m n h = λ e. cc
ints_mean op.Gt m n h = λ e. cc
ints_mean op.Ge m n h = λ e. cc
ints_mean op.Eq m n h = absurd (cc)
ints_mean op.Ne m n h = absurd (cc)

pub texts_mean : (o : Op) (s t : List ℕ) → is_equality o ≡ false → (is_of_texts o ≡ true) ↔ (texts o s t ≢ Wrong)
texts_mean op.Mul s t h = (λ e. absurd (cc), λ f. absurd (f refl))
texts_mean op.Div s t h = (λ e. absurd (cc), λ f. absurd (f refl))
texts_mean op.Rem s t h = (λ e. absurd (cc), λ f. absurd (f refl))
texts_mean op.Sub s t h = (λ e. absurd (cc), λ f. absurd (f refl))
texts_mean op.Add s t h = (λ _. choice _ _ _ (gives _) (traps _), λ _. refl)
texts_mean op.Lt s t h = (λ _ e. cc, λ _. refl)
texts_mean op.Le s t h = (λ _ e. cc, λ _. refl)
texts_mean op.Gt s t h = (λ _ e. cc, λ _. refl)
texts_mean op.Ge s t h = (λ _ e. cc, λ _. refl)
texts_mean op.Eq s t h = absurd (cc)
texts_mean op.Ne s t h = absurd (cc)

pub arrays_mean : (o : Op) (xs ys : List Value) → is_equality o ≡ false → (is_sum o ≡ true) ↔ (arrays o xs ys ≢ Wrong)
arrays_mean op.Add xs ys h = (λ _. choice _ _ _ (gives _) (traps _), λ _. refl)
arrays_mean op.Mul xs ys h = (λ e. absurd (cc), λ f. absurd (f refl))
arrays_mean op.Div xs ys h = (λ e. absurd (cc), λ f. absurd (f refl))
arrays_mean op.Rem xs ys h = (λ e. absurd (cc), λ f. absurd (f refl))
arrays_mean op.Sub xs ys h = (λ e. absurd (cc), λ f. absurd (f refl))
arrays_mean op.Lt xs ys h = (λ e. absurd (cc), λ f. absurd (f refl))
arrays_mean op.Le xs ys h = (λ e. absurd (cc), λ f. absurd (f refl))
arrays_mean op.Gt xs ys h = (λ e. absurd (cc), λ f. absurd (f refl))
arrays_mean op.Ge xs ys h = (λ e. absurd (cc), λ f. absurd (f refl))
arrays_mean op.Eq xs ys h = absurd (cc)
arrays_mean op.Ne xs ys h = absurd (cc)

ordered_means : (o : Op) (x y : Value-F Value) → is_equality o ≡ false → (joins o x y ≡ true) ↔ (ordered o x y ≢ Wrong)
ordered_means o (Value-F.Int m) (Value-F.Int n) h = (λ _. ints_mean o m n h, λ _. refl)
ordered_means o (Value-F.Str s) (Value-F.Str t) h = texts_mean o s t h
ordered_means o (Value-F.List xs) (Value-F.List ys) h = arrays_mean o xs ys h
ordered_means o _ _ h = (λ e. absurd (cc), λ f. absurd (f refl))

-- the test tells exactly whether there is a meaning
pub meaning : (o : Op) (a b : Value) → (means o a b ≡ true) ↔ HasMeaning o a b
meaning op.Eq a b = (λ _ e. cc, λ _. refl)
meaning op.Ne a b = (λ _ e. cc, λ _. refl)
meaning op.Mul a b = ordered_means op.Mul (out-Value a) (out-Value b) refl
meaning op.Div a b = ordered_means op.Div (out-Value a) (out-Value b) refl
meaning op.Rem a b = ordered_means op.Rem (out-Value a) (out-Value b) refl
meaning op.Add a b = ordered_means op.Add (out-Value a) (out-Value b) refl
meaning op.Sub a b = ordered_means op.Sub (out-Value a) (out-Value b) refl
meaning op.Lt a b = ordered_means op.Lt (out-Value a) (out-Value b) refl
meaning op.Le a b = ordered_means op.Le (out-Value a) (out-Value b) refl
meaning op.Gt a b = ordered_means op.Gt (out-Value a) (out-Value b) refl
meaning op.Ge a b = ordered_means op.Ge (out-Value a) (out-Value b) refl
