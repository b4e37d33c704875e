-- Parts that recur: what the values of alike texts of them have in common.
use Rattle.std.proofs.Common.{◌≡◌, Bool, false, List, [], ◌∷◌, map, Option, Some, None, refl, sym, ap, ◌∙◌, subst}
use Rattle.sw_lex.specs.declared.token.TokenKind.TheVariants as k
use Rattle.sw_grammar.specs.Grammar.{maybe, many, gives}
use Rattle.sw_grammar.proofs.Near.{Like, LikeOption}
use Rattle.sw_tree.specs.Erased.{option_map, erase_name}
use Rattle.sw_syntax.specs.declared.class.Sight.{Sight}
use Rattle.sw_syntax.specs.Tokens.{Face}
use Rattle.sw_syntax.specs.Values.{is_some, or_none}
use Rattle.sw_syntax.specs.Nonterminals.{Nonterminal, Sort}
use Rattle.sw_syntax.specs.Parts.{P, tok, name, present, after, some, any, in_parens, in_braces}
use Rattle.sw_syntax.specs.Grammar.{production}
use Rattle.sw_places.specs.Places.{unplaced, Alike}

abbrev pub NearFace : Face → Face → Type 0
NearFace f g = (f.kind ≡ g.kind) × (f.text ≡ g.text)

-- made in the same way of faces and trees that are alike
abbrev pub Near : {A : Type 0} → P A → A → A → Type 0
Near a x y = Like Sight Face Nonterminal Sort (production false) unplaced NearFace Alike a x y

-- the images of near values under h are equal
abbrev pub Keeps : {A B : Type 0} → P A → (A → B) → Type 0
Keeps {A} a h = (x y : A) → Near a x y → h x ≡ h y

pub put : {A : Type 0} (Q : A → A → Type 0) {x y v w : A} → x ≡ v → y ≡ w → Q v w → Q x y
put Q {x} {y} {v} {w} p q h = subst (λ z. Q z y) (sym p) (subst (λ z. Q v z) (sym q) h)

pub meet : {A B : Type 0} (h : A → B) {x y v w : A} → x ≡ v → y ≡ w → h v ≡ h w → h x ≡ h y
meet h p q e = ap h p ∙ e ∙ sym (ap h q)

pub names : Keeps name erase_name
names x y (f, g, p, ex, ey) = meet erase_name ex ey (let t = p.1 in cc)

pub options : {A B : Type 0} (a : P A) (h : A → B) → Keeps a h → Keeps (maybe a) (option_map h)
options a h keeps None None p = refl
options a h keeps None (Some y) p = elim p [ ]
options a h keeps (Some x) None p = elim p [ ]
options a h keeps (Some x) (Some y) p = ap Some (keeps x y p)

pub lists : {A B : Type 0} (a : P A) (h : A → B) → Keeps a h → Keeps (many a) (map h)
lists a h keeps [] [] p = refl
lists a h keeps [] (y ∷ ys) p = elim p [ ]
lists a h keeps (x ∷ xs) [] p = elim p [ ]
lists a h keeps (x ∷ xs) (y ∷ ys) (p, q) = let e = keeps x y p in let f = lists a h keeps xs ys q in cc

some_same : {A : Type 0} (L : A → A → Type 0) (x y : Option A) → LikeOption L x y → is_some x ≡ is_some y
some_same L None None p = refl
some_same L None (Some y) p = elim p [ ]
some_same L (Some x) None p = elim p [ ]
some_same L (Some x) (Some y) p = refl

pub presents : {A : Type 0} (a : P A) (x y : Bool) → Near (present a) x y → x ≡ y
presents a x y (v, w, p, ex, ey) = ex ∙ some_same (Near a) v w p ∙ sym ey

-- what follows a mark, or in brackets, is near
pub behind_near : {A B : Type 0} (a : P A) (b : P B) (x y : B) → Near (after a b) x y → Near b x y
behind_near a b x y (v, w, p, ex, ey) = put (Near b) ex ey p.1

pub braces_near : {A : Type 0} (a : P A) (x y : A) → Near (in_braces a) x y → Near a x y
braces_near a x y (v, w, p, ex, ey) = put (Near a) ex ey p.1.0

pub behinds : {A B C : Type 0} (a : P A) (b : P B) (h : B → C) → Keeps b h → Keeps (after a b) h
behinds a b h keeps x y p = keeps x y (behind_near a b x y p)

pub or_none_lists : {A B : Type 0} (a : P (List A)) (h : A → B) → Keeps a (map h) → Keeps (gives or_none (maybe a)) (map h)
or_none_lists a h keeps x y (None, None, p, ex, ey) = meet (map h) ex ey refl
or_none_lists a h keeps x y (None, Some w, p, ex, ey) = elim p [ ]
or_none_lists a h keeps x y (Some v, None, p, ex, ey) = elim p [ ]
or_none_lists a h keeps x y (Some v, Some w, p, ex, ey) = meet (map h) ex ey (keeps v w p)

pub somes : {A B : Type 0} (a : P A) (h : A → B) → Keeps a h → Keeps (some a) (map h)
somes a h keeps x y ((v, vs), (w, ws), (p, q), ex, ey) =
    meet (map h) ex ey (let e = keeps v w p in let f = lists (after (tok k.Comma) a) h (behinds (tok k.Comma) a h keeps) vs ws q in cc)

pub anys : {A B : Type 0} (a : P A) (h : A → B) → Keeps a h → Keeps (any a) (map h)
anys a h keeps = or_none_lists (some a) h (somes a h keeps)

pub parens : {A B : Type 0} (a : P A) (h : A → B) → Keeps a h → Keeps (in_parens a) h
parens a h keeps x y (v, w, p, ex, ey) = meet h ex ey (keeps v.1.0 w.1.0 p.1.0)

pub braces : {A B : Type 0} (a : P A) (h : A → B) → Keeps a h → Keeps (in_braces a) h
braces a h keeps x y p = keeps x y (braces_near a x y p)
