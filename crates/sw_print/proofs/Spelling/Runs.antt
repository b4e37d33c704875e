-- Runs of good tokens of which no `?` touches another.
use Rattle.std.proofs.Common.{◌≡◌, Bool, true, false, if◌then◌else◌, List, [], ◌∷◌, ◌++◌, refl, subst}
use Rattle.sw_lex.specs.declared.token.TokenKind.{TokenKind}
use Rattle.sw_lex.specs.declared.token.TokenKind.TheVariants as k
use Rattle.sw_lex.specs.declared.token.Token.{Token}
use Rattle.sw_layout.specs.Apart.{AreApart}
use Rattle.sw_syntax.specs.declared.class.Class.TheVariants as class
use Rattle.sw_syntax.specs.Tokens.{class_in, Sighted, seen, sighted}
use Rattle.sw_syntax.specs.Tests.{is_joined_question, is_touching_question_class}
use Rattle.sw_print.proofs.Spelling.Built.{Every, every_halves}
use Rattle.sw_print.proofs.Spelling.Good.{IsGood}
use Rattle.sw_print.proofs.Spelling.Kinds.{question_touching}

abbrev pub StandApart : List Sighted → Type 0
StandApart [] = Unit {0}
StandApart (t ∷ []) = Unit {0}
StandApart (t ∷ next ∷ u) = (is_joined_question t.sight ≡ true → is_joined_question next.sight ≡ true → ⊥) × StandApart (next ∷ u)

abbrev pub Ok : List Sighted → Type 0
Ok u = Every IsGood u × StandApart u

apart_rest : (t : Sighted) (u : List Sighted) → StandApart (t ∷ u) → StandApart u
apart_rest t [] h = tt
apart_rest t (next ∷ u) h = h.1

pub apart_front : (v w : List Sighted) → StandApart (v ++ w) → StandApart v
apart_front [] w h = tt
apart_front (t ∷ []) w h = tt
apart_front (t ∷ next ∷ v) w h = (h.0, apart_front (next ∷ v) w h.1)

apart_back : (v w : List Sighted) → StandApart (v ++ w) → StandApart w
apart_back [] w h = h
apart_back (t ∷ v) w h = apart_back v w (apart_rest t (v ++ w) h)

pub halves : (v w : List Sighted) → Ok (v ++ w) → Ok v × Ok w
halves v w (all, h) = let (av, aw) = every_halves IsGood v w all in ((av, apart_front v w h), (aw, apart_back v w h))

pub one : (t : Sighted) → Ok (t ∷ []) → IsGood t
one t (all, h) = all.0

-- ---- the tokens of a source

touches : (kind : TokenKind) (token : Token) (following : List Token) → kind ≡ k.Question → is_touching_question_class (class_in kind token following) ≡ true → token.touches ≡ true
touches kind token following e h = go token.touches token.after_space refl (subst (λ (kind : TokenKind). is_touching_question_class (class_in kind token following) ≡ true) e h)
  where
    go : (t s : Bool) → token.touches ≡ t → is_touching_question_class (if t then class.TouchingQuestion else (if s then class.SpacedQuestion else class.Is k.Question)) ≡ true → token.touches ≡ true
    go true s e h = e
    go false true e h = absurd (cc)
    go false false e h = absurd (cc)

pub sighted_apart : (tokens : List Token) → AreApart tokens → StandApart (sighted tokens)
sighted_apart [] h = tt
sighted_apart (token ∷ []) h = tt
sighted_apart (token ∷ next ∷ tokens) h = (clash, sighted_apart (next ∷ tokens) h.1)
  where
    clash : is_joined_question (seen token (next ∷ tokens)).sight ≡ true → is_joined_question (seen next tokens).sight ≡ true → ⊥
    clash p q =
        let first = question_touching token.kind token (next ∷ tokens) p in
        let second = question_touching next.kind next tokens q in
        let free = h.0 first second in
        let held = touches next.kind next tokens second q in
        absurd (cc (free, held))
