-- The end of a source is its last token, as the grammar sees it too.
use Rattle.std.proofs.Common.{◌≡◌, ◌<◌, ℕ, zero, suc, Bool, true, false, if◌then◌else◌, List, [], ◌∷◌, ◌++◌, drop, length, codes, refl, sym, subst, arith}
use Rattle.sw_lex.specs.declared.token.TokenKind.{TokenKind}
use Rattle.sw_lex.specs.declared.token.TokenKind.TheVariants as k
use Rattle.sw_lex.specs.declared.token.Token.{Token}
use Rattle.sw_lex.specs.Bytes.{Text}
use Rattle.sw_lex.specs.Tables.{is_same_text}
use Rattle.sw_lex.specs.Tokens.{EndsOnce}
use Rattle.sw_grammar.specs.Avoiding.{Free}
use Rattle.sw_syntax.specs.declared.class.Class.{Class}
use Rattle.sw_syntax.specs.declared.class.Class.TheVariants as class
use Rattle.sw_syntax.specs.Tokens.{same_kind, class_of_name, class_in, is_next, touches_next, Sighted, sighted, seen}
use Rattle.sw_syntax.specs.Tests.{is, is_of}

clash : (b : Bool) → b ≡ true → b ≡ false → ⊥
clash b p q = cc

-- ---- which tokens are seen as the end

abbrev is_end : Class → Bool
is_end x = is_of k.End x

either : (b : Bool) (x y : Class) → is_end x ≡ false → is_end y ≡ false → is_end (if b then x else y) ≡ false
either true x y p q = p
either false x y p q = q

name : (text : Text) (after : List Token) → is_end (class_of_name text after) ≡ false
unfolding same_kind
name text after =
    either (is_same_text text (codes "actor")) _ _ refl (either (is_same_text text (codes "distributed")) _ _ refl (either (is_same_text text (codes "nonisolated")) _ _ refl
    (either (is_same_text text (codes "mutating")) _ _ refl (either (is_same_text text (codes "final")) _ _ refl
    (either (is_same_text text (codes "get")) _ _ (either (is_next k.LeftBrace after) _ _ refl refl) refl)))))

end_kind : (kind : TokenKind) (token : Token) (after : List Token) → is_end (class_in kind token after) ≡ true → kind ≡ k.End
unfolding same_kind
end_kind k.End token after e = refl
end_kind k.Name token after e = absurd (clash _ e (name token.text after))
end_kind k.Else token after e = absurd (clash _ e (either (is_next k.If after) class.ElseIf (class.Is k.Else) refl refl))
end_kind k.Bang token after e = absurd (clash _ e (either token.touches class.TouchingBang (class.Is k.Bang) refl refl))
end_kind k.Question token after e = absurd (clash _ e (either token.touches class.TouchingQuestion _ refl (either token.after_space class.SpacedQuestion (class.Is k.Question) refl refl)))
end_kind k.Minus token after e = absurd (clash _ e (either (touches_next after) (class.Is k.Minus) class.LooseMinus refl refl))
end_kind kind token after e = absurd (cc)

end_seen : (token : Token) → token.kind ≡ k.End → is k.End (seen token []).sight ≡ true
unfolding same_kind
end_seen token e = subst (λ kind. is_end (class_in kind token []) ≡ true) (sym e) refl

-- ---- the end is there, and stands last

-- the tokens from a place on have an end among them
pub has_end : (tokens : List Token) (at : ℕ) → EndsOnce tokens → at < length tokens → Free (is k.End) (drop at (sighted tokens)) → ⊥
has_end [] at h l f = h
has_end (token ∷ []) zero h l f = clash (is k.End (seen token []).sight) (end_seen token h.0) f.0
has_end (token ∷ []) (suc at) h l f = absurd (omega (arith, l))
has_end (token ∷ next ∷ tokens) zero h l f = has_end (next ∷ tokens) zero h.1 (omega arith) f.1
has_end (token ∷ next ∷ tokens) (suc at) h l f = has_end (next ∷ tokens) at h.1 (omega (arith, l)) f

-- nothing follows an end
pub last_end : (tokens : List Token) (v rest : List Sighted) (t : Sighted) → EndsOnce tokens → sighted tokens ≡ v ++ t ∷ rest → is k.End t.sight ≡ true → rest ≡ []
last_end [] v rest t h e is_end = absurd h
last_end (token ∷ []) [] rest t h e is_end = cc
last_end (token ∷ []) (y ∷ []) rest t h e is_end = absurd (cc)
last_end (token ∷ []) (y ∷ z ∷ v) rest t h e is_end = absurd (cc)
last_end (token ∷ next ∷ tokens) [] rest t h e is_end =
    let same : t ≡ seen token (next ∷ tokens) = cc in
    absurd (h.0 (end_kind token.kind token (next ∷ tokens) (subst (λ t. is k.End t.sight ≡ true) same is_end)))
last_end (token ∷ next ∷ tokens) (y ∷ v) rest t h e is_end =
    let less : sighted (next ∷ tokens) ≡ v ++ t ∷ rest = cc in
    last_end (next ∷ tokens) v rest t h.1 less is_end
