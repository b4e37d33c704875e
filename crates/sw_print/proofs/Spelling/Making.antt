-- Words that are made for a value: seen by the grammar they derive it, but for their places.
use Rattle.std.proofs.Common.{◌≡◌, ℕ, suc, Bool, true, false, inl, inr, List, [], ◌∷◌, ◌++◌, map, Some, None, refl, sym, ap, ◌∙◌, subst}
use Rattle.std.proofs.lemmas.List.{map-append}
use Rattle.sw_lex.specs.declared.token.Token.{Token}
use Rattle.sw_grammar.specs.Grammar.{Derives_by, FirstPasses, terminal, both, either, maybe, many, when, nest, counts, limited, gives}
use Rattle.sw_layout.specs.Words.{Word, token_of}
use Rattle.sw_places.specs.Places.{unplaced}
use Rattle.sw_syntax.specs.declared.class.Sight.{Sight}
use Rattle.sw_syntax.specs.Tokens.{Sighted, Face, seen}
use Rattle.sw_syntax.specs.Nonterminals.{Nonterminal, Sort}
use Rattle.sw_syntax.specs.Parts.{P}
use Rattle.sw_syntax.specs.Grammar.{production}
use Rattle.sw_print.specs.Seen.{seen_in}
use Rattle.sw_print.proofs.Spelling.Built.{Every, every_append}
use Rattle.sw_print.proofs.Spelling.Good.{IsGoodWord}

-- the token, as one with this face
abbrev pub placed : Face → Sighted → Sighted
placed face t = record { sight = t.sight; face = face }

-- ---- what is seen of words one after the other

pub tokens_append : (v w : List Word) (following : List Token) → map token_of (v ++ w) ++ following ≡ map token_of v ++ (map token_of w ++ following)
tokens_append [] w following = refl
tokens_append (x ∷ v) w following = ap (λ l. token_of x ∷ l) (tokens_append v w following)

pub seen_append : (v w : List Word) (following : List Token) → seen_in (v ++ w) following ≡ seen_in v (map token_of w ++ following) ++ seen_in w following
seen_append [] w following = refl
seen_append (x ∷ v) w following =
    ap (λ l. seen (token_of x) l ∷ seen_in (v ++ w) following) (tokens_append v w following) ∙ ap (λ l. seen (token_of x) (map token_of v ++ (map token_of w ++ following)) ∷ l) (seen_append v w following)

joined : (v w : List Word) (following : List Token) (t u : List Sighted) → map unplaced t ≡ map unplaced (seen_in v (map token_of w ++ following)) → map unplaced u ≡ map unplaced (seen_in w following)
    → map unplaced (t ++ u) ≡ map unplaced (seen_in (v ++ w) following)
joined v w following t u p q =
    map-append unplaced t u ∙ ap (λ l. l ++ map unplaced u) p ∙ ap (λ l. map unplaced (seen_in v (map token_of w ++ following)) ++ l) q
    ∙ sym (map-append unplaced (seen_in v (map token_of w ++ following)) (seen_in w following)) ∙ ap (map unplaced) (sym (seen_append v w following))

module _ (D : (s : Nonterminal) → ℕ → ℕ → ℕ → ℕ → List Sighted → Sort s → Type 0) where
  -- The words, with these tokens after them, are of their kinds, and a run that is alike to what is seen of them but for
  -- places derives the value, where a nonterminal reads as D says.
  pub record Made {A : Type 0} (a : P A) (d l c e : ℕ) (x : A) (words : List Word) (following : List Token) : Type 0 where
    pub good : Every IsGoodWord words
    pub run : List Sighted
    pub alike : map unplaced run ≡ map unplaced (seen_in words following)
    pub derives : Derives_by Sight Face Nonterminal Sort (production false) D a d l c e run x

  pub make_both : {A B : Type 0} {a : P A} {b : P B} {d l c m e : ℕ} {x : A} {y : B} {v w : List Word} {following : List Token}
      → Made a d l c m x v (map token_of w ++ following) → Made b d l m e y w following → Made (both a b) d l c e (x, y) (v ++ w) following
  make_both {m = m} {v = v} {w = w} {following = following} p q = record {
    good = every_append IsGoodWord v w p.good q.good;
    run = p.run ++ q.run;
    alike = joined v w following p.run q.run p.alike q.alike;
    derives = (p.run, q.run, m, refl, p.derives, q.derives);
  }

  pub make_gives : {A B : Type 0} {f : A → B} {a : P A} {d l c e : ℕ} {x : A} {y : B} {w : List Word} {following : List Token}
      → y ≡ f x → Made a d l c e x w following → Made (gives f a) d l c e y w following
  make_gives {x = x} h p = record { good = p.good; run = p.run; alike = p.alike; derives = (x, p.derives, h) }

  pub make_left : {A : Type 0} {a b : P A} {d l c e : ℕ} {x : A} {w : List Word} {following : List Token} → Made a d l c e x w following → Made (either a b) d l c e x w following
  make_left p = record { good = p.good; run = p.run; alike = p.alike; derives = inl p.derives }

  pub make_right : {A : Type 0} {a b : P A} {d l c e : ℕ} {x : A} {w : List Word} {following : List Token} → Made b d l c e x w following → Made (either a b) d l c e x w following
  make_right p = record { good = p.good; run = p.run; alike = p.alike; derives = inr p.derives }

  pub make_none : {A : Type 0} {a : P A} {d l c e : ℕ} {following : List Token} → e ≡ c → Made (maybe a) d l c e None [] following
  make_none h = record { good = tt; run = []; alike = refl; derives = (refl, h) }

  pub make_some : {A : Type 0} {a : P A} {d l c e : ℕ} {x : A} {w : List Word} {following : List Token} → Made a d l c e x w following → Made (maybe a) d l c e (Some x) w following
  make_some p = record { good = p.good; run = p.run; alike = p.alike; derives = p.derives }

  pub make_nest : {A : Type 0} {a : P A} {d l c e : ℕ} {x : A} {w : List Word} {following : List Token} → Made a d l c e x w following → Made (nest a) (suc d) l c e x w following
  make_nest p = record { good = p.good; run = p.run; alike = p.alike; derives = p.derives }

  pub make_counts : {A : Type 0} {a : P A} {d l c e : ℕ} {x : A} {w : List Word} {following : List Token} → Made a d l c e x w following → Made (counts a) d l (suc c) e x w following
  make_counts p = record { good = p.good; run = p.run; alike = p.alike; derives = p.derives }

  pub make_limited : {A : Type 0} {a : P A} {d l c e m : ℕ} {x : A} {w : List Word} {following : List Token} → e ≡ c → Made a d l l m x w following → Made (limited a) d l c e x w following
  make_limited {m = m} h p = record { good = p.good; run = p.run; alike = p.alike; derives = (m, p.derives, h) }

  -- where what is seen of the words begins with a token that passes the test
  pub make_when : {A : Type 0} {f : Sight → Bool} {a : P A} {d l c e : ℕ} {x : A} {w : List Word} {following : List Token} → (p : Made a d l c e x w following) → FirstPasses f p.run → Made (when f a) d l c e x w following
  make_when p h = record { good = p.good; run = p.run; alike = p.alike; derives = (h, p.derives) }

  pub make_nil : {A : Type 0} {a : P A} {d l c e : ℕ} {following : List Token} → e ≡ c → Made (many a) d l c e [] [] following
  make_nil h = record { good = tt; run = []; alike = refl; derives = (refl, h) }

  pub make_cons : {A : Type 0} {a : P A} {d l c m e : ℕ} {x : A} {xs : List A} {v w : List Word} {following : List Token}
      → Made a d l c m x v (map token_of w ++ following) → Made (many a) d l m e xs w following → Made (many a) d l c e (x ∷ xs) (v ++ w) following
  make_cons {m = m} {v = v} {w = w} {following = following} p q = record {
    good = every_append IsGoodWord v w p.good q.good;
    run = p.run ++ q.run;
    alike = joined v w following p.run q.run p.alike q.alike;
    derives = (p.run, q.run, m, refl, p.derives, q.derives);
  }

  -- a word whose token passes the test, with a face of the same kind and text
  pub make_mark : {f : Sight → Bool} {d l c e : ℕ} {following : List Token} (word : Word) (face : Face) → face.kind ≡ word.kind → face.text ≡ word.text → IsGoodWord word
      → f (placed face (seen (token_of word) following)).sight ≡ true → e ≡ c → Made (terminal f) d l c e face (word ∷ []) following
  make_mark {following = following} word face p q good is h = record {
    good = (good, tt);
    run = placed face (seen (token_of word) following) ∷ [];
    alike = cc;
    derives = (placed face (seen (token_of word) following), refl, is, refl, h);
  }

  -- the same in other words, and of another value
  pub reword : {A : Type 0} {a : P A} {d l c e : ℕ} {x : A} {v w : List Word} {following : List Token} → w ≡ v → Made a d l c e x v following → Made a d l c e x w following
  reword {a = a} {d = d} {l = l} {c = c} {e = e} {x = x} {following = following} h p = subst (λ w. Made a d l c e x w following) (sym h) p

  pub revalue : {A : Type 0} {a : P A} {d l c e : ℕ} {x y : A} {w : List Word} {following : List Token} → y ≡ x → Made a d l c e x w following → Made a d l c e y w following
  revalue {a = a} {d = d} {l = l} {c = c} {e = e} {w = w} {following = following} h p = subst (λ y. Made a d l c e y w following) (sym h) p
