-- Words that spell an expression, and begin as none with a label does.
use Rattle.std.proofs.Common.{◌≡◌, ℕ, false, List, [], ◌∷◌, ◌++◌, map, sym, subst}
use Rattle.sw_lex.specs.declared.token.TokenKind.TheVariants as k
use Rattle.sw_lex.specs.declared.token.Token.{Token}
use Rattle.sw_grammar.specs.Grammar.{nonterminal}
use Rattle.sw_layout.specs.declared.gap.Gap.{Gap}
use Rattle.sw_layout.specs.Words.{Word, token_of}
use Rattle.sw_tree.specs.declared.expr.Expr.{Expr as ExprTree}
use Rattle.sw_syntax.specs.Tokens.{same_kind, is_next, Sighted}
use Rattle.sw_syntax.specs.Nonterminals.{Nonterminal, Sort, Expr}
use Rattle.sw_syntax.specs.Parts.{P, whole_expr}
use Rattle.sw_print.specs.Expressions.{expr_words}
use Rattle.sw_print.proofs.Spelling.Making.{Made, make_limited, reword}
use Rattle.sw_print.proofs.Spelling.Marks.{BuiltOf}

-- the words do not begin with `:`
abbrev pub NoColon : List Word → Type 0
NoColon [] = Unit {0}
NoColon (word ∷ words) = same_kind word.kind k.Colon ≡ false

-- there are words, and neither the first nor the next is `:`
abbrev pub Headed : List Word → Type 0
Headed [] = ⊥
Headed (word ∷ words) = (same_kind word.kind k.Colon ≡ false) × NoColon words

pub no_colon_append : (v w : List Word) → NoColon v → NoColon w → NoColon (v ++ w)
no_colon_append [] w p q = q
no_colon_append (x ∷ v) w p q = p

pub headed_first : (v w : List Word) → Headed v → NoColon (v ++ w)
headed_first [] w p = elim p [ ]
headed_first (x ∷ v) w p = p.0

pub headed_start : (v : List Word) → Headed v → NoColon v
headed_start [] p = tt
headed_start (x ∷ v) p = p.0

pub headed_append : (v w : List Word) → Headed v → NoColon w → Headed (v ++ w)
headed_append [] w p q = elim p [ ]
headed_append (x ∷ v) w p q = (p.0, no_colon_append v w p.1 q)

pub no_colon_next : (v : List Word) (following : List Token) → NoColon v → is_next k.Colon following ≡ false → is_next k.Colon (map token_of v ++ following) ≡ false
no_colon_next [] following p q = q
no_colon_next (x ∷ v) following p q = p

module _ (D : (s : Nonterminal) → ℕ → ℕ → ℕ → ℕ → List Sighted → Sort s → Type 0) (B : (s : Nonterminal) → ℕ → ℕ → ℕ → ℕ → Sort s → Type 0) where
  -- words that are made for the value, and begin as none with a label do
  pub record Spelt {A : Type 0} (a : P A) (d l c e : ℕ) (x : A) (words : List Word) (following : List Token) : Type 0 where
    pub headed : Headed words
    pub made : Made D a d l c e x words following

  -- the same in other words
  pub spelt : {A : Type 0} {a : P A} {d l c e : ℕ} {x : A} {v w : List Word} {following : List Token} → w ≡ v → Headed v → Made D a d l c e x v following → Spelt a d l c e x w following
  spelt h p q = record { headed = subst Headed (sym h) p; made = reword D h q }

  -- what is written for each expression that the part builds spells it
  abbrev pub PartAgain : P ExprTree → Type 0
  PartAgain a = (d l c e : ℕ) (x : ExprTree) → BuiltOf B a d l c e x → (g : Gap) (following : List Token) → Spelt a d l c e x (expr_words x g) following

  -- an expression that stands in no other
  pub whole_expr_again : PartAgain (nonterminal Expr) → PartAgain whole_expr
  whole_expr_again within d l c e x (m, p, ec) g following =
      let inside = within d l l m x p g following in record { headed = inside.headed; made = make_limited D ec inside.made }
