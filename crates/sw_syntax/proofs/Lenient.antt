-- What is spelt or begun in the grammar is so in the lenient one, with the same value.
use Rattle.std.proofs.Common.{◌≡◌, ℕ, zero, suc, Bool, true, false, inl, inr, List, [], ◌∷◌, Option, Some, None, refl, sym, ◌∙◌, append-nil}
use Rattle.sw_grammar.specs.Grammar as g
use Rattle.sw_grammar.specs.Grammar.{Part, Budget, Counted, Each, Then, Derives_by, Derives, ViablePrefix_by, ViablePrefix}
use Rattle.sw_tree.specs.declared.expr.Expr.{Expr as ExprTree}
use Rattle.sw_syntax.specs.declared.class.Sight.{Sight}
use Rattle.sw_syntax.specs.Tokens.{Sighted, Face}
use Rattle.sw_syntax.specs.Tests.{is_binary}
use Rattle.sw_syntax.specs.Nonterminals.{Nonterminal, Sort, InBlock, InArm, File, ItemList, AfterItem, Item, Param, Case, Payload, TypeExpr, BaseType, Block, Statements, SomeStatements, AfterStatement, AfterReturn, Statement, If, Arms, Condition, Pattern, Caught, Expr, Ternary, Binary, Prefix, Postfix, PostfixForm, Argument, Primary, Elements}
use Rattle.sw_syntax.specs.Values.{to_left, to_right}
use Rattle.sw_syntax.specs.Parts.{P}
use Rattle.sw_syntax.specs.Grammar.{production, binary, operand, right}
use Rattle.sw_syntax.specs.Meaning.{Spells, IsViablePrefix}

each_more : {T A : Type 0} (D D' : Counted T A) → ((c e : ℕ) (u : List T) (x : A) → D c e u x → D' c e u x) → (xs : List A) (c e : ℕ) (u : List T) → Each D c e u xs → Each D' c e u xs
each_more D D' h [] c e u p = p
each_more D D' h (x ∷ xs) c e u (v, w, m, eu, p, q) = (v, w, m, eu, h c m v x p, each_more D D' h xs m e w q)

then_more : {T A C : Type 0} (D D' : Counted T A) (E E' : Counted T C) (goes : A → Bool) → ((c e : ℕ) (u : List T) (x : A) → D c e u x → D' c e u x) → ((c e : ℕ) (u : List T) (y : C) → E c e u y → E' c e u y)
    → (c e : ℕ) (u : List T) (x : A) (y : Option C) → Then D E goes c e u x y → Then D' E' goes c e u x y
then_more D D' E E' goes h k c e u x None p = h c e u x p
then_more D D' E E' goes h k c e u x (Some y) (v, w, m, eu, p, is, q) = (v, w, m, eu, h c m v x p, is, k m e w y q)

-- ---- of two grammars, where each nonterminal's sentences in the first are such in the second

module _ (production' production'' : (s : Nonterminal) → Part Sight Face Nonterminal Sort (Sort s)) where
  abbrev Deriving : Type 1
  Deriving = (s : Nonterminal) → ℕ → ℕ → ℕ → ℕ → List Sighted → Sort s → Type 0

  abbrev Beginning : Type 1
  Beginning = (s : Nonterminal) → ℕ → ℕ → ℕ → List Sighted → Type 0

  module _ (D D' : Deriving) (h : (s : Nonterminal) (d l c e : ℕ) (u : List Sighted) (x : Sort s) → D s d l c e u x → D' s d l c e u x) where
    abbrev Text : {A : Type 0} → P A → ℕ → ℕ → ℕ → ℕ → List Sighted → A → Type 0
    Text a d l c e u x = Derives_by Sight Face Nonterminal Sort production' D a d l c e u x

    abbrev Text' : {A : Type 0} → P A → ℕ → ℕ → ℕ → ℕ → List Sighted → A → Type 0
    Text' a d l c e u x = Derives_by Sight Face Nonterminal Sort production'' D' a d l c e u x

    pub more : {A : Type 0} (a : P A) (d l c e : ℕ) (u : List Sighted) (x : A) → Text a d l c e u x → Text' a d l c e u x
    more (g.terminal f) d l c e u x p = p
    more (g.nonterminal s) d l c e u x p = h s d l c e u x p
    more (g.both a b) d l c e u x (v, w, m, eu, p, q) = (v, w, m, eu, more a d l c m v x.0 p, more b d l m e w x.1 q)
    more (g.either a b) d l c e u x (inl p) = inl (more a d l c e u x p)
    more (g.either a b) d l c e u x (inr p) = inr (more b d l c e u x p)
    more (g.maybe a) d l c e u None p = p
    more (g.maybe a) d l c e u (Some x) p = more a d l c e u x p
    more (g.many a) d l c e u xs p = each_more (Text a d l) (Text' a d l) (more a d l) xs c e u p
    more (g.then_if a goes b) d l c e u x p = then_more (Text a d l) (Text' a d l) (Text b d l) (Text' b d l) goes (more a d l) (more b d l) c e u x.0 x.1 p
    more (g.when f a) d l c e u x (hd, p) = (hd, more a d l c e u x p)
    more (g.nest a) zero l c e u x p = p
    more (g.nest a) (suc d) l c e u x p = more a d l c e u x p
    more (g.counts a) d l zero e u x p = p
    more (g.counts a) d l (suc c) e u x p = more a d l c e u x p
    more (g.limited a) d l c e u x (m, p, ec) = (m, more a d l l m u x p, ec)
    more (g.gives f a) d l c e u y (x, p, ey) = (x, more a d l c e u x p, ey)

    module _ (B B' : Beginning) (k : (s : Nonterminal) (d l c : ℕ) (u : List Sighted) → B s d l c u → B' s d l c u) where
      abbrev Viable : {A : Type 0} → P A → ℕ → ℕ → ℕ → List Sighted → Type 0
      Viable a d l c u = ViablePrefix_by Sight Face Nonterminal Sort production' D B a d l c u

      abbrev Viable' : {A : Type 0} → P A → ℕ → ℕ → ℕ → List Sighted → Type 0
      Viable' a d l c u = ViablePrefix_by Sight Face Nonterminal Sort production'' D' B' a d l c u

      pub more_viable : {A : Type 0} (a : P A) (d l c : ℕ) (u : List Sighted) → Viable a d l c u → Viable' a d l c u
      more_viable (g.terminal f) d l c [] p = p
      more_viable (g.terminal f) d l c (t ∷ u) p = p
      more_viable (g.nonterminal s) d l c u p = k s d l c u p
      more_viable (g.both a b) d l c u (inl p) = inl (more_viable a d l c u p)
      more_viable (g.both a b) d l c u (inr (v, w, x, m, eu, p, q)) = inr (v, w, x, m, eu, more a d l c m v x p, more_viable b d l m w q)
      more_viable (g.either a b) d l c u (inl p) = inl (more_viable a d l c u p)
      more_viable (g.either a b) d l c u (inr p) = inr (more_viable b d l c u p)
      more_viable (g.maybe a) d l c u (inl eu) = inl eu
      more_viable (g.maybe a) d l c u (inr p) = inr (more_viable a d l c u p)
      more_viable (g.many a) d l c u (inl eu) = inl eu
      more_viable (g.many a) d l c u (inr (v, w, xs, m, eu, each, q)) = inr (v, w, xs, m, eu, each_more (Text a d l) (Text' a d l) (more a d l) xs c m v each, more_viable a d l m w q)
      more_viable (g.then_if a goes b) d l c u (inl p) = inl (more_viable a d l c u p)
      more_viable (g.then_if a goes b) d l c u (inr (v, w, x, m, eu, p, is, q)) = inr (v, w, x, m, eu, more a d l c m v x p, is, more_viable b d l m w q)
      more_viable (g.when f a) d l c u (hd, p) = (hd, more_viable a d l c u p)
      more_viable (g.nest a) zero l c u eu = eu
      more_viable (g.nest a) (suc d) l c u p = more_viable a d l c u p
      more_viable (g.counts a) d l zero u eu = eu
      more_viable (g.counts a) d l (suc c) u p = more_viable a d l c u p
      more_viable (g.limited a) d l c u p = more_viable a d l l u p
      more_viable (g.gives f a) d l c u p = more_viable a d l c u p

-- ---- the grammar and the lenient one

-- all nonterminals but those of binary marks have the same production in both
pub each_symbol : (Q : (s : Nonterminal) → P (Sort s) → P (Sort s) → Type 0) → ((s : Nonterminal) (a : P (Sort s)) → Q s a a) → ((n : ℕ) → Q (Binary n) (binary false n) (binary true n)) → (s : Nonterminal) → Q s (production false s) (production true s)
each_symbol Q same bin File = same File (production false File)
each_symbol Q same bin (ItemList l) = same (ItemList l) (production false (ItemList l))
each_symbol Q same bin (AfterItem l) = same (AfterItem l) (production false (AfterItem l))
each_symbol Q same bin (Item l) = same (Item l) (production false (Item l))
each_symbol Q same bin Param = same Param (production false Param)
each_symbol Q same bin Case = same Case (production false Case)
each_symbol Q same bin Payload = same Payload (production false Payload)
each_symbol Q same bin TypeExpr = same TypeExpr (production false TypeExpr)
each_symbol Q same bin BaseType = same BaseType (production false BaseType)
each_symbol Q same bin Block = same Block (production false Block)
each_symbol Q same bin (Statements InBlock) = same (Statements InBlock) (production false (Statements InBlock))
each_symbol Q same bin (Statements InArm) = same (Statements InArm) (production false (Statements InArm))
each_symbol Q same bin (SomeStatements at) = same (SomeStatements at) (production false (SomeStatements at))
each_symbol Q same bin (AfterStatement at ending) = same (AfterStatement at ending) (production false (AfterStatement at ending))
each_symbol Q same bin (AfterReturn at) = same (AfterReturn at) (production false (AfterReturn at))
each_symbol Q same bin (Statement ending) = same (Statement ending) (production false (Statement ending))
each_symbol Q same bin If = same If (production false If)
each_symbol Q same bin Arms = same Arms (production false Arms)
each_symbol Q same bin Condition = same Condition (production false Condition)
each_symbol Q same bin Pattern = same Pattern (production false Pattern)
each_symbol Q same bin Caught = same Caught (production false Caught)
each_symbol Q same bin Expr = same Expr (production false Expr)
each_symbol Q same bin Ternary = same Ternary (production false Ternary)
each_symbol Q same bin Prefix = same Prefix (production false Prefix)
each_symbol Q same bin Postfix = same Postfix (production false Postfix)
each_symbol Q same bin PostfixForm = same PostfixForm (production false PostfixForm)
each_symbol Q same bin Argument = same Argument (production false Argument)
each_symbol Q same bin Primary = same Primary (production false Primary)
each_symbol Q same bin Elements = same Elements (production false Elements)
each_symbol Q same bin (Binary n) = bin n

module _ (D D' : (s : Nonterminal) → ℕ → ℕ → ℕ → ℕ → List Sighted → Sort s → Type 0) (h : (s : Nonterminal) (d l c e : ℕ) (u : List Sighted) (x : Sort s) → D s d l c e u x → D' s d l c e u x) where
  abbrev Strict : {A : Type 0} → P A → ℕ → ℕ → ℕ → ℕ → List Sighted → A → Type 0
  Strict a d l c e u x = Derives_by Sight Face Nonterminal Sort (production false) D a d l c e u x

  abbrev Lenient : {A : Type 0} → P A → ℕ → ℕ → ℕ → ℕ → List Sighted → A → Type 0
  Lenient a d l c e u x = Derives_by Sight Face Nonterminal Sort (production true) D' a d l c e u x

  part : {A : Type 0} (a : P A) (d l c e : ℕ) (u : List Sighted) (x : A) → Strict a d l c e u x → Lenient a d l c e u x
  part = more (production false) (production true) D D' h

  pub operand_more : (n m d l c e : ℕ) (u : List Sighted) (x : Face × ExprTree) → Strict (operand n (right false m)) d l c e u x → Lenient (operand n (right true m)) d l c e u x
  operand_more n m d l c e u x (v, w, i, eu, p, q) = (v, w, i, eu, part (g.counts (g.terminal (is_binary n))) d l c i v x.0 p, inl (h (Binary m) d l i e w x.1 q))

  pub operands_more : (n m d l c e : ℕ) (u : List Sighted) (xs : List (Face × ExprTree)) → Strict (g.many (operand n (right false m))) d l c e u xs → Lenient (g.many (operand n (right true m))) d l c e u xs
  operands_more n m d l c e u xs p = each_more (Strict (operand n (right false m)) d l) (Lenient (operand n (right true m)) d l) (operand_more n m d l) xs c e u p

  leftward_more : (n m d l c e : ℕ) (u : List Sighted) (x : ExprTree × List (Face × ExprTree)) → Strict (g.both (g.nonterminal (Binary m)) (g.many (operand n (right false m)))) d l c e u x → Lenient (g.both (g.nonterminal (Binary m)) (g.many (operand n (right true m)))) d l c e u x
  leftward_more n m d l c e u x (v, w, i, eu, p, q) = (v, w, i, eu, h (Binary m) d l c i v x.0 p, operands_more n m d l i e w x.1 q)

  -- one comparison is a chain of one
  abbrev chain_of : Option (Face × ExprTree) → List (Face × ExprTree)
  chain_of None = []
  chain_of (Some x) = x ∷ []

  chain : (d l c e : ℕ) (u : List Sighted) (x : Option (Face × ExprTree)) → Strict (g.maybe (operand 2 (right false 3))) d l c e u x → Lenient (g.many (operand 2 (right true 3))) d l c e u (chain_of x)
  chain d l c e u None p = p
  chain d l c e u (Some x) p = (u, [], e, sym (append-nil u), operand_more 2 3 d l c e u x p, (refl, refl))

  chain_same : (left : ExprTree) (x : Option (Face × ExprTree)) → to_right left x ≡ to_left left (chain_of x)
  chain_same left None = refl
  chain_same left (Some x) = refl

  maybe_more : (n m d l c e : ℕ) (u : List Sighted) (x : Option (Face × ExprTree)) → Strict (g.maybe (operand n (right false m))) d l c e u x → Lenient (g.maybe (operand n (right true m))) d l c e u x
  maybe_more n m d l c e u None p = p
  maybe_more n m d l c e u (Some x) p = operand_more n m d l c e u x p

  -- an expression of a binary mark
  bin_more : (n d l c e : ℕ) (u : List Sighted) (x : ExprTree) → Strict (binary false n) d l c e u x → Lenient (binary true n) d l c e u x
  bin_more zero d l c e u x (y, p, ey) = (y, leftward_more 0 1 d l c e u y p, ey)
  bin_more (suc zero) d l c e u x (y, p, ey) = (y, leftward_more 1 2 d l c e u y p, ey)
  bin_more (suc (suc zero)) d l c e u x (y, (v, w, i, eu, p, q), ey) = ((y.0, chain_of y.1), (v, w, i, eu, h (Binary 3) d l c i v y.0 p, chain d l i e w y.1 q), ey ∙ chain_same y.0 y.1)
  bin_more (suc (suc (suc zero))) d l c e u x (y, (v, w, i, eu, p, q), ey) = (y, (v, w, i, eu, h (Binary 4) d l c i v y.0 p, maybe_more 3 3 d l i e w y.1 q), ey)
  bin_more (suc (suc (suc (suc zero)))) d l c e u x (y, p, ey) = (y, leftward_more 4 5 d l c e u y p, ey)
  bin_more (suc (suc (suc (suc (suc zero))))) d l c e u x (y, p, ey) = (y, leftward_more 5 6 d l c e u y p, ey)
  bin_more (suc (suc (suc (suc (suc (suc n)))))) d l c e u x p = h Prefix d l c e u x p

  module _ (B B' : (s : Nonterminal) → ℕ → ℕ → ℕ → List Sighted → Type 0) (k : (s : Nonterminal) (d l c : ℕ) (u : List Sighted) → B s d l c u → B' s d l c u) where
    abbrev StrictViable : {A : Type 0} → P A → ℕ → ℕ → ℕ → List Sighted → Type 0
    StrictViable a d l c u = ViablePrefix_by Sight Face Nonterminal Sort (production false) D B a d l c u

    abbrev LenientViable : {A : Type 0} → P A → ℕ → ℕ → ℕ → List Sighted → Type 0
    LenientViable a d l c u = ViablePrefix_by Sight Face Nonterminal Sort (production true) D' B' a d l c u

    viable : {A : Type 0} (a : P A) (d l c : ℕ) (u : List Sighted) → StrictViable a d l c u → LenientViable a d l c u
    viable = more_viable (production false) (production true) D D' h B B' k

    operand_viable : (n m d l c : ℕ) (u : List Sighted) → StrictViable (operand n (right false m)) d l c u → LenientViable (operand n (right true m)) d l c u
    operand_viable n m d l c u (inl p) = inl (viable (g.counts (g.terminal (is_binary n))) d l c u p)
    operand_viable n m d l c u (inr (v, w, x, i, eu, p, q)) = inr (v, w, x, i, eu, part (g.counts (g.terminal (is_binary n))) d l c i v x p, inl (k (Binary m) d l i w q))

    operands_viable : (n m d l c : ℕ) (u : List Sighted) → StrictViable (g.many (operand n (right false m))) d l c u → LenientViable (g.many (operand n (right true m))) d l c u
    operands_viable n m d l c u (inl eu) = inl eu
    operands_viable n m d l c u (inr (v, w, xs, i, eu, p, q)) = inr (v, w, xs, i, eu, operands_more n m d l c i v xs p, operand_viable n m d l i w q)

    leftward_viable : (n m d l c : ℕ) (u : List Sighted) → StrictViable (g.both (g.nonterminal (Binary m)) (g.many (operand n (right false m)))) d l c u → LenientViable (g.both (g.nonterminal (Binary m)) (g.many (operand n (right true m)))) d l c u
    leftward_viable n m d l c u (inl p) = inl (k (Binary m) d l c u p)
    leftward_viable n m d l c u (inr (v, w, x, i, eu, p, q)) = inr (v, w, x, i, eu, h (Binary m) d l c i v x p, operands_viable n m d l i w q)

    -- one comparison, or its beginning, begins a chain
    chain_viable : (d l c : ℕ) (u : List Sighted) → StrictViable (g.maybe (operand 2 (right false 3))) d l c u → LenientViable (g.many (operand 2 (right true 3))) d l c u
    chain_viable d l c u (inl eu) = inl eu
    chain_viable d l c u (inr p) = inr ([], u, [], c, refl, (refl, refl), operand_viable 2 3 d l c u p)

    maybe_viable : (n m d l c : ℕ) (u : List Sighted) → StrictViable (g.maybe (operand n (right false m))) d l c u → LenientViable (g.maybe (operand n (right true m))) d l c u
    maybe_viable n m d l c u (inl eu) = inl eu
    maybe_viable n m d l c u (inr p) = inr (operand_viable n m d l c u p)

    bin_viable : (n d l c : ℕ) (u : List Sighted) → StrictViable (binary false n) d l c u → LenientViable (binary true n) d l c u
    bin_viable zero d l c u p = leftward_viable 0 1 d l c u p
    bin_viable (suc zero) d l c u p = leftward_viable 1 2 d l c u p
    bin_viable (suc (suc zero)) d l c u (inl p) = inl (k (Binary 3) d l c u p)
    bin_viable (suc (suc zero)) d l c u (inr (v, w, x, i, eu, p, q)) = inr (v, w, x, i, eu, h (Binary 3) d l c i v x p, chain_viable d l i w q)
    bin_viable (suc (suc (suc zero))) d l c u (inl p) = inl (k (Binary 4) d l c u p)
    bin_viable (suc (suc (suc zero))) d l c u (inr (v, w, x, i, eu, p, q)) = inr (v, w, x, i, eu, h (Binary 4) d l c i v x p, maybe_viable 3 3 d l i w q)
    bin_viable (suc (suc (suc (suc zero)))) d l c u p = leftward_viable 4 5 d l c u p
    bin_viable (suc (suc (suc (suc (suc zero))))) d l c u p = leftward_viable 5 6 d l c u p
    bin_viable (suc (suc (suc (suc (suc (suc n)))))) d l c u p = k Prefix d l c u p

    symbol_viable : (s : Nonterminal) (d l c : ℕ) (u : List Sighted) → StrictViable (production false s) d l c u → LenientViable (production true s) d l c u
    symbol_viable = each_symbol (λ s a b. (d l c : ℕ) (u : List Sighted) → StrictViable a d l c u → LenientViable b d l c u) (λ s a. viable a) bin_viable

  symbol_more : (s : Nonterminal) (d l c e : ℕ) (u : List Sighted) (x : Sort s) → Strict (production false s) d l c e u x → Lenient (production true s) d l c e u x
  symbol_more = each_symbol (λ s a b. (d l c e : ℕ) (u : List Sighted) (x : Sort s) → Strict a d l c e u x → Lenient b d l c e u x) (λ s a. part a) bin_more

-- ---- by each height

abbrev Dn : Bool → ℕ → (s : Nonterminal) → ℕ → ℕ → ℕ → ℕ → List Sighted → Sort s → Type 0
Dn lenient n = Derives Sight Face Nonterminal Sort (production lenient) n

abbrev Bn : Bool → ℕ → (s : Nonterminal) → ℕ → ℕ → ℕ → List Sighted → Type 0
Bn lenient n = ViablePrefix Sight Face Nonterminal Sort (production lenient) n

pub text_n : (n : ℕ) (s : Nonterminal) (d l c e : ℕ) (u : List Sighted) (x : Sort s) → Dn false n s d l c e u x → Dn true n s d l c e u x
text_n zero s d l c e u x p = p
text_n (suc n) s d l c e u x p = symbol_more (Dn false n) (Dn true n) (text_n n) s d l c e u x p

viable_n : (n : ℕ) (s : Nonterminal) (d l c : ℕ) (u : List Sighted) → Bn false n s d l c u → Bn true n s d l c u
viable_n zero s d l c u p = p
viable_n (suc n) s d l c u p = symbol_viable (Dn false n) (Dn true n) (text_n n) (Bn false n) (Bn true n) (viable_n n) s d l c u p

-- ---- the laws

pub spelt_leniently : (s : Nonterminal) (budget : Budget) (u : List Sighted) (x : Sort s) → Spells false s budget u x → Spells true s budget u x
spelt_leniently s budget u x (n, e, p) = (n, e, text_n n s budget.brackets budget.limit budget.left e u x p)

pub viable_leniently : (s : Nonterminal) (budget : Budget) (u : List Sighted) → IsViablePrefix false s budget u → IsViablePrefix true s budget u
viable_leniently s budget u (n, p) = (n, viable_n n s budget.brackets budget.limit budget.left u p)
