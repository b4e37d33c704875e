-- How types are read.
use Rattle.std.proofs.Common.{◌≡◌, ℕ, zero, suc, ◌-◌, Bool, true, false, List, refl, sym, ap, ◌∙◌, arith}
use Rattle.sw_base.specs.declared.ids.Span.{Span}
use Rattle.sw_lex.specs.declared.token.TokenKind.{TokenKind}
use Rattle.sw_lex.specs.declared.token.TokenKind.TheVariants as k
use Rattle.sw_grammar.specs.Grammar as g
use Rattle.sw_grammar.specs.Reading.{Out, got, rejected, over_budget, unexpected, ◌>>=◌, at_first, one}
use Rattle.sw_tree.specs.declared.expr.Name.{Name}
use Rattle.sw_tree.specs.declared.types.«Type».{«Type» as TypeTree}
use Rattle.sw_tree.specs.declared.types.«Type».TheVariants as tree
use Rattle.sw_syntax.specs.Tokens.{Sighted, Face}
use Rattle.sw_syntax.specs.Tests.{is, is_name, is_joined_question}
use Rattle.sw_syntax.specs.Values.{name_of, optional_of}
use Rattle.sw_syntax.specs.Nonterminals.{TypeExpr, BaseType}
use Rattle.sw_syntax.specs.Parts.{P, ◌·◌, tok, place, name, after}
use Rattle.sw_syntax.specs.Answering.{read, read_part, Takes}
use Rattle.sw_syntax.specs.Members.{questions, member_type}
use Rattle.sw_syntax.proofs.Equations.{step, chosen, counted, counted_over_budget, opened, opened_over_budget, less_one, fold_end, fold_more}
use Rattle.sw_syntax.proofs.PartEquations.{both_on, mark_on, placed_on, place_on, past_on, name_on, there_on, absent_on}

pub type_base : (lenient : Bool) → (d l c : ℕ) (ts : List Sighted) → read lenient TypeExpr d l c ts ≡ (read lenient BaseType d l c ts >>= (λ base c' r. questions lenient d l c' base r))
unfolding questions
type_base lenient d l c ts = step lenient TypeExpr d l c ts ∙ both_on lenient (g.nonterminal BaseType) (g.many (g.counts (g.terminal is_joined_question))) d l c ts _

pub questions_end : (lenient : Bool) → (d l c : ℕ) (base : TypeTree) (ts : List Sighted) → at_first is_joined_question ts ≡ false → questions lenient d l c base ts ≡ got base c ts
unfolding questions
questions_end lenient d l c base ts h = fold_end lenient (g.counts (g.terminal is_joined_question)) (tt, refl) refl optional_of (λ base mark. tree.Optional base) (λ base mark marks. refl) d l c base ts h

abbrev question_back : (lenient : Bool) → ℕ → ℕ → TypeTree → Out Sighted Face → Out Sighted TypeTree
question_back lenient d l base o = o >>= (λ mark c' r. read_part lenient (g.many (g.counts (g.terminal is_joined_question))) d l c' r >>= (λ marks c'' r'. got (optional_of (tree.Optional base) marks) c'' r'))

question_step : (lenient : Bool) → (d l c : ℕ) (base : TypeTree) (ts : List Sighted) → at_first is_joined_question ts ≡ true → questions lenient d l c base ts ≡ question_back lenient d l base (read_part lenient (g.counts (g.terminal is_joined_question)) d l c ts)
unfolding questions
question_step lenient d l c base ts h = fold_more lenient (g.counts (g.terminal is_joined_question)) (tt, refl) refl optional_of (λ base mark. tree.Optional base) (λ base mark marks. refl) d l c base ts h

pub questions_over_budget : (lenient : Bool) → (d l c : ℕ) (base : TypeTree) (ts : List Sighted) → at_first is_joined_question ts ≡ true → c ≡ 0 → questions lenient d l c base ts ≡ rejected over_budget ts
questions_over_budget lenient d l c base ts h z = question_step lenient d l c base ts h ∙ ap (question_back lenient d l base) (counted_over_budget lenient is_joined_question d l c ts z h)

pub questions_more : (lenient : Bool) → (d l c : ℕ) (base : TypeTree) (ts : List Sighted) (f : Face) (r : List Sighted) → at_first is_joined_question ts ≡ true → (c ≡ 0 → ⊥) → Takes is_joined_question ts f r
    → questions lenient d l c base ts ≡ questions lenient d l (c - 1) (tree.Optional base) r
unfolding questions
questions_more lenient d l c base ts f r h z takes = question_step lenient d l c base ts h ∙ ap (question_back lenient d l base) (counted lenient is_joined_question d l c ts z ∙ takes (c - 1))

-- ---- names

pub base_name : (lenient : Bool) → (d l c : ℕ) (ts : List Sighted) (f : Face) (r : List Sighted) → at_first is_name ts ≡ true → Takes is_name ts f r → read lenient BaseType d l c ts ≡ member_type lenient d l c (name_of f) r
unfolding member_type
base_name lenient d l c ts f r h takes = step lenient BaseType d l c ts ∙ chosen (at_first is_name ts) true _ _ h
    ∙ both_on lenient name (g.maybe (after (tok k.Dot) name)) d l c ts _
    ∙ name_on lenient d l c ts _
    ∙ mark_on lenient is_name d l c ts f r _ takes

pub member_type_none : (lenient : Bool) → (d l c : ℕ) (outer : Name) (ts : List Sighted) → at_first (is k.Dot) ts ≡ false → member_type lenient d l c outer ts ≡ got (tree.Name outer) c ts
unfolding member_type
member_type_none lenient d l c outer ts h = absent_on lenient (after (tok k.Dot) name) d l c ts _ h

pub member_type_some : (lenient : Bool) → (d l c : ℕ) (outer : Name) (ts : List Sighted) (f : Face) (r : List Sighted) → at_first (is k.Dot) ts ≡ true → Takes (is k.Dot) ts f r
    → member_type lenient d l c outer ts ≡ (one is_name c r >>= (λ n c' r'. got (tree.Member outer (name_of n)) c' r'))
unfolding member_type
member_type_some lenient d l c outer ts f r h takes = there_on lenient (after (tok k.Dot) name) d l c ts _ h
    ∙ past_on lenient (is k.Dot) name d l c ts f r _ takes
    ∙ name_on lenient d l c r _

-- ---- `[ ]`, `any` and `( )`

abbrev array : P (Span × (TypeTree × Face))
array = g.counts (place k.LeftBracket) · g.nonterminal TypeExpr · tok k.RightBracket

abbrev array_of : Out Sighted (Span × (TypeTree × Face)) → Out Sighted TypeTree
array_of o = o >>= (λ x c' r. got (tree.Array x.0 x.1.0) c' r)

array_step : (lenient : Bool) → (d l c : ℕ) (ts : List Sighted) → at_first is_name ts ≡ false → at_first (is k.LeftBracket) ts ≡ true → read lenient BaseType d l c ts ≡ array_of (read_part lenient (g.nest array) d l c ts)
array_step lenient d l c ts h0 h = step lenient BaseType d l c ts ∙ chosen (at_first is_name ts) false _ _ h0 ∙ chosen (at_first (is k.LeftBracket) ts) true _ _ h

pub base_array_deep : (lenient : Bool) → (d l c : ℕ) (ts : List Sighted) → at_first is_name ts ≡ false → at_first (is k.LeftBracket) ts ≡ true → d ≡ 0 → read lenient BaseType d l c ts ≡ rejected over_budget ts
base_array_deep lenient d l c ts h0 h z = array_step lenient d l c ts h0 h ∙ ap array_of (opened_over_budget lenient array d l c ts z h)

array_open : (lenient : Bool) → (d l c : ℕ) (ts : List Sighted) → at_first is_name ts ≡ false → at_first (is k.LeftBracket) ts ≡ true → (d ≡ 0 → ⊥)
    → read lenient BaseType d l c ts ≡ (read_part lenient (g.counts (place k.LeftBracket)) (d - 1) l c ts >>= (λ at c1 r1. read_part lenient (g.nonterminal TypeExpr · tok k.RightBracket) (d - 1) l c1 r1 >>= (λ x c2 r2. got (tree.Array at x.0) c2 r2)))
array_open lenient d l c ts h0 h z = array_step lenient d l c ts h0 h ∙ ap array_of (opened lenient array d l c ts z) ∙ both_on lenient (g.counts (place k.LeftBracket)) (g.nonterminal TypeExpr · tok k.RightBracket) (d - 1) l c ts _

counted_place : (lenient : Bool) → (kind : TokenKind) (d l c : ℕ) (ts : List Sighted) → (c ≡ 0 → ⊥) → read_part lenient (g.counts (place kind)) d l c ts ≡ read_part lenient (place kind) d l (c - 1) ts
counted_place lenient kind d l zero ts z = absurd (z refl)
counted_place lenient kind d l (suc c) ts z = ap (λ n. read_part lenient (place kind) d l n ts) (sym (less_one c))

counted_place_over_budget : (lenient : Bool) → (kind : TokenKind) (d l c : ℕ) (ts : List Sighted) → c ≡ 0 → at_first (is kind) ts ≡ true → read_part lenient (g.counts (place kind)) d l c ts ≡ rejected over_budget ts
counted_place_over_budget lenient kind d l zero ts z h = chosen (at_first (is kind) ts) true (rejected over_budget ts) (rejected unexpected ts) h
counted_place_over_budget lenient kind d l (suc c) ts z h = absurd (omega (arith, z))

abbrev array_back : (lenient : Bool) → ℕ → ℕ → Out Sighted Span → Out Sighted TypeTree
array_back lenient d l o = o >>= (λ at c1 r1. read_part lenient (g.nonterminal TypeExpr · tok k.RightBracket) d l c1 r1 >>= (λ x c2 r2. got (tree.Array at x.0) c2 r2))

pub base_array_over_budget : (lenient : Bool) → (d l c : ℕ) (ts : List Sighted) → at_first is_name ts ≡ false → at_first (is k.LeftBracket) ts ≡ true → (d ≡ 0 → ⊥) → c ≡ 0 → read lenient BaseType d l c ts ≡ rejected over_budget ts
base_array_over_budget lenient d l c ts h0 h z z' = array_open lenient d l c ts h0 h z ∙ ap (array_back lenient (d - 1) l) (counted_place_over_budget lenient k.LeftBracket (d - 1) l c ts z' h)

pub base_array : (lenient : Bool) → (d l c : ℕ) (ts : List Sighted) (f : Face) (r : List Sighted) → at_first is_name ts ≡ false → at_first (is k.LeftBracket) ts ≡ true → (d ≡ 0 → ⊥) → (c ≡ 0 → ⊥) → Takes (is k.LeftBracket) ts f r
    → read lenient BaseType d l c ts ≡ (read lenient TypeExpr (d - 1) l (c - 1) r >>= (λ x c1 r1. one (is k.RightBracket) c1 r1 >>= (λ _ c2 r2. got (tree.Array f.span x) c2 r2)))
base_array lenient d l c ts f r h0 h z z' takes = array_open lenient d l c ts h0 h z
    ∙ ap (array_back lenient (d - 1) l) (counted_place lenient k.LeftBracket (d - 1) l c ts z')
    ∙ place_on lenient k.LeftBracket (d - 1) l (c - 1) ts _
    ∙ mark_on lenient (is k.LeftBracket) (d - 1) l (c - 1) ts f r _ takes
    ∙ both_on lenient (g.nonterminal TypeExpr) (tok k.RightBracket) (d - 1) l (c - 1) r _

pub base_any : (lenient : Bool) → (d l c : ℕ) (ts : List Sighted) (f : Face) (r : List Sighted) → at_first is_name ts ≡ false → at_first (is k.LeftBracket) ts ≡ false → at_first (is k.Any) ts ≡ true → Takes (is k.Any) ts f r
    → read lenient BaseType d l c ts ≡ (one is_name c r >>= (λ n c' r'. got (tree.Any f.span (name_of n)) c' r'))
base_any lenient d l c ts f r h0 h1 h takes = step lenient BaseType d l c ts ∙ chosen (at_first is_name ts) false _ _ h0 ∙ chosen (at_first (is k.LeftBracket) ts) false _ _ h1 ∙ chosen (at_first (is k.Any) ts) true _ _ h
    ∙ placed_on lenient k.Any name d l c ts f r _ takes
    ∙ name_on lenient d l c r _

abbrev void : P (Span × Face)
void = place k.LeftParen · tok k.RightParen

abbrev void_of : Out Sighted (Span × Face) → Out Sighted TypeTree
void_of o = o >>= (λ x c' r. got (tree.Void x.0) c' r)

void_step : (lenient : Bool) → (d l c : ℕ) (ts : List Sighted) → at_first is_name ts ≡ false → at_first (is k.LeftBracket) ts ≡ false → at_first (is k.Any) ts ≡ false → read lenient BaseType d l c ts ≡ void_of (read_part lenient (g.nest void) d l c ts)
void_step lenient d l c ts h0 h1 h2 = step lenient BaseType d l c ts ∙ chosen (at_first is_name ts) false _ _ h0 ∙ chosen (at_first (is k.LeftBracket) ts) false _ _ h1 ∙ chosen (at_first (is k.Any) ts) false _ _ h2

pub base_void_deep : (lenient : Bool) → (d l c : ℕ) (ts : List Sighted) → at_first is_name ts ≡ false → at_first (is k.LeftBracket) ts ≡ false → at_first (is k.Any) ts ≡ false → at_first (is k.LeftParen) ts ≡ true → d ≡ 0 → read lenient BaseType d l c ts ≡ rejected over_budget ts
base_void_deep lenient d l c ts h0 h1 h2 h z = void_step lenient d l c ts h0 h1 h2 ∙ ap void_of (opened_over_budget lenient void d l c ts z h)

-- nothing that a type begins with
pub base_none_deep : (lenient : Bool) → (d l c : ℕ) (ts : List Sighted) → at_first is_name ts ≡ false → at_first (is k.LeftBracket) ts ≡ false → at_first (is k.Any) ts ≡ false → at_first (is k.LeftParen) ts ≡ false → d ≡ 0 → read lenient BaseType d l c ts ≡ rejected unexpected ts
base_none_deep lenient zero l c ts h0 h1 h2 h z = void_step lenient zero l c ts h0 h1 h2 ∙ ap void_of (chosen (at_first (is k.LeftParen) ts) false (rejected over_budget ts) (rejected unexpected ts) h)
base_none_deep lenient (suc d) l c ts h0 h1 h2 h z = absurd (omega (arith, z))

pub base_void : (lenient : Bool) → (d l c : ℕ) (ts : List Sighted) → at_first is_name ts ≡ false → at_first (is k.LeftBracket) ts ≡ false → at_first (is k.Any) ts ≡ false → (d ≡ 0 → ⊥)
    → read lenient BaseType d l c ts ≡ (one (is k.LeftParen) c ts >>= (λ f c1 r1. one (is k.RightParen) c1 r1 >>= (λ _ c2 r2. got (tree.Void f.span) c2 r2)))
base_void lenient d l c ts h0 h1 h2 z = void_step lenient d l c ts h0 h1 h2 ∙ ap void_of (opened lenient void d l c ts z)
    ∙ both_on lenient (place k.LeftParen) (tok k.RightParen) (d - 1) l c ts _
    ∙ place_on lenient k.LeftParen (d - 1) l c ts _
