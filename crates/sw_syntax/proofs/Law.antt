-- What the reader answers is what the grammar says, and each sentence has one tree.
use Rattle.std.proofs.Common.{◌≡◌, ℕ, Bool, false, List, ◌++◌}
use Rattle.sw_grammar.specs.Grammar.{Budget, IsWithin}
use Rattle.sw_grammar.specs.Reading.{got, at_first}
use Rattle.sw_grammar.proofs.Whole as whole
use Rattle.sw_grammar.proofs.Prefix as prefix
use Rattle.sw_syntax.specs.declared.class.Sight.{Sight}
use Rattle.sw_syntax.specs.Tokens.{Sighted, Face}
use Rattle.sw_syntax.specs.Nonterminals.{Nonterminal, Sort}
use Rattle.sw_syntax.specs.Grammar.{production}
use Rattle.sw_syntax.specs.Tables.{first_table, follow_last_table, nullable_table, rank, width}
use Rattle.sw_syntax.specs.Meaning.{Spells, IsViablePrefix}
use Rattle.sw_syntax.specs.Answering.{Answers, read, read_in}
use Rattle.sw_syntax.proofs.Decides.{is_decided}

-- the reader's answer is so
pub exact : (lenient : Bool) (s : Nonterminal) (budget : Budget) (ts : List Sighted) → Answers lenient s budget ts (read_in lenient s budget ts)
unfolding read
exact lenient s budget ts = whole.reads_exact Sight Face Nonterminal Sort (production lenient) first_table nullable_table follow_last_table rank width (is_decided lenient) s budget ts

-- each sentence is read, with its value, in each room that holds it, where what follows does not go on with it
pub text_read : (lenient : Bool) (s : Nonterminal) (budget larger : Budget) (u : List Sighted) (x : Sort s) (rest : List Sighted) → Spells lenient s budget u x → IsWithin budget larger
    → at_first (follow_last_table s) rest ≡ false → (c : ℕ) × (read_in lenient s larger (u ++ rest) ≡ got x c rest)
unfolding read
text_read lenient s budget larger u x rest p within st = whole.reads_text Sight Face Nonterminal Sort (production lenient) first_table nullable_table follow_last_table rank width (is_decided lenient) s budget larger u x rest p within st

-- each sentence has one tree, whatever the budgets
pub one_tree : (lenient : Bool) (s : Nonterminal) (budget budget' : Budget) (u : List Sighted) (x y : Sort s) → Spells lenient s budget u x → Spells lenient s budget' u y → x ≡ y
one_tree lenient s budget budget' u x y p q = whole.one_tree Sight Face Nonterminal Sort (production lenient) first_table nullable_table follow_last_table rank width (is_decided lenient) s budget budget' u x y p q

-- what begins a sentence begins one as far as it is cut off
pub viable_prefix : (lenient : Bool) (s : Nonterminal) (budget : Budget) (u v : List Sighted) → IsViablePrefix lenient s budget (u ++ v) → IsViablePrefix lenient s budget u
viable_prefix lenient s budget u v p = prefix.viable_prefix Sight Face Nonterminal Sort (production lenient) s budget u v p
