-- The end of the source is a file's last token, so a file that is read is all of the tokens; and what is refused is one of them.
use Rattle.std.proofs.Common.{◌≡◌, ◌<◌, ◌≤◌, ◌⊎◌, inl, inr, ℕ, Bool, false, List, [], ◌∷◌, ◌++◌, drop, length, sym, ap, ◌∙◌, subst, arith, append_assoc, append-nil}
use Rattle.sw_rules.specs.declared.FrontError.{FrontError}
use Rattle.sw_rules.specs.declared.FrontError.TheVariants.{Refused, NoMemory}
use Rattle.sw_rules.specs.Pass.{IsCause, RefusesNone}
use Rattle.sw_lex.specs.declared.token.TokenKind.TheVariants as k
use Rattle.sw_lex.specs.declared.token.Token.{Token}
use Rattle.sw_lex.specs.Tokens.{EndsOnce}
use Rattle.sw_tree.specs.declared.decl.Tree.{Tree}
use Rattle.sw_grammar.specs.Avoiding.{Free}
use Rattle.sw_grammar.specs.Reading.{got, rejected}
use Rattle.sw_syntax.specs.Tokens.{sighted}
use Rattle.sw_syntax.specs.Tests.{is}
use Rattle.sw_syntax.specs.Nonterminals.{File}
use Rattle.sw_syntax.specs.Meaning.{Spells, IsViablePrefix, source_budget}
use Rattle.sw_syntax.specs.Answering.{read_in}
use Rattle.sw_syntax.specs.ReadResults.{reason}
use Rattle.sw_syntax.specs.Refusals.{IsSentence, IsNoSentence, Refuses}
use Rattle.sw_syntax.proofs.End.{EndsFile, spelt_file, viable_file}
use Rattle.sw_syntax.proofs.LastToken.{has_end, last_end}
use Rattle.sw_syntax.proofs.Law.{viable_prefix, one_tree}
use Rattle.sw_syntax.proofs.Reached.{text_found, refused_inside}
use Rattle.sw_syntax.proofs.Refused as refused
use Rattle.sw_parse_decl.specs.Parsed.{IsOnlyTree, HasNoTree}

some_token : (tokens : List Token) → EndsOnce tokens → 0 < length tokens
some_token [] h = absurd h
some_token (token ∷ tokens) h = omega arith

-- ---- a file that is read

all_spelt : (tokens : List Token) (tree : Tree) (end : ℕ) → EndsOnce tokens → IsSentence File tokens 0 tree end → Spells false File source_budget (sighted tokens) tree
all_spelt tokens tree end ended (run, rest, e, n, p, ends) = subst (λ u. Spells false File source_budget u tree) (sym (whole (spelt_file source_budget run tree p))) p
  where
    whole : EndsFile run → sighted tokens ≡ run
    whole (v, t, er, is_end) =
        let cut : sighted tokens ≡ v ++ t ∷ rest = e ∙ ap (λ r. r ++ rest) er ∙ append_assoc v (t ∷ []) rest in
        e ∙ ap (λ r. run ++ r) (last_end tokens v rest t ended cut is_end) ∙ append-nil run

pub file_spelt : (tokens : List Token) (tree : Tree) (c end : ℕ) → EndsOnce tokens → end ≤ length (sighted tokens) → read_in false File source_budget (drop 0 (sighted tokens)) ≡ got tree c (drop end (sighted tokens))
    → Spells false File source_budget (sighted tokens) tree
file_spelt tokens tree c end ended ends given = all_spelt tokens tree end ended (text_found File tokens 0 tree c end (some_token tokens ended) ends given)

pub only_tree : (tokens : List Token) (tree : Tree) → Spells false File source_budget (sighted tokens) tree → IsOnlyTree tokens tree
only_tree tokens tree p = λ budget other q. one_tree false File budget source_budget (sighted tokens) other tree q p

pub file_unbroken : (tokens : List Token) (tree : Tree) → Spells false File source_budget (sighted tokens) tree → RefusesNone (Refuses File tokens 0)
file_unbroken tokens tree p = λ refusal h. refused.unbroken_end File tokens 0 (sighted tokens) tree (sym (append-nil (sighted tokens))) p refusal.rule h.0 h.1

-- ---- a file that is refused

no_part : (tokens : List Token) → EndsOnce tokens → IsViablePrefix false File source_budget (sighted tokens) → IsNoSentence File (sighted tokens) → ⊥
no_part tokens ended p none = go (viable_file source_budget (sighted tokens) p)
  where
    go : Free (is k.End) (sighted tokens) ⊎ ((tree : Tree) × Spells false File source_budget (sighted tokens) tree) → ⊥
    go (inl free) = has_end tokens 0 ended (some_token tokens ended) free
    go (inr (tree, q)) = none source_budget tree q

pub refused_token : (tokens : List Token) (position : ℕ) (is_over_budget : Bool) → EndsOnce tokens → read_in false File source_budget (drop 0 (sighted tokens)) ≡ rejected (reason is_over_budget) (drop position (sighted tokens)) → position < length tokens
refused_token tokens position is_over_budget ended given = refused_inside File tokens 0 position is_over_budget (no_part tokens ended) given

-- with the token after the longest run that begins a file none is begun, so all of the tokens are none
pub no_tree : (tokens : List Token) (error : FrontError) → IsCause (Refuses File tokens 0) error → HasNoTree tokens error
no_tree tokens (Refused refusal) first = λ tree p.
    let (position, (run, next, (rest, e, begun, stops), breaks, n), stands) = first.refused in
    let all : IsViablePrefix false File source_budget (sighted tokens) = refused.spelt_viable File (sighted tokens) tree p in
    stops (viable_prefix false File source_budget (run ++ next ∷ []) rest (subst (IsViablePrefix false File source_budget) (e ∙ sym (append_assoc run (next ∷ []) rest)) all))
no_tree tokens NoMemory h = tt
