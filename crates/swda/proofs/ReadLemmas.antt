-- What a source is read as, from what the lexer and the parser answer.
use Rattle.std.proofs.Common.{false, List, Result, Ok, Err, IfOk, IfErr, subst, sym}
use Rattle.sw_rules.specs.declared.Refusal.{Refusal}
use Rattle.sw_rules.specs.declared.FrontError.{FrontError}
use Rattle.sw_rules.specs.declared.FrontError.TheVariants.{Refused, NoMemory}
use Rattle.sw_rules.specs.Pass.{IsCause, RefusesNone}
use Rattle.sw_rules.proofs.Passes.{first_of_earlier, first_of_later, none_of_both, one_first, same_first}
use Rattle.sw_lex.specs.declared.token.Token.{Token}
use Rattle.sw_lex.specs.Bytes.{Text}
use Rattle.sw_lex.specs.Tokens.{CutsInto}
use Rattle.sw_lex.specs.Rules as tokens
use Rattle.sw_lex.specs.Lexing.{IsOnlyCut}
use Rattle.sw_tree.specs.declared.decl.Tree.{Tree}
use Rattle.sw_syntax.specs.Tokens.{sighted}
use Rattle.sw_syntax.specs.Nonterminals.{File}
use Rattle.sw_syntax.specs.Meaning.{Spells, source_budget}
use Rattle.sw_syntax.specs.Refusals as grammar
use Rattle.sw_parse_decl.specs.Parsed.{IsOnlyTree, HasNoTree}
use Rattle.sw_names.specs.Pass as names
use Rattle.swda.specs.Parsed.{IsParsed, IsUnparsed, IsUnparsedBy}
use Rattle.swda.specs.ReadAs.{First, IsRead, IsRefused, IsRefusedBy, HasTree, HasNamedTree, Refuses, RefusesSyntax, RefusesTokens, RefusesTree}

-- ---- tokens and the grammar

-- the lexer refused the source
pub by_lexer : (source : Text) (error : FrontError) → IsCause (tokens.Refuses source) error → IsUnparsedBy source error
by_lexer source (Refused refusal) first = record {
  first = first_of_earlier (tokens.Refuses source) (RefusesTokens source) refusal first;
  none = λ tree (others, (cut, unbroken), spells, rest). unbroken refusal first.refused;
}
by_lexer source NoMemory first = tt

module _ (source : Text) (found : List Token) (cut : CutsInto source found) (only : IsOnlyCut source found) (unbroken : RefusesNone (tokens.Refuses source)) where
  -- what its tokens break, the source breaks
  of_tokens : (refusal : Refusal) → grammar.Refuses File found 0 refusal → RefusesTokens source refusal
  of_tokens refusal h = (found, cut, h)

  to_tokens : (refusal : Refusal) → RefusesTokens source refusal → grammar.Refuses File found 0 refusal
  to_tokens refusal (others, cut', h) = subst (λ ts. grammar.Refuses File ts 0 refusal) (only others cut') h

  -- the parser refused its tokens
  pub by_parser : (error : FrontError) → IsCause (grammar.Refuses File found 0) error → HasNoTree found error → IsUnparsedBy source error
  by_parser (Refused refusal) first none = record {
    first = first_of_later (tokens.Refuses source) (RefusesTokens source) refusal unbroken (same_first (grammar.Refuses File found 0) (RefusesTokens source) refusal of_tokens to_tokens first);
    none = λ tree (others, (cut', unbroken'), spells, rest). none tree (subst (λ ts. Spells false File source_budget (sighted ts) tree) (only others cut') spells);
  }
  by_parser NoMemory first none = tt

  -- the parser read them
  pub by_both : (tree : Tree) → Spells false File source_budget (sighted found) tree → IsOnlyTree found tree → RefusesNone (grammar.Refuses File found 0) → IsParsed source tree
  by_both tree spells one sound = record {
    has = (found, (cut, unbroken), spells, sound);
    only = λ other (others, (cut', unbroken'), spells', rest). one source_budget other (subst (λ ts. Spells false File source_budget (sighted ts) other) (only others cut') spells');
    unbroken = none_of_both (tokens.Refuses source) (RefusesTokens source) unbroken (λ refusal h. sound refusal (to_tokens refusal h));
  }

  -- of the parser's answer for these tokens
  pub parsed_so : (r : Result Tree FrontError) → IfOk r (λ tree. Spells false File source_budget (sighted found) tree) → IfOk r (λ tree. IsOnlyTree found tree)
      → IfOk r (λ tree. RefusesNone (grammar.Refuses File found 0)) → IfOk r (λ tree. IsParsed source tree)
  parsed_so (Err error) spells one sound = tt
  parsed_so (Ok tree) spells one sound = by_both tree spells one sound

  pub stopped_so : (r : Result Tree FrontError) → IfErr r (λ error. IsCause (grammar.Refuses File found 0) error) → IfErr r (λ error. HasNoTree found error) → IfErr r (λ error. IsUnparsedBy source error)
  stopped_so (Ok tree) cause none = tt
  stopped_so (Err error) cause none = by_parser error cause none

-- ---- and names

refused_so : (source : Text) (refusal : Refusal) → First source refusal → ((tree : Tree) → HasNamedTree source tree → ⊥) → IsRefused source refusal
refused_so source refusal first none = record {
  first = first;
  only = λ other its. one_first (Refuses source) other refusal its first;
  none = none;
}

-- the source was not parsed
pub by_syntax : (source : Text) (error : FrontError) → IsUnparsedBy source error → IsRefusedBy source error
by_syntax source (Refused refusal) unparsed =
    refused_so source refusal (first_of_earlier (RefusesSyntax source) (RefusesTree source) refusal unparsed.first)
    (λ tree (its, named). unparsed.none tree its)
by_syntax source NoMemory unparsed = tt

module _ (source : Text) (tree : Tree) (parsed : IsParsed source tree) where
  -- what its tree breaks, the source breaks
  of_tree : (refusal : Refusal) → names.Refuses tree refusal → RefusesTree source refusal
  of_tree refusal h = (tree, parsed.has, h)

  to_tree : (refusal : Refusal) → RefusesTree source refusal → names.Refuses tree refusal
  to_tree refusal (other, its, h) = subst (λ t. names.Refuses t refusal) (parsed.only other its) h

  -- its names were refused
  pub by_names : (error : FrontError) → IsCause (names.Refuses tree) error → IsRefusedBy source error
  by_names (Refused refusal) first =
      refused_so source refusal
      (first_of_later (RefusesSyntax source) (RefusesTree source) refusal parsed.unbroken (same_first (names.Refuses tree) (RefusesTree source) refusal of_tree to_tree first))
      (λ other (its, named). named refusal (subst (λ t. names.Refuses t refusal) (sym (parsed.only other its)) first.refused))
  by_names NoMemory first = tt

  -- no rule is broken
  pub by_all : RefusesNone (names.Refuses tree) → IsRead source tree
  by_all named = record {
    has = (parsed.has, named);
    only = parsed.only;
    unbroken = never;
    sound = λ refusal first. never refusal first.refused;
  }
    where
      never : RefusesNone (Refuses source)
      never = none_of_both (RefusesSyntax source) (RefusesTree source) parsed.unbroken (λ refusal h. named refusal (to_tree refusal h))
