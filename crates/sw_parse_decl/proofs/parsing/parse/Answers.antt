use Rattle.std.proofs.Common.{◌≡◌, ◌≤◌, length, drop, subst, false}
use Rattle.sw_grammar.specs.Reading.{got, rejected}
use Rattle.sw_syntax.specs.Meaning.{source_budget}
use Rattle.sw_syntax.specs.Answering.{read_in}
use Rattle.sw_syntax.specs.ReadResults.{reason}
use Rattle.sw_syntax.specs.Nonterminals.{File}
use Rattle.sw_syntax.proofs.Exits.{refusal_gives}
use Rattle.sw_parse_decl.proofs.ParseLemmas.{file_spelt, only_tree, file_unbroken, refused_token, no_tree}
use Rattle.sw_parse_decl.proofs.parsing.parse.Goals as goal

pub returns-in-Ok-clause-spelt : goal.returns-in-Ok-clause-spelt
returns-in-Ok-clause-spelt c =
    file_spelt c.args.tokens.now c.in-Ok.tree c.in-Ok.field-0-2 c.in-Ok.field-0-1 c.new-view.ensures.ended
    (subst (λ S. c.in-Ok.field-0-1 ≤ length S) c.new-view.ensures.value c.in-Ok.ensures.inside)
    (subst (λ S. read_in false File source_budget (drop 0 S) ≡ got c.in-Ok.tree c.in-Ok.field-0-2 (drop c.in-Ok.field-0-1 S)) c.new-view.ensures.value c.in-Ok.ensures.gives)

pub returns-in-Ok-clause-only : goal.returns-in-Ok-clause-only
returns-in-Ok-clause-only c = only_tree c.args.tokens.now c.in-Ok.tree (returns-in-Ok-clause-spelt c)

pub returns-in-Ok-clause-unbroken : goal.returns-in-Ok-clause-unbroken
returns-in-Ok-clause-unbroken c = file_unbroken c.args.tokens.now c.in-Ok.tree (returns-in-Ok-clause-spelt c)

pub refused_at-requires-clause-inside : goal.refused_at-requires-clause-inside
refused_at-requires-clause-inside c =
    refused_token c.args.tokens.now c.in-Err-Refused.position c.in-Err-Refused.is_over_budget c.new-view.ensures.ended
    (subst (λ S. read_in false File source_budget (drop 0 S) ≡ rejected (reason c.in-Err-Refused.is_over_budget) (drop c.in-Err-Refused.position S)) c.new-view.ensures.value
    (refusal_gives _ c.in-Err-Refused.field-0 c.in-Err-Refused.position c.in-Err-Refused.is_over_budget _ c.in-Err-Refused.ensures.gives c.in-Err-Refused.field-0-is))

pub returns-in-Err-Refused-clause-no_tree : goal.returns-in-Err-Refused-clause-no_tree
returns-in-Err-Refused-clause-no_tree c = no_tree c.args.tokens.now c.refused_at.result c.refused_at.ensures
