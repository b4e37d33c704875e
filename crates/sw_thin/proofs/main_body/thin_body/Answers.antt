use Rattle.std.proofs.Common.{ap, ◌∙◌, ◌++◌}
use Rattle.std.specs.List.{flat_map}
use Rattle.sw_thin.specs.ShortestText.{first_line, last_line}
use Rattle.sw_thin.specs.TreeReading.{line_of}
use Rattle.sw_thin.proofs.ThinTreeLemmas.{none_of, some_of}
use Rattle.sw_thin.proofs.ThinLemmas.{is_thin_tree, no_main, too_many, none_thin, too_long}
use Rattle.sw_thin.proofs.main_body.thin_body.Goals as goal

pub returns-in_default : goal.returns-in_default
returns-in_default c = no_main _ (none_of _ _ c.main_statements.ensures c.in_default.is)

pub returns-then-trees-gt-MOST_STMTS : goal.returns-then-trees-gt-MOST_STMTS
returns-then-trees-gt-MOST_STMTS c = too_many _ _ (some_of _ _ _ _ c.main_statements.ensures c.in-Some.is) c.if-trees-gt-MOST_STMTS.true

pub returns-in_default-2 : goal.returns-in_default-2
returns-in_default-2 c = none_thin _ _ (some_of _ _ _ _ c.main_statements.ensures c.in-Some.is) (none_of _ _ c.in_ok-body.ensures c.in_default-2.is)

pub returns-then-as_bytes-gt-LONGEST_SOURCE : goal.returns-then-as_bytes-gt-LONGEST_SOURCE
returns-then-as_bytes-gt-LONGEST_SOURCE c = too_long _ _ c.in-Some-2.body _ (some_of _ _ _ _ c.main_statements.ensures c.in-Some.is) (some_of _ _ _ _ c.in_ok-body.ensures c.in-Some-2.is) (c.as_bytes.ensures ∙ (c.in_ok-shortest.ensures ∙ ap (λ b. first_line ++ (flat_map line_of b ++ last_line)) c.as_slice.ensures)) c.if-as_bytes-gt-LONGEST_SOURCE.true

pub returns : goal.returns
returns c = is_thin_tree _ _ c.in-Some-2.body _ (some_of _ _ _ _ c.main_statements.ensures c.in-Some.is) (some_of _ _ _ _ c.in_ok-body.ensures c.in-Some-2.is) c.if-trees-gt-MOST_STMTS.false (c.as_bytes.ensures ∙ (c.in_ok-shortest.ensures ∙ ap (λ b. first_line ++ (flat_map line_of b ++ last_line)) c.as_slice.ensures)) c.if-as_bytes-gt-LONGEST_SOURCE.false
