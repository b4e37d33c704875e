use Rattle.std.proofs.Common.{drop, refl, sym, ap, ◌∙◌}
use Rattle.sw_lex.specs.declared.token.TokenKind.TheVariants as k
use Rattle.sw_syntax.specs.Broken.{broken_at, broken_if}
use Rattle.sw_syntax.proofs.SightLemmas as sights
use Rattle.std.proofs.Common.{nat_eq, ◌+◌}
use Rattle.sw_syntax.specs.Tokens.{class_of_name}
use Rattle.std.proofs.lemmas.Option.{get_or_from_slice_get}
use Rattle.sw_lex.specs.Tokens.{token_of}
use Rattle.sw_syntax.proofs.view.class_at.Goals as goal

pub returns-in-Name : goal.returns-in-Name
returns-in-Name c = c.class_of_name.ensures ∙ ap (λ z. class_of_name z (drop (c.args.at + 1) (broken_at c.args.broken c.args.tokens.now))) c.as_bytes.ensures ∙ sights.class_name (nat_eq c.args.at c.args.broken) (token_of c.at-token.result) (drop (c.args.at + 1) (broken_at c.args.broken c.args.tokens.now)) ∙ sym (sights.class_is c.args.broken c.args.at c.args.tokens.now (token_of c.at-token.result) (token_of c.at-token.result) k.Name c.requires (get_or_from_slice_get c.args.tokens.now c.args.at (token_of c.at-token.result) (token_of c.at-token.result) c.at-token.ensures.token) c.in-Name.is)

pub returns-then-is_next : goal.returns-then-is_next
returns-then-is_next c = sights.picked_then _ _ _ (sym c.is_next.ensures ∙ c.if-is_next.true) ∙ sym (sights.class_is c.args.broken c.args.at c.args.tokens.now (token_of c.at-token.result) (token_of c.at-token.result) k.Else c.requires (get_or_from_slice_get c.args.tokens.now c.args.at (token_of c.at-token.result) (token_of c.at-token.result) c.at-token.ensures.token) c.in-Else.is)

pub returns-else-is_next : goal.returns-else-is_next
returns-else-is_next c = sights.picked_else _ _ _ (sym c.is_next.ensures ∙ c.if-is_next.false) ∙ sym (sights.class_is c.args.broken c.args.at c.args.tokens.now (token_of c.at-token.result) (token_of c.at-token.result) k.Else c.requires (get_or_from_slice_get c.args.tokens.now c.args.at (token_of c.at-token.result) (token_of c.at-token.result) c.at-token.ensures.token) c.in-Else.is)

pub returns-in-Bang : goal.returns-in-Bang
returns-in-Bang c = c.class_of_bang.ensures ∙ sym (sights.class_is c.args.broken c.args.at c.args.tokens.now (token_of c.at-token.result) (token_of c.at-token.result) k.Bang c.requires (get_or_from_slice_get c.args.tokens.now c.args.at (token_of c.at-token.result) (token_of c.at-token.result) c.at-token.ensures.token) c.in-Bang.is)

pub returns-in-Question : goal.returns-in-Question
returns-in-Question c = c.class_of_question.ensures ∙ sym (sights.class_is c.args.broken c.args.at c.args.tokens.now (token_of c.at-token.result) (token_of c.at-token.result) k.Question c.requires (get_or_from_slice_get c.args.tokens.now c.args.at (token_of c.at-token.result) (token_of c.at-token.result) c.at-token.ensures.token) c.in-Question.is)

pub returns-then-touches_next : goal.returns-then-touches_next
returns-then-touches_next c = sights.picked_then _ _ _ (sym c.touches_next.ensures ∙ c.if-touches_next.true) ∙ sym (sights.class_is c.args.broken c.args.at c.args.tokens.now (token_of c.at-token.result) (token_of c.at-token.result) k.Minus c.requires (get_or_from_slice_get c.args.tokens.now c.args.at (token_of c.at-token.result) (token_of c.at-token.result) c.at-token.ensures.token) c.in-Minus.is)

pub returns-else-touches_next : goal.returns-else-touches_next
returns-else-touches_next c = sights.picked_else _ _ _ (sym c.touches_next.ensures ∙ c.if-touches_next.false) ∙ sym (sights.class_is c.args.broken c.args.at c.args.tokens.now (token_of c.at-token.result) (token_of c.at-token.result) k.Minus c.requires (get_or_from_slice_get c.args.tokens.now c.args.at (token_of c.at-token.result) (token_of c.at-token.result) c.at-token.ensures.token) c.in-Minus.is)

pub returns-in_default : goal.returns-in_default
returns-in_default c = sights.class_other (token_of c.at-token.result).kind (broken_if (nat_eq c.args.at c.args.broken) (token_of c.at-token.result)) (drop (c.args.at + 1) (broken_at c.args.broken c.args.tokens.now)) c.in_default.not-Name c.in_default.not-Else c.in_default.not-Bang c.in_default.not-Question c.in_default.not-Minus ∙ sym (sights.class_is c.args.broken c.args.at c.args.tokens.now (token_of c.at-token.result) (token_of c.at-token.result) (token_of c.at-token.result).kind c.requires (get_or_from_slice_get c.args.tokens.now c.args.at (token_of c.at-token.result) (token_of c.at-token.result) c.at-token.ensures.token) refl)
