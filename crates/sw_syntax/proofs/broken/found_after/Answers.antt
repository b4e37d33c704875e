use Rattle.std.proofs.Common.{◌≤◌, length, sym, subst, arith, Some, None}
use Rattle.sw_syntax.specs.Reaching.{IsAwaitTry}
use Rattle.sw_syntax.proofs.SightLemmas.{sighted_length}
use Rattle.sw_syntax.proofs.RefusalLemmas as lemmas
use Rattle.sw_syntax.proofs.broken.found_after.Goals as goal

pub returns-then-end-len : goal.returns-then-end-len
returns-then-end-len g c = lemmas.text_end g.R.Reader.nonterminal c.args.tokens.now c.args.at c.args.end c.requires.text.0 c.requires.text.1 (omega (arith, c.len.ensures.value, c.if-end-len.true)) c.requires.inside

pub is_await_try-requires : goal.is_await_try-requires
is_await_try-requires g c = lemmas.text_past g.R.Reader.nonterminal c.args.tokens.now c.args.at c.args.end c.requires.text.0 c.requires.text.1

pub returns-then-is_await_try : goal.returns-then-is_await_try
returns-then-is_await_try g c =
    lemmas.p4_text g.R.Reader.nonterminal c.args.tokens.now c.args.at c.args.end c.requires.text.0 c.requires.text.1 (omega (arith, c.len.ensures.value, c.if-end-len.false)) (c.is_await_try.ensures.after c.if-is_await_try.true)
    (lemmas.of_source _ _ c.args.at c.args.end IsAwaitTry c.new-view.ensures.value (c.is_await_try.ensures.told c.if-is_await_try.true))

pub chained-requires : goal.chained-requires
chained-requires g c =
    let l = sighted_length c.args.tokens.now in
    let i = c.requires.inside in
    subst (λ S. c.args.at ≤ length S) (sym c.new-view.ensures.value) (omega (arith, l, i))

pub returns-in-Some : goal.returns-in-Some
returns-in-Some g c =
    lemmas.chained_text g.R.Reader.nonterminal c.args.tokens.now c.args.at c.args.end c.requires.text.0 c.requires.text.1 (omega (arith, c.len.ensures.value, c.if-end-len.false)) (lemmas.of_source _ _ c.args.at c.args.end (λ run next. IsAwaitTry run next → ⊥) c.new-view.ensures.value (c.is_await_try.ensures.otherwise c.if-is_await_try.false)) c.in-Some.rule
    (lemmas.tells g.R.Reader.nonterminal _ _ c.args.at c.args.end _ (Some c.in-Some.rule) c.in_ok-rule.ensures c.new-view.ensures.value c.in-Some.is)

pub returns-in-None : goal.returns-in-None
returns-in-None g c =
    lemmas.none_text g.R.Reader.nonterminal c.args.tokens.now c.args.at c.args.end c.requires.text.0 c.requires.text.1 (omega (arith, c.len.ensures.value, c.if-end-len.false)) (lemmas.of_source _ _ c.args.at c.args.end (λ run next. IsAwaitTry run next → ⊥) c.new-view.ensures.value (c.is_await_try.ensures.otherwise c.if-is_await_try.false))
    (lemmas.tells g.R.Reader.nonterminal _ _ c.args.at c.args.end _ None c.in_ok-rule.ensures c.new-view.ensures.value c.in-None.is)
