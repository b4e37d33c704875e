use Rattle.std.proofs.Common.{[], ◌∷◌, ◌++◌, ap, sym, subst, ◌∙◌}
use Rattle.sw_lex.specs.Kept.{tokens_in, AreKept}
use Rattle.sw_lex.proofs.KeptLemmas.{kept_grown, kept_pushed, pushed}
use Rattle.sw_lex.proofs.kept.KeptTokens.push.Goals as goal

pub invariant_of-self : goal.invariant_of-self
invariant_of-self c = kept_grown _ _ _ c.number.ensures.grown c.self.invariant

pub invariant_of-self-in_err-push : goal.invariant_of-self-in_err-push
invariant_of-self-in_err-push c = subst (AreKept c.number.new.self) (sym c.in_err-push.ensures.items) (kept_grown _ _ _ c.number.ensures.grown c.self.invariant)

pub invariant_of-self-2 : goal.invariant_of-self-2
invariant_of-self-2 c = subst (AreKept c.number.new.self) (sym c.in_ok-push.ensures.items) (kept_pushed _ _ _ _ c.args.token.text c.number.ensures.grown c.self.invariant c.in_ok-text.ensures.number)

pub returns : goal.returns
returns c =
    ap (tokens_in c.number.new.self) c.in_ok-push.ensures.items ∙ (pushed _ _ _ _ c.args.token.text c.number.ensures.grown c.self.invariant c.in_ok-text.ensures.number
    ∙ ap (λ ts. ts ++ c.args.token ∷ []) c.self.view_is)
