use Rattle.std.proofs.Common.{◌++◌, ◌∷◌, [], sym, ap, ◌∙◌, append_assoc}
use Rattle.std.specs.List.{flat_map}
use Rattle.std.proofs.lemmas.List.Folds.{flat_map-map}
use Rattle.sw_declared.specs.Declarations.{argument_labels, label_text}
use Rattle.sw_declared.specs.Spelling.{spelled_label, spelled_text}
use Rattle.sw_declared.proofs.Pushed.{put_end}
use Rattle.sw_declared.proofs.spelling.spelled_call.Goals as goal

pub returns : goal.returns
returns c =
    let name = spelled_text c.args.name.now in
    c.in_ok-push-2.ensures.items
    ∙ ap (λ l. l ++ 0 ∷ []) (put_end (λ a. 1 ∷ spelled_label (label_text a.label)) name c.loop-argument.key.items c.args.arguments.now c.loop-argument.argument-index c.loop-argument.invariant c.loop-argument-test.false)
    ∙ ap (λ l. (name ++ l) ++ 0 ∷ []) (sym (flat_map-map (λ label. 1 ∷ spelled_label label) (λ a. label_text a.label) c.args.arguments.now))
    ∙ append_assoc name (flat_map (λ label. 1 ∷ spelled_label label) (argument_labels c.args.arguments.now)) (0 ∷ [])
