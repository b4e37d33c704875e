use Rattle.std.proofs.Common.{◌≡◌, ◌++◌, take}
use Rattle.sw_layout.specs.Words.{words_text}
use Rattle.sw_print.specs.Declarations.{modifiers_words, after_modifiers}
use Rattle.sw_print.proofs.signatures.write_modifiers.Given as goal

abbrev pub invariant-loop-modifier : goal.invariant-loop-modifier
invariant-loop-modifier l = record {
  words : l.page ≡ l.initial.page ++ words_text (modifiers_words (take l.modifier-index l.modifiers) l.fn.before);
  gap : l.gap ≡ after_modifiers (take l.modifier-index l.modifiers) l.fn.before;
}
