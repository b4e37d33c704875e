use Rattle.sw_tree.specs.declared.decl.Modifier.{Modifier}
use Rattle.sw_tree.specs.declared.decl.ModifierKind.TheVariants as modifier
use Rattle.sw_print.proofs.Modifiers.{modifiers_step, after_step}
use Rattle.sw_print.proofs.signatures.write_modifiers.Goals as goal

-- the modifier that stands for one past the end
none : Modifier
none = record { kind = modifier.Public; span = record { line = 0; column = 0 } }

pub loop-modifier-preserved : goal.loop-modifier-preserved
unfolding none
loop-modifier-preserved c = record {
  words = modifiers_step _ _ _ _ _ none _ _ c.loop-modifier-test.true c.loop-modifier.invariant.gap c.loop-modifier.invariant.words c.in_ok-write_modifier.ensures;
  gap = after_step _ _ none _ c.loop-modifier-test.true;
}
