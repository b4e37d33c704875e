use Rattle.sw_print.proofs.Spelling.Again.{decls_again}
use Rattle.sw_print.proofs.Spelling.Whole.{spells_tree, parsed_to, printed_spells, printed_parsed}
use Rattle.sw_print.proofs.printing.print.Goals as goal

pub returns-clause-spells : goal.returns-clause-spells
returns-clause-spells c =
    printed_spells c.written.result c.args.tree.now (spells_tree decls_again c.lexed_fit.ensures c.integers_fit.ensures c.questions_apart.ensures c.cut_again.ensures c.places_apart.ensures c.args.tree.now) c.written.ensures

pub returns-clause-parsed : goal.returns-clause-parsed
returns-clause-parsed c =
    printed_parsed c.written.result c.args.tree.now (parsed_to decls_again c.lexed_fit.ensures c.integers_fit.ensures c.questions_apart.ensures c.cut_again.ensures c.unbroken.ensures c.places_apart.ensures c.args.tree.now) c.written.ensures
