use Rattle.wac_printer_layout.proofs.PlainTrees.{plain_of_bare, plain_of_reread}
use Rattle.wac_printer_layout.proofs.laws.bare_trees_give_plain_trees.Goals as goal

pub returns-clause-bare : goal.returns-clause-bare
returns-clause-bare c = plain_of_bare

pub returns-clause-reread : goal.returns-clause-reread
returns-clause-reread c = plain_of_reread
