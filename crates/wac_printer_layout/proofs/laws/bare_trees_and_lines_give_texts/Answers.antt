use Rattle.wac_printer_layout.proofs.HolderLines.{same_texts, reread_parts, settled_parts}
use Rattle.wac_printer_layout.proofs.laws.bare_trees_and_lines_give_texts.Goals as goal

pub returns-clause-texts : goal.returns-clause-texts
returns-clause-texts c = same_texts

pub returns-clause-reread : goal.returns-clause-reread
returns-clause-reread c = reread_parts

pub returns-clause-settled : goal.returns-clause-settled
returns-clause-settled c = settled_parts
