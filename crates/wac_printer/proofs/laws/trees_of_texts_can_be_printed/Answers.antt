use Rattle.wac_printer.proofs.Slicing.{document}
use Rattle.wac_printer.proofs.laws.trees_of_texts_can_be_printed.Goals as goal

pub returns : goal.returns
returns c = document
