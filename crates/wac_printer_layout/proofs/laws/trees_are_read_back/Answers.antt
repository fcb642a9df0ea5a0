use Rattle.wac_printer_layout.proofs.DocumentsBack.{reread}
use Rattle.wac_printer_layout.proofs.TreesBack.{spelled, printed_utf8}
use Rattle.wac_printer_layout.proofs.laws.trees_are_read_back.Goals as goal

pub returns-clause-spelled : goal.returns-clause-spelled
returns-clause-spelled c = spelled

pub returns-clause-reread : goal.returns-clause-reread
returns-clause-reread c = λ space source tree blanks utf8 is.
    let has = spelled source tree utf8 is in
    (printed_utf8 space source tree blanks has, reread space source tree blanks has)
