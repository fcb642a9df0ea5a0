use Rattle.wac_printer_layout.proofs.Common.{[]}
use Rattle.wac_printer_layout.specs.Printed.{text}
use Rattle.wac_printer_layout.proofs.Accepted.{text_accepted}
use Rattle.wac_printer_layout.proofs.Bytes.{utf8_bytes}
use Rattle.wac_printer_layout.proofs.ReadBack.{read_back}
use Rattle.wac_printer_layout.proofs.Said.{placed_said}
use Rattle.wac_printer_layout.proofs.laws.pieces_are_read_back.Goals as goal

pub returns-clause-accepted : goal.returns-clause-accepted
returns-clause-accepted c = λ rest space fresh ps blanks joins. text_accepted space rest fresh ps blanks joins

pub returns-clause-items : goal.returns-clause-items
returns-clause-items c = λ space fresh ps blanks joins. read_back space fresh ps blanks (utf8_bytes (text space fresh ps) (text_accepted space [] fresh ps blanks joins).0) joins

pub returns-clause-said : goal.returns-clause-said
returns-clause-said c = placed_said
