use Rattle.wac_printer_layout.proofs.Joining.{text-append, fresh_of_text, join, parted}
use Rattle.wac_printer_layout.proofs.laws.pieces_are_put_together.Goals as goal

pub returns-clause-text : goal.returns-clause-text
returns-clause-text c = text-append

pub returns-clause-fresh : goal.returns-clause-fresh
returns-clause-fresh c = fresh_of_text

pub returns-clause-joins : goal.returns-clause-joins
returns-clause-joins c = λ rest space fresh ps qs. (parted rest space fresh ps qs, λ both. join rest space fresh ps qs both.0 both.1)

pub returns-clause-token : goal.returns-clause-token
returns-clause-token c = λ t rest kind accepted follows. record { kind = kind; follows = follows; accepted = accepted }
