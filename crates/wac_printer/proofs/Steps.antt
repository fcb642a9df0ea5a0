-- What the printer's methods cite.
use Rattle.wac_printer.proofs.Common.{seq, All-of-map}
use Rattle.wac_printer.proofs.PartsOf.{parts_of, body-is, rows-is}

pub ruleset steps = (seq)

pub ruleset bodies = (seq, body-is, rows-is)

pub ruleset lists = (seq, parts_of, All-of-map)
