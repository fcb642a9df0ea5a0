-- What a message says of an error.
use Rattle.std.specs.Prelude.{ℕ, List, codes}
use Rattle.wac_printer_pieces.specs.declared.error.PrintError.{PrintError}
use Rattle.wac_printer_pieces.specs.declared.error.PrintError.TheVariants.{Writer, Failed}

abbrev pub message_of : PrintError → List ℕ
message_of Writer = codes "the writer failed"
message_of Failed = codes "the printer has failed"
