use Rattle.wac_printer_pieces.proofs.Common.{replicate, sym, ◌∙◌}
use Rattle.std.proofs.lemmas.Str.{IsCharBoundary-from_ascii}
use Rattle.wac_printer_pieces.proofs.Indentation.{blanks_are_ascii, times_of_blanks}
use Rattle.wac_printer_pieces.proofs.pieces.blanks.Goals as goal

pub split_at-requires : goal.split_at-requires
split_at-requires c = IsCharBoundary-from_ascii (replicate 64 32) c.in_ok-len.len blanks_are_ascii c.if-len.false

pub returns : goal.returns
returns c =
    c.split_at.ensures.front
    ∙ times_of_blanks c.args.count c.in_ok-len.len 64 c.args.text.now (sym c.are_blanks.ensures ∙ c.if-not-are_blanks.false) c.in_ok-len.ensures.1 c.if-len.false
