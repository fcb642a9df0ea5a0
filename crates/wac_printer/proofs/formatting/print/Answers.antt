use Rattle.std.proofs.Common.{ap, ◌∙◌}
use Rattle.wac_lexer.specs.Device.{Kept}
use Rattle.wac_ast.specs.Statements.{document_of}
use Rattle.wac_printer_pieces.specs.Printed.{space_of}
use Rattle.wac_printer.proofs.Printed.{printed_bytes}
use Rattle.wac_printer.proofs.formatting.print.Goals as goal

pub returns-in-Ok : goal.returns-in-Ok
returns-in-Ok c =
    let is = c.in-Ok.ensures.is in
    let wrote = printed_bytes c.new-printer.result c.page.new.self (document_of c.args.page) _ _ _ c.args.source.now (space_of c.args.space) c.new-printer.ensures (ap (λ (k : Kept). k.bytes) c.new.ensures) is.1 in
    c.into_vec.ensures ∙ c.into_writer.ensures.0 ∙ wrote
