use Rattle.wac_ast.specs.Statements.{document_of}
use Rattle.wac_ast.proofs.Whole.{parses}
use Rattle.wac_ast.proofs.document.parse_document.Goals as goal

pub returns : goal.returns
returns c =
    let new = c.in_ok-lexer.ensures in
    parses document_of c.parse_parts.result c.in_ok-lexer.lexer c.parse_parts.new.lexer c.args.source.now new.refused new.source new.left new.last c.parse_parts.ensures.gives c.parse_parts.ensures.ended
