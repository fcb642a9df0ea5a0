use Rattle.std.proofs.Common.{sym}
use Rattle.wac_ast.specs.Statements.{document_of}
use Rattle.wac_resolution_rules.specs.Mentions.{mentions}
use Rattle.wac_first_error.proofs.Mentioned.{any_mentioned}
use Rattle.wac_first_error.proofs.rules.mentions_packages.Goals as goal

pub returns : goal.returns
returns c =
    rw (sym c.page.view_is) (any_mentioned c.in_ok-mentioned.mentioned.entries (mentions (document_of c.page.inside.document.now)) c.is_empty.result c.in_ok-mentioned.ensures.listed c.is_empty.ensures)
