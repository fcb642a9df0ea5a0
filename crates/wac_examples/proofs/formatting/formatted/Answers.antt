use Rattle.std.proofs.Common.{ℕ, List, Result, Ok, Err, IfOk, String, Global, string_bytes, refl}
use Rattle.wac_ast_grammar.specs.Tree.{Document}
use Rattle.wac_ast_grammar.specs.TextTree.{IsTreeOf}
use Rattle.wac_printer_layout.specs.Reread.{ReadsBack}
use Rattle.wac_examples.specs.Documents.{IsDocument}
use Rattle.wac_examples.proofs.formatting.formatted.Goals as goal

-- a text that reads back is a document
is_document : {E : Type 0} (r : Result (String Global) E) (space source : List ℕ) → IfOk r (λ text. (tree : Document) × IsTreeOf source tree × ReadsBack space source tree (string_bytes text)) → IfOk r (λ text. IsDocument (string_bytes text))
is_document (Ok text) space source back = (back.2.reread.0, back.2.reread.1)
is_document (Err _) space source back = tt

pub returns : goal.returns
returns c = is_document c.format.result _ c.args.source.now (c.format.ensures.again (refl, (refl, tt)))
