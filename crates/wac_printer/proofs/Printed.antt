-- What a new printer has written after a document.
use Rattle.std.proofs.Common.{◌≡◌, ℕ, true, false, List, [], ap, ◌∙◌}
use Rattle.wac_ast_grammar.specs.Tree.{Document}
use Rattle.wac_printer_layout.specs.Bare.{doc_lines, bare_document}
use Rattle.wac_printer_layout.specs.StatementLayout.{document_layout}
use Rattle.wac_printer_layout.specs.Reread.{printed}
use Rattle.wac_printer_pieces.specs.Printed.{Printer, after}

-- the printer, where its sink holds these bytes
abbrev pub fresh_printer : List ℕ → ℕ → ℕ → List ℕ → List ℕ → Printer
fresh_printer bytes failures borrow source space = record { bytes = bytes; failures = failures; borrow = borrow; source = source; space = space; depth = 0; fresh = true; failed = false }

-- a document, printed by a printer whose sink was empty
pub printed_bytes : (old new : Printer) (tree : Document) (bytes : List ℕ) (failures borrow : ℕ) (source space : List ℕ) → old ≡ fresh_printer bytes failures borrow source space → bytes ≡ []
    → new ≡ after (document_layout old.depth (bare_document doc_lines old.source tree)) old → new.bytes ≡ printed space source tree
unfolding after
printed_bytes old new tree bytes failures borrow source space made empty h =
    ap (λ (p : Printer). p.bytes) h ∙ ap (λ (p : Printer). (after (document_layout p.depth (bare_document doc_lines p.source tree)) p).bytes) made
    ∙ ap (λ (b : List ℕ). (after (document_layout 0 (bare_document doc_lines source tree)) (fresh_printer b failures borrow source space)).bytes) empty
