-- What is printed is fixed from the second time on.
use Rattle.wac_printer_layout.proofs.Common.{◌≡◌, ℕ, true, List, sym, ap, ◌∙◌, Document}
use Rattle.wac_printer_layout.specs.Printed.{text}
use Rattle.wac_printer_layout.specs.Bare.{doc_lines, bare_document}
use Rattle.wac_printer_layout.specs.Settled.{settle_document}
use Rattle.wac_printer_layout.specs.StatementLayout.{document_layout}
use Rattle.wac_printer_layout.specs.Texts.{Spelled, DocumentHas}
use Rattle.wac_printer_layout.specs.Reread.{printed, IsReread}
use Rattle.wac_printer_layout.proofs.Settling.{settled_document, twice_document}

-- the docs of a tree that was read from a printed text, cut into lines
pub once_settled : (source once : List ℕ) (tree again : Document) → IsReread once again source tree → bare_document doc_lines once again ≡ settle_document (bare_document doc_lines source tree)
once_settled source once tree again e = sym (settled_document once again) ∙ ap settle_document e

pub fixed : (space source once twice : List ℕ) (tree again third : Document) → DocumentHas Spelled (bare_document doc_lines source tree) → IsReread once again source tree → IsReread twice third once again → printed space twice third ≡ printed space once again
fixed space source once twice tree again third is e f =
    let b = bare_document doc_lines source tree in
    let second = once_settled source once tree again e in
    let same : bare_document doc_lines twice third ≡ bare_document doc_lines once again =
    once_settled once twice again third f ∙ ap settle_document second ∙ twice_document b is ∙ sym second in
    ap (λ d. text space true (document_layout 0 d)) same
