-- What is printed of a document reads back.
use Rattle.wac_printer.proofs.Common.{◌≡◌, ℕ, Bool, true, List, ◌++◌, ap, ◌∙◌, refl, Result, Ok, Err, Document, bare_document, Piece, text, document_layout, PrintError, Printer, Prints}
use Rattle.wac_printer_layout.specs.Bare.{doc_lines}
use Rattle.wac_printer_layout.proofs.TreesBack.{reads_back}
use Rattle.wac_printer_pieces.specs.Printed.{after}
use Rattle.wac_printer.specs.ReadBack.{IsReadBack}

after_bytes : (ps : List Piece) (p : Printer) → (after ps p).bytes ≡ p.bytes ++ text p.space p.fresh ps
unfolding after
after_bytes ps p = refl

pub read_back : {A : Type 0} (old new : Printer) (r : Result A PrintError) (tree : Document) → Prints old r new (document_layout old.depth (bare_document doc_lines old.source tree)) → IsReadBack old r new tree
read_back old new (Err e) tree p = record { is = tt }
read_back old new (Ok a) tree p = record {
  is = λ depth fresh blanks utf8 is.
      let bare = bare_document doc_lines old.source tree in (
        ap (λ (q : Printer). q.bytes) p.is.1 ∙ after_bytes (document_layout old.depth bare) old ∙ ap (λ (f : Bool). old.bytes ++ text old.space f (document_layout old.depth bare)) fresh
            ∙ ap (λ (d : ℕ). old.bytes ++ text old.space true (document_layout d bare)) depth,
        reads_back old.space old.source tree blanks utf8 is,
      );
}
