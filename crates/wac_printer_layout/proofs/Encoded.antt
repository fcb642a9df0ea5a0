-- What is printed is UTF-8, whatever text is written for a depth.
use Rattle.wac_printer_layout.proofs.Common.{ℕ, zero, suc, Bool, true, false, List, [], ◌∷◌, ◌++◌, IsUtf8, IsUtf8-nil, IsUtf8-append, Document, IsTreeOf}
use Rattle.wac_printer_layout.specs.Printed.{Piece, token, blank, line, doc, times, text_of, text, fresh_after}
use Rattle.wac_printer_layout.specs.Bare.{doc_lines, bare_document}
use Rattle.wac_printer_layout.specs.Joins.{Fits, JoinsBefore}
use Rattle.wac_printer_layout.specs.Reread.{printed}
use Rattle.wac_printer_layout.specs.StatementLayout.{document_layout}
use Rattle.wac_printer_layout.proofs.Accepted.{blanks_fine, marks_fine}
use Rattle.wac_printer_layout.proofs.StatementsJoin.{document_join}
use Rattle.wac_printer_layout.proofs.TreesBack.{spelled}

times_encoded : (depth : ℕ) (space : List ℕ) → IsUtf8 space → IsUtf8 (times depth space)
times_encoded zero space h = IsUtf8-nil
times_encoded (suc n) space h = IsUtf8-append space (times n space) h (times_encoded n space h)

line_encoded : (fresh : Bool) (depth : ℕ) (space : List ℕ) → IsUtf8 space → IsUtf8 (text_of space fresh (line depth))
line_encoded true depth space h = times_encoded depth space h
line_encoded false depth space h = IsUtf8-nil

piece_encoded : (space rest : List ℕ) (fresh : Bool) (p : Piece) → IsUtf8 space → Fits rest p → IsUtf8 (text_of space fresh p)
piece_encoded space rest fresh (token t) utf8 h = h.accepted.0
piece_encoded space rest fresh (blank t) utf8 h = (blanks_fine t h).0
piece_encoded space rest fresh (line depth) utf8 h = line_encoded fresh depth space utf8
piece_encoded space rest fresh (doc t) utf8 h = IsUtf8-append (47 ∷ 47 ∷ 47 ∷ 32 ∷ []) t marks_fine.0 h.0.0.0

text_encoded : (space rest : List ℕ) (fresh : Bool) (ps : List Piece) → IsUtf8 space → JoinsBefore rest space fresh ps → IsUtf8 (text space fresh ps)
text_encoded space rest fresh [] utf8 h = IsUtf8-nil
text_encoded space rest fresh (p ∷ ps) utf8 h =
    let t = text_of space fresh p in
    let later = fresh_after fresh t in
    IsUtf8-append t (text space later ps) (piece_encoded space (text space later ps ++ rest) fresh p utf8 h.0) (text_encoded space rest later ps utf8 h.1)

pub printed_encoded : (space source : List ℕ) (tree : Document) → IsUtf8 space → IsUtf8 source → IsTreeOf source tree → IsUtf8 (printed space source tree)
printed_encoded space source tree utf8 source_utf8 is =
    let b = bare_document doc_lines source tree in
    text_encoded space [] true (document_layout 0 b) utf8 (document_join space 0 b [] true (spelled source tree source_utf8 is))
