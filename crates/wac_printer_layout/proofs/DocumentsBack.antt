-- What is printed of a document is read back.
use Rattle.wac_printer_layout.proofs.Common.{◌≡◌, ℕ, true, List, [], ◌∷◌, sym, subst, AllByRecursion, Item, items, InOrder, slice, end_of, ordered, Document}
use Rattle.wac_printer_layout.specs.Printed.{Piece, text}
use Rattle.wac_printer_layout.specs.Joins.{AreBlanks, Joins}
use Rattle.wac_printer_layout.specs.Bare.{doc_lines, bare_document}
use Rattle.wac_printer_layout.specs.StatementLayout.{document_layout}
use Rattle.wac_printer_layout.specs.Texts.{Spelled, DocumentHas}
use Rattle.wac_printer_layout.specs.Reread.{printed, RereadAs}
use Rattle.wac_printer_layout.proofs.Accepted.{text_accepted}
use Rattle.wac_printer_layout.proofs.Bytes.{utf8_bytes}
use Rattle.wac_printer_layout.proofs.Means.{Means, placed_means}
use Rattle.wac_printer_layout.proofs.ReadBack.{read_back}
use Rattle.wac_printer_layout.proofs.StatementsBack.{document_back}
use Rattle.wac_printer_layout.proofs.StatementsJoin.{document_join}

pub texts_sliced : (source : List ℕ) (xs : List Item) (place : ℕ) → InOrder source place xs → AllByRecursion (λ y. y.text ≡ slice source y.span) xs
texts_sliced source [] place h = tt
texts_sliced source (x ∷ xs) place h = (h.3, texts_sliced source xs (end_of x.span) h.4)

-- the items of what pieces that join write say what the pieces mean
pub items_mean : (space : List ℕ) (ps : List Piece) → AreBlanks space → Joins space true ps → Means (text space true ps) [] (items (text space true ps)) ps
items_mean space ps blanks joins =
    let t = text space true ps in
    let utf8 = (text_accepted space [] true ps blanks joins).0 in
    let same = read_back space true ps blanks (utf8_bytes t utf8) joins in
    let sliced = subst (λ xs. AllByRecursion (λ y. y.text ≡ slice t y.span) xs) same (texts_sliced t (items t) 0 (ordered t utf8)) in
    subst (λ xs. Means t [] xs ps) (sym same) (placed_means t space 0 true ps sliced)

pub reread : (space source : List ℕ) (x : Document) → AreBlanks space → DocumentHas Spelled (bare_document doc_lines source x) → RereadAs (printed space source x) source x
reread space source x blanks is =
    let ps = document_layout 0 (bare_document doc_lines source x) in
    let joins = document_join space 0 (bare_document doc_lines source x) [] true is in
    let t = text space true ps in
    let r = document_back source t 0 x (items t) is (items_mean space ps blanks joins) in
    (r.0, record { clean = (text_accepted space [] true ps blanks joins).1; derives = r.1 }, r.2)
