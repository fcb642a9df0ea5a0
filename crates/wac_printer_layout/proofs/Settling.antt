-- Docs are settled from the second time on.
use Rattle.wac_printer_layout.proofs.Common.{◌≡◌, ℕ, Bool, true, false, cond, List, [], ◌∷◌, ◌++◌, map, length, sym, refl, ap, ◌∙◌, ◌==◌, trim, lines, Doc, Document, unchanged, Gives, agree, document_composed, document_agreeing, document_implied}
use Rattle.wac_printer_layout.specs.Joins.{IsDocLine}
use Rattle.wac_printer_layout.specs.Bare.{nowhere, doc_line, doc_lines, bare, bare_document, bare_leaves}
use Rattle.wac_printer_layout.specs.Texts.{Spelled, DocsHave, DocumentHas, leaves_have}
use Rattle.wac_printer_layout.specs.Settled.{settle_document}
use Rattle.wac_printer_layout.specs.Reread.{read_docs}
use Rattle.wac_printer_layout.proofs.DocLines.{lines_again}

-- docs
docs_again : (docs : List Doc) → doc_lines (read_docs docs) ≡ doc_lines docs
unfolding doc_lines
docs_again [] = refl
docs_again (d ∷ docs) = ap (λ ds. map doc_line (lines d.comment) ++ ds) (docs_again docs)

abbrev pub bare_docs : List (List ℕ) → List Doc
bare_docs ts = map (λ t. record { comment = t; span = nowhere }) ts

pub lines_bare : (ls : List (List ℕ)) → map doc_line ls ≡ bare_docs (map trim ls)
lines_bare [] = refl
lines_bare (l ∷ ls) = ap (λ ds. doc_line l ∷ ds) (lines_bare ls)

abbrev pub one_doc : Bool → List ℕ → List Doc
one_doc empty l = bare_docs (cond empty [] (l ∷ []))

pub line_docs : (l : List ℕ) → IsDocLine l → map doc_line (lines l) ≡ one_doc (length l == 0) l
line_docs l h = lines_bare (lines l) ∙ ap bare_docs (lines_again l h)

one_again : (l : List ℕ) → IsDocLine l → (rest : List Doc) → doc_lines (one_doc (length l == 0) l ++ rest) ≡ one_doc (length l == 0) l ++ doc_lines rest
unfolding doc_lines
one_again l h rest = go (length l == 0) refl
  where
    go : (b : Bool) → (length l == 0) ≡ b → doc_lines (one_doc (length l == 0) l ++ rest) ≡ one_doc (length l == 0) l ++ doc_lines rest
    go true e = (λ i. doc_lines (one_doc (e i) l ++ rest)) ∙ sym (ap (λ b. one_doc b l ++ doc_lines rest) e)
    go false e = (λ i. doc_lines (one_doc (e i) l ++ rest)) ∙ ap (λ ds. ds ++ doc_lines rest) (line_docs l h)

docs_twice : (docs : List Doc) → DocsHave Spelled docs → doc_lines (doc_lines docs) ≡ doc_lines docs
unfolding doc_lines
docs_twice [] h = refl
docs_twice (d ∷ docs) h =
    ap (λ ds. doc_lines (ds ++ doc_lines docs)) (line_docs d.comment h.0)
    ∙ one_again d.comment h.0 (doc_lines docs)
    ∙ ap (λ ds. one_doc (length d.comment == 0) d.comment ++ ds) (docs_twice docs h.1)
    ∙ ap (λ ds. ds ++ doc_lines docs) (sym (line_docs d.comment h.0))

-- a bare tree with settled docs is the tree, barely read, and settled
pub settled_document : (S : List ℕ) (x : Document) → settle_document (bare_document read_docs S x) ≡ bare_document doc_lines S x
settled_document S x =
    document_composed unchanged (bare_leaves S) (bare_leaves S) doc_lines read_docs doc_lines (record { ident = λ x. refl; string = λ x. refl; name = λ x. refl; path = λ x. refl; span = λ x. refl }) docs_again x

any_leaf : Gives (leaves_have Spelled) (agree unchanged unchanged unchanged)
any_leaf = record { ident = λ x h. refl; string = λ x h. refl; name = λ x h. refl; path = λ x h. refl; filled = λ b h. tt }

-- settling twice is settling once
pub twice_document : (x : Document) → DocumentHas Spelled x → settle_document (settle_document x) ≡ settle_document x
twice_document x h =
    let docs = document_implied (leaves_have Spelled) (agree unchanged unchanged unchanged) (DocsHave Spelled) (λ ds. doc_lines (doc_lines ds) ≡ doc_lines ds) any_leaf docs_twice x h in
    document_agreeing unchanged unchanged unchanged (λ s. refl) doc_lines doc_lines doc_lines x docs
