-- Docs and lists of trees of values, printed from the values.
use Rattle.wac_printer.proofs.Common.{◌≡◌, ℕ, List, Result, map, sym, ◌∙◌, doc_comment_of, DocComment, Piece, PrintError, Printer, Prints, printed_at}
use Rattle.wac_printer_layout.specs.Parts.{body, docs_layout, joined, rows}
use Rattle.wac_printer_layout.specs.Bare.{doc_lines}
use Rattle.wac_printer.proofs.PartsOf.{body-of, joined-of, rows-of}

-- the docs of a vector
pub of_docs : {A : Type 0} {xs ys : List DocComment} {old new : Printer} {r : Result A PrintError} → xs ≡ ys → Prints old r new (docs_layout old.depth (doc_lines (map doc_comment_of xs))) → Prints old r new (docs_layout old.depth (doc_lines (map doc_comment_of ys)))
of_docs {old = old} e h = printed_at (λ xs. docs_layout old.depth (doc_lines (map doc_comment_of xs))) e h

-- a list of trees of values, printed from the values
pub joined_bare : {X Y Z : Type 0} (f : Z → List Piece) (g : Y → Z) (h : X → Y) (xs : List X) → joined (λ x. f (g (h x))) xs ≡ joined f (map g (map h xs))
joined_bare f g h xs = sym (joined-of f g (map h xs) ∙ joined-of (λ y. f (g y)) h xs)

pub rows_bare : {X Y Z : Type 0} (f : ℕ → Z → List Piece) (g : Y → Z) (h : X → Y) (depth : ℕ) (xs : List X) → rows (λ d x. f d (g (h x))) depth xs ≡ rows f depth (map g (map h xs))
rows_bare f g h depth xs = sym (rows-of f g depth (map h xs) ∙ rows-of (λ d y. f d (g y)) h depth xs)

pub body_bare : {X Y Z : Type 0} (f : ℕ → Z → List Piece) (g : Y → Z) (h : X → Y) (depth : ℕ) (xs : List X) → body (λ d x. f d (g (h x))) depth xs ≡ body f depth (map g (map h xs))
body_bare f g h depth xs = sym (body-of f g depth (map h xs) ∙ body-of (λ d y. f d (g y)) h depth xs)
