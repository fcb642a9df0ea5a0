-- What the layouts of nodes are made of.
use Rattle.std.specs.Prelude.{◌≡◌, ℕ, true, false, List, [], ◌∷◌, ◌++◌, codes, refl}
use Rattle.std.specs.List.{flat_map}
use Rattle.wac_lexer.specs.Item.{Doc}
use Rattle.wac_printer_layout.specs.Printed.{Piece, token, blank, line, doc, deeper, text}

abbrev pub space : Piece
space = blank (codes " ")

abbrev pub newline : Piece
newline = blank (codes "\n")

-- the pieces of each, in order, with these between two
abbrev pub between : {X : Type 0} → List Piece → (X → List Piece) → List X → List Piece
between separator f [] = []
between separator f (x ∷ xs) = f x ++ flat_map (λ y. separator ++ f y) xs

-- joined by a comma and a blank
unfoldable pub joined : {X : Type 0} → (X → List Piece) → List X → List Piece
joined f xs = between (token (codes ",") ∷ space ∷ []) f xs

-- each ended by a newline, with an empty line between two
unfoldable pub spaced : {X : Type 0} → (X → List Piece) → List X → List Piece
spaced f xs = between (newline ∷ []) (λ x. f x ++ newline ∷ []) xs

abbrev pub open_body : List Piece
open_body = space ∷ token (codes "{") ∷ newline ∷ []

abbrev pub close_body : ℕ → List Piece
close_body depth = line depth ∷ token (codes "}") ∷ []

-- in braces, one deeper, with an empty line between two
unfoldable pub body : {X : Type 0} → (ℕ → X → List Piece) → ℕ → List X → List Piece
body f depth xs = open_body ++ (spaced (f (deeper depth)) xs ++ close_body depth)

-- in braces, one deeper, each ended by a comma and a newline
unfoldable pub rows : {X : Type 0} → (ℕ → X → List Piece) → ℕ → List X → List Piece
rows f depth xs = open_body ++ (flat_map (λ x. f (deeper depth) x ++ token (codes ",") ∷ newline ∷ []) xs ++ close_body depth)

-- docs, each of which is a line
abbrev pub doc_layout : ℕ → Doc → List Piece
doc_layout depth d = line depth ∷ doc d.comment ∷ newline ∷ []

unfoldable pub docs_layout : ℕ → List Doc → List Piece
docs_layout depth docs = flat_map (doc_layout depth) docs

abbrev word : List ℕ → List Piece
word w = token w ∷ []

joined_1 : text [] true (joined word (codes "a" ∷ codes "b" ∷ codes "c" ∷ [])) ≡ codes "a, b, c"
unfolding joined
joined_1 = refl

body_1 : text (codes "  ") false (body (λ depth w. line depth ∷ word w) 1 (codes "a;" ∷ codes "b;" ∷ [])) ≡ codes " {\n    a;\n\n    b;\n  }"
unfolding body spaced
body_1 = refl

rows_1 : text (codes "\t") false (rows (λ depth w. line depth ∷ word w) 0 (codes "a" ∷ codes "b" ∷ [])) ≡ codes " {\n\ta,\n\tb,\n}"
unfolding rows
rows_1 = refl
