-- What a tree says beside its layout: its bare tree without docs, and the lines of its docs, which are settled where none is empty.
use Rattle.std.specs.Prelude.{◌≡◌, ℕ, List, [], ◌∷◌, map, length, ◌==◌, Bool, not, codes, refl}
use Rattle.std.specs.List.{flat_map, filter}
use Rattle.std.specs.Str.{trim}
use Rattle.std.specs.Str.Lines.{lines}
use Rattle.wac_lexer.specs.Span.{span}
use Rattle.wac_lexer.specs.Item.{Doc}
use Rattle.wac_ast_grammar.specs.Tree.{Document}
use Rattle.wac_ast_grammar.specs.Walk.{walk_document}
use Rattle.wac_ast_grammar.specs.Leaves.{Leaf, leaves, docs_leaf}
use Rattle.wac_printer_layout.specs.Bare.{no_docs, bare_document}

-- the tree without spans and docs, with each name as the source spells it
abbrev pub bare_tree : List ℕ → Document → Document
bare_tree source x = bare_document no_docs source x

abbrev pub docs_among : Leaf → List (List Doc)
docs_among (Leaf.docs ds) = ds ∷ []
docs_among other = []

-- the docs of each holder of docs, in order
abbrev pub docs_in : Document → List (List Doc)
docs_in x = flat_map docs_among (walk_document leaves docs_leaf x)

-- the lines of docs, cut at LF and trimmed: an empty doc has none
abbrev pub lines_of : List Doc → List (List ℕ)
lines_of docs = flat_map (λ doc. map trim (lines doc.comment)) docs

-- for each holder of docs, in order, the lines of its docs
abbrev pub tree_lines : Document → List (List (List ℕ))
tree_lines x = map lines_of (docs_in x)

-- the texts of docs, as they are
abbrev pub texts_of : List Doc → List (List ℕ)
texts_of docs = map (λ doc. doc.comment) docs

abbrev pub tree_docs : Document → List (List (List ℕ))
tree_docs x = map texts_of (docs_in x)

abbrev pub is_not_empty : List ℕ → Bool
is_not_empty line = not (length line == 0)

-- the lines without the empty ones
abbrev pub settled : List (List (List ℕ)) → List (List (List ℕ))
settled holders = map (λ ls. filter is_not_empty ls) holders

-- a doc of three lines, the second of which is empty, and an empty doc
lines_1 : lines_of (record { comment = codes "a \n\n b"; span = span 0 9 } ∷ record { comment = []; span = span 9 3 } ∷ []) ≡ trim (codes "a ") ∷ trim [] ∷ trim (codes " b") ∷ []
lines_1 = refl

settled_1 : settled ((codes "a" ∷ [] ∷ codes "b" ∷ []) ∷ [] ∷ []) ≡ (codes "a" ∷ codes "b" ∷ []) ∷ [] ∷ []
settled_1 = refl
