-- Layouts of parts of trees.
use Rattle.std.specs.Prelude.{ℕ, List, [], ◌∷◌, ◌++◌, codes}
use Rattle.wac_ast_grammar.specs.Tree.{NamedType, Ty, WorldIncludeItem}
use Rattle.wac_ast_grammar.specs.Walk.{walk_ty}
use Rattle.wac_ast_types.specs.Types.{ty_of}
use Rattle.wac_ast_types.specs.declared.types.«Type».{«Type»}
use Rattle.wac_printer_layout.specs.Bare.{bare}
use Rattle.wac_printer_layout.specs.Parts.{space, newline, joined, rows}
use Rattle.wac_printer_layout.specs.Printed.{Piece, token, deeper}
use Rattle.wac_printer_layout.specs.TypeLayout.{params_layout, ty_layout}
use Rattle.wac_printer_layout.specs.WorldLayout.{world_include_item_layout}
use Rattle.wac_printer_pieces.specs.Printed.{Printer}

-- ---- items of lists

-- a layout as a printer of this source and depth has it
abbrev pub at_depth : {X : Type 0} → (List ℕ → ℕ → X → List Piece) → Printer → X → List Piece
at_depth layout printer = layout printer.source printer.depth

-- and one deeper
abbrev pub one_deeper : {X : Type 0} → (List ℕ → ℕ → X → List Piece) → Printer → X → List Piece
one_deeper layout printer = layout printer.source (deeper printer.depth)

-- an item after a comma and a blank
abbrev pub after_comma : {X : Type 0} → (X → List Piece) → X → List Piece
after_comma layout = λ x. (token (codes ",") ∷ space ∷ []) ++ layout x

-- an item after an empty line, ended by a newline
abbrev pub after_newline : {X : Type 0} → (X → List Piece) → X → List Piece
after_newline layout = λ x. newline ∷ (layout x ++ newline ∷ [])

-- an item ended by a comma and a newline
abbrev pub row : {X : Type 0} → (X → List Piece) → X → List Piece
row layout = λ x. layout x ++ token (codes ",") ∷ newline ∷ []

-- ---- types

-- a keyword and a type in angle brackets
abbrev pub angled_layout : List ℕ → Ty → List Piece
angled_layout keyword ty = token keyword ∷ token (codes "<") ∷ (ty_layout ty ++ token (codes ">") ∷ [])

-- `result<_, E>`
abbrev pub failing_layout : Ty → List Piece
failing_layout err =
    token (codes "result") ∷ token (codes "<") ∷ token (codes "_") ∷ token (codes ",") ∷ space
    ∷ (ty_layout err ++ token (codes ">") ∷ [])

-- of `result<T, E>` first `result<T`
abbrev pub first_side_layout : Ty → List Piece
first_side_layout ok = token (codes "result") ∷ token (codes "<") ∷ ty_layout ok

-- and then `, E>`
abbrev pub second_side_layout : Ty → List Piece
second_side_layout err = token (codes ",") ∷ space ∷ (ty_layout err ++ token (codes ">") ∷ [])

-- a type of a source
abbrev pub type_layout : List ℕ → «Type» → List Piece
type_layout source = λ x. ty_layout (walk_ty (bare source) (ty_of x))

-- `tuple<T, U>`
abbrev pub tuple_layout : List ℕ → List «Type» → List Piece
tuple_layout source types =
    token (codes "tuple") ∷ token (codes "<") ∷ (joined (type_layout source) types ++ token (codes ">") ∷ [])

-- `borrow<r>`
abbrev pub borrowed_layout : List ℕ → List Piece
borrowed_layout name = token (codes "borrow") ∷ token (codes "<") ∷ token name ∷ token (codes ">") ∷ []

-- ---- parts of declarations

-- parameters in parentheses, and a semicolon
abbrev pub signature_layout : List NamedType → List Piece
signature_layout params = params_layout params ++ token (codes ";") ∷ []

-- ` with` and the names that change, which are some
abbrev pub with_rows_layout : ℕ → List WorldIncludeItem → List Piece
with_rows_layout depth items = space ∷ token (codes "with") ∷ rows world_include_item_layout depth items
