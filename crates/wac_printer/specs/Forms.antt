-- The forms in which calls print trees: a walk makes the tree bare, and its layout is printed.
use Rattle.std.specs.Prelude.{◌≡◌, ℕ, true, false, List, Option, Result, map}
use Rattle.std.specs.Option.{option_map}
use denote.Ref.{Bor}
use Rattle.wac_lexer.specs.Item.{Doc}
use Rattle.wac_ast_grammar.specs.Tree.{Ident, PackageName, PackagePath}
use Rattle.wac_ast_grammar.specs.Walk.{Walk}
use Rattle.wac_printer_layout.specs.Bare.{bare, doc_lines}
use Rattle.wac_printer_layout.specs.Parts.{body}
use Rattle.wac_printer_layout.specs.Printed.{Piece}
use Rattle.wac_printer_pieces.specs.Printed.{Printer, Prints, space_of}
use Rattle.wac_printer_pieces.specs.declared.error.PrintError.{PrintError}

-- ---- walks

-- a walk over trees
abbrev pub WalkOver : Type 0 → Type 1
WalkOver A = (W : Walk {0}) → A → W.Of A

-- a walk over trees that may hold docs, given what becomes of docs
abbrev pub WalkWithDocs : Type 0 → Type 1
WalkWithDocs A = (W : Walk {0}) → (List Doc → W.Of (List Doc)) → A → W.Of A

abbrev pub walk_ident : WalkOver Ident
walk_ident W = W.ident

abbrev pub walk_name : WalkOver PackageName
walk_name W = W.name

abbrev pub walk_path : WalkOver PackagePath
walk_path W = W.path

-- ---- what a call prints

abbrev pub PrintResult : Type 0
PrintResult = Result (Unit {0}) PrintError

-- what is said of a call that prints an A: of the printer before it, its result, the printer after it, and the A
abbrev pub Printing : Type 0 → Type 1
Printing A = Printer → PrintResult → Printer → A → Type 0

-- a layout, and one at a depth
abbrev pub Layout : Type 0 → Type 0
Layout A = A → List Piece

abbrev pub LayoutAt : Type 0 → Type 0
LayoutAt A = ℕ → A → List Piece

-- a tree whose layout depends on no depth
abbrev pub PrintsBare : {A : Type 0} → Printer → PrintResult → Printer → Layout A → WalkOver A → A → Type 0
PrintsBare old result new layout walk tree = Prints old result new (layout (walk (bare old.source) tree))

-- a tree at the printer's depth
abbrev pub PrintsAt : {A : Type 0} → Printer → PrintResult → Printer → LayoutAt A → WalkOver A → A → Type 0
PrintsAt old result new layout walk tree = Prints old result new (layout old.depth (walk (bare old.source) tree))

-- a tree that may hold docs, at the printer's depth, with each line of its docs apart
abbrev pub PrintsTree : {A : Type 0} → Printer → PrintResult → Printer → LayoutAt A → WalkWithDocs A → A → Type 0
PrintsTree old result new layout walk tree =
    Prints old result new (layout old.depth (walk (bare old.source) doc_lines tree))

-- a tree that may be left out
abbrev pub PrintsOption : {A : Type 0}
    → Printer → PrintResult → Printer → Layout (Option A) → WalkOver A → Option A → Type 0
PrintsOption old result new layout walk tree =
    Prints old result new (layout (option_map (walk (bare old.source)) tree))

-- a list of trees
abbrev pub PrintsEach : {A : Type 0} → Printer → PrintResult → Printer → Layout (List A) → WalkOver A → List A → Type 0
PrintsEach old result new layout walk trees = Prints old result new (layout (map (walk (bare old.source)) trees))

-- in braces, trees that may hold docs
abbrev pub PrintsBody : {A : Type 0} → Printer → PrintResult → Printer → LayoutAt A → WalkWithDocs A → List A → Type 0
PrintsBody old result new layout walk trees =
    Prints old result new (body layout old.depth (map (walk (bare old.source) doc_lines) trees))

-- ---- layouts of values, by a source and a depth, from those of their trees

abbrev pub bare_layout : {X A : Type 0} → LayoutAt A → WalkOver A → (X → A) → List ℕ → LayoutAt X
bare_layout layout walk tree_of = λ source depth x. layout depth (walk (bare source) (tree_of x))

-- of trees that may hold docs
abbrev pub tree_layout : {X A : Type 0} → LayoutAt A → WalkWithDocs A → (X → A) → List ℕ → LayoutAt X
tree_layout layout walk tree_of = λ source depth x. layout depth (walk (bare source) doc_lines (tree_of x))

-- ---- the sink of a printer

-- a printer that has printed nothing: into a sink that was given these bytes, has failed so often and is this borrow
abbrev pub IsNew : Printer → List ℕ → ℕ → ℕ → List ℕ → Option (Bor (List ℕ)) → Type 0
IsNew printer bytes failures borrow source space =
    printer ≡ record {
      bytes = bytes;
      failures = failures;
      borrow = borrow;
      source = source;
      space = space_of space;
      depth = 0;
      fresh = true;
      failed = false;
    }

-- a sink that was given these bytes, has failed so often and is this borrow, is the printer's
abbrev pub IsSinkOf : Printer → List ℕ → ℕ → ℕ → Type 0
IsSinkOf printer bytes failures borrow =
    (bytes ≡ printer.bytes) × (failures ≡ printer.failures) × (borrow ≡ printer.borrow)
