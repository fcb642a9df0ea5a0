-- What is put into a sink for a value, part by part. Together the parts are its compact text.
use Rattle.std.specs.Prelude.{◌≡◌, ℕ, ◌/◌, ◌%◌, ◌≤◌, ◌<◌, List, [], ◌∷◌, ◌++◌, take, length, codes, decimal, nat_le, nat_eq, Bool, true, false, ◌&&◌, not, Result, Ok, Err}
use Rattle.std.specs.Char.{digit_char}
use Rattle.std.specs.List.{flat_map}
use Rattle.std.specs.Str.{IsCharBoundary}
use Rattle.semver.specs.Parse.{Parts}
use Rattle.json.specs.Print.{escape, quoted}
use Rattle.serde_json.specs.Data.{Data, null, boolean, number, string, array, object, Items, no_items, item, Members, no_members, member}
use Rattle.serde_json.specs.Written.{number_text}
use Rattle.wac_printer_layout.specs.Printed.{Piece, blank}
use Rattle.wac_printer_pieces.specs.Printed.{Printer, Prints, is_front}
use Rattle.wac_printer_pieces.specs.declared.error.PrintError.{PrintError}

-- a key, after what stands before it, and its colon
abbrev pub key : List ℕ → List ℕ → Piece
key before name = blank (before ++ (quoted name ++ codes ":"))

-- a string: the text with its escapes, between quotes
abbrev pub text_pieces : List ℕ → List Piece
text_pieces text = blank (codes "\"") ∷ blank (escape text) ∷ blank (codes "\"") ∷ []

abbrev mutual
  pub pieces : Data → List Piece
  pieces null = blank (codes "null") ∷ []
  pieces (boolean true) = blank (codes "true") ∷ []
  pieces (boolean false) = blank (codes "false") ∷ []
  pieces (number n) = blank (number_text n) ∷ []
  pieces (string text) = text_pieces text
  pieces (array items) = blank (codes "[") ∷ items_pieces items
  pieces (object no_members) = blank (codes "{}") ∷ []
  pieces (object (member name value others)) = key (codes "{") name ∷ (pieces value ++ members_pieces others)

  -- the items, and the closing bracket
  pub items_pieces : Items → List Piece
  items_pieces no_items = blank (codes "]") ∷ []
  items_pieces (item value others) = pieces value ++ others_pieces others

  -- the items after the first, and the closing bracket
  pub others_pieces : Items → List Piece
  others_pieces no_items = blank (codes "]") ∷ []
  others_pieces (item value others) = blank (codes ",") ∷ (pieces value ++ others_pieces others)

  -- the members after the first, and the closing brace
  pub members_pieces : Members → List Piece
  members_pieces no_members = blank (codes "}") ∷ []
  members_pieces (member name value others) = key (codes ",") name ∷ (pieces value ++ members_pieces others)

-- ---- what the parts of the writer put

-- one of the items after the first
abbrev pub after_comma : List Piece → List Piece
after_comma value = blank (codes ",") ∷ value

-- items with a comma between two
abbrev pub joined_pieces : {X : Type 0} → (X → List Piece) → List X → List Piece
joined_pieces put [] = []
joined_pieces put (x ∷ xs) = put x ++ flat_map (λ y. after_comma (put y)) xs

-- a list in brackets
abbrev pub list_pieces : {X : Type 0} → (X → List Piece) → List X → List Piece
list_pieces put xs = blank (codes "[") ∷ (joined_pieces put xs ++ blank (codes "]") ∷ [])

-- a mark and a text, or nothing where the text is empty
abbrev pub marked_pieces : List ℕ → List ℕ → List Piece
marked_pieces mark [] = []
marked_pieces mark (b ∷ text) = blank mark ∷ blank (escape (b ∷ text)) ∷ []

-- the three numbers of a version
abbrev pub numbers_pieces : ℕ → ℕ → ℕ → List Piece
numbers_pieces major minor patch =
    blank (escape (decimal major))
    ∷ blank (codes ".")
    ∷ blank (escape (decimal minor))
    ∷ blank (codes ".")
    ∷ blank (escape (decimal patch))
    ∷ []

-- what stands after the numbers of a version
abbrev pub marks_pieces : List ℕ → List ℕ → List Piece
marks_pieces pre build = marked_pieces (codes "-") pre ++ marked_pieces (codes "+") build

-- the text of a version
abbrev pub version_pieces : Parts → List Piece
version_pieces p = numbers_pieces p.0 p.1 p.2 ++ marks_pieces p.3 p.4

-- a byte that stands in a string as it is
abbrev pub is_plain : ℕ → Bool
is_plain b = nat_le 32 b && (not (nat_eq b 34) && not (nat_eq b 92))

-- the escape of a byte by its code
abbrev pub code_escape : ℕ → List ℕ
code_escape b = 92 ∷ 117 ∷ 48 ∷ 48 ∷ digit_char (b / 16) ∷ digit_char (b % 16) ∷ []

-- What comes first of a text was written with its escapes: so many bytes of it, and at least one.
abbrev pub FrontWritten : Printer → Result ℕ PrintError → Printer → List ℕ → Type 0
FrontWritten old (Ok n) new text =
    (0 < n) × (n ≤ length text) × IsCharBoundary text n
    × Prints {A = ℕ} old (Ok n) new (blank (escape (take n text)) ∷ [])
FrontWritten old (Err e) new text = Prints {A = ℕ} old (Err e) new (blank (escape text) ∷ [])

-- a prefix of the text was written, and not the whole
abbrev pub IsBegun : List ℕ → List ℕ → List ℕ → Type 0
IsBegun old new text = (is_front false new (old ++ text) ≡ true) × (length old ≤ length new)
