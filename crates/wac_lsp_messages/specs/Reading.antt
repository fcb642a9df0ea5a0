-- What the fields of messages are, by their JSON.
use Rattle.std.specs.Prelude.{ℕ, ℤ, Bool, List, [], ◌∷◌, codes, Option, Some, option_and_then, option_map}
use Rattle.std.specs.Option.{option_zip}
use Rattle.serde_json.specs.Data.{Data, Items, no_items, item}
use Rattle.serde_json.specs.Find.{as_array, as_bool, as_i64, as_number, as_str, as_u64, get}
use Rattle.wac_positions.specs.declared.place.Place.{Place}
use Rattle.wac_lsp_messages.specs.declared.notice.Range.{Range}
use Rattle.wac_lsp_messages.specs.declared.question.FormattingOptions.{FormattingOptions}

-- the text of a field
abbrev pub text_in : List ℕ → Data → Option (List ℕ)
text_in name given = option_and_then as_str (get name given)

-- the integer of 64 bits of a field
abbrev pub integer_in : List ℕ → Data → Option ℤ
integer_in name given = option_and_then as_i64 (option_and_then as_number (get name given))

-- the number of a field that isn't negative
abbrev pub count_in : List ℕ → Data → Option ℕ
count_in name given = option_and_then as_u64 (option_and_then as_number (get name given))

-- whether a field is true
abbrev pub flag_in : List ℕ → Data → Option Bool
flag_in name given = option_and_then as_bool (get name given)

-- what each item is, in order, where none of them is nothing
abbrev pub each : {A : Type 0} → (Data → Option A) → Items → Option (List A)
each one no_items = Some []
each one (item first rest) = option_map (λ both. both.0 ∷ both.1) (option_zip (one first) (each one rest))

-- the same of the items of a field, which is an array
abbrev pub each_in : {A : Type 0} → (Data → Option A) → List ℕ → Data → Option (List A)
each_in one name given = option_and_then (each one) (option_and_then as_array (get name given))

-- a place: a line, and a column as the field `character`
abbrev pub place_of : Data → Option Place
place_of given =
    option_map (λ both. record { line = both.0; column = both.1 })
    (option_zip (count_in (codes "line") given) (count_in (codes "character") given))

-- the place that a field is
abbrev pub place_in : List ℕ → Data → Option Place
place_in name given = option_and_then place_of (get name given)

-- a range: its `start` and its `end`
abbrev pub range_of : Data → Option Range
range_of given =
    option_map (λ both. record { start = both.0; end = both.1 })
    (option_zip (place_in (codes "start") given) (place_in (codes "end") given))

-- the range that a field is
abbrev pub range_in : List ℕ → Data → Option Range
range_in name given = option_and_then range_of (get name given)

-- the text of a field of the document that parameters name
abbrev pub document_text_in : List ℕ → Data → Option (List ℕ)
document_text_in name params = option_and_then (text_in name) (get (codes "textDocument") params)

-- the URI of that document
abbrev pub uri_in : Data → Option (List ℕ)
uri_in params = document_text_in (codes "uri") params

-- its version
abbrev pub version_in : Data → Option ℤ
version_in params = option_and_then (integer_in (codes "version")) (get (codes "textDocument") params)

-- the options of formatting
abbrev pub options_of : Data → Option FormattingOptions
options_of given =
    option_map (λ both. record { tab_size = both.0; insert_spaces = both.1 })
    (option_zip (count_in (codes "tabSize") given) (flag_in (codes "insertSpaces") given))
