-- Texts within commands of a GitHub workflow.
use Rattle.std.specs.Prelude.{◌≡◌, refl, ℕ, List, Option, Some, None, nat_eq, codes, chars, encode_utf8, flat_map, unwrap_or, if◌then◌else◌}
use Rattle.wac_excerpts.specs.Characters.{shown}

-- what a character is written as within the text of a command, where not as itself: `%`, CR and LF
abbrev pub data_escape : ℕ → Option (List ℕ)
data_escape c = if nat_eq c 37 then Some (codes "%25") else (if nat_eq c 13 then Some (codes "%0D") else (if nat_eq c 10 then Some (codes "%0A") else None))

-- the same within a property: `:` and `,` too
abbrev pub property_escape : ℕ → Option (List ℕ)
property_escape c = if nat_eq c 58 then Some (codes "%3A") else (if nat_eq c 44 then Some (codes "%2C") else data_escape c)

-- what a character is written as: its escape, or as people are shown it
abbrev pub escaped : Option (List ℕ) → ℕ → List ℕ
escaped escape c = unwrap_or escape (encode_utf8 (shown c))

abbrev pub data_character : ℕ → List ℕ
data_character c = escaped (data_escape c) c

abbrev pub property_character : ℕ → List ℕ
property_character c = escaped (property_escape c) c

-- a text, as the text of a command and as the value of a property
abbrev pub data_text : List ℕ → List ℕ
data_text text = flat_map data_character (chars text)

abbrev pub property_text : List ℕ → List ℕ
property_text text = flat_map property_character (chars text)

a_colon_ends_no_property : flat_map property_character (codes ":,%") ≡ codes "%3A%2C%25"
a_colon_ends_no_property = refl

an_escape_is_not_written : data_character 27 ≡ encode_utf8 65533
an_escape_is_not_written = refl
