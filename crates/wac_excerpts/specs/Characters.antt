-- Characters as a terminal shows them.
use Rattle.std.specs.Prelude.{ℕ, List, [], ◌++◌, ◌+◌, ◌-◌, ◌^◌, ◌%◌, Bool, ◌&&◌, ◌||◌, not, false, nat_eq, nat_lt, nat_le, map, flat_map, codes, chars, encode_utf8, encode_utf8_all, unwrap_or, if◌then◌else◌}
use Rattle.std.specs.Fmt.{digits, format_spec, padded_integral}
use Rattle.unicode_width.specs.Width.{char_width}

-- a separator of lines or paragraphs, or one that embeds or overrides a direction
abbrev pub is_override : ℕ → Bool
is_override c = (nat_le 8232 c && nat_le c 8238) || (nat_le 8294 c && nat_le c 8297)

-- a mark of which nothing is shown: of a direction, or of the order of bytes
abbrev pub is_mark : ℕ → Bool
is_mark c = nat_eq c 1564 || ((nat_le 8206 c && nat_le c 8207) || nat_eq c 65279)

-- a control character, an override or a mark: a terminal could take it for a command, or show nothing of it
abbrev pub is_command : ℕ → Bool
is_command c = nat_lt c 32 || ((nat_le 127 c && nat_le c 159) || (is_override c || is_mark c))

-- what is written for a character: U+FFFD for a command
abbrev pub shown : ℕ → ℕ
shown c = if is_command c then 65533 else c

-- a text without commands
abbrev pub shown_text : List ℕ → List ℕ
shown_text text = encode_utf8_all (map shown (chars text))

-- the same of several lines, whose ends stay
abbrev pub shown_on_lines : ℕ → ℕ
shown_on_lines c = if nat_eq c 10 then c else shown c

abbrev pub shown_lines : List ℕ → List ℕ
shown_lines text = encode_utf8_all (map shown_on_lines (chars text))

-- what stands for a character in JSON: for a command `\u` and the four hexadecimal digits of its number
abbrev pub escaped_character : ℕ → List ℕ
escaped_character c = if is_command c then (codes "\\u" ++ padded_integral (format_spec 32 0 4 4 (2 ^ 64 - 1)) false [] (digits 16 false c)) else encode_utf8 c

abbrev pub escaped_text : List ℕ → List ℕ
escaped_text text = flat_map escaped_character (chars text)

-- a byte below 128 as `cat -v` shows it
abbrev pub caret_low : ℕ → List ℕ
caret_low n = if nat_lt n 32 then (codes "^" ++ encode_utf8 (n + 64)) else (if nat_eq n 127 then codes "^?" else encode_utf8 n)

-- the same of any byte: `M-` is for its highest bit
abbrev pub caret_byte : ℕ → List ℕ
caret_byte b = (if nat_le 128 b then codes "M-" else []) ++ caret_low (b % 128)

-- a command that is shown by its bytes: a tab and the end of a line stay
abbrev pub has_carets : ℕ → Bool
has_carets c = is_command c && not (nat_eq c 9 || nat_eq c 10)

abbrev pub caret_character : ℕ → List ℕ
caret_character c = if has_carets c then flat_map caret_byte (encode_utf8 c) else encode_utf8 c

-- a text of several lines
abbrev pub caret_text : List ℕ → List ℕ
caret_text text = flat_map caret_character (chars text)

-- how many columns a character takes; a tab takes those of four blanks
abbrev pub columns : ℕ → ℕ
columns c = if nat_eq c 9 then 4 else unwrap_or (char_width false (shown c)) 1
