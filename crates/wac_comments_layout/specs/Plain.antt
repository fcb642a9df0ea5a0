-- A printed text without comments, and its line ends.
use Rattle.std.specs.Prelude.{◌≡◌, refl, codes, ℕ, ◌-◌, Bool, false, ◌&&◌, not, nat_eq, List, [], ◌∷◌, ◌++◌, take, length, if◌then◌else◌}
use Rattle.std.specs.List.{suffix_len}
use Rattle.wac_lexer.specs.Ascii.{carriage_return, line_feed, quotation_mark}

abbrev pub is_line_end : ℕ → Bool
is_line_end b = nat_eq b line_feed

-- a text without the line ends at its end
abbrev pub unended : List ℕ → List ℕ
unended text = take (length text - suffix_len is_line_end text) text

-- a text with other line ends, but within strings; `quoted` says whether it begins within one
abbrev pub with_line_ends : List ℕ → Bool → List ℕ → List ℕ
with_line_ends end quoted [] = []
with_line_ends end quoted (b ∷ text) =
    (if is_line_end b && not quoted then end else b ∷ [])
    ++ with_line_ends end (if nat_eq b quotation_mark then not quoted else quoted) text

-- a text with these line ends, and one at its end
abbrev pub ended : List ℕ → List ℕ → List ℕ
ended end text = with_line_ends end false (unended text) ++ end

-- examples
one_at_the_end : ended (line_feed ∷ []) (codes "package a:b;\n\n") ≡ codes "package a:b;\n"
one_at_the_end = refl

none_in_strings : ended (carriage_return ∷ line_feed ∷ []) (codes "a\n\"\n\"\n") ≡ codes "a\r\n\"\n\"\r\n"
none_in_strings = refl
