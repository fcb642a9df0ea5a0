-- Comments as they are kept.
use Rattle.std.specs.Prelude.{◌≡◌, refl, codes, ℕ, Bool, ◌&&◌, ◌||◌, nat_eq, nat_lt, ◌-◌, List, take, length, if◌then◌else◌}
use Rattle.std.specs.List.{starts_with, suffix_len}
use Rattle.wac_lexer.specs.Ascii.{slash}
use Rattle.wac_lexer.specs.Comments.{begins, opens, is_blank}

-- whether a text is a line comment
abbrev pub is_line : List ℕ → Bool
is_line = begins slash slash

-- whether the text of a piece is a comment: no token begins with `//` or `/*`
abbrev pub is_comment : List ℕ → Bool
is_comment text = is_line text || opens text

-- whether the parser takes a comment as a doc where docs may stand: `///x` and `/**x*/`, but not `/**/`
abbrev pub is_doc : List ℕ → Bool
is_doc comment = starts_with nat_eq comment (codes "///") || (starts_with nat_eq comment (codes "/**") && nat_lt 4 (length comment))

-- how many bytes of a comment are kept: a line comment loses the blanks at its end
abbrev pub kept_len : List ℕ → ℕ
kept_len comment = if is_line comment then length comment - suffix_len is_blank comment else length comment

-- a comment as it is kept
abbrev pub kept : List ℕ → List ℕ
kept comment = take (kept_len comment) comment

-- examples
line_comment_loses_blanks : kept (codes "// a b \t") ≡ codes "// a b"
line_comment_loses_blanks = refl

block_comment_is_kept : kept (codes "/* a */") ≡ codes "/* a */"
block_comment_is_kept = refl
