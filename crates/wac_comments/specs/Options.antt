-- How a document is printed.
use Rattle.std.specs.Prelude.{ℕ, List, [], ◌∷◌, replicate}
use Rattle.wac_lexer.specs.Ascii.{carriage_return, line_feed, space, tab}
use Rattle.wac_comments.specs.declared.options.Indent.{Indent}
use Rattle.wac_comments.specs.declared.options.Indent.TheVariants.{Tab, Blanks}
use Rattle.wac_comments.specs.declared.options.LineEnd.{LineEnd}
use Rattle.wac_comments.specs.declared.options.LineEnd.TheVariants.{Lf, CrLf}

-- what stands for each depth where a line begins
abbrev pub indent_text : Indent → List ℕ
indent_text Tab = tab ∷ []
indent_text (Blanks count) = replicate count space

-- what ends a line
abbrev pub line_end_text : LineEnd → List ℕ
line_end_text Lf = line_feed ∷ []
line_end_text CrLf = carriage_return ∷ line_feed ∷ []
