-- The documentation comments of a place.
use Rattle.std.specs.Prelude.{◌≡◌, refl, ℕ, zero, suc, ◌+◌, ◌-◌, List, [], ◌∷◌, ◌++◌, take, drop, length, codes, Bool, Option, Some, None, if◌then◌else◌, ◌==◌, ◌&&◌}
use Rattle.std.specs.Char.{encode_utf8}
use Rattle.std.specs.Str.{bytes_eq, chars, trim, trim_start, trim_end}
use Rattle.wac_lexer.specs.Span.{span}
use Rattle.wac_lexer.specs.Item.{Doc}
use Rattle.wac_lexer.specs.Comments.{part_len}

abbrev pub begins_with : List ℕ → List ℕ → Bool
begins_with front text = bytes_eq (take (length front) text) front

abbrev pub ends_with : List ℕ → List ℕ → Bool
ends_with back text = bytes_eq (drop (length text - length back) text) back

-- the text of a documentation comment: of `///x` and `/**x*/` it is x, trimmed of White_Space
abbrev pub doc_text : List ℕ → Option (List ℕ)
doc_text comment =
    let text = drop 3 comment in
    if begins_with (codes "///") comment then Some (trim text)
    else (if begins_with (codes "/**") comment && ends_with (codes "*/") text then Some (trim (take (length text - 2) text)) else None)

-- examples
line_doc : doc_text (codes "/// x ") ≡ Some (codes "x")
unfolding trim_start trim_end chars encode_utf8
line_doc = refl

block_doc : doc_text (codes "/***/") ≡ Some []
unfolding trim_start trim_end chars encode_utf8
block_doc = refl

no_doc : doc_text (codes "/**/") ≡ None
no_doc = refl

-- the doc that a blank or a comment at a place is
abbrev pub doc_of_part : ℕ → List ℕ → List Doc
doc_of_part place part = elim (doc_text part) [ Some text ↦ record { comment = text; span = span place (length part) } ∷ [] | None ↦ [] ]

-- the docs among up to n blanks and comments after a place
abbrev pub docs_upto : ℕ → List ℕ → ℕ → List Doc
docs_upto zero source place = []
docs_upto (suc n) source place =
    let len = part_len (drop place source) in
    if len == 0 then [] else doc_of_part place (take len (drop place source)) ++ docs_upto n source (place + len)

-- the docs of a place
unfoldable pub docs_at : List ℕ → ℕ → List Doc
docs_at source place = docs_upto (length source) source place
