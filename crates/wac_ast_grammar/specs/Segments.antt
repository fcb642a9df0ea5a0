-- The segments of a path, and the span of each.
use Rattle.std.specs.Prelude.{◌≡◌, ℕ, ◌+◌, ◌-◌, ◌^◌, min, List, [], ◌∷◌, length, Option, Some, None, codes, refl}
use Rattle.std.specs.List.{slice_split}
use Rattle.wac_lexer.specs.Span.{Span, span}
use Rattle.wac_ast_grammar.specs.Version.{is_slash}
use Rattle.wac_ast_grammar.specs.Tree.{PackagePath}

-- so many bytes after an offset, up to the greatest offset
abbrev pub after : ℕ → ℕ → ℕ
after offset bytes = min (offset + bytes) (2 ^ 64 - 1)

-- parts that lie in order from an offset on, with one byte between two
abbrev pub located : ℕ → List (List ℕ) → List (List ℕ × Span)
located offset [] = []
located offset (part ∷ others) = (part, span offset (length part)) ∷ located (after (after offset (length part)) 1) others

-- the parts between the slashes of a text that begins at an offset
abbrev pub segments_from : ℕ → List ℕ → List (List ℕ × Span)
segments_from offset text = located offset (slice_split is_slash text)

-- of the text that is left, if there is one
abbrev pub segments_left : ℕ → Option (List ℕ) → List (List ℕ × Span)
segments_left offset None = []
segments_left offset (Some text) = segments_from offset text

-- of the package's name in a path
abbrev pub package_name_span : PackagePath → Span
package_name_span path = span path.span.offset (length path.name)

-- the segments of a path, which come after its name and a slash
abbrev pub segment_spans : PackagePath → List (List ℕ × Span)
segment_spans path = segments_from (after (after path.span.offset (length path.name)) 1) path.segments

segments_1 : segments_from 28 (codes "e/%f") ≡ (codes "e", span 28 1) ∷ (codes "%f", span 30 2) ∷ []
segments_1 = refl
