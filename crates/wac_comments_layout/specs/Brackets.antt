-- Brackets, and what stands in them.
use Rattle.std.specs.Prelude.{◌≡◌, refl, codes, ℕ, Bool, true, false, ◌||◌, nat_eq, List, if◌then◌else◌}
use Rattle.std.specs.List.{list_any}
use Rattle.std.specs.Str.{bytes_eq}
use Rattle.wac_lexer.specs.Ascii.{colon}
use Rattle.wac_comments_layout.specs.declared.brackets.Brackets.{Brackets}
use Rattle.wac_comments_layout.specs.declared.brackets.Brackets.TheVariants.{Body, Rows, Arguments, Flat}

abbrev pub is_opening : List ℕ → Bool
is_opening token = bytes_eq token (codes "(") || (bytes_eq token (codes "[") || (bytes_eq token (codes "<") || bytes_eq token (codes "{")))

abbrev pub is_closing : List ℕ → Bool
is_closing token = bytes_eq token (codes ")") || (bytes_eq token (codes "]") || (bytes_eq token (codes ">") || bytes_eq token (codes "}")))

-- whether rows of a type stand in the braces after this word and a name
abbrev pub begins_rows : List ℕ → Bool
begins_rows word = bytes_eq word (codes "variant") || (bytes_eq word (codes "record") || (bytes_eq word (codes "flags") || bytes_eq word (codes "enum")))

-- What stands in braces, by the two tokens before them: `.` stands before those of `use`, `with` before those of `include`, and a package
-- name, which alone has a colon in it, before those of `new`.
abbrev pub in_braces : List ℕ → List ℕ → Brackets
in_braces before earlier =
    if bytes_eq before (codes ".") then Flat
    else (if bytes_eq before (codes "with") || list_any (λ b. nat_eq b colon) before then Arguments
    else (if begins_rows earlier then Rows else Body))

-- what stands in the brackets that a token opens, by the two tokens before it
abbrev pub opened_by : List ℕ → List ℕ → List ℕ → Brackets
opened_by token before earlier = if bytes_eq token (codes "{") then in_braces before earlier else Flat

abbrev pub is_flat : Brackets → Bool
is_flat Body = false
is_flat Rows = false
is_flat Arguments = false
is_flat Flat = true

-- whether each element has a comma after it
abbrev pub has_commas : Brackets → Bool
has_commas Body = false
has_commas Rows = true
has_commas Arguments = true
has_commas Flat = false

-- examples
rows_of_a_record : opened_by (codes "{") (codes "r") (codes "record") ≡ Rows
rows_of_a_record = refl

arguments_of_new : opened_by (codes "{") (codes "a:b") (codes "new") ≡ Arguments
arguments_of_new = refl
