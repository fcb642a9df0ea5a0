-- What printing changes about the tokens of a text.
use Rattle.std.specs.Prelude.{◌≡◌, refl, codes, ℕ, zero, suc, ◌+◌, ◌-◌, Bool, false, ◌&&◌, ◌||◌, not, nat_eq, nat_le, Some, None, List, [], ◌∷◌, ◌++◌, take, drop, length, map, filter, slice_get, unwrap_or, if◌then◌else◌}
use denote.Bor.{Bor}
use Rattle.std.specs.List.{starts_with}
use Rattle.std.specs.Str.{bytes_eq}
use Rattle.wac_comments_layout.specs.Kept.{is_comment}
use Rattle.wac_comments_layout.specs.Brackets.{is_opening, is_closing, opened_by, is_flat, has_commas}
use Rattle.wac_comments_layout.specs.declared.brackets.Brackets.{Brackets}
use Rattle.wac_comments_layout.specs.declared.brackets.Brackets.TheVariants.{Body}

abbrev pub Texts : Type 0
Texts = List (List ℕ)

-- the texts that a slice of references has
abbrev pub now_of : List (Bor (List ℕ)) → Texts
now_of tokens = map (λ t. t.now) tokens

-- the token at an index, and an empty text where there is none
abbrev pub token_at : Texts → ℕ → List ℕ
token_at tokens at = unwrap_or (slice_get tokens at) []

-- the token so many tokens before an index
abbrev pub token_before : Texts → ℕ → ℕ → List ℕ
token_before tokens at back = if nat_le back at then token_at tokens (at - back) else []

-- whether the tokens from an index on begin with these
abbrev pub stand_at : Texts → ℕ → Texts → Bool
stand_at tokens at these = starts_with bytes_eq (drop at tokens) these

-- whether the token at an index is one of the first `count` of a place where these stand
abbrev pub is_among : Texts → ℕ → Texts → ℕ → Bool
is_among tokens at these zero = false
is_among tokens at these (suc back) = is_among tokens at these back || (nat_le back at && stand_at tokens (at - back) these)

-- an empty `with`, which is not printed
abbrev pub empty_with : Texts
empty_with = codes "with" ∷ codes "{" ∷ codes "}" ∷ []

-- whether one of its tokens begins as this one
abbrev pub may_be_of_with : List ℕ → Bool
may_be_of_with token = elim (slice_get token 0) [ Some b ↦ nat_eq b 119 || (nat_eq b 123 || nat_eq b 125) | None ↦ false ]

-- whether the token is a comma before the end of a list on one line, or after a fill that ends arguments
abbrev pub is_last_comma : Texts → ℕ → Brackets → Bool
is_last_comma tokens at around =
    bytes_eq (token_at tokens at) (codes ",")
    && (is_closing (token_at tokens (at + 1)) && (is_flat around || bytes_eq (token_before tokens at 1) (codes "...")))

-- whether printing drops the token at an index: an empty `with`, results that are nothing, and the comma after the last of a list
abbrev pub goes : Texts → ℕ → Brackets → Bool
goes tokens at around =
    is_among tokens at empty_with 3
    || (is_among tokens at (codes "<" ∷ codes "_" ∷ codes ">" ∷ []) 3
    || (is_among tokens at (codes "<" ∷ codes "_" ∷ codes "," ∷ codes "_" ∷ codes ">" ∷ []) 5
    || (is_among tokens at (codes "," ∷ codes "_" ∷ codes ">" ∷ []) 2
    || (is_among tokens at (codes "->" ∷ codes ";" ∷ []) 1
    || is_last_comma tokens at around))))

-- whether the token at an index, or one beside it, is `_`
abbrev pub is_near_nothing : Texts → ℕ → Bool
is_near_nothing tokens at =
    bytes_eq (token_before tokens at 1) (codes "_")
    || (bytes_eq (token_at tokens at) (codes "_") || bytes_eq (token_at tokens (at + 1)) (codes "_"))

-- whether printing drops the token at an index, which none of these is near
abbrev pub goes_far_from_nothing : Texts → ℕ → Brackets → Bool
goes_far_from_nothing tokens at around =
    is_among tokens at empty_with 3
    || (is_among tokens at (codes "->" ∷ codes ";" ∷ []) 1 || is_last_comma tokens at around)

-- whether a token that printing drops in some place begins with this byte: one of w { } < _ > , -
abbrev pub begins_dropped : ℕ → Bool
begins_dropped b =
    nat_eq b 119 || (nat_eq b 123 || (nat_eq b 125 || (nat_eq b 60 || (nat_eq b 95 || (nat_eq b 62 || (nat_eq b 44 || nat_eq b 45))))))

-- whether such a token begins as this one
abbrev pub may_go : List ℕ → Bool
may_go token = elim (slice_get token 0) [ Some b ↦ begins_dropped b | None ↦ false ]

-- whether the token is the semicolon of a resource without a body, in whose place `{` and `}` are printed
abbrev pub ends_resource : Texts → ℕ → Bool
ends_resource tokens at = bytes_eq (token_at tokens at) (codes ";") && bytes_eq (token_before tokens at 2) (codes "resource")

-- whether the token may stand before the end of rows or arguments without a comma
abbrev pub needs_none : List ℕ → Bool
needs_none before = bytes_eq before (codes "{") || (bytes_eq before (codes ",") || bytes_eq before (codes "..."))

-- whether printing adds a comma before the token, which ends rows or arguments
abbrev pub needs_comma : Texts → ℕ → Brackets → Bool
needs_comma tokens at around = bytes_eq (token_at tokens at) (codes "}") && (has_commas around && not (needs_none (token_before tokens at 1)))

-- the tokens that printing adds before the one at an index
abbrev pub added : Texts → ℕ → Brackets → Texts
added tokens at around =
    if ends_resource tokens at then codes "{" ∷ []
    else (if needs_comma tokens at around then codes "," ∷ [] else [])

-- how the token at an index is printed, whose text this is
abbrev pub spelled : Texts → ℕ → List ℕ → List ℕ
spelled tokens at text = if ends_resource tokens at then codes "}" else text

-- what stands in the innermost brackets, which are the last: a text is a body
abbrev pub innermost : List Brackets → Brackets
innermost opened = unwrap_or (slice_get opened (length opened - 1)) Body

-- the brackets that are open after the token at an index, where these are before it
abbrev pub opened_after : Texts → ℕ → List Brackets → List Brackets
opened_after tokens at opened =
    if is_opening (token_at tokens at) then opened ++ opened_by (token_at tokens at) (token_before tokens at 1) (token_before tokens at 2) ∷ []
    else (if is_closing (token_at tokens at) then take (length opened - 1) opened else opened)

-- What is printed of tokens and comments, from the token at an index on: comments wait for the next token that is printed, and a token that
-- is added comes before those that wait.
abbrev pub printed_from : Texts → ℕ → List Brackets → Texts → Texts → Texts
printed_from tokens at opened waiting [] = waiting
printed_from tokens at opened waiting (text ∷ texts) =
    if is_comment text then printed_from tokens at opened (waiting ++ text ∷ []) texts
    else added tokens at (innermost opened) ++ (if goes tokens at (innermost opened)
    then printed_from tokens (at + 1) (opened_after tokens at opened) waiting texts
    else waiting ++ spelled tokens at text ∷ printed_from tokens (at + 1) (opened_after tokens at opened) [] texts)

abbrev pub tokens_of : Texts → Texts
tokens_of texts = filter (λ text. not (is_comment text)) texts

-- the tokens and comments of a text as they are printed: the comments before a token that is dropped stand before the next one
abbrev pub printed : Texts → Texts
printed texts = printed_from (tokens_of texts) 0 [] [] texts

-- What was printed of tokens and comments up to a place: the pieces up to the last token, the comments since then, the index of the next
-- token, and the brackets that are open before it.
pub record Progress : Type 0 where
  pub done : Texts
  pub waiting : Texts
  pub at : ℕ
  pub opened : List Brackets

abbrev pub progress : Texts → Texts → ℕ → List Brackets → Progress
progress done waiting at opened = record { done = done; waiting = waiting; at = at; opened = opened }

-- after a comment
abbrev pub with_comment : List ℕ → Progress → Progress
with_comment text p = record p { waiting = p.waiting ++ text ∷ [] }

-- after the tokens that are added before the next one
abbrev pub with_added : Texts → Progress → Progress
with_added tokens p = record p { done = p.done ++ added tokens p.at (innermost p.opened) }

-- after the comments that wait
abbrev pub with_waiting : Progress → Progress
with_waiting p = record p { done = p.done ++ p.waiting; waiting = [] }

-- after a token that is printed
abbrev pub with_printed : List ℕ → Progress → Progress
with_printed text p = record p { done = p.done ++ p.waiting ++ text ∷ []; waiting = [] }

-- after the next token
abbrev pub passed : Texts → Progress → Progress
passed tokens p = record p { at = p.at + 1; opened = opened_after tokens p.at p.opened }

-- after the next token, whose text this is
abbrev pub with_token : Texts → List ℕ → Progress → Progress
with_token tokens text p =
    passed tokens
    (if goes tokens p.at (innermost p.opened) then with_added tokens p
    else with_printed (spelled tokens p.at text) (with_added tokens p))

-- after a comment or the next token
abbrev pub with_piece : Texts → List ℕ → Progress → Progress
with_piece tokens text p = if is_comment text then with_comment text p else with_token tokens text p

-- examples
comma_comes_before_comments : printed (codes "record" ∷ codes "r" ∷ codes "{" ∷ codes "a" ∷ codes "// last" ∷ codes "}" ∷ []) ≡ codes "record" ∷ codes "r" ∷ codes "{" ∷ codes "a" ∷ codes "," ∷ codes "// last" ∷ codes "}" ∷ []
comma_comes_before_comments = refl

comments_wait_for_the_next_token : printed (codes "result" ∷ codes "<" ∷ codes "_" ∷ codes "/* c */" ∷ codes ">" ∷ codes ";" ∷ []) ≡ codes "result" ∷ codes "/* c */" ∷ codes ";" ∷ []
comments_wait_for_the_next_token = refl
