-- Where the statements of a text are.
use Rattle.std.specs.Prelude.{◌≡◌, refl, codes, ℕ, ◌+◌, ◌-◌, Bool, true, false, ◌&&◌, not, nat_eq, nat_le, nat_lt, List, [], ◌∷◌, length, Option, Some, None, Result, Ok, if◌then◌else◌}
use Rattle.std.specs.Option.{option_map}
use Rattle.wac_lexer.specs.Characters.{refused}
use Rattle.wac_lexer.specs.Item.{Item, NextToken, next_token}
use Rattle.wac_lexer.specs.Items.{items, items_from}
use Rattle.wac_lexer.specs.Span.{Span, span, end_of}
use Rattle.wac_lexer.specs.declared.token.Token.{Token}
use Rattle.wac_lexer.specs.declared.token.Token.TheVariants as t
use Rattle.wac_lexer.specs.declared.error.Error.{Error}
use Rattle.wac_ast_grammar.specs.Tokens.{is_token}
use Rattle.wac_ast_base.specs.Lookahead.{is_next}
use Rattle.wac_recovery.specs.declared.statements.Begun.{Begun}
use Rattle.wac_recovery.specs.declared.statements.Sort.{Sort}
use Rattle.wac_recovery.specs.declared.statements.Sort.TheVariants.{Plain, Declaration, Unknown}

-- the item begins a statement that `;` alone ends
abbrev pub begins_plain : Result Token Error → Bool
begins_plain (Ok t.PackageKeyword) = true
begins_plain (Ok t.ImportKeyword) = true
begins_plain (Ok t.LetKeyword) = true
begins_plain (Ok t.ExportKeyword) = true
begins_plain (Ok t.TypeKeyword) = true
begins_plain x = false

-- the item begins a declaration, which its braces end
abbrev pub begins_declaration : Result Token Error → Bool
begins_declaration (Ok t.InterfaceKeyword) = true
begins_declaration (Ok t.WorldKeyword) = true
begins_declaration (Ok t.VariantKeyword) = true
begins_declaration (Ok t.RecordKeyword) = true
begins_declaration (Ok t.FlagsKeyword) = true
begins_declaration (Ok t.EnumKeyword) = true
begins_declaration x = false

-- the sort of statement that begins with an item
abbrev pub sort_of : Result Token Error → Sort
sort_of x = if begins_plain x then Plain else (if begins_declaration x then Declaration else Unknown)

-- Whether a brace may end such a statement, before the next item. Where it isn't known which statement was meant, it
-- does where no `;` follows.
abbrev pub ends_with_brace : Sort → NextToken → Bool
ends_with_brace Plain next = false
ends_with_brace Declaration next = true
ends_with_brace Unknown next = not (is_next t.Semicolon next)

-- Whether an item ends a statement, before the next one: `;` does outside braces, and a closing brace after which none
-- is open, where one may.
abbrev pub ends : Begun → Result Token Error → NextToken → Bool
ends b x next =
    if is_token t.Semicolon x then nat_eq b.depth 0
    else is_token t.CloseBrace x && (nat_le b.depth 1 && ends_with_brace b.sort next)

-- a statement that begins with an item at a place
abbrev pub begun_at : Result Token Error → ℕ → Begun
begun_at x start = record { start = start; sort = sort_of x; depth = 0 }

-- the statement that an item belongs to: one that was begun before, or else one that it begins
abbrev pub with_item : Option Begun → Result Token Error → ℕ → Begun
with_item None x start = begun_at x start
with_item (Some b) x start = b

-- how many braces are open after an item
abbrev pub depth_after : ℕ → Result Token Error → ℕ
depth_after depth x =
    if is_token t.OpenBrace x then depth + 1
    else (if is_token t.CloseBrace x then depth - 1 else depth)

-- the statement after an item that doesn't end it
abbrev pub after_item : Begun → Result Token Error → Begun
after_item b x = record b { depth = depth_after b.depth x }

-- from where a statement begins to an end
abbrev pub up_to : ℕ → Begun → Span
up_to end b = span b.start (end - b.start)

-- The first statement of items that ends after a place, where one may have been begun before them. One that nothing
-- ends goes to the end of the text.
abbrev pub statement_among : ℕ → ℕ → Option Begun → List Item → Option Span
statement_among end place begun [] = option_map (up_to end) begun
statement_among end place begun (x ∷ xs) =
    let b = with_item begun x.token x.span.offset in
    if ends b x.token (next_token xs)
    then (if nat_lt place (end_of x.span) then Some (up_to (end_of x.span) b) else statement_among end place None xs)
    else statement_among end place (Some (after_item b x.token)) xs

-- the first statement of a text that ends after a place
abbrev pub statement_at : List ℕ → ℕ → Option Span
statement_at text place = statement_among (length text) place None (items text)

-- what is blanked of a text with this rejected character first, or with none, for a fault at a place: the character, or
-- else the statement
abbrev pub part_beside : List ℕ → ℕ → Option (Error × Span) → Option Span
part_beside text place (Some found) = Some found.1
part_beside text place None = statement_at text place

abbrev pub part_at : List ℕ → ℕ → Option Span
part_at text place = part_beside text place (refused text)

-- whether a part begins where the first of the items does
abbrev pub begins_at : NextToken → ℕ → Bool
begins_at None at = false
begins_at (Some x) at = nat_eq x.1.offset at

-- whether a part begins with the first item of a text, where its directive belongs
abbrev pub leads_beside : List ℕ → Span → Option (Error × Span) → Bool
leads_beside text part (Some found) = false
leads_beside text part None = begins_at (next_token (items text)) part.offset

abbrev pub leads : List ℕ → Span → Bool
leads text part = leads_beside text part (refused text)

-- examples
second_statement :
    statement_among 40 13 None (items (codes "package a:b; let x = new y:z { ... }; z;")) ≡ Some (span 13 24)
unfolding items_from
second_statement = refl

braces_end_declarations :
    statement_among 32 1 None (items (codes "world w { import a: u8; } let x;")) ≡ Some (span 0 25)
unfolding items_from
braces_end_declarations = refl
