-- What blanked statements declare.
use Rattle.std.specs.Prelude.{◌≡◌, refl, codes, ℕ, Bool, true, false, ◌&&◌, ◌||◌, nat_eq, nat_lt, List, [], ◌∷◌, length, slice_index, Option, Some, None, Result, Ok}
use Rattle.std.specs.Str.{bytes_eq}
use Rattle.wac_lexer.specs.Characters.{refused}
use Rattle.wac_lexer.specs.Item.{Item}
use Rattle.wac_lexer.specs.Items.{items, items_from}
use Rattle.wac_lexer.specs.Reading.{Slices, slice}
use Rattle.wac_lexer.specs.Span.{Span}
use Rattle.wac_lexer.specs.declared.token.Token.{Token}
use Rattle.wac_lexer.specs.declared.token.Token.TheVariants as t
use Rattle.wac_lexer.specs.declared.error.Error.{Error}
use Rattle.wac_ast_grammar.specs.Tree.{without_percent}
use Rattle.wac_diagnostics.specs.declared.diagnostic.Diagnostic.{Diagnostic}

-- a name right after this item is declared there: after a keyword of a declaration, or another name, as a misspelled
-- keyword is one
abbrev pub declares_next : Result Token Error → Bool
declares_next (Ok t.Ident) = true
declares_next (Ok t.ImportKeyword) = true
declares_next (Ok t.LetKeyword) = true
declares_next (Ok t.InterfaceKeyword) = true
declares_next (Ok t.WorldKeyword) = true
declares_next (Ok t.TypeKeyword) = true
declares_next (Ok t.VariantKeyword) = true
declares_next (Ok t.RecordKeyword) = true
declares_next (Ok t.FlagsKeyword) = true
declares_next (Ok t.EnumKeyword) = true
declares_next x = false

-- a byte of a text is a blank
abbrev pub is_blank_at : List ℕ → ℕ → Bool
is_blank_at text at = nat_lt at (length text) && nat_eq (slice_index text at) 32

-- the names are the same, be they after `%` or not
abbrev pub same_name : List ℕ → List ℕ → Bool
same_name a b = bytes_eq (without_percent a) (without_percent b)

-- One of items declares the name, and is blanked in what is left. They come after an item that declares what follows,
-- or doesn't.
abbrev pub declared_among : List ℕ → List ℕ → Bool → List Item → Bool
declared_among left name after [] = false
declared_among left name after (x ∷ xs) =
    (after && (is_blank_at left x.span.offset && same_name x.text name))
    || declared_among left name (declares_next x.token) xs

-- of a source with this rejected character first, or none: in one with a rejected character any name may be declared
abbrev pub declared_beside : List ℕ → List ℕ → List ℕ → Option (Error × Span) → Bool
declared_beside source left name (Some found) = true
declared_beside source left name None = declared_among left name false (items source)

-- what is blanked of a source in what is left declares the name
abbrev pub declares : List ℕ → List ℕ → List ℕ → Bool
declares source left name = declared_beside source left name (refused source)

-- what the diagnostic says of what is left isn't that a name is unknown which a blanked statement declares
abbrev pub IsUndeclared : List ℕ → List ℕ → Diagnostic → Type 0
IsUndeclared source left d =
    d.code.now ≡ codes "wac::undefined-name" → (at : Span) → d.span ≡ Some at → Slices left at
    → declares source left (slice left at) ≡ false

-- examples: `x` is blanked in the first, and stands in the second
blanked_name : declared_among (codes "      = y; z") (codes "x") false (items (codes "let x = y; z")) ≡ true
unfolding items_from
blanked_name = refl

kept_name : declared_among (codes "let x = y; z") (codes "x") false (items (codes "let x = y; z")) ≡ false
unfolding items_from
kept_name = refl
