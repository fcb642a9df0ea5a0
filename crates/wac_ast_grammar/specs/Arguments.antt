-- A string that an argument begins with, and an argument that is cut short.
use Rattle.std.specs.Prelude.{◌≡◌, List, [], ◌∷◌, ◌++◌, ◌⊎◌, true}
use Rattle.wac_lexer.specs.declared.token.Token.{Token}
use Rattle.wac_lexer.specs.declared.token.Token.TheVariants as t
use Rattle.wac_lexer.specs.Item.{Item}
use Rattle.wac_ast_grammar.specs.Tokens.{is_token}
use Rattle.wac_ast_grammar.specs.Grammar.{Sym, argument, arguments, list_items}
use Rattle.wac_ast_grammar.specs.Reading.{Stop, can, other}

-- The items end with a string after an opening brace or a comma. (A name follows `as`, and a named access a bracket.)
pub record EndsWithArgument (items : List Item) : Type 0 where
  pub before : List Item
  pub opening : Item
  pub string : Item
  pub ends : items ≡ before ++ (opening ∷ string ∷ [])
  pub is_opening : (is_token t.OpenBrace opening.token ≡ true) ⊎ (is_token t.Comma opening.token ≡ true)
  pub is_string : is_token t.String string.token ≡ true

-- The items are this token alone.
abbrev pub IsAlone : Token → List Item → Type 0
IsAlone k items = (x : Item) × (items ≡ x ∷ []) × (is_token k x.token ≡ true)

-- The items of a part end with a string that an argument begins with. The items of an argument may be that string alone.
abbrev pub EndsArgued : Sym → List Item → Type 0
EndsArgued argument items = EndsWithArgument items ⊎ IsAlone t.String items
EndsArgued (list_items arguments) items = EndsWithArgument items ⊎ IsAlone t.String items
EndsArgued _ items = EndsWithArgument items

-- The input ends after the dots of an argument: they are one where a comma or a closing
-- brace follows, and an identifier is expected.
abbrev pub CutShort : List Item → Stop → Type 0
CutShort items stop = IsAlone t.Ellipsis items × (stop ≡ record { left = []; expected = can t.Ident ∷ []; why = other })
