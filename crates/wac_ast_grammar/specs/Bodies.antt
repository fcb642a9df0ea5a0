-- The beginning of a body that may not be empty.
use Rattle.std.specs.Prelude.{◌≡◌, List, [], ◌∷◌, ◌++◌, true}
use Rattle.wac_lexer.specs.declared.token.Token.{Token}
use Rattle.wac_lexer.specs.declared.token.Token.TheVariants as t
use Rattle.wac_lexer.specs.Item.{Item}
use Rattle.wac_ast_grammar.specs.Tokens.{is_token}
use Rattle.wac_ast_grammar.specs.Grammar.{Body, variant_body, record_body, flags_body, enum_body}

abbrev pub keyword_of : Body → Token
keyword_of variant_body = t.VariantKeyword
keyword_of record_body = t.RecordKeyword
keyword_of flags_body = t.FlagsKeyword
keyword_of enum_body = t.EnumKeyword

-- The items end with the keyword, an identifier and the opening brace.
pub record Opens (body : Body) (items : List Item) : Type 0 where
  pub before : List Item
  pub keyword : Item
  pub name : Item
  pub brace : Item
  pub ends : items ≡ before ++ (keyword ∷ name ∷ brace ∷ [])
  pub is_keyword : is_token (keyword_of body) keyword.token ≡ true
  pub is_name : is_token t.Ident name.token ≡ true
  pub is_brace : is_token t.OpenBrace brace.token ≡ true
