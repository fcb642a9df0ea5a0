-- The tokens that a rejection names, and the items that are one of them.
use Rattle.std.specs.Prelude.{◌≡◌, List, [], ◌∷◌, Ok, Bool, true, false, cond}
use Rattle.wac_lexer.specs.declared.token.Token.{Token}
use Rattle.wac_lexer.specs.Item.{Item}
use Rattle.wac_ast_grammar.specs.Tokens.{is_token, valid}
use Rattle.wac_ast_grammar.specs.Reading.{Standing, at_once, closing, after_comma, Tried}

abbrev pub same_standing : Standing → Standing → Bool
same_standing at_once at_once = true
same_standing closing closing = true
same_standing after_comma after_comma = true
same_standing _ _ = false

-- The token was looked for, and can occur in this way.
abbrev pub named : Standing → Token → List Tried → Bool
named m k [] = false
named m k (t ∷ ts) = cond (cond (same_standing m t.standing) (is_token t.token (Ok k)) false) true (named m k ts)

-- an item of this token, with a right text
abbrev pub IsOf : Token → Item → Type 0
IsOf k x = (is_token k x.token ≡ true) × (valid k x.text ≡ true)
