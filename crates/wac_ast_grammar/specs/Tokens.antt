-- Which token an item is.
use Rattle.std.specs.Prelude.{◌≡◌, ℕ, List, [], ◌∷◌, Result, Ok, Err, Bool, true, false, eqb, refl}
use denote.Enum.Declared.{tag_of}
use Rattle.wac_lexer.specs.contracts.token.Token.{the_type}
use Rattle.wac_lexer.specs.declared.token.Token.{Token}
use Rattle.wac_lexer.specs.declared.token.Token.TheVariants as t
use Rattle.wac_lexer.specs.declared.error.Error.{Error}
use Rattle.wac_lexer.specs.Item.{Item}
use Rattle.wac_ast_grammar.specs.Version.{reads_version}

-- the place of a token among the variants
abbrev pub kind : Token → ℕ
kind k = tag_of the_type k

-- the item is this token
abbrev pub is_token : Token → Result Token Error → Bool
is_token k (Ok a) = eqb (kind a) (kind k)
is_token k (Err e) = false

abbrev pub is_bad : Result Token Error → Bool
is_bad (Ok a) = false
is_bad (Err e) = true

abbrev pub is_fault : Item → Bool
is_fault x = is_bad x.token

-- a token's text is right: the version of a package's text, if there is one, is a semantic version
abbrev pub valid : Token → List ℕ → Bool
valid t.PackageName text = reads_version text
valid t.PackagePath text = reads_version text
valid _ text = true

-- the next item is this token
abbrev pub at : Token → List Item → Bool
at k [] = false
at k (x ∷ xs) = is_token k x.token

comma_is_a_comma : is_token t.Comma (Ok t.Comma) ≡ true
comma_is_a_comma = refl

dot_is_no_comma : is_token t.Comma (Ok t.Dot) ≡ false
dot_is_no_comma = refl
