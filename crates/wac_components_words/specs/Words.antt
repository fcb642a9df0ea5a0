-- Texts that are one token, and the parts of paths and keys.
use Rattle.std.specs.Prelude.{refl, ◌≡◌, ◌⊎◌, ℕ, List, ◌++◌, length, Option, None, Some, Ok, Bool, true, false, codes, ◌==◌, slice_index}
use denote.Bor.{Bor}
use Rattle.wac_lexer.specs.Characters.{refused}
use Rattle.wac_lexer.specs.Item.{next_token}
use Rattle.wac_lexer.specs.Items.{items}
use Rattle.wac_lexer.specs.Span.{span}
use Rattle.wac_lexer.specs.declared.token.Token.{Token}
use Rattle.wac_lexer.specs.declared.token.Token.TheVariants.{Ident}

-- no character of the text is refused, its first item is this token, and that is the whole text
abbrev pub IsOneToken : List ℕ → Token → Type 0
IsOneToken text token = (refused text ≡ None) × (next_token (items text) ≡ Some (Ok token, span 0 (length text)))

-- the text begins with %
abbrev pub begins_with_percent : List ℕ → Bool
begins_with_percent text = slice_index text 0 == 37

-- examples
begins_with_percent_one : begins_with_percent (codes "%use") ≡ true
begins_with_percent_one = refl

begins_with_percent_none : begins_with_percent (codes "") ≡ false
begins_with_percent_none = refl

-- how a name that doesn't begin with % is written: an identifier, which is the name or the name after %
pub record IsIdentifierOf (name word : List ℕ) : Type 0 where
  pub plain : begins_with_percent name ≡ false
  pub token : IsOneToken word Ident
  pub text : (word ≡ name) ⊎ (word ≡ codes "%" ++ name)

-- the name begins with %, or it is no identifier, nor is it one after %
abbrev pub HasNoIdentifier : List ℕ → Type 0
HasNoIdentifier name =
    (begins_with_percent name ≡ true) ⊎ ((¬ (IsOneToken name Ident)) × (¬ (IsOneToken (codes "%" ++ name) Ident)))

-- a text, and after @ the version, if there is one
abbrev pub versioned : List ℕ → Option (Bor (List ℕ)) → List ℕ
versioned text None = text
versioned text (Some version) = text ++ (codes "@" ++ version.now)
