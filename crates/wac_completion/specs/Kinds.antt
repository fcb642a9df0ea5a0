-- All kinds of tokens.
use Rattle.std.specs.Prelude.{◌≡◌, refl, ℕ, suc, Bool, true, false, ◌||◌, List, [], ◌∷◌, Ok, map}
use Rattle.wac_lexer.specs.declared.token.Token.{Token}
use Rattle.wac_lexer.specs.declared.token.Token.TheVariants as t
use Rattle.wac_ast_grammar.specs.Tokens.{is_token, kind}

-- in order
abbrev pub kinds : List Token
kinds =
    t.Comment
    ∷ t.BlockComment
    ∷ t.Ident
    ∷ t.String
    ∷ t.PackageName
    ∷ t.PackagePath
    ∷ t.ImportKeyword
    ∷ t.WithKeyword
    ∷ t.TypeKeyword
    ∷ t.TupleKeyword
    ∷ t.ListKeyword
    ∷ t.OptionKeyword
    ∷ t.ResultKeyword
    ∷ t.BorrowKeyword
    ∷ t.ResourceKeyword
    ∷ t.VariantKeyword
    ∷ t.RecordKeyword
    ∷ t.FlagsKeyword
    ∷ t.EnumKeyword
    ∷ t.FuncKeyword
    ∷ t.StaticKeyword
    ∷ t.ConstructorKeyword
    ∷ t.U8Keyword
    ∷ t.S8Keyword
    ∷ t.U16Keyword
    ∷ t.S16Keyword
    ∷ t.U32Keyword
    ∷ t.S32Keyword
    ∷ t.U64Keyword
    ∷ t.S64Keyword
    ∷ t.F32Keyword
    ∷ t.F64Keyword
    ∷ t.CharKeyword
    ∷ t.BoolKeyword
    ∷ t.StringKeyword
    ∷ t.InterfaceKeyword
    ∷ t.WorldKeyword
    ∷ t.ExportKeyword
    ∷ t.NewKeyword
    ∷ t.LetKeyword
    ∷ t.UseKeyword
    ∷ t.IncludeKeyword
    ∷ t.AsKeyword
    ∷ t.PackageKeyword
    ∷ t.TargetsKeyword
    ∷ t.AsyncKeyword
    ∷ t.StreamKeyword
    ∷ t.FutureKeyword
    ∷ t.ErrorContextKeyword
    ∷ t.Semicolon
    ∷ t.OpenBrace
    ∷ t.CloseBrace
    ∷ t.Colon
    ∷ t.Equals
    ∷ t.OpenParen
    ∷ t.CloseParen
    ∷ t.Arrow
    ∷ t.OpenAngle
    ∷ t.CloseAngle
    ∷ t.Underscore
    ∷ t.OpenBracket
    ∷ t.CloseBracket
    ∷ t.Dot
    ∷ t.Ellipsis
    ∷ t.Comma
    ∷ t.Slash
    ∷ t.At
    ∷ []

abbrev is_among : Token → List Token → Bool
is_among k [] = false
is_among k (other ∷ ks) = is_token k (Ok other) || is_among k ks

-- none is missing
all_kinds : (k : Token) → is_among k kinds ≡ true
all_kinds t.Comment = refl
all_kinds _ = refl

-- the numbers below one, after so many
abbrev counted : ℕ → List Token → List ℕ
counted n [] = []
counted n (k ∷ ks) = n ∷ counted (suc n) ks

-- each stands in its own place
in_order : map kind kinds ≡ counted 0 kinds
in_order = refl
