-- A text of each token's shape.
use Rattle.std.specs.Prelude.{◌≡◌, ℕ, List, [], Some, Bool, true, false, ◌⊎◌, codes}
use Rattle.wac_lexer.specs.declared.token.Token.{Token}
use Rattle.wac_lexer.specs.declared.token.Token.TheVariants as t
use Rattle.wac_lexer.specs.Tokens.{token_of}
use Rattle.wac_ast_grammar.specs.Tokens.{valid}

abbrev pub text_of : Token → List ℕ
text_of t.Ident = codes "a"
text_of t.String = codes "\"\""
text_of t.PackageName = codes "a:b"
text_of t.PackagePath = codes "a:b/c"
text_of t.ImportKeyword = codes "import"
text_of t.WithKeyword = codes "with"
text_of t.TypeKeyword = codes "type"
text_of t.TupleKeyword = codes "tuple"
text_of t.ListKeyword = codes "list"
text_of t.OptionKeyword = codes "option"
text_of t.ResultKeyword = codes "result"
text_of t.BorrowKeyword = codes "borrow"
text_of t.ResourceKeyword = codes "resource"
text_of t.VariantKeyword = codes "variant"
text_of t.RecordKeyword = codes "record"
text_of t.FlagsKeyword = codes "flags"
text_of t.EnumKeyword = codes "enum"
text_of t.FuncKeyword = codes "func"
text_of t.StaticKeyword = codes "static"
text_of t.ConstructorKeyword = codes "constructor"
text_of t.U8Keyword = codes "u8"
text_of t.S8Keyword = codes "s8"
text_of t.U16Keyword = codes "u16"
text_of t.S16Keyword = codes "s16"
text_of t.U32Keyword = codes "u32"
text_of t.S32Keyword = codes "s32"
text_of t.U64Keyword = codes "u64"
text_of t.S64Keyword = codes "s64"
text_of t.F32Keyword = codes "f32"
text_of t.F64Keyword = codes "f64"
text_of t.CharKeyword = codes "char"
text_of t.BoolKeyword = codes "bool"
text_of t.StringKeyword = codes "string"
text_of t.InterfaceKeyword = codes "interface"
text_of t.WorldKeyword = codes "world"
text_of t.ExportKeyword = codes "export"
text_of t.NewKeyword = codes "new"
text_of t.LetKeyword = codes "let"
text_of t.UseKeyword = codes "use"
text_of t.IncludeKeyword = codes "include"
text_of t.AsKeyword = codes "as"
text_of t.PackageKeyword = codes "package"
text_of t.TargetsKeyword = codes "targets"
text_of t.AsyncKeyword = codes "async"
text_of t.StreamKeyword = codes "stream"
text_of t.FutureKeyword = codes "future"
text_of t.ErrorContextKeyword = codes "error-context"
text_of t.Semicolon = codes ";"
text_of t.OpenBrace = codes "{"
text_of t.CloseBrace = codes "}"
text_of t.Colon = codes ":"
text_of t.Equals = codes "="
text_of t.OpenParen = codes "("
text_of t.CloseParen = codes ")"
text_of t.Arrow = codes "->"
text_of t.OpenAngle = codes "<"
text_of t.CloseAngle = codes ">"
text_of t.Underscore = codes "_"
text_of t.OpenBracket = codes "["
text_of t.CloseBracket = codes "]"
text_of t.Dot = codes "."
text_of t.Ellipsis = codes "..."
text_of t.Comma = codes ","
text_of t.Slash = codes "/"
text_of t.At = codes "@"
text_of t.Comment = []
text_of t.BlockComment = []

-- comments are tokens that no text is
abbrev pub is_comment : Token → Bool
is_comment t.Comment = true
is_comment t.BlockComment = true
is_comment k = false

-- The text is of the token's shape, and is a right text of it.
abbrev pub HasText : Token → Type 0
HasText k = (is_comment k ≡ true) ⊎ ((token_of (text_of k) ≡ Some k) × (valid k (text_of k) ≡ true))
