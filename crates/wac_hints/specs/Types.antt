-- Which tokens begin a type.
use Rattle.std.specs.Prelude.{Bool, true, false}
use Rattle.wac_lexer.specs.declared.token.Token.{Token}
use Rattle.wac_lexer.specs.declared.token.Token.TheVariants as t

-- the token begins a type, and is no name
abbrev pub begins_type : Token → Bool
begins_type t.U8Keyword = true
begins_type t.S8Keyword = true
begins_type t.U16Keyword = true
begins_type t.S16Keyword = true
begins_type t.U32Keyword = true
begins_type t.S32Keyword = true
begins_type t.U64Keyword = true
begins_type t.S64Keyword = true
begins_type t.F32Keyword = true
begins_type t.F64Keyword = true
begins_type t.CharKeyword = true
begins_type t.BoolKeyword = true
begins_type t.StringKeyword = true
begins_type t.TupleKeyword = true
begins_type t.ListKeyword = true
begins_type t.OptionKeyword = true
begins_type t.ResultKeyword = true
begins_type t.BorrowKeyword = true
begins_type t.StreamKeyword = true
begins_type t.FutureKeyword = true
begins_type t.ErrorContextKeyword = true
begins_type token = false
