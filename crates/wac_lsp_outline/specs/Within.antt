-- Where symbols lie.
use Rattle.std.specs.Prelude.{ℕ, ◌≤◌, List, length}
use Rattle.wac_lexer.specs.Reading.{Slices}
use Rattle.wac_lexer.specs.Span.{end_of}
use Rattle.wac_lsp_outline.specs.declared.symbol.Symbol.{Symbol}

-- the name of a symbol is a part of the text and lies in its declaration, and that in the text
pub record IsWithin (text : List ℕ) (symbol : Symbol) : Type 0 where
  pub slices : Slices text symbol.name
  pub begins : symbol.start ≤ symbol.name.offset
  pub ends : end_of symbol.name ≤ symbol.end
  pub within : symbol.end ≤ length text
