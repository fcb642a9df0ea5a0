-- Which text of a document stands.
use Rattle.std.specs.Prelude.{ℕ, List, Option, Some, None, String, option_map, string_bytes}
use Rattle.std.specs.declared.alloc.Global.{Global}
use Rattle.wac_lsp_workspace.specs.declared.sources.Opened.{Opened}
use Rattle.wac_lsp_workspace.specs.declared.sources.Source.{Source}

abbrev pub bytes_of : Option (String Global) → Option (List ℕ)
bytes_of text = option_map string_bytes text

-- the open text where the document is open, and else that of its file
abbrev pub stands : Option Opened → Option (String Global) → Option (List ℕ)
stands (Some opened) saved = bytes_of opened.text
stands None saved = bytes_of saved

abbrev pub text_of : Source → Option (List ℕ)
text_of source = stands source.opened source.saved
