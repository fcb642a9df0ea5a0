-- What an error says of the text whose graph was asked for.
use Rattle.std.specs.Prelude.{◌≡◌, ◌⊎◌, ℕ, List, alloc_error}
use Rattle.wac_ast.specs.Document.{ErrorOf}
use Rattle.wac_ast_base.specs.Error.{told_by}
use Rattle.wac_ast_base.specs.declared.error.Error.TheVariants as errors
use Rattle.wac_ast_grammar.specs.Tree.{Document}
use Rattle.wac_ast_grammar.specs.TextTree.{IsTreeOf}
use Rattle.wac_calls.specs.declared.error.GraphError.{GraphError}
use Rattle.wac_calls.specs.declared.error.GraphError.TheVariants.{Parse, Resolution, Package, Component, Memory}

-- the text is a document
abbrev pub IsDocument : List ℕ → Type 0
IsDocument source = (tree : Document) × IsTreeOf source tree

-- An error of parsing is that of the text, unless memory ran out. One of resolving or of a package comes of a document.
abbrev pub IsErrorOf : List ℕ → GraphError → Type 0
IsErrorOf source (Parse e) = (e ≡ errors.Memory alloc_error) ⊎ ErrorOf (told_by e) source
IsErrorOf source (Resolution e) = IsDocument source
IsErrorOf source (Package fault) = IsDocument source
IsErrorOf source (Component fault) = IsDocument source
IsErrorOf source (Memory e) = Unit {0}

-- an error of another kind than of parsing
abbrev pub IsErrorOfDocument : GraphError → Type 0
IsErrorOfDocument (Parse e) = ⊥
IsErrorOfDocument (Resolution e) = Unit {0}
IsErrorOfDocument (Package fault) = Unit {0}
IsErrorOfDocument (Component fault) = Unit {0}
IsErrorOfDocument (Memory e) = Unit {0}
