-- What formatting a text returns.
use Rattle.std.specs.Prelude.{◌≡◌, ℕ, List, Result, String, IfOk, MatchResult, alloc_error, string_bytes}
use Rattle.std.specs.declared.alloc.Global.{Global}
use Rattle.wac_ast_base.specs.declared.error.Error.{Error}
use Rattle.wac_ast_base.specs.declared.error.Error.TheVariants.{Memory}
use Rattle.wac_ast_grammar.specs.TextTree.{IsTreeOf}
use Rattle.wac_ast_grammar.specs.Tree.{Document}
use Rattle.wac_printer_layout.specs.Reread.{IsFixed, printed, ReadsBack}

-- what is returned is printed of a tree of the source
abbrev pub PrintsOne : List ℕ → List ℕ → Result (String Global) Error → Type 0
PrintsOne space source result =
    IfOk result (λ text. (tree : Document) × IsTreeOf source tree × (string_bytes text ≡ printed space source tree))

-- this tree is printed, unless memory runs out
abbrev pub PrintsTree : List ℕ → List ℕ → Document → Result (String Global) Error → Type 0
PrintsTree space source tree result =
    MatchResult result (λ text. string_bytes text ≡ printed space source tree) (λ e. e ≡ Memory alloc_error)

-- what is returned reads back as a tree of the source
abbrev pub ReturnsReadable : List ℕ → List ℕ → Result (String Global) Error → Type 0
ReturnsReadable space source result =
    IfOk result (λ text. (tree : Document) × IsTreeOf source tree × ReadsBack space source tree (string_bytes text))

-- what is returned has a tree that is printed as what is returned
abbrev pub IsStable : List ℕ → Result (String Global) Error → Type 0
IsStable space result = IfOk result (λ text. IsFixed space (string_bytes text))
