-- What is said of a document that breaks a rule.
use Rattle.wac_ast_grammar.specs.Tree.{Document}
use Rattle.wac_resolution_errors.specs.Error.{Error}
use Rattle.wac_tool_graphs.specs.Alone.{BreaksRule}
use Rattle.wac_diagnostics.specs.declared.diagnostic.Diagnostic.{Diagnostic}
use Rattle.wac_first_error.specs.Diagnostics.{IsOfResolving}

-- the diagnostic is that of the first rule that the document breaks
abbrev pub IsOfRule : Document → Diagnostic → Type 0
IsOfRule document d = (e : Error) × BreaksRule document e × IsOfResolving e d
