-- What a document alone resolves to: with no package supplied, and by the rules of the program.
use Rattle.std.specs.Prelude.{◌≡◌, ◌≢◌, ℕ, List, Option, alloc_error, string_bytes}
use Rattle.wac_lexer.specs.Span.{Span}
use Rattle.wac_graph_types.specs.Scope.{Named}
use Rattle.wac_ast_grammar.specs.Tree.{Document}
use Rattle.wac_ast_grammar.specs.TextTree.{IsTreeOf}
use Rattle.wac_graph.specs.Graph.{Parts}
use Rattle.wac_resolution_errors.specs.Error.{Error as ErrorModel}
use Rattle.wac_resolution_errors.specs.Messages.{text_of}
use Rattle.wac_resolution_errors.specs.Places.{span_of}
use Rattle.wac_resolution_errors.specs.ErrorModel.{error_model}
use Rattle.wac_resolution_errors.specs.declared.error.Error.{Error}
use Rattle.wac_resolution_errors.specs.declared.error.Error.TheVariants as errors
use Rattle.wac_resolution_rules.specs.Composition.{Composition}
use Rattle.wac_resolution_rules.specs.ResolvedDocument.{Describes, EveryNumbering}
use Rattle.wac_resolution_state.specs.Nodes.{composition_of}
use Rattle.wac_tool_graphs.specs.Lines.{graph_lines}
use Rattle.wac_tool_graphs.specs.Alone.{alone, BreaksRule}
use Rattle.wac_tool.specs.declared.error.RunError.{RunError}
use Rattle.wac_tool.specs.declared.error.RunError.TheVariants.{Refused, Memory}

-- ---- what is written, and what is rejected

-- The document describes a composition, and these are its lines.
abbrev pub IsGraphText : Document → List ℕ → Type 0
IsGraphText document out = EveryNumbering (λ numbering. (c : Composition) × Describes (alone numbering document) document c × (out ≡ graph_lines c))

-- The document breaks a rule: its error names it, and has this place and this text.
abbrev pub IsRejected : Document → Option Span → List ℕ → Type 0
IsRejected document place text = (e : ErrorModel) × BreaksRule document e × (place ≡ span_of e) × (text ≡ text_of e)

-- ---- graphs and errors

-- The graph denotes what the document describes, where some names are bound at root.
abbrev pub IsGraphOf : Document → Parts → Type 0
IsGraphOf document g = (declared : Named ℕ) × EveryNumbering (λ numbering. Describes (alone numbering document) document (composition_of numbering g declared))

-- The source has a document, and the graph is that document's.
abbrev pub HasGraph : List ℕ → Parts → Type 0
HasGraph source g = (document : Document) × IsTreeOf source document × IsGraphOf document g

-- what is returned for an error: its place and its text, unless memory ran out
abbrev pub IsRejection : Error → RunError → Type 0
IsRejection e (Refused place message) = (place ≡ span_of (error_model e)) × (e ≢ errors.Memory alloc_error) × (string_bytes message ≡ text_of (error_model e))
IsRejection e (Memory _) = Unit {0}
IsRejection e answer = ⊥

-- what is returned for a document that can't be resolved: where it breaks which rule, unless memory ran out
abbrev pub IsErrorOf : Document → RunError → Type 0
IsErrorOf document (Refused place message) = IsRejected document place (string_bytes message)
IsErrorOf document (Memory _) = Unit {0}
IsErrorOf document answer = ⊥
