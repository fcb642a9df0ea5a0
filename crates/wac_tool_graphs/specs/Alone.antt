-- What a document alone resolves to: with no package supplied, and by the rules of the program.
use Rattle.std.specs.Prelude.{[], None}
use Rattle.wac_ast_grammar.specs.Tree.{Document}
use Rattle.wac_graph.specs.Origin.{Numbering}
use Rattle.wac_resolution_errors.specs.Error.{Error, NamesRule}
use Rattle.wac_resolution_rules.specs.Composition.{Composition}
use Rattle.wac_resolution_rules.specs.Given.{Given, Rules, rules_by}
use Rattle.wac_resolution_rules.specs.ResolvedDocument.{given_to, Describes, FirstFailing, EveryNumbering}
use Rattle.wac_tool_graphs.specs.Rules.{same_passes}

-- a kind fits one of equal meaning, and any text may be a name
abbrev pub same_rules : Rules
same_rules = rules_by same_passes (λ name. None)

-- what a document is resolved with
abbrev pub alone : Numbering → Document → Given
alone numbering document = given_to numbering [] same_rules document

-- the document describes a composition
abbrev pub IsComposition : Document → Type 0
IsComposition document = EveryNumbering (λ numbering. (c : Composition) × Describes (alone numbering document) document c)

-- the document breaks a rule, and this error names the first that it breaks
abbrev pub BreaksRule : Document → Error → Type 0
BreaksRule document e = NamesRule e × EveryNumbering (λ numbering. FirstFailing (alone numbering document) document e)
