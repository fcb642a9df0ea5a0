-- What resolving returns: exactly the composition that a document describes, or a rule that the first failing statement
-- breaks.
use Rattle.std.specs.Prelude.{◌≡◌, ◌↔◌, List, ◌∷◌, ◌++◌, Some, Result, Ok, Err, ◌⊎◌}
use Rattle.wac_graph_types.specs.Steps.{Steps}
use Rattle.wac_graph_types.specs.Package.{PackageParts}
use Rattle.wac_graph.specs.Origin.{Numbering, IsOneToOne}
use Rattle.wac_graph.specs.Package.{Key}
use Rattle.wac_graph.specs.Packages.{supplied_packages}
use Rattle.wac_ast_grammar.specs.Tree.{PackageName, PackagePath, Statement, Document}
use Rattle.wac_ast_grammar.specs.Version.{version_text}
use Rattle.wac_resolution_rules.specs.Paths.{Context}
use Rattle.wac_resolution_rules.specs.Given.{Given, Rules}
use Rattle.wac_resolution_rules.specs.Composition.{Composition, start}
use Rattle.wac_resolution_rules.specs.Statements.{StatementStep, Composes}
use Rattle.wac_resolution_rules.specs.Target.{MeetsPath, MeetsTarget}
use Rattle.wac_resolution_errors.specs.Error.{Error, Reports, memory}
use Rattle.wac_resolution_rules.specs.BrokenStatements.{StatementBroken, TargetBroken}
use Rattle.wac_resolution_rules.specs.Places.{Leads, Placed, placed_start}

-- the context of a document of this package: the given packages, by what they mean
abbrev pub context_within : Numbering → List (Key × PackageParts) → PackageName → Context
context_within numbering packages own =
    record { numbering = numbering; own = own.name; version = version_text own.string; packages = supplied_packages numbering packages }

-- what a document is resolved with
abbrev pub given_to : Numbering → List (Key × PackageParts) → Rules → Document → Given
given_to numbering packages rules doc =
    record { context = context_within numbering packages doc.directive.package_name; rules = rules }

-- the document's statements have this composition, and the target allows it
abbrev pub Describes : Given → Document → Composition → Type 0
Describes s doc c = Composes s start doc.statements c × MeetsTarget s c doc.directive.targets

-- the two documents describe the same, whatever the packages and the rules are
abbrev pub DescribeAlike : Document → Document → Type 0
DescribeAlike a b = (numbering : Numbering) (packages : List (Key × PackageParts)) (rules : Rules) (c : Composition)
    → Describes (given_to numbering packages rules a) a c ↔ Describes (given_to numbering packages rules b) b c

-- the statements before it have a composition; with it there is none, for it breaks a rule
pub record StatementFails (s : Given) (doc : Document) (e : Error) : Type 0 where
  pub before : List Statement
  pub failing : Statement
  pub after : List Statement
  pub split : doc.statements ≡ before ++ failing ∷ after
  pub so_far : Placed
  pub leads : Steps (Leads s) (placed_start start) before so_far
  pub broken : StatementBroken s so_far.composition so_far.places e failing
  pub stops : (next : Composition) → StatementStep s so_far.composition failing next → ⊥

-- all statements have a composition, and the target doesn't allow it
pub record TargetFails (s : Given) (doc : Document) (e : Error) : Type 0 where
  pub target : PackagePath
  pub has_target : doc.directive.targets ≡ Some target
  pub whole : Placed
  pub leads : Steps (Leads s) (placed_start start) doc.statements whole
  pub broken : TargetBroken s whole.composition whole.places e target
  pub stops : MeetsPath s whole.composition target → ⊥

-- a statement fails first, or the target, and the error names the rule
abbrev pub FirstFailing : Given → Document → Error → Type 0
FirstFailing s doc e = StatementFails s doc e ⊎ TargetFails s doc e

-- ---- what resolving promises, for each numbering that is one to one

-- under every numbering of origins that is one to one
abbrev pub EveryNumbering : (Numbering → Type 0) → Type 0
EveryNumbering P = (numbering : Numbering) → IsOneToOne numbering → P numbering

-- what is returned is described
abbrev pub GraphClause : Given → Document → Result Composition Error → Type 0
GraphClause s doc (Ok c) = Describes s doc c
GraphClause s doc (Err e) = Unit {0}

-- what is described is returned, unless memory ran out
abbrev pub OnlyClause : Given → Document → Result Composition Error → Type 0
OnlyClause s doc (Ok c) = Unit {0}
OnlyClause s doc (Err e) = (c : Composition) → Describes s doc c → e ≡ memory

-- the error names a rule that the first failing statement breaks, unless memory ran out
abbrev pub FirstClause : Given → Document → Result Composition Error → Type 0
FirstClause s doc (Ok c) = Unit {0}
FirstClause s doc (Err e) = Reports e (FirstFailing s doc e)
