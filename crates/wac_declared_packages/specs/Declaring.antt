-- The package that a document declares, or why it declares none.
use Rattle.std.specs.Prelude.{◌≡◌, ◌⊎◌, ℕ, List, Option, None}
use Rattle.wac_graph_types.specs.Growth.{KeepsMeanings}
use Rattle.wac_graph_types.specs.Package.{PackageParts}
use Rattle.wac_graph_types.specs.Scope.{Named}
use Rattle.wac_graph.specs.declared.package_key.PackageKey.{PackageKey}
use Rattle.wac_graph.specs.Graph.{Parts}
use Rattle.wac_declared_packages.specs.Definitions.{AreExported, HasWorld}
use Rattle.wac_ast_grammar.specs.Tree.{Document}
use Rattle.wac_resolution_errors.specs.Error.{Reports}
use Rattle.wac_resolution_errors.specs.ErrorModel.{error_model}
use Rattle.wac_resolution_errors.specs.declared.error.Error.{Error as ResolutionError}
use Rattle.wac_resolution_rules.specs.Given.{Rules}
use Rattle.wac_resolution_rules.specs.ResolvedDocument.{Describes, EveryNumbering, FirstFailing, given_to}
use Rattle.wac_resolution_state.specs.Nodes.{composition_of}
use Rattle.wac_resolution.specs.Resolved.{by_key}
use Rattle.wac_declared_packages.specs.declared.error.DeclarationError.{DeclarationError}
use Rattle.wac_declared_packages.specs.declared.error.DeclarationError.TheVariants as errors
use Rattle.wac_declared_packages.specs.Refusing.{IsDeclaration, IsMemory, IsUnmade, Unfit}

-- rules that reject nothing
abbrev pub no_rules : Rules
no_rules = record { passes = λ _ _. None; named = λ _. None }

-- with these packages the document has the graph's composition, whatever the numbering of origins
abbrev pub IsGraphOf : List (PackageKey × PackageParts) → Document → Parts → Type 0
IsGraphOf packages d g = (declared : Named ℕ)
    × EveryNumbering (λ numbering. Describes (given_to numbering (by_key packages) no_rules d) d
    (composition_of numbering g declared))

-- the package has what the document's graph exports, and its world is the one of that name, or the only one
pub record IsDeclaredBy (packages : List (PackageKey × PackageParts)) (d : Document) (world : Option (List ℕ))
    (p : PackageParts) : Type 0 where
  pub graph : Parts
  pub of_document : IsGraphOf packages d graph
  pub definitions : AreExported graph p.definitions
  pub means : KeepsMeanings graph.types p.types
  pub has_world : HasWorld world p

-- ---- why it declares none

-- the first of the document's statements that fails with these packages breaks the rule, whatever the numbering of origins
abbrev pub Breaks : List (PackageKey × PackageParts) → Document → ResolutionError → Type 0
Breaks packages d cause = EveryNumbering
    (λ numbering. Reports (error_model cause) (FirstFailing (given_to numbering (by_key packages) no_rules d) d (error_model cause)))

-- the error has the rule that the document breaks, unless memory ran out
abbrev pub IsUnresolved : List (PackageKey × PackageParts) → Document → DeclarationError → Type 0
IsUnresolved packages d e = ((cause : ResolutionError) × (e ≡ errors.Resolution cause) × Breaks packages d cause)
    ⊎ IsMemory e

-- the document is no declaration, as the error says; or it is one that can't be resolved, or that makes no package
abbrev pub IsRefused : List (PackageKey × PackageParts) → Document → DeclarationError → Type 0
IsRefused packages d e = Unfit d e
    ⊎ (IsDeclaration d × (IsUnresolved packages d e ⊎ IsUnmade d.directive.package_name.span e))
