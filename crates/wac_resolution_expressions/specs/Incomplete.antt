-- Imports that are left out.
use Rattle.std.specs.Prelude.{◌≡◌, ℕ, List, ◌∷◌, false}
use Rattle.wac_graph_types.specs.declared.kind.WorldId.{WorldId}
use Rattle.wac_graph_types.specs.Meaning.{Meaning}
use Rattle.wac_graph_types.specs.Scope.{Named}
use Rattle.wac_ast_grammar.specs.Tree.{PackageName, Arguments}
use Rattle.wac_graph.specs.Graph.{Parts}
use Rattle.wac_graph.specs.Origin.{Numbering}
use Rattle.wac_resolution_errors.specs.Error.{Error, missing_instantiation_arg}
use Rattle.wac_resolution_rules.specs.Expressions.{has_fill, left_out}
use Rattle.wac_resolution_expressions.specs.Spreads.{imports_at}

-- nothing is given for an import of the world, and there is no fill
abbrev pub IsIncomplete : Parts → WorldId → PackageName → Arguments → Named ℕ → Error → Type 0
IsIncomplete g w x args given e = (has_fill args ≡ false)
    × ((numbering : Numbering) → (i : List ℕ × Meaning) × (others : Named Meaning)
    × (left_out (imports_at numbering g w) given ≡ i ∷ others) × (e ≡ missing_instantiation_arg i.0 x.string x.span))
