-- The result of testing a whole composition.
use Rattle.std.specs.Prelude.{◌≡◌, ◌⊎◌, length, flat_map}
use Rattle.wac_lexer.specs.Span.{Span}
use Rattle.wac_graph_types.specs.declared.kind.ItemKind.{ItemKind}
use Rattle.wac_graph_types.specs.Readings.{world_exports}
use Rattle.wac_graph_types.specs.Scope.{Named, look_up}
use Rattle.wac_ast_grammar.specs.Tree.{PackagePath}
use Rattle.wac_graph.specs.Graph.{Parts}
use Rattle.wac_graph.specs.Means.{declared_count}
use Rattle.wac_graph.specs.Numbers.{numbers}
use Rattle.wac_graph.specs.Origin.{Numbering, IsOneToOne}
use Rattle.wac_resolution_errors.specs.Error.{Error}
use Rattle.wac_resolution_state.specs.declared.root.Root.{Root}
use Rattle.wac_resolution_state.specs.Root.{composed}
use Rattle.wac_resolution_state.specs.declared.context.Context.{Context}
use Rattle.wac_resolution_state.specs.Expands.{Expands, AllSupplied}
use Rattle.wac_resolution_state.specs.Context.{packages_in, context_of}
use Rattle.wac_resolution_rules.specs.BrokenStatements.{TargetBroken}
use Rattle.wac_resolution_rules.specs.Given.{Rules}
use Rattle.wac_resolution_rules.specs.Places.{Places}
use Rattle.wac_resolution_rules.specs.Target.{MeetsPath}
use Rattle.wac_resolution_statements.specs.Imported.{of_node, of_kind, open_at}
use Rattle.wac_resolution_statements.specs.Testing.{Testing, given_by, AllAllowed, SomeDenied, nowhere, AllMet, SomeUnmet}

-- what the instances of a graph leave open
abbrev pub opens_of : Parts → Named ItemKind
opens_of g = flat_map (open_at g) (numbers 0 (length g.nodes))

-- the world allows each import, and its exports are met
pub record WorldMet (t : Testing) : Type 0 where
  pub nodes : AllAllowed t (of_node t.graph) t.graph.imports
  pub opens : AllAllowed t (of_kind t.graph) (opens_of t.graph)
  pub exports : AllMet t (of_kind t.graph) (world_exports t.graph.types t.world)

-- the error says what is not allowed or not met, where imports and exports are at these places
abbrev pub WorldUnmet : Testing → Named Span → Named Span → Error → Type 0
WorldUnmet t imported exported e = SomeDenied t (of_node t.graph) (λ x. look_up x.0 imported) t.graph.imports e
    ⊎ ((AllAllowed t (of_node t.graph) t.graph.imports × SomeDenied t (of_kind t.graph) nowhere (opens_of t.graph) e)
    ⊎ (AllAllowed t (of_node t.graph) t.graph.imports × AllAllowed t (of_kind t.graph) (opens_of t.graph)
    × SomeUnmet t exported (of_kind t.graph) (world_exports t.graph.types t.world) e))

-- the path resolves to a world that allows the composition, under every numbering that is one to one
pub record Meets (context : Context) (rules : Rules) (old new : Parts) (root : Root) (path : PackagePath) : Type 0 where
  pub grows : Expands old new
  pub supplied : AllSupplied (packages_in context) new
  pub count : declared_count new ≡ declared_count old
  pub is : (numbering : Numbering) → IsOneToOne numbering
      → MeetsPath (given_by rules (context_of numbering context)) (composed numbering old root) path

-- the error says why not
abbrev pub Unmeets : Context → Rules → Parts → Root → PackagePath → Named Span → Named Span → Error → Type 0
Unmeets context rules old root path imported exported e = (numbering : Numbering) (p : Places) → IsOneToOne numbering
    → p.imported ≡ imported → p.exported ≡ exported
    → TargetBroken (given_by rules (context_of numbering context)) (composed numbering old root) p e path
