-- The types of an interface that is named, as a body uses them.
use Rattle.std.specs.Prelude.{◌≡◌, ◌⊎◌, ◌++◌, List}
use Rattle.wac_lexer.specs.Span.{Span}
use Rattle.wac_ast_grammar.specs.Tree.{UsePath, Use}
use Rattle.wac_graph_types.specs.declared.kind.ExternKind.{ExternKind}
use Rattle.wac_graph_types.specs.declared.kind.InterfaceId.{InterfaceId}
use Rattle.wac_graph_types.specs.declared.kind.ItemKind.{ItemKind}
use Rattle.wac_graph_types.specs.declared.kind.ItemKind.TheVariants as kinds
use Rattle.wac_graph_types.specs.declared.kind.«Type».TheVariants as types
use Rattle.wac_graph_types.specs.Meaning.{Meaning}
use Rattle.wac_graph_types.specs.Package.{PackageParts}
use Rattle.wac_graph_types.specs.Scope.{Named, Scope}
use Rattle.wac_graph.specs.Graph.{Parts}
use Rattle.wac_graph.specs.Origin.{Numbering}
use Rattle.wac_graph.specs.Package.{Key}
use Rattle.wac_resolution_errors.specs.Error.{Error}
use Rattle.wac_resolution_rules.specs.Bodies.{Body, HasUse}
use Rattle.wac_resolution_rules.specs.BrokenBodies.{UsePathBroken, IsNoInterface}
use Rattle.wac_resolution_rules.specs.Paths as rules
use Rattle.wac_resolution_rules.specs.Places.{used_at}
use Rattle.wac_resolution_rules.specs.Spans.{use_path_name, use_path_span}
use Rattle.wac_resolution_state.specs.Bindings.{places_of}
use Rattle.wac_resolution_state.specs.Named.{scope_of}
use Rattle.wac_resolution_state.specs.declared.context.Context.{Context}
use Rattle.wac_resolution_state.specs.Expands.{Expands, AllSupplied, Found}
use Rattle.wac_resolution_state.specs.Context.{packages_in, context_of}
use Rattle.wac_resolution_types.specs.Lists.{Lists}
use Rattle.wac_resolution_types.specs.Bodies.{body_in, IsBody}

-- the path or identifier names this interface
abbrev pub IsInterface : Context → Parts → Parts → Named ItemKind → UsePath → InterfaceId → Type 0
IsInterface context old new root used i = Found (packages_in context) old new
    (λ numbering m. rules.UseNames (context_of numbering context) (scope_of numbering old root) used m)
    (kinds.Ty (types.Interface i))

-- it names none
abbrev pub IsNoneNamed : rules.Context → Scope → UsePath → Error → Type 0
IsNoneNamed context root used e = UsePathBroken context root used e
    ⊎ ((k : Meaning) × rules.UseNames context root used k × IsNoInterface k (use_path_name used) (use_path_span used) e)

-- the graph got more types and perhaps more packages, and the body is another one: these names were bound, and this
-- holds of what both bodies mean
pub record BodyExpands (packages : List (Key × PackageParts)) (side : ExternKind) (old new : Parts) (b c : Lists)
    (bound : Named Span) (holds : Numbering → Body → Body → Type 0) : Type 0 where
  pub grows : Expands old new
  pub supplied : AllSupplied packages new
  pub body : IsBody new.types side c
  pub places : places_of c.names ≡ places_of b.names ++ bound
  pub goes : (numbering : Numbering) → holds numbering (body_in numbering old b) (body_in numbering new c)

-- what a use resolves to
abbrev pub UseStatementStep : Context → ExternKind → Parts → Parts → Named ItemKind → Lists → Lists → Use → Type 0
UseStatementStep context side old new root b c u =
    BodyExpands (packages_in context) side old new b c (used_at u.items)
    (λ numbering before after. HasUse (context_of numbering context) (scope_of numbering old root) side before u after)
