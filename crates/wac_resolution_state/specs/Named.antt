-- What identifiers denote, where each name denotes a kind of a graph.
use Rattle.std.specs.Prelude.{List}
use Rattle.wac_ast_grammar.specs.Tree.{Ident, Ty}
use Rattle.wac_graph_types.specs.declared.kind.ItemKind.{ItemKind}
use Rattle.wac_graph_types.specs.declared.kind.ItemKind.TheVariants as kinds
use Rattle.wac_graph_types.specs.declared.kind.ValueType.{ValueType}
use Rattle.wac_graph_types.specs.declared.entry.Entry.{Entry}
use Rattle.wac_graph_types.specs.Scope.{Named, Scope, StandsFor}
use Rattle.wac_graph_types.specs.Shape.{items_mean}
use Rattle.wac_graph_types.specs.Table.{Names, ItemsNamed}
use Rattle.wac_graph.specs.Graph.{Parts}
use Rattle.wac_graph.specs.Means.{means, entry_means}
use Rattle.wac_graph.specs.Origin.{Numbering}
use Rattle.wac_resolution_rules.specs.Types.{HasType}

-- named kinds with what they mean, under a numbering of origins
abbrev pub scope_of : Numbering → Parts → Named ItemKind → Scope
scope_of numbering g ks = items_mean (entry_means numbering g) ks

-- the identifier denotes this kind, whatever the graph is
pub record KindIs (ks : Named ItemKind) (x : Ident) (k : ItemKind) : Type 0 where
  pub is : (numbering : Numbering) (g : Parts) → StandsFor (scope_of numbering g ks) x.string (means numbering g k)
  pub named : (es : List Entry) → ItemsNamed es ks → Names es k

-- the type, which adds nothing to a graph, is of these values
pub record ValueIs (ks : Named ItemKind) (t : Ty) (v : ValueType) : Type 0 where
  pub is : (numbering : Numbering) (g : Parts) → HasType (scope_of numbering g ks) t (means numbering g (kinds.Value v))
  pub named : (es : List Entry) → ItemsNamed es ks → Names es (kinds.Value v)
