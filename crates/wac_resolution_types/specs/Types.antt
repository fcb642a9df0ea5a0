-- Types of values as they are resolved into a graph.
use Rattle.std.specs.Prelude.{List, Option, IfSome}
use Rattle.wac_ast_grammar.specs.Tree.{Ty, Types, OptionalTy}
use Rattle.wac_graph_types.specs.declared.kind.ItemKind.{ItemKind}
use Rattle.wac_graph_types.specs.declared.kind.ItemKind.TheVariants as kinds
use Rattle.wac_graph_types.specs.declared.kind.ValueType.{ValueType}
use Rattle.wac_graph_types.specs.Entry.{optional, tuple_children}
use Rattle.wac_graph_types.specs.Meaning.{EachKind}
use Rattle.wac_graph_types.specs.Scope.{Named}
use Rattle.wac_graph_types.specs.Shape.{types_mean, optional_means}
use Rattle.wac_graph_types.specs.Table.{Names}
use Rattle.wac_graph.specs.Graph.{Parts}
use Rattle.wac_graph.specs.Means.{means, entry_means}
use Rattle.wac_graph.specs.Origin.{Numbering}
use Rattle.wac_resolution_rules.specs.Types.{HasType, HasOptional, HaveTypes}
use Rattle.wac_resolution_state.specs.Growth.{GrowsPlainly}
use Rattle.wac_resolution_state.specs.Named.{scope_of}

-- the type has these values
pub record TypeIs (old new : Parts) (ks : Named ItemKind) (t : Ty) (v : ValueType) : Type 0 where
  pub grows : GrowsPlainly old new
  pub named : Names new.types (kinds.Value v)
  pub is : (numbering : Numbering) → HasType (scope_of numbering old ks) t (means numbering new (kinds.Value v))

-- the type, which may be left out, has these values
pub record OptionalIs (old new : Parts) (ks : Named ItemKind) (t : OptionalTy) (v : Option ValueType) : Type 0 where
  pub grows : GrowsPlainly old new
  pub named : IfSome (optional v) (Names new.types)
  pub is : (numbering : Numbering) → HasOptional (scope_of numbering old ks) t (optional_means (entry_means numbering new) v)

-- the types have these values, in order
pub record TypesAre (old new : Parts) (ks : Named ItemKind) (ts : Types) (vs : List ValueType) : Type 0 where
  pub grows : GrowsPlainly old new
  pub named : EachKind (Names new.types) (tuple_children vs)
  pub are : (numbering : Numbering) → HaveTypes (scope_of numbering old ks) ts (types_mean (entry_means numbering new) vs)
