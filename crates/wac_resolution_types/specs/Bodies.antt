-- Bodies as they are resolved into a graph.
use Rattle.std.specs.Prelude.{◌≡◌, ℕ, List, [], ◌∷◌, ◌++◌}
use Rattle.std.specs.List.{AllByRecursion}
use Rattle.wac_lexer.specs.Span.{Span}
use Rattle.wac_ast_grammar.specs.Tree.{Ident, ResourceMethod, ItemTypeDecl}
use Rattle.wac_graph_types.specs.declared.kind.ExternKind.{ExternKind}
use Rattle.wac_graph_types.specs.declared.kind.ItemKind.{ItemKind}
use Rattle.wac_graph_types.specs.declared.kind.ItemKind.TheVariants as kinds
use Rattle.wac_graph_types.specs.declared.kind.«Type».TheVariants as types
use Rattle.wac_graph_types.specs.declared.kind.ResourceId.{ResourceId}
use Rattle.wac_graph_types.specs.declared.entry.Entry.{Entry}
use Rattle.wac_graph_types.specs.declared.entry.UsedType.{UsedType}
use Rattle.wac_graph_types.specs.Scope.{Named, IsFresh}
use Rattle.wac_graph_types.specs.Shape.{items_mean, uses_mean}
use Rattle.wac_graph_types.specs.Steps.{Steps}
use Rattle.wac_graph_types.specs.Table.{Names, ItemsNamed}
use Rattle.wac_graph.specs.Graph.{Parts}
use Rattle.wac_graph.specs.Means.{entry_means, declared_count}
use Rattle.wac_graph.specs.Origin.{Numbering}
use Rattle.wac_graph.specs.Resources.{resource_entry}
use Rattle.wac_resolution_rules.specs.Bodies.{Body, HasMethod, with_resource, HasItem}
use Rattle.wac_resolution_rules.specs.Places.{at_ident}
use Rattle.wac_resolution_rules.specs.Spans.{item_identifier}
use Rattle.wac_resolution_state.specs.Bindings.{values_of, places_of}
use Rattle.wac_resolution_state.specs.Growth.{Grows}
use Rattle.wac_resolution_state.specs.Named.{scope_of}
use Rattle.wac_resolution_types.specs.declared.body.Body.{Body as CodeBody}
use Rattle.wac_resolution_types.specs.Lists.{Lists, lists_of, kinds_of, with_bound}

-- ---- what a body means

-- under a numbering of origins
abbrev pub body_in : Numbering → Parts → Lists → Body
body_in numbering g b = record {
  scope = scope_of numbering g (values_of b.names);
  uses = uses_mean (entry_means numbering g) b.uses;
  imports = items_mean (entry_means numbering g) b.imports;
  exports = items_mean (entry_means numbering g) b.exports;
  resources = declared_count g;
}

abbrev pub body_of : Numbering → Parts → CodeBody → Body
body_of numbering g b = body_in numbering g (lists_of b)

-- ---- bodies of a graph

-- the interfaces of the used types are entries of the table
abbrev pub UsesNamed : List Entry → Named UsedType → Type 0
UsesNamed es all = AllByRecursion (λ u. Names es (kinds.Instance u.1.interface)) all

-- each of these names is among the externs
abbrev pub Covers : {X : Type 0} → ExternKind → Lists → Named X → Type 0
Covers side b all = (name : List ℕ) → IsFresh name (kinds_of side b) → IsFresh name all

-- the kinds of a body name entries, and each name of its scope and of its uses is among the externs of this side
pub record IsBody (es : List Entry) (side : ExternKind) (b : Lists) : Type 0 where
  pub names : ItemsNamed es (values_of b.names)
  pub uses : UsesNamed es b.uses
  pub imports : ItemsNamed es b.imports
  pub exports : ItemsNamed es b.exports
  pub bound : Covers side b b.names
  pub used : Covers side b b.uses

-- the graph got more types, and the body is another one: these names were bound, and this holds of what both mean
pub record BodyStep (side : ExternKind) (old new : Parts) (b c : Lists) (bound : Named Span)
    (holds : Numbering → Body → Body → Type 0) : Type 0 where
  pub grows : Grows old new
  pub body : IsBody new.types side c
  pub places : places_of c.names ≡ places_of b.names ++ bound
  pub goes : (numbering : Numbering) → holds numbering (body_in numbering old b) (body_in numbering new c)

-- ---- resources

-- a method of a resource
abbrev pub MethodStep : ExternKind → Parts → Parts → List ℕ → ResourceId → Lists → Lists → ResourceMethod → Type 0
MethodStep side old new name r b c x = BodyStep side old new b c []
    (λ numbering before after. HasMethod side name (entry_means numbering old r.0) before x after)

-- methods in order
abbrev pub MethodSteps : ExternKind → Parts → Parts → List ℕ → ResourceId → Lists → Lists → List ResourceMethod → Type 0
MethodSteps side old new name r b c xs = BodyStep side old new b c []
    (λ numbering before after. Steps (HasMethod side name (entry_means numbering old r.0)) before xs after)

-- a resource without its methods
pub record ResourceStep (side : ExternKind) (old new : Parts) (b c : Lists) (id : Ident) (r : ResourceId) : Type 0 where
  pub bound : IsFresh id.string (values_of b.names)
  pub fresh : IsFresh id.string (kinds_of side b)
  pub body : BodyStep side old new b c (at_ident id ∷ [])
      (λ numbering before after. after ≡ with_resource numbering side before id.string)
  pub there : Names new.types (kinds.Ty (types.Resource r))
  pub is : (numbering : Numbering) → entry_means numbering new r.0 ≡ resource_entry numbering (declared_count old) id.string

-- ---- declarations of types

-- a new name denotes this kind
pub record IsDeclared (side : ExternKind) (b c : Lists) (id : Ident) (k : ItemKind) : Type 0 where
  pub bound : IsFresh id.string (values_of b.names)
  pub fresh : IsFresh id.string (kinds_of side b)
  pub is : c ≡ with_bound side b id.string id.span k

-- what an item declares
abbrev pub DeclarationStep : ExternKind → Parts → Parts → Lists → Lists → ItemTypeDecl → Type 0
DeclarationStep side old new b c x = BodyStep side old new b c (at_ident (item_identifier x) ∷ [])
    (λ numbering before after. HasItem numbering side before x after)
