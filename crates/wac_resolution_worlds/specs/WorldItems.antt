-- Items of worlds, and worlds, as they are resolved into a graph.
use Rattle.std.specs.Prelude.{ℕ, List, [], Option}
use Rattle.wac_ast_grammar.specs.Tree.{Ident, ExternType, WorldItemPath, WorldItem, WorldInclude}
use Rattle.wac_graph_types.specs.declared.kind.ExternKind.{ExternKind}
use Rattle.wac_graph_types.specs.declared.kind.ExternKind.TheVariants as sides
use Rattle.wac_graph_types.specs.declared.kind.ItemKind.{ItemKind}
use Rattle.wac_graph_types.specs.declared.kind.ItemKind.TheVariants as kinds
use Rattle.wac_graph_types.specs.declared.kind.WorldId.{WorldId}
use Rattle.wac_graph_types.specs.declared.entry.Entry.{Entry}
use Rattle.wac_graph_types.specs.Package.{PackageParts}
use Rattle.wac_graph_types.specs.Scope.{Named}
use Rattle.wac_graph_types.specs.Shape.{entry_of, world_entry}
use Rattle.wac_graph_types.specs.Steps.{Steps}
use Rattle.wac_graph_types.specs.Table.{ItemsNamed}
use Rattle.wac_graph.specs.Graph.{Parts}
use Rattle.wac_graph.specs.Means.{means, declared_count}
use Rattle.wac_graph.specs.Origin.{Numbering}
use Rattle.wac_graph.specs.Package.{Key}
use Rattle.wac_resolution_rules.specs.Bodies.{Body}
use Rattle.wac_resolution_rules.specs.Includes.{HasInclude}
use Rattle.wac_resolution_rules.specs.Paths as rules
use Rattle.wac_resolution_rules.specs.Places.{bound_in_world_item, bound_in_world}
use Rattle.wac_resolution_rules.specs.Worlds.{HasExternType, HasInstance, HasExtern, HasWorldItem, IsWorld}
use Rattle.wac_resolution_state.specs.Bindings.{values_of}
use Rattle.wac_resolution_state.specs.Growth.{AddsWorld}
use Rattle.wac_resolution_state.specs.Named.{scope_of}
use Rattle.wac_resolution_state.specs.declared.context.Context.{Context}
use Rattle.wac_resolution_state.specs.Expands.{Expands, AllSupplied}
use Rattle.wac_resolution_state.specs.Context.{packages_in, context_of}
use Rattle.wac_resolution_types.specs.Lists.{Lists}
use Rattle.wac_resolution_types.specs.Bodies.{body_in, UsesNamed, BodyStep}
use Rattle.wac_resolution_worlds.specs.UseStatements.{BodyExpands}
use Rattle.wac_resolution_worlds.specs.Made.{KindMade}

-- ---- imports and exports

-- an interface, as an instance under its id
abbrev pub InstanceStep : Parts → ExternKind → ItemKind → Lists → Lists → Type 0
InstanceStep g side k b c =
    BodyStep sides.Import g g b c [] (λ numbering before after. HasInstance side before (means numbering g k) after)

-- the kind of an import or export that is given a name
abbrev pub ExternMade : Context → Parts → Parts → Named ItemKind → Named ItemKind → ExternType → ItemKind → Type 0
ExternMade context old new root names x k =
    KindMade (packages_in context) old new
    (λ numbering m after. HasExternType (context_of numbering context) (scope_of numbering old root)
    (scope_of numbering old names) (declared_count old) x m after) k

-- what an import or export of what an identifier denotes resolves to, whatever the context
abbrev pub IdentStep : ExternKind → Parts → Named ItemKind → Lists → Lists → Ident → Type 0
IdentStep side g root b c x = BodyStep sides.Import g g b c []
    (λ numbering before after. (context : rules.Context)
    → HasExtern context (scope_of numbering g root) side before (WorldItemPath.ident x) after)

-- what an import or export resolves to
abbrev pub ExternStep : Context → ExternKind → Parts → Parts → Named ItemKind → Lists → Lists → WorldItemPath → Type 0
ExternStep context side old new root b c x =
    BodyExpands (packages_in context) sides.Import old new b c []
    (λ numbering before after. HasExtern (context_of numbering context) (scope_of numbering old root) side before x after)

-- ---- items

-- what an item of a world resolves to
abbrev pub WorldItemStep : Context → Parts → Parts → Named ItemKind → Lists → Lists → WorldItem → Type 0
WorldItemStep context old new root b c x =
    BodyExpands (packages_in context) sides.Import old new b c (bound_in_world_item x)
    (λ numbering before after. HasWorldItem (context_of numbering context) (scope_of numbering old root) before x after)

-- items in order
abbrev pub WorldItemSteps : Context → Parts → Parts → Named ItemKind → Lists → Lists → List WorldItem → Type 0
WorldItemSteps context old new root b c xs =
    BodyExpands (packages_in context) sides.Import old new b c (bound_in_world xs)
    (λ numbering before after. Steps (HasWorldItem (context_of numbering context) (scope_of numbering old root)) before xs
    after)

-- ---- includes

-- the kinds of a body name entries
pub record AreNamed (es : List Entry) (b : Lists) : Type 0 where
  pub names : ItemsNamed es (values_of b.names)
  pub uses : UsesNamed es b.uses
  pub imports : ItemsNamed es b.imports
  pub exports : ItemsNamed es b.exports

-- the graph may have got packages, and the body is another one: this holds of what both bodies mean
pub record BodyIncludes (packages : List (Key × PackageParts)) (old new : Parts) (b c : Lists)
    (holds : Numbering → Body → Body → Type 0) : Type 0 where
  pub grows : Expands old new
  pub supplied : AllSupplied packages new
  pub named : AreNamed new.types c
  pub goes : (numbering : Numbering) → holds numbering (body_in numbering old b) (body_in numbering new c)

-- what includes resolve to, in order
abbrev pub IncludeSteps : Context → Parts → Parts → Named ItemKind → Lists → Lists → List WorldInclude → Type 0
IncludeSteps context old new root b c xs = BodyIncludes (packages_in context) old new b c
    (λ numbering before after. Steps (HasInclude (context_of numbering context) (scope_of numbering old root)) before xs after)

-- what an include resolves to
abbrev pub IncludeStep : Context → Parts → Parts → Named ItemKind → Lists → Lists → WorldInclude → Type 0
IncludeStep context old new root b c x = BodyIncludes (packages_in context) old new b c
    (λ numbering before after. HasInclude (context_of numbering context) (scope_of numbering old root) before x after)

-- ---- worlds

-- a world of this id, with the uses, imports and exports of a body, was added
abbrev pub WorldOf : Parts → Parts → Option (List ℕ) → Lists → WorldId → Type 0
WorldOf old new id b w = AddsWorld old new
    (λ numbering. world_entry id (body_in numbering old b).uses (body_in numbering old b).imports (body_in numbering old b).exports)
    w

-- a world of items
abbrev pub WorldMade : Context → Parts → Parts → Named ItemKind → Option (List ℕ) → List WorldItem → WorldId → Type 0
WorldMade context old new root id items w =
    KindMade (packages_in context) old new
    (λ numbering m after. IsWorld (context_of numbering context) (scope_of numbering old root) (declared_count old) id items
    (entry_of m) after) (kinds.Component w)
