-- Interfaces and worlds that the document declares.
use Rattle.std.specs.Prelude.{◌≡◌, ℕ, List, ◌++◌, option_map, codes}
use Rattle.wac_ast_grammar.specs.Tree.{InterfaceDecl, WorldItem}
use Rattle.wac_graph_types.specs.declared.kind.ItemKind.{ItemKind}
use Rattle.wac_graph_types.specs.Kind.{an_interface, a_world}
use Rattle.wac_graph_types.specs.Meaning.{Meaning}
use Rattle.wac_graph_types.specs.Scope.{Named}
use Rattle.wac_graph_types.specs.Shape.{kind_of}
use Rattle.wac_graph.specs.Graph.{Parts}
use Rattle.wac_graph.specs.Means.{declared_count}
use Rattle.wac_resolution_rules.specs.TypeStatements.{version_part, declared_id}
use Rattle.wac_resolution_rules.specs.Worlds.{IsInterface, IsWorld}
use Rattle.wac_resolution_state.specs.Named.{scope_of}
use Rattle.wac_resolution_state.specs.declared.context.Context.{Context}
use Rattle.wac_resolution_state.specs.Context.{packages_in, context_of}
use Rattle.wac_resolution_worlds.specs.Made.{KindMade}

-- the id of an interface or world of this name that the document declares
abbrev pub id_text : Context → List ℕ → List ℕ
id_text context name = context.own.now ++ codes "/" ++ name ++ version_part (option_map (λ v. v.now) context.version)

-- the kind is a declared interface
abbrev pub InterfaceDeclared : Context → Parts → Parts → Named ItemKind → InterfaceDecl → ItemKind → Type 0
InterfaceDeclared context old new root d k =
    KindMade (packages_in context) old new (λ numbering m after. (entry : Meaning)
    × IsInterface (context_of numbering context) (scope_of numbering old root) (declared_count old)
    (declared_id (context_of numbering context) d.id.string) d.items entry after
    × (m ≡ kind_of an_interface entry)) k

-- the kind is a declared world of this name and these items
abbrev pub WorldDeclared : Context → Parts → Parts → Named ItemKind → List ℕ → List WorldItem → ItemKind → Type 0
WorldDeclared context old new root name items k =
    KindMade (packages_in context) old new (λ numbering m after. (entry : Meaning)
    × IsWorld (context_of numbering context) (scope_of numbering old root) (declared_count old)
    (declared_id (context_of numbering context) name) items entry after
    × (m ≡ kind_of a_world entry)) k
