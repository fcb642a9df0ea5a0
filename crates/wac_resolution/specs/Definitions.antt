-- Type statements as they are executed in a graph.
use Rattle.wac_ast_grammar.specs.Tree.{TypeStatement}
use Rattle.wac_graph_types.specs.declared.kind.ItemKind.{ItemKind}
use Rattle.wac_graph.specs.Graph.{Parts}
use Rattle.wac_resolution_rules.specs.TypeStatements.{DeclaresKind}
use Rattle.wac_resolution_state.specs.declared.root.Root.{Root}
use Rattle.wac_resolution_state.specs.Root.{composed}
use Rattle.wac_resolution_state.specs.declared.context.Context.{Context}
use Rattle.wac_resolution_state.specs.Context.{packages_in, context_of}
use Rattle.wac_resolution_worlds.specs.Made.{KindMade}

-- the kind is the one that a type statement declares
abbrev pub KindDeclared : Context → Parts → Parts → Root → TypeStatement → ItemKind → Type 0
KindDeclared context old new root s k = KindMade (packages_in context) old new
    (λ numbering m after. DeclaresKind (context_of numbering context) (composed numbering old root) s m after) k
