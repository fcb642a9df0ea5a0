-- What imports import, as it is added to a graph.
use Rattle.std.specs.Prelude.{◌≡◌, []}
use Rattle.wac_ast_grammar.specs.Tree.{FuncType, ImportType}
use Rattle.wac_graph_types.specs.declared.kind.FuncKind.TheVariants as funcs
use Rattle.wac_graph_types.specs.declared.kind.FuncTypeId.{FuncTypeId}
use Rattle.wac_graph_types.specs.declared.kind.ItemKind.{ItemKind}
use Rattle.wac_graph_types.specs.declared.kind.ItemKind.TheVariants as kinds
use Rattle.wac_graph.specs.Graph.{Parts}
use Rattle.wac_graph.specs.Origin.{Numbering}
use Rattle.wac_resolution_errors.specs.Error.{Error}
use Rattle.wac_resolution_rules.specs.BrokenStatements.{ImportKindBroken}
use Rattle.wac_resolution_rules.specs.BrokenTypes.{FuncBroken}
use Rattle.wac_resolution_rules.specs.Given.{Rules}
use Rattle.wac_resolution_rules.specs.Statements.{ImportsKind}
use Rattle.wac_resolution_state.specs.Bindings.{values_of}
use Rattle.wac_resolution_state.specs.Named.{scope_of}
use Rattle.wac_resolution_state.specs.declared.root.Root.{Root}
use Rattle.wac_resolution_state.specs.Root.{composed}
use Rattle.wac_resolution_state.specs.declared.context.Context.{Context}
use Rattle.wac_resolution_state.specs.Context.{packages_in}
use Rattle.wac_resolution_worlds.specs.Made.{KindMade}
use Rattle.wac_resolution_worlds.specs.Referred.{NewFunc}
use Rattle.wac_resolution_expressions.specs.Growth.{given_in}

-- a kind was made that the type of an import means, whatever the rules
abbrev pub ImportMade : Context → Parts → Parts → Root → ImportType → ItemKind → Type 0
ImportMade context old new root x k = KindMade (packages_in context) old new
    (λ numbering m after. (rules : Rules)
    → ImportsKind (given_in numbering context rules) (composed numbering old root) x m after) k

-- the error names a rule that the type of an import breaks
abbrev pub ImportTypeBreaks : Context → Parts → Root → ImportType → Error → Type 0
ImportTypeBreaks context g root x e = (numbering : Numbering) (rules : Rules)
    → ImportKindBroken (given_in numbering context rules) (composed numbering g root) e x

-- the kind is that of a function type which was added
abbrev pub FuncMade : Parts → Parts → Root → FuncType → ItemKind → Type 0
FuncMade old new root f k = (id : FuncTypeId) × (k ≡ kinds.Func id) × NewFunc old new (values_of root.kinds) f id

-- the error names a rule that a function type breaks
abbrev pub FuncTypeBreaks : Parts → Root → FuncType → Error → Type 0
FuncTypeBreaks g root f e = (numbering : Numbering) → FuncBroken funcs.Free (scope_of numbering g (values_of root.kinds)) [] f e
