-- What references to functions and interfaces denote.
use Rattle.std.specs.Prelude.{◌≡◌, ℕ, List}
use Rattle.wac_ast_grammar.specs.Tree.{Ident, FuncType, FuncTypeRef, ExternType}
use Rattle.wac_graph_types.specs.declared.kind.ItemKind.{ItemKind}
use Rattle.wac_graph_types.specs.declared.kind.ItemKind.TheVariants as kinds
use Rattle.wac_graph_types.specs.declared.kind.FuncTypeId.{FuncTypeId}
use Rattle.wac_graph_types.specs.declared.entry.Entry.{Entry}
use Rattle.wac_graph_types.specs.Scope.{Named}
use Rattle.wac_graph_types.specs.Shape.{IsA, IsNoneOf, is_func_or_interface_form, described, promoted}
use Rattle.wac_graph_types.specs.Table.{Names, ItemsNamed}
use Rattle.wac_graph.specs.Graph.{Parts}
use Rattle.wac_graph.specs.Means.{means, entry_means}
use Rattle.wac_graph.specs.Origin.{Numbering}
use Rattle.wac_resolution_errors.specs.Error.{Error, not_func_or_interface}
use Rattle.wac_resolution_rules.specs.Paths.{Context}
use Rattle.wac_resolution_rules.specs.Types.{IsFunc}
use Rattle.wac_resolution_rules.specs.Worlds.{IsFuncRef, HasExternType}
use Rattle.wac_resolution_types.specs.Funcs.{FuncAdded}
use Rattle.wac_resolution_state.specs.Named.{scope_of}

-- the identifier denotes a function or function type, of this entry, whatever the graph is
pub record FuncNamed (ks : Named ItemKind) (x : Ident) (f : FuncTypeId) : Type 0 where
  pub is : (numbering : Numbering) (g : Parts)
      → IsFuncRef (scope_of numbering g ks) (FuncTypeRef.ident x) (entry_means numbering g f.0)
  pub named : (es : List Entry) → ItemsNamed es ks → Names es (kinds.Func f)

-- the function type has this entry
abbrev pub NewFunc : Parts → Parts → Named ItemKind → FuncType → FuncTypeId → Type 0
NewFunc old new ks f id = FuncAdded old new ks (λ numbering scope entry. IsFunc scope f entry) id

-- the function type, or what an identifier denotes, has this entry
abbrev pub FuncRefIs : Parts → Parts → Named ItemKind → FuncTypeRef → FuncTypeId → Type 0
FuncRefIs old new ks r id = FuncAdded old new ks (λ numbering scope entry. IsFuncRef scope r entry) id

-- the kind is a function type or an interface, whose items are of this kind, whatever the graph is
pub record IsExternKind (k item : ItemKind) : Type 0 where
  pub is : (numbering : Numbering) (g : Parts) → IsA is_func_or_interface_form (means numbering g k)
  pub promotes : (numbering : Numbering) (g : Parts) → means numbering g item ≡ promoted (means numbering g k)
  pub named : (es : List Entry) → Names es k → Names es item

-- the kind of an identifier is neither, and this is its error
abbrev pub IsNoExternKind : ItemKind → Ident → Error → Type 0
IsNoExternKind k x e = (numbering : Numbering) (g : Parts)
    → IsNoneOf is_func_or_interface_form (means numbering g k)
    × (e ≡ not_func_or_interface x.string (described (means numbering g k)) x.span)

-- in a body, else at root, the identifier denotes a function type or an interface, whose items are of this kind,
-- whatever the graph is
pub record ExternNamed (ks root : Named ItemKind) (x : Ident) (k : ItemKind) : Type 0 where
  pub is : (numbering : Numbering) (g : Parts) (context : Context) (n : ℕ)
      → HasExternType context (scope_of numbering g root) (scope_of numbering g ks) n
      (ExternType.ident x) (means numbering g k) n
  pub named : (es : List Entry) → ItemsNamed es ks → ItemsNamed es root → Names es k
