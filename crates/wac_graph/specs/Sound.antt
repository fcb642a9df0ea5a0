-- What always holds of a graph.
use Rattle.std.specs.Prelude.{◌≡◌, ◌<◌, ℕ, suc, List, [], ◌∷◌, Some, IsSome, length, slice_get}
use Rattle.std.specs.List.{AllByRecursion}
use Rattle.wac_graph_types.specs.declared.kind.ItemKind.{ItemKind}
use Rattle.wac_graph_types.specs.declared.kind.ItemKind.TheVariants as kinds
use Rattle.wac_graph_types.specs.Scope.{Named, look_up}
use Rattle.wac_graph_types.specs.Shape.{cons_named}
use Rattle.wac_graph_types.specs.Table.{Names, IsTable}
use Rattle.wac_graph.specs.Package.{HeldPackage, IsHeld}
use Rattle.wac_graph.specs.Node.{Node, Form, import, definition, alias, instantiation, import_in}
use Rattle.wac_graph.specs.Graph.{Parts, export_kind, import_kind}

-- each element, at its number
abbrev pub EachAt : {X : Type 0} → (ℕ → X → Type 0) → List X → Type 0
EachAt {X = X} P xs = (i : ℕ) (x : X) → slice_get xs i ≡ Some x → P i x

-- no two have the same
abbrev pub Differ : {X Y : Type 0} → (X → Y) → List X → Type 0
Differ {X = X} f xs = (i j : ℕ) (x y : X) → slice_get xs i ≡ Some x → slice_get xs j ≡ Some y → f x ≡ f y → i ≡ j

abbrev pub name_in : {X : Type 0} → List ℕ × X → List ℕ
name_in e = e.0

-- each name is a node's
abbrev pub NamesNodes : ℕ → Named ℕ → Type 0
NamesNodes nodes names = AllByRecursion (λ e. e.1 < nodes) names

-- a definition is exported
pub record IsExported (exports : Named ℕ) (i : ℕ) : Type 0 where
  pub name : List ℕ
  pub found : look_up name exports ≡ Some i

-- an alias of an export of an earlier node, which has the export's kind
pub record IsAlias (g : Parts) (i : ℕ) (k : ItemKind) (node : ℕ) (export : List ℕ) : Type 0 where
  pub earlier : node < i
  pub kind : export_kind g node export ≡ Some k

-- an instance of a package: its arguments are imports of the package, each once, given by earlier nodes
pub record IsInstance (g : Parts) (i : ℕ) (k : ItemKind) (p : ℕ) (arguments : Named ℕ) : Type 0 where
  pub of : HeldPackage
  pub held : slice_get g.packages p ≡ Some of
  pub kind : k ≡ kinds.Instance of.instance
  pub imports : AllByRecursion (λ a. IsSome (import_kind g p a.0)) arguments
  pub earlier : NamesNodes i arguments
  pub once : Differ name_in arguments

-- a node of number i is well placed in the graph
abbrev pub IsPlaced : Parts → ℕ → ItemKind → Form → Type 0
IsPlaced g i k (import name) = Unit {0}
IsPlaced g i k definition = IsExported g.exports i
IsPlaced g i k (alias node export) = IsAlias g i k node export
IsPlaced g i k (instantiation p arguments) = IsInstance g i k p arguments

pub record IsSoundNode (g : Parts) (i : ℕ) (n : Node) : Type 0 where
  pub named : Names g.types n.kind
  pub placed : IsPlaced g i n.kind n.form

-- no two nodes are aliases of one export
abbrev pub AliasedOnce : List Node → Type 0
AliasedOnce ns = (i j : ℕ) (n m : Node) (node : ℕ) (export : List ℕ) → slice_get ns i ≡ Some n → slice_get ns j ≡ Some m → n.form ≡ alias node export → m.form ≡ alias node export → i ≡ j

-- the imported ones among nodes, by name; the first node has number n
abbrev pub imports_from : ℕ → List Node → Named ℕ
imports_from n [] = []
imports_from n (x ∷ xs) = cons_named (import_in x.form) n (imports_from (suc n) xs)

pub record IsSound (g : Parts) : Type 0 where
  pub table : IsTable g.types
  pub packages : EachAt (λ _ p. IsHeld g.types p) g.packages
  pub keys : Differ (λ (p : HeldPackage). p.key) g.packages
  pub nodes : EachAt (IsSoundNode g) g.nodes
  pub aliases : AliasedOnce g.nodes
  pub imports : g.imports ≡ imports_from 0 g.nodes
  pub import_names : Differ name_in g.imports
  pub exports : NamesNodes (length g.nodes) g.exports
  pub export_names : Differ name_in g.exports
