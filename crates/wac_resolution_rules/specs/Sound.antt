-- What always holds of a composition, and what it keeps as it grows.
use Rattle.std.specs.Prelude.{◌≡◌, ◌<◌, ℕ, List, [], ◌∷◌, ◌++◌, Option, Some, None, length, ◌⊎◌, Bool, false}
use Rattle.std.specs.List.{AllByRecursion}
use Rattle.wac_graph_types.specs.Meaning.{EachFrom}
use Rattle.wac_graph_types.specs.Scope.{Named, IsFresh}
use Rattle.wac_graph.specs.Package.{Key}
use Rattle.wac_graph.specs.Packages.{Contents, package_of}
use Rattle.wac_resolution_rules.specs.Given.{Given, imports_in}
use Rattle.wac_resolution_rules.specs.Composition.{NodeForm, aliased, Node, Composition}
use Rattle.wac_resolution_rules.specs.Nodes.{key_of_node, is_alias_of, imports}
use Rattle.wac_resolution_rules.specs.Expressions.{Fits}

-- no two have one name
abbrev pub OnceEach : {X : Type 0} → Named X → Type 0
OnceEach [] = Unit {0}
OnceEach (x ∷ xs) = IsFresh x.0 xs × OnceEach xs

-- no name is imported, exported or bound twice
pub record NamesOnce (c : Composition) : Type 0 where
  pub imports : OnceEach (imports c)
  pub exports : OnceEach c.exports
  pub declared : OnceEach c.declared

-- an alias is of an earlier node
abbrev pub IsAfterSource : ℕ → NodeForm → Type 0
IsAfterSource i (aliased node name) = node < i
IsAfterSource i _ = Unit {0}

-- the arguments of an instance are for imports of its package, and fit them
abbrev pub ArgumentsFit : Given → List Node → Option Key → Named ℕ → Type 0
ArgumentsFit s ns None arguments = Unit {0}
ArgumentsFit s ns (Some key) arguments = (p : Contents) × (package_of key s.context.packages ≡ Some p)
    × AllByRecursion (Fits s.rules (imports_in p) ns) arguments

-- edges of the node of a number come from earlier nodes; each argument names an import of the package once and fits it
pub record IsLinked (s : Given) (ns : List Node) (i : ℕ) (n : Node) : Type 0 where
  pub source : IsAfterSource i n.form
  pub earlier : AllByRecursion (λ a. a.1 < i) n.arguments
  pub once : OnceEach n.arguments
  pub fit : ArgumentsFit s ns (key_of_node n.form) n.arguments

-- each name is of a node that exists
abbrev pub NamesNodes : ℕ → Named ℕ → Type 0
NamesNodes count all = AllByRecursion (λ e. e.1 < count) all

-- all nodes are linked, and names are of nodes that exist
pub record IsSound (s : Given) (c : Composition) : Type 0 where
  pub linked : EachFrom (IsLinked s c.nodes) 0 c.nodes
  pub declared : NamesNodes (length c.nodes) c.declared
  pub exports : NamesNodes (length c.nodes) c.exports

-- ---- growth

abbrev pub IsAlias : NodeForm → Type 0
IsAlias (aliased node name) = Unit {0}
IsAlias _ = ⊥

-- the node is the same, but an alias node without a name may have one now
pub record IsKept (a b : Node) : Type 0 where
  pub form : b.form ≡ a.form
  pub kind : b.kind ≡ a.kind
  pub arguments : b.arguments ≡ a.arguments
  pub name : (b.name ≡ a.name) ⊎ (IsAlias a.form × (a.name ≡ None))

-- the nodes come first, and are kept
abbrev pub AreKept : List Node → List Node → Type 0
AreKept [] ms = Unit {0}
AreKept (n ∷ ns) [] = ⊥
AreKept (n ∷ ns) (m ∷ ms) = IsKept n m × AreKept ns ms

-- the new composition begins with the old one
pub record Begins (old new : Composition) : Type 0 where
  pub nodes : AreKept old.nodes new.nodes
  pub exports : (more : Named ℕ) × (new.exports ≡ old.exports ++ more)
  pub declared : (more : Named ℕ) × (new.declared ≡ old.declared ++ more)

-- ---- aliases

-- the second form is an alias of what the first is an alias of
abbrev pub is_same_alias : NodeForm → NodeForm → Bool
is_same_alias (aliased node name) f = is_alias_of node name f
is_same_alias _ f = false

-- an alias of an export of a node occurs once
abbrev pub AliasesOnce : List Node → Type 0
AliasesOnce [] = Unit {0}
AliasesOnce (n ∷ ns) = AllByRecursion (λ (m : Node). is_same_alias n.form m.form ≡ false) ns × AliasesOnce ns
