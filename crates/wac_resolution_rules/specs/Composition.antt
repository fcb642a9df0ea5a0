-- What statements compose: nodes, exports and declarations, without a table.
use Rattle.std.specs.Prelude.{ℕ, List, [], ◌∷◌, ◌++◌, map, Option, Some, None, slice_get, slice_set}
use Rattle.wac_graph_types.specs.Label.{plain, dangling}
use Rattle.wac_graph_types.specs.Meaning.{Meaning, node, done}
use Rattle.wac_graph_types.specs.Scope.{Named, Scope, with_named}
use Rattle.wac_graph.specs.Package.{Key}

-- an import of a name, a definition, an alias of an export of a node, or an instance of a package
pub data NodeForm : Type 0 where
  imported : List ℕ → NodeForm
  definition : NodeForm
  aliased : ℕ → List ℕ → NodeForm
  instantiated : Key → NodeForm

pub record Node : Type 0 where
  pub form : NodeForm
  pub kind : Meaning
  pub name : Option (List ℕ)
  pub arguments : Named ℕ

-- A node's number is its place. `resources` counts the resources that were declared.
pub record Composition : Type 0 where
  pub nodes : List Node
  pub exports : Named ℕ
  pub declared : Named ℕ
  pub resources : ℕ

-- no statement yet
abbrev pub start : Composition
start = record { nodes = []; exports = []; declared = []; resources = 0 }

-- the kind of the node of a number
abbrev pub kind_at : List Node → ℕ → Meaning
kind_at ns n = elim (slice_get ns n) [ None ↦ node (plain dangling) done | Some x ↦ x.kind ]

-- the root scope: each declared identifier with the kind of its node
abbrev pub root_scope : Composition → Scope
root_scope c = map (λ d. (d.0, kind_at c.nodes d.1)) c.declared

-- one more node
abbrev pub with_node : Composition → NodeForm → Meaning → Composition
with_node c form kind =
    record c { nodes = c.nodes ++ record { form = form; kind = kind; name = None; arguments = [] } ∷ [] }

abbrev pub with_export : Composition → List ℕ → ℕ → Composition
with_export c name n = record c { exports = with_named c.exports name n }

abbrev pub with_resources : Composition → ℕ → Composition
with_resources c n = record c { resources = n }

-- the name that a node keeps: its own, else the new one
abbrev pub first_name : Option (List ℕ) → List ℕ → Option (List ℕ)
first_name None name = Some name
first_name (Some old) name = Some old

abbrev pub named_at : List Node → ℕ → List ℕ → List Node
named_at ns n name =
    elim (slice_get ns n) [ None ↦ ns | Some x ↦ slice_set ns n (record x { name = first_name x.name name }) ]

-- an identifier is bound to a node, and names it where it has no name
abbrev pub binding : Composition → List ℕ → ℕ → Composition
binding c name n = record c { nodes = named_at c.nodes n name; declared = with_named c.declared name n }
