-- What is taken of an included world of a graph.
use Rattle.std.specs.Prelude.{◌≡◌, ℕ, List, Some, None}
use Rattle.wac_ast_grammar.specs.Tree.{WorldInclude, WorldIncludeItem}
use Rattle.wac_graph_types.specs.declared.kind.ItemKind.{ItemKind}
use Rattle.wac_graph_types.specs.declared.kind.ItemKind.TheVariants as kinds
use Rattle.wac_graph_types.specs.declared.kind.WorldId.{WorldId}
use Rattle.wac_graph_types.specs.declared.entry.Entry.{Entry}
use Rattle.wac_graph_types.specs.Scope.{Named, look_up, with_named}
use Rattle.wac_graph_types.specs.Shape.{IsA, is_world_form, entry_of, items_mean}
use Rattle.wac_graph_types.specs.Steps.{Steps}
use Rattle.wac_graph_types.specs.Table.{Names, ItemsNamed}
use Rattle.wac_graph.specs.Graph.{Parts}
use Rattle.wac_graph.specs.Means.{means, entry_means}
use Rattle.wac_graph.specs.Origin.{Numbering}
use Rattle.wac_ast_uses.specs.Uses.{world_include_of}
use Rattle.wac_resolution_rules.specs.Bodies.{Body}
use Rattle.wac_resolution_rules.specs.Includes.{Entries, Taking, Takes, Included}
use Rattle.wac_resolution_worlds.specs.declared.inclusion.Inclusion.{Inclusion}
use Rattle.wac_resolution_worlds.specs.Entries.{Renamings, entries_of, AreOf}

-- the tree of an include
abbrev pub tree_of : Inclusion → WorldInclude
tree_of i = world_include_of i.include.now

-- the entries of its clause
abbrev pub clause_of : Inclusion → List WorldIncludeItem
clause_of i = (tree_of i).items

-- one more name, unless it is present
abbrev pub unless_there : {X : Type 0} → Named X → List ℕ → X → Named X
unless_there there name x = elim (look_up name there) [ None ↦ with_named there name x | Some old ↦ there ]

-- the entries that are left, and the imports or exports so far
abbrev pub taking_of : Numbering → Parts → Renamings → Named ItemKind → Taking
taking_of numbering g es ks = record { entries = entries_of es; there = items_mean (entry_means numbering g) ks }

-- a name of an included world takes the old entries and names to the new ones, whatever the graph is
pub record NameTaken (items : List WorldIncludeItem) (es fs : Renamings) (ks ls : Named ItemKind)
    (x : List ℕ × ItemKind) : Type 0 where
  pub of_clause : AreOf items fs
  pub takes : (numbering : Numbering) (g : Parts)
      → Takes (taking_of numbering g es ks) (x.0, means numbering g x.1) (taking_of numbering g fs ls)
  pub named : (ts : List Entry) → ItemsNamed ts ks → Names ts x.1 → ItemsNamed ts ls

-- so do names in order
pub record NamesTaken (items : List WorldIncludeItem) (es fs : Renamings) (ks ls xs : Named ItemKind) : Type 0 where
  pub of_clause : AreOf items fs
  pub take : (numbering : Numbering) (g : Parts)
      → Steps Takes (taking_of numbering g es ks) (items_mean (entry_means numbering g) xs) (taking_of numbering g fs ls)
  pub named : (ts : List Entry) → ItemsNamed ts ks → ItemsNamed ts xs → ItemsNamed ts ls

-- ---- worlds

-- the kind is a world or component, of this entry, whatever the graph is
pub record IsWorldKind (k : ItemKind) (w : WorldId) : Type 0 where
  pub is : (numbering : Numbering) (g : Parts) → IsA is_world_form (means numbering g k)
  pub entry : (numbering : Numbering) (g : Parts) → entry_of (means numbering g k) ≡ entry_means numbering g w.0
  pub named : (ts : List Entry) → Names ts k → Names ts (kinds.Component w)

-- a body with these imports and exports
abbrev pub with_both : Numbering → Parts → Body → Named ItemKind → Named ItemKind → Body
with_both numbering g b is es =
    record b { imports = items_mean (entry_means numbering g) is; exports = items_mean (entry_means numbering g) es }

-- what is taken of a world of the graph
pub record WorldTaken (g : Parts) (entries : Entries) (w : WorldId) (is es js fs : Named ItemKind) : Type 0 where
  pub included : (numbering : Numbering) (b : Body)
      → Included entries (entry_means numbering g w.0) (with_both numbering g b is es) (with_both numbering g b js fs)
  pub imports : ItemsNamed g.types is → ItemsNamed g.types js
  pub exports : ItemsNamed g.types es → ItemsNamed g.types fs

-- what a kind of the graph, which is a world or component, adds to imports and exports
pub record IsIncluded (g : Parts) (entries : Entries) (k : ItemKind) (is es js fs : Named ItemKind) : Type 0 where
  pub is_world : (numbering : Numbering) → IsA is_world_form (means numbering g k)
  pub included : (numbering : Numbering) (b : Body)
      → Included entries (entry_of (means numbering g k)) (with_both numbering g b is es) (with_both numbering g b js fs)
  pub imports : ItemsNamed g.types is → ItemsNamed g.types js
  pub exports : ItemsNamed g.types es → ItemsNamed g.types fs
