-- Packages that are instantiated.
use Rattle.std.specs.Prelude.{◌≡◌, ℕ, Some, slice_get}
use Rattle.wac_graph_types.specs.declared.kind.ItemKind.TheVariants as kinds
use Rattle.wac_graph_types.specs.Scope.{Named}
use Rattle.wac_graph_types.specs.Table.{Names}
use Rattle.wac_ast_grammar.specs.Tree.{PackageName}
use Rattle.wac_graph.specs.Graph.{Parts}
use Rattle.wac_graph.specs.Origin.{Numbering}
use Rattle.wac_graph.specs.Package.{HeldPackage}
use Rattle.wac_graph.specs.Packages.{contents_in}
use Rattle.wac_resolution_rules.specs.Given.{Rules, instantiable, key_named}
use Rattle.wac_resolution_state.specs.Nodes.{composition_of}
use Rattle.wac_resolution_state.specs.declared.context.Context.{Context}
use Rattle.wac_resolution_state.specs.Context.{packages_in}
use Rattle.wac_resolution_expressions.specs.declared.packages.Loaded.{Loaded}
use Rattle.wac_resolution_expressions.specs.Growth.{Extends, given_in}

-- the graph holds this package under the number, and its world has that number
pub record IsLoaded (g : Parts) (p : Loaded) (held : HeldPackage) : Type 0 where
  pub found : slice_get g.packages p.id.0 ≡ Some held
  pub world : held.world ≡ p.world
  pub named : Names g.types (kinds.Component p.world)

-- the graph holds it
abbrev pub IsThere : Parts → Loaded → Type 0
IsThere g p = (held : HeldPackage) × IsLoaded g p held

-- the package of the name may be instantiated, and the new graph holds it
pub record IsInstantiable (context : Context) (old new : Parts) (x : PackageName) (p : Loaded) : Type 0 where
  pub extends : Extends (packages_in context) old new
  pub composition : (numbering : Numbering) (declared : Named ℕ)
      → composition_of numbering new declared ≡ composition_of numbering old declared
  pub held : HeldPackage
  pub loaded : IsLoaded new p held
  pub key : held.key ≡ key_named x
  pub is : (numbering : Numbering) (rules : Rules)
      → instantiable (given_in numbering context rules) x ≡ Some (contents_in numbering new held)
