-- What a table gains, and what a graph does.
use Rattle.std.specs.Prelude.{◌≡◌, ◌+◌, ℕ, Some, IfSome, length, slice_get}
use Rattle.wac_graph_types.specs.declared.entry.Entry.{Entry}
use Rattle.wac_graph_types.specs.declared.kind.ItemKind.TheVariants as kinds
use Rattle.wac_graph_types.specs.Growth.{KeepsNames}
use Rattle.wac_graph_types.specs.Package.{PackageParts}
use Rattle.wac_graph.specs.Copied.{IsGrownBy, MeansTheSame}
use Rattle.wac_graph.specs.Graph.{Parts, with_entry, with_package, with_instantiation}
use Rattle.wac_graph.specs.Means.{declared_count, resources_in, KeepsKinds, MeansAdded, CopiesMean}
use Rattle.wac_graph.specs.Package.{Key}
use Rattle.wac_graph.specs.Packages.{HoldsContents}

-- one more entry, of this number: it means its label over the kinds in it, and a resource is the next that is declared
pub record Adds (old new : Parts) (e : Entry) (id : ℕ) : Type 0 where
  pub number : id ≡ length old.types
  pub is : new ≡ with_entry old e
  pub there : slice_get new.types id ≡ Some e
  pub means : MeansAdded old new e
  pub count : declared_count new ≡ declared_count old + resources_in e
  pub kinds : KeepsKinds old new
  pub names : KeepsNames old.types new.types

-- one more package, of this number: copies of its entries mean what they mean, and none of its resources is declared
pub record AddsPackage (old new : Parts) (key : Key) (p : PackageParts) (id : ℕ) : Type 0 where
  pub number : id ≡ length old.packages
  pub is : new ≡ with_package old key p new.types
  pub copies : IsGrownBy old.types p.types new.types
  pub means : MeansTheSame old.types p.types new.types
  pub copied : CopiesMean old new key p
  pub contents : HoldsContents old new key p
  pub count : declared_count new ≡ declared_count old

-- one more node, an instance of the package of a number
abbrev pub AddsInstance : Parts → Parts → ℕ → Type 0
AddsInstance old new p = IfSome (slice_get old.packages p)
    (λ h. new ≡ with_instantiation old p (kinds.Instance h.instance))
