-- How a package's kinds are tested, each test going over all of them.
use Rattle.std.specs.Prelude.{ℕ, List, length}
use Rattle.std.specs.List.{AllByRecursion}
use Rattle.wac_graph_types.specs.declared.kind.ItemKind.{ItemKind}
use Rattle.wac_graph_types.specs.declared.kind.ItemKind.TheVariants as kinds
use Rattle.wac_graph_types.specs.declared.entry.Entry.{Entry}
use Rattle.wac_graph_types.specs.declared.package.Test.{Test}
use Rattle.wac_graph_types.specs.declared.package.Test.TheVariants as tests
use Rattle.wac_graph_types.specs.Entry.{children}
use Rattle.wac_graph_types.specs.Meaning.{NamesBefore, EachFrom, EachKind}
use Rattle.wac_graph_types.specs.Package.{HasId, PackageParts}
use Rattle.wac_graph_types.specs.Table.{IsOfSort}

-- a kind in the entry of number n passes a test
abbrev pub Passes : Test → List Entry → ℕ → ItemKind → Type 0
Passes tests.InRange es n k = NamesBefore (length es) k
Passes tests.OfSort es n k = IsOfSort es k
Passes tests.Earlier es n k = NamesBefore n k
Passes tests.HasId es n k = HasId es k

-- each kind in an entry of the table passes
abbrev pub EntriesPass : Test → List Entry → Type 0
EntriesPass t es = EachFrom (λ n e. EachKind (Passes t es n) (children e)) 0 es

abbrev pub DefinitionsPass : Test → List Entry → List (List ℕ × ItemKind) → Type 0
DefinitionsPass t es ds = AllByRecursion (λ d. Passes t es 0 d.1) ds

-- each kind of a package passes
pub record AllPass (t : Test) (p : PackageParts) : Type 0 where
  pub of_world : Passes t p.types 0 (kinds.Component p.world)
  pub of_instance : Passes t p.types 0 (kinds.Instance p.instance)
  pub of_definitions : DefinitionsPass t p.types p.definitions
  pub of_entries : EntriesPass t p.types
