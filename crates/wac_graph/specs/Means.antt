-- Where the resources of a graph come from, and what its kinds mean.
use Rattle.std.specs.Prelude.{◌≡◌, ◌+◌, ◌-◌, ℕ, suc, List, [], ◌∷◌, Option, Some, None, option_map, ◌&&◌, cond, nat_le, nat_lt, take, length, slice_get}
use Rattle.wac_graph_types.specs.declared.kind.ItemKind.{ItemKind}
use Rattle.wac_graph_types.specs.declared.entry.Entry.{Entry}
use Rattle.wac_graph_types.specs.declared.entry.Entry.TheVariants as entries
use Rattle.wac_graph_types.specs.Entry.{children, label}
use Rattle.wac_graph_types.specs.Meaning.{Meaning, node, of_kind, row, meaning, meaning_at, NamesBefore}
use Rattle.wac_graph_types.specs.Meaning as tables
use Rattle.wac_graph_types.specs.Package.{PackageParts}
use Rattle.wac_graph_types.specs.Shape.{export_of}
use Rattle.wac_graph.specs.Package.{Key, HeldPackage}
use Rattle.wac_graph.specs.Moved.{moved}
use Rattle.wac_graph.specs.Graph.{Parts}
use Rattle.wac_graph.specs.Origin.{Origin, Numbering, IsOneToOne, declared, copied}

-- where entry i comes from, if it was copied from a package
unfoldable pub copied_at : List HeldPackage → ℕ → Option Origin
copied_at [] i = None
copied_at (p ∷ ps) i = cond (nat_le p.first i && nat_lt i (p.first + p.size)) (Some (copied p.key (i - p.first))) (copied_at ps i)

-- one for a resource, none for another entry
abbrev pub resources_in : Entry → ℕ
resources_in (entries.Resource r) = 1
resources_in _ = 0

abbrev pub own_resources : Option Origin → Entry → ℕ
own_resources None e = resources_in e
own_resources (Some o) e = 0

-- how many of these entries are resources that weren't copied; the first entry has number n
unfoldable pub own_from : List HeldPackage → ℕ → List Entry → ℕ
own_from ps n [] = 0
own_from ps n (e ∷ es) = own_resources (copied_at ps n) e + own_from ps (suc n) es

abbrev pub or_declared : Option Origin → ℕ → Origin
or_declared None n = declared n
or_declared (Some o) n = o

-- where entry i comes from
unfoldable pub origin_in : List HeldPackage → List Entry → ℕ → Origin
origin_in ps es i = or_declared (copied_at ps i) (own_from ps 0 (take i es))

abbrev pub origin_at : Parts → ℕ → Origin
origin_at g i = origin_in g.packages g.types i

-- how many resources the composition has declared
abbrev pub declared_count : Parts → ℕ
declared_count g = own_from g.packages 0 g.types

-- what entry i means, under a numbering of origins
unfoldable pub entry_means_in : Numbering → List HeldPackage → List Entry → ℕ → Meaning
entry_means_in numbering ps es i = meaning_at (λ n. numbering (origin_in ps es n)) es i

abbrev pub entry_means : Numbering → Parts → ℕ → Meaning
entry_means numbering g i = entry_means_in numbering g.packages g.types i

-- what a kind means, under a numbering of origins
abbrev pub means : Numbering → Parts → ItemKind → Meaning
means numbering g k = of_kind (entry_means numbering g) k

-- what was found under a name means what the kind's meaning exports under it
abbrev pub MeansExport : Parts → ItemKind → List ℕ → Option ItemKind → Type 0
MeansExport g k name found = (numbering : Numbering)
    → option_map (means numbering g) found ≡ export_of (means numbering g k) name

-- each kind of the old graph means in the new one what it meant
abbrev pub KeepsKinds : Parts → Parts → Type 0
KeepsKinds old new = (numbering : Numbering) (k : ItemKind) → NamesBefore (length old.types) k → means numbering new k ≡ means numbering old k

-- the entry that was added last means its label, over what its kinds meant before
abbrev pub MeansAdded : Parts → Parts → Entry → Type 0
MeansAdded old new e = (numbering : Numbering) → entry_means numbering new (length old.types) ≡ node (label (numbering (declared (declared_count old))) e) (row (entry_means numbering old) (children e))

-- each entry means its label, over the meanings of what it names
abbrev pub EntriesMean : Parts → Type 0
EntriesMean g = (numbering : Numbering) (i : ℕ) (e : Entry) → slice_get g.types i ≡ Some e → entry_means numbering g i ≡ node (label (numbering (origin_at g i)) e) (row (entry_means numbering g) (children e))

-- what a kind of the package means, its copy means
abbrev pub CopiesMean : Parts → Parts → Key → PackageParts → Type 0
CopiesMean old new key p = (numbering : Numbering) (k : ItemKind) → NamesBefore (length p.types) k → means numbering new (moved (length old.types) k) ≡ meaning (λ i. numbering (copied key i)) p.types k

-- under a numbering that is one to one no two resources of the table have one number
abbrev pub OriginsApart : Parts → Type 0
OriginsApart g = (numbering : Numbering) → IsOneToOne numbering → tables.IsOneToOne g.types (λ i. numbering (origin_at g i))
