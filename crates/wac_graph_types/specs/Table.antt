-- A table whose entries name earlier entries of the right sort.
use Rattle.std.specs.Prelude.{◌≡◌, ℕ, Some, IfSome, List, length, slice_get, option_map}
use Rattle.std.specs.List.{AllByRecursion}
use Rattle.wac_graph_types.specs.declared.kind.ItemKind.{ItemKind}
use Rattle.wac_graph_types.specs.declared.entry.Entry.{Entry}
use Rattle.wac_graph_types.specs.Kind.{named_by, sort_named}
use Rattle.wac_graph_types.specs.Entry.{children, sort_of}
use Rattle.wac_graph_types.specs.Meaning.{IsEarlier, NamesBefore, EachFrom, EachKind}

-- the entry that the kind names, if any, is in the table and of the sort it requires
abbrev pub IsOfSort : List Entry → ItemKind → Type 0
IsOfSort es k = IfSome (named_by k) (λ i. option_map sort_of (slice_get es i) ≡ Some (sort_named k))

abbrev pub AreOfSort : List Entry → List Entry → Type 0
AreOfSort es ds = EachFrom (λ _ e. EachKind (IsOfSort es) (children e)) 0 ds

-- a kind names an entry of its sort below a number
abbrev pub Names : List Entry → ItemKind → Type 0
Names es k = NamesBefore (length es) k × IsOfSort es k

-- each entry names earlier ones of their sort
abbrev pub IsTable : List Entry → Type 0
IsTable es = IsEarlier es × AreOfSort es es

-- each of these named kinds does
abbrev pub ItemsNamed : List Entry → List (List ℕ × ItemKind) → Type 0
ItemsNamed es ds = AllByRecursion (λ d. Names es d.1) ds

-- the kinds in each entry name entries of the table
abbrev pub EachEntryNamed : List Entry → Type 0
EachEntryNamed es = (i : ℕ) (e : Entry) → slice_get es i ≡ Some e → EachKind (Names es) (children e)
