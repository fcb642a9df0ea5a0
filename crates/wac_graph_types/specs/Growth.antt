-- Tables that grow.
use Rattle.std.specs.Prelude.{◌≡◌, ℕ, List, length}
use Rattle.wac_graph_types.specs.declared.kind.ItemKind.{ItemKind}
use Rattle.wac_graph_types.specs.declared.entry.Entry.{Entry}
use Rattle.wac_graph_types.specs.Meaning.{NamesBefore, meaning}
use Rattle.wac_graph_types.specs.Table.{Names}

-- each kind of the old table means in the new one what it meant
abbrev pub KeepsMeanings : List Entry → List Entry → Type 0
KeepsMeanings old new = (origins : ℕ → ℕ) (k : ItemKind) → NamesBefore (length old) k → meaning origins new k ≡ meaning origins old k

-- each kind that names an entry of the old table names one of the new
abbrev pub KeepsNames : List Entry → List Entry → Type 0
KeepsNames old new = (k : ItemKind) → Names old k → Names new k
