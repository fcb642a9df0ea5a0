-- What is compared of kinds and entries of a table, under any origins.
use Rattle.std.specs.Prelude.{◌≡◌, ℕ, List, Option, Some, Bool, slice_get}
use Rattle.wac_graph_types.specs.declared.kind.ValueType.{ValueType}
use Rattle.wac_graph_types.specs.declared.kind.«Type».TheVariants as types
use Rattle.wac_graph_types.specs.declared.kind.ItemKind.{ItemKind}
use Rattle.wac_graph_types.specs.declared.kind.ItemKind.TheVariants as kinds
use Rattle.wac_graph_types.specs.declared.entry.Entry.{Entry}
use Rattle.wac_graph_types.specs.Kind.{form, named_by}
use Rattle.wac_graph_types.specs.Meaning.{meaning_at, named, of_kind, of_child}
use Rattle.wac_component_rules.specs.declared.sides.Side.{Side}
use Rattle.wac_component_rules.specs.Seen.{Seen, seen, what, entry_seen}
use Rattle.wac_component_rules.specs.Fits.{fits, stands}
use Rattle.wac_component_rules.specs.Parts.{IsSided}
use Rattle.wac_component_rules.specs.Sides.{side_fits, parts_fit}

-- a type of values, as an item of its own
abbrev pub type_kind : ValueType → ItemKind
type_kind v = kinds.Ty (types.Value v)

-- what a kind that is no alias is seen as
abbrev pub plainly_seen : (ℕ → ℕ) → List Entry → ItemKind → Seen
plainly_seen o es k = Seen.a_kind (form k) (entry_seen (named (meaning_at o es) (named_by k)))

-- a kind of a table is seen as the other one, which is no alias
abbrev pub SeenAs : (ℕ → ℕ) → List Entry → ItemKind → ItemKind → Type 0
SeenAs o es k plain = seen (of_kind (meaning_at o es) k) ≡ plainly_seen o es plain

-- kinds, where they are given
abbrev pub kinds_fit : (ℕ → ℕ) → List Entry → Option ItemKind → Option ItemKind → Bool
kinds_fit o es a b = fits (seen (of_child (meaning_at o es) a)) (seen (of_child (meaning_at o es) b))

-- kinds that are no aliases
abbrev pub plainly_fit : (ℕ → ℕ) → List Entry → ItemKind → ItemKind → Bool
plainly_fit o es a b = fits (plainly_seen o es a) (plainly_seen o es b)

abbrev pub entries_fit : (ℕ → ℕ) → List Entry → ℕ → ℕ → Bool
entries_fit o es i j = stands (what (meaning_at o es i)) (what (meaning_at o es j))

-- the answer is whether the entries at two places fit on a side
abbrev pub TellsSides : (ℕ → ℕ) → List Entry → Side → ℕ → ℕ → Bool → Type 0
TellsSides o es side i j r = (d e : Entry) → slice_get es i ≡ Some d → slice_get es j ≡ Some e
    → IsSided d → IsSided e → r ≡ side_fits (meaning_at o es) side d e

-- the answer is whether they fit part by part
abbrev pub TellsParts : (ℕ → ℕ) → List Entry → ℕ → ℕ → Bool → Type 0
TellsParts o es i j r = (d e : Entry) → slice_get es i ≡ Some d → slice_get es j ≡ Some e → r ≡ parts_fit (meaning_at o es) d e
