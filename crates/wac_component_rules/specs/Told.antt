-- Where there is a mismatch, and what it tells.
use Rattle.std.specs.Prelude.{◌≡◌, ◌↔◌, ℕ, List, Option, Some, IsNone, true}
use Rattle.wac_graph_types.specs.declared.kind.ItemKind.{ItemKind}
use Rattle.wac_graph_types.specs.declared.entry.Entry.{Entry}
use Rattle.wac_graph_types.specs.Meaning.{meaning}
use Rattle.wac_component_rules.specs.Fits.{fits}
use Rattle.wac_component_rules.specs.Seen.{seen}
use Rattle.wac_component_rules.specs.declared.mismatch_words.Mismatch.{Mismatch}
use Rattle.wac_component_rules.specs.Paths.{Leads}

-- there is none exactly where the first kind may stand where the second is expected
abbrev pub IsThereUnlessFits : {X : Type 0} → (ℕ → ℕ) → List Entry → ItemKind → ItemKind → Option X → Type 0
IsThereUnlessFits o es a b m = IsNone m ↔ (fits (seen (meaning o es a)) (seen (meaning o es b)) ≡ true)

-- its path leads from the first kind to what was found, and from the second to what was expected
abbrev pub LeadsInBoth : List Entry → ItemKind → ItemKind → Mismatch → Type 0
LeadsInBoth es a b m = Leads es (Some a) m.path.items m.found.at × Leads es (Some b) m.path.items m.expected.at
