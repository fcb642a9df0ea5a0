use Rattle.std.proofs.Common.{ℕ, ◌+◌, ◌*◌, Some}
use Rattle.wac_graph_types.specs.Meaning.{meaning_at}
use Rattle.wac_graph_types.specs.Names.{by_name}
use Rattle.wac_component_rules.specs.Found.{AllFit}
use Rattle.wac_component_rules.specs.Parts.{parts_of}
use Rattle.wac_component_rules.proofs.Measures.{above}
use Rattle.wac_component_rules.proofs.PartRows.{RestFits}
use Rattle.wac_component_rules.proofs.SideRows.{RestFound}
use Rattle.wac_component_rules.proofs.fitting.+fitting.Given as goal

abbrev pub decreases-kind_fits : goal.decreases-kind_fits
decreases-kind_fits l = above l.a + above l.b + 1

abbrev pub decreases-plain_fits : goal.decreases-plain_fits
decreases-plain_fits l = above (Some l.a) + above (Some l.b)

abbrev pub decreases-entry_fits : goal.decreases-entry_fits
decreases-entry_fits l = 4 * l.i + 4 * l.j + 7

abbrev pub decreases-compared : goal.decreases-compared
decreases-compared l = 4 * l.i + 4 * l.j + 6

abbrev pub decreases-side_fits : goal.decreases-side_fits
decreases-side_fits l = 4 * l.given + 4 * l.expected + 5

abbrev pub decreases-parts_fit : goal.decreases-parts_fit
decreases-parts_fit l = 4 * l.i + 4 * l.j + 5

abbrev pub invariant-side_fits-loop-at : goal.invariant-side_fits-loop-at
invariant-side_fits-loop-at l = AllFit l.entries l.found × ((o : ℕ → ℕ) → RestFound (meaning_at o l.entries) (by_name l.offered.entries) (by_name l.asked.entries) l.at)

abbrev pub invariant-parts_fit-loop-at : goal.invariant-parts_fit-loop-at
invariant-parts_fit-loop-at l = AllFit l.entries l.found × ((o : ℕ → ℕ) → RestFits (meaning_at o l.entries) (parts_of l.first) (parts_of l.second) l.at)
