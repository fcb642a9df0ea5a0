-- What two entries of a table are compared by.
use Rattle.std.specs.Prelude.{ℕ, Bool, ◌&&◌}
use Rattle.wac_graph_types.specs.declared.entry.Entry.{Entry}
use Rattle.wac_graph_types.specs.Entry.{children}
use Rattle.wac_graph_types.specs.Meaning.{Meaning, row}
use Rattle.wac_component_rules.specs.declared.sides.Side.{Side}
use Rattle.wac_component_rules.specs.Seen.{items, listed, picked}
use Rattle.wac_component_rules.specs.Fits.{same_plain, each_found, each_fits, offered}
use Rattle.wac_component_rules.specs.Parts.{parts_of, plain_of, slot_side}

-- each item that the second entry has on a side is among the first one's, and fits
abbrev pub side_fits : (ℕ → Meaning) → Side → Entry → Entry → Bool
side_fits f side d e = each_found (picked (slot_side side) (offered (items (row f (children d))))) (picked (slot_side side) (listed (items (row f (children e)))))

-- two defined types or function types fit part by part
abbrev pub parts_fit : (ℕ → Meaning) → Entry → Entry → Bool
parts_fit f d e = same_plain (plain_of d) (plain_of e) && each_fits (items (row f (parts_of d))) (items (row f (parts_of e)))
