use Rattle.std.proofs.Common.{sym}
use Rattle.wac_graph_types.proofs.Rows.{stands}
use Rattle.wac_component_rules.specs.Parts.{part_view}
use Rattle.wac_component_rules.proofs.Stand.{part_below}
use Rattle.wac_component_rules.proofs.ahead.add_parts.Goals as goal

pub add_kinds-requires-clause-first : goal.add_kinds-requires-clause-first
add_kinds-requires-clause-first c = (part_below c.args.entries.now c.args.pair.given c.index-entries-pair.result c.loop-at.at (part_view c.in-Some-Some.c) c.value_kind-given.result c.requires.table (stands c.args.entries.now c.args.pair.given c.index-entries-pair.result c.requires.first c.index-entries-pair.is) (sym c.in-Some-Some.ensures) c.value_kind-given.ensures).1

pub add_kinds-requires-clause-second : goal.add_kinds-requires-clause-second
add_kinds-requires-clause-second c = (part_below c.args.entries.now c.args.pair.expected c.index-entries-pair-2.result c.loop-at.at (part_view c.in-Some-Some.d) c.value_kind-expected.result c.requires.table (stands c.args.entries.now c.args.pair.expected c.index-entries-pair-2.result c.requires.second c.index-entries-pair-2.is) (sym c.in-Some-Some.ensures') c.value_kind-expected.ensures).1
