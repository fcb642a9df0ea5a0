use Rattle.std.proofs.Common.{◌∙◌, [], Some, ap, sym}
use Rattle.std.specs.Prelude.{option_map, unwrap_or, string_bytes}
use Rattle.wac_graph_types.specs.Names.{by_name}
use Rattle.wac_graph_types.specs.Scope.{look_up}
use Rattle.wac_graph_types.proofs.Rows.{stands}
use Rattle.wac_graph_types.proofs.Views.{mapped_at}
use Rattle.wac_component_rules.proofs.Stand.{asked_below, offer_below}
use Rattle.wac_component_rules.proofs.ahead.add_side.Goals as goal

pub add_kinds-requires-clause-first : goal.add_kinds-requires-clause-first
add_kinds-requires-clause-first c = (offer_below c.args.entries.now c.args.pair.given c.index-entries-pair-2.result c.args.side (by_name c.in-Some-items.offered.now.entries) (string_bytes c.in-Some-get_index.name.now) c.in-Some-find.offer c.requires.table (stands c.args.entries.now c.args.pair.given c.index-entries-pair-2.result c.requires.first c.index-entries-pair-2.is) (sym (ap (λ x. unwrap_or (option_map (λ m. by_name m.now.entries) x) []) c.in-Some-items.is) ∙ c.items-2.ensures) (sym c.in-Some-find.is ∙ c.find.ensures ∙ ap (λ n. look_up n (by_name c.in-Some-items.offered.now.entries)) c.as_str.ensures.value)).1

pub add_kinds-requires-clause-second : goal.add_kinds-requires-clause-second
add_kinds-requires-clause-second c = (asked_below c.args.entries.now c.args.pair.expected c.index-entries-pair.result c.args.side (by_name c.in-Some.asked.now.entries) c.loop-at.at (string_bytes c.in-Some-get_index.name.now, c.in-Some-get_index.kind.now) c.requires.table (stands c.args.entries.now c.args.pair.expected c.index-entries-pair.result c.requires.second c.index-entries-pair.is) (sym (ap (λ x. unwrap_or (option_map (λ m. by_name m.now.entries) x) []) c.in-Some.is) ∙ c.items.ensures) (sym (mapped_at (λ e. (string_bytes e.0, e.1)) c.in-Some.asked.now.entries c.loop-at.at (Some (c.in-Some-get_index.name.now, c.in-Some-get_index.kind.now)) (c.in-Some-get_index.ensures.entry)))).1
