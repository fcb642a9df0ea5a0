use Rattle.std.proofs.Common.{List, sym, subst}
use Rattle.wac_graph_types.specs.declared.entry.Entry.{Entry}
use Rattle.wac_graph_types.specs.Table.{Names}
use Rattle.wac_graph_types.proofs.Listed.{item_named}
use Rattle.wac_vectors_graph.proofs.types.asked.Goals as goal

pub subtype-requires-clause-first : goal.subtype-requires-clause-first
subtype-requires-clause-first g c = subst (λ (es : List Entry). Names es c.in_ok-first.first.now) (sym c.types-types.ensures.types) (item_named c.args.package.now.types c.args.package.now.definitions c.definitions-definitions.result.now.entries c.args.i _ c.in_ok-first.first.now c.definitions-definitions.ensures.named c.definitions-definitions.ensures.definitions (sym c.in_ok-first.ensures.entry))

pub subtype-requires-clause-second : goal.subtype-requires-clause-second
subtype-requires-clause-second g c = subst (λ (es : List Entry). Names es c.in_ok-second.second.now) (sym c.types-types.ensures.types) (item_named c.args.package.now.types c.args.package.now.definitions c.definitions-definitions.result.now.entries c.args.j _ c.in_ok-second.second.now c.definitions-definitions.ensures.named c.definitions-definitions.ensures.definitions (sym c.in_ok-second.ensures.entry))
