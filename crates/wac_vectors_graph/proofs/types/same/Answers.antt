use Rattle.std.proofs.Common.{List, sym, subst}
use Rattle.wac_graph_types.specs.declared.entry.Entry.{Entry}
use Rattle.wac_graph_types.specs.Table.{Names}
use Rattle.wac_graph_types.proofs.Listed.{item_named}
use Rattle.wac_vectors_graph.proofs.types.same.Goals as goal

pub same-requires-clause-first : goal.same-requires-clause-first
same-requires-clause-first c = subst (λ (es : List Entry). Names es c.in_ok-first.first.now) (sym c.types-types.ensures.types) (item_named c.args.package.now.types c.args.package.now.definitions c.definitions-definitions.result.now.entries c.args.i _ c.in_ok-first.first.now c.definitions-definitions.ensures.named c.definitions-definitions.ensures.definitions (sym c.in_ok-first.ensures.entry))

pub same-requires-clause-second : goal.same-requires-clause-second
same-requires-clause-second c = subst (λ (es : List Entry). Names es c.in_ok-second.second.now) (sym c.types-types.ensures.types) (item_named c.args.package.now.types c.args.package.now.definitions c.definitions-definitions.result.now.entries c.args.j _ c.in_ok-second.second.now c.definitions-definitions.ensures.named c.definitions-definitions.ensures.definitions (sym c.in_ok-second.ensures.entry))
