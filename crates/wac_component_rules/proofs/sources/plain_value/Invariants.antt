use Rattle.std.proofs.Common.{ℕ, Some}
use Rattle.wac_graph_types.specs.declared.kind.ItemKind.TheVariants as kinds
use Rattle.wac_graph_types.specs.Meaning.{NamesBefore}
use Rattle.wac_graph_types.specs.Table.{Names}
use Rattle.wac_component_rules.proofs.Aliases.{StandsFor}
use Rattle.wac_component_rules.proofs.Measures.{above}
use Rattle.wac_component_rules.proofs.sources.plain_value.Given as goal

abbrev pub invariant-loop-at : goal.invariant-loop-at
invariant-loop-at l = record {
  named : Names l.entries (kinds.Value l.at);
  before : (n : ℕ) → NamesBefore n (kinds.Value l.fn.value) → NamesBefore n (kinds.Value l.at);
  stands : StandsFor l.entries l.fn.value l.at;
}

abbrev pub decreases-loop-at : goal.decreases-loop-at
decreases-loop-at l = above (Some (kinds.Value l.at))
