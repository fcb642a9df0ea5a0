use Rattle.std.proofs.Common.{◌≡◌, ◌<◌, Some, length}
use Rattle.std.specs.Prelude.{slice_get, option_map}
use Rattle.wac_graph_types.specs.Entry.{sort_of}
use Rattle.wac_graph_types.specs.declared.kind.Sort.TheVariants as sorts
use Rattle.wac_component_rules.proofs.Aliases.{NamedAfter}
use Rattle.wac_component_rules.proofs.sources.source_name.Given as goal

abbrev pub invariant-loop-resource : goal.invariant-loop-resource
invariant-loop-resource l = record {
  within : l.at < length l.entries;
  sort : option_map sort_of (slice_get l.entries l.at) ≡ Some sorts.Resource;
  named : NamedAfter l.entries l.fn.number l.at;
}

abbrev pub decreases-loop-resource : goal.decreases-loop-resource
decreases-loop-resource l = l.at
