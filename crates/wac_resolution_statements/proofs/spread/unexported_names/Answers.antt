use Rattle.wac_resolution_statements.proofs.Common.{map, ap, string_bytes, by_name}
use Rattle.wac_resolution_statements.proofs.Spreading.{gathered}
use Rattle.wac_resolution_statements.proofs.spread.unexported_names.Goals as goal

pub returns : goal.returns
returns c = gathered c.args.graph.now.exports c.args.all.now.entries (by_name c.loop-name.name-iterator) (map string_bytes c.loop-name.names.items) c.len.ensures.unique (ap by_name c.in-None.ensures.steps.0) c.loop-name.invariant
