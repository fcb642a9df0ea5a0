use Rattle.std.proofs.Common.{ℕ, subst}
use Rattle.wac_graph_types.specs.Scope.{Named}
use Rattle.wac_tool_graphs.specs.Lines.{export_lines}
use Rattle.wac_tool_graphs.specs.Puts.{Puts}
use Rattle.wac_tool_graphs.proofs.Putting.{puts_after}
use Rattle.wac_tool_graphs.proofs.graphs.write_graph.Goals as goal

pub returns : goal.returns
returns g c =
    let w = c.in_ok-write_nodes.ensures in
    let mid = c.write_nodes.new.out in
    let new = c.write_names.new.out in
    let rest = subst (λ (names : Named ℕ). Puts c.write_names.result (g.S.Sink.bytes mid) (g.S.Sink.failures mid) (g.S.Sink.bytes new) (g.S.Sink.failures new) (export_lines names)) c.exports.ensures.exports c.write_names.ensures in
    λ numbering declared. puts_after c.write_names.result _ _ _ _ _ _ _ _ (w numbering).0 (w numbering).1 rest
