use Rattle.std.proofs.Common.{◌≡◌, ◌<◌, ◌++◌, ℕ, List, length}
use Rattle.std.specs.Prelude.{flat_map}
use Rattle.std.specs.List.{AllByRecursion}
use Rattle.wac_graph.specs.Numbers.{numbers}
use Rattle.wac_graph.specs.Origin.{Numbering}
use Rattle.wac_tool_graphs.proofs.NodeLines.{lines_at}
use Rattle.wac_tool_graphs.proofs.graphs.write_nodes.Given as goal

abbrev pub invariant-loop-id : goal.invariant-loop-id
invariant-loop-id g l = record {
  written : List ℕ;
  all : written ++ l.id-iterator ≡ numbers 0 (length l.graph.nodes);
  there : AllByRecursion (λ i. i < length l.graph.nodes) l.id-iterator;
  put : (numbering : Numbering) → g.S.Sink.bytes l.out ≡ g.S.Sink.bytes l.fn.out ++ flat_map (lines_at numbering l.graph) written;
  failures : g.S.Sink.failures l.out ≡ g.S.Sink.failures l.fn.out;
}
