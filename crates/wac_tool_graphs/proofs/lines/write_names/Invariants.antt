use Rattle.std.proofs.Common.{◌≡◌, ◌++◌, ℕ, List}
use Rattle.std.specs.Prelude.{flat_map}
use Rattle.wac_tool_graphs.specs.Lines.{name_line}
use Rattle.wac_tool_graphs.proofs.lines.write_names.Given as goal

abbrev pub invariant-loop-name : goal.invariant-loop-name
invariant-loop-name g l = record {
  written : List (List ℕ × ℕ);
  all : written ++ l.name-iterator ≡ l.fn.names;
  put : g.S.Sink.bytes l.out ≡ g.S.Sink.bytes l.fn.out ++ flat_map (name_line l.before) written;
  failures : g.S.Sink.failures l.out ≡ g.S.Sink.failures l.fn.out;
}
