use Rattle.wac_tool_graphs.proofs.Common.{ℕ, ◌≡◌, Meaning}
use Rattle.wac_tool_graphs.specs.Pairs.{Agree}
use Rattle.wac_tool_graphs.proofs.pairs.root.Given as goal

abbrev pub invariant-loop : goal.invariant-loop
invariant-loop l = (means : ℕ → Meaning) → Agree means l.initial.leaders.entries → Agree means l.leaders.entries × (means l.entry ≡ means l.at)
