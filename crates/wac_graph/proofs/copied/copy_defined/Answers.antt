use Rattle.wac_graph.proofs.Common.{◌∙◌, sym}
use Rattle.wac_graph.proofs.Views.{names_stay}
use Rattle.wac_graph.proofs.copied.copy_defined.Goals as goal

pub returns-in_ok-copy_names-in-Flags-clause-kinds : goal.returns-in_ok-copy_names-in-Flags-clause-kinds
returns-in_ok-copy_names-in-Flags-clause-kinds c = rw c.in-Flags.is (c.in_ok-copy_names-in-Flags.ensures ∙ sym (names_stay c.args.n _))

pub returns-in_ok-copy_names-in-Enum-clause-kinds : goal.returns-in_ok-copy_names-in-Enum-clause-kinds
returns-in_ok-copy_names-in-Enum-clause-kinds c = rw c.in-Enum.is (c.in_ok-copy_names-in-Enum.ensures ∙ sym (names_stay c.args.n _))
