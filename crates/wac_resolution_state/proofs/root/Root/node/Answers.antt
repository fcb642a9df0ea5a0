use Rattle.wac_resolution_state.proofs.Common.{sym, ident_of}
use Rattle.wac_resolution_state.proofs.Roots.{node_is}
use Rattle.wac_resolution_state.proofs.root.Root.node.Goals as goal

pub returns-in-Some-clause-ok : goal.returns-in-Some-clause-ok
returns-in-Some-clause-ok c = node_is c.args.self.now (ident_of c.args.id.now) c.in-Some.node (sym c.in-Some.ensures)
