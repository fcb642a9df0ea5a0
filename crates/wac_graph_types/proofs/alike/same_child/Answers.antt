use Rattle.wac_graph_types.proofs.alike.same_child.Goals as goal

pub same_kind-requires-clause-found : goal.same_kind-requires-clause-found
same_kind-requires-clause-found c = c.new-found.ensures.alike c.args.entries.now
