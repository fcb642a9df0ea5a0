use Rattle.wac_graph.proofs.Common.{◌∙◌, ap, option_map, by_name, look_up}
use Rattle.wac_graph.proofs.NamedNodes.{number_found}
use Rattle.wac_graph.specs.declared.node.NodeId.{NodeId}
use Rattle.wac_graph.proofs.named.NodeNames.get.Goals as goal

pub returns : goal.returns
returns c =
    ap (option_map (λ (n : NodeId). n.0)) c.find.ensures
    ∙ number_found c.args.name.now (by_name c.self.inside.nodes.entries)
    ∙ ap (look_up c.args.name.now) c.self.view_is
