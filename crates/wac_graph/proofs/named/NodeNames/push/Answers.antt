use Rattle.wac_graph.proofs.Common.{◌≡◌, ◌∙◌, sym, ap, subst, ℕ, by_name, Named, IsFresh, with_named}
use Rattle.std.proofs.lemmas.Result.{on_ok_weaker, on_err_weaker}
use Rattle.wac_graph.specs.declared.node.NodeId.{NodeId}
use Rattle.wac_graph.specs.NodeNames.{numbers_of}
use Rattle.wac_graph.proofs.NamedNodes.{no_number, one_more_number}
use Rattle.wac_graph.proofs.named.NodeNames.push.Goals as goal

pub push-requires : goal.push-requires
push-requires c = no_number c.args.name.now (by_name c.self.inside.nodes.entries) (subst (λ (l : Named ℕ). IsFresh c.args.name.now l) (sym c.self.view_is) c.requires)

pub returns-clause-ok : goal.returns-clause-ok
returns-clause-ok c =
    on_ok_weaker c.push.result
    (λ (is : by_name c.push.new.all.entries ≡ with_named (by_name c.self.inside.nodes.entries) c.args.name.now c.args.node).
    ap (λ (l : Named NodeId). numbers_of l) is
    ∙ one_more_number (by_name c.self.inside.nodes.entries) c.args.name.now c.args.node
    ∙ ap (λ (l : Named ℕ). with_named l c.args.name.now c.args.node.0) c.self.view_is)
    c.push.ensures.ok

pub returns-clause-err : goal.returns-clause-err
returns-clause-err c =
    on_err_weaker c.push.result
    (λ (is : by_name c.push.new.all.entries ≡ by_name c.self.inside.nodes.entries). ap (λ (l : Named NodeId). numbers_of l) is ∙ c.self.view_is)
    c.push.ensures.err
