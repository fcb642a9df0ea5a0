use Rattle.wac_resolution_statements.proofs.Common.{◌≡◌, ◌∙◌, None, sym, ap, rules, option_map, Span, ItemKind, means, sort_of}
use Rattle.wac_resolution_statements.proofs.Checks.{node_there, defined_here, not_defined, is_definition_sort, unbound, unplaced}
use Rattle.wac_resolution_statements.proofs.name_check.definition.Goals as goal

pub returns-in_err-node-clause-kind : goal.returns-in_err-node-clause-kind
returns-in_err-node-clause-kind c numbering =
    let none : c.from_residual.result ≡ None = search rules in
    ap (option_map (λ (d : ItemKind × Span). means numbering c.args.state.now.graph d.0)) none
    ∙ unbound c.args.state.now.graph c.args.root.now c.args.name.now (sym c.find.ensures ∙ c.in_err-node.was) numbering

pub returns-in_err-span-clause-kind : goal.returns-in_err-span-clause-kind
returns-in_err-span-clause-kind c numbering =
    let none : c.from_residual-in_err-span.result ≡ None = search rules in
    ap (option_map (λ (d : ItemKind × Span). means numbering c.args.state.now.graph d.0)) none
    ∙ unplaced c.args.state.now.graph c.args.root.now c.args.name.now (sym c.place.ensures ∙ c.in_err-span.was) numbering

pub node-requires : goal.node-requires
node-requires c = node_there c.args.state.now.graph c.args.root.now c.args.name.now c.in_ok-node.node c.requires (sym c.find.ensures ∙ c.in_ok-node.was)

pub kind-requires : goal.kind-requires
kind-requires c = node_there c.args.state.now.graph c.args.root.now c.args.name.now c.in_ok-node.node c.requires (sym c.find.ensures ∙ c.in_ok-node.was)

pub returns-in-Definition-clause-kind : goal.returns-in-Definition-clause-kind
returns-in-Definition-clause-kind c =
    defined_here c.args.state.now.graph c.args.root.now c.args.name.now c.in_ok-node.node (sort_of c.node.result.now) c.kind.result (sym c.find.ensures ∙ c.in_ok-node.was) c.node.ensures.node (ap sort_of c.in-Definition.is) c.kind.ensures.kind

pub returns-in_default : goal.returns-in_default
returns-in_default c = record {
  kind = not_defined c.args.state.now.graph c.args.root.now c.args.name.now c.in_ok-node.node (sort_of c.node.result.now) c.requires.nodes (sym c.find.ensures ∙ c.in_ok-node.was) c.node.ensures.node
      (λ h. c.in_default.not-Definition (is_definition_sort c.node.result.now h));
  place = tt;
}
