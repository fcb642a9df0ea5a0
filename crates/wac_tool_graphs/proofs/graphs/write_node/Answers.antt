use Rattle.std.proofs.Common.{◌≡◌, ◌++◌, ◌∙◌, ℕ, [], ap, subst, rules, Err, Option, Some, None}
use Rattle.std.specs.Prelude.{slice_get}
use Rattle.wac_graph_types.specs.Scope.{Named}
use Rattle.wac_graph.specs.Graph.{Parts, arguments_of}
use Rattle.wac_graph.specs.Node.{Node, arguments_in}
use Rattle.wac_tool_graphs.specs.Lines.{argument_lines}
use Rattle.wac_tool_graphs.specs.Puts.{Began, Puts}
use Rattle.wac_tool_graphs.proofs.NodeLines.{kind_is, fails_in_form, fails_in_kind, ends_node}
use Rattle.wac_tool_graphs.proofs.graphs.write_node.Goals as goal

pub returns-in_err-write_form : goal.returns-in_err-write_form
returns-in_err-write_form g c =
    let e : c.from_residual.result ≡ Err c.in_err-write_form.field-0.0 = search rules in
    λ numbering n at. (let p = c.in_err-write_form.ensures n at in fails_in_form numbering c.args.graph.now c.args.id.0 n _ _ _ _ _ _ e p.0 p.1)

pub returns-in_err-write_kind : goal.returns-in_err-write_kind
returns-in_err-write_kind g c =
    let e : c.from_residual-in_err-write_kind.result ≡ Err c.in_err-write_kind.field-0.0 = search rules in
    let graph = c.args.graph.now in
    let id = c.args.id.0 in
    let p = c.in_err-write_kind.ensures in
    let mid = g.S.Sink.bytes c.write_form.new.out in
    let new = g.S.Sink.bytes c.write_kind.new.out in
    λ numbering n at. fails_in_kind numbering graph id n _ _ _ _ _ _ _ _ e (c.in_ok-write_form.ensures n at)
    (subst (Began mid new) (kind_is numbering graph id n c.kind.result c.desc.result.now _ at c.kind.ensures.kind c.desc.ensures c.name.ensures) p.0, p.1)

pub returns : goal.returns
returns g c =
    let graph = c.args.graph.now in
    let id = c.args.id.0 in
    let p = c.in_ok-write_kind.ensures in
    let mid = g.S.Sink.bytes c.write_form.new.out in
    let next = c.write_kind.new.out in
    let new = c.write_names.new.out in
    λ numbering n at. ends_node numbering graph id n c.write_names.result _ _ _ _ _ _ _ _ (c.in_ok-write_form.ensures n at)
    (p.0 ∙ ap (λ x. mid ++ x) (kind_is numbering graph id n c.kind.result c.desc.result.now _ at c.kind.ensures.kind c.desc.ensures c.name.ensures), p.1)
    (subst (λ (names : Named ℕ). Puts c.write_names.result (g.S.Sink.bytes next) (g.S.Sink.failures next) (g.S.Sink.bytes new) (g.S.Sink.failures new) (argument_lines names))
    (c.arguments.ensures.arguments ∙ arguments_here graph id n at) c.write_names.ensures)
  where
    arguments_here : (h : Parts) (i : ℕ) (n : Node) → slice_get h.nodes i ≡ Some n → arguments_of h i ≡ arguments_in n.form
    arguments_here h i n at = ap (λ (o : Option Node). elim o as (λ _. Named ℕ) [ None ↦ [] | Some m ↦ arguments_in m.form ]) at
