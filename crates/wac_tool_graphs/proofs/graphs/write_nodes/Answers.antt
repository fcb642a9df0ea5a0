use Rattle.std.proofs.Common.{◌≡◌, ◌∙◌, ◌++◌, ◌∷◌, ◌<◌, ◌+◌, [], length, ap, subst, rules, Err}
use Rattle.std.specs.Prelude.{flat_map}
use Rattle.std.specs.List.{AllByRecursion}
use Rattle.wac_tool_graphs.specs.Puts.{Began, Puts}
use Rattle.wac_tool_graphs.proofs.NodeLines.{lines_at, at_lines, lines_by_number}
use Rattle.wac_tool_graphs.proofs.Putting.{one_more, none_left, put_more, fails_in}
use Rattle.wac_tool_graphs.proofs.graphs.write_nodes.Goals as goal

pub loop-id-preserved : goal.loop-id-preserved
loop-id-preserved g c =
    let i = c.loop-id.invariant in
    let graph = c.args.graph.now in
    let w = c.in_ok-write_node.ensures in
    let id = c.in-Some.id.0 in
    let there = subst (AllByRecursion (λ k. k < length graph.nodes)) c.in-Some.ensures.steps i.there in
    record {
      written = i.written ++ id ∷ [];
      all = one_more i.written _ _ _ _ i.all c.in-Some.ensures.steps;
      there = there.1;
      put = λ numbering. put_more (lines_at numbering graph) _ _ _ i.written id (i.put numbering) (at_lines numbering graph id (λ text. g.S.Sink.bytes c.write_node.new.out ≡ g.S.Sink.bytes c.loop-id.out ++ text) there.0 (λ n is. (w numbering n is).0));
      failures = at_lines (λ _. 0) graph id (λ text. g.S.Sink.failures c.write_node.new.out ≡ g.S.Sink.failures c.loop-id.out) there.0 (λ n is. (w (λ _. 0) n is).1) ∙ i.failures;
    }

pub returns-in_err-write_node : goal.returns-in_err-write_node
returns-in_err-write_node g c =
    let i = c.loop-id.invariant in
    let graph = c.args.graph.now in
    let w = c.in_err-write_node.ensures in
    let id = c.in-Some.id.0 in
    let there = subst (AllByRecursion (λ k. k < length graph.nodes)) c.in-Some.ensures.steps i.there in
    let e : c.from_residual.result ≡ Err c.in_err-write_node.field-0.0 = search rules in
    let old = g.S.Sink.bytes c.loop-id.out in
    let new = g.S.Sink.bytes c.write_node.new.out in
    λ numbering. subst (Puts c.from_residual.result _ _ _ _) (lines_by_number numbering graph) (
    fails_in (lines_at numbering graph) _ _ _ _ _ _ _ _ i.written _ _ _ id e i.all c.in-Some.ensures.steps (i.put numbering) i.failures
    (at_lines numbering graph id (Began old new) there.0 (λ n is. (w numbering n is).0))
    (at_lines numbering graph id (λ text. g.S.Sink.failures c.write_node.new.out ≡ g.S.Sink.failures c.loop-id.out + 1) there.0 (λ n is. (w numbering n is).1))
    )

pub returns : goal.returns
returns g c =
    let i = c.loop-id.invariant in
    let graph = c.args.graph.now in
    let all = none_left i.written _ _ i.all c.in-None.ensures.steps.0 in
    λ numbering. (i.put numbering ∙ ap (λ l. g.S.Sink.bytes c.args.out.now ++ l) (ap (flat_map (lines_at numbering graph)) all ∙ lines_by_number numbering graph), i.failures)
