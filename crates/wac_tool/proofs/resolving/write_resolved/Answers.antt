use Rattle.wac_tool.proofs.Common.{[], ◌∙◌, sym, add-zero}
use Rattle.wac_tool.proofs.Fronts.{began_at}
use Rattle.wac_tool.proofs.GraphTexts.{any_numbering, lines_of, writes_graph}
use Rattle.wac_tool.proofs.resolving.write_resolved.Goals as goal

pub returns-in-Ok-clause-answers : goal.returns-in-Ok-clause-answers
returns-in-Ok-clause-answers g c =
    let graph = c.in_ok-graph.graph in
    (c.requires, (lines_of graph, writes_graph c.args.source.now graph c.in_ok-graph.ensures.ok, (c.in-Ok.ensures any_numbering []).0))

pub returns-in-Ok-clause-output : goal.returns-in-Ok-clause-output
returns-in-Ok-clause-output g c = (c.in-Ok.ensures any_numbering []).1 ∙ sym (add-zero _)

pub returns-clause-answers : goal.returns-clause-answers
returns-clause-answers g c =
    let graph = c.in_ok-graph.graph in
    let part = (c.in-Err.ensures any_numbering []).0 in
    (c.requires, (lines_of graph, writes_graph c.args.source.now graph c.in_ok-graph.ensures.ok, began_at (g.S.Sink.bytes c.args.writer.now) (g.S.Sink.bytes c.write_graph.new.out) (lines_of graph) part.count part.is))

pub returns-clause-output : goal.returns-clause-output
returns-clause-output g c = (c.in-Err.ensures any_numbering []).1
