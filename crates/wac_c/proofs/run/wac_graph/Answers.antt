use Rattle.std.proofs.Common.{ℕ, subst}
use Rattle.wac_calls.specs.Told.{Told}
use Rattle.wac_calls.specs.Compositions.{ComesToGraph}
use Rattle.wac_c.proofs.run.wac_graph.Goals as goal

pub returns : goal.returns
returns c =
    let answered =
    subst (λ (l : ℕ). Told (ComesToGraph l c.args.text.now c.args.packages.now) c.graph.result c.args.out.now c.graph.new.out c.args.message.now c.graph.new.message)
    c.limit_of.ensures c.graph.ensures in
    (c.graph.result, answered, c.c_answer.ensures)
