use Rattle.wac_graph.proofs.Common.{◌≡◌, ◌<◌, ℕ, List, length, rules, sym, subst, AllByRecursion}
use Rattle.wac_graph.specs.Numbers.{numbers}
use Rattle.wac_graph.proofs.Numbers.{numbers_below}
use Rattle.wac_graph.proofs.graph.CompositionGraph.nodes.Goals as goal

pub returns-clause-there : goal.returns-clause-there
returns-clause-there c =
    let all : c.new.result ≡ numbers 0 (length c.args.self.now.nodes) = search rules in
    subst (λ (l : List ℕ). AllByRecursion (λ i. i < length c.args.self.now.nodes) l) (sym all) (numbers_below (length c.args.self.now.nodes))
