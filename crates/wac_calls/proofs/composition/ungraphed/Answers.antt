use Rattle.std.proofs.Common.{subst}
use Rattle.wac_calls.specs.Graphs.{IsErrorOf}
use Rattle.wac_calls.proofs.GraphFaults.{graph_broken, graph_fault, graph_without}
use Rattle.wac_calls.proofs.composition.ungraphed.Goals as goal

pub returns-in-Parse : goal.returns-in-Parse
returns-in-Parse c = λ source is.
    graph_fault source c.in-Parse.error c.unparsed.result (subst (λ e. IsErrorOf source e) c.in-Parse.is is) c.unparsed.ensures

pub returns-in-Resolution : goal.returns-in-Resolution
returns-in-Resolution c = λ source is.
    graph_broken source c.unresolved.result (subst (λ e. IsErrorOf source e) c.in-Resolution.is is) c.unresolved.ensures

pub returns-in-Component : goal.returns-in-Component
returns-in-Component c = λ source is. graph_without source c.undecoded.result c.undecoded.ensures

pub returns-in-Package : goal.returns-in-Package
returns-in-Package c = λ source is. graph_without source c.undeclared.result c.undeclared.ensures
