use Rattle.wac_resolution_expressions.proofs.Common.{◌∙◌, sym, package_name_of}
use Rattle.wac_graph.specs.Readings.{held_of}
use Rattle.wac_resolution_expressions.proofs.Instantiating.{instantiable_is}
use Rattle.wac_resolution_expressions.proofs.packages.instantiable.Goals as goal

pub returns-in-Some-clause-ok : goal.returns-in-Some-clause-ok
returns-in-Some-clause-ok c =
    let loads = rw c.in-Some.is at c.in_ok-loaded.ensures in
    instantiable_is c.args.context.now c.args.state.now.graph c.load.new.state.graph (package_name_of c.args.«package».now) c.in-Some.id (held_of c.package-held.result)
    (sym c.is_own.ensures ∙ c.if-is_own.false) c.requires.stand loads c.package-held.ensures.found c.package-held.ensures.named
