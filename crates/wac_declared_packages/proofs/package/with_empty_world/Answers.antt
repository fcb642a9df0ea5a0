use Rattle.wac_declared_packages.proofs.Common.{◌∙◌, ap, WorldId}
use Rattle.wac_graph_types.specs.declared.entry.Entry.TheVariants as entries
use Rattle.wac_declared_packages.proofs.Assembling.{grown_after, empty_stays}
use Rattle.wac_declared_packages.proofs.package.with_empty_world.Goals as goal

pub returns-clause-grown : goal.returns-clause-grown
returns-clause-grown c = grown_after c.args.types c.add_world.new.self c.in_ok-package.package.types (entries.World c.empty_world.result) c.in_ok-world.ensures.ok c.in_ok-package.ensures.grown

pub returns-clause-world : goal.returns-clause-world
returns-clause-world c =
    empty_stays c.args.types c.add_world.new.self c.in_ok-package.package.types c.empty_world.result c.in_ok-package.package.world.0 c.in_ok-world.ensures.ok
    (ap (λ (w : WorldId). w.0) c.in_ok-package.ensures.world ∙ c.in_ok-world.ensures.number) c.in_ok-package.ensures.grown c.empty_world.ensures.imports c.empty_world.ensures.exports
