use Rattle.wac_graph.specs.Package.{key_of}
use Rattle.wac_graph.proofs.Added.{adds_package}
use Rattle.wac_graph.proofs.Origins.{keeps_package, keeps_types}
use Rattle.wac_graph.proofs.graph.CompositionGraph.add_package.Goals as goal

pub returns-clause-ok : goal.returns-clause-ok
returns-clause-ok c = adds_package c.args.self.now c.append_package.new.self (key_of c.args.key.now) c.args.package.now c.in_ok-id.id.0 c.append_package.ensures.sound c.append_package.ensures.facts c.in_ok-id.ensures.number c.in_ok-id.ensures.ok c.in_ok-id.ensures.copies c.in_ok-id.ensures.means

pub returns-clause-kinds : goal.returns-clause-kinds
returns-clause-kinds c = keeps_package c.args.self.now c.append_package.new.self (key_of c.args.key.now) c.args.package.now c.append_package.ensures.grown c.in_ok-id.ensures.ok

pub returns-in_err-id-clause-kinds : goal.returns-in_err-id-clause-kinds
returns-in_err-id-clause-kinds c = keeps_types c.args.self.now c.append_package.new.self c.append_package.ensures.grown c.in_err-id.ensures.err
