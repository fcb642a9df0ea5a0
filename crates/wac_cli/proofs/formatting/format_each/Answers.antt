use Rattle.wac_cli.proofs.Common.{List, take, subst, arith, take_all, Found}
use Rattle.wac_cli.specs.Formatted.{ComeTo}
use Rattle.wac_cli.proofs.Formatted.{come_only, come_step, found_only}
use Rattle.wac_cli.proofs.Replaced.{both}
use Rattle.wac_cli.proofs.formatting.format_each.Goals as goal

pub returns-in_err-push-clause-formats : goal.returns-in_err-push-clause-formats
returns-in_err-push-clause-formats g c =
    let replaced = g.F.FileSystem.replaced in
    both c.args.options (replaced c.args.files.now) (replaced c.loop-found.files) (replaced c.format_found-outcome.new.files)
    (come_only c.args.options (take c.loop-found.found-index c.args.found.now) c.loop-found.outcomes.items (replaced c.args.files.now) (replaced c.loop-found.files) c.loop-found.invariant)
    (found_only c.args.options c.found-item.result c.format_found-outcome.result (replaced c.loop-found.files) (replaced c.format_found-outcome.new.files) c.format_found-outcome.ensures)

pub loop-found-preserved : goal.loop-found-preserved
loop-found-preserved g c =
    let replaced = g.F.FileSystem.replaced in
    come_step c.args.options c.args.found.now c.loop-found.found-index c.found-item.result c.loop-found.outcomes.items c.push.new.self.items c.format_found-outcome.result
    (replaced c.args.files.now) (replaced c.loop-found.files) (replaced c.format_found-outcome.new.files)
    c.loop-found-test.true c.found-item.is c.in_ok-push.ensures.items c.loop-found.invariant c.format_found-outcome.ensures

pub returns-clause-formats : goal.returns-clause-formats
returns-clause-formats g c =
    let replaced = g.F.FileSystem.replaced in
    come_only c.args.options (take c.loop-found.found-index c.args.found.now) c.loop-found.outcomes.items (replaced c.args.files.now) (replaced c.loop-found.files) c.loop-found.invariant

pub returns-clause-each : goal.returns-clause-each
returns-clause-each g c =
    let replaced = g.F.FileSystem.replaced in
    let P : List Found → Type 0 = λ all. ComeTo c.args.options all c.loop-found.outcomes.items (replaced c.args.files.now) (replaced c.loop-found.files) in
    subst P (take_all c.loop-found.found-index c.args.found.now (omega arith)) c.loop-found.invariant
