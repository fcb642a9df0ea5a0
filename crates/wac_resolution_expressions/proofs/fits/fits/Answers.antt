use Rattle.wac_resolution_expressions.proofs.Common.{rules_of}
use Rattle.wac_resolution_expressions.proofs.Fitting.{import_named, fits_there, unfit_there, for_none}
use Rattle.wac_resolution_expressions.proofs.fits.fits.Goals as goal

pub may_stand-requires-clause-wanted : goal.may_stand-requires-clause-wanted
may_stand-requires-clause-wanted g c = import_named c.args.state.now.graph.types c.args.world c.args.name.now _ c.types-types.ensures.entries c.in-Some.ensures

pub returns-in-Ok-clause-ok : goal.returns-in-Ok-clause-ok
returns-in-Ok-clause-ok g c =
    fits_there (rules_of g.R.Rules c.args.rules.now) c.args.state.now.graph c.args.world c.args.name.now c.args.node.0 c.in-Some.wanted c.types-types.ensures.means c.requires.world c.in-Some.ensures c.in-Ok.ensures

pub returns-in-Err-clause-err : goal.returns-in-Err-clause-err
returns-in-Err-clause-err g c =
    unfit_there (rules_of g.R.Rules c.args.rules.now) c.args.state.now.graph c.args.world c.args.name.now c.args.node.0 c.in-Some.wanted c.in-Err.reason c.types-types.ensures.means c.requires.world c.in-Some.ensures c.in-Err.ensures

pub returns-in-None-clause-err : goal.returns-in-None-clause-err
returns-in-None-clause-err g c = for_none c.args.state.now.graph c.args.world c.args.name.now c.types-types.ensures.means c.requires.world c.in-None.ensures
