use Rattle.wac_resolution_expressions.proofs.Common.{by_name, rules_of}
use Rattle.wac_resolution_expressions.proofs.Fitting.{FitSoFar}
use Rattle.wac_resolution_expressions.proofs.fits.misfit.Given as goal

abbrev pub invariant-loop-name : goal.invariant-loop-name
invariant-loop-name g l = FitSoFar (rules_of g.R.Rules l.rules) l.state.graph l.world (by_name l.given.entries) (by_name l.name-iterator)
