use Rattle.wac_resolution_expressions.proofs.Common.{List, ap, subst, ℕ, string_bytes, by_name, rules_of}
use Rattle.wac_resolution_expressions.specs.Fits.{IsFit}
use Rattle.wac_resolution_expressions.proofs.Fitting.{none_fit, next_there, fit_next, fit_end, misfit_first}
use Rattle.wac_resolution_expressions.proofs.fits.misfit.Goals as goal

pub loop-name-init : goal.loop-name-init
loop-name-init g c =
    rw (c.into_iter-name-iterator.ensures.into_iter_gives, c.iter-name-items.ensures.rest)
    (none_fit (rules_of g.R.Rules c.args.rules.now) c.args.state.now.graph c.args.world (by_name c.args.given.now.entries) c.requires.there)

pub fits-requires-clause-there : goal.fits-requires-clause-there
fits-requires-clause-there g c =
    next_there c.args.state.now.graph (by_name c.loop-name.name-iterator) (by_name c.next.new.self) (string_bytes c.in-Some.name.now, c.in-Some.node.now) (ap by_name c.in-Some.ensures.steps) c.loop-name.invariant.there

pub loop-name-preserved : goal.loop-name-preserved
loop-name-preserved g c =
    fit_next (rules_of g.R.Rules c.args.rules.now) c.args.state.now.graph c.args.world (by_name c.args.given.now.entries) (by_name c.loop-name.name-iterator) (by_name c.next.new.self) (string_bytes c.in-Some.name.now, c.in-Some.node.now)
    (ap by_name c.in-Some.ensures.steps) c.loop-name.invariant
    (subst (λ (n : List ℕ). IsFit (rules_of g.R.Rules c.args.rules.now) c.args.state.now.graph c.args.world n c.in-Some.node.now.0) c.as_str-text.ensures.value c.in-Ok.ensures.ok)

pub returns-in-Err : goal.returns-in-Err
returns-in-Err g c =
    misfit_first (rules_of g.R.Rules c.args.rules.now) c.args.state.now.graph c.args.world (by_name c.args.given.now.entries) (by_name c.loop-name.name-iterator) (by_name c.next.new.self) (string_bytes c.in-Some.name.now, c.in-Some.node.now) c.as_str-text.result.now c.in-Err.reason
    (ap by_name c.in-Some.ensures.steps) c.as_str-text.ensures.value c.loop-name.invariant c.in-Err.ensures.err

pub returns : goal.returns
returns g c =
    fit_end (rules_of g.R.Rules c.args.rules.now) c.args.state.now.graph c.args.world (by_name c.args.given.now.entries) (by_name c.loop-name.name-iterator) (ap by_name c.in-None.ensures.steps.0) c.loop-name.invariant
