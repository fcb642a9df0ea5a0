use Rattle.wac_resolution_expressions.proofs.Common.{ap, err_from_is_err_and, by_name, ident_of, argument_of, error_model, spread_of, numbers_of, reports}
use Rattle.wac_ast_statements.specs.declared.expr.InstantiationArgument.{InstantiationArgument}
use Rattle.wac_resolution_expressions.proofs.SpreadSteps.{gave_none, gave_one, breaks_one, not_spread}
use Rattle.wac_resolution_expressions.proofs.spread_arguments.spread_argument.Goals as goal

pub returns-in_err-spread-in-Spread-clause-err : goal.returns-in_err-spread-in-Spread-clause-err
returns-in_err-spread-in-Spread-clause-err c =
    let p = err_from_is_err_and c.from_residual.result c.from_residual.ensures.1 in
    rw (p.1, p.2) (reports c.in_err-spread-in-Spread.ensures.err (breaks_one c.args.state.now.graph c.args.world (numbers_of c.args.root.now.nodes) (by_name c.args.given.now.entries) (ident_of c.in-Spread.id) (spread_of (argument_of c.args.argument.now)) (error_model c.in_err-spread-in-Spread.field-0.0)
    (ap (λ (a : InstantiationArgument). spread_of (argument_of a)) c.in-Spread.is)))

pub returns-in_ok-spread-in-Spread-clause-ok : goal.returns-in_ok-spread-in-Spread-clause-ok
returns-in_ok-spread-in-Spread-clause-ok c =
    gave_one c.args.state.now.graph c.args.world (numbers_of c.args.root.now.nodes) c.spread.new.state.graph (by_name c.args.given.now.entries) (by_name c.spread.new.given.entries) (ident_of c.in-Spread.id) (spread_of (argument_of c.args.argument.now))
    (ap (λ (a : InstantiationArgument). spread_of (argument_of a)) c.in-Spread.is) c.in_ok-spread-in-Spread.ensures.ok

pub returns-in_default-clause-ok : goal.returns-in_default-clause-ok
returns-in_default-clause-ok c =
    gave_none c.args.state.now.graph c.args.world (numbers_of c.args.root.now.nodes) (by_name c.args.given.now.entries) (spread_of (argument_of c.args.argument.now)) c.requires.agrees.nodes c.requires.there
    (not_spread c.args.argument.now c.in_default.not-Spread)
