use Rattle.wac_resolution_expressions.proofs.Common.{List, map, subst, IfErr, IfErr-weaker, err_from_is_err_and, by_name, arguments_from, package_name_of, argument_of, Reports, error_model, rules_of, numbers_of, reports}
use Rattle.wac_ast_statements.specs.declared.expr.InstantiationArgument.{InstantiationArgument}
use Rattle.wac_resolution_expressions.specs.Arguments.{given_nodes}
use Rattle.wac_resolution_expressions.specs.Incomplete.{IsIncomplete}
use Rattle.wac_resolution_expressions.specs.Completing.{AreWrong}
use Rattle.wac_resolution_expressions.proofs.Checking.{left_wrong}
use Rattle.wac_resolution_expressions.proofs.completing.check_arguments.Goals as goal

pub returns-clause-err : goal.returns-clause-err
returns-clause-err g c =
    let given = by_name c.args.given.now.entries in
    let args = arguments_from (map argument_of c.args.new.now.arguments.items) in
    let rules = rules_of g.R.Rules c.args.scope.now.rules.now in
    let err = subst (λ (l : List InstantiationArgument). IfErr c.check_complete.result (λ e. Reports (error_model e) (IsIncomplete c.args.state.now.graph c.args.world (package_name_of c.args.new.now.«package») (arguments_from (map argument_of l)) (given_nodes (by_name c.args.given.now.entries)) (error_model e))))
    c.deref.ensures.value c.check_complete.ensures.err in
    IfErr-weaker c.check_complete.result (λ e. Reports (error_model e) (IsIncomplete c.args.state.now.graph c.args.world (package_name_of c.args.new.now.«package») args (given_nodes given) (error_model e)))
    (λ e. Reports (error_model e) (AreWrong rules c.args.state.now.graph (numbers_of c.args.scope.now.root.now.nodes) c.args.world (package_name_of c.args.new.now.«package») args given (error_model e)))
    (λ e h. reports h (left_wrong rules c.args.state.now.graph (numbers_of c.args.scope.now.root.now.nodes) c.args.world (package_name_of c.args.new.now.«package») args given (error_model e) c.in_ok-check_fit.ensures.ok)) err

pub returns-in_err-check_fit-clause-err : goal.returns-in_err-check_fit-clause-err
returns-in_err-check_fit-clause-err g c =
    let p = err_from_is_err_and c.from_residual.result c.from_residual.ensures.1 in
    rw (p.1, p.2) c.in_err-check_fit.ensures.err
