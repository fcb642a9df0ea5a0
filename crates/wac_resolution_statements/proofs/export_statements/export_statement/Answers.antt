use Rattle.wac_resolution_statements.proofs.Common.{refl, err_from_is_err_and, export_statement_of, error_model, numbers_of, rules_of, packages_in, reports}
use Rattle.wac_ast_statements.specs.Expressions.{expr_of}
use Rattle.wac_resolution_statements.proofs.Grown.{agrees_extends}
use Rattle.wac_resolution_statements.proofs.ExportsStated.{export_went, export_placed, export_expr_breaks, export_breaks}
use Rattle.wac_resolution_statements.proofs.export_statements.export_statement.Goals as goal

pub returns-in_err-node-clause-err : goal.returns-in_err-node-clause-err
returns-in_err-node-clause-err g c =
    let p = err_from_is_err_and c.from_residual.result c.from_residual.ensures.1 in
    rw (p.1, p.2)
    (reports c.in_err-node.ensures.err
    (export_expr_breaks c.args.scope.now.context.now (rules_of g.R.Rules c.args.scope.now.rules.now) c.args.state.now.graph c.args.scope.now.root.now c.args.externs.now (export_statement_of c.args.statement.now) (error_model c.in_err-node.field-0.0)))

pub export_node-requires-clause-agrees : goal.export_node-requires-clause-agrees
export_node-requires-clause-agrees g c = agrees_extends (packages_in c.args.scope.now.context.now) c.args.state.now.graph c.expression.new.state.graph c.args.scope.now.root.now c.in_ok-node.ensures.ok.extends c.requires.agrees

pub export_node-requires-clause-placed : goal.export_node-requires-clause-placed
export_node-requires-clause-placed g c =
    export_placed c.args.scope.now.context.now (rules_of g.R.Rules c.args.scope.now.rules.now) c.args.state.now.graph c.expression.new.state.graph (numbers_of c.args.scope.now.root.now.nodes) c.args.externs.now (expr_of c.args.statement.now.expr) c.in_ok-node.node.0
    c.in_ok-node.ensures.ok c.requires.placed

pub returns-in_err-export_node-clause-err : goal.returns-in_err-export_node-clause-err
returns-in_err-export_node-clause-err g c =
    let p = err_from_is_err_and c.from_residual-in_err-export_node.result c.from_residual-in_err-export_node.ensures.1 in
    rw (p.1, p.2)
    (reports c.in_err-export_node.ensures.err
    (export_breaks c.args.scope.now.context.now (rules_of g.R.Rules c.args.scope.now.rules.now) c.args.state.now.graph c.expression.new.state.graph c.args.scope.now.root.now c.args.externs.now (export_statement_of c.args.statement.now) c.in_ok-node.node.0
    (error_model c.in_err-export_node.field-0.0) c.in_ok-node.ensures.ok))

pub returns-clause-ok : goal.returns-clause-ok
returns-clause-ok g c =
    export_went c.args.scope.now.context.now (rules_of g.R.Rules c.args.scope.now.rules.now) c.args.state.now.graph c.expression.new.state.graph c.export_node.new.state.graph c.args.scope.now.root.now c.args.externs.now c.export_node.new.externs (export_statement_of c.args.statement.now)
    c.in_ok-node.node.0 c.nodes-before.ensures.sound c.nodes-after.ensures.sound c.requires.agrees c.in_ok-node.ensures.ok (c.in_ok-export_node.ensures.ok (expr_of c.args.statement.now.expr) refl)
