use Rattle.wac_resolution_statements.proofs.Common.{err_from_is_err_and, let_statement_of, error_model, rules_of, packages_in, reports}
use Rattle.wac_resolution_statements.proofs.Grown.{agrees_extends}
use Rattle.wac_resolution_statements.proofs.Lets.{let_went, let_expr_breaks, let_bound}
use Rattle.wac_resolution_statements.proofs.let_statements.let_statement.Goals as goal

pub returns-in_err-node-clause-err : goal.returns-in_err-node-clause-err
returns-in_err-node-clause-err g c =
    let p = err_from_is_err_and c.from_residual.result c.from_residual.ensures.1 in
    rw (p.1, p.2)
    (reports c.in_err-node.ensures.err
    (let_expr_breaks c.args.given.now.context.now (rules_of g.R.Rules c.args.given.now.rules.now) c.args.state.now.graph c.args.root.now (let_statement_of c.args.statement.now) (error_model c.in_err-node.field-0.0)))

pub bind-requires-clause-agrees : goal.bind-requires-clause-agrees
bind-requires-clause-agrees g c = agrees_extends (packages_in c.args.given.now.context.now) c.args.state.now.graph c.expression.new.state.graph c.args.root.now c.in_ok-node.ensures.ok.extends c.requires.agrees

pub returns-in_err-bind-clause-err : goal.returns-in_err-bind-clause-err
returns-in_err-bind-clause-err g c =
    let p = err_from_is_err_and c.from_residual-in_err-bind.result c.from_residual-in_err-bind.ensures.1 in
    rw (p.1, p.2)
    (reports c.in_err-bind.ensures.err
    (let_bound c.args.given.now.context.now (rules_of g.R.Rules c.args.given.now.rules.now) c.args.state.now.graph c.expression.new.state.graph c.args.root.now (let_statement_of c.args.statement.now) c.in_ok-node.node.0
    (error_model c.in_err-bind.field-0.0) c.in_ok-node.ensures.ok))

pub returns-clause-ok : goal.returns-clause-ok
returns-clause-ok g c =
    let_went c.args.given.now.context.now (rules_of g.R.Rules c.args.given.now.rules.now) c.args.state.now.graph c.expression.new.state.graph c.bind.new.state.graph c.args.root.now c.bind.new.self (let_statement_of c.args.statement.now)
    c.in_ok-node.node.0 c.nodes-before.ensures.sound c.nodes-after.ensures.sound c.in_ok-node.ensures.ok c.in_ok-bind.ensures.ok
