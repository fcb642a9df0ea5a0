use Rattle.wac_resolution.proofs.Common.{List, map, subst, OnOk, IfErr, statement_of, Reports, error_model, rules_of}
use Rattle.wac_ast.specs.declared.statement.Statement.{Statement}
use Rattle.wac_resolution.specs.Sequences.{StatementsRun, OneBreaks}
use Rattle.wac_resolution.proofs.lent.carry_out.Goals as goal

pub returns-clause-ok : goal.returns-clause-ok
returns-clause-ok g c =
    subst (λ (l : List Statement). OnOk c.compose.result (StatementsRun c.args.given.now.context.now (rules_of g.R.Rules c.args.given.now.rules.now) c.args.state.now.graph c.compose.new.state.graph c.args.root.now c.compose.new.root c.args.externs.now c.compose.new.externs (map statement_of l)))
    c.statements.view_is c.compose.ensures.ok

pub returns-clause-err : goal.returns-clause-err
returns-clause-err g c =
    subst (λ (l : List Statement). IfErr c.compose.result (λ e. Reports (error_model e) (OneBreaks c.args.given.now.context.now (rules_of g.R.Rules c.args.given.now.rules.now) c.args.state.now.graph c.args.root.now c.args.externs.now (map statement_of l) (error_model e))))
    c.statements.view_is c.compose.ensures.err
