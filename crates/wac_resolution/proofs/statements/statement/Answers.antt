use Rattle.wac_resolution.proofs.Common.{reports, on_ok, if_err, rules_of}
use Rattle.wac_resolution.proofs.statements.statement.Goals as goal

pub returns-in-Import-clause-ok : goal.returns-in-Import-clause-ok
returns-in-Import-clause-ok g c = rw c.in-Import.is c.import_statement.ensures.ok

pub returns-in-Import-clause-err : goal.returns-in-Import-clause-err
returns-in-Import-clause-err g c = rw c.in-Import.is c.import_statement.ensures.err

pub returns-in-Ty-clause-ok : goal.returns-in-Ty-clause-ok
returns-in-Ty-clause-ok g c = rw c.in-Ty.is (on_ok _ _ c.type_statement.result (λ went. went (rules_of g.R.Rules c.args.given.now.rules.now)) c.type_statement.ensures.ok)

pub returns-in-Ty-clause-err : goal.returns-in-Ty-clause-err
returns-in-Ty-clause-err g c = rw c.in-Ty.is (if_err _ _ c.type_statement.result (λ e h. reports h (λ breaks. breaks (rules_of g.R.Rules c.args.given.now.rules.now))) c.type_statement.ensures.err)

pub returns-in-Let-clause-ok : goal.returns-in-Let-clause-ok
returns-in-Let-clause-ok g c = rw c.in-Let.is (on_ok _ _ c.let_statement.result (λ went. went c.args.externs.now c.requires.placed) c.let_statement.ensures.ok)

pub returns-in-Let-clause-err : goal.returns-in-Let-clause-err
returns-in-Let-clause-err g c = rw c.in-Let.is (if_err _ _ c.let_statement.result (λ e h. reports h (λ breaks. breaks c.args.externs.now)) c.let_statement.ensures.err)

pub returns-in-Export-clause-ok : goal.returns-in-Export-clause-ok
returns-in-Export-clause-ok g c = rw c.in-Export.is c.export_statement.ensures.ok

pub returns-in-Export-clause-err : goal.returns-in-Export-clause-err
returns-in-Export-clause-err g c = rw c.in-Export.is c.export_statement.ensures.err
