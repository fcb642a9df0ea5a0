use Rattle.wac_resolution_statements.proofs.Common.{sym, arguments_of, if_reports, rules_of}
use Rattle.wac_resolution_statements.specs.Testing.{testing}
use Rattle.wac_resolution_statements.proofs.Opens.{given_allowed, all_open, some_open}
use Rattle.wac_resolution_statements.proofs.open.check_open_import.Goals as goal

pub returns-in-Some-clause-ok : goal.returns-in-Some-clause-ok
returns-in-Some-clause-ok g c = given_allowed (testing c.args.state.now.graph (rules_of g.R.Rules c.args.rules.now) c.args.target.now) (arguments_of c.args.state.now.graph c.args.node.0) (c.args.import.now.name.now, c.args.import.now.kind) _ (sym c.in-Some.ensures.node)

pub returns-in-None-clause-ok : goal.returns-in-None-clause-ok
returns-in-None-clause-ok g c = all_open (testing c.args.state.now.graph (rules_of g.R.Rules c.args.rules.now) c.args.target.now) (arguments_of c.args.state.now.graph c.args.node.0) (c.args.import.now.name.now, c.args.import.now.kind) c.check_import.result (sym c.in-None.ensures.node) c.check_import.ensures.ok

pub returns-in-None-clause-err : goal.returns-in-None-clause-err
returns-in-None-clause-err g c = if_reports _ _ (λ r. some_open (testing c.args.state.now.graph (rules_of g.R.Rules c.args.rules.now) c.args.target.now) (arguments_of c.args.state.now.graph c.args.node.0) (c.args.import.now.name.now, c.args.import.now.kind) r (sym c.in-None.ensures.node)) c.check_import.result c.check_import.ensures.err
