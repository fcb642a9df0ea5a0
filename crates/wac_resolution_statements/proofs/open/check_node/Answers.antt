use Rattle.wac_resolution_statements.proofs.Common.{sym, subst, ItemKind, Named, Reports, error_model, rules_of}
use Rattle.std.proofs.Common.{OnOk, IfErr}
use Rattle.wac_resolution_statements.specs.Imported.{of_kind}
use Rattle.wac_resolution_statements.specs.Testing.{testing, AllAllowed, SomeDenied, nowhere}
use Rattle.wac_resolution_statements.proofs.Opens.{instance_opens, other_opens}
use Rattle.wac_resolution_statements.proofs.open.check_node.Goals as goal

pub returns-in-Some-clause-ok : goal.returns-in-Some-clause-ok
returns-in-Some-clause-ok g c = subst (λ (l : Named ItemKind). OnOk c.check_instance.result (AllAllowed (testing c.args.state.now.graph (rules_of g.R.Rules c.args.rules.now) c.args.target.now) (of_kind c.args.state.now.graph) l)) (sym (instance_opens c.args.state.now.graph c.args.node.0 c.in-Some.«package».0 (sym c.in-Some.ensures.of))) c.check_instance.ensures.ok

pub returns-in-Some-clause-err : goal.returns-in-Some-clause-err
returns-in-Some-clause-err g c = subst (λ (l : Named ItemKind). IfErr c.check_instance.result (λ e. Reports (error_model e) (SomeDenied (testing c.args.state.now.graph (rules_of g.R.Rules c.args.rules.now) c.args.target.now) (of_kind c.args.state.now.graph) nowhere l (error_model e)))) (sym (instance_opens c.args.state.now.graph c.args.node.0 c.in-Some.«package».0 (sym c.in-Some.ensures.of))) c.check_instance.ensures.err

pub returns-in-None-clause-ok : goal.returns-in-None-clause-ok
returns-in-None-clause-ok g c = subst (AllAllowed (testing c.args.state.now.graph (rules_of g.R.Rules c.args.rules.now) c.args.target.now) (of_kind c.args.state.now.graph)) (sym (other_opens c.args.state.now.graph c.args.node.0 (sym c.in-None.ensures.of))) tt
