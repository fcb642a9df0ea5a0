use Rattle.wac_resolution_statements.proofs.Common.{◌∙◌, List, sym, ap, subst, Entry, ItemKind, world_imports, Named, ItemsNamed, world_imports_named, arguments_of, Reports, error_model, rules_of}
use Rattle.std.proofs.Common.{OnOk, IfErr}
use Rattle.wac_graph.specs.Readings.{held_of}
use Rattle.wac_resolution_statements.specs.Imported.{of_kind, left_open}
use Rattle.wac_resolution_statements.specs.Testing.{testing, AllAllowed, SomeDenied, nowhere}
use Rattle.wac_resolution_statements.proofs.Opens.{held_imports}
use Rattle.wac_resolution_statements.proofs.open.check_instance.Goals as goal

pub check_left_open-requires-clause-named : goal.check_left_open-requires-clause-named
check_left_open-requires-clause-named g c =
    subst (ItemsNamed c.args.state.now.graph.types) (sym (c.in-Some.ensures ∙ ap (λ (es : List Entry). world_imports es c.package-held.result.world.0) c.types-types.ensures.types)) (world_imports_named c.args.state.now.graph.types c.types-types.ensures.entries c.package-held.result.world.0)

pub returns-in-Some-clause-ok : goal.returns-in-Some-clause-ok
returns-in-Some-clause-ok g c = subst (λ (l : Named ItemKind). OnOk c.check_left_open.result (AllAllowed (testing c.args.state.now.graph (rules_of g.R.Rules c.args.rules.now) c.args.target.now) (of_kind c.args.state.now.graph) (left_open (arguments_of c.args.state.now.graph c.args.node.0) l))) (c.in-Some.ensures ∙ ap (λ (es : List Entry). world_imports es c.package-held.result.world.0) c.types-types.ensures.types ∙ sym (held_imports c.args.state.now.graph c.args.«package».0 (held_of c.package-held.result) c.package-held.ensures.found)) c.check_left_open.ensures.ok

pub returns-in-Some-clause-err : goal.returns-in-Some-clause-err
returns-in-Some-clause-err g c = subst (λ (l : Named ItemKind). IfErr c.check_left_open.result (λ e. Reports (error_model e) (SomeDenied (testing c.args.state.now.graph (rules_of g.R.Rules c.args.rules.now) c.args.target.now) (of_kind c.args.state.now.graph) nowhere (left_open (arguments_of c.args.state.now.graph c.args.node.0) l) (error_model e)))) (c.in-Some.ensures ∙ ap (λ (es : List Entry). world_imports es c.package-held.result.world.0) c.types-types.ensures.types ∙ sym (held_imports c.args.state.now.graph c.args.«package».0 (held_of c.package-held.result) c.package-held.ensures.found)) c.check_left_open.ensures.err

pub returns-in-None-clause-ok : goal.returns-in-None-clause-ok
returns-in-None-clause-ok g c = subst (λ (l : Named ItemKind). AllAllowed (testing c.args.state.now.graph (rules_of g.R.Rules c.args.rules.now) c.args.target.now) (of_kind c.args.state.now.graph) (left_open (arguments_of c.args.state.now.graph c.args.node.0) l)) (c.in-None.ensures ∙ ap (λ (es : List Entry). world_imports es c.package-held.result.world.0) c.types-types.ensures.types ∙ sym (held_imports c.args.state.now.graph c.args.«package».0 (held_of c.package-held.result) c.package-held.ensures.found)) tt
