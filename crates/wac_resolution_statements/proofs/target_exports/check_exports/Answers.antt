use Rattle.wac_resolution_statements.proofs.Common.{◌∙◌, List, sym, ap, subst, Entry, ItemKind, by_name, world_exports, Named, ItemsNamed, world_exports_named, Reports, error_model, rules_of}
use Rattle.std.proofs.Common.{OnOk, IfErr}
use Rattle.wac_resolution_statements.specs.Imported.{of_kind}
use Rattle.wac_resolution_statements.specs.Testing.{testing, AllMet, SomeUnmet}
use Rattle.wac_resolution_statements.proofs.target_exports.check_exports.Goals as goal

pub check_each-requires-clause-named : goal.check_each-requires-clause-named
check_each-requires-clause-named g c =
    subst (ItemsNamed c.args.state.now.graph.types) (sym (c.in-Some.ensures ∙ ap (λ (es : List Entry). world_exports es c.args.target.now.world.0) c.types-types.ensures.types)) (world_exports_named c.args.state.now.graph.types c.types-types.ensures.entries c.args.target.now.world.0)

pub returns-in-Some-clause-ok : goal.returns-in-Some-clause-ok
returns-in-Some-clause-ok g c =
    subst (λ (l : Named ItemKind). OnOk c.check_each.result (AllMet (testing c.args.state.now.graph (rules_of g.R.Rules c.args.rules.now) c.args.target.now) (of_kind c.args.state.now.graph) l)) (c.in-Some.ensures ∙ ap (λ (es : List Entry). world_exports es c.args.target.now.world.0) c.types-types.ensures.types) c.check_each.ensures.ok

pub returns-in-Some-clause-err : goal.returns-in-Some-clause-err
returns-in-Some-clause-err g c =
    subst (λ (l : Named ItemKind). IfErr c.check_each.result (λ e. Reports (error_model e) (SomeUnmet (testing c.args.state.now.graph (rules_of g.R.Rules c.args.rules.now) c.args.target.now) (by_name c.args.places.now.entries) (of_kind c.args.state.now.graph) l (error_model e)))) (c.in-Some.ensures ∙ ap (λ (es : List Entry). world_exports es c.args.target.now.world.0) c.types-types.ensures.types)
    c.check_each.ensures.err

pub returns-in-None-clause-ok : goal.returns-in-None-clause-ok
returns-in-None-clause-ok g c = subst (AllMet (testing c.args.state.now.graph (rules_of g.R.Rules c.args.rules.now) c.args.target.now) (of_kind c.args.state.now.graph)) (c.in-None.ensures ∙ ap (λ (es : List Entry). world_exports es c.args.target.now.world.0) c.types-types.ensures.types) tt
