use Rattle.wac_resolution_expressions.proofs.Common.{List, map, subst, err_from_is_err_and, by_name, arguments_from, package_name_of, argument_of, Fails, Numbering, Spreads, spreads_of, SpreadBroken, error_model, rules_of, numbers_of, reports, agrees_nodes, slice_get_within}
use Rattle.wac_ast_statements.specs.declared.expr.InstantiationArgument.{InstantiationArgument}
use Rattle.wac_resolution_expressions.specs.Spreads.{giving_of, imports_at}
use Rattle.wac_resolution_expressions.proofs.Checking.{SpreadsGive, somewhere, wrong_after, spreads_fail, loaded_nodes, imports_named, completes}
use Rattle.wac_resolution_expressions.proofs.completing.complete.Goals as goal

pub check_arguments-requires-clause-agrees : goal.check_arguments-requires-clause-agrees
check_arguments-requires-clause-agrees g c = agrees_nodes c.args.state.now.graph c.spreads.new.state.graph c.args.scope.now.root.now c.in_ok-spreads.ensures.ok.grows c.requires.agrees

pub check_arguments-requires-clause-stand : goal.check_arguments-requires-clause-stand
check_arguments-requires-clause-stand g c =
    let gave = subst (λ (l : List InstantiationArgument). SpreadsGive c.args.state.now.graph c.spreads.new.state.graph (by_name c.args.given.now.entries) (by_name c.spreads.new.given.entries) (numbers_of c.args.scope.now.root.now.nodes) c.args.of.world (arguments_from (map argument_of l)))
    c.deref.ensures.value c.in_ok-spreads.ensures.ok in
    somewhere c.args.state.now.graph c.spreads.new.state.graph (by_name c.args.given.now.entries) (by_name c.spreads.new.given.entries) (numbers_of c.args.scope.now.root.now.nodes) c.args.of.world (arguments_from (map argument_of c.args.new.now.arguments.items)) gave c.requires.stand

pub returns-in_err-spreads-clause-err : goal.returns-in_err-spreads-clause-err
returns-in_err-spreads-clause-err g c =
    let e = error_model c.in_err-spreads.field-0.0 in
    let p = err_from_is_err_and c.from_residual.result c.from_residual.ensures.1 in
    rw (p.1, p.2) (reports c.in_err-spreads.ensures.err (λ err.
    spreads_fail (rules_of g.R.Rules c.args.scope.now.rules.now) c.args.state.now.graph (numbers_of c.args.scope.now.root.now.nodes) c.args.of.world (package_name_of c.args.new.now.«package») (arguments_from (map argument_of c.args.new.now.arguments.items)) (by_name c.args.given.now.entries) e
    (subst (λ (l : List InstantiationArgument). (numbering : Numbering) → Fails (Spreads (imports_at numbering c.args.state.now.graph c.args.of.world)) (SpreadBroken (imports_at numbering c.args.state.now.graph c.args.of.world) e) (giving_of numbering c.args.state.now.graph (numbers_of c.args.scope.now.root.now.nodes) (by_name c.args.given.now.entries)) (spreads_of (arguments_from (map argument_of l)))) c.deref.ensures.value err)))

pub returns-in_err-check_arguments-clause-err : goal.returns-in_err-check_arguments-clause-err
returns-in_err-check_arguments-clause-err g c =
    let gave = subst (λ (l : List InstantiationArgument). SpreadsGive c.args.state.now.graph c.spreads.new.state.graph (by_name c.args.given.now.entries) (by_name c.spreads.new.given.entries) (numbers_of c.args.scope.now.root.now.nodes) c.args.of.world (arguments_from (map argument_of l)))
    c.deref.ensures.value c.in_ok-spreads.ensures.ok in
    let p = err_from_is_err_and c.from_residual-in_err-check_arguments.result c.from_residual-in_err-check_arguments.ensures.1 in
    rw (p.1, p.2) (reports c.in_err-check_arguments.ensures.err (wrong_after c.args.state.now.graph c.spreads.new.state.graph (by_name c.args.given.now.entries) (by_name c.spreads.new.given.entries) (numbers_of c.args.scope.now.root.now.nodes) c.args.of.world (arguments_from (map argument_of c.args.new.now.arguments.items)) gave
    (rules_of g.R.Rules c.args.scope.now.rules.now) (package_name_of c.args.new.now.«package») (error_model c.in_err-check_arguments.field-0.0)))

pub instantiate-requires-clause-held : goal.instantiate-requires-clause-held
instantiate-requires-clause-held g c =
    slice_get_within c.spreads.new.state.graph.packages c.args.of.id.0 c.requires.loaded.0 (loaded_nodes c.args.state.now.graph c.spreads.new.state.graph c.args.of c.requires.loaded.0 c.in_ok-spreads.ensures.ok.grows c.requires.loaded.1)

pub instantiate-requires-clause-imports : goal.instantiate-requires-clause-imports
instantiate-requires-clause-imports g c =
    imports_named (rules_of g.R.Rules c.args.scope.now.rules.now) c.args.state.now.graph c.spreads.new.state.graph c.args.of (by_name c.spreads.new.given.entries) c.in_ok-spreads.ensures.ok.grows c.requires.loaded c.in_ok-check_arguments.ensures.ok.fit

pub returns-clause-ok : goal.returns-clause-ok
returns-clause-ok g c =
    let gave = subst (λ (l : List InstantiationArgument). SpreadsGive c.args.state.now.graph c.spreads.new.state.graph (by_name c.args.given.now.entries) (by_name c.spreads.new.given.entries) (numbers_of c.args.scope.now.root.now.nodes) c.args.of.world (arguments_from (map argument_of l)))
    c.deref.ensures.value c.in_ok-spreads.ensures.ok in
    completes (rules_of g.R.Rules c.args.scope.now.rules.now) c.args.state.now.graph c.spreads.new.state.graph c.instantiate.new.state.graph (by_name c.args.given.now.entries) (by_name c.spreads.new.given.entries)
    (numbers_of c.args.scope.now.root.now.nodes) c.args.of (arguments_from (map argument_of c.args.new.now.arguments.items)) c.in_ok-instantiate.field-0.0 gave c.in_ok-check_arguments.ensures.ok c.in_ok-instantiate.ensures
