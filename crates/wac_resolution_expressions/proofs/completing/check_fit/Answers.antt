use Rattle.wac_resolution_expressions.proofs.Common.{map, inr, ◌≡◌, List, subst, by_name, arguments_from, package_name_of, argument_of, Numbering, look_up, error_model, argument_places, rules_of, numbers_of, composed}
use Rattle.wac_ast_statements.specs.declared.expr.InstantiationArgument.{InstantiationArgument}
use Rattle.wac_resolution_expressions.specs.Spreads.{imports_at}
use Rattle.wac_resolution_expressions.proofs.Checking.{misfit_wrong}
use Rattle.wac_resolution_expressions.proofs.completing.check_fit.Goals as goal

pub returns-in_ok-misfitting-in-Some-clause-err : goal.returns-in_ok-misfitting-in-Some-clause-err
returns-in_ok-misfitting-in-Some-clause-err g c =
    let args = c.args.new.now.arguments.items in
    let found = subst (λ (l : List InstantiationArgument). (numbering : Numbering) → look_up c.in-Some.name.now (argument_places (composed numbering c.args.state.now.graph c.args.scope.now.root.now) (imports_at numbering c.args.state.now.graph c.args.world) (arguments_from (map argument_of l))) ≡ c.place-place.result) c.deref.ensures.value c.place-place.ensures in
    inr (misfit_wrong (rules_of g.R.Rules c.args.scope.now.rules.now) c.args.state.now.graph (numbers_of c.args.scope.now.root.now.nodes) c.args.world (package_name_of c.args.new.now.«package») (arguments_from (map argument_of args)) (by_name c.args.given.now.entries)
    c.in-Some.name.now c.place-place.result c.unwrap_or-span.result (error_model c.in_ok-misfitting-in-Some.field-0) c.requires.stand found c.unwrap_or-span.ensures c.in-Some.reason c.in-Some.ensures c.in_ok-misfitting-in-Some.ensures)
