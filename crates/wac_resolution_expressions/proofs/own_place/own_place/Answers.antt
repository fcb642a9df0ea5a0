use Rattle.wac_resolution_expressions.proofs.Common.{◌∙◌, ap, argument_of, argument_place, composed}
use Rattle.wac_ast_statements.specs.declared.expr.InstantiationArgument.{InstantiationArgument}
use Rattle.wac_resolution_expressions.specs.Spreads.{imports_at}
use Rattle.wac_resolution_expressions.proofs.own_place.own_place.Goals as goal

pub returns-in-Inferred : goal.returns-in-Inferred
returns-in-Inferred c numbering =
    ap (λ (a : InstantiationArgument). argument_place (composed numbering c.args.state.now.graph c.args.root.now) (imports_at numbering c.args.state.now.graph c.args.world) (argument_of a)) c.in-Inferred.is
    ∙ c.inferred_place.ensures numbering
