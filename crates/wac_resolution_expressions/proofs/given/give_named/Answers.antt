use Rattle.wac_resolution_expressions.proofs.Common.{◌∙◌, by_name, argument_name_span, argument_name_of, name_meant, if_reports}
use Rattle.wac_resolution_expressions.specs.Spreads.{imports_at}
use Rattle.wac_resolution_expressions.proofs.GivingNodes.{given_for}
use Rattle.wac_resolution_expressions.proofs.given.give_named.Goals as goal

pub returns-clause-err : goal.returns-clause-err
returns-clause-err c =
    if_reports _ _
    (λ r. given_for r (by_name c.args.given.now.entries) c.as_str.result.now (λ numbering. name_meant (argument_name_of c.args.name.now) (imports_at numbering c.args.state.now.graph c.args.world)) c.span.result (argument_name_span (argument_name_of c.args.name.now))
    (λ numbering. c.as_str.ensures.value ∙ c.in_ok-import.ensures numbering) c.span.ensures)
    c.give.result c.give.ensures.err
