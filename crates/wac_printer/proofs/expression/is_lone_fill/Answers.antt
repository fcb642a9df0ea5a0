use Rattle.wac_printer.proofs.Common.{ap, ◌∙◌, ◌∷◌}
use Rattle.wac_printer.proofs.Arguments.{lone}
use Rattle.wac_printer.proofs.expression.is_lone_fill.Goals as goal

pub returns-in-Some-Fill-default : goal.returns-in-Some-Fill-default
returns-in-Some-Fill-default c =
    let f = c.in-Some-Fill-default in
    lone c.is_empty.result c.args.arguments.now f.rest.now f.field-0-0-0 (f.ensures.cases.0 ∙ ap (λ y. y ∷ f.rest.now) f.field-0-0-is) c.is_empty.ensures
