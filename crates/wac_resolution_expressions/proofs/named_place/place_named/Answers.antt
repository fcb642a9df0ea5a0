use Rattle.wac_resolution_expressions.proofs.Common.{◌∙◌, ap, look_up}
use Rattle.wac_resolution_expressions.proofs.named_place.place_named.Goals as goal

pub returns-in-Some : goal.returns-in-Some
returns-in-Some c numbering = ap (look_up c.args.name.now) (c.in-Some.ensures numbering) ∙ c.if_named.ensures

pub returns-in-None : goal.returns-in-None
returns-in-None c numbering = ap (look_up c.args.name.now) (c.in-None.ensures numbering)
