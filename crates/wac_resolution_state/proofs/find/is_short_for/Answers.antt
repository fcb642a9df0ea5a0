use Rattle.wac_resolution_state.proofs.Common.{◌∙◌, ap, bytes_eq}
use Rattle.wac_resolution_state.proofs.Found.{short_last, short_none}
use Rattle.wac_resolution_state.proofs.find.is_short_for.Goals as goal

pub returns-in-Some : goal.returns-in-Some
returns-in-Some c =
    c.eq.ensures ∙ ap (bytes_eq c.args.name.now) c.unversioned_text.ensures
    ∙ short_last c.args.name.now c.args.text.now c.in-Some.last.now c.in-Some.ensures.cases.0 c.in-Some.ensures.cases.1 c.in-Some.ensures.cases.2 c.in-Some.ensures.cases.4

pub returns-in-None : goal.returns-in-None
returns-in-None c = short_none c.args.name.now c.args.text.now c.in-None.ensures.cases
