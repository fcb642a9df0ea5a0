use Rattle.wac_resolution_expressions.proofs.Common.{◌∙◌, List, ap, Entry, world_imports, look_up}
use Rattle.wac_resolution_expressions.proofs.fits.import_kind.Goals as goal

pub returns-in-Some : goal.returns-in-Some
returns-in-Some c = c.find.ensures ∙ ap (look_up c.args.name.now) (c.in-Some.ensures ∙ ap (λ (es : List Entry). world_imports es c.args.world.0) c.types-types.ensures.types)

pub returns-in-None : goal.returns-in-None
returns-in-None c = ap (look_up c.args.name.now) (c.in-None.ensures ∙ ap (λ (es : List Entry). world_imports es c.args.world.0) c.types-types.ensures.types)
