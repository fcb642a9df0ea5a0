use Rattle.wac_comments_layout.proofs.Common.{ap, ◌∙◌}
use Rattle.wac_comments_layout.specs.Nesting.{first_among, most}
use Rattle.wac_comments_layout.proofs.Pieced.{deep_is}
use Rattle.wac_comments_layout.proofs.nesting.too_deep_among.Goals as goal

pub returns : goal.returns
returns c = λ source clean is. c.first_among.ensures ∙ ap (first_among most 0) is ∙ deep_is source clean
