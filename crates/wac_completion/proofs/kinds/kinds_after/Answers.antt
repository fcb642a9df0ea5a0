use Rattle.std.proofs.Common.{◌≡◌, sym, ◌∙◌}
use Rattle.std.specs.Prelude.{[]}
use Rattle.wac_completion.proofs.Keeping.{kinds_of_flat}
use Rattle.wac_completion.proofs.kinds.kinds_after.Goals as goal

pub returns-in-None : goal.returns-in-None
returns-in-None c = kinds_of_flat c.args.text.now c.kept.result (λ v. v.items) (sym c.in-None.is ∙ c.too_deep.ensures) c.kept.ensures
