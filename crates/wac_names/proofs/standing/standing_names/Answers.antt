use Rattle.std.proofs.Common.{◌≡◌, ◌∙◌, List, subst, sym, true}
use Rattle.std.specs.Prelude.{All}
use Rattle.wac_names.specs.declared.found.Found.{Found}
use Rattle.wac_names.specs.LookUps.{look_ups}
use Rattle.wac_names.specs.Places.{same_name}
use Rattle.wac_names.specs.Traced.{traced}
use Rattle.wac_names.proofs.Finding.{are_alike}
use Rattle.wac_names.proofs.standing.standing_names.Goals as goal

pub plain_names-requires : goal.plain_names-requires
plain_names-requires c =
    subst (λ (fs : List Found). All (λ f. same_name c.args.source.now f.at f.bound ≡ true) fs) (sym (c.deref-else-branch.ensures.value ∙ c.in_ok-all.ensures)) (are_alike c.args.source.now (look_ups c.args.own.now (traced c.args.steps.now)))
