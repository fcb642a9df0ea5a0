use Rattle.wac_declared_packages.proofs.Common.{◌≡◌, ◌∙◌, List, [], subst, Entry, IsGrownBy, MeansTheSame}
use Rattle.wac_declared_packages.proofs.Unmoved.{copied_length, keeps_copied}
use Rattle.wac_declared_packages.proofs.copies.copied_types.Goals as goal

pub returns-clause-means : goal.returns-clause-means
returns-clause-means c =
    let empty : c.reserve.new.self ≡ [] = c.reserve.ensures.same ∙ c.new-types.ensures in
    keeps_copied c.args.from.now c.copy_types.new.types (subst (λ (l : List Entry). MeansTheSame l c.args.from.now c.copy_types.new.types) empty c.in_ok-copy_types.ensures.means)

pub returns-clause-len : goal.returns-clause-len
returns-clause-len c =
    let empty : c.reserve.new.self ≡ [] = c.reserve.ensures.same ∙ c.new-types.ensures in
    copied_length c.args.from.now c.copy_types.new.types (subst (λ (l : List Entry). IsGrownBy l c.args.from.now c.copy_types.new.types) empty c.in_ok-copy_types.ensures.grown)
