use Rattle.wac_declared_packages.proofs.Common.{◌≡◌, length}
use Rattle.wac_declared_packages.proofs.Texts.{whole_where}
use Rattle.wac_declared_packages.proofs.ending.first_lacking.Goals as goal

pub returns-then-len-sources : goal.returns-then-len-sources
returns-then-len-sources c =
    let count : length c.args.packages.now.entries ≡ length c.args.sources.now.texts.now = cc in
    whole_where c.args.sources.now.texts.now c.args.packages.now.entries c.first_unmade.result c.first_unmade.ensures count
