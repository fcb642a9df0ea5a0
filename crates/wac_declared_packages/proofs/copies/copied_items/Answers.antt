use Rattle.wac_declared_packages.proofs.Common.{◌≡◌, ℕ, List, subst, IfOk, ItemKind, by_name}
use Rattle.wac_declared_packages.proofs.Unmoved.{items_stay}
use Rattle.wac_declared_packages.proofs.copies.copied_items.Goals as goal

pub returns : goal.returns
returns c =
    subst (λ (ds : List (List ℕ × ItemKind)). IfOk c.copy_items.result (λ items. by_name items.entries ≡ ds)) (items_stay (by_name c.args.from.now.entries)) c.copy_items.ensures
