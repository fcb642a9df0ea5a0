use Rattle.wac_graph.proofs.Common.{◌≡◌, ◌∙◌, None, List, [], ◌∷◌, ◌++◌, sym, subst, ap}
use Rattle.wac_graph.specs.Package.{Key, HeldPackage, key_of, package_keyed}
use Rattle.wac_graph.specs.PackageCopies.{held_under, held_in}
use Rattle.wac_graph.proofs.Keyed.{keyed_last}
use Rattle.wac_graph.proofs.packages.HeldPackages.push.Goals as goal

pub returns-clause-ok : goal.returns-clause-ok
returns-clause-ok c =
    let same = c.in_ok-key.ensures in
    let new : package_keyed (key_of c.in_ok-key.key) (held_in c.self.inside.copies.entries) ≡ None
    = subst (λ (k : Key). package_keyed k (held_in c.self.inside.copies.entries) ≡ None) (sym same) (subst (λ (l : List HeldPackage). package_keyed (key_of c.args.key.now) l ≡ None) (sym c.self.view_is) c.requires) in
    ap held_in c.in_ok-insert.ensures.entries
    ∙ keyed_last c.in_ok-key.key c.args.copy c.self.inside.copies.entries new
    ∙ ap (λ (k : Key). held_in c.self.inside.copies.entries ++ held_under k c.args.copy ∷ []) same
    ∙ ap (λ (l : List HeldPackage). l ++ held_under (key_of c.args.key.now) c.args.copy ∷ []) c.self.view_is
